-- Guards of two ways, and what stands for variables after both.
use Rattle.std.proofs.Common.{◌≡◌, ◌↔◌, inl, inr, ℕ, zero, suc, ◌<◌, Bool, true, false, cond, eqb-true, IsTrue, IfSome, List, [], ◌∷◌, ◌++◌, length, slice_get}
use Rattle.std.proofs.Common.{Some, None, All, refl, sym, ap, ◌∙◌, subst, arith, append_assoc}
use Rattle.std.proofs.lemmas.Bool.{false≢true}
use Rattle.std.proofs.lemmas.List.{length-append}
use Rattle.std.proofs.lemmas.List.Elements.{All-nil, All-cons, All-head, All-tail}
use Rattle.gta_theory.specs.Assignments.{PositionSet, Assignment, IsFinite, IsOnly}
use Rattle.ws2s_core.specs.declared.formula.Formula.TheVariants.{And, Not, Root}
use Rattle.ws2s_core.specs.Satisfaction.{WSat}
use Rattle.ws2s_core.proofs.SatisfactionLemmas.{WSat-And, WSat-Not, WSat-Root}
use Rattle.ws2s_forms.specs.Forms.{track, empty_at, flag}
use Rattle.ws2s_forms.proofs.GoingLemmas.{WSat-flag}
use Rattle.ws2s_forms.proofs.LawsLemmas.{law-empty, law-equal, law-or}
use Rattle.store_core.specs.declared.value.Value.{Value}
use Rattle.store_core.specs.declared.value.Value.TheVariants as value
use Rattle.store_core.specs.Tables.{TypeEntry, VarEntry}
use Rattle.graph_view.specs.declared.view.Sym.{Sym}
use Rattle.graph_view.specs.declared.view.Sym.TheVariants.{Null, At}
use Rattle.graph_view.specs.Syms.{is_same}
use Rattle.graph_view.specs.After.{Standing, StandsFor, IsTaken, IsGuard, IsSymBelow}
use Rattle.site_list.specs.States.{Text, State, next_track, define, is_truth_of}
use Rattle.site_list.specs.Codes.{is_sym, is_merged, Merging, behind, merged}
use Rattle.triple_meaning.specs.Sites.Seeing.{HasRoom, AreDefined, with_more}
use Rattle.triple_meaning.proofs.sites.PlacesLemmas.{All-left, All-right}
use Rattle.triple_meaning.proofs.sites.StatesLemmas.{more-none}

-- ---- a track that is the root exactly where this holds

pub way-told : (next : ℕ) (a : Assignment) (text : Text) (n : ℕ) → IsFinite a → n < next → WSat (is_truth_of text n next) a →
    (IsTaken a (Some (track n)) ↔ WSat (text next) a) × IsGuard a (Some (track n))
way-told next a text n finite less defined =
    elim ((law-or (And (Root (track n)) (text next)) (And (empty_at next n) (Not (text next))) a finite).0 defined)
    as (λ _. (IsTaken a (Some (track n)) ↔ WSat (text next) a) × IsGuard a (Some (track n))) [
      | inl holds ↦ (
          let both = (WSat-And (Root (track n)) (text next) a).0 holds in
          let root = (WSat-Root (track n) a).0 both.0 in
          (((λ h. both.1), (λ h. (root []).1 refl)), (λ p h. (root p).0 h)))
      | inr lacks ↦ (
          let both = (WSat-And (empty_at next n) (Not (text next)) a).0 lacks in
          let none = (law-empty next n a less).0 both.0 in (
            (
              (λ h. absurd (false≢true (sym (none []) ∙ h))),
              (λ h. absurd ((WSat-Not (text next) a).0 both.1 h)),
            ),
            (λ p h. absurd (false≢true (sym (none p) ∙ h))),
          ))
    ]

-- ---- values that are the same

pub same-stands : (next : ℕ) (a : Assignment) (at : Standing) (m : ℕ) (u : Sym) (x : Value) → m < next → WSat (is_same next (At (track m)) u) a →
    StandsFor a at u x → StandsFor a at (At (track m)) x
same-stands next a at m Null (value.Bool b) less same stands = absurd stands
same-stands next a at m Null (value.Cell None) less same stands = (law-empty next m a less).0 same
same-stands next a at m Null (value.Cell (Some c)) less same stands = absurd stands
same-stands next a at m Null (value.Cells cells) less same stands = absurd stands
same-stands next a at m (At y) x less same stands = by x stands
  where
    sets : a m ≡ a y.0
    sets = λ i p. (law-equal m y.0 a).0 same p i

    by : (z : Value) → StandsFor a at (At y) z → StandsFor a at (At (track m)) z
    by (value.Bool true) h = subst (λ (set : PositionSet). IsOnly set []) (sym sets) h
    by (value.Bool false) h = λ p. ap (λ (set : PositionSet). set p) sets ∙ h p
    by (value.Cell None) h = λ p. ap (λ (set : PositionSet). set p) sets ∙ h p
    by (value.Cell (Some c)) h = let (p, only, here) = h in (p, subst (λ (set : PositionSet). IsOnly set p) (sym sets) only, here)
    by (value.Cells cells) h = record {
      each = λ p. (
        (λ on. (h.each p).0 (subst (λ (set : PositionSet). IsTrue (set p)) sets on)),
        (λ found. subst (λ (set : PositionSet). IsTrue (set p)) (sym sets) ((h.each p).1 found)),
      );
      all = h.all;
    }

-- symbols that are one
sym-same : (u w : Sym) → is_sym u w ≡ true → u ≡ w
sym-same Null Null e = refl
sym-same Null (At y) e = absurd (false≢true e)
sym-same (At x) Null e = absurd (false≢true e)
sym-same (At x) (At y) e = let number = eqb-true x.0 y.0 e in (λ i. At (record { 0 = number i }))

module _ (types : List TypeEntry) (vars : List VarEntry) (h : ℕ) where
  abbrev merged_track : State → ℕ
  merged_track s = next_track types vars s

  -- one value merged, by whether the two are one
  abbrev step : Sym → List Sym → Sym → List Sym → State → Bool → Merging
  step u us w ws s b = cond b (behind u (merged types vars h us ws s))
      (behind (At (track (merged_track s))) (merged types vars h us ws (define (is_merged h u w (merged_track s)) s)))

  -- ---- tracks that merging makes

  abbrev pub merged-texts : List Sym → List Sym → State → List Text
  merged-texts [] others s = []
  merged-texts (u ∷ us) [] s = []
  merged-texts (u ∷ us) (w ∷ ws) s =
      cond (is_sym u w) (merged-texts us ws s)
      (is_merged h u w (merged_track s) ∷ merged-texts us ws (define (is_merged h u w (merged_track s)) s))

  pub merged-is : (us ws : List Sym) (s : State) → (merged types vars h us ws s).1 ≡ with_more (merged-texts us ws s) [] s
  merged-is [] ws s = more-none s
  merged-is (u ∷ us) [] s = more-none s
  merged-is (u ∷ us) (w ∷ ws) s =
      by (is_sym u w) (merged-is us ws s) (merged-is us ws (define (is_merged h u w (merged_track s)) s))
    where
      by : (b : Bool) → (merged types vars h us ws s).1 ≡ with_more (merged-texts us ws s) [] s →
          (merged types vars h us ws (define (is_merged h u w (merged_track s)) s)).1
          ≡ with_more (merged-texts us ws (define (is_merged h u w (merged_track s)) s)) [] (define (is_merged h u w (merged_track s)) s) →
          (step u us w ws s b).1
          ≡ with_more (cond b (merged-texts us ws s)
          (is_merged h u w (merged_track s) ∷ merged-texts us ws (define (is_merged h u w (merged_track s)) s))) [] s
      by true one other = one
      by false one other =
          other
          ∙ (λ i. record s {
            defined = append_assoc s.defined (is_merged h u w (merged_track s) ∷ [])
                (merged-texts us ws (define (is_merged h u w (merged_track s)) s)) i;
            checks = s.checks ++ [];
          })

  -- as many values as before
  pub merged-count : (us ws : List Sym) (s : State) → length us ≡ length ws → length ((merged types vars h us ws s).0) ≡ length us
  merged-count [] ws s same = refl
  merged-count (u ∷ us) [] s same = absurd (omega (arith, same))
  merged-count (u ∷ us) (w ∷ ws) s same =
      by (is_sym u w) (merged-count us ws s (omega (arith, same)))
      (merged-count us ws (define (is_merged h u w (merged_track s)) s) (omega (arith, same)))
    where
      by : (b : Bool) → length ((merged types vars h us ws s).0) ≡ length us →
          length ((merged types vars h us ws (define (is_merged h u w (merged_track s)) s)).0) ≡ length us → length ((step u us w ws s b).0) ≡ suc (length us)
      by true one other = ap suc one
      by false one other = ap suc other

  -- the track of the first value that is merged has room, where what is made behind it has
  merged-room : (next : ℕ) (u w : Sym) (us ws : List Sym) (s : State) →
      HasRoom types vars next ((merged types vars h us ws (define (is_merged h u w (merged_track s)) s)).1) → merged_track s < next
  merged-room next u w us ws s room =
      let text : Text = is_merged h u w (merged_track s) in
      let is = subst (HasRoom types vars next) (merged-is us ws (define (is_merged h u w (merged_track s)) s)) room in
      let one = length-append s.defined (is_merged h u w (merged_track s) ∷ []) in
      let more = length-append (s.defined ++ is_merged h u w (merged_track s) ∷ []) (merged-texts us ws (define (is_merged h u w (merged_track s)) s)) in
      omega (arith, is, one, more)

  pub merged-below : (next : ℕ) (us ws : List Sym) (s : State) → HasRoom types vars next ((merged types vars h us ws s).1) →
      All (IsSymBelow next) us → All (IsSymBelow next) ((merged types vars h us ws s).0)
  merged-below next [] ws s room below = All-nil (IsSymBelow next)
  merged-below next (u ∷ us) [] s room below = All-nil (IsSymBelow next)
  merged-below next (u ∷ us) (w ∷ ws) s room below =
      by (is_sym u w) room (λ space. merged-below next us ws s space (All-tail (IsSymBelow next) u us below))
      (λ space. merged-below next us ws (define (is_merged h u w (merged_track s)) s) space (All-tail (IsSymBelow next) u us below))
    where
      by : (b : Bool) → HasRoom types vars next ((step u us w ws s b).1) →
          (HasRoom types vars next ((merged types vars h us ws s).1) → All (IsSymBelow next) ((merged types vars h us ws s).0)) →
          (HasRoom types vars next ((merged types vars h us ws (define (is_merged h u w (merged_track s)) s)).1) →
          All (IsSymBelow next) ((merged types vars h us ws (define (is_merged h u w (merged_track s)) s)).0)) →
          All (IsSymBelow next) ((step u us w ws s b).0)
      by true space one other =
          All-cons (IsSymBelow next) u ((merged types vars h us ws s).0) (All-head (IsSymBelow next) u us below) (one space)
      by false space one other =
          All-cons (IsSymBelow next) (At (track (merged_track s))) ((merged types vars h us ws (define (is_merged h u w (merged_track s)) s)).0)
          (merged-room next u w us ws s space) (other space)

  -- ---- what the merged values stand for

  module _ (next : ℕ) (a : Assignment) (finite : IsFinite a) (less : h < next) where
    -- the track has the value of the way that was gone
    chosen : (u w : Sym) (m : ℕ) → WSat (is_merged h u w m next) a →
        (IsTaken a (Some (track h)) → WSat (is_same next (At (track m)) u) a) × ((IsTaken a (Some (track h)) → ⊥) → WSat (is_same next (At (track m)) w) a)
    chosen u w m defined =
        let flags = WSat-flag next h a less in
        elim ((law-or (And (flag next h) (is_same next (At (track m)) u)) (And (Not (flag next h)) (is_same next (At (track m)) w)) a finite).0 defined)
        as (λ _. (IsTaken a (Some (track h)) → WSat (is_same next (At (track m)) u) a)
        × ((IsTaken a (Some (track h)) → ⊥) → WSat (is_same next (At (track m)) w) a)) [
          | inl holds ↦ (
              let both = (WSat-And (flag next h) (is_same next (At (track m)) u) a).0 holds in
              ((λ taken. both.1), (λ passed. absurd (passed (flags.0 both.0)))))
          | inr lacks ↦ (
              let both = (WSat-And (Not (flag next h)) (is_same next (At (track m)) w) a).0 lacks in
              ((λ taken. absurd ((WSat-Not (flag next h) a).0 both.0 (flags.1 taken))), (λ passed. both.1)))
        ]

    -- what is so of values, and of all tracks with the same positions
    abbrev Carries : (Sym → Type 0) → Type 0
    Carries So = (m : ℕ) (u : Sym) → m < next → WSat (is_same next (At (track m)) u) a → So u → So (At (track m))

    first-defined : (u w : Sym) (us ws : List Sym) (s : State) →
        AreDefined next a ((merged types vars h us ws (define (is_merged h u w (merged_track s)) s)).1) → WSat (is_merged h u w (merged_track s) next) a
    first-defined u w us ws s defined =
        let is = subst (λ (z : State). AreDefined next a z) (merged-is us ws (define (is_merged h u w (merged_track s)) s)) defined in
        let front = All-left (λ (text : Text). WSat (text next) a) (s.defined ++ is_merged h u w (merged_track s) ∷ [])
        (merged-texts us ws (define (is_merged h u w (merged_track s)) s)) is in
        All-head (λ (text : Text). WSat (text next) a) (is_merged h u w (merged_track s)) []
        (All-right (λ (text : Text). WSat (text next) a) s.defined (is_merged h u w (merged_track s) ∷ []) front)

    -- one value after the other, whichever way was gone
    module _ (So : Sym → Type 0) (carries : Carries So) where
      pub merged-first : IsTaken a (Some (track h)) → (us ws : List Sym) (s : State) (i : ℕ) → length us ≡ length ws →
          HasRoom types vars next ((merged types vars h us ws s).1) → AreDefined next a ((merged types vars h us ws s).1) → IfSome (slice_get us i) So →
          IfSome (slice_get ((merged types vars h us ws s).0) i) So
      merged-first taken [] ws s i same room defined so = so
      merged-first taken (u ∷ us) [] s i same room defined so = absurd (omega (arith, same))
      merged-first taken (u ∷ us) (w ∷ ws) s i same room defined so =
          by (is_sym u w) i room defined so (λ k space all is. merged-first taken us ws s k (omega (arith, same)) space all is)
          (λ k space all is. merged-first taken us ws (define (is_merged h u w (merged_track s)) s) k (omega (arith, same)) space all is)
        where
          by : (b : Bool) (k : ℕ) → HasRoom types vars next ((step u us w ws s b).1) → AreDefined next a ((step u us w ws s b).1) →
              IfSome (slice_get (u ∷ us) k) So →
              ((j : ℕ) → HasRoom types vars next ((merged types vars h us ws s).1) → AreDefined next a ((merged types vars h us ws s).1) →
              IfSome (slice_get us j) So → IfSome (slice_get ((merged types vars h us ws s).0) j) So) →
              ((j : ℕ) → HasRoom types vars next ((merged types vars h us ws (define (is_merged h u w (merged_track s)) s)).1) →
              AreDefined next a ((merged types vars h us ws (define (is_merged h u w (merged_track s)) s)).1) → IfSome (slice_get us j) So →
              IfSome (slice_get ((merged types vars h us ws (define (is_merged h u w (merged_track s)) s)).0) j) So) →
              IfSome (slice_get ((step u us w ws s b).0) k) So
          by true zero space all is one other = is
          by true (suc k) space all is one other = one k space all is
          by false zero space all is one other =
              carries (merged_track s) u (merged-room next u w us ws s space)
              ((chosen u w (merged_track s) (first-defined u w us ws s all)).0 taken) is
          by false (suc k) space all is one other = other k space all is

      pub merged-other : (IsTaken a (Some (track h)) → ⊥) → (us ws : List Sym) (s : State) (i : ℕ) → length us ≡ length ws →
          HasRoom types vars next ((merged types vars h us ws s).1) → AreDefined next a ((merged types vars h us ws s).1) → IfSome (slice_get ws i) So →
          IfSome (slice_get ((merged types vars h us ws s).0) i) So
      merged-other passed [] [] s i same room defined so = so
      merged-other passed [] (w ∷ ws) s i same room defined so = absurd (omega (arith, same))
      merged-other passed (u ∷ us) [] s i same room defined so = absurd (omega (arith, same))
      merged-other passed (u ∷ us) (w ∷ ws) s i same room defined so =
          by (is_sym u w) refl i room defined so (λ k space all is. merged-other passed us ws s k (omega (arith, same)) space all is)
          (λ k space all is. merged-other passed us ws (define (is_merged h u w (merged_track s)) s) k (omega (arith, same)) space all is)
        where
          by : (b : Bool) → is_sym u w ≡ b → (k : ℕ) → HasRoom types vars next ((step u us w ws s b).1) → AreDefined next a ((step u us w ws s b).1) →
              IfSome (slice_get (w ∷ ws) k) So →
              ((j : ℕ) → HasRoom types vars next ((merged types vars h us ws s).1) → AreDefined next a ((merged types vars h us ws s).1) →
              IfSome (slice_get ws j) So → IfSome (slice_get ((merged types vars h us ws s).0) j) So) →
              ((j : ℕ) → HasRoom types vars next ((merged types vars h us ws (define (is_merged h u w (merged_track s)) s)).1) →
              AreDefined next a ((merged types vars h us ws (define (is_merged h u w (merged_track s)) s)).1) → IfSome (slice_get ws j) So →
              IfSome (slice_get ((merged types vars h us ws (define (is_merged h u w (merged_track s)) s)).0) j) So) →
              IfSome (slice_get ((step u us w ws s b).0) k) So
          by true same_sym zero space all is one other = subst So (sym (sym-same u w same_sym)) is
          by true same_sym (suc k) space all is one other = one k space all is
          by false same_sym zero space all is one other =
              carries (merged_track s) w (merged-room next u w us ws s space)
              ((chosen u w (merged_track s) (first-defined u w us ws s all)).1 passed) is
          by false same_sym (suc k) space all is one other = other k space all is
