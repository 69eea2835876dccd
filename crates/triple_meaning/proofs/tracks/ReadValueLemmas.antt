-- The value of a track that is made for what is read: the cells that the field names at those of a value.
use Rattle.std.proofs.Common.{◌≡◌, ◌≢◌, ◌↔◌, ◌⊎◌, inl, inr, ℕ, suc, ◌<◌, ◌≤◌, Bool, true, false, cond, eqb, IsTrue, List, length, refl, sym, ◌∙◌, subst, arith}
use Rattle.std.proofs.lemmas.Bool.{false≢true}
use Rattle.gta_theory.specs.Assignments.{Position, PositionSet, Assignment, IsFinite, IsFiniteSet, replace}
use Rattle.gta_theory.proofs.AssignmentsLemmas.{replace-same, replace-other}
use Rattle.ws2s_core.specs.declared.formula.Formula.{Formula}
use Rattle.ws2s_core.specs.declared.formula.Formula.TheVariants.{Sub, And}
use Rattle.ws2s_core.specs.Satisfaction.{WSat}
use Rattle.ws2s_core.specs.Tracks.{IsFree}
use Rattle.ws2s_core.proofs.SatisfactionLemmas.{WSat-And}
use Rattle.ws2s_core.proofs.TracksLemmas.{WSat-free}
use Rattle.ws2s_theory.proofs.ContextsLemmas.{IsFinite-replace}
use Rattle.ws2s_forms.specs.Forms.{track, iff, ex1}
use Rattle.ws2s_forms.specs.Places.{just, with_position}
use Rattle.ws2s_forms.proofs.LawsLemmas.{decided, law-ex1, law-all1, law-iff, law-member, IsFinite-position}
use Rattle.store_core.specs.declared.ids.FieldId.{FieldId}
use Rattle.store_core.specs.Tables.{TypeEntry, VarEntry}
use Rattle.tree_encode.specs.Tracks.{track_count}
use Rattle.graph_view.specs.declared.view.Sym.{Sym}
use Rattle.graph_view.specs.declared.view.Event.{Event}
use Rattle.graph_view.specs.Syms.{is_in}
use Rattle.graph_view.specs.Routes.{names}
use Rattle.graph_view.specs.After.{IsSymBelow, AreEventsBelow}
use Rattle.graph_meaning.proofs.live.AgreeingLemmas.{Agrees-itself, Agrees-bound, IsOnly-bound, IsOnly-still}
use Rattle.site_list.specs.Reading.{is_read}
use Rattle.triple_meaning.specs.Tracks.Defining.{IsDefining}
use Rattle.triple_meaning.proofs.tracks.ClearLemmas.{above, below, later, IsClear, clear-unfree, clear-Sub, clear-And, clear-ex1, clear-all1, clear-iff}
use Rattle.triple_meaning.proofs.tracks.SightClearLemmas.{clear-is_in, IsSightBelow}
use Rattle.triple_meaning.proofs.tracks.RouteClearLemmas.{names-clear}
use Rattle.triple_meaning.proofs.tracks.SightMeaningLemmas.{whole}
use Rattle.triple_meaning.proofs.tracks.ShortLemmas.{some-depth, names-short}
use Rattle.triple_meaning.proofs.tracks.ValuesLemmas.{IsSteady, defining}
use Rattle.triple_meaning.proofs.tracks.BelowLemmas.{sym-later, events-later}

-- ---- sets by a test

-- what was decided, as a test
pub test_of : {P : Type 0} → P ⊎ (P → ⊥) → Bool
test_of (inl h) = true
test_of (inr h) = false

pub test-true : {P : Type 0} (d : P ⊎ (P → ⊥)) → IsTrue (test_of d) ↔ P
unfolding test_of
test-true (inl h) = ((λ k. h), (λ k. refl))
test-true (inr h) = ((λ k. absurd (false≢true k)), (λ k. absurd (h k)))

pub false-where : (t : Bool) → (IsTrue t → ⊥) → t ≡ false
false-where true h = absurd (h refl)
false-where false h = refl

-- another set on one track, below one where the other stands
pub commuting : (b : Assignment) (n next x : ℕ) (set other : PositionSet) → x ≢ n → replace (replace b n set) next other x ≡ replace b next other x
commuting b n next x set other no_x = λ i p. cond (eqb x next) (other p) (replace-other b n x set no_x i p)

-- ---- what is read

module _ (types : List TypeEntry) (vars : List VarEntry) (slots n : ℕ) (few : track_count types vars ≤ n) (some : 0 < n) (f : FieldId) (u : Sym)
    (events : List Event) (under : IsSymBelow n u) (past : AreEventsBelow n events) where
  -- the field names the cell on the next track at a cell of the value
  abbrev is_named : ℕ → Formula
  is_named next = ex1 (suc next) (And (is_in (suc (suc next)) (suc next) u) (names types (whole slots events) (suc (suc next)) f (suc next) next))

  named-clear : (next t : ℕ) → n ≤ t → t < next → IsClear t (is_named next)
  named-clear next t from less =
      let positive : 0 < t = omega (arith, some, from) in
      let room : track_count types vars ≤ t = omega (arith, few, from) in
      let sight_below : IsSightBelow t (whole slots events) = record { region = refl; events = events-later n t events from past } in
      let bound = above t (suc next) (later t next less) in
      let behind = later t (suc next) (later t next less) in
      clear-ex1 t (suc next) (And (is_in (suc (suc next)) (suc next) u) (names types (whole slots events) (suc (suc next)) f (suc next) next))
      (later t next less)
      (clear-And t (is_in (suc (suc next)) (suc next) u) (names types (whole slots events) (suc (suc next)) f (suc next) next)
      (clear-is_in t (suc (suc next)) (suc next) u behind bound (sym-later n t u from under))
      (names-clear types vars t room positive (whole slots events) sight_below (suc (suc next)) f (suc next) next behind bound (above t next less)))

  read-steady : IsSteady (suc n) (is_read types (whole slots events) f u n)
  read-steady next t from less =
      let no_n = below t n (omega (arith, from)) in
      clear-all1 t next (iff (Sub (track next) (track n)) (is_named next)) less
      (clear-iff t (Sub (track next) (track n)) (is_named next) (clear-Sub t (track next) (track n) (above t next less) no_n)
      (named-clear next t (omega (arith, from)) less))

  module _ (next : ℕ) (b : Assignment) (less : n < next) (finite : IsFinite b) where
    named_set : PositionSet
    named_set p = test_of (decided (is_named next) (with_position b next p) (IsFinite-position b next p finite))

    on-named : (p : Position) → IsTrue (named_set p) ↔ WSat (is_named next) (with_position b next p)
    unfolding named_set
    on-named p = test-true (decided (is_named next) (with_position b next p) (IsFinite-position b next p finite))

    named-finite : IsFiniteSet named_set
    named-finite =
        let (depth, short, made) = some-depth n slots b events finite in (
          depth,
          λ p deep. false-where (named_set p) (λ on.
              let (w, holds) = (law-ex1 (suc next)
              (And (is_in (suc (suc next)) (suc next) u) (names types (whole slots events) (suc (suc next)) f (suc next) next)) (with_position b next p)).0
              ((on-named p).0 on) in
              let c = with_position (with_position b next p) (suc next) w in
              let first = Agrees-bound n b b next p (Agrees-itself n b finite) (omega (arith, less)) in
              let agrees = Agrees-bound n b (with_position b next p) (suc next) w first (omega (arith, less)) in
              let named = (WSat-And (is_in (suc (suc next)) (suc next) u) (names types (whole slots events) (suc (suc next)) f (suc next) next) c).0 holds in
              let only = IsOnly-still (with_position b next p) (suc next) next w p (omega arith) (IsOnly-bound b next p) in
              let so : length p < depth =
              names-short types vars slots n few some b depth short c agrees (suc (suc next)) next p (omega (arith, less)) (omega arith) only f (suc next)
              events past
              named.1 in
              let k : ⊥ = omega (arith, so, deep) in k),
        )

    -- the formula doesn't look at the track itself
    named-same : (p : Position) → WSat (is_named next) (with_position b next p) ↔ WSat (is_named next) (with_position (replace b n named_set) next p)
    named-same p =
        WSat-free (is_named next) (with_position b next p) (with_position (replace b n named_set) next p) (λ x free.
        sym (commuting b n next x named_set (just p) (λ e.
        clear-unfree n (is_named next) (named-clear next n (omega arith) less) (subst (λ z. IsFree z (is_named next)) e free))))

    on-track : (p : Position) → WSat (Sub (track next) (track n)) (with_position (replace b n named_set) next p) ↔ IsTrue (named_set p)
    on-track p =
        let c = with_position (replace b n named_set) next p in
        let member = law-member next n c p (IsOnly-bound (replace b n named_set) next p) in
        let same : c n ≡ named_set = replace-other (replace b n named_set) next n (just p) (λ e. let k : ⊥ = omega (arith, e, less) in k)
        ∙ replace-same b n named_set in (
          (λ h. subst (λ (s : PositionSet). IsTrue (s p)) same (member.0 h)),
          (λ h. member.1 (subst (λ (s : PositionSet). IsTrue (s p)) (sym same) h)),
        )

    read-found : (set : PositionSet) × IsFiniteSet set × WSat (is_read types (whole slots events) f u n next) (replace b n set)
    read-found = (
      named_set,
      named-finite,
      (law-all1 next (iff (Sub (track next) (track n)) (is_named next)) (replace b n named_set) (IsFinite-replace b n named_set finite named-finite)).1 (λ p.
          let c = with_position (replace b n named_set) next p in
          let c_finite = IsFinite-position (replace b n named_set) next p (IsFinite-replace b n named_set finite named-finite) in
          (law-iff (Sub (track next) (track n)) (is_named next) c c_finite).1 (
            (λ h. (named-same p).0 ((on-named p).0 ((on-track p).0 h))),
            (λ h. (on-track p).1 ((on-named p).1 ((named-same p).1 h))),
          )),
    )

  pub read-defining : IsDefining n (is_read types (whole slots events) f u n)
  read-defining = defining n (is_read types (whole slots events) f u n) read-steady (λ next b less finite. read-found next b less finite)
