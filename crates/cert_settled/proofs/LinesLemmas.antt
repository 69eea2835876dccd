-- Lines that tell settled states, one after the other.
use Rattle.std.proofs.Common.{◌≡◌, ◌⊎◌, inl, inr, ℕ, zero, suc, ◌+◌, ◌<◌, List, [], ◌∷◌, ◌++◌, length, map, take, drop}
use Rattle.std.proofs.Common.{Contains, Some, None, slice_get, get_or, refl, ap, sym, ◌∙◌, subst, arith}
use Rattle.std.proofs.Common.{length-append, length-take, append_assoc, take-append-drop, append-nil}
use Rattle.std.proofs.Common.{Result, Ok, Err, IfErr}
use Rattle.std.specs.Result.{IsErrAnd}
use Rattle.std.proofs.lemmas.Bool.{cases_lt}
use Rattle.std.proofs.lemmas.List.{take_more, map_push, map-append, length-map}
use Rattle.std.proofs.lemmas.List.Elements.{Contains-get_or, Contains-append_left}
use Rattle.std.proofs.lemmas.Option.{slice_get_within, slice_get-get_or, get_or_from_slice_get}
use Rattle.gta_theory.specs.Guides.{Spaces, IsSpace, left, right}
use Rattle.gta_theory.specs.Automata.{Automaton}
use Rattle.gta_theory.proofs.ListsLemmas.{Contains-none, Contains-map}
use Rattle.gta_theory.proofs.ListedLemmas.{slice_get-front}
use Rattle.cert_text.specs.declared.line.StartLine.{StartLine}
use Rattle.cert_text.specs.declared.line.SettleLine.{SettleLine}
use Rattle.cert_theory.specs.Tables.{PlacedState, Lists, IsStepBefore, IsSettledList}
use Rattle.cert_nodes.proofs.WalksLemmas.{push-cases}
use Rattle.cert_tables.proofs.TestsLemmas.{same-some}
use Rattle.cert_settled.specs.declared.lines.SettleFault.{SettleFault}
use Rattle.cert_settled.specs.declared.lines.SettleFault.TheVariants as fault
use Rattle.cert_settled.specs.Settling.{alone}
use Rattle.cert_settled.specs.Settled.{start_state, settle_state, told_states, IsStart, AreStarts, HasStarts, SettlesNew, AreSettles, AreSettling}
use Rattle.cert_settled.specs.Settled.{IsFirstFault, IsStartFault, IsSettleFault}
use Rattle.cert_settled.proofs.StepsLemmas.{at-most-alone}
use Rattle.cert_settled.proofs.StatesLemmas.{places-same}

none-some : {X : Type 0} (x : X) → None ≡ Some x → ⊥
none-some x e = cc

-- one element more of those that were looked at
pub next-take : {X : Type 0} (xs : List X) (i : ℕ) (x : X) → slice_get xs i ≡ Some x → take (i + 1) xs ≡ take i xs ++ x ∷ []
next-take {X} xs i x at =
    take_more xs i x (slice_get_within xs i x at) ∙ ap (λ (y : X). take i xs ++ y ∷ []) (get_or_from_slice_get xs i x x at)

-- ---- start lines

-- what the first start lines tell
pub record AreStarted (g : Spaces) (A : Automaton ℕ) (starts : List StartLine) (states : List PlacedState) (i : ℕ) : Type 0 where
  pub told : states ≡ map start_state (take i starts)
  pub right : AreStarts g A starts i
  pub below : (s q : ℕ) → Lists states s q → s < i

module _ (g : Spaces) (A : Automaton ℕ) (starts : List StartLine) where
  pub started-none : (states : List PlacedState) → states ≡ [] → AreStarted g A starts states 0
  started-none states none = record {
    told = none;
    right = λ k line below at. absurd (omega (arith, below));
    below = λ s q listed. absurd (Contains-none (record { space = s; state = q })
        (subst (λ (list : List PlacedState). Lists list s q) none listed));
  }

  -- the next one's state isn't there
  pub started-new : (states : List PlacedState) (i : ℕ) (line : StartLine) → AreStarted g A starts states i → IsStart g A i line →
      Lists states line.space line.state → ⊥
  started-new states i line are is listed =
      let under = are.below line.space line.state listed in
      let names = is.names in
      omega (arith, under, names)

  starts-next : (i : ℕ) (line : StartLine) → AreStarts g A starts i → slice_get starts i ≡ Some line → IsStart g A i line →
      AreStarts g A starts (i + 1)
  starts-next i line before at is k other below at_k = elim (cases_lt k i) as (λ _. IsStart g A k other) [
    | inl earlier ↦ before k other earlier at_k
    | inr from ↦
        let e : i ≡ k = omega (arith, from, below) in
        let same : line ≡ other = same-some line other (sym at ∙ ap (λ (n : ℕ). slice_get starts n) e ∙ at_k) in
        subst (λ (n : ℕ). IsStart g A n other) e (subst (IsStart g A i) same is)
  ]

  pub started-next : (states new : List PlacedState) (i : ℕ) (line : StartLine) → AreStarted g A starts states i → slice_get starts i ≡ Some line →
      IsStart g A i line → new ≡ states ++ start_state line ∷ [] → AreStarted g A starts new (i + 1)
  started-next states new i line are at is grown = record {
    told = grown
        ∙ ap (λ (list : List PlacedState). list ++ start_state line ∷ []) are.told
        ∙ sym (map_push start_state (take i starts) line)
        ∙ sym (ap (map start_state) (next-take starts i line at));
    right = starts-next i line are.right at is;
    below = λ s q listed.
        elim (push-cases states (start_state line) (record { space = s; state = q }) (subst (λ (list : List PlacedState). Lists list s q) grown listed))
        as (λ _. s < i + 1) [
          | inl before ↦ (let under = are.below s q before in omega (arith, under))
          | inr here ↦
              let names = is.names in
              let same : line.space ≡ s = ap (λ (p : PlacedState). p.space) here in
              omega (arith, names, same)
        ];
  }

-- ---- settle lines

-- what the first settle lines tell, behind these states
pub record AreSettled (g : Spaces) (A : Automaton ℕ) (t : ℕ) (list : List PlacedState) (lines : List SettleLine) (states : List PlacedState) (i : ℕ) :
    Type 0 where
  pub told : states ≡ list ++ map settle_state (take i lines)
  pub right : AreSettles g A t list lines i

module _ (g : Spaces) (A : Automaton ℕ) (t : ℕ) (list : List PlacedState) (lines : List SettleLine) where
  settles-next : (i : ℕ) (line : SettleLine) → AreSettles g A t list lines i → slice_get lines i ≡ Some line →
      SettlesNew g A t (list ++ map settle_state (take i lines)) line → AreSettles g A t list lines (i + 1)
  settles-next i line before at is k other below at_k =
      elim (cases_lt k i) as (λ _. SettlesNew g A t (list ++ map settle_state (take k lines)) other) [
        | inl earlier ↦ before k other earlier at_k
        | inr from ↦
            let e : i ≡ k = omega (arith, from, below) in
            let same : line ≡ other = same-some line other (sym at ∙ ap (λ (n : ℕ). slice_get lines n) e ∙ at_k) in
            subst (λ (n : ℕ). SettlesNew g A t (list ++ map settle_state (take n lines)) other) e
            (subst (SettlesNew g A t (list ++ map settle_state (take i lines))) same is)
      ]

  pub settled-next : (states new : List PlacedState) (i : ℕ) (line : SettleLine) → AreSettled g A t list lines states i → slice_get lines i ≡ Some line →
      SettlesNew g A t states line → new ≡ states ++ settle_state line ∷ [] → AreSettled g A t list lines new (i + 1)
  settled-next states new i line are at is grown = record {
    told = grown
        ∙ ap (λ (so_far : List PlacedState). so_far ++ settle_state line ∷ []) are.told
        ∙ append_assoc list (map settle_state (take i lines)) (settle_state line ∷ [])
        ∙ ap (λ (later : List PlacedState). list ++ later)
        (sym (map_push settle_state (take i lines) line) ∙ sym (ap (map settle_state) (next-take lines i line at)));
    right = settles-next i line are.right at (subst (λ (so_far : List PlacedState). SettlesNew g A t so_far line) are.told is);
  }

  pub settled-none : AreSettled g A t list lines list 0
  settled-none = record {
    told = sym (append-nil list);
    right = λ k line below at. absurd (omega (arith, below));
  }

-- ---- the first fault

pub start-fault : (g : Spaces) (A : Automaton ℕ) (t : ℕ) (starts : List StartLine) (lines : List SettleLine) (f : SettleFault) → IsStartFault g A starts f →
    IsFirstFault g A t starts lines f
start-fault g A t starts lines (fault.Start k) is = is
start-fault g A t starts lines (fault.Settle k) is = absurd is
start-fault g A t starts lines fault.Open is = absurd is
start-fault g A t starts lines fault.NoMemory is = tt

pub settle-fault : (g : Spaces) (A : Automaton ℕ) (t : ℕ) (starts : List StartLine) (lines : List SettleLine) (f : SettleFault) → HasStarts g A starts →
    IsSettleFault g A t (map start_state starts) lines f → IsFirstFault g A t starts lines f
settle-fault g A t starts lines (fault.Start k) has is = absurd is
settle-fault g A t starts lines (fault.Settle k) has is = (has, is.0, is.1)
settle-fault g A t starts lines fault.Open has is = absurd is
settle-fault g A t starts lines fault.NoMemory has is = tt

-- a fault that a call hands on
pub handed-on : {T : Type 0} (P : SettleFault → Type 0) (r : Result T SettleFault) (f : SettleFault) → IsErrAnd r (λ e. e ≡ f) → P f → IfErr r P
handed-on P (Ok x) f is holds = absurd is
handed-on P (Err e) f is holds = subst P (sym is) holds

-- ---- right lines tell a list of settled states

got-mapped : {X Y : Type 0} (f : X → Y) (xs : List X) (k : ℕ) (y : Y) → slice_get (map f xs) k ≡ Some y →
    (x : X) × (slice_get xs k ≡ Some x) × (f x ≡ y)
got-mapped f [] k y e = absurd (none-some y e)
got-mapped f (x ∷ xs) zero y e = (x, refl, same-some (f x) y e)
got-mapped f (x ∷ xs) (suc k) y e = got-mapped f xs k y e

got-appended : {X : Type 0} (xs ys : List X) (k : ℕ) (y : X) → slice_get (xs ++ ys) k ≡ Some y →
    (slice_get xs k ≡ Some y) ⊎ ((j : ℕ) × (k ≡ length xs + j) × (slice_get ys j ≡ Some y))
got-appended [] ys k y e = inr (k, omega arith, e)
got-appended (x ∷ xs) ys zero y e = inl e
got-appended (x ∷ xs) ys (suc k) y e =
    elim (got-appended xs ys k y e)
    as (λ _. (slice_get (x ∷ xs) (suc k) ≡ Some y) ⊎ ((j : ℕ) × (suc k ≡ length (x ∷ xs) + j) × (slice_get ys j ≡ Some y))) [
      | inl h ↦ inl h
      | inr h ↦ (let far = h.1 in inr (h.0, omega (arith, far), h.2))
    ]

got : {X : Type 0} (xs : List X) (x : X) (listed : Contains xs x) → slice_get xs listed.0 ≡ Some x
got {X} xs x listed = slice_get-get_or xs listed.0 x listed.1 ∙ ap (λ (y : X). Some y) listed.2

module _ (starts : List StartLine) (settles : List SettleLine) where
  -- the states of the first j settle lines stand before those of the later ones
  told-split : (j : ℕ) → told_states starts settles ≡ (map start_state starts ++ map settle_state (take j settles)) ++ map settle_state (drop j settles)
  told-split j =
      ap (λ (ls : List SettleLine). map start_state starts ++ map settle_state ls) (sym (take-append-drop j settles))
      ∙ ap (λ (ps : List PlacedState). map start_state starts ++ ps) (map-append settle_state (take j settles) (drop j settles))
      ∙ sym (append_assoc (map start_state starts) (map settle_state (take j settles)) (map settle_state (drop j settles)))

  told-before : (j : ℕ) (p : PlacedState) → Contains (map start_state starts ++ map settle_state (take j settles)) p →
      (first : ℕ) × (first < length starts + j) × (slice_get (told_states starts settles) first ≡ Some p)
  told-before j p listed =
      let front = map start_state starts ++ map settle_state (take j settles) in
      let rest = map settle_state (drop j settles) in
      let inside = listed.1 in
      let all = length-append (map start_state starts) (map settle_state (take j settles)) in
      let one = length-map starts start_state in
      let two = length-map (take j settles) settle_state in
      let taken = length-take j settles in (
        listed.0,
        omega (arith, inside, all, one, two, taken),
        ap (λ (ps : List PlacedState). slice_get ps listed.0) (told-split j)
            ∙ slice_get-front front rest listed.0 inside ∙ got front p listed,
      )

module _ (g : Spaces) (A : Automaton ℕ) (t : ℕ) (starts : List StartLine) (settles : List SettleLine) (are : AreSettling g A t starts settles) where
  start-initial : (k s q : ℕ) → slice_get (map start_state starts) k ≡ Some (record { space = s; state = q }) → IsSpace g s × (A.initial s ≡ q)
  start-initial k s q at =
      let line = got-mapped start_state starts k (record { space = s; state = q }) at in
      let is = are.has_starts.right k line.0 (slice_get_within starts k line.0 line.1) line.1 in
      let space : k ≡ s = sym is.names ∙ ap (λ (p : PlacedState). p.space) line.2 in (
        subst (IsSpace g) space is.in_space,
        ap A.initial (sym space) ∙ sym is.is_initial ∙ ap (λ (p : PlacedState). p.state) line.2,
      )

  settle-step : (k j s q : ℕ) → k ≡ length (map start_state starts) + j →
      slice_get (map settle_state settles) j ≡ Some (record { space = s; state = q }) →
      IsSpace g s × IsStepBefore g A t (told_states starts settles) k s q
  settle-step k j s q place at =
      let line = got-mapped settle_state settles j (record { space = s; state = q }) at in
      let h = (are.right j line.0 (slice_get_within settles j line.0 line.1) line.1).settles in
      let space : line.0.space ≡ s = ap (λ (p : PlacedState). p.space) line.2 in
      let first = told-before starts settles j (record { space = left g line.0.space; state = line.0.left }) h.has_left in
      let second = told-before starts settles j (record { space = right g line.0.space; state = line.0.right }) h.has_right in
      let one = length-map starts start_state in
      let under = first.1 in
      let under_too = second.1 in (
        subst (IsSpace g) space h.in_space,
        record {
          first = first.0;
          second = second.0;
          p = line.0.left;
          r = line.0.right;
          label = alone t line.0.has_bound;
          first_before = omega (arith, under, place, one);
          second_before = omega (arith, under_too, place, one);
          is_first = subst (λ (n : ℕ). slice_get (told_states starts settles) first.0 ≡ Some (record { space = left g n; state = line.0.left })) space first.2;
          is_second = subst (λ (n : ℕ). slice_get (told_states starts settles) second.0 ≡ Some (record { space = right g n; state = line.0.right }))
              space second.2;
          at_most = at-most-alone t line.0.has_bound;
          is_step = ap (λ (n : ℕ). A.step n line.0.left line.0.right (alone t line.0.has_bound)) (sym space)
              ∙ h.is_step ∙ ap (λ (p : PlacedState). p.state) line.2;
        },
      )

  start-listed : (s : ℕ) → IsSpace g s → Lists (told_states starts settles) s (A.initial s)
  start-listed s inside =
      let within : s < length starts = (let all = are.has_starts.all in omega (arith, inside, all)) in
      let none : StartLine = record { space = 0; state = 0 } in
      let line = get_or starts s none in
      let is = are.has_starts.right s line within (slice_get-get_or starts s none within) in
      let made = places-same (start_state line) (record { space = s; state = A.initial s }) is.names is.is_initial in
      Contains-append_left (map start_state starts) (map settle_state settles) (record { space = s; state = A.initial s })
      (subst (Contains (map start_state starts)) made (Contains-map start_state starts line (Contains-get_or starts s none within)))

  pub settling-settled : IsSettledList g A t (told_states starts settles)
  settling-settled = record {
    from_before = λ k s q at.
        elim (got-appended (map start_state starts) (map settle_state settles) k (record { space = s; state = q }) at)
        as (λ _. IsSpace g s × ((A.initial s ≡ q) ⊎ IsStepBefore g A t (told_states starts settles) k s q)) [
          | inl front ↦ (let h = start-initial k s q front in (h.0, inl h.1))
          | inr back ↦ (let h = settle-step k back.0 s q back.1 back.2 in (h.0, inr h.1))
        ];
    initial = start-listed;
    closed = λ s p q label inside at_most in_left in_right. are.closed s inside p q label at_most in_left in_right;
  }
