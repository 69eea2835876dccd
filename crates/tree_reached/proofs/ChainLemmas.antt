-- What all steps say together: what is looked at is led to by a way.
use Rattle.std.proofs.Common.{◌≡◌, ℕ, zero, suc, ◌<◌, ◌≤◌, ◌+◌, ◌-◌, ◌↔◌, ◌⊎◌, inl, inr, Bool, true, false, ◌&&◌, IsTrue, List, [], ◌∷◌, ◌++◌, length}
use Rattle.std.proofs.Common.{Option, Some, None, Contains, flat_map, refl, sym, ap, ◌∙◌, subst, append_assoc, append-nil, arith}
use Rattle.std.proofs.lemmas.Bool.{false≢true, lt-ltb}
use Rattle.std.proofs.lemmas.List.{same_from_push}
use Rattle.gta_theory.specs.Assignments.{Position, PositionSet, Assignment, IsFinite, IsFiniteSet, replace}
use Rattle.gta_theory.proofs.AssignmentsLemmas.{replace-same, replace-other}
use Rattle.ws2s_core.specs.declared.track.Track.{Track}
use Rattle.ws2s_core.specs.declared.formula.Formula.{Formula}
use Rattle.ws2s_core.specs.declared.formula.Formula.TheVariants.{And, Ex2}
use Rattle.ws2s_core.specs.Satisfaction.{WSat}
use Rattle.ws2s_core.proofs.SatisfactionLemmas.{WSat-And, WSat-Ex2}
use Rattle.ws2s_core.proofs.TracksLemmas.{Covers-only_below}
use Rattle.ws2s_forms.specs.Forms.{track}
use Rattle.ws2s_forms.specs.Places.{ones, with_position}
use Rattle.ws2s_forms.proofs.LawsLemmas.{decided, IsFinite-position}
use Rattle.store_core.specs.declared.ids.TypeId.{TypeId}
use Rattle.store_core.specs.Tables.{TypeEntry, VarEntry}
use Rattle.store_core.proofs.FittingLemmas.{IsSomeAnd-at}
use Rattle.tree_encode.specs.Tracks.{of_variant, track_count, variant_track}
use Rattle.tree_store.specs.Shapes.{variant_in, IsCellIn}
use Rattle.tree_store.specs.Premises.{OwnersAreThere}
use Rattle.tree_store.proofs.TablesLemmas.{track-few}
use Rattle.tree_reached.specs.declared.ways.Way.{Way}
use Rattle.tree_reached.specs.ByField.{is_looked_at, comes, are_led, is_earlier, led_apart, are_led_by}
use Rattle.tree_reached.proofs.BeginsLemmas.{Begins, KnowsHolders, AgreesOn, IsBefore, IsFurther, IsLookedAt, letter, IsLedOn}
use Rattle.tree_reached.proofs.BeginsLemmas.{AgreesOn-replace, StandsOn-agrees, not_same, looked-same, comes-means, looked-means, are_led-means}
use Rattle.tree_reached.proofs.KeptLemmas.{from-apart, kept-apart}

-- ---- the truth of what is decided

truth : {P : Type 0} → P ⊎ (P → ⊥) → Bool
truth (inl p) = true
truth (inr not_p) = false

truth-yes : {P : Type 0} (d : P ⊎ (P → ⊥)) → IsTrue (truth d) → P
unfolding truth
truth-yes (inl p) h = p
truth-yes (inr not_p) h = absurd (false≢true h)

truth-from : {P : Type 0} (d : P ⊎ (P → ⊥)) → P → IsTrue (truth d)
unfolding truth
truth-from (inl q) p = refl
truth-from (inr not_p) p = absurd (not_p p)

truth-no : {P : Type 0} (d : P ⊎ (P → ⊥)) → (P → ⊥) → truth d ≡ false
unfolding truth
truth-no (inl p) none = absurd (none p)
truth-no (inr not_p) none = refl

both-decided : {P Q : Type 0} → P ⊎ (P → ⊥) → Q ⊎ (Q → ⊥) → (P × (Q → ⊥)) ⊎ ((P × (Q → ⊥)) → ⊥)
both-decided (inl p) (inl q) = inr (λ h. h.1 q)
both-decided (inl p) (inr not_q) = inl (p, not_q)
both-decided (inr not_p) q = inr (λ h. not_p h.0)

-- ---- steps by 1 one after the other

ones-turn : (m : ℕ) (c : Bool) → (ones m ++ true ∷ []) ++ c ∷ [] ≡ ones (suc m) ++ c ∷ []
ones-turn zero c = refl
ones-turn (suc m) c = ap (λ (w : Position). true ∷ w) (ones-turn m c)

turned : (u : Position) (m : ℕ) (c : Bool) → (u ++ (ones m ++ true ∷ [])) ++ c ∷ [] ≡ u ++ (ones (suc m) ++ c ∷ [])
turned u m c = append_assoc u (ones m ++ true ∷ []) (c ∷ []) ∙ ap (λ (w : Position). u ++ w) (ones-turn m c)

longer : (r : Position) (c : Bool) → length r ≤ length (r ++ c ∷ [])
longer [] c = omega arith
longer (d ∷ r) c = omega (arith, longer r c)

-- a track before the next one is before those that follow
IsBefore-more : (o : Option ℕ) (next : ℕ) → IsBefore o next → IsBefore o (suc next)
IsBefore-more None next h = tt
IsBefore-more (Some w) next h = omega (arith, h)

-- ---- what leads to a position

-- a way leads to the position, of which k steps by 1 are done: up to n more from where it begins, and then by the last letter
pub record Led (types : List TypeEntry) (a : Assignment) (ws : List Way) (k n : ℕ) (c : Bool) (p : Position) : Type 0 where
  pub more : ℕ
  pub within : more ≤ n
  pub from : Position
  pub begin : Begins types a ws (k + more) from
  pub is : p ≡ from ++ (ones more ++ c ∷ [])

-- a live cell of the type is so many steps by 1 and one by 0 below the position, and no way to it begins there or between
pub record Owes (types : List TypeEntry) (a : Assignment) (ws : List Way) (ty : TypeId) (k : ℕ) (q : Position) : Type 0 where
  pub live : IsCellIn types a ty (q ++ (ones k ++ false ∷ []))
  pub none : (m : ℕ) → m ≤ k → Begins types a ws m (q ++ ones (k - m)) → ⊥

module _ (types : List TypeEntry) (a : Assignment) (ws : List Way) where
  at-once : (k : ℕ) (r : Position) → Begins types a ws k r → Begins types a ws (k + 0) r
  at-once k r begin = (let e : k ≡ k + 0 = omega arith in subst (λ (m : ℕ). Begins types a ws m r) e begin)

  from-once : (k : ℕ) (r : Position) → Begins types a ws (k + 0) r → Begins types a ws k r
  from-once k r begin = (let e : k + 0 ≡ k = omega arith in subst (λ (m : ℕ). Begins types a ws m r) e begin)

  led-here : (k n : ℕ) (c : Bool) (p r : Position) → p ≡ r ++ c ∷ [] → Begins types a ws k r → Led types a ws k n c p
  led-here k n c p r is begin = record { more = 0; within = omega arith; from = r; begin = at-once k r begin; is = is }

  led-on : (k n : ℕ) (c : Bool) (p r : Position) → p ≡ r ++ c ∷ [] → Led types a ws (suc k) n true r → Led types a ws k (suc n) c p
  led-on k n c p r is led =
      let e : suc k + led.more ≡ k + suc led.more = omega arith in
      record {
        more = suc led.more;
        within = omega (arith, led.within);
        from = led.from;
        begin = subst (λ (m : ℕ). Begins types a ws m led.from) e led.begin;
        is = is ∙ ap (λ (w : Position). w ++ c ∷ []) led.is ∙ turned led.from led.more c;
      }

  -- where no way begins one step up, the way is a longer one
  led-back : (k n m : ℕ) (c : Bool) (r from : Position) → m ≤ suc n → Begins types a ws (k + m) from → r ++ c ∷ [] ≡ from ++ (ones m ++ c ∷ []) →
      (Begins types a ws k r → ⊥) → Led types a ws (suc k) n true r
  led-back k n zero c r from few begin is none =
      let (same, letters) = same_from_push r from c c is in
      absurd (none (subst (λ (q : Position). Begins types a ws k q) (sym same) (from-once k from begin)))
  led-back k n (suc m) c r from few begin is none =
      let e : k + suc m ≡ suc k + m = omega arith in
      let (same, letters) = same_from_push r (from ++ (ones m ++ true ∷ [])) c c (is ∙ sym (turned from m c)) in
      record {
        more = m;
        within = omega (arith, few);
        from = from;
        begin = subst (λ (i : ℕ). Begins types a ws i from) e begin;
        is = same;
      }

  -- without a set for the step
  led-alone : (k m : ℕ) (b : Assignment) (from : Option ℕ) (p r : Position) → m ≤ 0 → Begins types a ws (k + m) r →
      p ≡ r ++ (ones m ++ letter from ∷ []) → IsLedOn types a ws b k from None p
  led-alone k zero b from p r few begin is = (r, is, inr (from-once k r begin))
  led-alone k (suc m) b from p r few begin is = absurd (let none : ⊥ = omega (arith, few) in none)

-- a live cell, where no way begins above it
pub owes-first : (types : List TypeEntry) (a : Assignment) (ws : List Way) (ty : TypeId) (r : Position) → IsCellIn types a ty (r ++ false ∷ []) →
    (Begins types a ws 0 r → ⊥) → Owes types a ws ty 0 r
owes-first types a ws ty r cell none = record {
  live = cell;
  none = λ m few begin.
      let is : m ≡ 0 = omega (arith, few) in
      let all : 0 - m ≡ 0 = omega arith in
      none (subst (λ (i : ℕ). Begins types a ws i r) is
      (subst (Begins types a ws m) (ap (λ (i : ℕ). r ++ ones i) all ∙ append-nil r) begin));
}

-- one step up, where no way begins either
owes-more : (types : List TypeEntry) (a : Assignment) (ws : List Way) (ty : TypeId) (k : ℕ) (r : Position) → Owes types a ws ty k (r ++ true ∷ []) →
    (Begins types a ws (suc k) r → ⊥) → Owes types a ws ty (suc k) r
owes-more types a ws ty k r owes none = record {
  live = subst (IsCellIn types a ty) (append_assoc r (true ∷ []) (ones k ++ false ∷ [])) owes.live;
  none = λ m few begin. by m (suc k - m) refl few begin;
}
  where
    by : (m d : ℕ) → suc k - m ≡ d → m ≤ suc k → Begins types a ws m (r ++ ones (suc k - m)) → ⊥
    by m zero e few begin =
        let is : m ≡ suc k = omega (arith, e, few) in
        none (subst (λ (i : ℕ). Begins types a ws i r) is
        (subst (Begins types a ws m) (ap (λ (i : ℕ). r ++ ones i) e ∙ append-nil r) begin))
    by m (suc d) e few begin =
        let within : m ≤ k = omega (arith, e) in
        let rest : suc d ≡ suc (k - m) = omega (arith, e, within) in
        owes.none m within
        (subst (Begins types a ws m) (ap (λ (i : ℕ). r ++ ones i) (e ∙ rest) ∙ sym (append_assoc r (true ∷ []) (ones (k - m)))) begin)

module _ (types : List TypeEntry) (vars : List VarEntry) (owners : OwnersAreThere types) (a : Assignment) (ws : List Way) (known : KnowsHolders types ws)
    (finite : IsFinite a) (ty : TypeId) where
  -- ---- what is decided, and what is finite

  module _ (b : Assignment) (next : ℕ) (few : track_count types vars ≤ next) (agrees : AgreesOn (track_count types vars) a b) where
    begins-decided : (k : ℕ) (r : Position) → Begins types a ws k r ⊎ (Begins types a ws k r → ⊥)
    begins-decided k r =
        let stands = StandsOn-agrees (track_count types vars) a b next r few agrees in
        let means = comes-means types vars owners a ws known (with_position b next r) next r stands (suc next) k None in
        elim (decided (comes (suc next) types ws k None next) (with_position b next r) (IsFinite-position b next r agrees.finite))
        as (λ _. Begins types a ws k r ⊎ (Begins types a ws k r → ⊥)) [
          | inl holds ↦ elim (means.0 holds) as (λ _. Begins types a ws k r ⊎ (Begins types a ws k r → ⊥)) [
            | inl none ↦ absurd none
            | inr begin ↦ inl begin
          ]
          | inr fails ↦ inr (λ begin. fails (means.1 (inr begin)))
        ]

    looked-decided : (from : Option ℕ) (p : Position) → IsBefore from next →
        IsLookedAt types a b ty from p ⊎ (IsLookedAt types a b ty from p → ⊥)
    looked-decided from p before =
        let means = looked-means types vars owners a ws known ty b next few agrees from p before in
        elim (decided (is_looked_at (suc next) types ty from next) (with_position b next p) (IsFinite-position b next p agrees.finite))
        as (λ _. IsLookedAt types a b ty from p ⊎ (IsLookedAt types a b ty from p → ⊥)) [
          | inl holds ↦ inl (means.0 holds)
          | inr fails ↦ inr (λ seen. fails (means.1 seen))
        ]

    -- no position of that length or longer is looked at
    looked-finite : (from : Option ℕ) → (depth : ℕ) × ((p : Position) → depth ≤ length p → IsLookedAt types a b ty from p → ⊥)
    looked-finite None =
        let (depth, covers) = Covers-only_below (track_count types vars) a finite in (
          depth,
          (λ p deep cell.
              let (t, is, on) = IsSomeAnd-at (variant_track types (variant_in ty cell.index)) (λ (u : Track). IsTrue (a u.0 p)) cell.here in
              let below = track-few types vars (of_variant (variant_in ty cell.index)) t is in
              let off : a t.0 p ≡ false = sym (ap (λ (c : Bool). c && a t.0 p) (lt-ltb t.0 (track_count types vars) below)) ∙ covers t.0 p deep in
              false≢true (sym off ∙ on)),
        )
    looked-finite (Some w) =
        let (depth, within) = agrees.finite w in (depth, (λ p deep on. false≢true (sym (within p deep) ∙ on)))

  -- ---- one step more

  module _ (gs : List ℕ) (n k next : ℕ) (from : Option ℕ) (b : Assignment) (few : track_count types vars ≤ next) (before : IsBefore from next)
      (agrees : AgreesOn (track_count types vars) a b) where
    abbrev rest : Formula
    rest = are_led_by (suc next) types ws gs ty (suc k) n (Some next)

    abbrev step : Formula
    step = are_led (suc next) types ws ty k from (Some next)

    abbrev kept : Formula
    kept = led_apart next k gs step

    inside : (set : PositionSet) → IsFiniteSet set → AgreesOn (track_count types vars) a (replace b next set)
    inside set bounded = AgreesOn-replace (track_count types vars) a b next set few agrees bounded

    one : (set : PositionSet) → IsFiniteSet set → WSat step (replace b next set)
        ↔ ((p : Position) → IsLookedAt types a (replace b next set) ty from p → IsLedOn types a ws (replace b next set) k from (Some next) p)
    one set bounded =
        let more : track_count types vars ≤ suc next = omega (arith, few) in
        let own : next < suc next = omega arith in
        are_led-means types vars owners a ws known ty (replace b next set) (suc next) more (inside set bounded) k from (Some next)
        (IsBefore-more from next before) own

    onwards : (set : PositionSet) → IsFiniteSet set →
        ((p : Position) → IsLookedAt types a (replace b next set) ty (Some next) p → Led types a ws (suc k) n true p) →
        WSat step (replace b next set) → (p : Position) → IsLookedAt types a b ty from p → Led types a ws k (suc n) (letter from) p
    onwards set bounded inner of_step p seen =
        let (r, is, comes) = (one set bounded).0 of_step p ((looked-same types a b ty next set from p before).1 seen) in
        elim comes as (λ _. Led types a ws k (suc n) (letter from) p) [
          | inl in_set ↦ led-on types a ws k n (letter from) p r is (inner r in_set)
          | inr begin ↦ led-here types a ws k (suc n) (letter from) p r is begin
        ]

    -- the set of the step: what the position below is looked at, and no way begins there
    abbrev IsChosen : Position → Type 0
    IsChosen r = IsLookedAt types a b ty from (r ++ letter from ∷ []) × (Begins types a ws k r → ⊥)

    chosen-decided : (r : Position) → IsChosen r ⊎ (IsChosen r → ⊥)
    chosen-decided r = both-decided (looked-decided b next few agrees from (r ++ letter from ∷ []) before) (begins-decided b next few agrees k r)

    chosen : PositionSet
    chosen r = truth (chosen-decided r)

    chosen-finite : IsFiniteSet chosen
    unfolding chosen
    chosen-finite =
        let (depth, none) = looked-finite b next few agrees from in (
          depth,
          (λ r deep. truth-no (chosen-decided r) (λ h. none (r ++ letter from ∷ []) (omega (arith, deep, longer r (letter from))) h.0)),
        )

    in-set : (r : Position) → IsTrue (replace b next chosen next r) ↔ IsChosen r
    unfolding chosen
    in-set r =
        let same = replace-same b next chosen in (
          (λ h. truth-yes (chosen-decided r) (subst (λ (s : PositionSet). IsTrue (s r)) same h)),
          (λ h. subst (λ (s : PositionSet). IsTrue (s r)) (sym same) (truth-from (chosen-decided r) h)),
        )

    -- a position one step up is in the set, or a way begins there
    via : (p : Position) → IsLookedAt types a b ty from p → (r : Position) → p ≡ r ++ letter from ∷ [] →
        IsFurther (replace b next chosen) (Some next) r ⊎ Begins types a ws k r
    via p seen r is =
        elim (begins-decided b next few agrees k r) as (λ _. IsFurther (replace b next chosen) (Some next) r ⊎ Begins types a ws k r) [
          | inl begin ↦ inr begin
          | inr none ↦ inl ((in-set r).1 (subst (λ (q : Position). IsLookedAt types a b ty from q) is seen, none))
        ]

    led-by : (p : Position) → IsLookedAt types a b ty from p → (m : ℕ) (r : Position) → Begins types a ws (k + m) r →
        p ≡ r ++ (ones m ++ letter from ∷ []) → IsLedOn types a ws (replace b next chosen) k from (Some next) p
    led-by p seen zero r begin is = (r, is, inr (from-once types a ws k r begin))
    led-by p seen (suc m) r begin is =
        let up = is ∙ sym (turned r m (letter from)) in
        (r ++ (ones m ++ true ∷ []), up, via p seen (r ++ (ones m ++ true ∷ [])) up)

    -- what is looked at next is led to, and this step is as it should be
    chosen-led : ((p : Position) → IsLookedAt types a b ty from p → Led types a ws k (suc n) (letter from) p) →
        (p : Position) → IsLookedAt types a (replace b next chosen) ty (Some next) p → Led types a ws (suc k) n true p
    chosen-led h r on =
        let (seen, none) = (in-set r).0 on in
        let led = h (r ++ letter from ∷ []) seen in
        led-back types a ws k n led.more (letter from) r led.from led.within led.begin led.is none

    chosen-step : ((p : Position) → IsLookedAt types a b ty from p → Led types a ws k (suc n) (letter from) p) → WSat step (replace b next chosen)
    chosen-step h = (one chosen chosen-finite).1 (λ p on.
        let seen = (looked-same types a b ty next chosen from p before).0 on in
        let led = h p seen in
        led-by p seen led.more led.from led.begin led.is)

    -- ---- what the sets of the steps so far owe

    module _ (fits : k ≤ next)
        (held : (gap : ℕ) → 1 ≤ gap → gap ≤ k → (q : Position) → IsTrue (b (next - gap) q) → Owes types a ws ty (k - gap) q)
        (looks : (r : Position) → IsLookedAt types a b ty from (r ++ letter from ∷ []) → (Begins types a ws k r → ⊥) → Owes types a ws ty k r)
        (never : (j m gap : ℕ) (q : Position) → Contains gs gap → m ≡ j + gap → Owes types a ws ty j q → Owes types a ws ty m q → ⊥) where
      chosen-owes : (q : Position) → IsTrue (replace b next chosen next q) → Owes types a ws ty k q
      chosen-owes q on = let (seen, none) = (in-set q).0 on in looks q seen none

      earlier-owes : (gap : ℕ) → gap ≤ k → (q : Position) → IsTrue (replace b next chosen (next - gap) q) → Owes types a ws ty (k - gap) q
      earlier-owes zero few_gap q on =
          let at : next - 0 ≡ next = omega arith in
          let so_many : k ≡ k - 0 = omega arith in
          subst (λ (m : ℕ). Owes types a ws ty m q) so_many
          (chosen-owes q (subst (λ (t : ℕ). IsTrue (replace b next chosen t q)) at on))
      earlier-owes (suc g) few_gap q on =
          let below : next - suc g < next = omega (arith, few_gap, fits) in
          let some : 1 ≤ suc g = omega arith in
          held (suc g) some few_gap q
          (subst (λ (set : PositionSet). IsTrue (set q)) (replace-other b next (next - suc g) chosen (not_same (next - suc g) next below)) on)

      chosen-kept : ((p : Position) → IsLookedAt types a b ty from p → Led types a ws k (suc n) (letter from) p) → WSat kept (replace b next chosen)
      chosen-kept h =
          kept-apart next (replace b next chosen) (inside chosen chosen-finite).finite k gs step fits (chosen-step h) (λ q on gap listed few_gap earlier.
          let sum : k ≡ (k - gap) + gap = omega (arith, few_gap) in
          never (k - gap) k gap q listed sum (earlier-owes gap few_gap q earlier) (chosen-owes q on))

      held-next : (gap : ℕ) → 1 ≤ gap → gap ≤ suc k → (q : Position) → IsTrue (replace b next chosen (suc next - gap) q) →
          Owes types a ws ty (suc k - gap) q
      held-next zero some few_gap q on = absurd (let no : ⊥ = omega (arith, some) in no)
      held-next (suc g) some few_gap q on =
          let at : suc next - suc g ≡ next - g = omega arith in
          let so_many : k - g ≡ suc k - suc g = omega arith in
          let within : g ≤ k = omega (arith, few_gap) in
          subst (λ (m : ℕ). Owes types a ws ty m q) so_many
          (earlier-owes g within q (subst (λ (t : ℕ). IsTrue (replace b next chosen t q)) at on))

      looks-next : (r : Position) → IsLookedAt types a (replace b next chosen) ty (Some next) (r ++ true ∷ []) → (Begins types a ws (suc k) r → ⊥) →
          Owes types a ws ty (suc k) r
      looks-next r on none = owes-more types a ws ty k r (chosen-owes (r ++ true ∷ []) on) none

  -- ---- all steps

  pub by-sound : (gs : List ℕ) (n k next : ℕ) (from : Option ℕ) (b : Assignment) → track_count types vars ≤ next → IsBefore from next →
      AgreesOn (track_count types vars) a b → WSat (are_led_by next types ws gs ty k n from) b →
      (p : Position) → IsLookedAt types a b ty from p → Led types a ws k n (letter from) p
  by-sound gs zero k next from b few before agrees h p seen =
      let one = are_led-means types vars owners a ws known ty b next few agrees k from None before tt in
      let (r, is, comes) = one.0 h p seen in
      elim comes as (λ _. Led types a ws k zero (letter from) p) [
        | inl none ↦ absurd none
        | inr begin ↦ led-here types a ws k zero (letter from) p r is begin
      ]
  by-sound gs (suc n) k next from b few before agrees h p seen =
      let others = rest gs n k next from b few before agrees in
      let own : next < suc next = omega arith in
      let more : track_count types vars ≤ suc next = omega (arith, few) in
      let this = step gs n k next from b few before agrees in
      let (set, bounded, sat) = (WSat-Ex2 (track next) (And others (led_apart next k gs this)) b).0 h in
      let both = (WSat-And others (led_apart next k gs this) (replace b next set)).0 sat in
      onwards gs n k next from b few before agrees set bounded
      (by-sound gs n (suc k) (suc next) (Some next) (replace b next set) more own (inside gs n k next from b few before agrees set bounded) both.0)
      (from-apart next (flat_map (is_earlier next (suc next) k) gs) this (replace b next set) both.1) p seen

  pub by-complete : (gs : List ℕ) →
      ((j m gap : ℕ) (q : Position) → Contains gs gap → m ≡ j + gap → Owes types a ws ty j q → Owes types a ws ty m q → ⊥) →
      (n k next : ℕ) (from : Option ℕ) (b : Assignment) → track_count types vars ≤ next → IsBefore from next →
      AgreesOn (track_count types vars) a b → k ≤ next →
      ((gap : ℕ) → 1 ≤ gap → gap ≤ k → (q : Position) → IsTrue (b (next - gap) q) → Owes types a ws ty (k - gap) q) →
      ((r : Position) → IsLookedAt types a b ty from (r ++ letter from ∷ []) → (Begins types a ws k r → ⊥) → Owes types a ws ty k r) →
      ((p : Position) → IsLookedAt types a b ty from p → Led types a ws k n (letter from) p) → WSat (are_led_by next types ws gs ty k n from) b
  by-complete gs never zero k next from b few before agrees fits held looks h =
      let one = are_led-means types vars owners a ws known ty b next few agrees k from None before tt in
      one.1 (λ p seen.
      let led = h p seen in
      led-alone types a ws k led.more b from p led.from led.within led.begin led.is)
  by-complete gs never (suc n) k next from b few before agrees fits held looks h =
      let others = rest gs n k next from b few before agrees in
      let own : next < suc next = omega arith in
      let more : track_count types vars ≤ suc next = omega (arith, few) in
      let this = step gs n k next from b few before agrees in
      let set = chosen gs n k next from b few before agrees in
      let bounded = chosen-finite gs n k next from b few before agrees in
      let fits_on : suc k ≤ suc next = omega (arith, fits) in
      (WSat-Ex2 (track next) (And others (led_apart next k gs this)) b).1 (
        set,
        bounded,
        (WSat-And others (led_apart next k gs this) (replace b next set)).1 (
          by-complete gs never n (suc k) (suc next) (Some next) (replace b next set) more own
              (inside gs n k next from b few before agrees set bounded) fits_on
              (held-next gs n k next from b few before agrees fits held looks never)
              (looks-next gs n k next from b few before agrees fits held looks never)
              (chosen-led gs n k next from b few before agrees h),
          chosen-kept gs n k next from b few before agrees fits held looks never h,
        ),
      )
