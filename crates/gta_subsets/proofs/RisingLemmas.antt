-- The initial sets rise, and while they do, fewer states are left that they don't have.
use Rattle.std.proofs.Common.{◌≡◌, ℕ, zero, suc, ◌<◌, ◌≤◌, Bool, true, false, if◌then◌else◌, List, [], ◌∷◌, length, Option, Some, None}
use Rattle.std.proofs.Common.{Contains, slice_get, refl, sym, ◌∙◌, ap, ap₂, subst, inl, inr, arith, ◌⊎◌}
use Rattle.std.specs.Prelude.{unwrap_or}
use Rattle.std.proofs.lemmas.Bool.{false≢true, cases_lt, cases_eq, ltb-true}
use Rattle.std.proofs.lemmas.Option.{slice_get_within}
use Rattle.labels.specs.Labels.{empty_label}
use Rattle.bdd_nodes.specs.Shelf.{Contents}
use Rattle.gta_theory.specs.Guides.{Spaces, IsSpace, left, right}
use Rattle.gta_theory.specs.Automata.{Automaton}
use Rattle.gta_theory.specs.Constructions.{IsStepOf}
use Rattle.gta_theory.proofs.ListsLemmas.{Contains-none}
use Rattle.gta_core.specs.Auto.{AutoView, states_of, automaton_of, IsAuto}
use Rattle.bdd_walk.specs.Sets.{has_state}
use Rattle.bdd_walk.proofs.SetsLemmas.{sets-same, has_state-true, Contains-has_state}
use Rattle.gta_subsets.specs.Closing.{set_at, AreNext, Includes, AreRising, absent, absent_in}
use Rattle.gta_subsets.proofs.ClosingLemmas.{get-index, AreSettled-none, AreSettled-next, settled-at, settled-below}

-- what was in a set is in it still
bit-fewer : (a b : Bool) → (a ≡ true → b ≡ true) → (if b then 0 else 1) ≤ (if a then 0 else 1)
bit-fewer true true kept = omega arith
bit-fewer true false kept = absurd (false≢true (kept refl))
bit-fewer false true kept = omega arith
bit-fewer false false kept = omega arith

bit-same : (a b : Bool) → (if a then 0 else 1) ≤ (if b then 0 else 1) → b ≡ true → a ≡ true
bit-same true b less is = refl
bit-same false true less is = absurd (omega arith)
bit-same false false less is = is

module _ (old new : List ℕ) (kept : (q : ℕ) → has_state old q ≡ true → has_state new q ≡ true) where
  absent-fewer : (n : ℕ) → absent new n ≤ absent old n
  unfolding absent
  absent-fewer zero = omega arith
  absent-fewer (suc n) = let here = bit-fewer (has_state old n) (has_state new n) (kept n) in let others = absent-fewer n in omega arith

  absent-same : (n : ℕ) → absent old n ≤ absent new n → (q : ℕ) → q < n → has_state new q ≡ true → has_state old q ≡ true
  unfolding absent
  absent-same zero no_fewer q below is = absurd (omega arith)
  absent-same (suc n) no_fewer q below is =
      let here = bit-fewer (has_state old n) (has_state new n) (kept n) in
      let others = absent-fewer n in
      elim (cases_eq q n) [
        | inl same ↦ ap (has_state old) same ∙ bit-same (has_state old n) (has_state new n) (omega arith) (ap (has_state new) (sym same) ∙ is)
        | inr other ↦ absent-same n (omega arith) q (omega arith) is
      ]

module _ (many : ℕ → ℕ) (old new : List (List ℕ)) (includes : Includes old new) where
  kept-at : (s q : ℕ) → has_state (set_at old s) q ≡ true → has_state (set_at new s) q ≡ true
  kept-at s q is = has_state-true (set_at new s) q (includes s q (Contains-has_state (set_at old s) q is))

  absent_in-fewer : (n : ℕ) → absent_in many new n ≤ absent_in many old n
  unfolding absent_in
  absent_in-fewer zero = omega arith
  absent_in-fewer (suc s) =
      let here = absent-fewer (set_at old s) (set_at new s) (kept-at s) (many s) in let others = absent_in-fewer s in omega arith

  absent_in-same : (n : ℕ) → absent_in many old n ≤ absent_in many new n → (s q : ℕ) → s < n → q < many s →
      Contains (set_at new s) q → Contains (set_at old s) q
  unfolding absent_in
  absent_in-same zero no_fewer s q below small there = absurd (omega arith)
  absent_in-same (suc n) no_fewer s q below small there =
      let here = absent-fewer (set_at old n) (set_at new n) (kept-at n) (many n) in
      let others = absent_in-fewer n in
      elim (cases_eq s n) [
        | inl same ↦
            let small_n : q < many n = subst (λ (k : ℕ). q < many k) same small in
            let there_n = subst (λ (k : ℕ). Contains (set_at new k) q) same there in
            subst (λ (k : ℕ). Contains (set_at old k) q) (sym same) (Contains-has_state (set_at old n) q
            (absent-same (set_at old n) (set_at new n) (kept-at n) (many n) (omega arith) q small_n (has_state-true (set_at new n) q there_n)))
        | inr other ↦ absent_in-same n (omega arith) s q (omega arith) small there
      ]

-- lists with the same elements are the same
list-same : {X : Type 0} (xs ys : List X) → ((k : ℕ) → slice_get xs k ≡ slice_get ys k) → xs ≡ ys
list-same [] [] at = refl
list-same [] (y ∷ ys) at = absurd (let e = at 0 in cc)
list-same (x ∷ xs) [] at = absurd (let e = at 0 in cc)
list-same (x ∷ xs) (y ∷ ys) at = ap₂ (λ z zs. z ∷ zs) (let e = at 0 in cc) (list-same xs ys (λ k. at (suc k)))

get-past : {X : Type 0} (xs : List X) (k : ℕ) → length xs ≤ k → slice_get xs k ≡ None
get-past [] k past = refl
get-past (x ∷ xs) zero past = absurd (omega arith)
get-past (x ∷ xs) (suc k) past = get-past xs k (omega arith)

-- the space of what is in a set has one
set-there : (sets : List (List ℕ)) (s q : ℕ) → Contains (set_at sets s) q → (states : List ℕ) × (slice_get sets s ≡ Some states) × Contains states q
set-there sets s q there = pick (slice_get sets s) refl there
  where
    pick : (o : Option (List ℕ)) → slice_get sets s ≡ o → Contains (unwrap_or o []) q →
        (states : List ℕ) × (slice_get sets s ≡ Some states) × Contains states q
    pick None is there = absurd (Contains-none q there)
    pick (Some states) is there = (states, is, there)

module _ (g : Spaces) (A : Automaton ℕ) (t : ℕ) where
  Comes : List (List ℕ) → ℕ → ℕ → Type 0
  Comes before s q = (A.initial s ≡ q) ⊎ IsStepOf A t s (Contains (set_at before (left g s))) (Contains (set_at before (right g s))) empty_label q

  comes : (before after : List (List ℕ)) → AreNext g A t before after → (s q : ℕ) → Contains (set_at after s) q → Comes before s q
  unfolding Comes
  comes before after next s q there =
      let states = set-there after s q there in
      ((next.each s states.0 states.1).members q).0 states.2

  has : (before after : List (List ℕ)) → AreNext g A t before after → (s q : ℕ) → IsSpace g s → Comes before s q → Contains (set_at after s) q
  unfolding Comes
  has before after next s q inside of =
      let states = get-index after s (let m = next.many in omega arith) in
      subst (λ (o : Option (List ℕ)). Contains (unwrap_or o []) q) (sym states.1) (((next.each s states.0 states.1).members q).1 of)

  still : (before after : List (List ℕ)) → Includes before after → (s q : ℕ) → Comes before s q → Comes after s q
  unfolding Comes
  still before after includes s q (inl same) = inl same
  still before after includes s q (inr step) = inr (record {
    left = step.left;
    right = step.right;
    bit = step.bit;
    in_left = includes (left g s) step.left step.in_left;
    in_right = includes (right g s) step.right step.in_right;
    is_step = step.is_step;
  })

  pub AreRising-none : AreRising g A t []
  AreRising-none = record {
    settled = AreSettled-none g A t;
    many = omega arith;
    set = λ s states is. absurd (let e : ◌≡◌ {A = Option (List ℕ)} None (Some states) = is in cc);
    rises = λ after next s q there. absurd (Contains-none q there);
  }

  pub AreRising-next : (before after : List (List ℕ)) → AreRising g A t before → AreNext g A t before after → AreRising g A t after
  AreRising-next before after rising next = record {
    settled = AreSettled-next g A t before after rising.settled next;
    many = let m = next.many in omega arith;
    set = λ s states is. (next.each s states is).set;
    rises = λ later next_after s q there.
        let states = set-there after s q there in
        let within = slice_get_within after s states.0 states.1 in
        let m = next.many in
        has after later next_after s q (omega arith) (still before after (rising.rises after next) s q (comes before after next s q there));
  }

  module _ (before after : List (List ℕ)) (rising : AreRising g A t before) (next : AreNext g A t before after)
      (back : (s q : ℕ) → IsSpace g s → Contains (set_at after s) q → Contains (set_at before s) q) where
    same-at : (s : ℕ) → IsSpace g s → slice_get after s ≡ slice_get before s
    unfolding Comes
    same-at s inside =
        let states = get-index after s (let m = next.many in omega arith) in
        let was = set-there before s (A.initial s) (back s (A.initial s) inside (has before after next s (A.initial s) inside (inl refl))) in
        let same : states.0 ≡ was.0 = sets-same states.0 was.0 (next.each s states.0 states.1).set (rising.set s was.0 was.1)
        (λ q there. subst (λ (o : Option (List ℕ)). Contains (unwrap_or o []) q) was.1
        (back s q inside (subst (λ (o : Option (List ℕ)). Contains (unwrap_or o []) q) (sym states.1) there)))
        (λ q there. subst (λ (o : Option (List ℕ)). Contains (unwrap_or o []) q) states.1
        (rising.rises after next s q (subst (λ (o : Option (List ℕ)). Contains (unwrap_or o []) q) (sym was.1) there))) in
        states.1 ∙ ap (λ (set : List ℕ). Some set) same ∙ sym was.1

    sets-end : after ≡ before
    sets-end = list-same after before (λ s. elim (cases_lt s (length g)) [
      | inl inside ↦ same-at s inside
      | inr past ↦ get-past after s (let m = next.many in omega arith) ∙ sym (get-past before s (let m = rising.many in omega arith))
    ])

-- unless the sets are the same, fewer states are left
pub absent-falls : (g : Spaces) (shelf : Contents) (a : AutoView) → IsAuto g shelf a → (t : ℕ) (before after : List (List ℕ)) →
    AreRising g (automaton_of shelf a) t before → AreNext g (automaton_of shelf a) t before after → (after ≡ before → ⊥) →
    absent_in (states_of a) after (length g) < absent_in (states_of a) before (length g)
absent-falls g shelf a auto t before after rising next apart =
    let A = automaton_of shelf a in
    let many = states_of a in
    let includes = rising.rises after next in
    let settled = AreSettled-next g A t before after rising.settled next in
    elim (cases_lt (absent_in many after (length g)) (absent_in many before (length g))) [
      | inl fewer ↦ fewer
      | inr no_fewer ↦ absurd (apart (sets-end g A t before after rising next (λ s q inside there.
          absent_in-same many before after includes (length g) no_fewer s q inside
          (ltb-true q (many s) (settled-below g shelf a auto t s q (settled-at g A t after settled s q there))) there)))
    ]
