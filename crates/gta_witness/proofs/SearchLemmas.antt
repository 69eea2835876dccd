-- On what a search has found: a weight is put in, and a goal is settled.
use Rattle.std.proofs.Common.{◌≡◌, ℕ, ◌+◌, ◌<◌, ◌≤◌, Bool, true, false, List, [], ◌∷◌, Option, Some, inl, inr, ◌⊎◌}
use Rattle.std.proofs.Common.{refl, sym, ap, ap₂, subst, ◌∙◌, arith, eqb-true, eq-eqb}
use Rattle.std.specs.Ordering.{on, nat_cmp}
use Rattle.std.specs.BinaryHeap.{heap_items, IsHeap}
use Rattle.std.specs.List.Sorted.{IsPermutation}
use Rattle.std.specs.HashMap.{Updates}
use Rattle.std.proofs.lemmas.Bool.{and_from, and_parts, false≢true, cases_Bool}
use Rattle.std.proofs.lemmas.List.Sorted.{Contains-permutation, IsPermutation-sym}
use Rattle.gta_theory.proofs.ListsLemmas.{Contains-first, Contains-later, Contains-cases}
use Rattle.gta_reach.specs.declared.form.Form.{Form}
use Rattle.gta_witness.specs.declared.goal.Goal.{Goal}
use Rattle.gta_witness.specs.declared.goal.Reason.{Reason}
use Rattle.gta_witness.specs.declared.goal.Weight.{Weight}
use Rattle.gta_witness.specs.declared.goal.Found.{Found}
use Rattle.gta_witness.specs.declared.goal.Waiting.{Waiting}
use Rattle.gta_witness.specs.declared.relax.Search.{Search}
use Rattle.gta_witness.specs.Rules.{key, nothing, together}
use Rattle.gta_witness.specs.Searching.{same_goal, Findings, found_by, IsSettled, IsCovered, Totals, IsJustified}
use Rattle.gta_witness.specs.Searching.{IsSound, IsSearch, Improves, GoesOn, IsHigher}

-- the derived test says whether two goals are the same
pub same_goal-true : (x y : Goal) → same_goal x y ≡ true → x ≡ y
same_goal-true (Goal.State s q) (Goal.State s' q') e = let h = and_parts _ _ e in ap₂ Goal.State (eqb-true s s' h.0) (eqb-true q q' h.1)
same_goal-true (Goal.Node s q) (Goal.Node s' q') e = let h = and_parts _ _ e in ap₂ Goal.Node (eqb-true s s' h.0) (eqb-true q q' h.1)
same_goal-true (Goal.Row s q) (Goal.Row s' q') e = let h = and_parts _ _ e in ap₂ Goal.Row (eqb-true s s' h.0) (eqb-true q q' h.1)
same_goal-true (Goal.Column s q) (Goal.Column s' q') e = let h = and_parts _ _ e in ap₂ Goal.Column (eqb-true s s' h.0) (eqb-true q q' h.1)
same_goal-true x y e = absurd (false≢true e)

pub same_goal-refl : (x : Goal) → same_goal x x ≡ true
same_goal-refl (Goal.State s q) = and_from _ _ (eq-eqb s s refl) (eq-eqb q q refl)
same_goal-refl (Goal.Node s q) = and_from _ _ (eq-eqb s s refl) (eq-eqb q q refl)
same_goal-refl (Goal.Row s q) = and_from _ _ (eq-eqb s s refl) (eq-eqb q q refl)
same_goal-refl (Goal.Column s q) = and_from _ _ (eq-eqb s s refl) (eq-eqb q q refl)

pub same-or : (x y : Goal) → (x ≡ y) ⊎ (same_goal x y ≡ false)
same-or x y = elim (cases_Bool (same_goal x y)) [
  | inl same ↦ inl (same_goal-true x y same)
  | inr apart ↦ inr apart
]

some-entry : (o : Option Found) (a b : Found) → o ≡ Some a → o ≡ Some b → a ≡ b
some-entry o a b one other = let e : Some a ≡ Some b = sym one ∙ other in cc

-- no tree adds nothing
pub together-nothing : (w : Weight) → together w nothing ≡ w
together-nothing w =
    let bits : w.bits + 0 ≡ w.bits = omega arith in
    let nodes : w.nodes + 0 ≡ w.nodes = omega arith in
    λ i. record { bits = bits i; nodes = nodes i }

-- what is settled has one weight
pub settled-entry : (found : Findings) (goal : Goal) (w : Weight) (entry : Found) → IsSettled found goal w → found goal ≡ Some entry →
    (entry.is_settled ≡ true) × (entry.weight ≡ w)
settled-entry found goal w entry settled there =
    let same : settled.entry ≡ entry = some-entry (found goal) settled.entry entry settled.there there in
    (subst (λ (x : Found). x.is_settled ≡ true) same settled.settled, subst (λ (x : Found). x.weight ≡ w) same settled.weighs)

pub settled-once : (found : Findings) (goal : Goal) (u w : Weight) → IsSettled found goal u → IsSettled found goal w → u ≡ w
settled-once found goal u w one other = sym one.weighs ∙ (settled-entry found goal w one.entry other one.there).1

pub IsCovered-settled : (found : Findings) (goal : Goal) (w : Weight) → IsSettled found goal w → IsCovered found goal w
IsCovered-settled found goal w settled = record { entry = settled.entry; there = settled.there; no_higher = let e = ap key settled.weighs in omega arith }

pub IsCovered-more : (found : Findings) (goal : Goal) (u w : Weight) → key u ≤ key w → IsCovered found goal u → IsCovered found goal w
IsCovered-more found goal u w more covered = record { entry = covered.entry; there = covered.there; no_higher = let e = covered.no_higher in omega arith }

-- sums of premises
pub Totals-kept : (old new : Findings) → ((goal : Goal) (w : Weight) → IsSettled old goal w → IsSettled new goal w) → (goals : List Goal) (w : Weight) →
    Totals old goals w → Totals new goals w
Totals-kept old new kept [] w totals = totals
Totals-kept old new kept (goal ∷ goals) w totals =
    (totals.0, totals.1, kept goal totals.0 totals.2, Totals-kept old new kept goals totals.1 totals.3, totals.4)

pub IsJustified-kept : (form : Form) (weighs : ℕ → Bool) (old new : Findings) → ((goal : Goal) (w : Weight) → IsSettled old goal w → IsSettled new goal w) →
    (goal : Goal) (reason : Reason) (w : Weight) → IsJustified form weighs old goal reason w → IsJustified form weighs new goal reason w
IsJustified-kept form weighs old new kept goal reason w j = record {
  premises = j.premises;
  cost = j.cost;
  total = j.total;
  rule = j.rule;
  totals = Totals-kept old new kept j.premises j.total j.totals;
  weighs_so = j.weighs_so;
}

-- a single premise
pub one-premise : (found : Findings) (goal : Goal) (total : Weight) (totals : Totals found (goal ∷ []) total) → totals.0 ≡ total
one-premise found goal total totals = sym (together-nothing totals.0) ∙ ap (together totals.0) totals.3 ∙ totals.4

-- going on
pub Improves-refl : (found : Findings) → Improves found found
Improves-refl found = record { covered = λ goal w h. h; settled = λ goal w h. h; no_more = λ goal w h. h }

pub Improves-trans : (a b c : Findings) → Improves a b → Improves b c → Improves a c
Improves-trans a b c one other = record {
  covered = λ goal w h. other.covered goal w (one.covered goal w h);
  settled = λ goal w h. other.settled goal w (one.settled goal w h);
  no_more = λ goal w h. one.no_more goal w (other.no_more goal w h);
}

pub GoesOn-refl : (form : Form) (weighs : ℕ → Bool) (now : ℕ) (search : Search) → IsSearch form weighs now search → GoesOn form weighs now search search
GoesOn-refl form weighs now search is = record { is_search = is; improves = Improves-refl (found_by search) }

pub GoesOn-trans : (form : Form) (weighs : ℕ → Bool) (now : ℕ) (a b c : Search) → GoesOn form weighs now a b → GoesOn form weighs now b c →
    GoesOn form weighs now a c
GoesOn-trans form weighs now a b c one other =
    record { is_search = other.is_search; improves = Improves-trans (found_by a) (found_by b) (found_by c) one.improves other.improves }

-- a lower weight is put in
module _ (form : Form) (weighs : ℕ → Bool) (now : ℕ) (old new : Search) (goal : Goal) (weight : Weight) (reason : Reason) (waiting : Waiting)
    (is : IsSearch form weighs now old) (ahead : now ≤ key weight) (higher : IsHigher (found_by old goal) weight)
    (justified : IsJustified form weighs (found_by old) goal reason weight)
    (is_goal : waiting.goal ≡ goal) (near : waiting.nearness + key weight ≡ 340282366920938463463374607431768211455)
    (updates : Updates same_goal old.found new.found goal (Some (record { weight = weight; reason = reason; is_settled = false })))
    (pushed : IsPermutation (waiting ∷ heap_items old.queue) (heap_items new.queue))
    (heap : IsHeap (on (λ (w : Waiting). w.nearness) nat_cmp) (heap_items new.queue)) where
  entry : Found
  entry = record { weight = weight; reason = reason; is_settled = false }

  at-goal : found_by new goal ≡ Some entry
  unfolding entry
  at-goal = updates.1

  at-other : (g : Goal) → same_goal goal g ≡ false → found_by new g ≡ found_by old g
  at-other g apart = updates.2 g apart

  above : (e : Found) → found_by old goal ≡ Some e → key weight < key e.weight
  above e there = subst (λ (o : Option Found). IsHigher o weight) there higher

  not-settled : (w : Weight) → IsSettled (found_by old) goal w → ⊥
  not-settled w settled =
      let p = is.sound.passed goal w settled in
      let a = above settled.entry settled.there in
      let e = ap key settled.weighs in
      absurd (omega arith)

  kept-settled : (g : Goal) (w : Weight) → IsSettled (found_by old) g w → IsSettled (found_by new) g w
  kept-settled g w settled = elim (same-or goal g) [
    | inl same ↦ absurd (not-settled w (subst (λ (x : Goal). IsSettled (found_by old) x w) (sym same) settled))
    | inr apart ↦ record { entry = settled.entry; there = at-other g apart ∙ settled.there; settled = settled.settled; weighs = settled.weighs }
  ]

  put-Improves : Improves (found_by old) (found_by new)
  unfolding entry
  put-Improves = record {
    covered = λ g w covered. elim (same-or goal g) [
      | inl same ↦
          let e = above covered.entry (ap (found_by old) same ∙ covered.there) in
          record { entry = entry; there = sym (ap (found_by new) same) ∙ at-goal; no_higher = let n = covered.no_higher in omega arith }
      | inr apart ↦ record { entry = covered.entry; there = at-other g apart ∙ covered.there; no_higher = covered.no_higher }
    ];
    settled = kept-settled;
    no_more = λ g w settled. elim (same-or goal g) [
      | inl same ↦
          let here : found_by new g ≡ Some entry = sym (ap (found_by new) same) ∙ at-goal in
          absurd (false≢true (settled-entry (found_by new) g w entry settled here).0)
      | inr apart ↦ record { entry = settled.entry; there = sym (at-other g apart) ∙ settled.there; settled = settled.settled; weighs = settled.weighs }
    ];
  }

  put-Sound : IsSound form weighs now (found_by new) (heap_items new.queue)
  unfolding entry
  put-Sound = record {
    justified = λ g e there. elim (same-or goal g) [
      | inl same ↦
          let is_entry : entry ≡ e = some-entry (found_by new g) entry e (sym (ap (found_by new) same) ∙ at-goal) there in
          let j = IsJustified-kept form weighs (found_by old) (found_by new) kept-settled goal reason weight justified in
          subst (λ (x : Goal). IsJustified form weighs (found_by new) x e.reason e.weight) same
          (subst (λ (x : Found). IsJustified form weighs (found_by new) goal x.reason x.weight) is_entry j)
      | inr apart ↦ IsJustified-kept form weighs (found_by old) (found_by new) kept-settled g e.reason e.weight
          (is.sound.justified g e (sym (at-other g apart) ∙ there))
    ];
    derived = λ g w settled. is.sound.derived g w (put-Improves.no_more g w settled);
    passed = λ g w settled. is.sound.passed g w (put-Improves.no_more g w settled);
    waits = λ g e there unsettled. elim (same-or goal g) [
      | inl same ↦
          let is_entry : entry ≡ e = some-entry (found_by new g) entry e (sym (ap (found_by new) same) ∙ at-goal) there in
          record {
            waiting = waiting;
            there = Contains-permutation (waiting ∷ heap_items old.queue) (heap_items new.queue) waiting pushed (Contains-first waiting (heap_items old.queue));
            is_goal = is_goal ∙ same;
            near = subst (λ (x : Found). waiting.nearness + key x.weight ≡ 340282366920938463463374607431768211455) is_entry near;
          }
      | inr apart ↦
          let before = is.sound.waits g e (sym (at-other g apart) ∙ there) unsettled in
          record {
            waiting = before.waiting;
            there = Contains-permutation (waiting ∷ heap_items old.queue) (heap_items new.queue) before.waiting pushed
                (Contains-later waiting before.waiting (heap_items old.queue) before.there);
            is_goal = before.is_goal;
            near = before.near;
          }
    ];
    ahead = λ w there. elim (Contains-cases waiting w (heap_items old.queue)
        (Contains-permutation (heap_items new.queue) (waiting ∷ heap_items old.queue) w
        (IsPermutation-sym (waiting ∷ heap_items old.queue) (heap_items new.queue) pushed) there)) [
          | inl same ↦ subst (λ (x : Waiting). now + x.nearness ≤ 340282366920938463463374607431768211455) same (omega arith)
          | inr before ↦ is.sound.ahead w before
        ];
  }

  pub put-GoesOn : GoesOn form weighs now old new
  put-GoesOn = record { is_search = record { sound = put-Sound; heap = heap }; improves = put-Improves }

  pub put-covered : IsCovered (found_by new) goal weight
  unfolding entry
  put-covered = record { entry = entry; there = at-goal; no_higher = omega arith }
