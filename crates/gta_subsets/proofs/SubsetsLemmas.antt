-- What sets step to, and what a join of roots asks.
use Rattle.std.proofs.Common.{◌≡◌, ℕ, Bool, true, false, List, [], ◌∷◌, ◌++◌, map, flat_map, Some, Contains, sym, ◌∙◌, subst, inl, inr}
use Rattle.std.proofs.lemmas.List.Elements.{Contains-append_left, Contains-append_right, Contains-append_cases}
use Rattle.labels.specs.Labels.{Label, with_track}
use Rattle.bdd_nodes.specs.declared.node_ref.NodeRef.{NodeRef}
use Rattle.bdd_nodes.specs.Shelf.{Contents, state_of}
use Rattle.bdd_walk.specs.Asked.{leaves_of, asked_of}
use Rattle.gta_theory.specs.Automata.{Automaton}
use Rattle.gta_theory.specs.Constructions.{IsStepOf}
use Rattle.gta_theory.proofs.ListsLemmas.{Contains-first, Contains-later, Contains-none, Contains-map, Contains-mapped, Contains-flat_map}
use Rattle.gta_core.specs.Auto.{AutoView, root_at, automaton_of}
use Rattle.gta_core.proofs.AutoLemmas.{step-some}
use Rattle.bdd_walk.specs.Sets.{set_of, IsSet}
use Rattle.gta_subsets.specs.Subsets.{steps_on, set_step}
use Rattle.gta_subsets.specs.Roots.{AreRoots}
use Rattle.bdd_walk.proofs.SetsLemmas.{set_of-has, set_of-only, set_of-same, set_of-twice}

Contains-flat_mapped : {X Y : Type 0} (f : X → List Y) (xs : List X) (y : Y) → Contains (flat_map f xs) y → (x : X) × Contains xs x × Contains (f x) y
Contains-flat_mapped f [] y there = absurd (Contains-none y there)
Contains-flat_mapped {X} f (x ∷ xs) y there = elim (Contains-append_cases (f x) (flat_map f xs) y there) as (λ _. (z : X) × Contains
    (x ∷ xs) z × Contains (f z) y) [
      | inl here ↦ (x, Contains-first x xs, here)
      | inr later ↦ (let z = Contains-flat_mapped f xs y later in (z.0, Contains-later x z.0 xs z.1, z.2))
    ]

-- the parts of a step from two lists
pub record StepsFrom (A : Automaton ℕ) (s : ℕ) (lefts rights : List ℕ) (label : Label) (q : ℕ) : Type 0 where
  pub left : ℕ
  pub right : ℕ
  pub in_left : Contains lefts left
  pub in_right : Contains rights right
  pub is_step : A.step s left right label ≡ q

module _ (A : Automaton ℕ) (s : ℕ) (lefts rights : List ℕ) (label : Label) (q : ℕ) where
  pub steps_on-has : StepsFrom A s lefts rights label q → Contains (steps_on A s lefts rights label) q
  steps_on-has of = Contains-flat_map (λ (l : ℕ). map (λ (r : ℕ). A.step s l r label) rights) lefts of.left q of.in_left
      (subst (λ (n : ℕ). Contains (map (λ (r : ℕ). A.step s of.left r label) rights) n) of.is_step
      (Contains-map (λ (r : ℕ). A.step s of.left r label) rights of.right of.in_right))

  pub steps_on-only : Contains (steps_on A s lefts rights label) q → StepsFrom A s lefts rights label q
  steps_on-only there =
      let l = Contains-flat_mapped (λ (l : ℕ). map (λ (r : ℕ). A.step s l r label) rights) lefts q there in
      let r = Contains-mapped (λ (r : ℕ). A.step s l.0 r label) rights q l.2 in
      record { left = l.0; right = r.0; in_left = l.1; in_right = r.1; is_step = r.2 }

module _ (A : Automaton ℕ) (t s : ℕ) (lefts rights : List ℕ) (label : Label) (q : ℕ) where
  abbrev pub unset : List ℕ
  unset = steps_on A s lefts rights (with_track label t false)

  abbrev pub both : List ℕ
  both = steps_on A s lefts rights (with_track label t true)

  pub both-has : IsStepOf A t s (Contains lefts) (Contains rights) label q → Contains (unset ++ both) q
  both-has of = pick of.bit of.is_step
    where
      pick : (bit : Bool) → A.step s of.left of.right (with_track label t bit) ≡ q → Contains (unset ++ both) q
      pick false is = Contains-append_left unset both q
          (steps_on-has A s lefts rights (with_track label t false) q
          (record { left = of.left; right = of.right; in_left = of.in_left; in_right = of.in_right; is_step = is }))
      pick true is = Contains-append_right unset both q
          (steps_on-has A s lefts rights (with_track label t true) q
          (record { left = of.left; right = of.right; in_left = of.in_left; in_right = of.in_right; is_step = is }))

  pub both-only : Contains (unset ++ both) q → IsStepOf A t s (Contains lefts) (Contains rights) label q
  both-only there = elim (Contains-append_cases unset both q there) [
    | inl here ↦
        let of = steps_on-only A s lefts rights (with_track label t false) q here in
        record { left = of.left; right = of.right; bit = false; in_left = of.in_left; in_right = of.in_right; is_step = of.is_step }
    | inr here ↦
        let of = steps_on-only A s lefts rights (with_track label t true) q here in
        record { left = of.left; right = of.right; bit = true; in_left = of.in_left; in_right = of.in_right; is_step = of.is_step }
  ]

  -- what a set steps to
  pub set_step-has : IsStepOf A t s (Contains lefts) (Contains rights) label q → Contains (set_step A t s lefts rights label) q
  set_step-has of = set_of-has (unset ++ both) q (both-has of)

  pub set_step-only : Contains (set_step A t s lefts rights label) q → IsStepOf A t s (Contains lefts) (Contains rights) label q
  set_step-only there = both-only (set_of-only (unset ++ both) q there)

-- steps from lists with the same states are the same
pub set_step-same : (A : Automaton ℕ) (t s : ℕ) (lefts more_lefts rights more_rights : List ℕ) (label : Label) →
    ((q : ℕ) → IsStepOf A t s (Contains lefts) (Contains rights) label q → IsStepOf A t s (Contains more_lefts) (Contains more_rights) label q) →
    ((q : ℕ) → IsStepOf A t s (Contains more_lefts) (Contains more_rights) label q → IsStepOf A t s (Contains lefts) (Contains rights) label q) →
    set_step A t s lefts rights label ≡ set_step A t s more_lefts more_rights label
set_step-same A t s lefts more_lefts rights more_rights label there back =
    set_of-same (unset A t s lefts rights label 0 ++ both A t s lefts rights label 0)
    (unset A t s more_lefts more_rights label 0 ++ both A t s more_lefts more_rights label 0)
    (λ q is. both-has A t s more_lefts more_rights label q (there q (both-only A t s lefts rights label q is)))
    (λ q is. both-has A t s lefts rights label q (back q (both-only A t s more_lefts more_rights label q is)))

-- what a set steps to is a set
pub IsSet-step : (A : Automaton ℕ) (t s : ℕ) (lefts rights : List ℕ) (label : Label) → IsSet (set_step A t s lefts rights label)
IsSet-step A t s lefts rights label = set_of-twice (unset A t s lefts rights label 0 ++ both A t s lefts rights label 0)

-- what roots ask
module _ (shelf : Contents) (a : AutoView) (s : ℕ) (lefts rights : List ℕ) (roots : List NodeRef) (are : AreRoots (root_at shelf a s) lefts rights roots)
    (known : (l r : ℕ) → Contains lefts l → Contains rights r → (root : NodeRef) × (root_at shelf a s l r ≡ Some root)) (label : Label) (q : ℕ) where
  pub leaves-has : StepsFrom (automaton_of shelf a) s lefts rights label q → Contains (leaves_of shelf roots label) q
  leaves-has of =
      let root = known of.left of.right of.in_left of.in_right in
      subst (λ (n : ℕ). Contains (leaves_of shelf roots label) n) (step-some shelf a s of.left of.right label root.0 root.1 ∙ of.is_step)
      (Contains-map (λ (r : NodeRef). state_of shelf r label) roots root.0 (are.each of.left of.right root.0 of.in_left of.in_right root.1))

  pub leaves-only : Contains (leaves_of shelf roots label) q → StepsFrom (automaton_of shelf a) s lefts rights label q
  leaves-only there =
      let root = Contains-mapped (λ (r : NodeRef). state_of shelf r label) roots q there in
      let of = are.only root.0 root.1 in
      record {
        left = of.left;
        right = of.right;
        in_left = of.in_left;
        in_right = of.in_right;
        is_step = sym (step-some shelf a s of.left of.right label root.0 of.is) ∙ root.2;
      }

-- the set of what they ask is what sets step to
module _ (shelf : Contents) (a : AutoView) (t s : ℕ) (lefts rights : List ℕ) (roots : List NodeRef) (are : AreRoots (root_at shelf a s) lefts rights roots)
    (known : (l r : ℕ) → Contains lefts l → Contains rights r → (root : NodeRef) × (root_at shelf a s l r ≡ Some root)) (label : Label) where
  pub asked-has : (q : ℕ) → IsStepOf (automaton_of shelf a) t s (Contains lefts) (Contains rights) label q →
      Contains (asked_of shelf roots (Some t) label) q
  asked-has q of = pick of.bit of.is_step
    where
      pick : (bit : Bool) → (automaton_of shelf a).step s of.left of.right (with_track label t bit) ≡ q →
          Contains (asked_of shelf roots (Some t) label) q
      pick false is = Contains-append_left (leaves_of shelf roots (with_track label t false)) (leaves_of shelf roots (with_track label t true)) q
          (leaves-has shelf a s lefts rights roots are known (with_track label t false) q
          (record { left = of.left; right = of.right; in_left = of.in_left; in_right = of.in_right; is_step = is }))
      pick true is = Contains-append_right (leaves_of shelf roots (with_track label t false)) (leaves_of shelf roots (with_track label t true)) q
          (leaves-has shelf a s lefts rights roots are known (with_track label t true) q
          (record { left = of.left; right = of.right; in_left = of.in_left; in_right = of.in_right; is_step = is }))

  pub asked-only : (q : ℕ) → Contains (asked_of shelf roots (Some t) label) q →
      IsStepOf (automaton_of shelf a) t s (Contains lefts) (Contains rights) label q
  asked-only q there = elim (Contains-append_cases (leaves_of shelf roots (with_track label t false))
      (leaves_of shelf roots (with_track label t true)) q there) [
        | inl here ↦
            let of = leaves-only shelf a s lefts rights roots are known (with_track label t false) q here in
            record { left = of.left; right = of.right; bit = false; in_left = of.in_left; in_right = of.in_right; is_step = of.is_step }
        | inr here ↦
            let of = leaves-only shelf a s lefts rights roots are known (with_track label t true) q here in
            record { left = of.left; right = of.right; bit = true; in_left = of.in_left; in_right = of.in_right; is_step = of.is_step }
      ]

  pub set_of-asked : set_of (asked_of shelf roots (Some t) label) ≡ set_step (automaton_of shelf a) t s lefts rights label
  set_of-asked = set_of-same (asked_of shelf roots (Some t) label)
      (unset (automaton_of shelf a) t s lefts rights label 0 ++ both (automaton_of shelf a) t s lefts rights label 0)
      (λ q is. both-has (automaton_of shelf a) t s lefts rights label q (asked-only q is))
      (λ q is. asked-has q (both-only (automaton_of shelf a) t s lefts rights label q is))
