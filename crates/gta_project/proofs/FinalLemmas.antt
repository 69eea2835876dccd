-- Parts for all spaces, of sets that stay as they are, are the subset automaton.
use Rattle.std.proofs.Common.{◌≡◌, ℕ, zero, suc, ◌+◌, ◌*◌, ◌^◌, ◌<◌, ◌≤◌, Bool, true, false, ◌||◌, List, [], ◌∷◌, map, length, Option, Some, None}
use Rattle.std.proofs.Common.{slice_get, Contains, ◌↔◌, refl, sym, ◌∙◌, ap, subst, inl, inr, arith}
use Rattle.std.specs.Prelude.{IsSome, IsTrue, is_some, unwrap_or, option_map, option_and_then}
use Rattle.std.specs.List.{list_any}
use Rattle.std.proofs.lemmas.Bool.{cases_Bool, false≢true, lt-ltb, ltb-true}
use Rattle.std.proofs.lemmas.List.{length-map}
use Rattle.std.proofs.lemmas.Option.{slice_get-map, slice_get_past, slice_get_within}
use Rattle.labels.specs.Labels.{Label}
use Rattle.bdd_nodes.specs.declared.node.Node.{Node}
use Rattle.bdd_nodes.specs.declared.node_ref.NodeRef.{NodeRef}
use Rattle.bdd_nodes.specs.Nodes.{node_of, state_named}
use Rattle.bdd_nodes.specs.Shelf.{Contents, state_of, root_of}
use Rattle.bdd_nodes.specs.Changes.{AddsTable}
use Rattle.gta_theory.specs.Guides.{Spaces, IsGuide, IsSpace, left, right}
use Rattle.gta_theory.specs.Automata.{Automaton}
use Rattle.gta_theory.specs.Constructions.{IsStepOf, IsClosed, IsNaming, IsOnce, IsSubset}
use Rattle.gta_theory.specs.Generated.{Generated, starts, steps, IsGenerated, IsNamingSets}
use Rattle.gta_theory.specs.Numbered.{Below}
use Rattle.gta_theory.specs.Sizes.{IsChildPair}
use Rattle.gta_theory.proofs.GeneratedLemmas.{IsStable-closed_sets, IsSubset-generated}
use Rattle.gta_theory.proofs.ListsLemmas.{Contains-first, Contains-later, Contains-cases, Contains-none}
use Rattle.gta_core.specs.declared.part.Part.{Part}
use Rattle.gta_core.specs.Auto.{AutoView, states_of, is_accepting, guide_of, place_in, place_of, root_at, automaton_of, IsUsed, IsAuto, IsWhole}
use Rattle.gta_core.proofs.AutoLemmas.{past-none, step-some}
use Rattle.bdd_walk.specs.Sets.{IsSet, has_state}
use Rattle.gta_subsets.specs.Subsets.{set_step, subsets, IsInitial, AreInitial}
use Rattle.bdd_walk.proofs.SetsLemmas.{has_state-true, Contains-has_state, sets-same}
use Rattle.gta_subsets.proofs.SubsetsLemmas.{set_step-has, set_step-only}
use Rattle.gta_subsets.specs.Numbers.{number_in, Extends}
use Rattle.gta_project.specs.Filling.{IsCell}
use Rattle.gta_project.specs.Building.{AreSpaces, IsPartOf, AreParts, ExtendAll}
use Rattle.gta_subsets.proofs.NumbersLemmas.{number_in-get}
use Rattle.gta_core.specs.Placing.{HasPlace}
use Rattle.gta_core.proofs.CellsLemmas.{get-index}
use Rattle.gta_project.proofs.CellsLemmas.{has-root, is-place}

-- lists with the same elements are the same
ext : {X : Type 0} (xs ys : List X) → ((i : ℕ) → slice_get xs i ≡ slice_get ys i) → xs ≡ ys
ext [] [] same = refl
ext [] (y ∷ ys) same = let e = same 0 in absurd cc
ext (x ∷ xs) [] same = let e = same 0 in absurd cc
ext {X} (x ∷ xs) (y ∷ ys) same =
    let e : ◌≡◌ {A = Option X} (Some x) (Some y) = same 0 in
    let first : x ≡ y = cc in
    ap (λ (z : X). z ∷ xs) first ∙ ap (λ (zs : List X). y ∷ zs) (ext xs ys (λ i. same (suc i)))

within-some : {X : Type 0} (xs : List X) (i : ℕ) → IsSome (slice_get xs i) → i < length xs
within-some [] i some = absurd (false≢true some)
within-some (x ∷ xs) zero some = omega arith
within-some (x ∷ xs) (suc i) some = omega (arith, within-some xs i some)

some-first : {X Y : Type 0} (f : X → Option Y) (o : Option X) → IsSome (option_and_then f o) → IsSome o
some-first f None some = some
some-first f (Some x) some = refl

same_pairs : (a b : List (List ℕ)) → ◌≡◌ {A = Option (List (List ℕ))} (Some a) (Some b) → a ≡ b
same_pairs a b e = cc

same_pair : (a b : List ℕ) → ◌≡◌ {A = Option (List ℕ)} (Some a) (Some b) → a ≡ b
same_pair a b e = cc

same_number : (a b : ℕ) → ◌≡◌ {A = Option ℕ} (Some a) (Some b) → a ≡ b
same_number a b e = cc

-- whether some state is accepting
any-has : (test : ℕ → Bool) (xs : List ℕ) (q : ℕ) → Contains xs q → test q ≡ true → list_any test xs ≡ true
any-has test [] q there is = absurd (Contains-none q there)
any-has test (x ∷ xs) q there is = elim (Contains-cases x q xs there) [
  | inl same ↦ ap (λ (n : ℕ). test n || list_any test xs) same ∙ ap (λ (b : Bool). b || list_any test xs) is
  | inr later ↦ elim (cases_Bool (test x)) [
    | inl yes_x ↦ ap (λ (b : Bool). b || list_any test xs) yes_x
    | inr no_x ↦ ap (λ (b : Bool). b || list_any test xs) no_x ∙ any-has test xs q later is
  ]
]

any-only : (test : ℕ → Bool) (xs : List ℕ) → list_any test xs ≡ true → (q : ℕ) × Contains xs q × (test q ≡ true)
any-only test [] is = absurd (false≢true is)
any-only test (x ∷ xs) is = elim (cases_Bool (test x)) as (λ _. (q : ℕ) × Contains (x ∷ xs) q × (test q ≡ true)) [
  | inl yes_x ↦ (x, Contains-first x xs, yes_x)
  | inr no_x ↦ (let q = any-only test xs (sym (ap (λ (b : Bool). b || list_any test xs) no_x) ∙ is) in (q.0, Contains-later x q.0 xs q.1, q.2))
]

-- a step from other lists with the same states
step-lists : (A : Automaton ℕ) (t s : ℕ) (Left Right More_left More_right : ℕ → Type 0) (label : Label) (q : ℕ) →
    ((l : ℕ) → Left l → More_left l) → ((r : ℕ) → Right r → More_right r) → IsStepOf A t s Left Right label q → IsStepOf A t s More_left More_right label q
step-lists A t s Left Right More_left More_right label q of_left of_right step = record {
  left = step.left;
  right = step.right;
  bit = step.bit;
  in_left = of_left step.left step.in_left;
  in_right = of_right step.right step.in_right;
  is_step = step.is_step;
}

module _ (g : Spaces) (guide : IsGuide g) (first now : Contents) (a : AutoView) (auto : IsAuto g first a) (t : ℕ) (initials : List (List ℕ))
    (are_initial : AreInitial g (automaton_of first a) t initials)
    (spaces : List (List (List ℕ))) (are : AreSpaces g (subsets (automaton_of first a) t initials) spaces)
    (parts : List Part) (many : length parts ≡ length g) (roots : List NodeRef)
    (built : AreParts g (subsets (automaton_of first a) t initials) a spaces spaces now roots parts)
    (table : ℕ) (root_sets : List (List ℕ)) (at_root : slice_get spaces 0 ≡ Some root_sets) where
  abbrev pub both : Automaton (List ℕ)
  both = subsets (automaton_of first a) t initials

  abbrev pub made : AutoView
  made = record {
    table = table;
    parts = parts;
    accepting = map (λ set. list_any (is_accepting a) set) root_sets;
  }

  abbrev pub set_named : ℕ → ℕ → List ℕ
  set_named s q = unwrap_or (slice_get (unwrap_or (slice_get spaces s) []) q) []

  -- the part and the sets of a space
  record At (s : ℕ) : Type 0 where
    part : Part
    there : slice_get parts s ≡ Some part
    of : IsPartOf g both a spaces spaces now roots s part

  at : (s : ℕ) → IsSpace g s → At s
  at s inside =
      let part = get-index parts s (omega (arith, many)) in
      record { part = part.0; there = part.1; of = built.each s part.0 part.1 }

  sets-at : (s : ℕ) → IsSpace g s → (sets : List (List ℕ)) × (slice_get spaces s ≡ Some sets)
  sets-at s inside = get-index spaces s (omega (arith, are.many))

  states-at : (s : ℕ) → IsSpace g s → (numbers : List (List ℕ)) → slice_get spaces s ≡ Some numbers → states_of made s ≡ length numbers
  states-at s inside numbers is =
      let here = at s inside in
      ap (λ (o : Option Part). unwrap_or (option_map (λ part. part.states) o) 0) here.there ∙ here.of.built.states
      ∙ ap (λ (ps : List (List ℕ)). length ps) (same_pairs _ _ (sym here.of.at ∙ is))

  set-at : (s q : ℕ) (numbers : List (List ℕ)) (p : List ℕ) → slice_get spaces s ≡ Some numbers → slice_get numbers q ≡ Some p → set_named s q ≡ p
  set-at s q numbers p is there =
      ap (λ (o : Option (List (List ℕ))). unwrap_or (slice_get (unwrap_or o []) q) []) is
      ∙ ap (λ (o : Option (List ℕ)). unwrap_or o []) there

  -- a state is the number of a set
  record IsNumberOf (s q : ℕ) : Type 0 where
    numbers : List (List ℕ)
    set : List ℕ
    is : slice_get spaces s ≡ Some numbers
    there : slice_get numbers q ≡ Some set

  number-of : (s q : ℕ) → IsSpace g s → Below (states_of made) s q → IsNumberOf s q
  number-of s q inside below =
      let numbers = sets-at s inside in
      let within : q < length numbers.0 = omega (arith, ltb-true q (states_of made s) below, states-at s inside numbers.0 numbers.1) in
      let set = get-index numbers.0 q within in
      record { numbers = numbers.0; set = set.0; is = numbers.1; there = set.1 }

  below-number : (s q : ℕ) → IsSpace g s → (numbers : List (List ℕ)) (p : List ℕ) → slice_get spaces s ≡ Some numbers →
      slice_get numbers q ≡ Some p → Below (states_of made) s q
  below-number s q inside numbers p is there =
      lt-ltb q (states_of made s) (omega (arith, slice_get_within numbers q p there, states-at s inside numbers is))

  over-made : guide_of made ≡ g
  over-made = ext (guide_of made) g (λ s. slice_get-map (λ part. part.children) parts s ∙ pick s (slice_get parts s) refl)
    where
      pick : (s : ℕ) (o : Option Part) → slice_get parts s ≡ o → option_map (λ part. part.children) o ≡ slice_get g s
      pick s None none = sym (slice_get_past g s (omega (arith, past-none parts s none, many)))
      pick s (Some part) there = sym (built.each s part there).built.children

  pub IsWhole-made : IsWhole made
  IsWhole-made = record {
    guide = subst IsGuide (sym over-made) guide;
    few = λ s. pick s (slice_get parts s) refl;
    accepting = length-map root_sets (λ (set : List ℕ). list_any (is_accepting a) set)
        ∙ sym (states-at 0 guide.not_empty root_sets at_root);
  }
    where
      pick : (s : ℕ) (o : Option Part) → slice_get parts s ≡ o → unwrap_or (option_map (λ part. part.states) o) 0 ≤ 2 ^ 31
      pick s None none = omega arith
      pick s (Some part) there =
          let of = built.each s part there in
          let few = (are.each s of.sets of.at).numbers.few in
          omega (arith, of.built.states, few)

  module _ (after : Contents) (adds : AddsTable now after table roots) where
    -- the root for states of both children
    record HasStep (s l r : ℕ) (p q : List ℕ) : Type 0 where
      numbers : List (List ℕ)
      is : slice_get spaces s ≡ Some numbers
      root : NodeRef
      at : root_at after made s l r ≡ Some root
      cell : IsCell (set_step (automaton_of first a) t) s numbers p q now root

    has-step : (s l r : ℕ) → IsSpace g s → (lefts rights : List (List ℕ)) (p q : List ℕ) → slice_get spaces (left g s) ≡ Some lefts →
        slice_get spaces (right g s) ≡ Some rights → slice_get lefts l ≡ Some p → slice_get rights r ≡ Some q → HasStep s l r p q
    unfolding root_at
    has-step s l r inside lefts rights p q is_left is_right at_l at_r =
        let here = at s inside in
        let of = here.of in
        let root = has-root g first a t initials s of.lefts of.rights of.sets of.own of.in_own now roots here.part of.built l r p q
        (ap (λ (ps : List (List ℕ)). slice_get ps l) (same_pairs _ _ (sym of.at_left ∙ is_left)) ∙ at_l)
        (ap (λ (ps : List (List ℕ)). slice_get ps r) (same_pairs _ _ (sym of.at_right ∙ is_right)) ∙ at_r) in
        record {
          numbers = of.sets;
          is = of.at;
          root = root.root;
          at = ap (λ (o : Option Part). option_and_then (root_of after table) (option_and_then (λ (part : Part). place_in part l r) o)) here.there
              ∙ ap (option_and_then (root_of after table)) root.at
              ∙ ap (λ (o : Option (List NodeRef)). option_and_then (λ (rs : List NodeRef). slice_get rs root.place) o) adds.roots
              ∙ root.there;
          cell = root.cell;
        }

    state-after : (root : NodeRef) (label : Label) → state_of after root label ≡ state_of now root label
    state-after root label = ap (λ (nodes : List Node). state_named nodes (node_of root) label) adds.nodes.nodes

    -- a step gives the number of the set that both steps give
    step-number : (s l r : ℕ) (p q : List ℕ) (step : HasStep s l r p q) (label : Label) →
        slice_get step.numbers ((automaton_of after made).step s l r label) ≡ Some (both.step s p q label)
    step-number s l r p q step label =
        subst (λ (n : ℕ). slice_get step.numbers n ≡ Some (both.step s p q label))
        (sym (state-after step.root label) ∙ step-some after made s l r label step.root step.at)
        (number_in-get step.numbers (both.step s p q label) (state_of now step.root label) (step.cell.states label))

    initial-made : (s : ℕ) → IsSpace g s → (automaton_of after made).initial s ≡ 0
    unfolding automaton_of
    initial-made s inside =
        let here = at s inside in
        ap (λ (o : Option Part). unwrap_or (option_map (λ part. part.initial) o) 0) here.there ∙ here.of.built.initial

    accepting-made : (q : ℕ) (p : List ℕ) → slice_get root_sets q ≡ Some p →
        (automaton_of after made).accepting q ≡ (list_any (is_accepting a) p)
    unfolding automaton_of
    accepting-made q p there =
        ap (λ (o : Option Bool). unwrap_or o false) (slice_get-map (λ (set : List ℕ). list_any (is_accepting a) set) root_sets q
        ∙ ap (option_map (λ (set : List ℕ). list_any (is_accepting a) set)) there)

    both-accepting : (p : List ℕ) → both.accepting p ≡ (list_any (is_accepting a) p)
    unfolding automaton_of
    both-accepting p = refl

    closed-made : IsClosed g (automaton_of after made) (Below (states_of made))
    closed-made = record {
      initial = λ s inside.
          let numbers = sets-at s inside in
          subst (Below (states_of made) s) (sym (initial-made s inside))
          (below-number s 0 inside numbers.0 (both.initial s) numbers.1 (are.each s numbers.0 numbers.1).initial);
      step = λ s l r label inside in_left in_right.
          let x = number-of (left g s) l (guide.left_inside s inside) in_left in
          let y = number-of (right g s) r (guide.right_inside s inside) in_right in
          let step = has-step s l r inside x.numbers y.numbers x.set y.set x.is y.is x.there y.there in
          below-number s ((automaton_of after made).step s l r label) inside step.numbers (both.step s x.set y.set label) step.is
          (step-number s l r x.set y.set step label);
    }

    naming-made : IsNaming g (automaton_of after made) (Below (states_of made)) both set_named
    naming-made = record {
      initial = λ s inside.
          let numbers = sets-at s inside in
          ap (set_named s) (initial-made s inside)
          ∙ set-at s 0 numbers.0 (both.initial s) numbers.1 (are.each s numbers.0 numbers.1).initial;
      step = λ s l r label inside in_left in_right.
          let x = number-of (left g s) l (guide.left_inside s inside) in_left in
          let y = number-of (right g s) r (guide.right_inside s inside) in_right in
          let step = has-step s l r inside x.numbers y.numbers x.set y.set x.is y.is x.there y.there in
          set-at s ((automaton_of after made).step s l r label) step.numbers (both.step s x.set y.set label) step.is
          (step-number s l r x.set y.set step label)
          ∙ ap (λ (p : List ℕ). both.step s p y.set label) (sym (set-at (left g s) l x.numbers x.set x.is x.there))
          ∙ ap (λ (q : List ℕ). both.step s (set_named (left g s) l) q label) (sym (set-at (right g s) r y.numbers y.set y.is y.there));
      accepting = λ q below.
          let x = number-of 0 q guide.not_empty below in
          let there = ap (λ (ps : List (List ℕ)). slice_get ps q) (same_pairs _ _ (sym at_root ∙ x.is)) ∙ x.there in
          accepting-made q x.set there ∙ sym (both-accepting x.set)
          ∙ ap (λ (p : List ℕ). both.accepting p) (sym (set-at 0 q x.numbers x.set x.is x.there));
    }

    once-made : IsOnce g (Below (states_of made)) set_named
    once-made = record {
      once = λ s l r inside in_l in_r same.
          let x = number-of s l inside in_l in
          let y = number-of s r inside in_r in
          let numbers = are.each s x.numbers x.is in
          let y_there : slice_get x.numbers r ≡ Some y.set = ap (λ (ps : List (List ℕ)). slice_get ps r) (same_pairs _ _ (sym x.is ∙ y.is)) ∙ y.there in
          let equal : x.set ≡ y.set = sym (set-at s l x.numbers x.set x.is x.there) ∙ same ∙ set-at s r y.numbers y.set y.is y.there in
          same_number l r (sym (numbers.numbers.found l x.set x.there) ∙ ap (number_in x.numbers) equal ∙ numbers.numbers.found r y.set y_there);
    }

    -- each generated set has a generated number
    record IsNamed (s : ℕ) (p : List ℕ) : Type 0 where
      name : ℕ
      below : Below (states_of made) s name
      generated : Generated g (automaton_of after made) s name
      is : set_named s name ≡ p

    named : (s : ℕ) (p : List ℕ) → Generated g both s p → IsNamed s p
    named _ _ (starts s inside) = record {
      name = (automaton_of after made).initial s;
      below = closed-made.initial s inside;
      generated = starts s inside;
      is = naming-made.initial s inside;
    }
    named _ _ (steps s p q label inside l r) =
        let x = named (left g s) p l in
        let y = named (right g s) q r in
        record {
          name = (automaton_of after made).step s x.name y.name label;
          below = closed-made.step s x.name y.name label inside x.below y.below;
          generated = steps s x.name y.name label inside x.generated y.generated;
          is = naming-made.step s x.name y.name label inside x.below y.below
              ∙ ap (λ (u : List ℕ). both.step s u (set_named (right g s) y.name) label) x.is
              ∙ ap (λ (v : List ℕ). both.step s p v label) y.is;
        }

    generated-made : IsGenerated g (automaton_of after made) (Below (states_of made))
    generated-made = record {
      state = λ s q inside below.
          let x = number-of s q inside below in
          let name = named s x.set ((are.each s x.numbers x.is).generated q x.set x.there) in
          subst (Generated g (automaton_of after made) s)
          (once-made.once s name.name q inside name.below below (name.is ∙ sym (set-at s q x.numbers x.set x.is x.there))) name.generated;
    }

    -- whether a state is in the set with a number
    abbrev pub member_of : ℕ → ℕ → ℕ → Bool
    member_of s x q = has_state (set_named s x) q

    named-set : (s x : ℕ) → IsSpace g s → Below (states_of made) s x → IsSet (set_named s x)
    named-set s x inside below =
        let of = number-of s x inside below in
        subst (λ (set : List ℕ). IsSet set) (sym (set-at s x of.numbers of.set of.is of.there)) ((are.each s of.numbers of.is).numbers.set x of.set of.there)

    initial-set : (s : ℕ) → IsSpace g s → IsInitial g (automaton_of first a) t s (both.initial s)
    initial-set s inside =
        let set = get-index initials s (omega (arith, are_initial.many)) in
        subst (IsInitial g (automaton_of first a) t s) (sym (ap (λ (o : Option (List ℕ)). unwrap_or o []) set.1)) (are_initial.each s set.0 set.1)

    naming-sets : IsNamingSets g (automaton_of first a) t (automaton_of after made) (Below (states_of made)) (λ s x q. IsTrue (member_of s x q))
    naming-sets = record {
      initial = λ s q inside.
          let is = naming-made.initial s inside in
          let settled = (initial-set s inside).settled q in (
            (λ has. settled.0 (subst (λ (set : List ℕ). Contains set q) is (Contains-has_state _ q has))),
            (λ of. has_state-true _ q (subst (λ (set : List ℕ). Contains set q) (sym is) (settled.1 of))),
          );
      step = λ s x y label q inside in_left in_right.
          let is = naming-made.step s x y label inside in_left in_right in
          let lefts = set_named (left g s) x in
          let rights = set_named (right g s) y in (
            (λ has. step-lists (automaton_of first a) t s _ _ _ _ label q (has_state-true lefts) (has_state-true rights)
                (set_step-only (automaton_of first a) t s lefts rights label q
                (subst (λ (set : List ℕ). Contains set q) is (Contains-has_state _ q has)))),
            (λ of. has_state-true _ q (subst (λ (set : List ℕ). Contains set q) (sym is)
                (set_step-has (automaton_of first a) t s lefts rights label q
                (step-lists (automaton_of first a) t s _ _ _ _ label q (Contains-has_state lefts) (Contains-has_state rights) of)))),
          );
      accepting = λ x below.
          let is = naming-made.accepting x below in (
            (λ accepted.
                let q = any-only (λ (n : ℕ). (automaton_of first a).accepting n) (set_named 0 x) (sym is ∙ accepted) in
                record { state = q.0; inside = has_state-true _ q.0 q.1; accepting = q.2 }),
            (λ has. is ∙ any-has (λ (n : ℕ). (automaton_of first a).accepting n) (set_named 0 x) has.state
                (Contains-has_state _ has.state has.inside) has.accepting),
          );
      once = λ s x y inside in_x in_y same. once-made.once s x y inside in_x in_y
          (sets-same (set_named s x) (set_named s y) (named-set s x inside in_x) (named-set s y inside in_y)
          (λ q there. Contains-has_state _ q ((same q).0 (has_state-true _ q there)))
          (λ q there. Contains-has_state _ q ((same q).1 (has_state-true _ q there))));
    }

    pub IsSubset-made : IsSubset g (automaton_of first a) t (automaton_of after made) (Below (states_of made)) (λ s x q. IsTrue (member_of s x q))
    IsSubset-made = IsSubset-generated g guide (automaton_of first a) auto.stable t (automaton_of after made) (Below (states_of made))
        (λ s x q. IsTrue (member_of s x q)) closed-made naming-sets generated-made

    -- where a root stands, the space and the states are known
    record IsKnown (s l r : ℕ) : Type 0 where
      inside : IsSpace g s
      in_left : Below (states_of made) (left g s) l
      in_right : Below (states_of made) (right g s) r

    known-part : (s l r : ℕ) (o : Option Part) → slice_get parts s ≡ o → IsSome (option_and_then (λ (part : Part). place_in part l r) o) → IsKnown s l r
    known-part s l r None none some = absurd (false≢true some)
    known-part s l r (Some part) there some =
        let inside : IsSpace g s = omega (arith, slice_get_within parts s part there, many) in
        let of = built.each s part there in
        let at_row = some-first _ (slice_get part.rows l) some in
        let at_column = column (slice_get part.rows l) some in
        let p = get-index of.lefts l (omega (arith, within-some part.rows l at_row, of.built.row_classes.many)) in
        let q = get-index of.rights r (omega (arith, within-some part.columns r at_column, of.built.column_classes.many)) in
        record {
          inside = inside;
          in_left = below-number (left g s) l (guide.left_inside s inside) of.lefts p.0 of.at_left p.1;
          in_right = below-number (right g s) r (guide.right_inside s inside) of.rights q.0 of.at_right q.1;
        }
      where
        column : (row : Option ℕ) → IsSome (option_and_then (λ (row : ℕ). option_and_then (λ (column : ℕ).
            option_map (λ (cell : ℕ). part.first + cell) (slice_get part.cells (row * part.width + column))) (slice_get part.columns r)) row) →
            IsSome (slice_get part.columns r)
        column None some = absurd (false≢true some)
        column (Some row) some = some-first _ (slice_get part.columns r) some

    known-root : (s l r : ℕ) → IsSome (root_at after made s l r) → IsKnown s l r
    unfolding root_at
    known-root s l r some = known-part s l r (slice_get parts s) refl
        (some-first (root_of after table) (place_of made s l r) some)

    complete-made : (s l r : ℕ) → IsSome (root_at after made s l r) ↔ (IsSpace g s × IsChildPair g (Below (states_of made)) s (l, r))
    complete-made s l r = (
      λ some. (let k = known-root s l r some in (k.inside, (k.in_left, k.in_right))),
      λ set.
          let x = number-of (left g s) l (guide.left_inside s set.0) set.1.0 in
          let y = number-of (right g s) r (guide.right_inside s set.0) set.1.1 in
          let step = has-step s l r set.0 x.numbers y.numbers x.set y.set x.is y.is x.there y.there in
          ap (λ (o : Option NodeRef). is_some o) step.at,
    )

    -- a place of the part of a space is used
    used-in : (space : ℕ) (part : Part) → slice_get parts space ≡ Some part → (place : ℕ) → HasPlace part place → IsUsed made place
    used-in space part at place has = record {
      space = space;
      left = has.left;
      right = has.right;
      there = ap (λ (o : Option Part). option_and_then (λ (part : Part). place_in part has.left has.right) o) at ∙ has.there;
    }

    used-made : (place : ℕ) → IsSome (root_of after table place) → IsUsed made place
    used-made place some =
        let at_place = subst (λ (o : Option (List NodeRef)). IsSome (option_and_then (λ (rs : List NodeRef). slice_get rs place) o)) adds.roots some in
        let u = built.used place (within-some roots place at_place) in
        let of = built.each u.space u.part u.at in
        used-in u.space u.part u.at place
        (is-place g first a t initials u.space of.lefts of.rights of.sets of.own of.in_own now roots u.part of.built
        place u.from u.to)

    pub IsAuto-made : IsAuto g after made
    IsAuto-made = record {
      over = over-made;
      registered = ap (λ (o : Option (List NodeRef)). is_some o) adds.roots;
      complete = complete-made;
      used = used-made;
      closed = closed-made;
      stable = IsStable-closed_sets g guide (automaton_of first a) auto.stable t (automaton_of after made) (Below (states_of made))
          (λ s x q. IsTrue (member_of s x q)) closed-made naming-sets;
    }

-- spaces that keep their sets, and have as many, are the same
same-list : (old new : List (List ℕ)) → Extends old new → length old ≡ length new → old ≡ new
same-list old new extends many = ext old new (λ k. pick k (slice_get old k) refl)
  where
    pick : (k : ℕ) (o : Option (List ℕ)) → slice_get old k ≡ o → slice_get old k ≡ slice_get new k
    pick k None none = none ∙ sym (slice_get_past new k (omega (arith, past-none old k none)))
    pick k (Some set) there = there ∙ sym (extends.kept k set there)

pub same-spaces : (old new : List (List (List ℕ))) → ExtendAll old new →
    map (λ (sets : List (List ℕ)). length sets) old ≡ map (λ (sets : List (List ℕ)). length sets) new → old ≡ new
same-spaces old new extends counts = ext old new (λ s. pick s (slice_get old s) (slice_get new s) refl refl)
  where
    count-at : (s : ℕ) → option_map (λ (sets : List (List ℕ)). length sets) (slice_get old s) ≡ option_map (λ (sets : List (List ℕ)). length
        sets) (slice_get new s)
    count-at s = sym (slice_get-map (λ (sets : List (List ℕ)). length sets) old s)
        ∙ ap (λ (ns : List ℕ). slice_get ns s) counts ∙ slice_get-map (λ (sets : List (List ℕ)). length sets) new s

    pick : (s : ℕ) (o n : Option (List (List ℕ))) → slice_get old s ≡ o → slice_get new s ≡ n → slice_get old s ≡ slice_get new s
    pick s None None none gone = none ∙ sym gone
    pick s None (Some more) none there = absurd (omega (arith, past-none old s none, slice_get_within new s more there, extends.many))
    pick s (Some sets) None there gone = absurd (omega (arith, past-none new s gone, slice_get_within old s sets there, extends.many))
    pick s (Some sets) (Some more) was is =
        let counted : ◌≡◌ {A = Option ℕ} (Some (length sets)) (Some (length more)) =
        ap (option_map (λ (ps : List (List ℕ)). length ps)) (sym was) ∙ count-at s ∙ ap (option_map (λ (ps : List (List ℕ)). length ps)) is in
        was ∙ ap (λ (ps : List (List ℕ)). let o : Option (List (List ℕ)) = Some ps in o)
        (same-list sets more (extends.each s sets more was is) (same_number (length sets) (length more) counted)) ∙ sym is
