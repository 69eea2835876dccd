-- Parts for all spaces, of pairs that stay as they are, are the product.
use Rattle.std.proofs.Common.{◌≡◌, ℕ, zero, suc, ◌+◌, ◌*◌, ◌^◌, ◌<◌, ◌≤◌, Bool, false, ◌&&◌, List, [], ◌∷◌, map, length, Option, Some, None}
use Rattle.std.proofs.Common.{slice_get, ◌↔◌, refl, sym, ◌∙◌, ap, subst, arith}
use Rattle.std.specs.Prelude.{IsSome, is_some, unwrap_or, option_map, option_and_then}
use Rattle.std.proofs.lemmas.Bool.{false≢true, lt-ltb, ltb-true}
use Rattle.std.proofs.lemmas.List.{length-map}
use Rattle.std.proofs.lemmas.Option.{slice_get-map, slice_get_past, slice_get_within}
use Rattle.labels.specs.Labels.{Label}
use Rattle.bdd_nodes.specs.declared.node.Node.{Node}
use Rattle.bdd_nodes.specs.declared.node_ref.NodeRef.{NodeRef}
use Rattle.bdd_nodes.specs.Nodes.{node_of, state_named}
use Rattle.bdd_nodes.specs.Shelf.{Contents, state_of, root_of}
use Rattle.bdd_nodes.specs.Changes.{AddsTable}
use Rattle.gta_theory.specs.Guides.{Spaces, IsGuide, IsSpace, left, right}
use Rattle.gta_theory.specs.Automata.{Automaton}
use Rattle.gta_theory.specs.Constructions.{pairs, IsClosed, IsNaming, IsOnce, IsProduct}
use Rattle.gta_theory.specs.Generated.{Generated, starts, steps, IsGenerated}
use Rattle.gta_theory.specs.Numbered.{Below}
use Rattle.gta_theory.specs.Sizes.{IsChildPair}
use Rattle.gta_theory.proofs.AutomataLemmas.{IsStable-pairs}
use Rattle.gta_theory.proofs.GeneratedLemmas.{IsStable-closed, IsProduct-generated}
use Rattle.gta_core.specs.declared.part.Part.{Part}
use Rattle.gta_core.specs.Auto.{AutoView, states_of, is_accepting, guide_of, place_in, place_of, root_at, automaton_of, IsUsed, IsAuto, IsWhole}
use Rattle.gta_core.proofs.AutoLemmas.{past-none, step-some}
use Rattle.gta_product.specs.Numbers.{number_in}
use Rattle.gta_product.specs.Filling.{IsCell}
use Rattle.gta_product.specs.Building.{AreSpaces, IsPartOf, AreParts, ExtendAll}
use Rattle.gta_product.proofs.NumbersLemmas.{number_in-get, ext, extends-same}
use Rattle.gta_core.specs.Placing.{HasPlace}
use Rattle.gta_core.proofs.CellsLemmas.{get-index}
use Rattle.gta_product.proofs.CellsLemmas.{has-root, is-place}

within-some : {X : Type 0} (xs : List X) (i : ℕ) → IsSome (slice_get xs i) → i < length xs
within-some [] i some = absurd (false≢true some)
within-some (x ∷ xs) zero some = omega arith
within-some (x ∷ xs) (suc i) some = omega (arith, within-some xs i some)

some-first : {X Y : Type 0} (f : X → Option Y) (o : Option X) → IsSome (option_and_then f o) → IsSome o
some-first f None some = some
some-first f (Some x) some = refl

same_pairs : (a b : List (ℕ × ℕ)) → ◌≡◌ {A = Option (List (ℕ × ℕ))} (Some a) (Some b) → a ≡ b
same_pairs a b e = cc

same_pair : (a b : ℕ × ℕ) → ◌≡◌ {A = Option (ℕ × ℕ)} (Some a) (Some b) → a ≡ b
same_pair a b e = cc

same_number : (a b : ℕ) → ◌≡◌ {A = Option ℕ} (Some a) (Some b) → a ≡ b
same_number a b e = cc

module _ (g : Spaces) (guide : IsGuide g) (first now : Contents) (a b : AutoView) (auto_a : IsAuto g first a)
    (auto_b : IsAuto g first b) (spaces : List (List (ℕ × ℕ))) (are : AreSpaces g (pairs (automaton_of first a) (automaton_of first b)) spaces)
    (parts : List Part) (many : length parts ≡ length g) (roots : List NodeRef)
    (built : AreParts g (pairs (automaton_of first a) (automaton_of first b)) a b spaces now roots parts)
    (table : ℕ) (root_pairs : List (ℕ × ℕ)) (at_root : slice_get spaces 0 ≡ Some root_pairs) where
  abbrev pub both : Automaton (ℕ × ℕ)
  both = pairs (automaton_of first a) (automaton_of first b)

  abbrev pub made : AutoView
  made = record {
    table = table;
    parts = parts;
    accepting = map (λ pair. is_accepting a pair.0 && is_accepting b pair.1) root_pairs;
  }

  abbrev pub pair_of : ℕ → ℕ → ℕ × ℕ
  pair_of s q = unwrap_or (slice_get (unwrap_or (slice_get spaces s) []) q) (0, 0)

  -- the part and the pairs of a space
  record At (s : ℕ) : Type 0 where
    part : Part
    there : slice_get parts s ≡ Some part
    of : IsPartOf g both a b spaces now roots s part

  at : (s : ℕ) → IsSpace g s → At s
  at s inside =
      let part = get-index parts s (omega (arith, many)) in
      record { part = part.0; there = part.1; of = built.each s part.0 part.1 }

  pairs-at : (s : ℕ) → IsSpace g s → (pairs : List (ℕ × ℕ)) × (slice_get spaces s ≡ Some pairs)
  pairs-at s inside = get-index spaces s (omega (arith, are.many))

  states-at : (s : ℕ) → IsSpace g s → (numbers : List (ℕ × ℕ)) → slice_get spaces s ≡ Some numbers → states_of made s ≡ length numbers
  states-at s inside numbers is =
      let here = at s inside in
      ap (λ (o : Option Part). unwrap_or (option_map (λ part. part.states) o) 0) here.there ∙ here.of.built.states
      ∙ ap (λ (ps : List (ℕ × ℕ)). length ps) (same_pairs _ _ (sym here.of.at ∙ is))

  pair-at : (s q : ℕ) (numbers : List (ℕ × ℕ)) (p : ℕ × ℕ) → slice_get spaces s ≡ Some numbers → slice_get numbers q ≡ Some p → pair_of s q ≡ p
  pair-at s q numbers p is there =
      ap (λ (o : Option (List (ℕ × ℕ))). unwrap_or (slice_get (unwrap_or o []) q) (0, 0)) is
      ∙ ap (λ (o : Option (ℕ × ℕ)). unwrap_or o (0, 0)) there

  -- a state is the number of a pair
  record IsNumberOf (s q : ℕ) : Type 0 where
    numbers : List (ℕ × ℕ)
    pair : ℕ × ℕ
    is : slice_get spaces s ≡ Some numbers
    there : slice_get numbers q ≡ Some pair

  number-of : (s q : ℕ) → IsSpace g s → Below (states_of made) s q → IsNumberOf s q
  number-of s q inside below =
      let numbers = pairs-at s inside in
      let within : q < length numbers.0 = omega (arith, ltb-true q (states_of made s) below, states-at s inside numbers.0 numbers.1) in
      let pair = get-index numbers.0 q within in
      record { numbers = numbers.0; pair = pair.0; is = numbers.1; there = pair.1 }

  below-number : (s q : ℕ) → IsSpace g s → (numbers : List (ℕ × ℕ)) (p : ℕ × ℕ) → slice_get spaces s ≡ Some numbers →
      slice_get numbers q ≡ Some p → Below (states_of made) s q
  below-number s q inside numbers p is there =
      lt-ltb q (states_of made s) (omega (arith, slice_get_within numbers q p there, states-at s inside numbers is))

  over-made : guide_of made ≡ g
  over-made = ext (guide_of made) g (λ s. slice_get-map (λ part. part.children) parts s ∙ pick s (slice_get parts s) refl)
    where
      pick : (s : ℕ) (o : Option Part) → slice_get parts s ≡ o → option_map (λ part. part.children) o ≡ slice_get g s
      pick s None none = sym (slice_get_past g s (omega (arith, past-none parts s none, many)))
      pick s (Some part) there = sym (built.each s part there).built.children

  pub IsWhole-made : IsWhole made
  IsWhole-made = record {
    guide = subst IsGuide (sym over-made) guide;
    few = λ s. pick s (slice_get parts s) refl;
    accepting = length-map root_pairs (λ (pair : ℕ × ℕ). is_accepting a pair.0 && is_accepting b pair.1)
        ∙ sym (states-at 0 guide.not_empty root_pairs at_root);
  }
    where
      pick : (s : ℕ) (o : Option Part) → slice_get parts s ≡ o → unwrap_or (option_map (λ part. part.states) o) 0 ≤ 2 ^ 31
      pick s None none = omega arith
      pick s (Some part) there =
          let of = built.each s part there in
          let few = (are.each s of.pairs of.at).numbers.few in
          omega (arith, of.built.states, few)

  module _ (after : Contents) (adds : AddsTable now after table roots) where
    -- the root for states of both children
    record HasStep (s l r : ℕ) (p q : ℕ × ℕ) : Type 0 where
      numbers : List (ℕ × ℕ)
      is : slice_get spaces s ≡ Some numbers
      root : NodeRef
      at : root_at after made s l r ≡ Some root
      cell : IsCell both s numbers p q now root

    has-step : (s l r : ℕ) → IsSpace g s → (lefts rights : List (ℕ × ℕ)) (p q : ℕ × ℕ) → slice_get spaces (left g s) ≡ Some lefts →
        slice_get spaces (right g s) ≡ Some rights → slice_get lefts l ≡ Some p → slice_get rights r ≡ Some q → HasStep s l r p q
    unfolding root_at
    has-step s l r inside lefts rights p q is_left is_right at_l at_r =
        let here = at s inside in
        let of = here.of in
        let root = has-root g first a b s of.lefts of.rights of.pairs of.first of.second of.in_first of.in_second now roots here.part of.built l r p q
        (ap (λ (ps : List (ℕ × ℕ)). slice_get ps l) (same_pairs _ _ (sym of.at_left ∙ is_left)) ∙ at_l)
        (ap (λ (ps : List (ℕ × ℕ)). slice_get ps r) (same_pairs _ _ (sym of.at_right ∙ is_right)) ∙ at_r) in
        record {
          numbers = of.pairs;
          is = of.at;
          root = root.root;
          at = ap (λ (o : Option Part). option_and_then (root_of after table) (option_and_then (λ (part : Part). place_in part l r) o)) here.there
              ∙ ap (option_and_then (root_of after table)) root.at
              ∙ ap (λ (o : Option (List NodeRef)). option_and_then (λ (rs : List NodeRef). slice_get rs root.place) o) adds.roots
              ∙ root.there;
          cell = root.cell;
        }

    state-after : (root : NodeRef) (label : Label) → state_of after root label ≡ state_of now root label
    state-after root label = ap (λ (nodes : List Node). state_named nodes (node_of root) label) adds.nodes.nodes

    -- a step gives the number of the pair that both steps give
    step-number : (s l r : ℕ) (p q : ℕ × ℕ) (step : HasStep s l r p q) (label : Label) →
        slice_get step.numbers ((automaton_of after made).step s l r label) ≡ Some (both.step s p q label)
    step-number s l r p q step label =
        subst (λ (n : ℕ). slice_get step.numbers n ≡ Some (both.step s p q label))
        (sym (state-after step.root label) ∙ step-some after made s l r label step.root step.at)
        (number_in-get step.numbers (both.step s p q label) (state_of now step.root label) (step.cell.states label))

    initial-made : (s : ℕ) → IsSpace g s → (automaton_of after made).initial s ≡ 0
    unfolding automaton_of
    initial-made s inside =
        let here = at s inside in
        ap (λ (o : Option Part). unwrap_or (option_map (λ part. part.initial) o) 0) here.there ∙ here.of.built.initial

    accepting-made : (q : ℕ) (p : ℕ × ℕ) → slice_get root_pairs q ≡ Some p →
        (automaton_of after made).accepting q ≡ (is_accepting a p.0 && is_accepting b p.1)
    unfolding automaton_of
    accepting-made q p there =
        ap (λ (o : Option Bool). unwrap_or o false) (slice_get-map (λ (pair : ℕ × ℕ). is_accepting a pair.0 && is_accepting b pair.1) root_pairs q
        ∙ ap (option_map (λ (pair : ℕ × ℕ). is_accepting a pair.0 && is_accepting b pair.1)) there)

    both-accepting : (p : ℕ × ℕ) → both.accepting p ≡ (is_accepting a p.0 && is_accepting b p.1)
    unfolding automaton_of
    both-accepting p = refl

    closed-made : IsClosed g (automaton_of after made) (Below (states_of made))
    closed-made = record {
      initial = λ s inside.
          let numbers = pairs-at s inside in
          subst (Below (states_of made) s) (sym (initial-made s inside))
          (below-number s 0 inside numbers.0 (both.initial s) numbers.1 (are.each s numbers.0 numbers.1).initial);
      step = λ s l r label inside in_left in_right.
          let x = number-of (left g s) l (guide.left_inside s inside) in_left in
          let y = number-of (right g s) r (guide.right_inside s inside) in_right in
          let step = has-step s l r inside x.numbers y.numbers x.pair y.pair x.is y.is x.there y.there in
          below-number s ((automaton_of after made).step s l r label) inside step.numbers (both.step s x.pair y.pair label) step.is
          (step-number s l r x.pair y.pair step label);
    }

    naming-made : IsNaming g (automaton_of after made) (Below (states_of made)) both pair_of
    naming-made = record {
      initial = λ s inside.
          let numbers = pairs-at s inside in
          ap (pair_of s) (initial-made s inside)
          ∙ pair-at s 0 numbers.0 (both.initial s) numbers.1 (are.each s numbers.0 numbers.1).initial;
      step = λ s l r label inside in_left in_right.
          let x = number-of (left g s) l (guide.left_inside s inside) in_left in
          let y = number-of (right g s) r (guide.right_inside s inside) in_right in
          let step = has-step s l r inside x.numbers y.numbers x.pair y.pair x.is y.is x.there y.there in
          pair-at s ((automaton_of after made).step s l r label) step.numbers (both.step s x.pair y.pair label) step.is
          (step-number s l r x.pair y.pair step label)
          ∙ ap (λ (p : ℕ × ℕ). both.step s p y.pair label) (sym (pair-at (left g s) l x.numbers x.pair x.is x.there))
          ∙ ap (λ (q : ℕ × ℕ). both.step s (pair_of (left g s) l) q label) (sym (pair-at (right g s) r y.numbers y.pair y.is y.there));
      accepting = λ q below.
          let x = number-of 0 q guide.not_empty below in
          let there = ap (λ (ps : List (ℕ × ℕ)). slice_get ps q) (same_pairs _ _ (sym at_root ∙ x.is)) ∙ x.there in
          accepting-made q x.pair there ∙ sym (both-accepting x.pair)
          ∙ ap (λ (p : ℕ × ℕ). both.accepting p) (sym (pair-at 0 q x.numbers x.pair x.is x.there));
    }

    once-made : IsOnce g (Below (states_of made)) pair_of
    once-made = record {
      once = λ s l r inside in_l in_r same.
          let x = number-of s l inside in_l in
          let y = number-of s r inside in_r in
          let numbers = are.each s x.numbers x.is in
          let y_there : slice_get x.numbers r ≡ Some y.pair = ap (λ (ps : List (ℕ × ℕ)). slice_get ps r) (same_pairs _ _ (sym x.is ∙ y.is)) ∙ y.there in
          let equal : x.pair ≡ y.pair = sym (pair-at s l x.numbers x.pair x.is x.there) ∙ same ∙ pair-at s r y.numbers y.pair y.is y.there in
          same_number l r (sym (numbers.numbers.found l x.pair x.there) ∙ ap (number_in x.numbers) equal ∙ numbers.numbers.found r y.pair y_there);
    }

    -- each generated pair has a generated number
    record IsNamed (s : ℕ) (p : ℕ × ℕ) : Type 0 where
      name : ℕ
      below : Below (states_of made) s name
      generated : Generated g (automaton_of after made) s name
      is : pair_of s name ≡ p

    named : (s : ℕ) (p : ℕ × ℕ) → Generated g both s p → IsNamed s p
    named _ _ (starts s inside) = record {
      name = (automaton_of after made).initial s;
      below = closed-made.initial s inside;
      generated = starts s inside;
      is = naming-made.initial s inside;
    }
    named _ _ (steps s p q label inside l r) =
        let x = named (left g s) p l in
        let y = named (right g s) q r in
        record {
          name = (automaton_of after made).step s x.name y.name label;
          below = closed-made.step s x.name y.name label inside x.below y.below;
          generated = steps s x.name y.name label inside x.generated y.generated;
          is = naming-made.step s x.name y.name label inside x.below y.below
              ∙ ap (λ (u : ℕ × ℕ). both.step s u (pair_of (right g s) y.name) label) x.is
              ∙ ap (λ (v : ℕ × ℕ). both.step s p v label) y.is;
        }

    generated-made : IsGenerated g (automaton_of after made) (Below (states_of made))
    generated-made = record {
      state = λ s q inside below.
          let x = number-of s q inside below in
          let name = named s x.pair ((are.each s x.numbers x.is).generated q x.pair x.there) in
          subst (Generated g (automaton_of after made) s)
          (once-made.once s name.name q inside name.below below (name.is ∙ sym (pair-at s q x.numbers x.pair x.is x.there))) name.generated;
    }

    pub IsProduct-made : IsProduct g (automaton_of first a) (automaton_of first b) (automaton_of after made) (Below (states_of made)) pair_of
    IsProduct-made = IsProduct-generated g guide (automaton_of first a) (automaton_of first b) auto_a.stable auto_b.stable (automaton_of after made)
        (Below (states_of made)) pair_of closed-made generated-made naming-made once-made

    -- where a root stands, the space and the states are known
    record IsKnown (s l r : ℕ) : Type 0 where
      inside : IsSpace g s
      in_left : Below (states_of made) (left g s) l
      in_right : Below (states_of made) (right g s) r

    known-part : (s l r : ℕ) (o : Option Part) → slice_get parts s ≡ o → IsSome (option_and_then (λ (part : Part). place_in part l r) o) → IsKnown s l r
    known-part s l r None none some = absurd (false≢true some)
    known-part s l r (Some part) there some =
        let inside : IsSpace g s = omega (arith, slice_get_within parts s part there, many) in
        let of = built.each s part there in
        let at_row = some-first _ (slice_get part.rows l) some in
        let at_column = column (slice_get part.rows l) some in
        let p = get-index of.lefts l (omega (arith, within-some part.rows l at_row, of.built.row_classes.many)) in
        let q = get-index of.rights r (omega (arith, within-some part.columns r at_column, of.built.column_classes.many)) in
        record {
          inside = inside;
          in_left = below-number (left g s) l (guide.left_inside s inside) of.lefts p.0 of.at_left p.1;
          in_right = below-number (right g s) r (guide.right_inside s inside) of.rights q.0 of.at_right q.1;
        }
      where
        column : (row : Option ℕ) → IsSome (option_and_then (λ (row : ℕ). option_and_then (λ (column : ℕ).
            option_map (λ (cell : ℕ). part.first + cell) (slice_get part.cells (row * part.width + column))) (slice_get part.columns r)) row) →
            IsSome (slice_get part.columns r)
        column None some = absurd (false≢true some)
        column (Some row) some = some-first _ (slice_get part.columns r) some

    known-root : (s l r : ℕ) → IsSome (root_at after made s l r) → IsKnown s l r
    unfolding root_at
    known-root s l r some = known-part s l r (slice_get parts s) refl
        (some-first (root_of after table) (place_of made s l r) some)

    complete-made : (s l r : ℕ) → IsSome (root_at after made s l r) ↔ (IsSpace g s × IsChildPair g (Below (states_of made)) s (l, r))
    complete-made s l r = (
      λ some. (let k = known-root s l r some in (k.inside, (k.in_left, k.in_right))),
      λ pair.
          let x = number-of (left g s) l (guide.left_inside s pair.0) pair.1.0 in
          let y = number-of (right g s) r (guide.right_inside s pair.0) pair.1.1 in
          let step = has-step s l r pair.0 x.numbers y.numbers x.pair y.pair x.is y.is x.there y.there in
          ap (λ (o : Option NodeRef). is_some o) step.at,
    )

    -- a place of the part of a space is used
    used-in : (space : ℕ) (part : Part) → slice_get parts space ≡ Some part → (place : ℕ) → HasPlace part place → IsUsed made place
    used-in space part at place has = record {
      space = space;
      left = has.left;
      right = has.right;
      there = ap (λ (o : Option Part). option_and_then (λ (part : Part). place_in part has.left has.right) o) at ∙ has.there;
    }

    used-made : (place : ℕ) → IsSome (root_of after table place) → IsUsed made place
    used-made place some =
        let at_place = subst (λ (o : Option (List NodeRef)). IsSome (option_and_then (λ (rs : List NodeRef). slice_get rs place) o)) adds.roots some in
        let u = built.used place (within-some roots place at_place) in
        let of = built.each u.space u.part u.at in
        used-in u.space u.part u.at place
        (is-place g first a b u.space of.lefts of.rights of.pairs of.first of.second of.in_first of.in_second now roots u.part of.built
        place u.from u.to)

    pub IsAuto-made : IsAuto g after made
    IsAuto-made = record {
      over = over-made;
      registered = ap (λ (o : Option (List NodeRef)). is_some o) adds.roots;
      complete = complete-made;
      used = used-made;
      closed = closed-made;
      stable = IsStable-closed g guide (automaton_of after made) (Below (states_of made)) both pair_of closed-made naming-made once-made
          (IsStable-pairs g (automaton_of first a) (automaton_of first b) auto_a.stable auto_b.stable);
    }

-- spaces that keep their pairs, and have as many, are the same
pub same-spaces : (old new : List (List (ℕ × ℕ))) → ExtendAll old new →
    map (λ (pairs : List (ℕ × ℕ)). length pairs) old ≡ map (λ (pairs : List (ℕ × ℕ)). length pairs) new → old ≡ new
same-spaces old new extends counts = ext old new (λ s. pick s (slice_get old s) (slice_get new s) refl refl)
  where
    count-at : (s : ℕ) → option_map (λ (pairs : List (ℕ × ℕ)). length pairs) (slice_get old s) ≡ option_map (λ (pairs : List (ℕ × ℕ)). length
        pairs) (slice_get new s)
    count-at s = sym (slice_get-map (λ (pairs : List (ℕ × ℕ)). length pairs) old s)
        ∙ ap (λ (ns : List ℕ). slice_get ns s) counts ∙ slice_get-map (λ (pairs : List (ℕ × ℕ)). length pairs) new s

    pick : (s : ℕ) (o n : Option (List (ℕ × ℕ))) → slice_get old s ≡ o → slice_get new s ≡ n → slice_get old s ≡ slice_get new s
    pick s None None none gone = none ∙ sym gone
    pick s None (Some more) none there = absurd (omega (arith, past-none old s none, slice_get_within new s more there, extends.many))
    pick s (Some pairs) None there gone = absurd (omega (arith, past-none new s gone, slice_get_within old s pairs there, extends.many))
    pick s (Some pairs) (Some more) was is =
        let counted : ◌≡◌ {A = Option ℕ} (Some (length pairs)) (Some (length more)) =
        ap (option_map (λ (ps : List (ℕ × ℕ)). length ps)) (sym was) ∙ count-at s ∙ ap (option_map (λ (ps : List (ℕ × ℕ)). length ps)) is in
        was ∙ ap (λ (ps : List (ℕ × ℕ)). let o : Option (List (ℕ × ℕ)) = Some ps in o)
        (extends-same pairs more (extends.each s pairs more was is)
        (let many = same_number (length pairs) (length more) counted in omega arith)) ∙ sym is
