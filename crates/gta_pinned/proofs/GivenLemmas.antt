-- The parts that were made give an automaton, and what it accepts.
use Rattle.std.proofs.Common.{◌≡◌, ◌↔◌, ℕ, ◌+◌, ◌*◌, ◌<◌, Bool, false, nat_eq, List, [], length, get_or, Option, Some, None}
use Rattle.std.proofs.Common.{sym, ap, subst, ◌∙◌, arith}
use Rattle.std.specs.Prelude.{slice_get, unwrap_or, option_map, option_and_then}
use Rattle.std.specs.List.{range_with_len}
use Rattle.std.proofs.lemmas.Bool.{ltb-true, lt-ltb}
use Rattle.std.proofs.Math.Nat.{mul_comm}
use Rattle.std.proofs.lemmas.Nat.{mul-add-lt}
use Rattle.std.proofs.lemmas.Option.{slice_get-map, slice_get-get_or, slice_get_within}
use Rattle.std.proofs.lemmas.List.FromFn.{get_or-range_with_len, length-range_with_len, length-map-range_with_len}
use Rattle.labels.specs.Labels.{Label}
use Rattle.bdd_nodes.specs.declared.node_ref.NodeRef.{NodeRef}
use Rattle.bdd_nodes.specs.Shelf.{Contents, IsShelf, state_of}
use Rattle.gta_theory.specs.Assignments.{Assignment, Covers}
use Rattle.gta_theory.specs.Guides.{Spaces, IsGuide, IsSpace, left, right}
use Rattle.gta_theory.specs.Automata.{Automaton, Accepts}
use Rattle.gta_theory.specs.Constructions.{IsClosed}
use Rattle.gta_theory.specs.Numbered.{Below}
use Rattle.ws2s_core.specs.declared.track.Track.{Track}
use Rattle.ws2s_core.specs.declared.label_tree.TreeNode.{TreeNode}
use Rattle.ws2s_core.specs.LabelTrees.{IsTree, assignment_of}
use Rattle.gta_core.specs.declared.build.SpacePart.{SpacePart}
use Rattle.gta_core.specs.Given.{given_states, given_initial, given_root, given_automaton, IsGiven}
use Rattle.gta_core.proofs.PlacingLemmas.{given_root-known}
use Rattle.gta_pinned.specs.declared.shapes.Shape.{Shape}
use Rattle.gta_pinned.specs.Alike.{AreAlikeOn}
use Rattle.gta_pinned.specs.Shapes.{IsStep, AreShapes, shapes_in}
use Rattle.gta_pinned.specs.States.{AreRising, AreOfTree}
use Rattle.gta_pinned.specs.Parts.{AreAllUsable, IsPartIn, count_in, are_only}
use Rattle.gta_pinned.proofs.LawLemmas.{AreAlike, HasSteps, step-small, some-shape, stable, accepts-alike}

-- the tracks in rising order are the tracks
alike-rising : (tracks : List Track) (rising : List ℕ) (a b : Assignment) → AreRising tracks rising → AreAlike rising a b → AreAlikeOn tracks a b
alike-rising tracks rising a b same alike track p inside = alike track.0 p ((same.same track.0).1 (track, inside, (λ i. track.0)))

alike-tracks : (tracks : List Track) (rising : List ℕ) (a b : Assignment) → AreRising tracks rising → AreAlikeOn tracks a b → AreAlike rising a b
alike-tracks tracks rising a b same alike t p inside =
    let track = (same.same t).0 inside in
    subst (λ (u : ℕ). a u p ≡ b u p) track.2 (alike track.0 p track.1)

-- shapes may be used for roots
pub AreAllUsable-shapes : (g : Spaces) (shelf : Contents) (tracks : List ℕ) (lists : List (List Shape)) → IsGuide g → AreShapes g shelf tracks lists →
    AreAllUsable g shelf lists
AreAllUsable-shapes g shelf tracks lists guide shapes = record {
  many = shapes.many;
  each = λ s there. record {
    test = λ k shape at. (shapes.each s k shape there at).tells.valid;
    left = λ k shape at. let top = (shapes.each s k shape there at).left.1 in omega arith;
    right = λ k shape at. let top = (shapes.each s k shape there at).right.1 in omega arith;
    few = (shapes.listed s there).few;
    low = let few = (shapes.listed (left g s) (guide.left_inside s there)).few in omega arith;
    narrow = let few = (shapes.listed (right g s) (guide.right_inside s there)).few in omega arith;
  };
}

module _ (g : Spaces) (guide : IsGuide g) (shelf : Contents) (is_shelf : IsShelf shelf) (tracks : List ℕ) (lists : List (List Shape))
    (shapes : AreShapes g shelf tracks lists) (spaces : List SpacePart) (root : ℕ) (accepting : List Bool) (many : length spaces ≡ length g)
    (each : (s : ℕ) (part : SpacePart) → slice_get spaces s ≡ Some part → IsPartIn g shelf lists s part)
    (only : accepting ≡ are_only root (count_in lists 0)) where
  nothing : SpacePart
  nothing = record { states = 0; initial = 0; roots = [] }

  part_at : ℕ → SpacePart
  part_at s = get_or spaces s nothing

  at : (s : ℕ) → IsSpace g s → slice_get spaces s ≡ Some (part_at s)
  unfolding part_at
  at s there = slice_get-get_or spaces s nothing (let t : s < length g = there in omega arith)

  is_part : (s : ℕ) → IsSpace g s → IsPartIn g shelf lists s (part_at s)
  is_part s there = each s (part_at s) (at s there)

  states-at : (s : ℕ) → IsSpace g s → given_states spaces s ≡ count_in lists s
  states-at s there = ap (λ (o : Option SpacePart). unwrap_or (option_map (λ part. part.states) o) 0) (at s there) ∙ (is_part s there).states

  initial-at : (s : ℕ) → IsSpace g s → given_initial spaces s ≡ 1
  initial-at s there = ap (λ (o : Option SpacePart). unwrap_or (option_map (λ part. part.initial) o) 0) (at s there) ∙ (is_part s there).initial

  G : Automaton ℕ
  G = given_automaton g shelf spaces accepting

  abbrev Step : ℕ → ℕ → ℕ → Label → ℕ → Type 0
  Step s l r label q = IsStep shelf (shapes_in lists s) (length (shapes_in lists s)) l r label q

  -- the root of a pair, and its step
  step-root : (s l r : ℕ) (label : Label) (found : Option NodeRef) → IsSpace g s → l < count_in lists (left g s) → r < count_in lists (right g s) →
      slice_get (part_at s).roots (l * count_in lists (right g s) + r) ≡ found →
      l * count_in lists (right g s) + r < length (part_at s).roots →
      Step s l r label (unwrap_or (option_map (state_of shelf) found) (λ (m : Label). 0) label)
  step-root s l r label None there l_in r_in is inside = absurd (
      let e = slice_get-get_or (part_at s).roots (l * count_in lists (right g s) + r) (record { word = 0 }) inside in cc)
  step-root s l r label (Some found) there l_in r_in is inside = (is_part s there).roots.steps l r found label l_in r_in is

  step-given : (s l r : ℕ) (label : Label) → IsSpace g s → l < count_in lists (left g s) → r < count_in lists (right g s) →
      Step s l r label (G.step s l r label)
  unfolding G given_automaton
  step-given s l r label there l_in r_in =
      let L = states-at (left g s) (guide.left_inside s there) in
      let R = states-at (right g s) (guide.right_inside s there) in
      let known : given_root g spaces s l r ≡ slice_get (part_at s).roots (l * count_in lists (right g s) + r) =
      given_root-known g spaces s l r (omega arith) (omega arith)
      ∙ ap (λ (o : Option SpacePart). option_and_then (λ (part : SpacePart). slice_get part.roots (l * given_states spaces (right g s) + r)) o) (at s there)
      ∙ ap (λ (w : ℕ). slice_get (part_at s).roots (l * w + r)) R in
      step-root s l r label (given_root g spaces s l r) there l_in r_in (sym known)
      (omega (
        arith,
        mul-add-lt l (count_in lists (right g s)) r (count_in lists (left g s)) l_in r_in,
        mul_comm (count_in lists (left g s)) (count_in lists (right g s)),
        (is_part s there).roots.many,
      ))

  has-steps : HasSteps g shelf lists G
  unfolding G given_automaton
  has-steps = record { initial = initial-at; step = step-given }

  only-at : (q : ℕ) → q < count_in lists 0 → slice_get (are_only root (count_in lists 0)) q ≡ Some (nat_eq q root)
  only-at q below =
      slice_get-map (λ i. nat_eq i root) (range_with_len 0 (count_in lists 0)) q
      ∙ ap (λ (o : Option ℕ). option_map (λ i. nat_eq i root) o)
      (slice_get-get_or (range_with_len 0 (count_in lists 0)) q 0 (omega (arith, length-range_with_len 0 (count_in lists 0)))
      ∙ ap Some (get_or-range_with_len 0 (count_in lists 0) q 0 below ∙ (let e : 0 + q ≡ q = omega arith in e)))

  accepting-given : (q : ℕ) → q < count_in lists 0 → G.accepting q ≡ nat_eq q root
  unfolding G given_automaton
  accepting-given q below =
      ap (λ (bs : List Bool). unwrap_or (slice_get bs q) false) only ∙ ap (λ (o : Option Bool). unwrap_or o false) (only-at q below)

  below-at : (s q : ℕ) → IsSpace g s → q < count_in lists s → Below (given_states spaces) s q
  below-at s q there less = lt-ltb q (given_states spaces s) (omega (arith, states-at s there))

  at-below : (s q : ℕ) → IsSpace g s → Below (given_states spaces) s q → q < count_in lists s
  at-below s q there below = omega (arith, ltb-true q (given_states spaces s) below, states-at s there)

  closed : IsClosed g G (Below (given_states spaces))
  closed = record {
    initial = λ s there. below-at s (G.initial s) there
        (subst (λ (q : ℕ). q < count_in lists s) (sym (has-steps.initial s there)) (some-shape g guide shelf is_shelf tracks lists shapes s there));
    step = λ s l r label there l_in r_in. below-at s (G.step s l r label) there
        (step-small shelf (shapes_in lists s) (length (shapes_in lists s)) l r label (G.step s l r label)
        (has-steps.step s l r label there (at-below (left g s) l (guide.left_inside s there) l_in) (at-below (right g s) r (guide.right_inside s there) r_in)));
  }

  pub IsGiven-parts : IsGiven g shelf spaces accepting
  unfolding G
  IsGiven-parts = record {
    each_space = many;
    each_state = ap (λ (bs : List Bool). length bs) only ∙ length-map-range_with_len (λ i. nat_eq i root) 0 (count_in lists 0)
        ∙ sym (states-at 0 guide.not_empty);
    complete = λ s part found.
        let there : IsSpace g s = (let w = slice_get_within spaces s part found in omega arith) in
        (each s part found).roots.many
        ∙ (λ k. sym (states-at (left g s) (guide.left_inside s there)) k * sym (states-at (right g s) (guide.right_inside s there)) k);
    valid = λ s part found. (each s part found).roots.valid;
    closed = closed;
    stable = stable g guide shelf is_shelf tracks lists shapes G has-steps;
  }

-- what the automaton of a tree's shapes accepts
module _ (g : Spaces) (guide : IsGuide g) (shelf : Contents) (is_shelf : IsShelf shelf) (tracks : List Track) (nodes : List TreeNode) (tree : IsTree nodes)
    (lists : List (List Shape)) (root : ℕ) (of_tree : AreOfTree g shelf tracks nodes lists root) (spaces : List SpacePart) (accepting : List Bool)
    (many : length spaces ≡ length g) (each : (s : ℕ) (part : SpacePart) → slice_get spaces s ≡ Some part → IsPartIn g shelf lists s part)
    (only : accepting ≡ are_only root (count_in lists 0)) where
  abbrev made : Automaton ℕ
  made = given_automaton g shelf spaces accepting

  pub accepts-given : (n : ℕ) (a : Assignment) → Covers n a →
      Accepts g (given_automaton g shelf spaces accepting) a ↔ AreAlikeOn tracks (assignment_of nodes) a
  unfolding G
  accepts-given n a covers =
      let steps = has-steps g guide shelf is_shelf of_tree.rising lists of_tree.shapes spaces root accepting many each only in
      let both = accepts-alike g guide shelf is_shelf of_tree.rising lists of_tree.shapes made steps nodes tree of_tree.spaces of_tree.are_spaces
      of_tree.states of_tree.many of_tree.are_states root of_tree.is_root
      (accepting-given g guide shelf is_shelf of_tree.rising lists of_tree.shapes spaces root accepting many each only) n a covers in (
        (λ accepts. alike-rising tracks of_tree.rising (assignment_of nodes) a of_tree.are_rising (both.0 accepts)),
        (λ alike. both.1 (alike-tracks tracks of_tree.rising (assignment_of nodes) a of_tree.are_rising alike)),
      )
