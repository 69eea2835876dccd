-- The child states that give states of a class, from the index of who uses what.
use Rattle.std.proofs.Common.{◌≡◌, ℕ, ◌<◌, true, List, length, map, Some}
use Rattle.std.proofs.Common.{sym, ◌∙◌, ap, refl, subst, arith}
use Rattle.std.specs.Prelude.{Contains, flat_map, slice_get, slice_index, ◌↔◌}
use Rattle.labels.specs.Labels.{Label}
use Rattle.bdd_list.specs.declared.listing.Listed.{Listed}
use Rattle.bdd_list.specs.declared.listing.Listed.TheVariants.{Leaf, Inner}
use Rattle.bdd_list.specs.Listing.{function_in, function_of, IsIn}
use Rattle.bdd_list.proofs.ListingLemmas.{function_in-leaf}
use Rattle.gta_theory.specs.Guides.{IsSpace}
use Rattle.gta_theory.specs.Automata.{Has}
use Rattle.gta_theory.proofs.AutomataLemmas.{IsClosed-reached}
use Rattle.gta_reach.specs.declared.form.FormSpace.{FormSpace}
use Rattle.gta_reach.specs.declared.form.Form.{Form}
use Rattle.gta_classes.specs.declared.part.SpaceClasses.{SpaceClasses}
use Rattle.gta_reach.specs.declared.sides.Side.{Side}
use Rattle.gta_reach.specs.declared.sides.Side.TheVariants.{Left, Right}
use Rattle.gta_refine.specs.declared.uses.SpaceUses.{SpaceUses}
use Rattle.gta_reach.specs.Form.{root_in, guide_of, states_of, automaton_of, IsForm}
use Rattle.gta_reach.specs.Sides.{kinds_in, cell_at, HasRootAt, child_at, opposite, step_by}
use Rattle.gta_classes.specs.Lists.{list_at, Leads}
use Rattle.gta_refine.specs.Uses.{above_of, HasPlace, side_of, IsOwn, AreSideUses, IsUses}
use Rattle.gta_refine.specs.Givers.{AreClimbed, AreMembers, Gives, AreGivers}
use Rattle.gta_refine.specs.Refined.{part_at, is_reached_in, class_at, ArePartition}
use Rattle.gta_classes.proofs.ChosenLemmas.{marked-inside}
use Rattle.gta_reach.proofs.ReachLemmas.{step-at}
use Rattle.gta_refine.proofs.RowsLemmas.{cell_at-same}
use Rattle.gta_refine.proofs.RefineLemmas.{there-is, child-space, has_root-at}
use Rattle.gta_classes.proofs.ListsLemmas.{FromSome-flat_map, Contains-flat_map, FromMap-map, Contains-map}

module _ (form : Form) (is_form : IsForm form) (spaces : List SpaceClasses) (partition : ArePartition form spaces)
    (s : ℕ) (space : FormSpace) (at : slice_get form.spaces s ≡ Some space) (class : ℕ) (states : List ℕ)
    (members : AreMembers (part_at spaces s) class states) where
  there : IsSpace (guide_of form) s
  there = there-is form is_form spaces partition s space at

  -- the states of the class are states of the space
  pub member-small : (q : ℕ) → Contains states q → q < states_of form s
  member-small q in_states =
      let i = marked-inside (part_at spaces s).reached q (members.sound q in_states).0 in
      let m = partition.many s there in
      omega arith

  module _ (uses : SpaceUses) (is_uses : IsUses form s space uses) (side : Side) (list : List Listed)
      (climbed : AreClimbed space.listing.nodes states list) (owners once : List ℕ)
      (owners_are : owners ≡ flat_map (list_at (side_of uses side).owners) (flat_map (above_of uses.roots.leaves uses.roots.nodes) list))
      (same : (number : ℕ) → Contains once number ↔ Contains owners number) where
    side-uses : (k : Side) → AreSideUses form s space k (side_of uses k)
    side-uses Left = is_uses.left
    side-uses Right = is_uses.right

    own-reached : (k : Side) (q : ℕ) → IsOwn form s k q → is_reached_in spaces (child_at (guide_of form) k s) q ≡ true
    own-reached k q value = (partition.reached.state (child_at (guide_of form) k s) q (child-space form is_form spaces partition s space at k)).1 value

    reached-own : (k : Side) (q : ℕ) → is_reached_in spaces (child_at (guide_of form) k s) q ≡ true → IsOwn form s k q
    reached-own k q reached = (partition.reached.state (child_at (guide_of form) k s) q (child-space form is_form spaces partition s space at k)).0 reached

    step-cell : (k : Side) (p b : ℕ) (label : Label) →
        step_by (automaton_of form) s k p b label ≡ function_of space.listing (root_in space (cell_at space k p b)) label
    step-cell Left p b label = step-at form s space at p b label
    step-cell Right p b label = step-at form s space at b p label

    step-reached : (k : Side) (p b : ℕ) (label : Label) → is_reached_in spaces (child_at (guide_of form) k s) p ≡ true →
        is_reached_in spaces (child_at (guide_of form) (opposite k) s) b ≡ true →
        is_reached_in spaces s (step_by (automaton_of form) s k p b label) ≡ true
    step-reached Left p b label p_reached b_reached =
        (IsClosed-reached (guide_of form) is_form.guide (automaton_of form) is_form.stable (Has (is_reached_in spaces)) partition.reached).step
        s p b label there p_reached b_reached
    step-reached Right p b label p_reached b_reached =
        (IsClosed-reached (guide_of form) is_form.guide (automaton_of form) is_form.stable (Has (is_reached_in spaces)) partition.reached).step
        s b p label there b_reached p_reached

    -- an owner gives a state of the class
    owner-gives : (o q : ℕ) → Contains once o → slice_index (kinds_in space side) q ≡ slice_index (kinds_in space side) o → Gives form spaces s side class q
    owner-gives o q o_in alike =
        let from_root = FromSome-flat_map (list_at (side_of uses side).owners) (flat_map (above_of uses.roots.leaves uses.roots.nodes) list) o
        (subst (λ (xs : List ℕ). Contains xs o) owners_are ((same o).0 o_in)) in
        let root = from_root.source in
        let from_list = FromSome-flat_map (above_of uses.roots.leaves uses.roots.nodes) list root from_root.among in
        let listed = from_list.source in
        let is_root = is_uses.roots.sound listed root from_list.has in
        let gives = (climbed.sound listed from_list.among).1 in
        let beside = ((side-uses side).owners_sound root o from_root.has).1 in
        let cell : cell_at space side q beside.other ≡ root = cell_at-same space side q o beside.other alike ∙ beside.root in
        let is : step_by (automaton_of form) s side q beside.other gives.label ≡ function_in space.listing.nodes listed gives.label =
        step-cell side q beside.other gives.label
        ∙ ap (λ (k : ℕ). function_of space.listing (root_in space k) gives.label) cell
        ∙ ap (λ (l : Listed). function_in space.listing.nodes l gives.label) is_root.1 in
        record {
          beside = beside.other;
          label = gives.label;
          reached = own-reached (opposite side) beside.other beside.value;
          gives = ap (class_at spaces s) is ∙ (members.sound (function_in space.listing.nodes listed gives.label) gives.gives).1;
        }

    root-is_in : (k : Side) (p b : ℕ) → HasRootAt space k p b → (cell_at space k p b < length space.listing.roots)
        × IsIn space.listing.nodes (root_in space (cell_at space k p b))
    root-is_in Left p b has = (has.root, has.inside)
    root-is_in Right p b has = (has.root, has.inside)

    has-place : (listed : Listed) (label : Label) → IsIn space.listing.nodes listed → Contains states (function_in space.listing.nodes listed label) →
        HasPlace uses.roots.leaves uses.roots.nodes listed
    has-place (Leaf y) label is_in gives =
        let small = member-small y (subst (Contains states) (function_in-leaf space.listing.nodes y label) gives) in
        let e = is_uses.roots_leaves in omega arith
    has-place (Inner j) label is_in gives = let e = is_uses.roots_nodes in omega arith

    -- the owner of what gives a state of the class is found
    owner-found : (q o : ℕ) (gives : Gives form spaces s side class q) → is_reached_in spaces (child_at (guide_of form) side s) q ≡ true →
        Leads (side_of uses side).owners (cell_at space side q gives.beside) o → Contains once o
    owner-found q o gives q_reached owns =
        let cell = cell_at space side q gives.beside in
        let listed = root_in space cell in
        let has = root-is_in side q gives.beside (has_root-at form is_form spaces partition s space at side q gives.beside q_reached gives.reached) in
        let is = step-cell side q gives.beside gives.label in
        let state : Contains states (function_in space.listing.nodes listed gives.label) =
        subst (Contains states) is (members.complete (step_by (automaton_of form) s side q gives.beside gives.label)
        (step-reached side q gives.beside gives.label q_reached gives.reached) gives.gives) in
        let in_list = climbed.complete listed has.1 (record { label = gives.label; gives = state }) in
        let in_roots = is_uses.roots.complete listed cell (has.0, refl) (has-place listed gives.label has.1 state) in
        (same o).1 (subst (λ (xs : List ℕ). Contains xs o) (sym owners_are)
        (Contains-flat_map (list_at (side_of uses side).owners) (flat_map (above_of uses.roots.leaves uses.roots.nodes) list) cell o
        (Contains-flat_map (above_of uses.roots.leaves uses.roots.nodes) list listed cell in_list in_roots) owns))

    pub AreGivers-found : (givers : List ℕ) →
        givers ≡ flat_map (list_at (side_of uses side).likes) (map (slice_index (kinds_in space side)) once) →
        AreGivers form spaces s side class givers
    AreGivers-found givers givers_are = record {
      sound = λ q q_in.
          let from_kind = FromSome-flat_map (list_at (side_of uses side).likes) (map (slice_index (kinds_in space side)) once) q
          (subst (λ (xs : List ℕ). Contains xs q) givers_are q_in) in
          let from_owner = FromMap-map (slice_index (kinds_in space side)) once from_kind.source from_kind.among in
          let like = (side-uses side).likes_sound from_kind.source q from_kind.has in
          (own-reached side q like.0, owner-gives from_owner.source q from_owner.among (like.1 ∙ sym from_owner.is));
      complete = λ q q_reached gives.
          let owner = (side-uses side).owners q gives.beside (reached-own side q q_reached) (reached-own (opposite side) gives.beside gives.reached) in
          let found = owner-found q owner.owner gives q_reached owner.owns in
          let kind = slice_index (kinds_in space side) q in
          let in_kinds : Contains (map (slice_index (kinds_in space side)) once) kind =
          subst (Contains (map (slice_index (kinds_in space side)) once)) owner.like
          (Contains-map (slice_index (kinds_in space side)) once owner.owner found) in
          subst (λ (xs : List ℕ). Contains xs q) (sym givers_are)
          (Contains-flat_map (list_at (side_of uses side).likes) (map (slice_index (kinds_in space side)) once) kind q in_kinds
          ((side-uses side).likes q (reached-own side q q_reached)));
    }
