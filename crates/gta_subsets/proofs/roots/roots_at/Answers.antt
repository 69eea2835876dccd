use Rattle.std.proofs.Common.{◌≡◌, ℕ, List, Option, Some, IsSome, [], take, get_or, sym, subst, arith}
use Rattle.std.specs.Prelude.{slice_get}
use Rattle.std.proofs.lemmas.List.{take_more, take_all}
use Rattle.std.proofs.lemmas.List.Elements.{Contains-get_or}
use Rattle.bdd_nodes.specs.declared.node_ref.NodeRef.{NodeRef}
use Rattle.gta_subsets.specs.Roots.{rooting_in, AddRoots}
use Rattle.gta_subsets.proofs.RootsLemmas.{AddRoots-left, AddRoots-same, AreRoots-made, rooting-of_part}
use Rattle.gta_subsets.proofs.roots.roots_at.Goals as goal

pub push_roots-requires : goal.push_roots-requires
push_roots-requires c = λ r there.
    let i = c.loop-left.left-index in
    let own : slice_get c.args.a.now.parts c.args.space ≡ Some c.in-Some.own.now = sym c.in-Some.ensures in
    subst (λ (o : Option NodeRef). IsSome o)
    (sym (rooting-of_part c.args.a.now c.args.table.now c.args.space c.in-Some.own.now own (get_or c.args.lefts.now i 0) r))
    (c.requires (get_or c.args.lefts.now i 0) r (Contains-get_or c.args.lefts.now i 0 (omega arith)) there)

pub loop-left-preserved : goal.loop-left-preserved
loop-left-preserved c =
    let i = c.loop-left.left-index in
    let lefts = c.args.lefts.now in
    let at = rooting_in c.args.a.now c.args.table.now c.args.space in
    let own : slice_get c.args.a.now.parts c.args.space ≡ Some c.in-Some.own.now = sym c.in-Some.ensures in
    subst (λ (ps : List ℕ). AddRoots at ps c.args.rights.now [] c.push_roots.new.roots.items)
    (sym (take_more lefts i 0 (omega arith)))
    (AddRoots-left at (take i lefts) (get_or lefts i 0) c.args.rights.now [] c.loop-left.roots.items
    c.push_roots.new.roots.items c.loop-left.invariant
    (AddRoots-same _ at (rooting-of_part c.args.a.now c.args.table.now c.args.space c.in-Some.own.now own) _ _ _ _ c.in_ok-push_roots.ensures))

pub returns : goal.returns
returns c =
    let at = rooting_in c.args.a.now c.args.table.now c.args.space in
    AreRoots-made at c.args.lefts.now c.args.rights.now c.loop-left.roots.items
    (subst (λ (ps : List ℕ). AddRoots at ps c.args.rights.now [] c.loop-left.roots.items)
    (take_all c.loop-left.left-index c.args.lefts.now (omega arith)) c.loop-left.invariant)
