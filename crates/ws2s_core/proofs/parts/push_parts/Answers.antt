use Rattle.std.proofs.Common.{◌++◌, sym, subst}
use Rattle.std.proofs.lemmas.List.Sorted.{IsPermutation-cons, IsPermutation-trans}
use Rattle.std.specs.BinaryHeap.{heap_items}
use Rattle.std.specs.List.Sorted.{IsPermutation}
use Rattle.ws2s_core.specs.declared.node.Node.{Node}
use Rattle.ws2s_core.specs.Nodes.{form_of}
use Rattle.ws2s_core.specs.Postfix.{parts_of}
use Rattle.ws2s_core.proofs.parts.push_parts.Goals as goal

pub returns-in_ok-push-in-And-2-clause-parts : goal.returns-in_ok-push-in-And-2-clause-parts
returns-in_ok-push-in-And-2-clause-parts c =
    subst (λ (node : Node). IsPermutation (parts_of (form_of node) ++ heap_items c.args.waiting.now) (heap_items c.push-in-And.new.self)) (sym c.in-And.is)
    (IsPermutation-trans _ _ _ (IsPermutation-cons c.in-And.left.0 _ _ c.in_ok-push-in-And.ensures.permutation) c.in_ok-push-in-And-2.ensures.permutation)
