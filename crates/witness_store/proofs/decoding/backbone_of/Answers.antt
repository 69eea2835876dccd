use Rattle.std.proofs.Common.{length, sym, subst, arith}
use Rattle.ws2s_core.specs.LabelTrees.{IsTree, assignment_of}
use Rattle.witness_store.specs.Finding.{AreFoundAs, AreFound, AreNumbers}
use Rattle.witness_store.specs.Reading.{AreRead}
use Rattle.witness_store.specs.Results.{IsReadOff}
use Rattle.witness_store.proofs.DecodedLemmas.{IsReadOff-made}
use Rattle.witness_store.proofs.decoding.backbone_of.Goals as goal

pub returns : goal.returns
returns c =
    let types = c.args.l.now.types in
    let vars = c.args.l.now.vars in
    let nodes = c.nodes-nodes.result.now in
    let found = c.in_ok-cells.cells.items in
    let cells = c.in_ok-cells.ensures.found.0 in
    let same = c.nodes-nodes.ensures.value in
    let made : IsReadOff types vars (assignment_of nodes) c.of.result =
    subst (IsReadOff types vars (assignment_of nodes)) (sym c.of.ensures)
    (IsReadOff-made types vars nodes found cells c.in_ok-numbers.numbers.items c.in_ok-bodies.bodies.items c.in_ok-values.values _
    (subst IsTree (sym same) c.nodes-nodes.ensures.inside)
    (subst (λ t. AreFound types t found cells) (sym same) c.in_ok-cells.ensures.found.1)
    (subst (λ f. AreNumbers f (length nodes) c.in_ok-numbers.numbers.items) c.as_slice.ensures.value c.in_ok-numbers.ensures)
    (λ standing are found_as. c.in_ok-bodies.ensures.entries standing
    (subst (AreRead types nodes standing) (sym c.as_slice-2.ensures.value) are)
    (subst (λ f. AreFoundAs nodes f standing) (sym c.as_slice-3.ensures.value) found_as))
    (λ standing found_as. c.in_ok-values.ensures standing (subst (λ f. AreFoundAs nodes f standing) (sym c.as_slice-4.ensures.value) found_as))
    (omega arith)) in
    subst (λ t. IsReadOff types vars (assignment_of t) c.of.result) same made
