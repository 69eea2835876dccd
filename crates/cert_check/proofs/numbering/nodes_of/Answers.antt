use Rattle.std.proofs.Common.{List, sym, ◌∙◌, subst}
use Rattle.ws2s_core.specs.declared.node.FormulaId.{FormulaId}
use Rattle.cert_check.specs.Numbering.{AreForms}
use Rattle.cert_check.proofs.NumberingLemmas.{nodes-of}
use Rattle.cert_check.proofs.numbering.nodes_of.Goals as goal

pub returns : goal.returns
returns c =
    let formulas = c.intern.new.interner in
    let nodes = c.in_ok-nodes.nodes in
    nodes-of c.args.f.now formulas c.in_ok-id.id.0 c.in_ok-ids.ids nodes c.in_ok-id.ensures.value c.in_ok-id.ensures.once c.in_ok-ids.ensures
    (subst (λ (ids : List FormulaId). AreForms formulas ids nodes) c.as_slice.ensures c.in_ok-nodes.ensures) (sym c.len.ensures ∙ c.if-len-id.false)
