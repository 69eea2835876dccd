use Rattle.std.proofs.Common.{◌≡◌, ◌∙◌, List, Some, length, slice_get, sym, ap, subst}
use Rattle.gta_theory.proofs.ListedLemmas.{length-meanings}
use Rattle.ws2s_core.specs.declared.formula.Formula.{Formula}
use Rattle.ws2s_core.specs.Nodes.{formula_of_node, formulas_of, HasPartsBelow}
use Rattle.ws2s_core.proofs.NodesLemmas.{IsOnceEach-indexed}
use Rattle.ws2s_core.proofs.PartsLemmas.{formula-placed}
use Rattle.ws2s_core.proofs.interner.intern_form.Goals as goal

pub place_node-requires-clause-parts : goal.place_node-requires-clause-parts
place_node-requires-clause-parts c =
    subst (λ n. HasPartsBelow n c.args.form) (sym (ap length c.interner.view_is) ∙ length-meanings formula_of_node c.interner.inside.table.nodes.items)
    c.requires

pub returns-in_err-place-clause-once : goal.returns-in_err-place-clause-once
returns-in_err-place-clause-once c =
    IsOnceEach-indexed c.place_node.new.table.nodes.items c.place_node.new.table.places c.place_node.ensures.indexed

pub returns-clause-value : goal.returns-clause-value
returns-clause-value c =
    subst (λ (old : List Formula). slice_get (formulas_of c.place_node.new.table.nodes.items) c.in_ok-place.place ≡ Some (formula_of_node old c.args.form))
    c.interner.view_is
    (formula-placed c.interner.inside.table.nodes.items c.place_node.new.table.nodes.items c.args.form c.in_ok-place.place
    c.place_node.ensures.kept
    (subst (λ n. HasPartsBelow n c.args.form) (sym (ap length c.interner.view_is) ∙ length-meanings formula_of_node c.interner.inside.table.nodes.items)
    c.requires)
    (c.place_node.ensures.indexed.earlier c.in_ok-place.place c.args.form c.in_ok-place.ensures.value)
    c.in_ok-place.ensures.value)

pub returns-clause-once : goal.returns-clause-once
returns-clause-once c =
    IsOnceEach-indexed c.place_node.new.table.nodes.items c.place_node.new.table.places c.place_node.ensures.indexed
