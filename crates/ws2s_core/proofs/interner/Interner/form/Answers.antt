use Rattle.std.proofs.Common.{◌≡◌, ◌∙◌, List, option_map, slice_get, ap, subst}
use Rattle.ws2s_core.specs.declared.formula.Formula.{Formula}
use Rattle.ws2s_core.specs.Nodes.{formula_of_node, formulas_of, IsOnceEach}
use Rattle.ws2s_core.proofs.NodesLemmas.{IsOnceEach-indexed}
use Rattle.ws2s_core.proofs.PartsLemmas.{formula-at_form, form-parts}
use Rattle.ws2s_core.proofs.interner.Interner.form.Goals as goal
use Rattle.ws2s_core.proofs.interner.Interner.form.Goals.{After-copied}

got : (c : After-copied) → c.copied.result ≡ slice_get c.self.inside.table.nodes.items c.args.id.0
got c = c.copied.ensures ∙ c.at.ensures ∙ ap (λ nodes. slice_get nodes c.args.id.0) c.as_slice.ensures.value

pub returns-clause-value : goal.returns-clause-value
returns-clause-value c =
    subst (λ (formulas : List Formula). option_map (formula_of_node formulas) c.copied.result ≡ slice_get formulas c.args.id.0) c.self.view_is
    (ap (option_map (formula_of_node (formulas_of c.self.inside.table.nodes.items))) (got c)
    ∙ formula-at_form c.self.inside.table.nodes.items c.self.invariant.earlier c.args.id.0)

pub returns-clause-parts : goal.returns-clause-parts
returns-clause-parts c =
    form-parts c.self.inside.table.nodes.items c.self.invariant.earlier c.args.id.0 c.copied.result (got c)

pub returns-clause-once : goal.returns-clause-once
returns-clause-once c =
    subst (λ (formulas : List Formula). IsOnceEach formulas) c.self.view_is
    (IsOnceEach-indexed c.self.inside.table.nodes.items c.self.inside.table.places c.self.invariant)
