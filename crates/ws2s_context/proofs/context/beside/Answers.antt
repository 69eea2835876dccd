use Rattle.std.proofs.Common.{All, List, ◌∷◌, [], sym, subst}
use Rattle.ws2s_core.specs.declared.formula.Formula.{Formula}
use Rattle.ws2s_core.specs.declared.node.FormulaId.{FormulaId}
use Rattle.ws2s_facts.specs.Conjuncts.{IsConjunct, Implies, formula_of, context_at}
use Rattle.ws2s_facts.proofs.ConjunctsLemmas.{All-among, IsConjunct-wider, IsConjunct-there, Implies-head, Implies-tail, Implies-joined}
use Rattle.ws2s_context.proofs.context.beside.Goals as goal

pub conjunction_of-requires-clause-there : goal.conjunction_of-requires-clause-there
conjunction_of-requires-clause-there c =
    let fs = c.args.interner.now in
    let left = formula_of fs c.args.left in
    let context = context_at fs c.args.context in
    let of_left = IsConjunct-wider fs (left ∷ []) (left ∷ context) (Implies-head left context) c.deref.result.now
    (subst (λ (ids : List FormulaId). All (IsConjunct fs (left ∷ [])) ids) (sym c.deref.ensures.value) c.in_ok-of_left.ensures) in
    let members = IsConjunct-wider fs context (left ∷ context) (Implies-tail left context) c.deref-2.result.now
    (subst (λ (ids : List FormulaId). All (IsConjunct fs context) ids) (sym c.deref-2.ensures.value) c.in_ok-members.ensures) in
    IsConjunct-there fs (left ∷ context) c.in_ok-chosen.chosen.items
    (All-among (IsConjunct fs (left ∷ context)) c.deref.result.now c.deref-2.result.now c.in_ok-chosen.chosen.items c.in_ok-chosen.ensures of_left members)

pub returns-clause-implied : goal.returns-clause-implied
returns-clause-implied c =
    let fs = c.args.interner.now in
    let left = formula_of fs c.args.left in
    let context = context_at fs c.args.context in
    let of_left = IsConjunct-wider fs (left ∷ []) (left ∷ context) (Implies-head left context) c.deref.result.now
    (subst (λ (ids : List FormulaId). All (IsConjunct fs (left ∷ [])) ids) (sym c.deref.ensures.value) c.in_ok-of_left.ensures) in
    let members = IsConjunct-wider fs context (left ∷ context) (Implies-tail left context) c.deref-2.result.now
    (subst (λ (ids : List FormulaId). All (IsConjunct fs context) ids) (sym c.deref-2.ensures.value) c.in_ok-members.ensures) in
    subst (λ (inner : List Formula). Implies (left ∷ context) inner) (sym c.in_ok-made.ensures.value)
    (Implies-joined fs (left ∷ context) c.in_ok-chosen.chosen.items
    (All-among (IsConjunct fs (left ∷ context)) c.deref.result.now c.deref-2.result.now c.in_ok-chosen.chosen.items c.in_ok-chosen.ensures of_left members))
