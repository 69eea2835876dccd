use Rattle.std.proofs.Common.{map}
use Rattle.std.proofs.lemmas.Result.{on_ok_weaker}
use Rattle.pale_syntax.specs.declared.tree.declaration.TypeDeclaration.{TypeDeclaration}
use Rattle.pale_syntax.specs.declared.tree.declaration.PredicateDeclaration.{PredicateDeclaration}
use Rattle.pale_syntax.specs.declared.tree.declaration.Procedure.{Procedure}
use Rattle.pale_tables.proofs.FaultLemmas.{stop_returned, stop_same}
use Rattle.pale_types.proofs.ProgramLemmas.{map-twice, names-none, stop-types, stop-predicates, stop-procedures}
use Rattle.pale_types.proofs.program.check_names.Goals as goal

pub returns-in_err-check_type_names-clause-stop : goal.returns-in_err-check_type_names-clause-stop
returns-in_err-check_type_names-clause-stop c =
    let ts = c.args.types.now in
    let ps = c.args.predicates.now in
    let qs = c.args.procedures.now in
    let e = c.in_err-check_type_names.field-0.0 in
    stop_returned _ c.from_residual.result e c.from_residual.ensures.1
    (stop-types (map (λ t. t.now) ts) (map (λ p. p.now) ps) (map (λ p. p.now) qs) (map (λ t. t.now.name) ts) (map (λ p. p.now.name) ps)
    (map (λ p. p.now.name) qs) (map-twice (λ (t : TypeDeclaration). t.name) (λ t. t.now) ts)
    (map-twice (λ (p : PredicateDeclaration). p.name) (λ p. p.now) ps) (map-twice (λ (p : Procedure). p.name) (λ p. p.now) qs)
    e c.in_err-check_type_names.ensures.stop)

pub returns-in_err-check_predicate_names-clause-stop : goal.returns-in_err-check_predicate_names-clause-stop
returns-in_err-check_predicate_names-clause-stop c =
    let ts = c.args.types.now in
    let ps = c.args.predicates.now in
    let qs = c.args.procedures.now in
    let e = c.in_err-check_predicate_names.field-0.0 in
    stop_returned _ c.from_residual-in_err-check_predicate_names.result e c.from_residual-in_err-check_predicate_names.ensures.1
    (stop-predicates (map (λ t. t.now) ts) (map (λ p. p.now) ps) (map (λ p. p.now) qs) (map (λ t. t.now.name) ts) (map (λ p. p.now.name) ps)
    (map (λ p. p.now.name) qs) (map-twice (λ (t : TypeDeclaration). t.name) (λ t. t.now) ts)
    (map-twice (λ (p : PredicateDeclaration). p.name) (λ p. p.now) ps) (map-twice (λ (p : Procedure). p.name) (λ p. p.now) qs)
    e c.in_ok-check_type_names.ensures.met c.in_err-check_predicate_names.ensures.stop)

pub returns-clause-met : goal.returns-clause-met
returns-clause-met c =
    let ts = c.args.types.now in
    let ps = c.args.predicates.now in
    let qs = c.args.procedures.now in
    on_ok_weaker c.check_procedure_names.result
    (names-none (map (λ t. t.now) ts) (map (λ p. p.now) ps) (map (λ p. p.now) qs) (map (λ t. t.now.name) ts) (map (λ p. p.now.name) ps)
    (map (λ p. p.now.name) qs) (map-twice (λ (t : TypeDeclaration). t.name) (λ t. t.now) ts)
    (map-twice (λ (p : PredicateDeclaration). p.name) (λ p. p.now) ps) (map-twice (λ (p : Procedure). p.name) (λ p. p.now) qs)
    c.in_ok-check_type_names.ensures.met c.in_ok-check_predicate_names.ensures.met)
    c.check_procedure_names.ensures.met

pub returns-clause-stop : goal.returns-clause-stop
returns-clause-stop c =
    let ts = c.args.types.now in
    let ps = c.args.predicates.now in
    let qs = c.args.procedures.now in
    stop_same _ _ c.check_procedure_names.result
    (λ e is. stop-procedures (map (λ t. t.now) ts) (map (λ p. p.now) ps) (map (λ p. p.now) qs) (map (λ t. t.now.name) ts) (map (λ p. p.now.name) ps)
    (map (λ p. p.now.name) qs) (map-twice (λ (t : TypeDeclaration). t.name) (λ t. t.now) ts)
    (map-twice (λ (p : PredicateDeclaration). p.name) (λ p. p.now) ps) (map-twice (λ (p : Procedure). p.name) (λ p. p.now) qs)
    e c.in_ok-check_type_names.ensures.met c.in_ok-check_predicate_names.ensures.met is)
    c.check_procedure_names.ensures.stop
