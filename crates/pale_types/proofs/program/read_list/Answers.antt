use Rattle.std.proofs.Common.{map, sym, ◌∙◌, subst}
use Rattle.pale_fitting.specs.Declaring.{DeclarationsFit}
use Rattle.pale_tables.proofs.FaultLemmas.{stop_returned}
use Rattle.pale_procedures.specs.declared.basis.Basis.{Basis}
use Rattle.pale_types.proofs.ProgramLemmas.{declared-fit, list-none, list-stop, typed-is}
use Rattle.pale_types.proofs.program.read_list.Goals as goal

pub read_procedures-requires : goal.read_procedures-requires
read_procedures-requires c =
    subst (λ (b : Basis). DeclarationsFit b.declared) (sym c.in_ok-basis.ensures.basis)
    (declared-fit (map (λ t. t.now) c.args.types.now) (map (λ p. p.now) c.args.predicates.now) c.in_ok-basis.ensures.met)

pub returns-in_err-procs-clause-stop : goal.returns-in_err-procs-clause-stop
returns-in_err-procs-clause-stop c =
    let e = c.in_err-procs.field-0.0 in
    stop_returned _ c.from_residual-in_err-procs.result e c.from_residual-in_err-procs.ensures.1
    (list-stop (map (λ t. t.now) c.args.types.now) (map (λ p. p.now) c.args.predicates.now) (map (λ p. p.now) c.args.procedures.now)
    c.in_ok-check_names.ensures.met c.in_ok-basis.basis c.in_ok-basis.ensures.basis c.in_ok-basis.ensures.met e c.in_err-procs.ensures.stop)

pub returns-clause-met : goal.returns-clause-met
returns-clause-met c =
    list-none (map (λ t. t.now) c.args.types.now) (map (λ p. p.now) c.args.predicates.now) (map (λ p. p.now) c.args.procedures.now)
    c.in_ok-check_names.ensures.met c.in_ok-basis.basis c.in_ok-basis.ensures.basis c.in_ok-basis.ensures.met c.in_ok-procs.ensures.met

pub returns-clause-typed : goal.returns-clause-typed
returns-clause-typed c =
    c.new.ensures
    ∙ typed-is (map (λ t. t.now) c.args.types.now) (map (λ p. p.now) c.args.predicates.now) (map (λ p. p.now) c.args.procedures.now)
    c.in_ok-basis.basis c.in_ok-procs.procs c.in_ok-basis.ensures.basis c.in_ok-procs.ensures.entries
