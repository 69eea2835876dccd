use Rattle.std.proofs.Common.{map}
use Rattle.std.proofs.lemmas.Result.{on_ok_weaker, IfOk-weaker}
use Rattle.pale_tables.proofs.FaultLemmas.{stop_returned, stop_same}
use Rattle.pale_types.proofs.ProgramLemmas.{types-stop, declared-none, declared-stop, declared-is}
use Rattle.pale_types.proofs.program.read_over.Goals as goal

pub returns-in_err-table-clause-stop : goal.returns-in_err-table-clause-stop
returns-in_err-table-clause-stop c =
    let e = c.in_err-table.field-0.0 in
    stop_returned _ c.from_residual.result e c.from_residual.ensures.1
    (types-stop (map (λ t. t.now) c.args.types.now) (map (λ p. p.now) c.args.predicates.now) e c.in_err-table.ensures.stop)

pub returns-clause-met : goal.returns-clause-met
returns-clause-met c =
    on_ok_weaker c.read_predicates.result
    (declared-none (map (λ t. t.now) c.args.types.now) (map (λ p. p.now) c.args.predicates.now) c.in_ok-table.table c.args.names
    c.in_ok-table.ensures.table c.requires.names c.in_ok-table.ensures.met)
    c.read_predicates.ensures.met

pub returns-clause-declared : goal.returns-clause-declared
returns-clause-declared c =
    IfOk-weaker c.read_predicates.result _ _
    (declared-is (map (λ t. t.now) c.args.types.now) (map (λ p. p.now) c.args.predicates.now) c.in_ok-table.table c.args.names
    c.in_ok-table.ensures.table c.requires.names c.in_ok-table.ensures.met)
    c.read_predicates.ensures.declared

pub returns-clause-stop : goal.returns-clause-stop
returns-clause-stop c =
    stop_same _ _ c.read_predicates.result
    (declared-stop (map (λ t. t.now) c.args.types.now) (map (λ p. p.now) c.args.predicates.now) c.in_ok-table.table c.args.names
    c.in_ok-table.ensures.table c.requires.names c.in_ok-table.ensures.met)
    c.read_predicates.ensures.stop
