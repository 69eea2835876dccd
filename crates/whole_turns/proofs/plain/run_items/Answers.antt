use Rattle.std.proofs.Common.{subst}
use Rattle.store_exec.specs.Runs.{RunsCode}
use Rattle.whole_turns.proofs.Codes.{ending_code, items_can, ran_to, ran_into}
use Rattle.whole_turns.proofs.plain.run_items.Goals as goal

pub run-requires : goal.run-requires
run-requires c = items_can c.args.types.now c.args.store c.args.items 0 c.requires

pub returns-in-End : goal.returns-in-End
returns-in-End c =
    let types = c.args.types.now in
    ran_to types c.args.items 0 c.args.store c.in-End.after c.in-End._place
    (subst (RunsCode types (ending_code c.args.items 0) c.args.store) c.in-End.is c.in_ok-_place.ensures)

pub returns : goal.returns
returns c =
    let types = c.args.types.now in
    ran_into types c.args.items 0 c.args.store c.in-Fail.cause c.in-Fail.line
    (subst (RunsCode types (ending_code c.args.items 0) c.args.store) c.in-Fail.is c.in_ok-_place.ensures)
