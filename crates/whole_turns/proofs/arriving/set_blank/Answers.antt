use Rattle.std.proofs.Common.{◌∙◌, ◌++◌, List, Ok, Err, ap, sym, subst}
use Rattle.store_core.specs.Tables.{TypeEntry}
use Rattle.store_exec.specs.declared.code.Item.{Item}
use Rattle.store_exec.specs.Runs.{RunsItems}
use Rattle.store_exec.specs.Going.{CanRun}
use Rattle.hoare_split.specs.Picking.{those, test_of}
use Rattle.hoare_split.specs.Settings.{settings}
use Rattle.whole_run.proofs.AnswerSettings.{all_end}
use Rattle.whole_turns.proofs.Codes.{settings_can}
use Rattle.whole_turns.proofs.arriving.set_blank.Goals as goal

-- the items are the settings alone
pub run_items-requires : goal.run_items-requires
run_items-requires c =
    let caller = c.args.caller in
    let own = settings caller.vars.now (test_of c.args.pick) c.args.line in
    let same = c.in_ok-set_picked.ensures ∙ ap (λ (l : List Item). l ++ own) c.new-items.ensures in
    subst (λ (types : List TypeEntry). CanRun types c.args.store c.set_picked.new.items) (sym c.types.ensures)
    (subst (CanRun (caller.program.now).types c.args.store) (sym same)
    (settings_can caller.program.now caller.vars.now (test_of c.args.pick) c.args.line c.args.store c.requires))

pub returns : goal.returns
returns c =
    let caller = c.args.caller in
    let own = settings caller.vars.now (test_of c.args.pick) c.args.line in
    let same = c.in_ok-set_picked.ensures ∙ ap (λ (l : List Item). l ++ own) c.new-items.ensures in
    subst (λ (types : List TypeEntry). RunsItems types own c.args.store (Ok c.in-Ok.after)) c.types.ensures
    (subst (λ (items : List Item). RunsItems c.types.result.now items c.args.store (Ok c.in-Ok.after)) same
    (subst (RunsItems c.types.result.now c.set_picked.new.items c.args.store) c.in-Ok.is c.in_ok-after.ensures))

-- they never fail
pub unreachable-requires : goal.unreachable-requires
unreachable-requires c =
    let caller = c.args.caller in
    let own = settings caller.vars.now (test_of c.args.pick) c.args.line in
    let same = c.in_ok-set_picked.ensures ∙ ap (λ (l : List Item). l ++ own) c.new-items.ensures in
    all_end c.types.result.now caller.vars.now c.args.line (those (test_of c.args.pick) caller.vars.now) c.args.store c.in-Err.field-0
    (subst (λ (items : List Item). RunsItems c.types.result.now items c.args.store (Err c.in-Err.field-0)) same
    (subst (RunsItems c.types.result.now c.set_picked.new.items c.args.store) c.in-Err.is c.in_ok-after.ensures))
