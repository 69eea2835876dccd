use Rattle.std.proofs.Common.{Ok, Err, [], ◌∷◌, refl, sym, subst}
use Rattle.store_exec.specs.declared.code.Item.TheVariants as item
use Rattle.store_exec.specs.Going.{CanRun}
use Rattle.whole_turns.specs.Standings.{entry_of}
use Rattle.whole_turns.specs.Turning.{ActsAs}
use Rattle.whole_turns.proofs.Codes.{act_can}
use Rattle.whole_turns.proofs.turning.take_act.Goals as goal

pub run_act-requires : goal.run_act-requires
run_act-requires c = subst (λ types. CanRun types c.args.store (item.Do c.args.line c.args.act.now ∷ [])) (sym c.types.ensures)
    (act_can c.args.program.now (entry_of c.args.activation) c.args.store c.args.line c.args.act.now c.requires.ready c.requires.act)

pub returns-in-Ok-clause-goes : goal.returns-in-Ok-clause-goes
returns-in-Ok-clause-goes c = λ waiting. (
  Ok c.in-Ok.after,
  subst (λ types. ActsAs types c.args.line c.args.store c.args.act.now (Ok c.in-Ok.after)) c.types.ensures
      (subst (ActsAs c.types.result.now c.args.line c.args.store c.args.act.now) c.in-Ok.is c.in_ok-after.ensures),
  refl,
)

pub returns-clause-goes : goal.returns-clause-goes
returns-clause-goes c = λ waiting.
    let acts = subst (λ types. ActsAs types c.args.line c.args.store c.args.act.now (Err c.in-Err.fault)) c.types.ensures
    (subst (ActsAs c.types.result.now c.args.line c.args.store c.args.act.now) c.in-Err.is c.in_ok-after.ensures) in
    (Err (record { cause = c.in-Err.fault.cause; line = c.in-Err.fault.line }), (acts.0, acts.1), refl)

pub returns-clause-stops : goal.returns-clause-stops
returns-clause-stops c =
    let acts = subst (ActsAs c.types.result.now c.args.line c.args.store c.args.act.now) c.in-Err.is c.in_ok-after.ensures in acts.2
