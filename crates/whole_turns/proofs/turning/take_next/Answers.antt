use Rattle.std.proofs.Common.{IfOk, sym, subst}
use Rattle.std.proofs.lemmas.Result.{IfOk-weaker}
use Rattle.whole_turns.specs.declared.pieces.Next.{Next}
use Rattle.whole_turns.specs.declared.pieces.Next.TheVariants as next
use Rattle.whole_turns.specs.Standings.{form_of, all_waiting}
use Rattle.whole_turns.specs.Turning.{FormFits, GoesAs, turn_of}
use Rattle.whole_turns.proofs.Forms.{by_form, by_halt}
use Rattle.whole_turns.proofs.turning.take_next.Goals as goal

pub take_act-requires-clause-act : goal.take_act-requires-clause-act
take_act-requires-clause-act c =
    let fits = subst (λ (n : Next). FormFits c.args.program.now (c.args.activation).vars.now (form_of n)) c.in-Do.is c.requires.fits in
    fits

pub returns-in-Do-clause-goes : goal.returns-in-Do-clause-goes
returns-in-Do-clause-goes c = by_form c.args.program.now c.args.activation c.args.store c.args.found (next.Do c.in-Do.line c.in-Do.act)
    (all_waiting c.args.waiting.now) c.take_act.result
    c.in-Do.is c.take_act.ensures.goes

pub returns-in-If-clause-goes : goal.returns-in-If-clause-goes
returns-in-If-clause-goes c = by_form c.args.program.now c.args.activation c.args.store c.args.found (next.If c.in-If.line c.in-If.cond c.in-If.yes c.in-If.no)
    (all_waiting c.args.waiting.now) c.take_if.result
    c.in-If.is (IfOk-weaker c.take_if.result _ _ (λ end h. h c.args.program.now) c.take_if.ensures.goes)

pub take_while-requires-clause-invariant : goal.take_while-requires-clause-invariant
take_while-requires-clause-invariant c =
    let fits = subst (λ (n : Next). FormFits c.args.program.now (c.args.activation).vars.now (form_of n)) c.in-While.is c.requires.fits in
    fits.1

pub returns-in-While-clause-goes : goal.returns-in-While-clause-goes
returns-in-While-clause-goes c = by_form c.args.program.now c.args.activation c.args.store c.args.found (next.While c.in-While.met) (all_waiting
    c.args.waiting.now)
    c.take_while.result
    c.in-While.is c.take_while.ensures.goes

pub returns-in-Behind-clause-goes : goal.returns-in-Behind-clause-goes
returns-in-Behind-clause-goes c = by_form c.args.program.now c.args.activation c.args.store c.args.found (next.Behind c.in-Behind.behind)
    (all_waiting c.args.waiting.now) c.take_behind.result
    c.in-Behind.is (IfOk-weaker c.take_behind.result _ _ (λ end h. h c.args.program.now) c.take_behind.ensures.goes)

pub take_split-requires-clause-assertion : goal.take_split-requires-clause-assertion
take_split-requires-clause-assertion c =
    let fits = subst (λ (n : Next). FormFits c.args.program.now (c.args.activation).vars.now (form_of n)) c.in-Split.is c.requires.fits in
    fits

pub returns-in-Split-clause-goes : goal.returns-in-Split-clause-goes
returns-in-Split-clause-goes c = by_form c.args.program.now c.args.activation c.args.store c.args.found (next.Split c.in-Split.place c.in-Split.assertion)
    (all_waiting c.args.waiting.now) c.take_split.result
    c.in-Split.is c.take_split.ensures.goes

pub take_call-requires-clause-call : goal.take_call-requires-clause-call
take_call-requires-clause-call c =
    subst (λ (n : Next). FormFits c.args.program.now (c.args.activation).vars.now (form_of n)) c.in-Call.is c.requires.fits

pub returns-in-Call-clause-goes : goal.returns-in-Call-clause-goes
returns-in-Call-clause-goes c =
    subst (λ (n : Next). IfOk c.take_call.result (λ end. GoesAs c.args.program.now c.args.activation c.args.store (form_of n) (all_waiting c.args.waiting.now)
    (turn_of (all_waiting c.take_call.new.waiting) end))) (sym c.in-Call.is) c.take_call.ensures.goes

pub returns-in-Do-clause-stops : goal.returns-in-Do-clause-stops
returns-in-Do-clause-stops c = by_halt c.args.program.now c.args.activation c.args.store c.args.found (next.Do c.in-Do.line c.in-Do.act) c.take_act.result
    c.in-Do.is c.take_act.ensures.stops

pub returns-in-If-clause-stops : goal.returns-in-If-clause-stops
returns-in-If-clause-stops c = by_halt c.args.program.now c.args.activation c.args.store c.args.found (next.If c.in-If.line c.in-If.cond c.in-If.yes
    c.in-If.no) c.take_if.result
    c.in-If.is (IfOk-weaker c.take_if.result _ _ (λ end h. h c.args.program.now) c.take_if.ensures.stops)

pub returns-in-While-clause-stops : goal.returns-in-While-clause-stops
returns-in-While-clause-stops c = by_halt c.args.program.now c.args.activation c.args.store c.args.found (next.While c.in-While.met) c.take_while.result
    c.in-While.is c.take_while.ensures.stops

pub returns-in-Behind-clause-stops : goal.returns-in-Behind-clause-stops
returns-in-Behind-clause-stops c = by_halt c.args.program.now c.args.activation c.args.store c.args.found (next.Behind c.in-Behind.behind) c.take_behind.result
    c.in-Behind.is (IfOk-weaker c.take_behind.result _ _ (λ end h. h c.args.program.now) c.take_behind.ensures.stops)

pub returns-in-Split-clause-stops : goal.returns-in-Split-clause-stops
returns-in-Split-clause-stops c = by_halt c.args.program.now c.args.activation c.args.store c.args.found (next.Split c.in-Split.place
    c.in-Split.assertion) c.take_split.result
    c.in-Split.is c.take_split.ensures.stops

pub returns-in-Call-clause-stops : goal.returns-in-Call-clause-stops
returns-in-Call-clause-stops c = by_halt c.args.program.now c.args.activation c.args.store c.args.found (next.Call c.in-Call.place c.in-Call.call)
    c.take_call.result
    c.in-Call.is c.take_call.ensures.stops
