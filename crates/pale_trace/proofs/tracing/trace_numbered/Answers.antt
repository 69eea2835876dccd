use Rattle.std.proofs.Common.{◌-◌, sym}
use Rattle.hoare_split.specs.Fitting.{FitsProgram, IsShort}
use Rattle.pale_replay.proofs.ArrivalLemmas.{there}
use Rattle.pale_trace.proofs.TellingLemmas.{says_unknown, says_numbered}
use Rattle.pale_trace.proofs.tracing.trace_numbered.Goals as goal

pub trace_in_triple-requires-clause-fits : goal.trace_in_triple-requires-clause-fits
trace_in_triple-requires-clause-fits c =
    let whole = c.args.whole.now in
    there (FitsProgram whole.typed) whole.triples (c.args.number - 1) c.in-Some.triple.now c.requires.fits (sym c.in-Some.ensures.value)

pub trace_in_triple-requires-clause-news : goal.trace_in_triple-requires-clause-news
trace_in_triple-requires-clause-news c =
    let whole = c.args.whole.now in
    there IsShort whole.triples (c.args.number - 1) c.in-Some.triple.now c.requires.news (sym c.in-Some.ensures.value)

pub returns-in-Some : goal.returns-in-Some
returns-in-Some c =
    let whole = c.args.whole.now in
    let triple = c.in-Some.triple.now in
    says_numbered whole.typed whole.triples c.args.text.now c.args.number c.requires.some triple (sym c.in-Some.ensures.value)
    (there (FitsProgram whole.typed) whole.triples (c.args.number - 1) triple c.requires.fits (sym c.in-Some.ensures.value))
    c.trace_in_triple.result c.trace_in_triple.ensures

pub returns-in-None : goal.returns-in-None
returns-in-None c =
    let whole = c.args.whole.now in
    says_unknown whole.typed whole.triples c.args.text.now c.args.number c.requires.some (sym c.in-None.ensures.value)
    c.store_refused.result c.store_refused.ensures
