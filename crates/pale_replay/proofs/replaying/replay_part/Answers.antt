use Rattle.std.proofs.Common.{◌-◌, sym}
use Rattle.store_text.specs.Lines.{lines_of}
use Rattle.store_text.specs.declared.fault.StoreKind.TheVariants.{Missing, Syntax, UnknownName}
use Rattle.hoare_split.specs.Fitting.{FitsProgram, IsShort}
use Rattle.pale_replay.proofs.ArrivalLemmas.{there}
use Rattle.pale_replay.proofs.TellingLemmas.{says_refused, empty_part, unnumbered, unknown, says_part}
use Rattle.pale_replay.proofs.replaying.replay_part.Goals as goal

pub returns-then-is_empty : goal.returns-then-is_empty
returns-then-is_empty c =
    let whole = c.args.whole.now in
    let part = c.args.part.now in
    says_refused whole.typed whole.triples (lines_of part) 1 Missing (empty_part whole.typed whole.triples part (sym c.if-is_empty.ensures))
    c.store_refused.result c.store_refused.ensures

pub returns-in_default : goal.returns-in_default
returns-in_default c =
    let whole = c.args.whole.now in
    let part = c.args.part.now in
    says_refused whole.typed whole.triples (lines_of part) 1 Syntax
    (unnumbered whole.typed whole.triples part c.split_line.result.0.now c.split_line.result.1.now c.split_line.ensures.lines c.in_default.ensures.none)
    c.store_refused-in_default.result c.store_refused-in_default.ensures

pub replay_text-requires-clause-fits : goal.replay_text-requires-clause-fits
replay_text-requires-clause-fits c =
    let whole = c.args.whole.now in
    there (FitsProgram whole.typed) whole.triples (c.in-Some.number - 1) c.in-Some-get.triple.now c.requires.fits (sym c.in-Some-get.ensures.value)

pub replay_text-requires-clause-news : goal.replay_text-requires-clause-news
replay_text-requires-clause-news c =
    let whole = c.args.whole.now in
    there IsShort whole.triples (c.in-Some.number - 1) c.in-Some-get.triple.now c.requires.news (sym c.in-Some-get.ensures.value)

pub returns-in-Some-get : goal.returns-in-Some-get
returns-in-Some-get c =
    let whole = c.args.whole.now in
    let triple = c.in-Some-get.triple.now in
    says_part whole.typed whole.triples c.args.part.now c.split_line.result.0.now c.split_line.result.1.now c.split_line.ensures.lines
    c.in-Some.number c.in-Some.ensures.some triple (sym c.in-Some-get.ensures.value)
    (there (FitsProgram whole.typed) whole.triples (c.in-Some.number - 1) triple c.requires.fits (sym c.in-Some-get.ensures.value))
    c.replay_text.result c.replay_text.ensures

pub returns-in-None : goal.returns-in-None
returns-in-None c =
    let whole = c.args.whole.now in
    says_refused whole.typed whole.triples (lines_of c.args.part.now) 1 UnknownName
    (unknown whole.typed whole.triples c.args.part.now c.split_line.result.0.now c.split_line.result.1.now c.split_line.ensures.lines
    c.in-Some.number c.in-Some.ensures.some (sym c.in-None.ensures.value))
    c.store_refused-in-None.result c.store_refused-in-None.ensures
