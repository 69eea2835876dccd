use Rattle.whole_program.proofs.StopLemmas.{handed_on, lex_stop, parse_stop, type_stop, split_stop}
use Rattle.whole_program.proofs.program.read_program.Goals as goal

pub returns-in_err-list-clause-stop : goal.returns-in_err-list-clause-stop
returns-in_err-list-clause-stop c =
    let text = c.args.text.now in
    let e = c.in_err-list.field-0.0 in
    handed_on text c.from_residual.result e c.from_residual.ensures.1 (lex_stop text e c.in_err-list.ensures.stop)

pub returns-in_err-program-clause-stop : goal.returns-in_err-program-clause-stop
returns-in_err-program-clause-stop c =
    let text = c.args.text.now in
    let e = c.in_err-program.field-0.0 in
    handed_on text c.from_residual-in_err-program.result e c.from_residual-in_err-program.ensures.1
    (parse_stop text c.in_ok-list.list c.in_ok-list.ensures.tokens e c.in_err-program.ensures.stop)

pub returns-in_err-typed-clause-stop : goal.returns-in_err-typed-clause-stop
returns-in_err-typed-clause-stop c =
    let text = c.args.text.now in
    let e = c.in_err-typed.field-0.0 in
    handed_on text c.from_residual-in_err-typed.result e c.from_residual-in_err-typed.ensures.1
    (type_stop text c.in_ok-program.program
    (record { list = c.in_ok-list.list; lexed = c.in_ok-list.ensures.tokens; parsed = c.in_ok-program.ensures.program }) e c.in_err-typed.ensures.stop)

pub returns-in_err-triples-clause-stop : goal.returns-in_err-triples-clause-stop
returns-in_err-triples-clause-stop c =
    let text = c.args.text.now in
    let e = c.in_err-triples.field-0.0 in
    handed_on text c.from_residual-in_err-triples.result e c.from_residual-in_err-triples.ensures.1
    (split_stop text c.in_ok-program.program
    (record { list = c.in_ok-list.list; lexed = c.in_ok-list.ensures.tokens; parsed = c.in_ok-program.ensures.program })
    c.in_ok-typed.ensures.met c.in_ok-typed.typed c.in_ok-typed.ensures.typed e c.in_err-triples.ensures.stop)

pub returns-clause-program : goal.returns-clause-program
returns-clause-program c = record {
  tree = c.in_ok-program.program;
  written = record { list = c.in_ok-list.list; lexed = c.in_ok-list.ensures.tokens; parsed = c.in_ok-program.ensures.program };
  no_fault = c.in_ok-typed.ensures.met;
  typed = c.in_ok-typed.ensures.typed;
  short = c.in_ok-triples.ensures.met;
  split = c.in_ok-triples.ensures.triples;
}

pub returns-clause-typed : goal.returns-clause-typed
returns-clause-typed c = c.in_ok-typed.ensures.fits

pub returns-clause-fits : goal.returns-clause-fits
returns-clause-fits c = c.in_ok-triples.ensures.fits c.in_ok-typed.ensures.fits
