use Rattle.ws2s_read.proofs.TextLemmas.{passed-stop, passed-complete, passed-refused, lex-stop, lexed-stop, refused-lexing}
use Rattle.ws2s_read.proofs.TextLemmas.{refused-parsing, refused-names, parse-stop, parsed-as, read-text, read-stop, read-only}
use Rattle.ws2s_read.proofs.TextLemmas.{read-complete}
use Rattle.ws2s_read.proofs.read.read_ws2s.Goals as goal

-- no tokens
pub returns-in_err-list-clause-stop : goal.returns-in_err-list-clause-stop
returns-in_err-list-clause-stop c =
    let e = c.in_err-list.field-0.0 in
    passed-stop c.args.text.now c.from_residual.result e c.from_residual.ensures.1 (lex-stop c.args.text.now e c.in_err-list.ensures.stop)

pub returns-in_err-list-clause-complete : goal.returns-in_err-list-clause-complete
returns-in_err-list-clause-complete c = λ other reads.
    let e = c.in_err-list.field-0.0 in
    passed-complete c.from_residual.result e _ c.from_residual.ensures.1
    (lexed-stop c.args.text.now reads.list e reads.lexed c.in_err-list.ensures.stop)

pub returns-in_err-list-clause-refused : goal.returns-in_err-list-clause-refused
returns-in_err-list-clause-refused c = λ refusal is.
    let e = c.in_err-list.field-0.0 in
    passed-refused c.from_residual.result e _ refusal c.from_residual.ensures.1
    (refused-lexing c.args.text.now refusal e is c.in_err-list.ensures.stop)

-- no source tree
pub returns-in_err-source-clause-stop : goal.returns-in_err-source-clause-stop
returns-in_err-source-clause-stop c =
    let e = c.in_err-source.field-0.0 in
    passed-stop c.args.text.now c.from_residual-in_err-source.result e c.from_residual-in_err-source.ensures.1
    (parse-stop c.args.text.now c.in_ok-list.list e c.in_ok-list.ensures.tokens c.in_err-source.ensures.stop)

pub returns-in_err-source-clause-complete : goal.returns-in_err-source-clause-complete
returns-in_err-source-clause-complete c = λ other reads.
    let e = c.in_err-source.field-0.0 in
    let parsed = parsed-as c.args.text.now c.in_ok-list.list reads.list reads.source c.in_ok-list.ensures.tokens reads.lexed reads.parsed in
    passed-complete c.from_residual-in_err-source.result e _ c.from_residual-in_err-source.ensures.1
    (c.in_err-source.ensures.complete parsed.steps reads.source parsed.sentence parsed.shallow)

pub returns-in_err-source-clause-refused : goal.returns-in_err-source-clause-refused
returns-in_err-source-clause-refused c = λ refusal is.
    let e = c.in_err-source.field-0.0 in
    passed-refused c.from_residual-in_err-source.result e _ refusal c.from_residual-in_err-source.ensures.1
    (refused-parsing c.args.text.now c.in_ok-list.list refusal e c.in_ok-list.ensures.tokens c.in_err-source.ensures.complete
    c.in_err-source.ensures.refused is)

-- names
pub returns-clause-text : goal.returns-clause-text
returns-clause-text c =
    read-text c.args.text.now c.in_ok-list.list c.in_ok-source.source c.resolve.result c.in_ok-list.ensures.tokens
    c.in_ok-source.ensures.source c.resolve.ensures.text

pub returns-clause-stop : goal.returns-clause-stop
returns-clause-stop c =
    read-stop c.args.text.now c.in_ok-list.list c.in_ok-source.source c.resolve.result c.in_ok-list.ensures.tokens
    c.in_ok-source.ensures.source c.resolve.ensures.stop

pub returns-clause-only : goal.returns-clause-only
returns-clause-only c = λ other reads.
    let parsed = parsed-as c.args.text.now c.in_ok-list.list reads.list reads.source c.in_ok-list.ensures.tokens reads.lexed reads.parsed in
    read-only c.in_ok-source.source reads.source other c.resolve.result (c.in_ok-source.ensures.only parsed.steps reads.source parsed.sentence)
    reads.found c.resolve.ensures.text

pub returns-clause-complete : goal.returns-clause-complete
returns-clause-complete c = λ other reads.
    let parsed = parsed-as c.args.text.now c.in_ok-list.list reads.list reads.source c.in_ok-list.ensures.tokens reads.lexed reads.parsed in
    read-complete c.in_ok-source.source reads.source other c.resolve.result
    (c.in_ok-source.ensures.only parsed.steps reads.source parsed.sentence) reads.found c.resolve.ensures.stop

pub returns-clause-refused : goal.returns-clause-refused
returns-clause-refused c = λ refusal is.
    refused-names c.args.text.now c.in_ok-list.list c.in_ok-source.source refusal c.resolve.result c.in_ok-list.ensures.tokens c.in_ok-source.ensures.only
    c.in_ok-source.ensures.refused c.resolve.ensures.text c.resolve.ensures.stop is
