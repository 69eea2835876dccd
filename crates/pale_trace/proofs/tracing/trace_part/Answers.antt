use Rattle.std.proofs.Common.{sym}
use Rattle.store_text.specs.Lines.{lines_of}
use Rattle.store_text.specs.declared.fault.StoreKind.TheVariants.{Missing}
use Rattle.pale_trace.proofs.TellingLemmas.{says_refused, empty_part, says_lines, says_spelled}
use Rattle.pale_trace.proofs.tracing.trace_part.Goals as goal

pub returns-then-is_empty : goal.returns-then-is_empty
returns-then-is_empty c =
    let whole = c.args.whole.now in
    let part = c.args.part.now in
    says_refused whole.typed whole.triples (lines_of part) 1 Missing (empty_part whole.typed whole.triples part (sym c.if-is_empty.ensures))
    c.store_refused.result c.store_refused.ensures

pub returns-in-Some : goal.returns-in-Some
returns-in-Some c =
    let whole = c.args.whole.now in
    says_spelled whole.typed whole.triples c.args.part.now c.split_line.result.0.now c.split_line.result.1.now c.in-Some.number
    c.split_line.ensures.lines c.in-Some.ensures.some.0 c.trace_numbered.result c.trace_numbered.ensures

pub returns-in-None : goal.returns-in-None
returns-in-None c =
    let whole = c.args.whole.now in
    says_lines whole.typed whole.triples c.args.part.now c.split_line.result.0.now c.split_line.result.1.now c.split_line.ensures.lines
    c.trace_named.result c.trace_named.ensures
