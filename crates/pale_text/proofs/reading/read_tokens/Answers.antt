use Rattle.ll1_reader.specs.Grammars.{rules_of}
use Rattle.pale_text.proofs.StopLemmas.{not_read, told_wrong, told_deep}
use Rattle.pale_text.proofs.reading.read_tokens.Goals as goal

pub returns-in-Ok-clause-refused : goal.returns-in-Ok-clause-refused
returns-in-Ok-clause-refused g c =
    λ refusal r. not_read (rules_of g.G.Grammar.grammar) c.args.limit c.args.kinds.now c.args.list.now refusal r
    c.in-Ok.ensures.wrong c.in-Ok.ensures.deep

pub returns-in-Err-Wrong-clause-refused : goal.returns-in-Err-Wrong-clause-refused
returns-in-Err-Wrong-clause-refused g c = λ refusal r.
    told_wrong (rules_of g.G.Grammar.grammar) c.args.limit c.args.kinds.now c.args.list.now refusal r c.in-Err-Wrong.number
    c.in-Err-Wrong.field-0 c.in-Err-Wrong.field-0-is c.refused.result c.in-Err-Wrong.ensures.wrong
    c.in-Err-Wrong.ensures.deep c.refused.ensures

pub returns-in-Err-Deep-clause-refused : goal.returns-in-Err-Deep-clause-refused
returns-in-Err-Deep-clause-refused g c = λ refusal r.
    told_deep (rules_of g.G.Grammar.grammar) c.args.limit c.args.kinds.now c.args.list.now refusal r c.in-Err-Deep.number
    c.in-Err-Deep.field-0 c.in-Err-Deep.field-0-is c.refused-in-Err-Deep.result c.in-Err-Deep.ensures.wrong
    c.in-Err-Deep.ensures.deep c.refused-in-Err-Deep.ensures
