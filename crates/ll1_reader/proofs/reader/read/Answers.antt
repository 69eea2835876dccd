use Rattle.ll1_reader.proofs.SameRows.{answer_to_rows, answer_complete}
use Rattle.ll1_reader.proofs.StopLemmas.{stops_at_wrong, stops_at_deep}
use Rattle.ll1_reader.specs.Grammars.{rules_of}
use Rattle.ll1_reader.proofs.reader.read.Goals as goal

pub returns-clause-exact : goal.returns-clause-exact
returns-clause-exact g c =
    answer_to_rows g.G.Grammar.grammar g.G.Grammar.rules g.met.G.Grammar.named c.args.limit c.args.tokens.now c.read_by_name.result c.read_by_name.ensures

pub returns-clause-complete : goal.returns-clause-complete
returns-clause-complete g c =
    answer_complete g.G.Grammar.grammar g.G.Grammar.rules g.met.G.Grammar.named c.args.limit c.args.tokens.now c.read_by_name.result c.read_by_name.ensures

pub returns-clause-wrong : goal.returns-clause-wrong
returns-clause-wrong g c = stops_at_wrong (rules_of g.G.Grammar.grammar) c.args.limit c.args.tokens.now c.read_by_name.result (returns-clause-exact g c)

pub returns-clause-deep : goal.returns-clause-deep
returns-clause-deep g c = stops_at_deep (rules_of g.G.Grammar.grammar) c.args.limit c.args.tokens.now c.read_by_name.result (returns-clause-exact g c)
