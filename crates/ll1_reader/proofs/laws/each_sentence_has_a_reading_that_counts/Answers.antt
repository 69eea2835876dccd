use Rattle.ll1_reader.specs.Grammars.{rules_of}
use Rattle.ll1_reader.proofs.CompleteLemmas.{weaker}
use Rattle.ll1_reader.proofs.LawLemmas.{sentence_counts}
use Rattle.ll1_reader.proofs.laws.each_sentence_has_a_reading_that_counts.Goals as goal

pub returns-clause-counts : goal.returns-clause-counts
returns-clause-counts g c = sentence_counts g.G.Grammar.grammar g.G.Grammar.rules g.met.G.Grammar.named g.G.Grammar.table g.met.G.Grammar.sound

pub returns-clause-is_any : goal.returns-clause-is_any
returns-clause-is_any g c = λ tokens steps r. weaker (rules_of g.G.Grammar.grammar) r
