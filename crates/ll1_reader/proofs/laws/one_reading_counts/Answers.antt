use Rattle.ll1_reader.proofs.LawLemmas.{one_counts}
use Rattle.ll1_reader.proofs.laws.one_reading_counts.Goals as goal

pub returns : goal.returns
returns g c = one_counts g.G.Grammar.grammar g.G.Grammar.rules g.met.G.Grammar.named g.G.Grammar.table g.met.G.Grammar.sound
