use Rattle.program_judge.proofs.EndingLemmas.{fields-end, triples-end}
use Rattle.program_judge.proofs.laws.reports_can_be_ended.Goals as goal

pub returns : goal.returns
returns c = record { fields = fields-end; triples = triples-end }
