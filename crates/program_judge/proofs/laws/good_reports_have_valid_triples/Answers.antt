use Rattle.std.proofs.Common.{refl}
use Rattle.program_judge.specs.declared.ways.Ending.TheVariants as ending
use Rattle.program_judge.proofs.GoodLemmas.{good-valid}
use Rattle.program_judge.proofs.laws.good_reports_have_valid_triples.Goals as goal

pub returns : goal.returns
returns c = λ limit program triples output report. good-valid limit program triples output ending.Good report refl
