use Rattle.ws2s_least.proofs.LightestLemmas.{lightest-exists}
use Rattle.ws2s_least.proofs.laws.formulas_have_lightest_models.Goals as goal

pub returns : goal.returns
returns c = lightest-exists
