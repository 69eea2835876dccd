use Rattle.ws2s_syntax.specs.Checked.{free_classes}
use Rattle.ws2s_reduce.proofs.TextsLemmas.{WSat-holds, WSat-breaks, given_once}
use Rattle.ws2s_reduce.proofs.laws.reductions_mean_the_text.Goals as goal

pub returns : goal.returns
returns c = record {
  holds = λ text checked a. WSat-holds text a checked;
  breaks = λ text checked a. WSat-breaks text a checked;
  once = λ text a free other. given_once a (free_classes text) 0 free other;
}
