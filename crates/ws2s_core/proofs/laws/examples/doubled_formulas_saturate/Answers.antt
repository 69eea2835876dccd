use Rattle.std.proofs.Common.{◌-◌, ◌^◌, min, refl, ap}
use Rattle.ws2s_core.proofs.ExamplesLemmas.{count_doubled}
use Rattle.ws2s_core.proofs.laws.examples.doubled_formulas_saturate.Goals as goal

pub returns : goal.returns
returns c = record {
  twelve = count_doubled 12 8191 refl;
  sixty_four = count_doubled 64 (2 ^ 65 - 1) refl;
  saturated = ap (λ n. min n 18446744073709551615) (count_doubled 64 (2 ^ 65 - 1) refl);
}
