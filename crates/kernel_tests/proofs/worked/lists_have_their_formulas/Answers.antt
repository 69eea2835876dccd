use Rattle.std.proofs.Common.{refl}
use Rattle.kernel_tests.proofs.worked.lists_have_their_formulas.Goals as goal

pub returns : goal.returns
returns c = record {
  pushed_live = refl;
  pushed_field = refl;
  dropped_live = refl;
  rounds = refl;
  up = refl;
  dangling = refl;
  shared = refl;
  leak = refl;
}
