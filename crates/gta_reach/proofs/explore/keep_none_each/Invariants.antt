use Rattle.std.proofs.Common.{◌≡◌, vec_len}
use Rattle.gta_reach.specs.Exploring.{AllKeepNone}
use Rattle.gta_reach.proofs.explore.keep_none_each.Given as goal

abbrev pub invariant-loop-s : goal.invariant-loop-s
invariant-loop-s l = record {
  many : vec_len l.kept ≡ l.s;
  none : AllKeepNone l.kept.items;
}
