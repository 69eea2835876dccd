-- One space more.
use Rattle.std.proofs.Common.{List, sym, subst, arith}
use Rattle.gta_reach.specs.declared.explore.Kept.{Kept}
use Rattle.gta_reach.specs.Exploring.{AllKeepNone}
use Rattle.gta_reach.proofs.ExploreLemmas.{AllKeepNone-push}
use Rattle.gta_reach.proofs.explore.keep_none_each.Goals as goal

pub loop-s-preserved : goal.loop-s-preserved
loop-s-preserved c = record {
  many = let l = c.in_ok-push.ensures.len in let m = c.loop-s.invariant.many in omega arith;
  none = subst (λ (kept : List Kept). AllKeepNone kept) (sym c.in_ok-push.ensures.items)
      (AllKeepNone-push c.loop-s.kept.items c.in_ok-keep_none.field-0 c.in_ok-keep_none.ensures c.loop-s.invariant.none);
}
