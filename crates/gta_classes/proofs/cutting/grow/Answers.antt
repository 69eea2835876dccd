-- One empty list more.
use Rattle.std.proofs.Common.{ℕ, List, sym, subst, arith}
use Rattle.gta_classes.specs.Lists.{Leads}
use Rattle.gta_classes.proofs.ListsLemmas.{Leads-more}
use Rattle.gta_classes.proofs.cutting.grow.Goals as goal

pub loop-place-preserved : goal.loop-place-preserved
loop-place-preserved c =
    let lists = c.loop-place.lists.items in
    let inv = c.loop-place.invariant in
    record {
      many = let l = c.in_ok-push.ensures.len in let m = inv.many in omega arith;
      kept = λ place number there. subst (λ (xs : List (List ℕ)). Leads xs place number) (sym c.in_ok-push.ensures.items)
          (Leads-more lists c.new.result place number (inv.kept place number there));
    }
