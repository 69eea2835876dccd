-- One empty list more.
use Rattle.std.proofs.Common.{ℕ, List, [], ◌∷◌, ◌++◌, ◌∙◌, ap, subst, arith}
use Rattle.gta_classes.specs.Lists.{Leads}
use Rattle.gta_classes.proofs.ListsLemmas.{Leads-none}
use Rattle.gta_classes.proofs.lists.empty_lists.Goals as goal

pub loop-place-preserved : goal.loop-place-preserved
loop-place-preserved c =
    let lists = c.loop-place.lists.items in
    let inv = c.loop-place.invariant in
    record {
      many = let l = c.in_ok-push.ensures.len in let m = inv.many in omega arith;
      empty = λ place number there. Leads-none lists inv.empty place number
          (subst (λ (xs : List (List ℕ)). Leads xs place number) (c.in_ok-push.ensures.items ∙ ap (λ (x : List ℕ). lists ++ x ∷ []) c.new.ensures) there);
    }
