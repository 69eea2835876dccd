use Rattle.std.proofs.Common.{◌≡◌, ℕ, vec_len}
use Rattle.gta_classes.specs.Lists.{Leads}
use Rattle.gta_classes.proofs.cutting.grow.Given as goal

abbrev pub invariant-loop-place : goal.invariant-loop-place
invariant-loop-place l = record {
  many : vec_len l.lists ≡ l._place;
  kept : (place number : ℕ) → Leads l.fn.lists.items place number → Leads l.lists.items place number;
}
