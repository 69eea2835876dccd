use Rattle.std.proofs.Common.{◌≡◌, ℕ, vec_len}
use Rattle.gta_classes.specs.Lists.{Leads}
use Rattle.gta_classes.proofs.lists.empty_lists.Given as goal

abbrev pub invariant-loop-place : goal.invariant-loop-place
invariant-loop-place l = record {
  many : vec_len l.lists ≡ l._place;
  empty : (place number : ℕ) → Leads l.lists.items place number → ⊥;
}
