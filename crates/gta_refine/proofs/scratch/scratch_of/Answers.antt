-- Nothing is set.
use Rattle.std.proofs.Common.{ℕ, Bool, List, sym, subst, arith}
use Rattle.gta_classes.specs.Marks.{IsClear, AreZero}
use Rattle.gta_classes.proofs.MarksLemmas.{IsClear-replicate, AreZero-replicate}
use Rattle.gta_refine.proofs.scratch.scratch_of.Goals as goal

pub returns : goal.returns
returns c =
    let ids = c.in_ok-vec.ensures.items_if_clones_equal (λ y h. h) in
    let seen = c.in_ok-vec-2.ensures.items_if_clones_equal (λ y h. h) in
    let found = c.in_ok-vec-3.ensures.items_if_clones_equal (λ y h. h) in
    record {
      zero = subst (λ (xs : List ℕ). AreZero xs) (sym ids) (AreZero-replicate _);
      seen = subst (λ (xs : List Bool). IsClear xs) (sym seen) (IsClear-replicate _);
      found = subst (λ (xs : List Bool). IsClear xs) (sym found) (IsClear-replicate _);
      long = λ s. let m = c.most_states.ensures s in let l = c.in_ok-vec.ensures.len in let o = c.in_ok-vec.field-0.ok in omega arith;
    }
