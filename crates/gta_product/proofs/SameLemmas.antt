-- Spaces that keep their pairs.
use Rattle.std.proofs.Common.{◌≡◌, ℕ, List, Option, Some, sym, ◌∙◌, subst, refl, arith}
use Rattle.std.proofs.lemmas.Option.{slice_get_within}
use Rattle.gta_core.proofs.CellsLemmas.{get-index}
use Rattle.gta_product.specs.Numbers.{Extends}
use Rattle.gta_product.specs.Building.{ExtendAll}
use Rattle.gta_product.proofs.NumbersLemmas.{Extends-refl, Extends-trans}

pub ExtendAll-refl : (spaces : List (List (ℕ × ℕ))) → ExtendAll spaces spaces
ExtendAll-refl spaces = record {
  many = refl;
  each = λ s pairs more was is. subst (λ (ps : List (ℕ × ℕ)). Extends pairs ps) (same_list pairs more (sym was ∙ is)) (Extends-refl pairs);
}
  where
    same_list : (a b : List (ℕ × ℕ)) → ◌≡◌ {A = Option (List (ℕ × ℕ))} (Some a) (Some b) → a ≡ b
    same_list a b e = cc

pub ExtendAll-trans : (old middle new : List (List (ℕ × ℕ))) → ExtendAll old middle → ExtendAll middle new → ExtendAll old new
ExtendAll-trans old middle new first second = record {
  many = second.many ∙ first.many;
  each = λ s pairs more was is.
      let between = get-index middle s (omega (arith, first.many, slice_get_within old s pairs was)) in
      Extends-trans pairs between.0 more (first.each s pairs between.0 was between.1) (second.each s between.0 more between.1 is);
}
