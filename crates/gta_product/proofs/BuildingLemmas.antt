-- A space is filled: the product goes on being built.
use Rattle.std.proofs.Common.{◌≡◌, ◌≢◌, ℕ, List, ◌++◌, length, Option, Some, slice_get, sym, ◌∙◌, ap, subst, inl, inr}
use Rattle.std.proofs.lemmas.Bool.Decides.{eqb_tells}
use Rattle.labels.specs.Labels.{Function}
use Rattle.bdd_nodes.specs.Shelf.{Contents}
use Rattle.bdd_nodes.proofs.CallerLemmas.{Keeps-trans}
use Rattle.bdd_walk.specs.Answers.{Completes}
use Rattle.bdd_walk.proofs.AddsAmongLemmas.{AddsAmong-more, ExceedsAmong-more}
use Rattle.gta_theory.specs.Guides.{Spaces, IsSpace, left, right}
use Rattle.gta_theory.specs.Automata.{Automaton}
use Rattle.gta_theory.specs.Generated.{Generated, steps}
use Rattle.gta_product.specs.Numbers.{numbered, AreNumbers, Extends}
use Rattle.gta_product.specs.Filling.{IsCellFunction, Joins, ExceedsCells}
use Rattle.gta_product.specs.Growing.{AreGenerated}
use Rattle.gta_product.specs.Building.{IsSpaceOf, AreSpaces, IsStepFunction, CompleteAll, ExceedsSteps, Building, ExtendAll}
use Rattle.gta_product.proofs.NumbersLemmas.{Extends-refl, Completes-extends}
use Rattle.gta_product.proofs.JoinsLemmas.{All-append, All-weaker}

-- one space has other pairs
pub record SetsSpace (old new : List (List (ℕ × ℕ))) (s : ℕ) (before after : List (ℕ × ℕ)) : Type 0 where
  pub many : length new ≡ length old
  pub was : slice_get old s ≡ Some before
  pub is : slice_get new s ≡ Some after
  pub others : (t : ℕ) → t ≢ s → slice_get new t ≡ slice_get old t

same_pairs : (a b : List (ℕ × ℕ)) → ◌≡◌ {A = Option (List (ℕ × ℕ))} (Some a) (Some b) → a ≡ b
same_pairs a b e = cc

module _ (old new : List (List (ℕ × ℕ))) (s : ℕ) (before after : List (ℕ × ℕ)) (sets : SetsSpace old new s before after)
    (extends : Extends before after) where
  pub ExtendAll-set : ExtendAll old new
  ExtendAll-set = record {
    many = sets.many;
    each = λ t pairs more was is. elim (eqb_tells t s) [
      | inl same ↦
          let was_s = ap (slice_get old) (sym same.1) ∙ was in
          let is_s = ap (slice_get new) (sym same.1) ∙ is in
          subst (λ (ps : List (ℕ × ℕ)). Extends ps more) (same_pairs _ _ (sym sets.was ∙ was_s))
          (subst (λ (ps : List (ℕ × ℕ)). Extends before ps) (same_pairs _ _ (sym sets.is ∙ is_s)) extends)
      | inr other ↦ subst (λ (ps : List (ℕ × ℕ)). Extends pairs ps) (same_pairs _ _ (sym was ∙ sym (sets.others t other.1) ∙ is)) (Extends-refl pairs)
    ];
  }

module _ (g : Spaces) (AB : Automaton (ℕ × ℕ)) where
  module _ (s : ℕ) (inside : IsSpace g s) (old new : List (List (ℕ × ℕ))) (before after : List (ℕ × ℕ))
      (are : AreSpaces g AB old) (sets : SetsSpace old new s before after) (rows columns : List (ℕ × ℕ))
      (row-generated : AreGenerated g AB (left g s) rows) (column-generated : AreGenerated g AB (right g s) columns) where
    step-function : (given : ℕ → List ℕ → ℕ) (whole : Function) → IsCellFunction AB s rows columns (given s) whole →
        IsStepFunction g AB given whole
    step-function given whole is = record {
      space = s;
      inside = inside;
      at_left = is.row;
      at_right = is.column;
      in_left = row-generated is.row is.in_rows;
      in_right = column-generated is.column is.in_columns;
      states = is.states;
    }

    module _ (shelf now : Contents) (joins : Joins AB s rows columns shelf now before after) (numbers : AreNumbers after) where
      pub AreSpaces-set : AreSpaces g AB new
      AreSpaces-set = record {
        many = sets.many ∙ are.many;
        each = λ t pairs is. elim (eqb_tells t s) [
          | inl same ↦
              let is_s = ap (slice_get new) (sym same.1) ∙ is in
              let of : IsSpaceOf g AB s after = record {
                numbers = numbers;
                initial = joins.extends.kept 0 (AB.initial s) (are.each s before sets.was).initial;
                generated = λ k pair there. elim (joins.only k pair there) [
                  | inl was ↦ (are.each s before sets.was).generated k pair was
                  | inr made ↦ subst (Generated g AB s) made.gives
                      (steps s made.row made.column made.label inside (row-generated made.row made.in_rows) (column-generated made.column made.in_columns))
                ];
              } in
              subst (λ (ps : List (ℕ × ℕ)). IsSpaceOf g AB t ps) (same_pairs _ _ (sym sets.is ∙ is_s))
              (subst (λ (n : ℕ). IsSpaceOf g AB n after) (sym same.1) of)
          | inr other ↦ are.each t pairs (sym (sets.others t other.1) ∙ is)
        ];
      }

      completes-before : (given : ℕ → List ℕ → ℕ) → CompleteAll g AB new given → CompleteAll g AB old given
      completes-before given completes t pairs was = elim (eqb_tells t s) [
        | inl same ↦
            let was_s = ap (slice_get old) (sym same.1) ∙ was in
            let all = Completes-extends before after (given s) numbers joins.extends (completes s after sets.is) in
            subst (λ (ps : List (ℕ × ℕ)). Completes (numbered ps) (given t)) (same_pairs _ _ (sym sets.was ∙ was_s))
            (subst (λ (n : ℕ). Completes (numbered before) (given n)) (sym same.1) all)
        | inr other ↦ completes t pairs (sets.others t other.1 ∙ was)
      ]

      pub Building-set : (first : Contents) → Building g AB first shelf old → Building g AB first now new
      Building-set first building = record {
        keeps = Keeps-trans first shelf now building.keeps joins.keeps;
        same_limit = joins.same_limit ∙ building.same_limit;
        tables = joins.tables ∙ building.tables;
        shelf = joins.shelf;
        are = AreSpaces-set;
        counted = λ given completes.
            let earlier = building.counted given (completes-before given completes) in
            let later = joins.counted (given s) (completes s after sets.is) in
            record {
              wholes = later.wholes ++ earlier.wholes;
              each = All-append (IsStepFunction g AB given) later.wholes earlier.wholes
                  (All-weaker (IsCellFunction AB s rows columns (given s)) (IsStepFunction g AB given) (step-function given) later.wholes
                  later.each) earlier.each;
              adds = AddsAmong-more first shelf building.keeps earlier.wholes later.wholes now joins.keeps earlier.adds later.adds;
            };
      }

      pub ExceedsSteps-set : (first : Contents) → Building g AB first shelf old → (given : ℕ → List ℕ → ℕ) → CompleteAll g AB new given →
          ExceedsCells AB s rows columns shelf (given s) → ExceedsSteps g AB first given
      ExceedsSteps-set first building given completes exceeds =
          let earlier = building.counted given (completes-before given completes) in
          record {
            wholes = exceeds.wholes ++ earlier.wholes;
            each = All-append (IsStepFunction g AB given) exceeds.wholes earlier.wholes
                (All-weaker (IsCellFunction AB s rows columns (given s)) (IsStepFunction g AB given) (step-function given) exceeds.wholes
                exceeds.each) earlier.each;
            exceeds = ExceedsAmong-more first shelf building.keeps earlier.wholes exceeds.wholes building.same_limit earlier.adds exceeds.exceeds;
          }
