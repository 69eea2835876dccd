-- A space is filled: the product goes on being built.
use Rattle.std.proofs.Common.{◌≡◌, ◌≢◌, ℕ, List, ◌++◌, length, Option, Some, Contains, slice_get, sym, ◌∙◌, ap, subst, inl, inr}
use Rattle.std.proofs.lemmas.Bool.Decides.{eqb_tells}
use Rattle.labels.specs.Labels.{Function}
use Rattle.bdd_nodes.specs.Shelf.{Contents}
use Rattle.bdd_nodes.proofs.CallerLemmas.{Keeps-trans}
use Rattle.bdd_walk.specs.Answers.{Completes}
use Rattle.bdd_walk.proofs.AddsAmongLemmas.{AddsAmong-more, ExceedsAmong-more}
use Rattle.gta_theory.specs.Guides.{Spaces, IsSpace, left, right}
use Rattle.gta_theory.specs.Automata.{Automaton}
use Rattle.gta_theory.specs.Generated.{Generated, steps}
use Rattle.gta_subsets.specs.Numbers.{number_in, AreNumbers, Extends}
use Rattle.gta_project.specs.Filling.{IsCellFunction, Joins, ExceedsCells}
use Rattle.gta_project.specs.Growing.{AreGenerated}
use Rattle.gta_project.specs.Building.{IsSpaceOf, AreSpaces, IsStepFunction, CompleteAll, ExceedsSteps, Building, ExtendAll}
use Rattle.gta_subsets.proofs.NumbersLemmas.{Extends-refl, Completes-extends}
use Rattle.gta_project.proofs.JoinsLemmas.{All-append, All-weaker}

-- one space has other sets
pub record ChangesSpace (old new : List (List (List ℕ))) (s : ℕ) (before after : List (List ℕ)) : Type 0 where
  pub many : length new ≡ length old
  pub was : slice_get old s ≡ Some before
  pub is : slice_get new s ≡ Some after
  pub others : (t : ℕ) → t ≢ s → slice_get new t ≡ slice_get old t

same_pairs : (a b : List (List ℕ)) → ◌≡◌ {A = Option (List (List ℕ))} (Some a) (Some b) → a ≡ b
same_pairs a b e = cc

module _ (old new : List (List (List ℕ))) (s : ℕ) (before after : List (List ℕ)) (change : ChangesSpace old new s before after)
    (extends : Extends before after) where
  pub ExtendAll-set : ExtendAll old new
  ExtendAll-set = record {
    many = change.many;
    each = λ t sets more was is. elim (eqb_tells t s) [
      | inl same ↦
          let was_s = ap (slice_get old) (sym same.1) ∙ was in
          let is_s = ap (slice_get new) (sym same.1) ∙ is in
          subst (λ (ps : List (List ℕ)). Extends ps more) (same_pairs _ _ (sym change.was ∙ was_s))
          (subst (λ (ps : List (List ℕ)). Extends before ps) (same_pairs _ _ (sym change.is ∙ is_s)) extends)
      | inr other ↦ subst (λ (ps : List (List ℕ)). Extends sets ps) (same_pairs _ _ (sym was ∙ sym (change.others t other.1) ∙ is)) (Extends-refl sets)
    ];
  }

module _ (g : Spaces) (Sets : Automaton (List ℕ)) where
  pub AreSpaces-building : (first shelf : Contents) (spaces : List (List (List ℕ))) → Building g Sets first shelf spaces → AreSpaces g Sets spaces
  AreSpaces-building first shelf spaces building = building.are

  -- sets of the list that a space has are generated
  pub AreGenerated-list : (spaces : List (List (List ℕ))) → AreSpaces g Sets spaces → (s : ℕ) (list sets : List (List ℕ)) →
      slice_get spaces s ≡ Some list → ((x : List ℕ) → Contains sets x → (k : ℕ) × (slice_get list k ≡ Some x)) → AreGenerated g Sets s sets
  AreGenerated-list spaces are s list sets at inside = λ x there. let k = inside x there in (are.each s list at).generated k.0 x k.1

  module _ (s : ℕ) (inside : IsSpace g s) (old new : List (List (List ℕ))) (before after : List (List ℕ))
      (are : AreSpaces g Sets old) (change : ChangesSpace old new s before after) (rows columns : List (List ℕ))
      (row-generated : AreGenerated g Sets (left g s) rows) (column-generated : AreGenerated g Sets (right g s) columns) where
    step-function : (given : ℕ → List ℕ → ℕ) (whole : Function) → IsCellFunction Sets.step s rows columns (given s) whole →
        IsStepFunction g Sets given whole
    step-function given whole is = record {
      space = s;
      inside = inside;
      at_left = is.row;
      at_right = is.column;
      in_left = row-generated is.row is.in_rows;
      in_right = column-generated is.column is.in_columns;
      states = is.states;
    }

    module _ (shelf now : Contents) (joins : Joins Sets.step s rows columns shelf now before after) (numbers : AreNumbers after) where
      pub AreSpaces-set : AreSpaces g Sets new
      AreSpaces-set = record {
        many = change.many ∙ are.many;
        each = λ t sets is. elim (eqb_tells t s) [
          | inl same ↦
              let is_s = ap (slice_get new) (sym same.1) ∙ is in
              let of : IsSpaceOf g Sets s after = record {
                numbers = numbers;
                initial = joins.extends.kept 0 (Sets.initial s) (are.each s before change.was).initial;
                generated = λ k set there. elim (joins.only k set there) [
                  | inl was ↦ (are.each s before change.was).generated k set was
                  | inr made ↦ subst (Generated g Sets s) made.gives
                      (steps s made.row made.column made.label inside (row-generated made.row made.in_rows) (column-generated made.column made.in_columns))
                ];
              } in
              subst (λ (ps : List (List ℕ)). IsSpaceOf g Sets t ps) (same_pairs _ _ (sym change.is ∙ is_s))
              (subst (λ (n : ℕ). IsSpaceOf g Sets n after) (sym same.1) of)
          | inr other ↦ are.each t sets (sym (change.others t other.1) ∙ is)
        ];
      }

      completes-before : (given : ℕ → List ℕ → ℕ) → CompleteAll g Sets new given → CompleteAll g Sets old given
      completes-before given completes t sets was = elim (eqb_tells t s) [
        | inl same ↦
            let was_s = ap (slice_get old) (sym same.1) ∙ was in
            let all = Completes-extends before after (given s) numbers joins.extends (completes s after change.is) in
            subst (λ (ps : List (List ℕ)). Completes (number_in ps) (given t)) (same_pairs _ _ (sym change.was ∙ was_s))
            (subst (λ (n : ℕ). Completes (number_in before) (given n)) (sym same.1) all)
        | inr other ↦ completes t sets (change.others t other.1 ∙ was)
      ]

      pub Building-set : (first : Contents) → Building g Sets first shelf old → Building g Sets first now new
      Building-set first building = record {
        keeps = Keeps-trans first shelf now building.keeps joins.keeps;
        same_limit = joins.same_limit ∙ building.same_limit;
        tables = joins.tables ∙ building.tables;
        shelf = joins.shelf;
        are = AreSpaces-set;
        counted = λ given completes.
            let earlier = building.counted given (completes-before given completes) in
            let later = joins.counted (given s) (completes s after change.is) in
            record {
              wholes = later.wholes ++ earlier.wholes;
              each = All-append (IsStepFunction g Sets given) later.wholes earlier.wholes
                  (All-weaker (IsCellFunction Sets.step s rows columns (given s)) (IsStepFunction g Sets given) (step-function given) later.wholes
                  later.each) earlier.each;
              adds = AddsAmong-more first shelf building.keeps earlier.wholes later.wholes now joins.keeps earlier.adds later.adds;
            };
      }

      pub ExceedsSteps-set : (first : Contents) → Building g Sets first shelf old → (given : ℕ → List ℕ → ℕ) → CompleteAll g Sets new given →
          ExceedsCells Sets.step s rows columns shelf (given s) → ExceedsSteps g Sets first given
      ExceedsSteps-set first building given completes exceeds =
          let earlier = building.counted given (completes-before given completes) in
          record {
            wholes = exceeds.wholes ++ earlier.wholes;
            each = All-append (IsStepFunction g Sets given) exceeds.wholes earlier.wholes
                (All-weaker (IsCellFunction Sets.step s rows columns (given s)) (IsStepFunction g Sets given) (step-function given) exceeds.wholes
                exceeds.each) earlier.each;
            exceeds = ExceedsAmong-more first shelf building.keeps earlier.wholes exceeds.wholes building.same_limit earlier.adds exceeds.exceeds;
          }
