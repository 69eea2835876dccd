-- Joins of a space, one after the other.
use Rattle.std.proofs.Common.{ℕ, suc, List, [], ◌∷◌, ◌++◌, Option, Some, Contains, sym, ◌∙◌, ap, refl, inl, inr, arith}
use Rattle.std.specs.List.{All}
use Rattle.std.proofs.lemmas.List.Elements.{All-cons}
use Rattle.labels.specs.Labels.{Function}
use Rattle.bdd_nodes.specs.declared.node_ref.NodeRef.{NodeRef}
use Rattle.bdd_nodes.specs.Shelf.{Contents, IsShelf}
use Rattle.bdd_nodes.specs.Changes.{Keeps}
use Rattle.bdd_nodes.proofs.CallerLemmas.{Keeps-refl, Keeps-trans}
use Rattle.bdd_walk.specs.Answers.{Completes}
use Rattle.bdd_walk.proofs.AddsAmongLemmas.{AddsAmong-none, AddsAmong-more, ExceedsAmong-more}
use Rattle.gta_theory.specs.Automata.{Automaton}
use Rattle.gta_product.specs.Numbers.{numbered, AreNumbers, Extends}
use Rattle.gta_product.specs.Filling.{IsCell, IsMade, IsCellFunction, ExceedsCells, Joins}
use Rattle.gta_product.proofs.NumbersLemmas.{Extends-refl, Extends-trans, Completes-extends, number_in-extends}

pub All-tail : {X : Type 0} (P : X → Type 0) (x : X) (xs : List X) → All P (x ∷ xs) → All P xs
All-tail P x xs all = λ k d within. all (suc k) d (omega arith)

pub All-head : {X : Type 0} (P : X → Type 0) (x : X) (xs : List X) → All P (x ∷ xs) → P x
All-head P x xs all = all 0 x (omega arith)

pub All-append : {X : Type 0} (P : X → Type 0) (xs ys : List X) → All P xs → All P ys → All P (xs ++ ys)
All-append P [] ys first second = second
All-append P (x ∷ xs) ys first second =
    All-cons P x (xs ++ ys) (All-head P x xs first) (All-append P xs ys (All-tail P x xs first) second)

pub All-weaker : {X : Type 0} (P Q : X → Type 0) → ((x : X) → P x → Q x) → (xs : List X) → All P xs → All Q xs
All-weaker P Q weaker [] all = λ k d within. absurd (omega arith)
All-weaker P Q weaker (x ∷ xs) all =
    All-cons Q x xs (weaker x (All-head P x xs all)) (All-weaker P Q weaker xs (All-tail P x xs all))

pub All-alone : {X : Type 0} (P : X → Type 0) (x : X) → P x → All P (x ∷ [])
All-alone P x holds = All-cons P x [] holds (λ k d within. absurd (omega arith))

module _ (AB : Automaton (ℕ × ℕ)) (s : ℕ) where
  -- more rows, and more columns
  module _ (rows columns more_rows more_columns : List (ℕ × ℕ)) (in_rows : (x : ℕ × ℕ) → Contains rows x → Contains more_rows x)
      (in_columns : (x : ℕ × ℕ) → Contains columns x → Contains more_columns x) where
    wider-cell : (given : List ℕ → ℕ) (whole : Function) → IsCellFunction AB s rows columns given whole →
        IsCellFunction AB s more_rows more_columns given whole
    wider-cell given whole is = record {
      row = is.row;
      column = is.column;
      in_rows = in_rows is.row is.in_rows;
      in_columns = in_columns is.column is.in_columns;
      states = is.states;
    }

    wider-made : (pair : ℕ × ℕ) → IsMade AB s rows columns pair → IsMade AB s more_rows more_columns pair
    wider-made pair made = record {
      row = made.row;
      column = made.column;
      label = made.label;
      in_rows = in_rows made.row made.in_rows;
      in_columns = in_columns made.column made.in_columns;
      gives = made.gives;
    }

    pub Joins-wider : (old new : Contents) (before after : List (ℕ × ℕ)) → Joins AB s rows columns old new before after →
        Joins AB s more_rows more_columns old new before after
    Joins-wider old new before after joins = record {
      keeps = joins.keeps;
      same_limit = joins.same_limit;
      tables = joins.tables;
      shelf = joins.shelf;
      extends = joins.extends;
      only = λ k pair there. elim (joins.only k pair there) [ inl was ↦ inl was | inr made ↦ inr (wider-made pair made) ];
      counted = λ given completes.
          let adds = joins.counted given completes in
          record {
            wholes = adds.wholes;
            each = All-weaker (IsCellFunction AB s rows columns given) (IsCellFunction AB s more_rows more_columns given) (wider-cell given)
                adds.wholes adds.each;
            adds = adds.adds;
          };
    }

    pub ExceedsCells-wider : (shelf : Contents) (given : List ℕ → ℕ) → ExceedsCells AB s rows columns shelf given →
        ExceedsCells AB s more_rows more_columns shelf given
    ExceedsCells-wider shelf given exceeds = record {
      wholes = exceeds.wholes;
      each = All-weaker (IsCellFunction AB s rows columns given) (IsCellFunction AB s more_rows more_columns given) (wider-cell given)
          exceeds.wholes exceeds.each;
      exceeds = exceeds.exceeds;
    }

  module _ (rows columns : List (ℕ × ℕ)) where
    pub Joins-none : (shelf : Contents) (pairs : List (ℕ × ℕ)) → IsShelf shelf → Joins AB s rows columns shelf shelf pairs pairs
    Joins-none shelf pairs is_shelf = record {
      keeps = Keeps-refl shelf;
      same_limit = refl;
      tables = refl;
      shelf = is_shelf;
      extends = Extends-refl pairs;
      only = λ k pair there. inl there;
      counted = λ given completes. record {
        wholes = [];
        each = λ k d within. absurd (omega arith);
        adds = AddsAmong-none shelf;
      };
    }

    pub Joins-trans : (old middle new : Contents) (before between after : List (ℕ × ℕ)) → AreNumbers after →
        Joins AB s rows columns old middle before between → Joins AB s rows columns middle new between after →
        Joins AB s rows columns old new before after
    Joins-trans old middle new before between after numbers first second = record {
      keeps = Keeps-trans old middle new first.keeps second.keeps;
      same_limit = second.same_limit ∙ first.same_limit;
      tables = second.tables ∙ first.tables;
      shelf = second.shelf;
      extends = Extends-trans before between after first.extends second.extends;
      only = λ k pair there. elim (second.only k pair there) [ inl was ↦ first.only k pair was | inr made ↦ inr made ];
      counted = λ given completes.
          let earlier = first.counted given (Completes-extends between after given numbers second.extends completes) in
          let later = second.counted given completes in
          record {
            wholes = later.wholes ++ earlier.wholes;
            each = All-append (IsCellFunction AB s rows columns given) later.wholes earlier.wholes later.each earlier.each;
            adds = AddsAmong-more old middle first.keeps earlier.wholes later.wholes new second.keeps earlier.adds later.adds;
          };
    }

    -- what had come before there was no room
    pub ExceedsCells-after : (old new : Contents) (before between after : List (ℕ × ℕ)) (given : List ℕ → ℕ) → AreNumbers after →
        Extends between after → Completes (numbered after) given → Joins AB s rows columns old new before between →
        ExceedsCells AB s rows columns new given → ExceedsCells AB s rows columns old given
    ExceedsCells-after old new before between after given numbers extends completes joins exceeds =
        let earlier = joins.counted given (Completes-extends between after given numbers extends completes) in
        record {
          wholes = exceeds.wholes ++ earlier.wholes;
          each = All-append (IsCellFunction AB s rows columns given) exceeds.wholes earlier.wholes exceeds.each earlier.each;
          exceeds = ExceedsAmong-more old new joins.keeps earlier.wholes exceeds.wholes joins.same_limit earlier.adds exceeds.exceeds;
        }

  -- a cell stays
  pub IsCell-kept : (pairs more : List (ℕ × ℕ)) (l r : ℕ × ℕ) (shelf after : Contents) (root : NodeRef) → Keeps shelf after →
      AreNumbers more → Extends pairs more → IsCell AB s pairs l r shelf root → IsCell AB s more l r after root
  IsCell-kept pairs more l r shelf after root keeps numbers extends cell = record {
    valid = keeps.valid root cell.valid;
    states = λ label. number_in-extends pairs more numbers extends _ _ (cell.states label)
        ∙ ap (λ (n : ℕ). let o : Option ℕ = Some n in o) (sym (keeps.states root label cell.valid));
  }
