-- Joins of a space, one after the other.
use Rattle.std.proofs.Common.{◌≡◌, ℕ, zero, suc, ◌+◌, ◌*◌, ◌<◌, List, [], ◌∷◌, ◌++◌, length, length-append, Option, Some, None, Contains}
use Rattle.std.proofs.Common.{slice_get, sym, ◌∙◌, ap, refl, subst, inl, inr, arith, suc-mul, mul-le-mul_right}
use Rattle.std.specs.List.{All}
use Rattle.std.proofs.lemmas.Option.{slice_get_within}
use Rattle.std.proofs.lemmas.List.Elements.{All-cons}
use Rattle.labels.specs.Labels.{Function}
use Rattle.bdd_nodes.specs.declared.node_ref.NodeRef.{NodeRef}
use Rattle.bdd_nodes.specs.Shelf.{Contents, IsShelf}
use Rattle.bdd_nodes.specs.Changes.{Keeps}
use Rattle.bdd_nodes.proofs.CallerLemmas.{Keeps-refl, Keeps-trans}
use Rattle.bdd_walk.specs.Answers.{Completes}
use Rattle.bdd_walk.proofs.AddsAmongLemmas.{AddsAmong-none, AddsAmong-more, ExceedsAmong-more}
use Rattle.gta_subsets.specs.Numbers.{number_in, AreNumbers, Extends}
use Rattle.gta_project.specs.Filling.{Stepping, IsCell, IsMade, IsCellFunction, ExceedsCells, Joins, IsRow, AreCells}
use Rattle.gta_subsets.proofs.NumbersLemmas.{Extends-refl, Extends-trans, Completes-extends, number_in-extends, get-snoc, get-last}

pub All-tail : {X : Type 0} (P : X → Type 0) (x : X) (xs : List X) → All P (x ∷ xs) → All P xs
All-tail P x xs all = λ k d within. all (suc k) d (omega arith)

pub All-head : {X : Type 0} (P : X → Type 0) (x : X) (xs : List X) → All P (x ∷ xs) → P x
All-head P x xs all = all 0 x (omega arith)

pub All-append : {X : Type 0} (P : X → Type 0) (xs ys : List X) → All P xs → All P ys → All P (xs ++ ys)
All-append P [] ys first second = second
All-append P (x ∷ xs) ys first second =
    All-cons P x (xs ++ ys) (All-head P x xs first) (All-append P xs ys (All-tail P x xs first) second)

pub All-weaker : {X : Type 0} (P Q : X → Type 0) → ((x : X) → P x → Q x) → (xs : List X) → All P xs → All Q xs
All-weaker P Q weaker [] all = λ k d within. absurd (omega arith)
All-weaker P Q weaker (x ∷ xs) all =
    All-cons Q x xs (weaker x (All-head P x xs all)) (All-weaker P Q weaker xs (All-tail P x xs all))

pub All-alone : {X : Type 0} (P : X → Type 0) (x : X) → P x → All P (x ∷ [])
All-alone P x holds = All-cons P x [] holds (λ k d within. absurd (omega arith))

pub get-before : {X : Type 0} (xs ys : List X) (k : ℕ) → k < length xs → slice_get (xs ++ ys) k ≡ slice_get xs k
get-before [] ys k within = absurd (omega arith)
get-before (x ∷ xs) ys zero within = refl
get-before (x ∷ xs) ys (suc k) within = get-before xs ys k (omega arith)

same_root : (a b : NodeRef) → ◌≡◌ {A = Option NodeRef} (Some a) (Some b) → a ≡ b
same_root a b e = cc

module _ (Step : Stepping) (s : ℕ) where
  -- more rows, and more columns
  module _ (rows columns more_rows more_columns : List (List ℕ)) (in_rows : (x : List ℕ) → Contains rows x → Contains more_rows x)
      (in_columns : (x : List ℕ) → Contains columns x → Contains more_columns x) where
    wider-cell : (given : List ℕ → ℕ) (whole : Function) → IsCellFunction Step s rows columns given whole →
        IsCellFunction Step s more_rows more_columns given whole
    wider-cell given whole is = record {
      row = is.row;
      column = is.column;
      in_rows = in_rows is.row is.in_rows;
      in_columns = in_columns is.column is.in_columns;
      states = is.states;
    }

    wider-made : (set : List ℕ) → IsMade Step s rows columns set → IsMade Step s more_rows more_columns set
    wider-made set made = record {
      row = made.row;
      column = made.column;
      label = made.label;
      in_rows = in_rows made.row made.in_rows;
      in_columns = in_columns made.column made.in_columns;
      gives = made.gives;
    }

    pub Joins-wider : (old new : Contents) (before after : List (List ℕ)) → Joins Step s rows columns old new before after →
        Joins Step s more_rows more_columns old new before after
    Joins-wider old new before after joins = record {
      keeps = joins.keeps;
      same_limit = joins.same_limit;
      tables = joins.tables;
      shelf = joins.shelf;
      extends = joins.extends;
      only = λ k set there. elim (joins.only k set there) [ inl was ↦ inl was | inr made ↦ inr (wider-made set made) ];
      counted = λ given completes.
          let adds = joins.counted given completes in
          record {
            wholes = adds.wholes;
            each = All-weaker (IsCellFunction Step s rows columns given) (IsCellFunction Step s more_rows more_columns given) (wider-cell given)
                adds.wholes adds.each;
            adds = adds.adds;
          };
    }

    pub ExceedsCells-wider : (shelf : Contents) (given : List ℕ → ℕ) → ExceedsCells Step s rows columns shelf given →
        ExceedsCells Step s more_rows more_columns shelf given
    ExceedsCells-wider shelf given exceeds = record {
      wholes = exceeds.wholes;
      each = All-weaker (IsCellFunction Step s rows columns given) (IsCellFunction Step s more_rows more_columns given) (wider-cell given)
          exceeds.wholes exceeds.each;
      exceeds = exceeds.exceeds;
    }

  module _ (rows columns : List (List ℕ)) where
    pub Joins-none : (shelf : Contents) (sets : List (List ℕ)) → IsShelf shelf → Joins Step s rows columns shelf shelf sets sets
    Joins-none shelf sets is_shelf = record {
      keeps = Keeps-refl shelf;
      same_limit = refl;
      tables = refl;
      shelf = is_shelf;
      extends = Extends-refl sets;
      only = λ k set there. inl there;
      counted = λ given completes. record {
        wholes = [];
        each = λ k d within. absurd (omega arith);
        adds = AddsAmong-none shelf;
      };
    }

    pub Joins-trans : (old middle new : Contents) (before between after : List (List ℕ)) → AreNumbers after →
        Joins Step s rows columns old middle before between → Joins Step s rows columns middle new between after →
        Joins Step s rows columns old new before after
    Joins-trans old middle new before between after numbers first second = record {
      keeps = Keeps-trans old middle new first.keeps second.keeps;
      same_limit = second.same_limit ∙ first.same_limit;
      tables = second.tables ∙ first.tables;
      shelf = second.shelf;
      extends = Extends-trans before between after first.extends second.extends;
      only = λ k set there. elim (second.only k set there) [ inl was ↦ first.only k set was | inr made ↦ inr made ];
      counted = λ given completes.
          let earlier = first.counted given (Completes-extends between after given numbers second.extends completes) in
          let later = second.counted given completes in
          record {
            wholes = later.wholes ++ earlier.wholes;
            each = All-append (IsCellFunction Step s rows columns given) later.wholes earlier.wholes later.each earlier.each;
            adds = AddsAmong-more old middle first.keeps earlier.wholes later.wholes new second.keeps earlier.adds later.adds;
          };
    }

    -- what had come before there was no room
    pub ExceedsCells-after : (old new : Contents) (before between after : List (List ℕ)) (given : List ℕ → ℕ) → AreNumbers after →
        Extends between after → Completes (number_in after) given → Joins Step s rows columns old new before between →
        ExceedsCells Step s rows columns new given → ExceedsCells Step s rows columns old given
    ExceedsCells-after old new before between after given numbers extends completes joins exceeds =
        let earlier = joins.counted given (Completes-extends between after given numbers extends completes) in
        record {
          wholes = exceeds.wholes ++ earlier.wholes;
          each = All-append (IsCellFunction Step s rows columns given) exceeds.wholes earlier.wholes exceeds.each earlier.each;
          exceeds = ExceedsAmong-more old new joins.keeps earlier.wholes exceeds.wholes joins.same_limit earlier.adds exceeds.exceeds;
        }

  -- a cell stays
  pub IsCell-kept : (sets more : List (List ℕ)) (l r : List ℕ) (shelf after : Contents) (root : NodeRef) → Keeps shelf after →
      AreNumbers more → Extends sets more → IsCell Step s sets l r shelf root → IsCell Step s more l r after root
  IsCell-kept sets more l r shelf after root keeps numbers extends cell = record {
    valid = keeps.valid root cell.valid;
    states = λ label. number_in-extends sets more numbers extends _ _ (cell.states label)
        ∙ ap (λ (n : ℕ). let o : Option ℕ = Some n in o) (sym (keeps.states root label cell.valid));
  }

  pub IsRow-none : (row : List ℕ) (sets : List (List ℕ)) (shelf : Contents) (roots : List NodeRef) → IsRow Step s row [] sets shelf roots roots
  IsRow-none row sets shelf roots = record {
    grown = record { longer = omega arith; kept = λ place within. refl };
    many = omega arith;
    cell = λ j column root at_column at. absurd (let f : ◌≡◌ {A = Option (List ℕ)} None (Some column) = at_column in cc);
  }

  -- a root more in a row
  pub IsRow-more : (row : List ℕ) (columns : List (List ℕ)) (column : List ℕ) (sets more : List (List ℕ)) (shelf after : Contents)
      (old middle : List NodeRef) (root : NodeRef) → Keeps shelf after → AreNumbers more → Extends sets more →
      IsRow Step s row columns sets shelf old middle → IsCell Step s more row column after root →
      IsRow Step s row (columns ++ column ∷ []) more after old (middle ++ root ∷ [])
  IsRow-more row columns column sets more shelf after old middle root keeps numbers extends is cell = record {
    grown = record {
      longer = omega (arith, is.grown.longer, length-append middle (root ∷ []));
      kept = λ place within. get-before middle (root ∷ []) place (omega (arith, is.grown.longer)) ∙ is.grown.kept place within;
    };
    many = omega (arith, is.many, length-append middle (root ∷ []), length-append columns (column ∷ []));
    cell = λ j c r at_column at. elim (get-snoc columns column c j at_column) [
      | inl early ↦
          let below = slice_get_within columns j c early in
          let there = sym (get-before middle (root ∷ []) (length old + j) (omega (arith, is.many, below))) ∙ at in
          IsCell-kept sets more row c shelf after r keeps numbers extends (is.cell j c r early there)
      | inr last ↦
          let place : length old + j ≡ length middle = omega (arith, is.many, last.0) in
          let found : slice_get (middle ++ root ∷ []) (length old + j) ≡ Some root = ap (slice_get (middle ++ root ∷ [])) place ∙ get-last middle root in
          let same : root ≡ r = same_root root r (sym found ∙ at) in
          subst (λ (x : NodeRef). IsCell Step s more row c after x) same
          (subst (λ (x : List ℕ). IsCell Step s more row x after root) (sym last.1) cell)
    ];
  }

  pub AreCells-none : (columns sets : List (List ℕ)) (shelf : Contents) (roots : List NodeRef) → AreCells Step s [] columns sets shelf roots roots
  AreCells-none columns sets shelf roots = record {
    grown = record { longer = omega arith; kept = λ place within. refl };
    many = omega arith;
    cell = λ i j row column root at_row at_column at. absurd (let f : ◌≡◌ {A = Option (List ℕ)} None (Some row) = at_row in cc);
  }

  -- a row more
  module _ (rows columns : List (List ℕ)) (row : List ℕ) (sets more : List (List ℕ)) (shelf after : Contents)
      (old middle new : List NodeRef) (keeps : Keeps shelf after) (numbers : AreNumbers more) (extends : Extends sets more)
      (are : AreCells Step s rows columns sets shelf old middle) (is : IsRow Step s row columns more after middle new) where
    rows-length : length (rows ++ row ∷ []) * length columns ≡ length rows * length columns + length columns
    rows-length = ap (λ (n : ℕ). n * length columns) (length-append rows (row ∷ []) ∙ one_more (length rows)) ∙ suc-mul (length rows) (length columns)
      where
        one_more : (n : ℕ) → n + 1 ≡ suc n
        one_more n = omega arith

    inside : (i j : ℕ) → i < length rows → j < length columns → i * length columns + j < length rows * length columns
    inside i j below within =
        let most = mul-le-mul_right (length columns) below in
        let step = suc-mul i (length columns) in
        omega arith

    pub AreCells-more : AreCells Step s (rows ++ row ∷ []) columns more after old new
    AreCells-more = record {
      grown = record {
        longer = omega (arith, are.grown.longer, is.grown.longer);
        kept = λ place within. is.grown.kept place (omega (arith, are.grown.longer)) ∙ are.grown.kept place within;
      };
      many = omega (arith, are.many, is.many, rows-length);
      cell = λ i j x c root at_row at_column at. elim (get-snoc rows row x i at_row) [
        | inl early ↦
            let below = slice_get_within rows i x early in
            let within = slice_get_within columns j c at_column in
            let place = inside i j below within in
            let there = sym (is.grown.kept (length old + (i * length columns + j)) (omega (arith, are.many, place))) ∙ at in
            IsCell-kept sets more x c shelf after root keeps numbers extends (are.cell i j x c root early at_column there)
        | inr last ↦
            let place : length old + (i * length columns + j) ≡ length middle + j =
            ap (λ (n : ℕ). length old + (n * length columns + j)) last.0 ∙ (let e = are.many in omega arith) in
            subst (λ (y : List ℕ). IsCell Step s more y c after root) (sym last.1)
            (is.cell j c root at_column (ap (slice_get new) (sym place) ∙ at))
      ];
    }
