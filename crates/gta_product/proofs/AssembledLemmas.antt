-- The parts of what the spaces were joined for.
use Rattle.std.proofs.Common.{◌≡◌, ℕ, ◌+◌, ◌*◌, ◌^◌, ◌≤◌, List, [], ◌∷◌, ◌++◌, length, length-append, Some, slice_get}
use Rattle.std.proofs.Common.{sym, ◌∙◌, ap, subst, inl, inr, arith}
use Rattle.std.specs.List.{All, range_with_len}
use Rattle.std.proofs.lemmas.Bool.{cases_lt}
use Rattle.std.proofs.lemmas.Option.{slice_get_within}
use Rattle.std.proofs.lemmas.List.FromFn.{length-range_with_len}
use Rattle.bdd_nodes.specs.declared.node_ref.NodeRef.{NodeRef}
use Rattle.bdd_nodes.specs.Shelf.{Contents, IsValid}
use Rattle.gta_theory.specs.Guides.{Spaces, IsGuide, IsSpace, left, right}
use Rattle.gta_theory.specs.Automata.{Automaton}
use Rattle.gta_core.specs.declared.part.Part.{Part}
use Rattle.gta_core.specs.Auto.{AutoView}
use Rattle.gta_core.proofs.CellsLemmas.{cell-inside, get-index}
use Rattle.gta_product.specs.declared.growing.Growth.{Growth}
use Rattle.gta_product.specs.Classes.{AreClasses}
use Rattle.gta_product.specs.Filling.{AreRows, row_by_row}
use Rattle.gta_product.specs.Building.{IsBuilt, IsPartOf, AreParts}
use Rattle.gta_product.specs.Growing.{AreDone}
use Rattle.gta_product.specs.Settled.{IsAssembled}
use Rattle.gta_product.proofs.NumbersLemmas.{get-snoc, get-kept, get-last}
use Rattle.gta_product.proofs.JoinsLemmas.{All-append}
use Rattle.gta_product.proofs.KeyedLemmas.{AreClasses-all}
use Rattle.gta_product.proofs.RowsLemmas.{get-before, get-behind, length-row_by_row, get-row_by_row, AreRows-valid}

-- what was joined for all pairs of the children is a part
module _ (g : Spaces) (AB : Automaton (ℕ × ℕ)) (s : ℕ) (lefts rights numbers : List (ℕ × ℕ)) (first second : Part) (shelf : Contents)
    (old : List NodeRef) (growth : Growth) (part : Part) (is : IsAssembled g s numbers growth old part)
    (are : AreRows AB s growth.rows.ones growth.columns.ones 0 numbers shelf growth.cells.items) where
  wide : (i : ℕ) (roots : List NodeRef) → slice_get growth.cells.items i ≡ Some roots → length roots ≡ length growth.columns.ones
  wide i roots there = are.full i roots there (omega arith)

  many-cells : length (row_by_row growth.cells.items) ≡ length growth.rows.ones * length growth.columns.ones
  many-cells = length-row_by_row (length growth.columns.ones) growth.cells.items wide ∙ ap (λ (n : ℕ). n * length growth.columns.ones) are.many

  pub IsBuilt-made : AreClasses lefts first.rows second.rows growth.rows.of growth.rows.ones →
      AreClasses rights first.columns second.columns growth.columns.of growth.columns.ones →
      IsBuilt g AB s lefts rights numbers first second shelf (old ++ row_by_row growth.cells.items) part
  IsBuilt-made row_classes column_classes = record {
    children = is.children;
    states = is.states;
    initial = is.initial;
    rows = growth.rows.ones;
    columns = growth.columns.ones;
    row_classes = subst (λ (of : List ℕ). AreClasses lefts first.rows second.rows of growth.rows.ones) (sym is.rows) row_classes;
    column_classes = subst (λ (of : List ℕ). AreClasses rights first.columns second.columns of growth.columns.ones) (sym is.columns) column_classes;
    width = is.width;
    cells = is.cells ∙ ap (range_with_len 0) many-cells;
    within = omega (arith, is.first, many-cells, length-append old (row_by_row growth.cells.items));
    cell = λ i j row column root at_row at_column there.
        let roots = get-index growth.cells.items i (omega (arith, are.many, slice_get_within growth.rows.ones i row at_row)) in
        let at = get-behind old (row_by_row growth.cells.items) (i * length growth.columns.ones + j) in
        let among = get-row_by_row (length growth.columns.ones) growth.cells.items wide i j roots.0 roots.1
        (slice_get_within growth.columns.ones j column at_column) in
        (are.each i row roots.0 at_row roots.1).cell j column root at_column
        (sym (at ∙ among)
        ∙ ap (λ (n : ℕ). slice_get (old ++ row_by_row growth.cells.items) (n + (i * length growth.columns.ones + j))) (sym is.first) ∙ there);
  }

module _ (g : Spaces) (AB : Automaton (ℕ × ℕ)) (a b : AutoView) (spaces : List (List (ℕ × ℕ))) (shelf : Contents) where
  IsPartOf-made : IsGuide g → (s : ℕ) → IsSpace g s → (growths : List Growth) → AreDone g AB a b spaces shelf growths → (growth : Growth) →
      slice_get growths s ≡ Some growth → (numbers : List (ℕ × ℕ)) → slice_get spaces s ≡ Some numbers → (old : List NodeRef) (part : Part) →
      IsAssembled g s numbers growth old part → IsPartOf g AB a b spaces shelf (old ++ row_by_row growth.cells.items) s part
  IsPartOf-made guide s inside growths done growth at numbers is old part assembled =
      let grown = done.grown.each s growth at in
      let all = done.all s growth at in
      let first = get-index a.parts s (omega (arith, done.first, inside)) in
      let second = get-index b.parts s (omega (arith, done.second, inside)) in
      let lefts = get-index spaces (left g s) (omega (arith, done.many, guide.left_inside s inside)) in
      let rights = get-index spaces (right g s) (omega (arith, done.many, guide.right_inside s inside)) in
      record {
        lefts = lefts.0;
        rights = rights.0;
        pairs = numbers;
        first = first.0;
        second = second.0;
        at_left = lefts.1;
        at_right = rights.1;
        at = is;
        in_first = first.1;
        in_second = second.1;
        built = IsBuilt-made g AB s lefts.0 rights.0 numbers first.0 second.0 shelf old growth part assembled (grown.rows numbers is)
            (AreClasses-all lefts.0 (first.0).rows (second.0).rows growth.rows (grown.seen.row_classes first.0 second.0 lefts.0 first.1 second.1 lefts.1)
            (all.rows_all lefts.0 lefts.1))
            (AreClasses-all rights.0 (first.0).columns (second.0).columns growth.columns
            (grown.seen.column_classes first.0 second.0 rights.0 first.1 second.1 rights.1) (all.columns_all rights.0 rights.1));
      }

  -- the parts that were there have their roots still
  module _ (old more : List NodeRef) where
    IsBuilt-kept : (s : ℕ) (lefts rights pairs : List (ℕ × ℕ)) (first second part : Part) →
        IsBuilt g AB s lefts rights pairs first second shelf old part → IsBuilt g AB s lefts rights pairs first second shelf (old ++ more) part
    IsBuilt-kept s lefts rights pairs first second part built = record {
      children = built.children;
      states = built.states;
      initial = built.initial;
      rows = built.rows;
      columns = built.columns;
      row_classes = built.row_classes;
      column_classes = built.column_classes;
      width = built.width;
      cells = built.cells;
      within = omega (arith, built.within, length-append old more);
      cell = λ i j row column root at_row at_column there.
          let inside = cell-inside (length built.rows) (length built.columns) i j (slice_get_within built.rows i row at_row)
          (slice_get_within built.columns j column at_column) in
          built.cell i j row column root at_row at_column
          (sym (get-before old more (part.first + (i * length built.columns + j)) (omega (arith, inside, built.within))) ∙ there);
    }

    IsPartOf-kept : (s : ℕ) (part : Part) → IsPartOf g AB a b spaces shelf old s part → IsPartOf g AB a b spaces shelf (old ++ more) s part
    IsPartOf-kept s part of = record {
      lefts = of.lefts;
      rights = of.rights;
      pairs = of.pairs;
      first = of.first;
      second = of.second;
      at_left = of.at_left;
      at_right = of.at_right;
      at = of.at;
      in_first = of.in_first;
      in_second = of.in_second;
      built = IsBuilt-kept s of.lefts of.rights of.pairs of.first of.second part of.built;
    }

    -- a part more, behind the roots that were there
    AreParts-more : (parts : List Part) (part : Part) → AreParts g AB a b spaces shelf old parts → All (IsValid shelf) more →
        IsPartOf g AB a b spaces shelf (old ++ more) (length parts) part → part.first ≡ length old → length part.cells ≡ length more →
        AreParts g AB a b spaces shelf (old ++ more) (parts ++ part ∷ [])
    AreParts-more parts part before valid here start many = record {
      valid = All-append (IsValid shelf) old more before.valid valid;
      each = λ s p there. elim (get-snoc parts part p s there) [
        | inl early ↦ IsPartOf-kept s p (before.each s p early)
        | inr last ↦ subst (λ (q : Part). IsPartOf g AB a b spaces shelf (old ++ more) s q) (sym last.1)
            (subst (λ (n : ℕ). IsPartOf g AB a b spaces shelf (old ++ more) n part) (sym last.0) here)
      ];
      used = λ place within. elim (cases_lt place (length old)) [
        | inl early ↦
            let u = before.used place early in
            record { space = u.space; part = u.part; at = get-kept parts (part ∷ []) u.part u.space u.at; from = u.from; to = u.to }
        | inr late ↦ record {
          space = length parts;
          part = part;
          at = get-last parts part;
          from = omega (arith, start);
          to = omega (arith, start, many, within, length-append old more);
        }
      ];
    }

  pub AreParts-none : (roots : List NodeRef) → roots ≡ [] → AreParts g AB a b spaces shelf roots []
  AreParts-none roots none = record {
    valid = λ k d within. absurd (omega (arith, within, ap (λ (rs : List NodeRef). length rs) none));
    each = λ s part there. absurd (omega (arith, slice_get_within [] s part there));
    used = λ place within. absurd (omega (arith, within, ap (λ (rs : List NodeRef). length rs) none));
  }

  -- the part of the next space
  pub AreParts-next : IsGuide g → (growths : List Growth) → AreDone g AB a b spaces shelf growths → (parts : List Part) (s : ℕ) → s ≡ length parts →
      IsSpace g s → (growth : Growth) → slice_get growths s ≡ Some growth → (numbers : List (ℕ × ℕ)) → slice_get spaces s ≡ Some numbers →
      (old new : List NodeRef) (part : Part) → new ≡ old ++ row_by_row growth.cells.items →
      IsAssembled g s numbers growth old part → AreParts g AB a b spaces shelf old parts →
      AreParts g AB a b spaces shelf new (parts ++ part ∷ [])
  AreParts-next guide growths done parts s same inside growth at numbers is old new part added assembled before =
      let here = IsPartOf-made guide s inside growths done growth at numbers is old part assembled in
      let valid = AreRows-valid AB s growth.rows.ones growth.columns.ones 0 numbers shelf growth.cells.items ((done.grown.each s growth at).rows numbers is) in
      subst (λ (roots : List NodeRef). AreParts g AB a b spaces shelf roots (parts ++ part ∷ [])) (sym added)
      (AreParts-more old (row_by_row growth.cells.items) parts part before valid
      (subst (λ (n : ℕ). IsPartOf g AB a b spaces shelf (old ++ row_by_row growth.cells.items) n part) same here)
      assembled.first
      (ap (λ (cells : List ℕ). length cells) assembled.cells ∙ length-range_with_len 0 (length (row_by_row growth.cells.items))))

  -- the classes of columns are few
  pub columns-few : IsGuide g → (growths : List Growth) → AreDone g AB a b spaces shelf growths → (s : ℕ) (growth : Growth) →
      slice_get growths s ≡ Some growth → length growth.columns.ones ≤ 2 ^ 31
  columns-few guide growths done s growth at =
      let inside : IsSpace g s = omega (arith, done.grown.many, slice_get_within growths s growth at) in
      let first = get-index a.parts s (omega (arith, done.first, inside)) in
      let second = get-index b.parts s (omega (arith, done.second, inside)) in
      let rights = get-index spaces (right g s) (omega (arith, done.many, guide.right_inside s inside)) in
      ((done.grown.each s growth at).seen.column_classes first.0 second.0 rights.0 first.1 second.1 rights.1).keyed.few
