-- The pairs that have come have classes, and each class a row.
use Rattle.std.proofs.Common.{◌≡◌, ℕ, List, Option, Some, length, get_or, refl, sym, ◌∙◌, ap, subst, arith}
use Rattle.std.specs.Prelude.{unwrap_or}
use Rattle.std.proofs.lemmas.Option.{slice_get-get_or}
use Rattle.gta_theory.specs.Guides.{left, right}
use Rattle.gta_theory.specs.Constructions.{pairs}
use Rattle.gta_core.specs.declared.part.Part.{Part}
use Rattle.gta_core.specs.Auto.{automaton_of}
use Rattle.gta_core.proofs.CellsLemmas.{get-index}
use Rattle.gta_product.specs.declared.classes.Classes.{Classes}
use Rattle.gta_product.specs.Classes.{IsKeyed}
use Rattle.gta_product.proofs.NumbersLemmas.{extends-longer}
use Rattle.gta_product.proofs.KeyedLemmas.{ones-generated}
use Rattle.gta_product.proofs.PartLemmas.{at-child, part-at, row-inside, column-inside}
use Rattle.gta_product.proofs.RowsLemmas.{AreRows-wider}
use Rattle.gta_product.proofs.growing.look_at.Goals as goal

same_part : (a b : Part) → ◌≡◌ {A = Option Part} (Some a) (Some b) → a ≡ b
same_part a b e = cc

same_pairs : (a b : List (ℕ × ℕ)) → ◌≡◌ {A = Option (List (ℕ × ℕ))} (Some a) (Some b) → a ≡ b
same_pairs a b e = cc

-- what goes for some lists goes for the same ones
keyed-by : (list more : List (ℕ × ℕ)) (left right first second : List ℕ) (classes : Classes) → list ≡ more → left ≡ first → right ≡ second →
    IsKeyed list left right classes → IsKeyed more first second classes
keyed-by list more left right first second classes same is_left is_right is =
    subst (λ (ps : List (ℕ × ℕ)). IsKeyed ps first second classes) same
    (subst (λ (ls : List ℕ). IsKeyed list ls second classes) is_left (subst (λ (rs : List ℕ). IsKeyed list left rs classes) is_right is))

pub look-requires-clause-inside : goal.look-requires-clause-inside
look-requires-clause-inside c = λ k d within.
    let g = c.args.g.now in
    let s = c.args.space in
    let guide = c.children.ensures.guide in
    let items = c.args.numbers.now.items in
    let shelf = c.args.shelf.now in
    let a = c.args.a.now in
    let b = c.args.b.now in
    let AB = pairs (automaton_of shelf a) (automaton_of shelf b) in
    let inside = c.requires.inside in
    let child = c.unwrap_or-children.ensures ∙ ap (λ (o : Option (ℕ × ℕ)). unwrap_or o (0, 0)) c.children.ensures.value in
    let in_a = part-at g shelf a c.requires.first s inside c.parts.result.now c.index-parts-at.result c.parts.ensures.parts c.index-parts-at.is in
    let in_b = part-at g shelf b c.requires.second s inside c.parts-2.result.now c.index-parts-at-2.result c.parts-2.ensures.parts c.index-parts-at-2.is in
    let lefts = c.as_slice-lefts.result.now in
    let at_left = at-child g AB items c.requires.spaces (left g s) (guide.left_inside s inside) (c.unwrap_or-children.result).0
    (ap (λ (p : ℕ × ℕ). p.0) child) c.index.result.now lefts c.index.ensures c.as_slice-lefts.ensures.pairs in
    let p = get_or lefts k d in
    let row = row-inside g guide shelf a b c.requires.first c.requires.second items c.requires.spaces s inside c.index-parts-at.result
    c.index-parts-at-2.result in_a in_b lefts at_left k p (slice_get-get_or lefts k d within) in
    (omega (arith, row.0, ap (λ (xs : List ℕ). length xs) c.as_slice.ensures), omega (arith, row.1, ap (λ (xs : List ℕ). length xs) c.as_slice-2.ensures))

pub look-requires-clause-keyed : goal.look-requires-clause-keyed
look-requires-clause-keyed c =
    let g = c.args.g.now in
    let s = c.args.space in
    let guide = c.children.ensures.guide in
    let items = c.args.numbers.now.items in
    let shelf = c.args.shelf.now in
    let a = c.args.a.now in
    let b = c.args.b.now in
    let AB = pairs (automaton_of shelf a) (automaton_of shelf b) in
    let inside = c.requires.inside in
    let child = c.unwrap_or-children.ensures ∙ ap (λ (o : Option (ℕ × ℕ)). unwrap_or o (0, 0)) c.children.ensures.value in
    let in_a = part-at g shelf a c.requires.first s inside c.parts.result.now c.index-parts-at.result c.parts.ensures.parts c.index-parts-at.is in
    let in_b = part-at g shelf b c.requires.second s inside c.parts-2.result.now c.index-parts-at-2.result c.parts-2.ensures.parts c.index-parts-at-2.is in
    let lefts = c.as_slice-lefts.result.now in
    let at_left = at-child g AB items c.requires.spaces (left g s) (guide.left_inside s inside) (c.unwrap_or-children.result).0
    (ap (λ (p : ℕ × ℕ). p.0) child) c.index.result.now lefts c.index.ensures c.as_slice-lefts.ensures.pairs in
    keyed-by lefts lefts _ _ _ _ c.args.growth.now.rows refl (sym c.as_slice.ensures) (sym c.as_slice-2.ensures)
    (c.requires.grown.seen.row_classes c.index-parts-at.result c.index-parts-at-2.result lefts in_a in_b at_left)

pub look-requires-2-clause-inside : goal.look-requires-2-clause-inside
look-requires-2-clause-inside c = λ k d within.
    let g = c.args.g.now in
    let s = c.args.space in
    let guide = c.children.ensures.guide in
    let items = c.args.numbers.now.items in
    let shelf = c.args.shelf.now in
    let a = c.args.a.now in
    let b = c.args.b.now in
    let AB = pairs (automaton_of shelf a) (automaton_of shelf b) in
    let inside = c.requires.inside in
    let child = c.unwrap_or-children.ensures ∙ ap (λ (o : Option (ℕ × ℕ)). unwrap_or o (0, 0)) c.children.ensures.value in
    let in_a = part-at g shelf a c.requires.first s inside c.parts.result.now c.index-parts-at.result c.parts.ensures.parts c.index-parts-at.is in
    let in_b = part-at g shelf b c.requires.second s inside c.parts-2.result.now c.index-parts-at-2.result c.parts-2.ensures.parts c.index-parts-at-2.is in
    let rights = c.as_slice-rights.result.now in
    let at_right = at-child g AB items c.requires.spaces (right g s) (guide.right_inside s inside) (c.unwrap_or-children.result).1
    (ap (λ (p : ℕ × ℕ). p.1) child) c.index-2.result.now rights c.index-2.ensures c.as_slice-rights.ensures.pairs in
    let p = get_or rights k d in
    let column = column-inside g guide shelf a b c.requires.first c.requires.second items c.requires.spaces s inside c.index-parts-at.result
    c.index-parts-at-2.result in_a in_b rights at_right k p (slice_get-get_or rights k d within) in (
      omega (arith, column.0, ap (λ (xs : List ℕ). length xs) c.as_slice-3.ensures),
      omega (arith, column.1, ap (λ (xs : List ℕ). length xs) c.as_slice-4.ensures),
    )

pub look-requires-2-clause-keyed : goal.look-requires-2-clause-keyed
look-requires-2-clause-keyed c =
    let g = c.args.g.now in
    let s = c.args.space in
    let guide = c.children.ensures.guide in
    let items = c.args.numbers.now.items in
    let shelf = c.args.shelf.now in
    let a = c.args.a.now in
    let b = c.args.b.now in
    let AB = pairs (automaton_of shelf a) (automaton_of shelf b) in
    let inside = c.requires.inside in
    let child = c.unwrap_or-children.ensures ∙ ap (λ (o : Option (ℕ × ℕ)). unwrap_or o (0, 0)) c.children.ensures.value in
    let in_a = part-at g shelf a c.requires.first s inside c.parts.result.now c.index-parts-at.result c.parts.ensures.parts c.index-parts-at.is in
    let in_b = part-at g shelf b c.requires.second s inside c.parts-2.result.now c.index-parts-at-2.result c.parts-2.ensures.parts c.index-parts-at-2.is in
    let rights = c.as_slice-rights.result.now in
    let at_right = at-child g AB items c.requires.spaces (right g s) (guide.right_inside s inside) (c.unwrap_or-children.result).1
    (ap (λ (p : ℕ × ℕ). p.1) child) c.index-2.result.now rights c.index-2.ensures c.as_slice-rights.ensures.pairs in
    keyed-by rights rights _ _ _ _ c.args.growth.now.columns refl (sym c.as_slice-3.ensures) (sym c.as_slice-4.ensures)
    (c.requires.grown.seen.column_classes c.index-parts-at.result c.index-parts-at-2.result rights in_a in_b at_right)

pub add_rows-requires : goal.add_rows-requires
add_rows-requires c =
    let s = c.args.space in
    let pairs = get-index c.args.numbers.now.items s (omega (arith, c.requires.spaces.many, c.requires.inside)) in
    let many = (c.requires.grown.rows pairs.0 pairs.1).many in
    let longer = extends-longer c.args.growth.now.rows.ones c.look.new.self.ones c.in_ok-look.ensures.ones in
    omega (arith, many, longer, c.len.ensures)

pub returns-clause-seen : goal.returns-clause-seen
returns-clause-seen c =
    let g = c.args.g.now in
    let s = c.args.space in
    let guide = c.children.ensures.guide in
    let items = c.args.numbers.now.items in
    let shelf = c.args.shelf.now in
    let a = c.args.a.now in
    let b = c.args.b.now in
    let AB = pairs (automaton_of shelf a) (automaton_of shelf b) in
    let inside = c.requires.inside in
    let child = c.unwrap_or-children.ensures ∙ ap (λ (o : Option (ℕ × ℕ)). unwrap_or o (0, 0)) c.children.ensures.value in
    let in_a = part-at g shelf a c.requires.first s inside c.parts.result.now c.index-parts-at.result c.parts.ensures.parts c.index-parts-at.is in
    let in_b = part-at g shelf b c.requires.second s inside c.parts-2.result.now c.index-parts-at-2.result c.parts-2.ensures.parts c.index-parts-at-2.is in
    let lefts = c.as_slice-lefts.result.now in
    let at_left = at-child g AB items c.requires.spaces (left g s) (guide.left_inside s inside) (c.unwrap_or-children.result).0
    (ap (λ (p : ℕ × ℕ). p.0) child) c.index.result.now lefts c.index.ensures c.as_slice-lefts.ensures.pairs in
    let rights = c.as_slice-rights.result.now in
    let at_right = at-child g AB items c.requires.spaces (right g s) (guide.right_inside s inside) (c.unwrap_or-children.result).1
    (ap (λ (p : ℕ × ℕ). p.1) child) c.index-2.result.now rights c.index-2.ensures c.as_slice-rights.ensures.pairs in
    let keyed = c.in_ok-look.ensures.keyed in
    let keyed_2 = c.in_ok-look-2.ensures.keyed in
    record {
      row_ones = ones-generated g AB items c.requires.spaces (left g s) lefts at_left _ _ c.look.new.self keyed;
      column_ones = ones-generated g AB items c.requires.spaces (right g s) rights at_right _ _ c.look-2.new.self keyed_2;
      row_classes = λ one other list at_one at_other at_list. keyed-by lefts list _ _ _ _ c.look.new.self (same_pairs _ _ (sym at_left ∙ at_list))
          (c.as_slice.ensures ∙ ap (λ (part : Part). part.rows) (same_part _ _ (sym in_a ∙ at_one)))
          (c.as_slice-2.ensures ∙ ap (λ (part : Part). part.rows) (same_part _ _ (sym in_b ∙ at_other))) keyed;
      column_classes = λ one other list at_one at_other at_list.
          keyed-by rights list _ _ _ _ c.look-2.new.self (same_pairs _ _ (sym at_right ∙ at_list))
          (c.as_slice-3.ensures ∙ ap (λ (part : Part). part.columns) (same_part _ _ (sym in_a ∙ at_one)))
          (c.as_slice-4.ensures ∙ ap (λ (part : Part). part.columns) (same_part _ _ (sym in_b ∙ at_other))) keyed_2;
    }

pub returns-clause-all : goal.returns-clause-all
returns-clause-all c =
    let g = c.args.g.now in
    let s = c.args.space in
    let guide = c.children.ensures.guide in
    let items = c.args.numbers.now.items in
    let shelf = c.args.shelf.now in
    let a = c.args.a.now in
    let b = c.args.b.now in
    let AB = pairs (automaton_of shelf a) (automaton_of shelf b) in
    let inside = c.requires.inside in
    let child = c.unwrap_or-children.ensures ∙ ap (λ (o : Option (ℕ × ℕ)). unwrap_or o (0, 0)) c.children.ensures.value in
    let in_a = part-at g shelf a c.requires.first s inside c.parts.result.now c.index-parts-at.result c.parts.ensures.parts c.index-parts-at.is in
    let in_b = part-at g shelf b c.requires.second s inside c.parts-2.result.now c.index-parts-at-2.result c.parts-2.ensures.parts c.index-parts-at-2.is in
    let lefts = c.as_slice-lefts.result.now in
    let at_left = at-child g AB items c.requires.spaces (left g s) (guide.left_inside s inside) (c.unwrap_or-children.result).0
    (ap (λ (p : ℕ × ℕ). p.0) child) c.index.result.now lefts c.index.ensures c.as_slice-lefts.ensures.pairs in
    let rights = c.as_slice-rights.result.now in
    let at_right = at-child g AB items c.requires.spaces (right g s) (guide.right_inside s inside) (c.unwrap_or-children.result).1
    (ap (λ (p : ℕ × ℕ). p.1) child) c.index-2.result.now rights c.index-2.ensures c.as_slice-rights.ensures.pairs in
    record {
      rows_all = λ list there.
          let same = ap (λ (ps : List (ℕ × ℕ)). length ps) (same_pairs _ _ (sym at_left ∙ there)) in
          omega (arith, same, c.in_ok-look.ensures.all);
      columns_all = λ list there.
          let same = ap (λ (ps : List (ℕ × ℕ)). length ps) (same_pairs _ _ (sym at_right ∙ there)) in
          omega (arith, same, c.in_ok-look-2.ensures.all);
    }

pub returns-clause-rows : goal.returns-clause-rows
returns-clause-rows c = λ list there.
    let s = c.args.space in
    let shelf = c.args.shelf.now in
    let AB = pairs (automaton_of shelf c.args.a.now) (automaton_of shelf c.args.b.now) in
    AreRows-wider AB s c.args.growth.now.rows.ones c.look.new.self.ones c.args.growth.now.columns.ones c.look-2.new.self.ones 0 list shelf
    c.args.growth.now.cells.items c.add_rows.new.cells.items c.in_ok-look.ensures.ones c.in_ok-look-2.ensures.ones
    (c.in_ok-add_rows.ensures.many ∙ c.len.ensures) c.in_ok-add_rows.ensures.rows (c.requires.grown.rows list there)
