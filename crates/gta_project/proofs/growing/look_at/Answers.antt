-- The rows and columns that have come are generated.
use Rattle.std.proofs.Common.{◌≡◌, ◌<◌, ◌⊎◌, ℕ, List, [], Option, Contains, length, get_or, refl, sym, ◌∙◌, ap, subst, inl, inr}
use Rattle.std.specs.Prelude.{unwrap_or, option_map}
use Rattle.gta_theory.specs.Guides.{left, right}
use Rattle.gta_core.specs.Auto.{automaton_of}
use Rattle.gta_subsets.specs.Subsets.{subsets}
use Rattle.gta_project.proofs.PartLemmas.{at-child, part-at, row-inside, column-inside}
use Rattle.gta_project.proofs.ShelfLemmas.{Contains-get}
use Rattle.gta_core.specs.declared.part.Part.{Part}
use Rattle.gta_project.specs.declared.growing.Seen.{Seen}
use Rattle.gta_project.specs.Growing.{IsKeyed}
use Rattle.gta_project.proofs.GrowingLemmas.{on-ok-both}
use Rattle.gta_project.proofs.growing.look_at.Goals as goal

-- what goes for some classes goes for the same ones
keyed-by : (states same : List ℕ) (old new : Seen) → states ≡ same → (IsKeyed states old → IsKeyed states new) → IsKeyed same old → IsKeyed same new
keyed-by states same old new is follows = subst (λ (xs : List ℕ). IsKeyed xs old → IsKeyed xs new) is follows

pub look-requires : goal.look-requires
look-requires c = λ k set there.
    let g = c.args.g.now in
    let s = c.args.space in
    let guide = c.children.ensures.guide in
    let items = c.args.numbers.now.items in
    let shelf = c.args.shelf.now in
    let a = c.args.a.now in
    let t = c.args.track in
    let initials = c.args._initials.now in
    let Sets = subsets (automaton_of shelf a) t initials in
    let inside = c.requires.inside in
    let child = c.unwrap_or-children.ensures ∙ ap (λ (o : Option (ℕ × ℕ)). unwrap_or o (0, 0)) c.children.ensures.value in
    let own = c.index-parts-at.result in
    let in_own = part-at g shelf a c.requires.auto s inside c.parts.result.now own c.parts.ensures.parts c.index-parts-at.is in
    let lefts = c.index-lefts.result.now in
    let at_left = at-child g Sets items c.requires.spaces (left g s) (guide.left_inside s inside) (c.unwrap_or-children.result).0
    (ap (λ (p : ℕ × ℕ). p.0) child) lefts lefts c.index-lefts.ensures refl in
    subst (λ (xs : List ℕ). (j d : ℕ) → j < length set → get_or set j d < length xs) (sym c.as_slice.ensures)
    (row-inside g guide shelf a c.requires.auto t initials c.requires.initials items c.requires.spaces s inside own in_own lefts at_left k set there)

pub look-requires-2 : goal.look-requires-2
look-requires-2 c = λ k set there.
    let g = c.args.g.now in
    let s = c.args.space in
    let guide = c.children.ensures.guide in
    let items = c.args.numbers.now.items in
    let shelf = c.args.shelf.now in
    let a = c.args.a.now in
    let t = c.args.track in
    let initials = c.args._initials.now in
    let Sets = subsets (automaton_of shelf a) t initials in
    let inside = c.requires.inside in
    let child = c.unwrap_or-children.ensures ∙ ap (λ (o : Option (ℕ × ℕ)). unwrap_or o (0, 0)) c.children.ensures.value in
    let own = c.index-parts-at.result in
    let in_own = part-at g shelf a c.requires.auto s inside c.parts.result.now own c.parts.ensures.parts c.index-parts-at.is in
    let rights = c.index-rights.result.now in
    let at_right = at-child g Sets items c.requires.spaces (right g s) (guide.right_inside s inside) (c.unwrap_or-children.result).1
    (ap (λ (p : ℕ × ℕ). p.1) child) rights rights c.index-rights.ensures refl in
    subst (λ (xs : List ℕ). (j d : ℕ) → j < length set → get_or set j d < length xs) (sym c.as_slice-2.ensures)
    (column-inside g guide shelf a c.requires.auto t initials c.requires.initials items c.requires.spaces s inside own in_own rights at_right k set there)

pub returns : goal.returns
returns c =
    let g = c.args.g.now in
    let s = c.args.space in
    let guide = c.children.ensures.guide in
    let items = c.args.numbers.now.items in
    let shelf = c.args.shelf.now in
    let a = c.args.a.now in
    let t = c.args.track in
    let initials = c.args._initials.now in
    let Sets = subsets (automaton_of shelf a) t initials in
    let inside = c.requires.inside in
    let child = c.unwrap_or-children.ensures ∙ ap (λ (o : Option (ℕ × ℕ)). unwrap_or o (0, 0)) c.children.ensures.value in
    let own = c.index-parts-at.result in
    let in_own = part-at g shelf a c.requires.auto s inside c.parts.result.now own c.parts.ensures.parts c.index-parts-at.is in
    let lefts = c.index-lefts.result.now in
    let at_left = at-child g Sets items c.requires.spaces (left g s) (guide.left_inside s inside) (c.unwrap_or-children.result).0
    (ap (λ (p : ℕ × ℕ). p.0) child) lefts lefts c.index-lefts.ensures refl in
    let rights = c.index-rights.result.now in
    let at_right = at-child g Sets items c.requires.spaces (right g s) (guide.right_inside s inside) (c.unwrap_or-children.result).1
    (ap (λ (p : ℕ × ℕ). p.1) child) rights rights c.index-rights.ensures refl in
    let are = c.requires.spaces in
    on-ok-both c.look-2.result (λ (came : (x : List ℕ) → Contains c.look-2.new.self.ones x → Contains
    c.args.growth.now.columns.ones x ⊎ Contains rights x)
    (keyed : IsKeyed c.as_slice-2.result.now c.args.growth.now.columns → IsKeyed c.as_slice-2.result.now c.look-2.new.self). record {
      rows = λ x there. elim (c.in_ok-look.ensures.only x there) [
        | inl before ↦ c.requires.seen.rows x before
        | inr more ↦ let k = Contains-get lefts x more in (are.each (left g s) lefts at_left).generated k.0 x k.1
      ];
      columns = λ x there. elim (came x there) [
        | inl before ↦ c.requires.seen.columns x before
        | inr more ↦ let k = Contains-get rights x more in (are.each (right g s) rights at_right).generated k.0 x k.1
      ];
      row_keys = keyed-by _ _ _ _ (c.as_slice.ensures ∙ ap (λ (o : Option Part). unwrap_or (option_map (λ (p : Part). p.rows) o) []) (sym in_own))
          c.in_ok-look.ensures.keyed c.requires.seen.row_keys;
      column_keys = keyed-by _ _ _ _ (c.as_slice-2.ensures ∙ ap (λ (o : Option Part). unwrap_or (option_map (λ (p : Part). p.columns) o) []) (sym in_own))
          keyed c.requires.seen.column_keys;
    }) c.look-2.ensures.only c.look-2.ensures.keyed
