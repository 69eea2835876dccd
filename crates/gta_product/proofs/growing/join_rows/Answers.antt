-- A space is joined for generated pairs.
use Rattle.std.proofs.Common.{◌≡◌, ℕ, List, Option, Some, Contains, length, slice_get, sym, ◌∙◌, subst, arith}
use Rattle.std.specs.Prelude.{None, slice_set}
use Rattle.bdd_walk.specs.Fits.{Fits}
use Rattle.gta_theory.specs.Guides.{left, right}
use Rattle.gta_theory.specs.Constructions.{pairs}
use Rattle.gta_core.specs.Auto.{automaton_of}
use Rattle.gta_product.specs.Numbers.{numbered}
use Rattle.gta_product.specs.Filling.{AreRows}
use Rattle.gta_product.specs.Growing.{AreGenerated}
use Rattle.gta_product.proofs.PartLemmas.{get-at, get-set, SetsSpace-at, FitAll-set, generated-first, generated-second}
use Rattle.gta_product.proofs.GrowingLemmas.{on-ok, Goes-fill, AreSpaces-fill, LacksRoom-fill}
use Rattle.gta_product.proofs.growing.join_rows.Goals as goal

same_pairs : (a b : List (ℕ × ℕ)) → ◌≡◌ {A = Option (List (ℕ × ℕ))} (Some a) (Some b) → a ≡ b
same_pairs a b e = cc

pub fill-requires-clause-first : goal.fill-requires-clause-first
fill-requires-clause-first c = λ l r in_l in_r. generated-first c.args._g.now c.args.shelf.now c.args.a.now c.args.b.now c.requires.first c.requires.second
    c.args.space c.requires.inside l r (c.requires.rows l (subst (λ (ps : List (ℕ × ℕ)). Contains ps l) c.as_slice.ensures in_l))
    (c.requires.columns r (subst (λ (ps : List (ℕ × ℕ)). Contains ps r) c.as_slice-2.ensures in_r))

pub fill-requires-clause-second : goal.fill-requires-clause-second
fill-requires-clause-second c = λ l r in_l in_r. generated-second c.args._g.now c.args.shelf.now c.args.a.now c.args.b.now c.requires.first
    c.requires.second c.args.space c.requires.inside l r (c.requires.rows l (subst (λ (ps : List (ℕ × ℕ)). Contains ps l) c.as_slice.ensures in_l))
    (c.requires.columns r (subst (λ (ps : List (ℕ × ℕ)). Contains ps r) c.as_slice-2.ensures in_r))

pub fill-requires-clause-numbers : goal.fill-requires-clause-numbers
fill-requires-clause-numbers c =
    let s = c.args.space in
    let pairs = c.index_mut-2.result.now in
    (c.requires.spaces.each s pairs
    (get-at c.args.numbers.now.items s pairs (omega (arith, c.requires.spaces.many, c.requires.inside)) c.index_mut-2.ensures.value)).numbers

pub fill-requires-clause-fits : goal.fill-requires-clause-fits
fill-requires-clause-fits c =
    let s = c.args.space in
    let many = c.requires.spaces.many in
    let fits = c.requires.fits in
    fits.each s c.index_mut.result.now c.index_mut-2.result.now
    (get-at c.args.joiners.now.items s c.index_mut.result.now (omega (arith, fits.many, many, c.requires.inside)) c.index_mut.ensures.value)
    (get-at c.args.numbers.now.items s c.index_mut-2.result.now (omega (arith, many, c.requires.inside)) c.index_mut-2.ensures.value)

-- rows of lists that are the same
rows-of : (P : List (ℕ × ℕ) → List (ℕ × ℕ) → Type 0) (rows columns more_rows more_columns : List (ℕ × ℕ)) → rows ≡ more_rows → columns ≡ more_columns →
    P rows columns → P more_rows more_columns
rows-of P rows columns more_rows more_columns same_rows same_columns holds =
    subst (λ (ps : List (ℕ × ℕ)). P ps more_columns) same_rows (subst (λ (ps : List (ℕ × ℕ)). P rows ps) same_columns holds)

pub fill-requires-clause-rows : goal.fill-requires-clause-rows
fill-requires-clause-rows c =
    let s = c.args.space in
    let items = c.args.numbers.now.items in
    let before = c.index_mut-2.result.now in
    let was = get-at items s before (omega (arith, c.requires.spaces.many, c.requires.inside)) c.index_mut-2.ensures.value in
    rows-of (λ (rows columns : List (ℕ × ℕ)). AreRows (pairs (automaton_of c.args.shelf.now c.args.a.now) (automaton_of c.args.shelf.now c.args.b.now)) s
    rows columns (length rows) before c.args.shelf.now c.args.cells.now.items) _ _ _ _ (sym c.as_slice.ensures) (sym c.as_slice-2.ensures)
    (c.requires.cells before was)

pub returns-clause-goes : goal.returns-clause-goes
returns-clause-goes c =
    let g = c.args._g.now in
    let s = c.args.space in
    let items = c.args.numbers.now.items in
    let shelf = c.args.shelf.now in
    let AB = pairs (automaton_of shelf c.args.a.now) (automaton_of shelf c.args.b.now) in
    let before = c.index_mut-2.result.now in
    let was = get-at items s before (omega (arith, c.requires.spaces.many, c.requires.inside)) c.index_mut-2.ensures.value in
    Goes-fill g AB s c.requires.inside items c.requires.spaces before c.fill.new.numbers was c.as_slice.result.now c.as_slice-2.result.now
    (subst (λ (ps : List (ℕ × ℕ)). AreGenerated g AB (left g s) ps) (sym c.as_slice.ensures) c.requires.rows)
    (subst (λ (ps : List (ℕ × ℕ)). AreGenerated g AB (right g s) ps) (sym c.as_slice-2.ensures) c.requires.columns)
    shelf c.fill.new.shelf c.fill.ensures.joins c.fill.ensures.numbers

pub returns-clause-spaces : goal.returns-clause-spaces
returns-clause-spaces c =
    let g = c.args._g.now in
    let s = c.args.space in
    let items = c.args.numbers.now.items in
    let shelf = c.args.shelf.now in
    let AB = pairs (automaton_of shelf c.args.a.now) (automaton_of shelf c.args.b.now) in
    let before = c.index_mut-2.result.now in
    let was = get-at items s before (omega (arith, c.requires.spaces.many, c.requires.inside)) c.index_mut-2.ensures.value in
    AreSpaces-fill g AB s c.requires.inside items c.requires.spaces before c.fill.new.numbers was c.as_slice.result.now c.as_slice-2.result.now
    (subst (λ (ps : List (ℕ × ℕ)). AreGenerated g AB (left g s) ps) (sym c.as_slice.ensures) c.requires.rows)
    (subst (λ (ps : List (ℕ × ℕ)). AreGenerated g AB (right g s) ps) (sym c.as_slice-2.ensures) c.requires.columns)
    shelf c.fill.new.shelf c.fill.ensures.joins c.fill.ensures.numbers

pub returns-clause-limit : goal.returns-clause-limit
returns-clause-limit c = λ stopped.
    let g = c.args._g.now in
    let s = c.args.space in
    let items = c.args.numbers.now.items in
    let shelf = c.args.shelf.now in
    let AB = pairs (automaton_of shelf c.args.a.now) (automaton_of shelf c.args.b.now) in
    let before = c.index_mut-2.result.now in
    let was = get-at items s before (omega (arith, c.requires.spaces.many, c.requires.inside)) c.index_mut-2.ensures.value in
    LacksRoom-fill g AB s c.requires.inside items c.requires.spaces before c.fill.new.numbers was c.as_slice.result.now c.as_slice-2.result.now
    (subst (λ (ps : List (ℕ × ℕ)). AreGenerated g AB (left g s) ps) (sym c.as_slice.ensures) c.requires.rows)
    (subst (λ (ps : List (ℕ × ℕ)). AreGenerated g AB (right g s) ps) (sym c.as_slice-2.ensures) c.requires.columns)
    shelf c.fill.new.shelf c.fill.ensures.joins c.fill.ensures.numbers (c.fill.ensures.limit stopped)

pub returns-clause-cells : goal.returns-clause-cells
returns-clause-cells c =
    let s = c.args.space in
    let items = c.args.numbers.now.items in
    let shelf = c.args.shelf.now in
    let AB = pairs (automaton_of shelf c.args.a.now) (automaton_of shelf c.args.b.now) in
    let after = c.fill.new.numbers in
    let at = get-set items s after (omega (arith, c.requires.spaces.many, c.requires.inside)) in
    on-ok c.fill.result (λ (filled : AreRows AB s c.as_slice.result.now c.as_slice-2.result.now c.args.from after c.fill.new.shelf
    c.fill.new.cells.items) (list : List (ℕ × ℕ)) (there : slice_get (slice_set items s after) s ≡ Some list).
    rows-of (λ (rows columns : List (ℕ × ℕ)). AreRows AB s rows columns c.args.from list c.fill.new.shelf c.fill.new.cells.items) _ _ _ _
    c.as_slice.ensures c.as_slice-2.ensures
    (subst (λ (ps : List (ℕ × ℕ)). AreRows AB s c.as_slice.result.now c.as_slice-2.result.now c.args.from ps c.fill.new.shelf c.fill.new.cells.items)
    (same_pairs after list (sym at ∙ there)) filled)) c.fill.ensures.rows

pub returns-clause-fits : goal.returns-clause-fits
returns-clause-fits c =
    let s = c.args.space in
    let items = c.args.numbers.now.items in
    let before = c.index_mut-2.result.now in
    let was = get-at items s before (omega (arith, c.requires.spaces.many, c.requires.inside)) c.index_mut-2.ensures.value in
    on-ok c.fill.result (λ (fits : Fits c.fill.new.joiner None c.fill.new.shelf (numbered c.fill.new.numbers)).
    FitAll-set c.args.shelf.now c.fill.new.shelf c.args.joiners.now.items items (slice_set items s c.fill.new.numbers) s c.fill.new.joiner before
    c.fill.new.numbers c.fill.ensures.joins.keeps (omega (arith, c.requires.fits.many, c.requires.spaces.many, c.requires.inside)) c.requires.fits
    (SetsSpace-at items s before c.fill.new.numbers was) fits) c.fill.ensures.fits
