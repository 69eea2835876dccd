-- A space is joined for generated sets.
use Rattle.std.proofs.Common.{arith}
use Rattle.std.specs.Prelude.{slice_set}
use Rattle.bdd_walk.specs.Fits.{FitsSets}
use Rattle.gta_theory.specs.Guides.{left, right}
use Rattle.gta_core.specs.Auto.{automaton_of}
use Rattle.gta_subsets.specs.Subsets.{subsets}
use Rattle.gta_subsets.specs.Numbers.{numbered}
use Rattle.gta_project.proofs.ShelfLemmas.{generated-below}
use Rattle.gta_project.proofs.PartLemmas.{get-at, ChangesSpace-at, FitAll-set}
use Rattle.gta_subsets.proofs.ShortsLemmas.{on-ok}
use Rattle.gta_project.proofs.GrowingLemmas.{Goes-fill, AreSpaces-fill, LacksRoom-fill}
use Rattle.gta_project.proofs.growing.join_sets.Goals as goal

pub fill-requires-clause-known : goal.fill-requires-clause-known
fill-requires-clause-known c = λ row column in_row in_column l r in_l in_r.
    let g = c.args._g.now in
    let s = c.args.space in
    let below = generated-below g c.args.shelf.now c.args.a.now c.requires.auto c.args.track c.args._initials.now c.requires.initials in
    (c.requires.auto.complete s l r).1 (
      c.requires.inside,
      (
        below (left g s) row (c.requires.rows row in_row) l in_l,
        below (right g s) column (c.requires.columns column in_column) r in_r,
      ),
    )

pub fill-requires-clause-numbers : goal.fill-requires-clause-numbers
fill-requires-clause-numbers c =
    let s = c.args.space in
    let sets = c.index_mut-2.result.now in
    (c.requires.spaces.each s sets
    (get-at c.args.numbers.now.items s sets (omega (arith, c.requires.spaces.many, c.requires.inside)) c.index_mut-2.ensures.value)).numbers

pub fill-requires-clause-fits : goal.fill-requires-clause-fits
fill-requires-clause-fits c =
    let s = c.args.space in
    let many = c.requires.spaces.many in
    let fits = c.requires.fits in
    fits.each s c.index_mut.result.now c.index_mut-2.result.now
    (get-at c.args.joiners.now.items s c.index_mut.result.now (omega (arith, fits.many, many, c.requires.inside)) c.index_mut.ensures.value)
    (get-at c.args.numbers.now.items s c.index_mut-2.result.now (omega (arith, many, c.requires.inside)) c.index_mut-2.ensures.value)

pub returns-clause-goes : goal.returns-clause-goes
returns-clause-goes c =
    let g = c.args._g.now in
    let s = c.args.space in
    let items = c.args.numbers.now.items in
    let shelf = c.args.shelf.now in
    let Sets = subsets (automaton_of shelf c.args.a.now) c.args.track c.args._initials.now in
    let before = c.index_mut-2.result.now in
    let was = get-at items s before (omega (arith, c.requires.spaces.many, c.requires.inside)) c.index_mut-2.ensures.value in
    Goes-fill g Sets s c.requires.inside items c.requires.spaces before c.fill.new.numbers was c.args.rows.now c.args.columns.now
    c.requires.rows c.requires.columns shelf c.fill.new.shelf c.fill.ensures.joins c.fill.ensures.numbers

pub returns-clause-spaces : goal.returns-clause-spaces
returns-clause-spaces c =
    let g = c.args._g.now in
    let s = c.args.space in
    let items = c.args.numbers.now.items in
    let shelf = c.args.shelf.now in
    let Sets = subsets (automaton_of shelf c.args.a.now) c.args.track c.args._initials.now in
    let before = c.index_mut-2.result.now in
    let was = get-at items s before (omega (arith, c.requires.spaces.many, c.requires.inside)) c.index_mut-2.ensures.value in
    AreSpaces-fill g Sets s c.requires.inside items c.requires.spaces before c.fill.new.numbers was c.args.rows.now c.args.columns.now
    c.requires.rows c.requires.columns shelf c.fill.new.shelf c.fill.ensures.joins c.fill.ensures.numbers

pub returns-clause-limit : goal.returns-clause-limit
returns-clause-limit c = λ stopped.
    let g = c.args._g.now in
    let s = c.args.space in
    let items = c.args.numbers.now.items in
    let shelf = c.args.shelf.now in
    let Sets = subsets (automaton_of shelf c.args.a.now) c.args.track c.args._initials.now in
    let before = c.index_mut-2.result.now in
    let was = get-at items s before (omega (arith, c.requires.spaces.many, c.requires.inside)) c.index_mut-2.ensures.value in
    LacksRoom-fill g Sets s c.requires.inside items c.requires.spaces before c.fill.new.numbers was c.args.rows.now c.args.columns.now
    c.requires.rows c.requires.columns shelf c.fill.new.shelf c.fill.ensures.joins c.fill.ensures.numbers (c.fill.ensures.limit stopped)

pub returns-clause-fits : goal.returns-clause-fits
returns-clause-fits c =
    let s = c.args.space in
    let items = c.args.numbers.now.items in
    let before = c.index_mut-2.result.now in
    let was = get-at items s before (omega (arith, c.requires.spaces.many, c.requires.inside)) c.index_mut-2.ensures.value in
    on-ok c.fill.result (λ (fits : FitsSets c.fill.new.joiner c.args.track c.fill.new.shelf (numbered c.fill.new.numbers)).
    FitAll-set c.args.track c.args.shelf.now c.fill.new.shelf c.args.joiners.now.items items (slice_set items s c.fill.new.numbers) s
    c.fill.new.joiner before
    c.fill.new.numbers c.fill.ensures.joins.keeps (omega (arith, c.requires.fits.many, c.requires.spaces.many, c.requires.inside)) c.requires.fits
    (ChangesSpace-at items s before c.fill.new.numbers was) fits) c.fill.ensures.fits
