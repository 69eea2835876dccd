-- Lists of cells in rising order, as which sets of cells are kept.
use Rattle.std.specs.Prelude.{◌<◌, List, [], ◌∷◌}
use Rattle.std.specs.List.{AllByRecursion}
use Rattle.store_core.specs.declared.ids.CellId.{CellId}

-- the numbers rise, so no cell stands twice
abbrev pub AreRising : List CellId → Type 0
AreRising [] = Unit {0}
AreRising (c ∷ cells) = AllByRecursion (λ d. c.0 < d.0) cells × AreRising cells
