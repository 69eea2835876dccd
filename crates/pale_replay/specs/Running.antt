-- Which triples can be executed.
use Rattle.std.specs.Prelude.{◌≤◌, ◌<◌, List, length}
use Rattle.std.specs.List.{AllByRecursion}
use Rattle.store_core.specs.Tables.{TypeEntry, VarEntry}
use Rattle.store_exec.specs.declared.triple.Triple.{Triple}
use Rattle.store_exec.specs.Fits.{TripleFits, news_of_code}
use Rattle.hoare_split.specs.Fitting.{places_of}

-- the triple fits the tables, each tail of its code names one of its cuts, and at most 64 `new` stand in its code
pub record CanBeRun (types : List TypeEntry) (vars : List VarEntry) (t : Triple) : Type 0 where
  pub fits : TripleFits types vars t
  pub tails : AllByRecursion (λ place. place < length t.cuts) (places_of t.code)
  pub news : news_of_code t.code ≤ 64
