-- When a triple can be judged over two tables. (Hoare 1969; loop-free triples with calls: Møller and Schwartzbach, PLDI 2001.)
use Rattle.std.specs.Prelude.{◌<◌, List, length, Option}
use Rattle.std.specs.List.{AllByRecursion}
use Rattle.store_core.specs.declared.ids.VarId.{VarId}
use Rattle.store_core.specs.Tables.{TypeEntry, VarEntry}
use Rattle.store_exec.specs.declared.triple.Claim.{Claim}
use Rattle.store_exec.specs.declared.triple.Cut.{Cut}
use Rattle.store_exec.specs.declared.triple.Triple.{Triple}
use Rattle.store_exec.specs.Fits.{TripleFits}
use Rattle.store_ends.specs.Places.{places_of}
use Rattle.triple_meaning.specs.Claims.Given.{IsRegionOf}

-- each of the claims is on all cells, on the part of these variables, or on its rest
abbrev pub AreOn : Option (List VarId) → List Claim → Type 0
AreOn part claims = AllByRecursion (λ (claim : Claim). IsRegionOf part claim.region) claims

-- the triple fits the tables, each tail of its code names one of its cuts, and each claim is on all cells, or on the part, or its
-- rest, that its cut hands over or that its start got back
pub record CanBeJudged (types : List TypeEntry) (vars : List VarEntry) (t : Triple) : Type 0 where
  pub fits : TripleFits types vars t
  pub tails : AllByRecursion (λ place. place < length t.cuts) (places_of t.code)
  pub start : AreOn t.start.returned t.start.asserts
  pub cuts : AllByRecursion (λ (cut : Cut). AreOn cut.handed cut.asserts) t.cuts
