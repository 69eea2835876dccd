-- Which of a triple's sites an assignment satisfies, by their formulas, and for which triples these mean something.
use Rattle.std.specs.Prelude.{◌≡◌, ℕ, ◌<◌, List, length, slice_get, Some}
use Rattle.std.specs.List.{AllByRecursion}
use Rattle.gta_theory.specs.Assignments.{Assignment}
use Rattle.ws2s_core.specs.declared.formula.Formula.{Formula}
use Rattle.ws2s_core.specs.Satisfaction.{WSat}
use Rattle.store_core.specs.Tables.{TypeEntry, VarEntry, IsTypeTable}
use Rattle.store_exec.specs.declared.cause.Cause.{Cause}
use Rattle.store_exec.specs.declared.triple.Claim.{Claim}
use Rattle.store_exec.specs.declared.triple.Triple.{Triple}
use Rattle.store_exec.specs.Fits.{TripleFits}
use Rattle.store_ends.specs.Places.{places_of}
use Rattle.witness_store.specs.Alike.{AreFunctional}
use Rattle.triple_meaning.specs.Claims.Given.{IsRegionOf}
use Rattle.site_list.specs.Triples.{passed, site_formula}
use Rattle.triple_meaning.specs.Triples.Parted.{AreParted}

-- every pointer field is functional, the triple fits its tables, each tail of its code names one of its cuts, and each claim is on all
-- cells, or on the part of its place or the rest
pub record IsPosed (types : List TypeEntry) (vars : List VarEntry) (t : Triple) : Type 0 where
  pub table : IsTypeTable types
  pub functional : AreFunctional types
  pub fits : TripleFits types vars t
  pub tails : AllByRecursion (λ place. place < length t.cuts) (places_of t.code)
  pub cuts : AreParted t
  pub start : AllByRecursion (λ (c : Claim). IsRegionOf t.start.returned c.region) t.start.asserts

-- there is a site with this number, and the assignment satisfies its formula
pub record IsSatisfiedAt (types : List TypeEntry) (vars : List VarEntry) (t : Triple) (a : Assignment) (site : ℕ) : Type 0 where
  pub formula : Formula
  pub there : site_formula types vars t site ≡ Some formula
  pub holds : WSat formula a

-- the first site whose formula the assignment satisfies has this cause and line
pub record IsFirstSatisfied (types : List TypeEntry) (vars : List VarEntry) (t : Triple) (a : Assignment) (why : Cause) (line : ℕ) : Type 0 where
  pub site : ℕ
  pub satisfied : IsSatisfiedAt types vars t a site
  pub before : (k : ℕ) → k < site → IsSatisfiedAt types vars t a k → ⊥
  pub is : slice_get (passed types vars t) site ≡ Some (record { cause = why; line = line })
