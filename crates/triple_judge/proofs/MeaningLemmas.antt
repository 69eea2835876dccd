-- What the formulas of the sites of a triple say of the stores whose trees satisfy them.
use Rattle.std.proofs.Common.{◌≡◌, ℕ, List, slice_get, Some, sym, subst}
use Rattle.gta_theory.specs.Assignments.{Assignment}
use Rattle.store_core.specs.Tables.{TypeEntry, VarEntry, IsTypeTable}
use Rattle.store_core.specs.Stores.{StoreMap}
use Rattle.store_exec.specs.declared.cause.Cause.{Cause}
use Rattle.store_exec.specs.declared.triple.Triple.{Triple}
use Rattle.store_exec.specs.Failing.{Meets, Fails}
use Rattle.witness_store.specs.Alike.{AreFunctional}
use Rattle.site_list.specs.declared.site.Site.{Site}
use Rattle.site_list.specs.Sites.{sites_of}
use Rattle.site_list.specs.Triples.{passed}
use Rattle.site_list.proofs.WalkLemmas.{walk-passes}
use Rattle.triple_meaning.specs.Sites.Seeing.{IsOver}
use Rattle.triple_meaning.specs.Failing.Satisfying.{IsPosed, IsSatisfiedAt, IsFirstSatisfied}
use Rattle.triple_meaning.proofs.failing.FailingLemmas.{failing-first, site-meets}
use Rattle.triple_meaning.proofs.failing.SettledLemmas as formulas
use Rattle.triple_judge.specs.Standing.{CanBeJudged}

abbrev pub place_of : Cause → ℕ → Site
place_of why line = record { cause = why; line = line }

module _ (types : List TypeEntry) (vars : List VarEntry) (t : Triple) (table : IsTypeTable types) (functional : AreFunctional types)
    (standing : CanBeJudged types vars t) where
  -- ---- sites

  posed : IsPosed types vars t
  posed = record {
    table = table;
    functional = functional;
    fits = standing.fits;
    tails = standing.tails;
    cuts = standing.cuts;
    start = standing.start;
  }

  -- where the store of the tree meets the triple and fails, the first site that holds has the cause and the line
  pub first-satisfied : (a : Assignment) (s : StoreMap) (why : Cause) (line : ℕ) → IsOver types vars a s → Meets types vars t s →
      Fails types vars t s why line → IsFirstSatisfied types vars t a why line
  first-satisfied a s why line over meets fails = failing-first types vars t posed a s over meets.start why line fails

  -- where some site holds it meets the triple, and fails
  pub satisfied-meets : (a : Assignment) (s : StoreMap) (site : ℕ) → IsOver types vars a s → IsSatisfiedAt types vars t a site → Meets types vars t s
  satisfied-meets a s site over satisfied = site-meets types vars t posed a s over site satisfied

  pub satisfied-fails : (a : Assignment) (s : StoreMap) (site : ℕ) → IsOver types vars a s → IsSatisfiedAt types vars t a site →
      (why : Cause) × (line : ℕ) × Fails types vars t s why line
  satisfied-fails a s site over satisfied = formulas.satisfied-fails types vars t posed a s over site satisfied

  -- with the cause and at the line of the first that holds
  pub first-fails : (a : Assignment) (s : StoreMap) (why : Cause) (line : ℕ) → IsOver types vars a s → IsFirstSatisfied types vars t a why line →
      Fails types vars t s why line
  first-fails a s why line over first = formulas.first-fails types vars t posed a s over why line first

  -- ---- the places of sites

  pub first-place : (a : Assignment) (why : Cause) (line : ℕ) → (first : IsFirstSatisfied types vars t a why line) →
      slice_get (sites_of types t) first.site ≡ Some (place_of why line)
  first-place a why line first =
      subst (λ (places : List Site). slice_get places first.site ≡ Some (place_of why line)) (walk-passes types vars t) first.is

  pub passed-place : (site : ℕ) (place : Site) → slice_get (sites_of types t) site ≡ Some place → slice_get (passed types vars t) site ≡ Some place
  passed-place site place there = subst (λ (places : List Site). slice_get places site ≡ Some place) (sym (walk-passes types vars t)) there
