-- It is settled for every well-formed store how the code of a triple ends, so satisfied sites mean failing.
use Rattle.std.proofs.Common.{ℕ, List, length, Option, IsSomeAnd, sym, subst}
use Rattle.gta_theory.specs.Assignments.{Assignment}
use Rattle.store_core.specs.Tables.{TypeEntry, VarEntry}
use Rattle.store_core.specs.Stores.{StoreMap, Fits, IsFresh}
use Rattle.routing_walks.specs.WellFormed.{IsWellFormed}
use Rattle.routing_walks.proofs.FreshLemmas.{IsFresh-well_formed}
use Rattle.store_exec.specs.declared.cause.Cause.{Cause}
use Rattle.store_exec.specs.declared.outcome.Outcome.{Outcome}
use Rattle.store_exec.specs.declared.outcome.Outcome.TheVariants as outcome
use Rattle.store_exec.specs.declared.triple.Cut.{Cut}
use Rattle.store_exec.specs.declared.triple.Triple.{Triple}
use Rattle.store_exec.specs.Cuts.{AtCut}
use Rattle.store_exec.specs.Failing.{Fails}
use Rattle.store_exec.specs.Runs.{RunsCode}
use Rattle.store_exec.proofs.CodesKeepLemmas.{code-keeps}
use Rattle.store_ends.proofs.EndLemmas.{code-leads}
use Rattle.store_ends.proofs.PlacesLemmas.{ends-below}
use Rattle.store_ends.proofs.CutLemmas.{cut-settled}
use Rattle.tree_store.proofs.SpotsLemmas.{present}
use Rattle.triple_meaning.specs.Sites.Ending.{IsSettledAt, IsSettled}
use Rattle.triple_meaning.specs.Sites.Seeing.{IsOver}
use Rattle.triple_meaning.specs.Failing.Satisfying.{IsPosed, IsSatisfiedAt, IsFirstSatisfied}
use Rattle.triple_meaning.proofs.failing.FailingLemmas.{site-fails, first-fails_so}

module _ (types : List TypeEntry) (vars : List VarEntry) (t : Triple) (posed : IsPosed types vars t) where
  settled-at : (s : StoreMap) → Fits types vars s → IsFresh s → (out : Outcome) → RunsCode types t.code s out → IsSettledAt types vars t.cuts out
  settled-at s fits fresh (outcome.Fail why line) runs = tt
  settled-at s fits fresh (outcome.End place last) runs =
      let inside = ends-below types (length t.cuts) t.code s last place posed.tails runs in
      let (cut, there) = present t.cuts place inside in
      let keeps = code-keeps types vars t.code s last place (record { fits = fits; fresh = fresh }) (posed.fits).code runs in
      subst (λ (o : Option Cut). IsSomeAnd o (λ c. (why : Option Cause) × AtCut types vars c last why)) (sym there)
      (cut-settled types vars last cut (keeps.well).fits)

  settled : (s : StoreMap) → IsWellFormed types vars s → IsSettled types vars t s
  settled s well =
      let (out, runs) = code-leads types t.code s in
      (out, runs, settled-at s well.fits (IsFresh-well_formed types vars s well).1 out runs)

  module _ (a : Assignment) (s : StoreMap) (over : IsOver types vars a s) where
    -- where a site is satisfied the store fails
    pub satisfied-fails : (site : ℕ) → IsSatisfiedAt types vars t a site → (why : Cause) × (line : ℕ) × Fails types vars t s why line
    satisfied-fails site satisfied = site-fails types vars t posed a s over site satisfied (settled s over.well)

    -- as the first says that is
    pub first-fails : (why : Cause) (line : ℕ) → IsFirstSatisfied types vars t a why line → Fails types vars t s why line
    first-fails why line first = first-fails_so types vars t posed a s over why line first (settled s over.well)
