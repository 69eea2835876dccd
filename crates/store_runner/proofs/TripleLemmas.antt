-- Where a triple's code ends at a cut.
use Rattle.std.proofs.Common.{◌≡◌, ℕ, zero, suc, List, [], ◌∷◌, ◌++◌, Some, None, slice_get, Ok, sym, subst}
use Rattle.std.specs.List.{AllByRecursion}
use Rattle.store_core.specs.Tables.{TypeEntry, VarEntry}
use Rattle.store_core.specs.Stores.{StoreMap}
use Rattle.store_exec.specs.declared.triple.Cut.{Cut}
use Rattle.store_exec.specs.declared.triple.Triple.{Triple}
use Rattle.store_exec.specs.Cuts.{AtCut}
use Rattle.store_trace.specs.declared.event.Event.{Event}
use Rattle.store_trace.specs.declared.event.Event.TheVariants as event
use Rattle.store_trace.specs.Tracing.{TracesCode, TracesTriple, ends}

-- what stands in a list of which this is so
pub by_recursion_there : {X : Type 0} (P : X → Type 0) (xs : List X) (i : ℕ) (x : X) → AllByRecursion P xs → slice_get xs i ≡ Some x → P x
by_recursion_there P [] i x all e = absurd cc
by_recursion_there P (y ∷ ys) zero x all e = let same : y ≡ x = cc in subst P same all.0
by_recursion_there P (y ∷ ys) (suc i) x all e = by_recursion_there P ys i x all.1 e

-- without a cause there, the cut is shown last
pub ends_with : (types : List TypeEntry) (vars : List VarEntry) (t : Triple) (s : StoreMap) (shown all : List Event) (at : StoreMap) (place : ℕ) (cut : Cut) →
    all ≡ shown ++ event.Cut cut.line ∷ [] → TracesCode types t.code s shown at (Ok place) → slice_get t.cuts place ≡ Some cut → AtCut types vars cut at None →
    TracesTriple types vars t s all at (Ok cut.line)
ends_with types vars t s shown all at place cut is traces there sound =
    subst (λ (l : List Event). TracesTriple types vars t s l at (Ok cut.line)) (sym is) (ends shown at place cut traces there sound)
