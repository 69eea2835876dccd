-- When the triples of a program fit it, so that they can be executed and written as formulas: what they name is there, and of the class
-- and type that its place needs. (Møller and Schwartzbach, PLDI 2001.)
use Rattle.std.specs.Prelude.{◌≡◌, ◌≤◌, ◌<◌, ℕ, List, [], ◌∷◌, ◌++◌, length, map, slice_get, Option, Some, None}
use Rattle.std.specs.List.{AllByRecursion}
use Rattle.store_core.specs.declared.ids.VarId.{VarId}
use Rattle.store_logic.specs.declared.region.Region.{Region}
use Rattle.store_logic.specs.declared.region.Region.TheVariants as region
use Rattle.store_exec.specs.declared.code.Tail.TheOpen.{Tail-F}
use Rattle.store_exec.specs.declared.code.Tail.TheFolds.{fold-Code}
use Rattle.store_exec.specs.declared.code.Code.{Code}
use Rattle.store_exec.specs.declared.triple.Claim.{Claim}
use Rattle.store_exec.specs.declared.triple.Triple.{Triple}
use Rattle.store_exec.specs.Fits.{news_of_code, TripleFits}
use Rattle.pale_typed.specs.declared.typed.ProcEntry.{ProcEntry}
use Rattle.pale_typed.specs.TypedPrograms.{TypedProgram}
use Rattle.hoare_split.specs.Counts.{atoms_of_code}

-- ---- cuts and claims

-- the places of the cuts that the tails of a code name, from the left
abbrev pub places_at : Tail-F (List ℕ) (List ℕ) → List ℕ
places_at (Tail-F.Cut place) = place ∷ []
places_at (Tail-F.Branch line c taken other) = taken ++ other

abbrev pub places_of : Code → List ℕ
places_of = fold-Code (List ℕ) (List ℕ) places_at (λ x. x.tail)

-- one claim on all cells; at a call, one on the part that is handed over or returned, and then one on the rest
abbrev pub regions_at : Option (List VarId) → List Region
regions_at None = region.All ∷ []
regions_at (Some part) = region.Part part ∷ region.Rest part ∷ []

abbrev pub AreReadAt : Option (List VarId) → List Claim → Type 0
AreReadAt part claims = map (λ claim. claim.region) claims ≡ regions_at part

-- ---- triples

-- the triple fits the variables of the procedure of its number, each tail of its code names one of its cuts, and the claims of its
-- start and of its cuts are read on the regions of their kind
pub record FitsProgram (program : TypedProgram) (t : Triple) : Type 0 where
  pub entry : ProcEntry
  pub there : slice_get program.procs t.proc ≡ Some entry
  pub fits : TripleFits program.types entry.vars t
  pub tails : AllByRecursion (λ place. place < length t.cuts) (places_of t.code)
  pub start : AreReadAt t.start.returned t.start.asserts
  pub cuts : AllByRecursion (λ cut. AreReadAt cut.handed cut.asserts) t.cuts

-- its code has at most 128 atoms, and at most 64 `new`
pub record IsShort (t : Triple) : Type 0 where
  pub atoms : atoms_of_code t.code ≤ 128
  pub news : news_of_code t.code ≤ 64
