-- The places of a program's cut points, by which they are told apart.
use Rattle.std.specs.Prelude.{◌≢◌, List, [], ◌∷◌, ◌++◌, flat_map, AllPairs}
use Rattle.std.specs.List.{AllByRecursion}
use Rattle.pale_text.specs.declared.place.Pos.{Pos}
use Rattle.pale_typed.specs.declared.typed.ProcEntry.{ProcEntry}
use Rattle.pale_typed.specs.declared.typed.Stmt.{Stmt}
use Rattle.pale_typed.specs.declared.typed.Stmt.TheOpen.{Stmt-F}
use Rattle.pale_typed.specs.declared.typed.Stmt.TheFolds.{fold-Stmt}
use Rattle.pale_typed.specs.TypedPrograms.{TypedProgram}

-- those of one form of statement, by those of its parts: a loop, a `split` or a call is a cut point
abbrev pub places_in : Stmt-F (List Pos) → List Pos
places_in Stmt-F.Skip = []
places_in (Stmt-F.Do line a) = []
places_in (Stmt-F.If line c first other) = flat_map (λ places. places) first ++ flat_map (λ places. places) other
places_in (Stmt-F.While place c invariant body) = place ∷ flat_map (λ places. places) body
places_in (Stmt-F.Split place a) = place ∷ []
places_in (Stmt-F.Call place call) = place ∷ []

-- the places of the cut points in a statement, in order of the text
unfoldable pub cut_places : Stmt → List Pos
cut_places = fold-Stmt (List Pos) places_in

-- no two cut points of one procedure stand at one place
abbrev pub PlacesAreDistinct : TypedProgram → Type 0
PlacesAreDistinct program = AllByRecursion (λ (e : ProcEntry). AllPairs (λ p q. p ≢ q) (flat_map cut_places e.proc.body)) program.procs
