-- Stores that meet a triple: a least one, or none; and the triple that asks for them. (Møller and Schwartzbach, PLDI 2001.)
use Rattle.std.specs.Prelude.{◌≤◌, ℕ, List, [], ◌∷◌, length, None}
use Rattle.std.specs.FinMap.{keys}
use Rattle.store_core.specs.Tables.{TypeEntry, VarEntry}
use Rattle.store_core.specs.Stores.{StoreMap}
use Rattle.store_logic.specs.declared.act.Act.TheVariants.{Assert}
use Rattle.store_logic.specs.declared.assertion.Assertion.TheVariants.{True, False}
use Rattle.store_logic.specs.declared.region.Region.TheVariants.{All}
use Rattle.store_exec.specs.declared.code.Item.TheVariants.{Do}
use Rattle.store_exec.specs.declared.code.Tail.TheVariants as tail
use Rattle.store_exec.specs.declared.code.Code.{Code}
use Rattle.store_exec.specs.declared.triple.Cut.{Cut}
use Rattle.store_exec.specs.declared.triple.Triple.{Triple}
use Rattle.store_exec.specs.Failing.{Meets}
use Rattle.tree_store.specs.Stores.{AreNumberedFromOne}
use Rattle.triple_judge.specs.Judging.{HasTriplePeak}

-- no store meets the triple
abbrev pub IsUnmet : List TypeEntry → List VarEntry → Triple → Type 0
IsUnmet types vars t = (s : StoreMap) → Meets types vars t s → ⊥

-- the store meets the triple; its cells are numbered from 1 without a gap; and no store that meets the triple has fewer cells
pub record IsLeastMeeting (types : List TypeEntry) (vars : List VarEntry) (t : Triple) (s : StoreMap) : Type 0 where
  pub meets : Meets types vars t s
  pub numbers : AreNumberedFromOne s
  pub fewest : (u : StoreMap) → Meets types vars t u → length (keys s.cells) ≤ length (keys u.cells)

-- ---- asking for them

-- the assertion of falsehood, and then the first cut
abbrev pub falsehood : ℕ → Code
falsehood line = record { items = Do line (Assert False) ∷ []; tail = tail.Cut 0 }

-- a cut at which truth alone is claimed
abbrev pub bare_cut : ℕ → Cut
bare_cut line = record { line = line; handed = None; inside = []; asserts = record { region = All; assertion = True } ∷ [] }

-- the triple that asserts falsehood where the other one starts: it fails from exactly the stores that meet the other one
abbrev pub asking : Triple → Triple
asking t = record { proc = t.proc; line = t.line; start = t.start; code = falsehood t.line; cuts = bare_cut t.line ∷ [] }

-- the Peak of a triple's start: that of the triple that asks for the stores which meet it
abbrev pub HasStartPeak : List TypeEntry → List VarEntry → Triple → ℕ → Type 0
HasStartPeak types vars t p = HasTriplePeak types vars (asking t) p
