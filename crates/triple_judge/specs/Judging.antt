-- What is said of a triple: that no store that meets it fails, or a least one that does. (Hoare 1969; counterexamples by the least
-- tree: Møller and Schwartzbach, PLDI 2001.)
use Rattle.std.specs.Prelude.{◌≡◌, ◌≤◌, ℕ, List, length, Option, Some}
use Rattle.std.specs.FinMap.{keys}
use Rattle.gta_theory.specs.Guides.{Spaces}
use Rattle.ws2s_core.specs.declared.formula.Formula.{Formula}
use Rattle.ws2s_theory.specs.Peaks.{HasPeak}
use Rattle.store_core.specs.Tables.{TypeEntry, VarEntry}
use Rattle.store_core.specs.Stores.{StoreMap}
use Rattle.store_exec.specs.declared.cause.Cause.{Cause}
use Rattle.store_exec.specs.declared.triple.Triple.{Triple}
use Rattle.store_exec.specs.Failing.{Meets, Fails}
use Rattle.tree_encode.specs.Spaces.{guide_of}
use Rattle.tree_store.specs.Stores.{AreNumberedFromOne}
use Rattle.site_list.specs.Triples.{site_formula}
use Rattle.triple_judge.specs.declared.judging.Judged.{Judged}
use Rattle.triple_judge.specs.declared.judging.Judged.TheVariants as judged
use Rattle.triple_judge.specs.Spares.{spares_of}

-- ---- Peaks

-- each of the formulas has a Peak under the guide, which is at most p
abbrev pub ArePeaksWithin : Spaces → (ℕ → Option Formula) → ℕ → Type 0
ArePeaksWithin g formulas p = (site : ℕ) (f : Formula) → formulas site ≡ Some f → (q : ℕ) × HasPeak g f q × (q ≤ p)

-- the number is the triple's Peak: the greatest Peak of the formulas of its sites, under the guide of the layout with a spare slot
-- for each cell that its code makes
pub record HasTriplePeak (types : List TypeEntry) (vars : List VarEntry) (t : Triple) (p : ℕ) : Type 0 where
  pub each : ArePeaksWithin (guide_of types vars (spares_of t)) (site_formula types vars t) p
  pub least : (n : ℕ) → ArePeaksWithin (guide_of types vars (spares_of t)) (site_formula types vars t) n → p ≤ n

-- ---- answers

-- no store that meets the triple fails
abbrev pub IsValid : List TypeEntry → List VarEntry → Triple → Type 0
IsValid types vars t = (s : StoreMap) (why : Cause) (line : ℕ) → Meets types vars t s → Fails types vars t s why line → ⊥

-- the store meets the triple, and the triple fails from it with this cause at this line; its cells are numbered from 1 without a gap;
-- and no store that meets the triple, and from which it fails with whatever cause, has fewer cells
pub record IsLeastFailing (types : List TypeEntry) (vars : List VarEntry) (t : Triple) (s : StoreMap) (why : Cause) (line : ℕ) : Type 0 where
  pub meets : Meets types vars t s
  pub fails : Fails types vars t s why line
  pub numbers : AreNumberedFromOne s
  pub fewest : (u : StoreMap) (cause : Cause) (at : ℕ) → Meets types vars t u → Fails types vars t u cause at →
      length (keys s.cells) ≤ length (keys u.cells)

-- what each answer says of the triple; a limit says nothing of it
abbrev pub IsJudged : List TypeEntry → List VarEntry → Triple → Judged → Type 0
IsJudged types vars t judged.Valid = IsValid types vars t
IsJudged types vars t (judged.Invalid s why line) = IsLeastFailing types vars t s why line
IsJudged types vars t judged.Limit = Unit {0}
