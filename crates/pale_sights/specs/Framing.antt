-- When what statements see is what the table of variables has.
use Rattle.std.specs.Prelude.{◌≡◌, true, List, ◌++◌}
use Rattle.std.specs.List.{AllByRecursion}
use Rattle.store_core.specs.Tables.{VarEntry, AreDistinct, var_names}
use Rattle.pale_terms.specs.Visibles.{Entry}
use Rattle.pale_terms.specs.Scopes.{visible_names}
use Rattle.pale_fitting.specs.Standing.{AreVariables}
use Rattle.pale_sights.specs.declared.sights.Frame.{Frame}
use Rattle.pale_sights.specs.declared.sights.Heading.{Heading}

-- the visible names are those of the variables of some table
pub record AreOfATable (entries : List Entry) : Type 0 where
  pub vars : List VarEntry
  pub each : AreVariables vars entries

-- the place may name it
abbrev pub MayBeNamed : Entry → Type 0
MayBeNamed e = e.visible.may ≡ true

-- each visible name is that of a variable, assertions may name all of them, and each name is visible once
pub record IsFrame (frame : Frame) : Type 0 where
  pub stated : AreVariables frame.vars frame.stated
  pub wide : AllByRecursion MayBeNamed frame.stated
  pub names : AreDistinct (visible_names frame.stated)

-- the names of a heading are distinct
abbrev pub IsHeading : Heading → Type 0
IsHeading h = AreDistinct (var_names h.params ++ var_names h.results ++ var_names h.logics)

-- and those of the locals
abbrev pub IsBody : Heading → List VarEntry → Type 0
IsBody h locals = AreDistinct (var_names h.params ++ var_names h.results ++ var_names locals ++ var_names h.logics)
