-- When a formula may stand for another one that is asked of the trees of stores alone.
use Rattle.std.specs.Prelude.{List}
use Rattle.gta_theory.specs.Assignments.{Assignment, IsFinite}
use Rattle.ws2s_core.specs.declared.formula.Formula.{Formula}
use Rattle.ws2s_core.specs.Satisfaction.{WSat}
use Rattle.store_core.specs.Tables.{TypeEntry, VarEntry}
use Rattle.tree_store.specs.Shapes.{LaysOut}

-- finite sets that satisfy the second formula satisfy the first, and those that lay out a backbone the other way round
pub record AlikeOnTrees (types : List TypeEntry) (vars : List VarEntry) (f g : Formula) : Type 0 where
  pub on : (a : Assignment) → IsFinite a → LaysOut types vars a → WSat f a → WSat g a
  pub back : (a : Assignment) → IsFinite a → WSat g a → WSat f a

-- finite sets that satisfy the formula lay out a backbone
abbrev pub LaysOutTrees : List TypeEntry → List VarEntry → Formula → Type 0
LaysOutTrees types vars f = (a : Assignment) → IsFinite a → WSat f a → LaysOut types vars a
