-- Paths of code, and what is compared or assigned.
use Rattle.pale_text.specs.declared.place.Pos.{Pos}
use Rattle.pale_syntax.specs.declared.tree.names.Term as source
use Rattle.pale_syntax.specs.declared.tree.names.Term.TheVariants as source_term
use Rattle.store_core.specs.declared.ids.VarId.{VarId}
use Rattle.store_logic.specs.declared.term.Base.{Base}
use Rattle.store_logic.specs.declared.term.Base.TheVariants as base
use Rattle.store_logic.specs.declared.path.Path.{Path}
use Rattle.store_logic.specs.declared.path.Operand.{Operand}
use Rattle.store_logic.specs.declared.path.Operand.TheVariants as operand
use Rattle.pale_terms.specs.declared.terms.TypedPath.{TypedPath}
use Rattle.pale_terms.specs.declared.terms.TypedTerm.{TypedTerm}
use Rattle.pale_terms.specs.declared.terms.TypedTerm.TheVariants as typed

-- in code every visible name is a variable; any other counts as the first
abbrev pub var_in : Base → VarId
var_in (base.Var var) = var
var_in (base.Bound number) = record { 0 = 0 }
var_in (base.Param number) = record { 0 = 0 }

abbrev pub path_in : TypedPath → Path
path_in p = record { var = var_in p.base; fields = p.fields }

abbrev pub operand_in : TypedTerm → Operand
operand_in typed.Null = operand.Null
operand_in (typed.Path p) = operand.Path (path_in p)

-- the place of the first token of a term
abbrev pub first_place : source.Term → Pos
first_place (source_term.Null place) = place
first_place (source_term.Path p) = p.base.place
