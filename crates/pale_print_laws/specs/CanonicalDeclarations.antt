-- Declarations and programs whose spelling is read as they are.
use Rattle.std.specs.Prelude.{ℕ, suc, ◌≤◌, List, [], ◌∷◌}
use Rattle.pale_syntax.specs.declared.tree.declaration.Declaration.{Declaration}
use Rattle.pale_syntax.specs.declared.tree.declaration.Declaration.TheVariants as declaration
use Rattle.pale_syntax.specs.declared.tree.declaration.FieldDeclaration.{FieldDeclaration}
use Rattle.pale_syntax.specs.declared.tree.declaration.FieldForm.{FieldForm}
use Rattle.pale_syntax.specs.declared.tree.declaration.FieldForm.TheVariants as form
use Rattle.pale_syntax.specs.declared.tree.declaration.LogicParameter.{LogicParameter}
use Rattle.pale_syntax.specs.declared.tree.declaration.LogicParameter.TheVariants as logic
use Rattle.pale_syntax.specs.declared.tree.declaration.Parameter.{Parameter}
use Rattle.pale_syntax.specs.declared.tree.declaration.Parameter.TheVariants as parameter
use Rattle.pale_syntax.specs.declared.tree.declaration.PredicateDeclaration.{PredicateDeclaration}
use Rattle.pale_syntax.specs.declared.tree.declaration.PredicateParameter.{PredicateParameter}
use Rattle.pale_syntax.specs.declared.tree.declaration.PredicateParameter.TheVariants as predicate
use Rattle.pale_syntax.specs.declared.tree.declaration.Procedure.{Procedure}
use Rattle.pale_syntax.specs.declared.tree.declaration.Program.{Program}
use Rattle.pale_syntax.specs.declared.tree.declaration.TypeDeclaration.{TypeDeclaration}
use Rattle.pale_syntax.specs.declared.tree.declaration.VariantDeclaration.{VariantDeclaration}
use Rattle.pale_syntax.specs.FreeNames.{IsFree}
use Rattle.pale_print_laws.specs.CanonicalRoutes.{IsCanonicalRoute, whole}
use Rattle.pale_print_laws.specs.CanonicalAssertions.{IsCanonicalBracketed}
use Rattle.pale_print_laws.specs.CanonicalStatements.{IsCanonicalClause, AreCanonicalStatements}

-- each of the list is so
abbrev pub All : {X : Type 0} → (X → Type 0) → List X → Type 0
All P [] = Unit {0}
All P (x ∷ xs) = P x × All P xs

abbrev pub IsCanonicalForm : ℕ → FieldForm → Type 0
IsCanonicalForm room form.Bool = Unit {0}
IsCanonicalForm room (form.Data ty) = IsFree ty
IsCanonicalForm room (form.Pointer ty place r) = IsFree ty × IsCanonicalRoute whole room r

abbrev pub IsCanonicalField : ℕ → FieldDeclaration → Type 0
IsCanonicalField room f = IsFree f.name × IsCanonicalForm room f.form

abbrev pub IsCanonicalVariant : ℕ → VariantDeclaration → Type 0
IsCanonicalVariant room v = IsFree v.name × All (IsCanonicalField room) v.fields

pub record IsCanonicalType (room : ℕ) (t : TypeDeclaration) : Type 0 where
  pub name : IsFree t.name
  pub fields : All (IsCanonicalField room) t.fields
  pub variants : All (IsCanonicalVariant room) t.variants

abbrev pub IsFreePredicateParameter : PredicateParameter → Type 0
IsFreePredicateParameter (predicate.Cell x ty) = IsFree x × IsFree ty
IsFreePredicateParameter (predicate.Set x ty) = IsFree x × IsFree ty
IsFreePredicateParameter (predicate.Bool x) = IsFree x

pub record IsCanonicalPredicate (room : ℕ) (p : PredicateDeclaration) : Type 0 where
  pub name : IsFree p.name
  pub parameters : All IsFreePredicateParameter p.parameters
  pub body : IsCanonicalBracketed room p.body

abbrev pub IsFreeParameter : Parameter → Type 0
IsFreeParameter (parameter.Data x ty) = IsFree x × IsFree ty
IsFreeParameter (parameter.Pointer x ty) = IsFree x × IsFree ty
IsFreeParameter (parameter.Bool x) = IsFree x

abbrev pub IsFreeLogicParameter : LogicParameter → Type 0
IsFreeLogicParameter (logic.Set x ty) = IsFree x × IsFree ty
IsFreeLogicParameter (logic.Bool x) = IsFree x

pub record IsCanonicalProcedure (room : ℕ) (p : Procedure) : Type 0 where
  pub name : IsFree p.name
  pub parameters : All IsFreeParameter p.parameters
  pub results : All IsFreeParameter p.results
  pub logics : All IsFreeLogicParameter p.logics
  pub pre : IsCanonicalClause room p.pre
  pub post : IsCanonicalClause room p.post
  pub locals : All IsFreeParameter p.locals
  -- the levels that the body may open inside of its own
  pub inner : ℕ
  pub within : suc inner ≤ room
  pub body : AreCanonicalStatements inner p.body

abbrev pub IsCanonicalDeclaration : ℕ → Declaration → Type 0
IsCanonicalDeclaration room (declaration.«Type» t) = IsCanonicalType room t
IsCanonicalDeclaration room (declaration.Predicate p) = IsCanonicalPredicate room p
IsCanonicalDeclaration room (declaration.Procedure p) = IsCanonicalProcedure room p

-- the program's spelling opens at most so many levels, and it is read as it is
abbrev pub IsCanonical : ℕ → Program → Type 0
IsCanonical room p = All (IsCanonicalDeclaration room) p.declarations
