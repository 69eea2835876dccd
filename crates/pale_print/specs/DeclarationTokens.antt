-- The tokens of declarations and programs.
use Rattle.std.specs.Prelude.{List, [], ◌∷◌, codes}
use Rattle.pale_text.specs.declared.token.Mark.TheVariants as mark
use Rattle.pale_text.specs.declared.token.TokenKind.{TokenKind}
use Rattle.pale_syntax.specs.declared.tree.declaration.Declaration.{Declaration}
use Rattle.pale_syntax.specs.declared.tree.declaration.Declaration.TheVariants as declaration
use Rattle.pale_syntax.specs.declared.tree.declaration.FieldDeclaration.{FieldDeclaration}
use Rattle.pale_syntax.specs.declared.tree.declaration.FieldForm.{FieldForm}
use Rattle.pale_syntax.specs.declared.tree.declaration.FieldForm.TheVariants as form
use Rattle.pale_syntax.specs.declared.tree.declaration.LogicParameter.{LogicParameter}
use Rattle.pale_syntax.specs.declared.tree.declaration.LogicParameter.TheVariants as logic
use Rattle.pale_syntax.specs.declared.tree.declaration.Parameter.{Parameter}
use Rattle.pale_syntax.specs.declared.tree.declaration.Parameter.TheVariants as parameter
use Rattle.pale_syntax.specs.declared.tree.declaration.PredicateDeclaration.{PredicateDeclaration}
use Rattle.pale_syntax.specs.declared.tree.declaration.PredicateParameter.{PredicateParameter}
use Rattle.pale_syntax.specs.declared.tree.declaration.PredicateParameter.TheVariants as predicate
use Rattle.pale_syntax.specs.declared.tree.declaration.Procedure.{Procedure}
use Rattle.pale_syntax.specs.declared.tree.declaration.Program.{Program}
use Rattle.pale_syntax.specs.declared.tree.declaration.TypeDeclaration.{TypeDeclaration}
use Rattle.pale_syntax.specs.declared.tree.declaration.VariantDeclaration.{VariantDeclaration}
use Rattle.pale_syntax.specs.declared.tree.names.Name.{Name}
use Rattle.pale_print.specs.Tokens.{Tokens, ◌>>◌, sign, word, each, each_behind, separated, name_tokens, typed_tokens}
use Rattle.pale_print.specs.RouteTokens.{route_tokens}
use Rattle.pale_print.specs.AssertionTokens.{bracketed_tokens}
use Rattle.pale_print.specs.StatementTokens.{clause_tokens, statement_tokens}

-- ---- types

-- `bool f ;`, `data f : T ;` or `pointer f : T [ R ] ;`
abbrev pub field_form_tokens : Name → FieldForm → Tokens
field_form_tokens f form.Bool after = word (codes "bool") >> name_tokens f >> sign mark.Semicolon >> after
field_form_tokens f (form.Data ty) after = word (codes "data") >> typed_tokens f ty >> sign mark.Semicolon >> after
field_form_tokens f (form.Pointer ty place r) after =
    word (codes "pointer") >> typed_tokens f ty >> sign mark.LeftBracket >> route_tokens r 0 >> sign mark.RightBracket >>
    sign mark.Semicolon >> after

abbrev pub field_tokens : FieldDeclaration → Tokens
field_tokens f = field_form_tokens f.name f.form

-- `{ .. }`
abbrev pub fields_tokens : List FieldDeclaration → Tokens
fields_tokens fs after = sign mark.LeftBrace >> each field_tokens fs >> sign mark.RightBrace >> after

-- `v { .. }`
abbrev pub variant_tokens : VariantDeclaration → Tokens
variant_tokens v after = name_tokens v.name >> fields_tokens v.fields >> after

-- `type T = { .. } | v { .. }`
abbrev pub type_tokens : TypeDeclaration → Tokens
type_tokens t after =
    word (codes "type") >> name_tokens t.name >> sign mark.Equals >> fields_tokens t.fields >>
    each_behind mark.Bar variant_tokens t.variants >> after

-- ---- predicates

abbrev pub predicate_parameter_tokens : PredicateParameter → Tokens
predicate_parameter_tokens (predicate.Cell x ty) after = typed_tokens x ty >> after
predicate_parameter_tokens (predicate.Set x ty) after = word (codes "set") >> typed_tokens x ty >> after
predicate_parameter_tokens (predicate.Bool x) after = word (codes "bool") >> name_tokens x >> after

-- `pred p ( .. ) = [ a ] ;`
abbrev pub predicate_tokens : PredicateDeclaration → Tokens
predicate_tokens p after =
    word (codes "pred") >> name_tokens p.name >> sign mark.LeftParen >> separated mark.Comma predicate_parameter_tokens p.parameters >>
    sign mark.RightParen >> sign mark.Equals >> bracketed_tokens p.body >> sign mark.Semicolon >> after

-- ---- procedures

abbrev pub parameter_tokens : Parameter → Tokens
parameter_tokens (parameter.Data x ty) after = word (codes "data") >> typed_tokens x ty >> after
parameter_tokens (parameter.Pointer x ty) after = word (codes "pointer") >> typed_tokens x ty >> after
parameter_tokens (parameter.Bool x) after = word (codes "bool") >> name_tokens x >> after

-- `( .. )`
abbrev pub parameters_tokens : List Parameter → Tokens
parameters_tokens ps after = sign mark.LeftParen >> separated mark.Comma parameter_tokens ps >> sign mark.RightParen >> after

-- `returns ( .. )`, and nothing where there are no results
abbrev pub results_tokens : List Parameter → Tokens
results_tokens [] after = after
results_tokens (first ∷ others) after = word (codes "returns") >> parameters_tokens (first ∷ others) >> after

abbrev pub logic_parameter_tokens : LogicParameter → Tokens
logic_parameter_tokens (logic.Set x ty) after = word (codes "set") >> typed_tokens x ty >> after
logic_parameter_tokens (logic.Bool x) after = word (codes "bool") >> name_tokens x >> after

-- `logic ..`, and nothing where there are no logic variables
abbrev pub logics_tokens : List LogicParameter → Tokens
logics_tokens [] after = after
logics_tokens (first ∷ others) after = word (codes "logic") >> separated mark.Comma logic_parameter_tokens (first ∷ others) >> after

-- a variable that the body declares
abbrev pub local_tokens : Parameter → Tokens
local_tokens p after = parameter_tokens p >> sign mark.Semicolon >> after

-- `proc p ( .. ) returns ( .. ) logic .. pre [ a ] post [ b ] { .. }`
abbrev pub procedure_tokens : Procedure → Tokens
procedure_tokens p after =
    word (codes "proc") >> name_tokens p.name >> parameters_tokens p.parameters >> results_tokens p.results >> logics_tokens p.logics >>
    clause_tokens (codes "pre") p.pre >> clause_tokens (codes "post") p.post >> sign mark.LeftBrace >> each local_tokens p.locals >>
    each statement_tokens p.body >> sign mark.RightBrace >> after

-- ---- programs

abbrev pub declaration_tokens : Declaration → Tokens
declaration_tokens (declaration.«Type» t) after = type_tokens t >> after
declaration_tokens (declaration.Predicate p) after = predicate_tokens p >> after
declaration_tokens (declaration.Procedure p) after = procedure_tokens p >> after

-- the tokens of a program
unfoldable pub program_tokens : Program → List TokenKind
program_tokens p = each declaration_tokens p.declarations []
