-- The words of declarations and programs. A pointer field keeps the place of its `[`, and a procedure those of `proc` and of its
-- last `}`.
use Rattle.std.specs.Prelude.{List, [], ◌∷◌, codes}
use Rattle.pale_text.specs.declared.token.Mark.TheVariants as mark
use Rattle.pale_syntax.specs.declared.tree.declaration.Declaration.{Declaration}
use Rattle.pale_syntax.specs.declared.tree.declaration.Declaration.TheVariants as declaration
use Rattle.pale_syntax.specs.declared.tree.declaration.FieldDeclaration.{FieldDeclaration}
use Rattle.pale_syntax.specs.declared.tree.declaration.FieldForm.{FieldForm}
use Rattle.pale_syntax.specs.declared.tree.declaration.FieldForm.TheVariants as form
use Rattle.pale_syntax.specs.declared.tree.declaration.LogicParameter.{LogicParameter}
use Rattle.pale_syntax.specs.declared.tree.declaration.LogicParameter.TheVariants as logic
use Rattle.pale_syntax.specs.declared.tree.declaration.Parameter.{Parameter}
use Rattle.pale_syntax.specs.declared.tree.declaration.Parameter.TheVariants as parameter
use Rattle.pale_syntax.specs.declared.tree.declaration.PredicateDeclaration.{PredicateDeclaration}
use Rattle.pale_syntax.specs.declared.tree.declaration.PredicateParameter.{PredicateParameter}
use Rattle.pale_syntax.specs.declared.tree.declaration.PredicateParameter.TheVariants as predicate
use Rattle.pale_syntax.specs.declared.tree.declaration.Procedure.{Procedure}
use Rattle.pale_syntax.specs.declared.tree.declaration.Program.{Program}
use Rattle.pale_syntax.specs.declared.tree.declaration.TypeDeclaration.{TypeDeclaration}
use Rattle.pale_syntax.specs.declared.tree.declaration.VariantDeclaration.{VariantDeclaration}
use Rattle.pale_syntax.specs.declared.tree.names.Name.{Name}
use Rattle.pale_print_laws.specs.Words.{Word, Words, ◌>>◌, sign, sign_at, word_of, word_at, each, each_behind, separated, name_words, typed_words}
use Rattle.pale_print_laws.specs.RouteWords.{route_words}
use Rattle.pale_print_laws.specs.AssertionWords.{bracketed_words}
use Rattle.pale_print_laws.specs.StatementWords.{clause_words, statement_words}

-- ---- types

-- `bool f ;`, `data f : T ;` or `pointer f : T [ R ] ;`
abbrev pub field_form_words : Name → FieldForm → Words
field_form_words f form.Bool after = word_of (codes "bool") >> name_words f >> sign mark.Semicolon >> after
field_form_words f (form.Data ty) after = word_of (codes "data") >> typed_words f ty >> sign mark.Semicolon >> after
field_form_words f (form.Pointer ty place r) after =
    word_of (codes "pointer") >> typed_words f ty >> sign_at mark.LeftBracket place >> route_words r >> sign mark.RightBracket >>
    sign mark.Semicolon >> after

abbrev pub field_words : FieldDeclaration → Words
field_words f = field_form_words f.name f.form

-- `{ .. }`
abbrev pub fields_words : List FieldDeclaration → Words
fields_words fs after = sign mark.LeftBrace >> each field_words fs >> sign mark.RightBrace >> after

-- `v { .. }`
abbrev pub variant_words : VariantDeclaration → Words
variant_words v after = name_words v.name >> fields_words v.fields >> after

-- `type T = { .. } | v { .. }`
abbrev pub type_words : TypeDeclaration → Words
type_words t after =
    word_of (codes "type") >> name_words t.name >> sign mark.Equals >> fields_words t.fields >>
    each_behind mark.Bar variant_words t.variants >> after

-- ---- predicates

abbrev pub predicate_parameter_words : PredicateParameter → Words
predicate_parameter_words (predicate.Cell x ty) after = typed_words x ty >> after
predicate_parameter_words (predicate.Set x ty) after = word_of (codes "set") >> typed_words x ty >> after
predicate_parameter_words (predicate.Bool x) after = word_of (codes "bool") >> name_words x >> after

-- `pred p .. = [ a ] ;`
abbrev pub predicate_words : PredicateDeclaration → Words
predicate_words p after =
    word_of (codes "pred") >> name_words p.name >> separated mark.Comma predicate_parameter_words p.parameters >>
    sign mark.Equals >> bracketed_words p.body >> sign mark.Semicolon >> after

-- ---- procedures

abbrev pub parameter_words : Parameter → Words
parameter_words (parameter.Data x ty) after = word_of (codes "data") >> typed_words x ty >> after
parameter_words (parameter.Pointer x ty) after = word_of (codes "pointer") >> typed_words x ty >> after
parameter_words (parameter.Bool x) after = word_of (codes "bool") >> name_words x >> after

-- `returns ..`, and nothing where there are no results
abbrev pub results_words : List Parameter → Words
results_words [] after = after
results_words (first ∷ others) after = word_of (codes "returns") >> separated mark.Comma parameter_words (first ∷ others) >> after

abbrev pub logic_parameter_words : LogicParameter → Words
logic_parameter_words (logic.Set x ty) after = word_of (codes "set") >> typed_words x ty >> after
logic_parameter_words (logic.Bool x) after = word_of (codes "bool") >> name_words x >> after

-- `logic ..`, and nothing where there are no logic variables
abbrev pub logics_words : List LogicParameter → Words
logics_words [] after = after
logics_words (first ∷ others) after = word_of (codes "logic") >> separated mark.Comma logic_parameter_words (first ∷ others) >> after

-- a variable that the body declares
abbrev pub local_words : Parameter → Words
local_words p after = parameter_words p >> sign mark.Semicolon >> after

-- `proc p .. returns .. logic .. pre [ a ] post [ b ] { .. }`
abbrev pub procedure_words : Procedure → Words
procedure_words p after =
    word_at (codes "proc") p.place >> name_words p.name >> separated mark.Comma parameter_words p.parameters >> results_words p.results >>
    logics_words p.logics >> clause_words (codes "pre") p.pre >> clause_words (codes "post") p.post >> sign mark.LeftBrace >>
    each local_words p.locals >> each statement_words p.body >> sign_at mark.RightBrace p.end >> after

-- ---- programs

abbrev pub declaration_words : Declaration → Words
declaration_words (declaration.«Type» t) after = type_words t >> after
declaration_words (declaration.Predicate p) after = predicate_words p >> after
declaration_words (declaration.Procedure p) after = procedure_words p >> after

-- the words of a program
unfoldable pub program_words : Program → List Word
program_words p = each declaration_words p.declarations []
