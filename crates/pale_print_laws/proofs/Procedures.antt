-- Procedures are read as they are spelled.
use Rattle.std.proofs.Common.{◌≡◌, ℕ, suc, ◌+◌, ◌≤◌, List, [], ◌∷◌, ◌++◌, Option, Some, None, map, refl, sym, ap, subst}
use Rattle.std.proofs.Common.{append_assoc, append-nil, arith, inl, inr}
use Rattle.std.specs.Prelude.{codes}
use Rattle.std.specs.Option.{option_map}
use Rattle.ll1_reader.specs.declared.symbol.Symbol.TheVariants.{Read, Once, Maybe, Many}
use Rattle.ll1_reader.specs.Readings.{Row}
use Rattle.pale_syntax.specs.declared.grammar.act.ProcedureAct.TheVariants as procedures
use Rattle.pale_syntax.specs.declared.grammar.act.StatementAct.TheVariants as statements
use Rattle.pale_syntax.specs.declared.grammar.kind.ProgramKind.TheVariants as kind
use Rattle.pale_syntax.specs.declared.grammar.part.ProgramPart.TheVariants as part
use Rattle.pale_text.specs.declared.token.Mark.TheVariants as mark
use Rattle.pale_text.specs.declared.token.TokenKind.{TokenKind}
use Rattle.pale_text.specs.declared.token.TokenKind.TheVariants as token
use Rattle.pale_syntax.specs.declared.tree.assertion.Bracketed.{Bracketed}
use Rattle.pale_syntax.specs.declared.tree.statement.Statement.{Statement}
use Rattle.pale_syntax.specs.declared.tree.declaration.Declaration.{Declaration}
use Rattle.pale_syntax.specs.declared.tree.declaration.Declaration.TheVariants as declaration
use Rattle.pale_syntax.specs.declared.tree.declaration.LogicParameter.{LogicParameter}
use Rattle.pale_syntax.specs.declared.tree.declaration.LogicParameter.TheVariants as logic
use Rattle.pale_syntax.specs.declared.tree.declaration.Parameter.{Parameter}
use Rattle.pale_syntax.specs.declared.tree.declaration.Parameter.TheVariants as parameter
use Rattle.pale_syntax.specs.declared.tree.declaration.Procedure.{Procedure}
use Rattle.pale_syntax.specs.MakingParts.{Parts}
use Rattle.pale_syntax.specs.ProgramGrammar.{ProgramSymbol, program_grammar, rows_of, reads, opens, push_name, mark_place}
use Rattle.pale_syntax.specs.ProgramGrammar.{procedure as makes, statement as states}
use Rattle.pale_parse.specs.Productions.{program_rules, productions_of}
use Rattle.pale_parse.specs.ParseTable.{number_of, first_set, program_table, mark_number}
use Rattle.pale_print.specs.Placeless.{nowhere, placeless_name, placeless_bracketed, placeless_parameter, placeless_logic, placeless_procedure}
use Rattle.pale_print.specs.Tokens.{each, each_behind, separated}
use Rattle.pale_print.specs.StatementTokens.{clause_tokens, statement_tokens}
use Rattle.pale_print.specs.DeclarationTokens.{parameter_tokens, results_tokens, logic_parameter_tokens, logics_tokens, local_tokens, procedure_tokens}
use Rattle.pale_print_laws.specs.CanonicalStatements.{IsCanonicalClause}
use Rattle.pale_print_laws.specs.CanonicalDeclarations.{All, IsFreeParameter, IsFreeLogicParameter, IsCanonicalProcedure}
use Rattle.pale_print_laws.proofs.Framework.{ProgramStack, Stops, Aim, Ends, room_now, mark, mark_with, mark_open, word}
use Rattle.pale_print_laws.proofs.Framework.{word_with, does, row_ends, goes, takes, leaves, goes_on, stops_there}
use Rattle.pale_print_laws.proofs.Stopping.{at_mark, at_word}
use Rattle.pale_print_laws.proofs.Connectives.{bracketed_read}
use Rattle.pale_print_laws.proofs.Statements.{statements_begin, statements_read}
use Rattle.pale_print_laws.proofs.Types.{declared}
use Rattle.pale_print_laws.proofs.Words.{is_name, is_data, is_pointer, is_bool, is_set, is_proc, is_returns, is_logic, is_pre, is_post}

-- ---- parameters

parameter_read : {aim : Aim} {row : List ProgramSymbol} {d : ℕ} {below : ProgramStack} {after : List TokenKind}
    (parts : Parts) (done : List Parameter) (p : Parameter) →
    IsFreeParameter p →
    d ≤ aim.top → Ends aim (Row row d below) after (record parts { variables = done ++ placeless_parameter p ∷ [] }) →
    Ends aim (Row (Once part.Parameter ∷ row) d below) (parameter_tokens p after) (record parts { variables = done })
unfolding program_grammar rows_of
parameter_read parts done (parameter.Data x ty) free low next =
    goes (Read kind.Data ∷ Read kind.Name ∷ push_name ∷ reads mark.Colon ∷ Read kind.Name ∷ push_name ∷ makes procedures.DataParameter ∷ []) (inl refl)
    (word is_data low (word_with (is_name free.0) low (λ n. refl) (mark low (word_with (is_name free.1) low (λ n. refl) (does (λ n. refl) (row_ends next))))))
parameter_read parts done (parameter.Pointer x ty) free low next =
    goes
    (Read kind.Pointer ∷ Read kind.Name ∷ push_name ∷ reads mark.Colon ∷ Read kind.Name ∷ push_name ∷ makes procedures.PointerParameter ∷ [])
    (inr (inl refl))
    (word is_pointer low
    (word_with (is_name free.0) low (λ n. refl) (mark low (word_with (is_name free.1) low (λ n. refl) (does (λ n. refl) (row_ends next))))))
parameter_read parts done (parameter.Bool x) free low next =
    goes (Read kind.Bool ∷ Read kind.Name ∷ push_name ∷ makes procedures.BoolVariable ∷ []) (inr (inr (inl refl)))
    (word is_bool low (word_with (is_name free) low (λ n. refl) (does (λ n. refl) (row_ends next))))

next_at_paren : (after : List TokenKind) → Stops part.NextParameter (token.Mark mark.RightParen ∷ after)
unfolding program_rules program_table productions_of first_set number_of mark_number
next_at_paren after = at_mark refl

none_at_paren : (after : List TokenKind) → Stops part.Parameters (token.Mark mark.RightParen ∷ after)
unfolding program_rules program_table productions_of first_set number_of mark_number
none_at_paren after = at_mark refl

more_parameters : {aim : Aim} {row : List ProgramSymbol} {d : ℕ} {below : ProgramStack} {after : List TokenKind}
    (parts : Parts) (done ps : List Parameter) →
    All IsFreeParameter ps → d ≤ aim.top →
    Ends aim (Row row d below) (token.Mark mark.RightParen ∷ after) (record parts { variables = done ++ map placeless_parameter ps }) →
    Ends aim (Row (Many part.NextParameter ∷ row) d below)
    (each_behind mark.Comma parameter_tokens ps (token.Mark mark.RightParen ∷ after)) (record parts { variables = done })
unfolding program_grammar rows_of
more_parameters {aim} {row} {d} {below} {after} parts done [] free low next =
    stops_there (next_at_paren after)
    (subst (λ l. Ends aim (Row row d below) (token.Mark mark.RightParen ∷ after) (record parts { variables = l })) (append-nil done) next)
more_parameters {aim} {row} {d} {below} {after} parts done (p ∷ ps) free low next =
    goes_on (reads mark.Comma ∷ Once part.Parameter ∷ []) (inl refl)
    (mark low (parameter_read parts done p free.0 low (row_ends
    (more_parameters parts (done ++ placeless_parameter p ∷ []) ps free.1 low
    (subst (λ l. Ends aim (Row row d below) (token.Mark mark.RightParen ∷ after) (record parts { variables = l }))
    (sym (append_assoc done (placeless_parameter p ∷ []) (map placeless_parameter ps))) next)))))

parameters_read : {aim : Aim} {row : List ProgramSymbol} {d : ℕ} {below : ProgramStack} (after : List TokenKind)
    (parts : Parts) (ps : List Parameter) →
    All IsFreeParameter ps → d ≤ aim.top →
    Ends aim (Row row d below) (token.Mark mark.RightParen ∷ after) (record parts { variables = map placeless_parameter ps }) →
    Ends aim (Row (Maybe part.Parameters ∷ row) d below)
    (separated mark.Comma parameter_tokens ps (token.Mark mark.RightParen ∷ after)) (record parts { variables = [] })
unfolding program_grammar rows_of
parameters_read after parts [] free low next = leaves (none_at_paren after) next
parameters_read after parts (p ∷ ps) free low next =
    takes (Once part.Parameter ∷ Many part.NextParameter ∷ []) (inl refl)
    (parameter_read parts [] p free.0 low (more_parameters parts (placeless_parameter p ∷ []) ps free.1 low (row_ends next)))

-- ---- what may be left out between the parameters and the body

-- what begins with `post` or with the body
abbrev pub from_post : Option Bracketed → List TokenKind → List TokenKind
from_post post body = clause_tokens (codes "post") post (token.Mark mark.LeftBrace ∷ body)

-- or with `pre`
abbrev pub from_pre : Option Bracketed → Option Bracketed → List TokenKind → List TokenKind
from_pre pre post body = clause_tokens (codes "pre") pre (from_post post body)

-- or with `logic`
abbrev pub from_logic : List LogicParameter → Option Bracketed → Option Bracketed → List TokenKind → List TokenKind
from_logic logics pre post body = logics_tokens logics (from_pre pre post body)

post_stops : (body : List TokenKind) → Stops part.Post (token.Mark mark.LeftBrace ∷ body)
unfolding program_rules program_table productions_of first_set number_of mark_number
post_stops body = at_mark refl

pre_stops : (post : Option Bracketed) (body : List TokenKind) → Stops part.Pre (from_post post body)
unfolding program_rules program_table productions_of first_set number_of mark_number
pre_stops None body = at_mark refl
pre_stops (Some b) body = at_word is_post refl

logic_stops : (pre post : Option Bracketed) (body : List TokenKind) → Stops part.Logic (from_pre pre post body)
unfolding program_rules program_table productions_of first_set number_of mark_number
logic_stops None None body = at_mark refl
logic_stops None (Some b) body = at_word is_post refl
logic_stops (Some b) post body = at_word is_pre refl

next_logic_stops : (pre post : Option Bracketed) (body : List TokenKind) → Stops part.NextLogicParameter (from_pre pre post body)
unfolding program_rules program_table productions_of first_set number_of mark_number
next_logic_stops None None body = at_mark refl
next_logic_stops None (Some b) body = at_word is_post refl
next_logic_stops (Some b) post body = at_word is_pre refl

returns_stop : (logics : List LogicParameter) (pre post : Option Bracketed) (body : List TokenKind) → Stops part.Returns (from_logic logics pre post body)
unfolding program_rules program_table productions_of first_set number_of mark_number
returns_stop [] None None body = at_mark refl
returns_stop [] None (Some b) body = at_word is_post refl
returns_stop [] (Some b) post body = at_word is_pre refl
returns_stop (l ∷ logics) pre post body = at_word is_logic refl

results_read : {aim : Aim} {row : List ProgramSymbol} {d : ℕ} {below : ProgramStack} (after : List TokenKind) (parts : Parts)
    (results : List Parameter) →
    All IsFreeParameter results → d ≤ aim.top → Stops part.Returns after →
    Ends aim (Row row d below) after (record parts { variables = []; results = map placeless_parameter results }) →
    Ends aim (Row (Maybe part.Returns ∷ row) d below) (results_tokens results after) (record parts { variables = []; results = [] })
unfolding program_grammar rows_of
results_read after parts [] free low stops next = leaves stops next
results_read after parts (p ∷ ps) free low stops next =
    takes (Read kind.Returns ∷ reads mark.LeftParen ∷ Once part.Parameters ∷ reads mark.RightParen ∷ makes procedures.TakeResults ∷ []) (inl refl)
    (word is_returns low (mark low
    (goes (Once part.Parameter ∷ Many part.NextParameter ∷ []) (inl refl)
    (parameter_read (record parts { results = [] }) [] p free.0 low
    (more_parameters (record parts { results = [] }) (placeless_parameter p ∷ []) ps free.1 low
    (row_ends (mark low (does (λ n. refl) (row_ends next)))))))))

logic_read : {aim : Aim} {row : List ProgramSymbol} {d : ℕ} {below : ProgramStack} {after : List TokenKind} (parts : Parts)
    (done : List LogicParameter) (l : LogicParameter) →
    IsFreeLogicParameter l →
    d ≤ aim.top → Ends aim (Row row d below) after (record parts { logics = done ++ placeless_logic l ∷ [] }) →
    Ends aim (Row (Once part.LogicParameter ∷ row) d below) (logic_parameter_tokens l after) (record parts { logics = done })
unfolding program_grammar rows_of
logic_read parts done (logic.Set x ty) free low next =
    goes (Read kind.Set ∷ Read kind.Name ∷ push_name ∷ reads mark.Colon ∷ Read kind.Name ∷ push_name ∷ makes procedures.LogicSet ∷ []) (inl refl)
    (word is_set low (word_with (is_name free.0) low (λ n. refl) (mark low (word_with (is_name free.1) low (λ n. refl) (does (λ n. refl) (row_ends next))))))
logic_read parts done (logic.Bool x) free low next =
    goes (Read kind.Bool ∷ Read kind.Name ∷ push_name ∷ makes procedures.LogicBool ∷ []) (inr (inl refl))
    (word is_bool low (word_with (is_name free) low (λ n. refl) (does (λ n. refl) (row_ends next))))

more_logics : {aim : Aim} {row : List ProgramSymbol} {d : ℕ} {below : ProgramStack} (after : List TokenKind) (parts : Parts)
    (done logics : List LogicParameter) →
    All IsFreeLogicParameter logics → d ≤ aim.top →
    Stops part.NextLogicParameter after → Ends aim (Row row d below) after (record parts { logics = done ++ map placeless_logic logics }) →
    Ends aim (Row (Many part.NextLogicParameter ∷ row) d below) (each_behind mark.Comma logic_parameter_tokens logics after) (record parts { logics = done })
unfolding program_grammar rows_of
more_logics {aim} {row} {d} {below} after parts done [] free low stops next =
    stops_there stops (subst (λ l. Ends aim (Row row d below) after (record parts { logics = l })) (append-nil done) next)
more_logics {aim} {row} {d} {below} after parts done (l ∷ logics) free low stops next =
    goes_on (reads mark.Comma ∷ Once part.LogicParameter ∷ []) (inl refl)
    (mark low (logic_read parts done l free.0 low (row_ends
    (more_logics after parts (done ++ placeless_logic l ∷ []) logics free.1 low stops
    (subst (λ l. Ends aim (Row row d below) after (record parts { logics = l }))
    (sym (append_assoc done (placeless_logic l ∷ []) (map placeless_logic logics))) next)))))

logics_read : {aim : Aim} {row : List ProgramSymbol} {d : ℕ} {below : ProgramStack} (after : List TokenKind) (parts : Parts)
    (logics : List LogicParameter) →
    All IsFreeLogicParameter logics → d ≤ aim.top →
    Stops part.Logic after → Stops part.NextLogicParameter after → Ends aim (Row row d below) after (record parts { logics = map placeless_logic logics }) →
    Ends aim (Row (Maybe part.Logic ∷ row) d below) (logics_tokens logics after) (record parts { logics = [] })
unfolding program_grammar rows_of
logics_read after parts [] free low stops stops_next next = leaves stops next
logics_read after parts (l ∷ logics) free low stops stops_next next =
    takes (Read kind.Logic ∷ Once part.LogicParameter ∷ Many part.NextLogicParameter ∷ []) (inl refl)
    (word is_logic low (logic_read parts [] l free.0 low (more_logics after parts (placeless_logic l ∷ []) logics free.1 low stops_next (row_ends next))))

pre_read : {aim : Aim} {row : List ProgramSymbol} {d : ℕ} {below : ProgramStack} (after : List TokenKind) (room : ℕ)
    (parts : Parts) (pre : Option Bracketed) →
    IsCanonicalClause room pre → d + room ≤ aim.top →
    parts.used ≡ [] → Stops part.Pre after → Ends aim (Row row d below) after (record parts { pre = option_map placeless_bracketed pre }) →
    Ends aim (Row (Maybe part.Pre ∷ row) d below) (clause_tokens (codes "pre") pre after) (record parts { pre = None })
unfolding program_grammar rows_of
pre_read after room parts None c low none stops next = leaves stops next
pre_read {aim} {row} {d} after room parts (Some b) c low none stops next =
    takes (Read kind.Pre ∷ Once part.Bracketed ∷ makes procedures.SetPre ∷ []) (inl refl)
    (word is_pre (room_now d room aim.top low) (bracketed_read b c low none (does (λ n. refl) (row_ends next))))

post_read : {aim : Aim} {row : List ProgramSymbol} {d : ℕ} {below : ProgramStack} (after : List TokenKind) (room : ℕ)
    (parts : Parts) (post : Option Bracketed) →
    IsCanonicalClause room post → d + room ≤ aim.top →
    parts.used ≡ [] → Stops part.Post after → Ends aim (Row row d below) after (record parts { post = option_map placeless_bracketed post }) →
    Ends aim (Row (Maybe part.Post ∷ row) d below) (clause_tokens (codes "post") post after) (record parts { post = None })
unfolding program_grammar rows_of
post_read after room parts None c low none stops next = leaves stops next
post_read {aim} {row} {d} after room parts (Some b) c low none stops next =
    takes (Read kind.Post ∷ Once part.Bracketed ∷ makes procedures.SetPost ∷ []) (inl refl)
    (word is_post (room_now d room aim.top low) (bracketed_read b c low none (does (λ n. refl) (row_ends next))))

-- ---- the body

-- the statements, each first spelled
each-map : (ss : List Statement) (after : List TokenKind) → each statement_tokens ss after ≡ each (λ one. one) (map statement_tokens ss) after
each-map [] after = refl
each-map (s ∷ ss) after = ap (statement_tokens s) (each-map ss after)

more_locals : {aim : Aim} {row : List ProgramSymbol} {d : ℕ} {below : ProgramStack} (after : List TokenKind) (parts : Parts)
    (done locals : List Parameter) →
    All IsFreeParameter locals → d ≤ aim.top → Stops part.Local after →
    Ends aim (Row row d below) after (record parts { variables = done ++ map placeless_parameter locals }) →
    Ends aim (Row (Many part.Local ∷ row) d below) (each local_tokens locals after) (record parts { variables = done })
unfolding program_grammar rows_of
more_locals {aim} {row} {d} {below} after parts done [] free low stops next =
    stops_there stops (subst (λ l. Ends aim (Row row d below) after (record parts { variables = l })) (append-nil done) next)
more_locals {aim} {row} {d} {below} after parts done (p ∷ locals) free low stops next =
    goes_on (Once part.Parameter ∷ reads mark.Semicolon ∷ []) (inl refl)
    (parameter_read parts done p free.0 low (mark low (row_ends
    (more_locals after parts (done ++ placeless_parameter p ∷ []) locals free.1 low stops
    (subst (λ l. Ends aim (Row row d below) after (record parts { variables = l }))
    (sym (append_assoc done (placeless_parameter p ∷ []) (map placeless_parameter locals))) next)))))

inner_room : (d inner room top : ℕ) → suc inner ≤ room → d + room ≤ top → suc d + inner ≤ top
inner_room d inner room top h k = omega arith

inner_low : (d inner room top : ℕ) → suc inner ≤ room → d + room ≤ top → suc d ≤ top
inner_low d inner room top h k = omega arith

-- the parts of a procedure that are made before its body
abbrev pub headed : Parts → Procedure → Parts
headed parts p =
    record parts {
      places = nowhere ∷ [];
      names = placeless_name p.name ∷ [];
      parameters = map placeless_parameter p.parameters;
      results = map placeless_parameter p.results;
      logics = map placeless_logic p.logics;
      pre = option_map placeless_bracketed p.pre;
      post = option_map placeless_bracketed p.post;
    }

body_read : {aim : Aim} {d : ℕ} {below : ProgramStack} {after : List TokenKind} (room : ℕ) (done : List Declaration) (p : Procedure) →
    IsCanonicalProcedure room p → d + room ≤ aim.top →
    Ends aim below after (declared (done ++ declaration.Procedure (placeless_procedure p) ∷ [])) →
    Ends aim
    (Row (opens mark.LeftBrace ∷ states statements.BeginBlock ∷ Many part.Local ∷ Many part.Statement ∷ reads mark.RightBrace
    ∷ mark_place ∷ makes procedures.AddProcedure ∷ []) d below)
    (token.Mark mark.LeftBrace ∷ each local_tokens p.locals (each statement_tokens p.body (token.Mark mark.RightBrace ∷ after))) (headed (declared done) p)
unfolding program_grammar rows_of
body_read {aim} {d} {below} {after} room done p is low next =
    subst (λ l. Ends aim (Row (opens mark.LeftBrace ∷ states statements.BeginBlock ∷ Many part.Local ∷ Many part.Statement
    ∷ reads mark.RightBrace ∷ mark_place ∷ makes procedures.AddProcedure ∷ []) d below)
    (token.Mark mark.LeftBrace ∷ each local_tokens p.locals l) (headed (declared done) p)) (sym (each-map p.body (token.Mark mark.RightBrace ∷ after)))
    (mark_open (inner_low d is.inner room aim.top is.within low) (does (λ n. refl)
    (more_locals _ (record (headed (declared done) p) { blocks = [] ∷ [] }) [] p.locals is.locals
    (inner_low d is.inner room aim.top is.within low) (statements_begin after is.body).1
    (statements_read is.body (record (headed (declared done) p) { variables = map placeless_parameter p.locals }) [] []
    (inner_room d is.inner room aim.top is.within low) (refl, refl, refl, refl, refl)
    (mark_with (inner_low d is.inner room aim.top is.within low) (λ n. refl) (does (λ n. refl) (row_ends next)))))))

pub procedure_read : {aim : Aim} {row : List ProgramSymbol} {d : ℕ} {below : ProgramStack} {after : List TokenKind}
    (room : ℕ) (done : List Declaration) (p : Procedure) →
    IsCanonicalProcedure room p →
    d + room ≤ aim.top → Ends aim (Row row d below) after (declared (done ++ declaration.Procedure (placeless_procedure p) ∷ [])) →
    Ends aim (Row (Once part.Procedure ∷ row) d below) (procedure_tokens p after) (declared done)
unfolding program_grammar rows_of
procedure_read {aim} {row} {d} {below} {after} room done p is low next =
    goes
    (Read kind.Proc ∷ mark_place ∷ Read kind.Name ∷ push_name ∷ reads mark.LeftParen ∷ Maybe part.Parameters ∷ reads mark.RightParen ∷
    makes procedures.TakeParameters ∷ Maybe part.Returns ∷ Maybe part.Logic ∷ Maybe part.Pre ∷ Maybe part.Post ∷
    opens mark.LeftBrace ∷ states statements.BeginBlock ∷ Many part.Local ∷ Many part.Statement ∷ reads mark.RightBrace ∷
    mark_place ∷ makes procedures.AddProcedure ∷ []) (inl refl)
    (word_with is_proc (room_now d room aim.top low) (λ n. refl)
    (word_with (is_name is.name) (room_now d room aim.top low) (λ n. refl) (mark (room_now d room aim.top low)
    (parameters_read _ (record (declared done) { places = nowhere ∷ []; names = placeless_name p.name ∷ [] }) p.parameters
    is.parameters (room_now d room aim.top low)
    (mark (room_now d room aim.top low) (does (λ n. refl)
    (results_read _
    (record (declared done) { places = nowhere ∷ []; names = placeless_name p.name ∷ []; parameters = map placeless_parameter p.parameters })
    p.results is.results (room_now d room aim.top low)
    (returns_stop p.logics p.pre p.post _)
    (logics_read _ (record (headed (declared done) p) { pre = None; post = None }) p.logics is.logics
    (room_now d room aim.top low) (logic_stops p.pre p.post _) (next_logic_stops p.pre p.post _)
    (pre_read _ room (record (headed (declared done) p) { post = None }) p.pre is.pre low refl (pre_stops p.post _)
    (post_read _ room (headed (declared done) p) p.post is.post low refl (post_stops _)
    (body_read room done p is low next)))))))))))
