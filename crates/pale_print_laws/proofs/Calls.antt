-- Calls are read as they are spelled.
use Rattle.std.proofs.Common.{◌≡◌, ℕ, ◌+◌, ◌≤◌, true, false, List, [], ◌∷◌, ◌++◌, Option, Some, None, map, refl, sym, subst, append_assoc, append-nil, inl, inr}
use Rattle.std.specs.Prelude.{codes}
use Rattle.std.specs.Option.{option_map}
use Rattle.ll1_reader.specs.declared.symbol.Symbol.TheVariants.{Read, Once, Maybe, Many}
use Rattle.ll1_reader.specs.Readings.{Row}
use Rattle.pale_syntax.specs.declared.grammar.act.CallAct.TheVariants as calls
use Rattle.pale_syntax.specs.declared.grammar.kind.ProgramKind.TheVariants as kind
use Rattle.pale_syntax.specs.declared.grammar.part.ProgramPart.TheVariants as part
use Rattle.pale_text.specs.declared.token.Mark.TheVariants as mark
use Rattle.pale_text.specs.declared.token.TokenKind.{TokenKind}
use Rattle.pale_text.specs.declared.token.TokenKind.TheVariants as token
use Rattle.pale_syntax.specs.declared.tree.names.Name.{Name}
use Rattle.pale_syntax.specs.declared.tree.assertion.Bracketed.{Bracketed}
use Rattle.pale_syntax.specs.declared.tree.statement.Argument.{Argument}
use Rattle.pale_syntax.specs.declared.tree.statement.Argument.TheVariants as argument
use Rattle.pale_syntax.specs.declared.tree.statement.Call.{Call}
use Rattle.pale_syntax.specs.declared.tree.statement.Statement.TheVariants as statement
use Rattle.pale_syntax.specs.declared.tree.statement.Statement.{Statement}
use Rattle.pale_syntax.specs.MakingParts.{Parts}
use Rattle.pale_syntax.specs.ProgramGrammar.{ProgramSymbol, program_grammar, rows_of, reads, push_name, mark_place, call as makes}
use Rattle.pale_parse.specs.Productions.{program_rules, productions_of}
use Rattle.pale_parse.specs.ParseTable.{number_of, first_set, program_table, mark_number}
use Rattle.pale_print.specs.Placeless.{nowhere, placeless_name, placeless_bracketed, placeless_argument, placeless_call}
use Rattle.pale_print.specs.Tokens.{each_behind, separated, name_tokens}
use Rattle.pale_print.specs.StatementTokens.{argument_tokens, logic_argument_tokens, clause_tokens, call_result_tokens, call_tokens}
use Rattle.pale_syntax.specs.FreeNames.{IsFree, AreFree}
use Rattle.pale_print_laws.specs.CanonicalStatements.{IsFreeArgument, AreFreeArguments, IsCanonicalClause, IsCanonicalCall}
use Rattle.pale_print_laws.proofs.Framework.{ProgramStack, Stops, Aim, Ends, room_now, mark, word, word_with, does, row_ends}
use Rattle.pale_print_laws.proofs.Framework.{goes, takes, leaves, goes_on, stops_there}
use Rattle.pale_print_laws.proofs.Stopping.{at_mark}
use Rattle.pale_print_laws.proofs.Connectives.{bracketed_read}
use Rattle.pale_print_laws.proofs.Words.{is_name, is_null, is_true, is_false, is_call, is_keep}

-- ---- arguments

argument_read : {aim : Aim} {row : List ProgramSymbol} {d : ℕ} {below : ProgramStack} {after : List TokenKind}
    (parts : Parts) (done : List Argument) (a : Argument) →
    IsFreeArgument a → d ≤ aim.top →
    Ends aim (Row row d below) after (record parts { arguments = done ++ placeless_argument a ∷ [] }) →
    Ends aim (Row (Once part.Argument ∷ row) d below) (argument_tokens a after) (record parts { arguments = done })
unfolding program_grammar rows_of
argument_read parts done (argument.Name x) free low next =
    goes (Read kind.Name ∷ push_name ∷ makes calls.NameArgument ∷ []) (inl refl) (word_with (is_name free) low (λ n. refl) (does (λ n. refl) (row_ends next)))
argument_read parts done (argument.Null place) free low next =
    goes (Read kind.Null ∷ makes calls.NullArgument ∷ []) (inr (inl refl)) (word_with is_null low (λ n. refl) (row_ends next))
argument_read parts done (argument.Truth place true) free low next =
    goes (Read kind.True ∷ makes calls.TrueArgument ∷ []) (inr (inr (inl refl))) (word_with is_true low (λ n. refl) (row_ends next))
argument_read parts done (argument.Truth place false) free low next =
    goes (Read kind.False ∷ makes calls.FalseArgument ∷ []) (inr (inr (inr (inl refl)))) (word_with is_false low (λ n. refl) (row_ends next))

more_arguments : {aim : Aim} {row : List ProgramSymbol} {d : ℕ} {below : ProgramStack} {after : List TokenKind}
    (parts : Parts) (done arguments : List Argument) →
    AreFreeArguments arguments → d ≤ aim.top →
    Stops part.NextArgument after →
    Ends aim (Row row d below) after (record parts { arguments = done ++ map placeless_argument arguments }) →
    Ends aim (Row (Many part.NextArgument ∷ row) d below) (each_behind mark.Comma argument_tokens arguments after) (record parts { arguments = done })
unfolding program_grammar rows_of
more_arguments {aim} {row} {d} {below} {after} parts done [] free low stops next =
    stops_there stops (subst (λ l. Ends aim (Row row d below) after (record parts { arguments = l })) (append-nil done) next)
more_arguments {aim} {row} {d} {below} {after} parts done (a ∷ arguments) free low stops next =
    goes_on (reads mark.Comma ∷ Once part.Argument ∷ []) (inl refl)
    (mark low (argument_read parts done a free.0 low (row_ends
    (more_arguments parts (done ++ placeless_argument a ∷ []) arguments free.1 low stops
    (subst (λ l. Ends aim (Row row d below) after (record parts { arguments = l }))
    (sym (append_assoc done (placeless_argument a ∷ []) (map placeless_argument arguments))) next)))))

next_at_paren : (after : List TokenKind) → Stops part.NextArgument (token.Mark mark.RightParen ∷ after)
unfolding program_rules program_table productions_of first_set number_of mark_number
next_at_paren after = at_mark refl

next_at_semicolon : (after : List TokenKind) → Stops part.NextArgument (token.Mark mark.Semicolon ∷ after)
unfolding program_rules program_table productions_of first_set number_of mark_number
next_at_semicolon after = at_mark refl

argued_at_paren : (after : List TokenKind) → Stops part.Argued (token.Mark mark.RightParen ∷ after)
unfolding program_rules program_table productions_of first_set number_of mark_number
argued_at_paren after = at_mark refl

argued_at_semicolon : (after : List TokenKind) → Stops part.Argued (token.Mark mark.Semicolon ∷ after)
unfolding program_rules program_table productions_of first_set number_of mark_number
argued_at_semicolon after = at_mark refl

logics_at_paren : (after : List TokenKind) → Stops part.LogicArguments (token.Mark mark.RightParen ∷ after)
unfolding program_rules program_table productions_of first_set number_of mark_number
logics_at_paren after = at_mark refl

keep_at_semicolon : (after : List TokenKind) → Stops part.Keep (token.Mark mark.Semicolon ∷ after)
unfolding program_rules program_table productions_of first_set number_of mark_number
keep_at_semicolon after = at_mark refl

result_at_equals : (after : List TokenKind) → Stops part.NextResult (token.Mark mark.Equals ∷ after)
unfolding program_rules program_table productions_of first_set number_of mark_number
result_at_equals after = at_mark refl

next_at_logics : (logics : List Argument) (after : List TokenKind) → Stops part.NextArgument (logic_argument_tokens logics (token.Mark mark.RightParen ∷ after))
next_at_logics [] after = next_at_paren after
next_at_logics (a ∷ logics) after = next_at_semicolon _

argued_at_logics : (logics : List Argument) (after : List TokenKind) → Stops part.Argued (logic_argument_tokens logics (token.Mark mark.RightParen ∷ after))
argued_at_logics [] after = argued_at_paren after
argued_at_logics (a ∷ logics) after = argued_at_semicolon _

argued_read : {aim : Aim} {row : List ProgramSymbol} {d : ℕ} {below : ProgramStack} (after : List TokenKind) (parts : Parts)
    (arguments logics : List Argument) →
    AreFreeArguments arguments → d ≤ aim.top →
    Ends aim (Row row d below) (logic_argument_tokens logics (token.Mark mark.RightParen ∷ after))
    (record parts { arguments = map placeless_argument arguments }) →
    Ends aim (Row (Maybe part.Argued ∷ row) d below)
    (separated mark.Comma argument_tokens arguments (logic_argument_tokens logics (token.Mark mark.RightParen ∷ after)))
    (record parts { arguments = [] })
unfolding program_grammar rows_of
argued_read after parts [] logics free low next = leaves (argued_at_logics logics after) next
argued_read after parts (a ∷ arguments) logics free low next =
    takes (Once part.Argument ∷ Many part.NextArgument ∷ []) (inl refl)
    (argument_read parts [] a free.0 low
    (more_arguments parts (placeless_argument a ∷ []) arguments free.1 low (next_at_logics logics after) (row_ends next)))

logics_read : {aim : Aim} {row : List ProgramSymbol} {d : ℕ} {below : ProgramStack} {after : List TokenKind} (parts : Parts)
    (logics : List Argument) →
    AreFreeArguments logics → d ≤ aim.top →
    Ends aim (Row row d below) (token.Mark mark.RightParen ∷ after) (record parts { arguments = map placeless_argument logics }) →
    Ends aim (Row (Maybe part.LogicArguments ∷ row) d below)
    (logic_argument_tokens logics (token.Mark mark.RightParen ∷ after)) (record parts { arguments = [] })
unfolding program_grammar rows_of
logics_read {after = after} parts [] free low next = leaves (logics_at_paren after) next
logics_read {after = after} parts (a ∷ logics) free low next =
    takes (reads mark.Semicolon ∷ Once part.Argument ∷ Many part.NextArgument ∷ []) (inl refl)
    (mark low (argument_read parts [] a free.0 low
    (more_arguments parts (placeless_argument a ∷ []) logics free.1 low (next_at_paren after) (row_ends next))))

keep_read : {aim : Aim} {row : List ProgramSymbol} {d : ℕ} {below : ProgramStack} {after : List TokenKind} (room : ℕ)
    (parts : Parts) (keep : Option Bracketed) →
    IsCanonicalClause room keep → d + room ≤ aim.top →
    parts.used ≡ [] →
    Ends aim (Row row d below) (token.Mark mark.Semicolon ∷ after) (record parts { keep = option_map placeless_bracketed keep }) →
    Ends aim (Row (Maybe part.Keep ∷ row) d below) (clause_tokens (codes "keep") keep (token.Mark mark.Semicolon ∷ after)) (record parts { keep = None })
unfolding program_grammar rows_of
keep_read {after = after} room parts None c low none next = leaves (keep_at_semicolon after) next
keep_read {aim} {row} {d} room parts (Some b) c low none next =
    takes (Read kind.Keep ∷ Once part.Bracketed ∷ makes calls.SetKeep ∷ []) (inl refl)
    (word is_keep (room_now d room aim.top low) (bracketed_read b c low none (does (λ n. refl) (row_ends next))))

arguments_read : {aim : Aim} {row : List ProgramSymbol} {d : ℕ} {below : ProgramStack} {after : List TokenKind} (room : ℕ)
    (parts : Parts) (arguments logics : List Argument) (keep : Option Bracketed) →
    AreFreeArguments arguments → AreFreeArguments logics → IsCanonicalClause room keep → d + room ≤ aim.top → parts.used ≡ [] →
    Ends aim (Row row d below) (token.Mark mark.Semicolon ∷ after)
    (record parts { given = map placeless_argument arguments; arguments = map placeless_argument logics; keep = option_map placeless_bracketed keep }) →
    Ends aim (Row (Once part.Arguments ∷ row) d below)
    (separated mark.Comma argument_tokens arguments
    (logic_argument_tokens logics (token.Mark mark.RightParen ∷ clause_tokens (codes "keep") keep (token.Mark mark.Semicolon ∷ after))))
    (record parts { arguments = []; keep = None })
unfolding program_grammar rows_of
arguments_read {aim} {row} {d} room parts arguments logics keep free free_too c low none next =
    goes (Maybe part.Argued ∷ makes calls.TakeArguments ∷ Maybe part.LogicArguments ∷ reads mark.RightParen ∷ Maybe part.Keep ∷ []) (inl refl)
    (argued_read _ (record parts { keep = None }) arguments logics free (room_now d room aim.top low) (does (λ n. refl)
    (logics_read (record parts { keep = None; given = map placeless_argument arguments }) logics free_too (room_now d room aim.top low)
    (mark (room_now d room aim.top low)
    (keep_read room (record parts { given = map placeless_argument arguments; arguments = map placeless_argument logics }) keep c low none (row_ends next))))))

-- ---- results

more_results : {aim : Aim} {row : List ProgramSymbol} {d : ℕ} {below : ProgramStack} {after : List TokenKind} (parts : Parts)
    (done names : List Name) →
    AreFree names → d ≤ aim.top →
    Ends aim (Row row d below) (token.Mark mark.Equals ∷ after) (record parts { call_results = done ++ map placeless_name names }) →
    Ends aim (Row (Many part.NextResult ∷ row) d below)
    (each_behind mark.Comma name_tokens names (token.Mark mark.Equals ∷ after)) (record parts { call_results = done })
unfolding program_grammar rows_of
more_results {aim} {row} {d} {below} {after} parts done [] free low next =
    stops_there (result_at_equals after)
    (subst (λ l. Ends aim (Row row d below) (token.Mark mark.Equals ∷ after) (record parts { call_results = l })) (append-nil done) next)
more_results {aim} {row} {d} {below} {after} parts done (x ∷ names) free low next =
    goes_on (reads mark.Comma ∷ Read kind.Name ∷ push_name ∷ makes calls.TakeResult ∷ []) (inl refl)
    (mark low (word_with (is_name free.0) low (λ n. refl) (does (λ n. refl) (row_ends
    (more_results parts (done ++ placeless_name x ∷ []) names free.1 low
    (subst (λ l. Ends aim (Row row d below) (token.Mark mark.Equals ∷ after) (record parts { call_results = l }))
    (sym (append_assoc done (placeless_name x ∷ []) (map placeless_name names))) next))))))

-- ---- calls

-- nothing of a call is under way
abbrev pub IsIdle : Parts → Type 0
IsIdle parts = (parts.used ≡ []) × (parts.call_results ≡ []) × (parts.given ≡ []) × (parts.arguments ≡ []) × (parts.keep ≡ None)

abbrev pub idle : Parts → Parts
idle parts = record parts { call_results = []; given = []; arguments = []; keep = None }

pub idle_already : (parts : Parts) → IsIdle parts → idle parts ≡ parts
idle_already parts is = λ i. record parts { call_results = sym is.1 i; given = sym is.2 i; arguments = sym is.3 i; keep = sym is.4 i }

call_by : {aim : Aim} {d : ℕ} {below : ProgramStack} {after : List TokenKind} (room : ℕ) (parts : Parts)
    (done : List Statement) (blocks : List (List Statement)) (results : List Name) (callee : Name)
    (arguments logics : List Argument) (keep : Option Bracketed) →
    AreFree results → IsFree callee → AreFreeArguments arguments → AreFreeArguments logics → IsCanonicalClause room keep →
    d + room ≤ aim.top → parts.used ≡ [] →
    Ends aim below after
    (record (idle parts) {
      blocks =
          (done ++
          statement.Call
          (record {
            place = nowhere;
            results = map placeless_name results;
            callee = placeless_name callee;
            arguments = map placeless_argument arguments;
            logics = map placeless_argument logics;
            keep = option_map placeless_bracketed keep;
          }) ∷ []) ∷ blocks;
    }) →
    Ends aim (Row (Read kind.Call ∷ mark_place ∷ Read kind.Name ∷ push_name ∷ Once part.CallRest ∷ reads mark.Semicolon ∷ makes calls.MakeCall ∷ []) d below)
    (token.Name (codes "call") ∷ call_result_tokens results (name_tokens callee (token.Mark mark.LeftParen ∷
    separated mark.Comma argument_tokens arguments
    (logic_argument_tokens logics (token.Mark mark.RightParen ∷ clause_tokens (codes "keep") keep (token.Mark mark.Semicolon ∷ after))))))
    (record (idle parts) { blocks = done ∷ blocks })
unfolding program_grammar rows_of
call_by {aim} {d} {below} {after} room parts done blocks [] callee arguments logics keep free free_callee free_arguments free_logics c low none next =
    word_with is_call (room_now d room aim.top low) (λ n. refl) (word_with (is_name free_callee) (room_now d room aim.top low) (λ n. refl)
    (goes (reads mark.LeftParen ∷ Once part.Arguments ∷ []) (inl refl) (mark (room_now d room aim.top low)
    (arguments_read room (record parts {
      call_results = [];
      given = [];
      blocks = done ∷ blocks;
      places = nowhere
          ∷ parts.places;
      names = placeless_name callee ∷ parts.names;
    }) arguments logics keep free_arguments free_logics c low none
    (row_ends (mark (room_now d room aim.top low) (does (λ n. refl) (row_ends next))))))))
call_by {aim} {d} {below} {after} room parts done blocks (first ∷ others) callee arguments logics keep free free_callee
    free_arguments free_logics c low none next =
    word_with is_call (room_now d room aim.top low) (λ n. refl) (word_with (is_name free.0) (room_now d room aim.top low) (λ n. refl)
    (goes (makes calls.TakeResult ∷ Many part.NextResult ∷ reads mark.Equals ∷ Read kind.Name ∷ push_name ∷ reads
    mark.LeftParen ∷ Once part.Arguments ∷ []) (inr (inl refl)) (does (λ n. refl)
    (more_results
    (record parts { given = []; arguments = []; keep = None; blocks = done ∷ blocks; places = nowhere ∷ parts.places })
    (placeless_name first ∷ []) others free.1 (room_now d room aim.top low)
    (mark (room_now d room aim.top low) (word_with (is_name free_callee) (room_now d room aim.top low) (λ n. refl) (mark (room_now d room aim.top low)
    (arguments_read room (record parts {
      call_results = placeless_name first ∷ map placeless_name others;
      given = [];
      blocks = done ∷ blocks;
      places = nowhere ∷ parts.places;
      names = placeless_name callee ∷ parts.names;
    }) arguments logics keep free_arguments free_logics c low none
    (row_ends (mark (room_now d room aim.top low) (does (λ n. refl) (row_ends next))))))))))))

pub call_read : {aim : Aim} {d : ℕ} {below : ProgramStack} {after : List TokenKind} (room : ℕ) (parts : Parts)
    (done : List Statement) (blocks : List (List Statement)) (c : Call) →
    IsCanonicalCall room c →
    d + room ≤ aim.top → IsIdle parts →
    Ends aim below after (record parts { blocks = (done ++ statement.Call (placeless_call c) ∷ []) ∷ blocks }) →
    Ends aim (Row
    (Read kind.Call ∷ mark_place ∷ Read kind.Name ∷ push_name ∷ Once part.CallRest ∷ reads mark.Semicolon ∷ makes calls.MakeCall ∷ [])
    d below) (call_tokens c after)
    (record parts { blocks = done ∷ blocks })
call_read {aim} {d} {below} {after} room parts done blocks c is low at_rest next =
    subst (λ (ps : Parts). Ends aim (Row
    (Read kind.Call ∷ mark_place ∷ Read kind.Name ∷ push_name ∷ Once part.CallRest ∷ reads mark.Semicolon ∷ makes calls.MakeCall ∷ [])
    d below) (call_tokens c after) (record ps { blocks = done ∷ blocks }))
    (idle_already parts at_rest)
    (call_by room parts done blocks c.results c.callee c.arguments c.logics c.keep is.results is.callee is.arguments is.logics is.keep low at_rest.0
    (subst
    (λ (ps : Parts). Ends aim below after (record ps { blocks = (done ++ statement.Call (placeless_call c) ∷ []) ∷ blocks }))
    (sym (idle_already parts at_rest)) next))
