-- Statements are read as they are spelled.
use Rattle.std.proofs.Common.{◌≡◌, ℕ, suc, ◌+◌, ◌≤◌, List, [], ◌∷◌, ◌++◌, Some, None, map, refl, sym, subst, append_assoc, append-nil, inl, inr}
use Rattle.ll1_reader.specs.declared.symbol.Symbol.TheVariants.{Read, Once, Maybe, Many}
use Rattle.ll1_reader.specs.Grammars.{IsOneOf}
use Rattle.ll1_reader.specs.Readings.{Row}
use Rattle.pale_syntax.specs.declared.grammar.act.CallAct.TheVariants as calls
use Rattle.pale_syntax.specs.declared.grammar.act.StatementAct.TheVariants as statements
use Rattle.pale_syntax.specs.declared.grammar.act.WordAct.TheVariants as words
use Rattle.pale_syntax.specs.declared.grammar.kind.ProgramKind.TheVariants as kind
use Rattle.pale_syntax.specs.declared.grammar.part.ProgramPart.TheVariants as part
use Rattle.pale_text.specs.declared.token.Mark.TheVariants as mark
use Rattle.pale_text.specs.declared.token.TokenKind.{TokenKind}
use Rattle.pale_text.specs.declared.token.TokenKind.TheVariants as token
use Rattle.pale_syntax.specs.declared.tree.statement.Statement.{Statement, roll-Statement}
use Rattle.pale_syntax.specs.declared.tree.statement.Statement.TheVariants as statement
use Rattle.pale_syntax.specs.declared.tree.statement.Statement.TheVariants.{rolls-Skip, rolls-If, rolls-While, rolls-Split}
use Rattle.pale_syntax.specs.declared.tree.statement.Statement.TheVariants.{rolls-Assert, rolls-Free, rolls-Call, rolls-Assign}
use Rattle.pale_syntax.specs.declared.tree.statement.Statement.TheOpen.{Statement-F}
use Rattle.pale_syntax.specs.declared.tree.statement.Statement.TheFolds.{fold-roll-Statement, map-Statement}
use Rattle.pale_syntax.specs.declared.tree.statement.Value.{Value}
use Rattle.pale_syntax.specs.declared.tree.statement.Value.TheVariants as value
use Rattle.pale_syntax.specs.MakingParts.{Parts}
use Rattle.pale_syntax.specs.ProgramGrammar.{ProgramSymbol, program_grammar, rows_of, reads, opens, push_name, mark_place}
use Rattle.pale_syntax.specs.ProgramGrammar.{statement as makes, call as call_makes, word as says}
use Rattle.pale_syntax.specs.ProgramReading.{program_rows}
use Rattle.pale_parse.specs.Productions.{program_rules, productions_of}
use Rattle.pale_parse.specs.ParseTable.{number_of, first_set, program_table, mark_number}
use Rattle.pale_print.specs.Placeless.{nowhere, placeless_condition, placeless_bracketed, placeless_value, placeless_statement_node, placeless_statement}
use Rattle.pale_print.specs.Tokens.{Tokens, each}
use Rattle.pale_print.specs.StatementTokens.{value_tokens, statement_node, statement_tokens}
use Rattle.pale_print_laws.specs.CanonicalStatements.{IsCanonicalValue, IsCanonicalStatement, skip, if_alone, if_else, while}
use Rattle.pale_print_laws.specs.CanonicalStatements.{split, assert, free, call, assign, AreCanonicalStatements, none, more}
use Rattle.pale_print_laws.proofs.Framework.{ProgramStack, Stops, Aim, Ends, room_now, room_open, room_in, mark, mark_with}
use Rattle.pale_print_laws.proofs.Framework.{mark_open, word, word_with, does, marks_next, row_ends, goes, takes, leaves}
use Rattle.pale_print_laws.proofs.Framework.{goes_on, stops_there}
use Rattle.pale_print_laws.proofs.Stopping.{at_mark, at_word}
use Rattle.pale_print_laws.proofs.Terms.{path_read}
use Rattle.pale_print_laws.proofs.Conditions.{at_right_paren, at_semicolon, condition_read}
use Rattle.pale_print_laws.proofs.Connectives.{bracketed_read}
use Rattle.pale_print_laws.proofs.Calls.{IsIdle, call_read}
use Rattle.pale_print_laws.proofs.Words.{is_name, is_skip, is_if, is_else, is_while, is_split, is_assert, is_free, is_call, is_new}

-- ---- values

variant_at_semicolon : (after : List TokenKind) → Stops part.NewVariant (token.Mark mark.Semicolon ∷ after)
unfolding program_rules program_table productions_of first_set number_of mark_number
variant_at_semicolon after = at_mark refl

path_at_equals : (after : List TokenKind) → Stops part.PathStep (token.Mark mark.Equals ∷ after)
unfolding program_rules program_table productions_of first_set number_of mark_number
path_at_equals after = at_mark refl

value_read : {aim : Aim} {row : List ProgramSymbol} {d : ℕ} {below : ProgramStack} {after : List TokenKind} {parts : Parts} (room : ℕ) (v : Value) →
    IsCanonicalValue room v → d + room ≤ aim.top →
    Ends aim (Row row d below) (token.Mark mark.Semicolon ∷ after) (record parts { values = placeless_value v ∷ parts.values }) →
    Ends aim (Row (Once part.Value ∷ row) d below) (value_tokens v (token.Mark mark.Semicolon ∷ after)) parts
unfolding program_grammar rows_of
value_read {aim} {row} {d} {after = after} room (value.New place ty None) is low next =
    goes (Read kind.New ∷ mark_place ∷ Read kind.Name ∷ push_name ∷ makes statements.MakeNew ∷ Maybe part.NewVariant ∷ []) (inl refl)
    (word_with is_new (room_now d room aim.top low) (λ n. refl) (word_with (is_name is.0) (room_now d room aim.top low) (λ n. refl) (does (λ n. refl)
    (leaves (variant_at_semicolon after) (row_ends next)))))
value_read {aim} {row} {d} room (value.New place ty (Some variant)) is low next =
    goes (Read kind.New ∷ mark_place ∷ Read kind.Name ∷ push_name ∷ makes statements.MakeNew ∷ Maybe part.NewVariant ∷ []) (inl refl)
    (word_with is_new (room_now d room aim.top low) (λ n. refl) (word_with (is_name is.0) (room_now d room aim.top low) (λ n. refl) (does (λ n. refl)
    (takes (reads mark.Colon ∷ Read kind.Name ∷ push_name ∷ makes statements.NarrowNew ∷ []) (inl refl)
    (mark (room_now d room aim.top low) (word_with (is_name is.1) (room_now d room aim.top low) (λ n. refl) (does (λ n. refl) (row_ends (row_ends next)))))))))
value_read {aim} {row} {d} {below} {after} room (value.Condition place c) is low next =
    goes (says words.MarkNext ∷ Once part.Condition ∷ makes statements.MakeValue ∷ []) (inr (inl refl))
    (marks_next (condition_read is low (at_semicolon after) (makes statements.MakeValue ∷ []) (Row row d below) (does (λ n. refl) (row_ends next))))

-- ---- statements

-- a row of statements by which these tokens, and then those after them, are read, so that this statement goes to the end of
-- the block on top
abbrev pub FindsStatement : Aim → ℕ → List TokenKind → List TokenKind → Parts → List Statement → List (List Statement) → Statement → Type 0
FindsStatement aim d tokens after parts done blocks s =
    (p : List ProgramSymbol) × IsOneOf p (program_rows.productions part.Statement) ×
    ((below : ProgramStack) → Ends aim below after (record parts { blocks = (done ++ s ∷ []) ∷ blocks }) →
    Ends aim (Row p d below) tokens (record parts { blocks = done ∷ blocks }))

at_node : {aim : Aim} {d : ℕ} {after : List TokenKind} (parts : Parts) (done : List Statement)
    (blocks : List (List Statement)) (x : Statement-F Statement) (s : Statement) →
    roll-Statement x ≡ s →
    FindsStatement aim d (statement_node (map-Statement Statement Tokens statement_tokens x) after) after parts done blocks
    (placeless_statement_node (map-Statement Statement Statement placeless_statement x)) →
    FindsStatement aim d (statement_tokens s after) after parts done blocks (placeless_statement s)
unfolding statement_tokens placeless_statement
at_node {aim} {d} {after} parts done blocks x s rolls h =
    subst (λ s. FindsStatement aim d (statement_tokens s after) after parts done blocks (placeless_statement s)) rolls
    (subst (λ s. FindsStatement aim d (statement_tokens (roll-Statement x) after) after parts done blocks s)
    (sym (fold-roll-Statement Statement placeless_statement_node x))
    (subst (λ (t : Tokens). FindsStatement aim d (t after) after parts done blocks
    (placeless_statement_node (map-Statement Statement Statement placeless_statement x)))
    (sym (fold-roll-Statement Tokens statement_node x)) h))

else_at_brace : (after : List TokenKind) → Stops part.Else (token.Mark mark.RightBrace ∷ after)
unfolding program_rules program_table productions_of first_set number_of mark_number
else_at_brace after = at_mark refl

statement_at_brace : (after : List TokenKind) → Stops part.Statement (token.Mark mark.RightBrace ∷ after)
unfolding program_rules program_table productions_of first_set number_of mark_number
statement_at_brace after = at_mark refl

local_at_brace : (after : List TokenKind) → Stops part.Local (token.Mark mark.RightBrace ∷ after)
unfolding program_rules program_table productions_of first_set number_of mark_number
local_at_brace after = at_mark refl

-- no `else` and no local stands where a statement begins
abbrev pub NoneBegins : List TokenKind → Type 0
NoneBegins tokens = Stops part.Else tokens × Stops part.Local tokens

begins_as : (x : Statement-F Statement) (s : Statement) (after : List TokenKind) → roll-Statement x ≡ s →
    NoneBegins (statement_node (map-Statement Statement Tokens statement_tokens x) after) →
    NoneBegins (statement_tokens s after)
unfolding statement_tokens
begins_as x s after rolls h =
    subst (λ s. NoneBegins (statement_tokens s after)) rolls
    (subst (λ (t : Tokens). NoneBegins (t after)) (sym (fold-roll-Statement Tokens statement_node x)) h)

statement_begins : {room : ℕ} {s : Statement} (after : List TokenKind) → IsCanonicalStatement room s → NoneBegins (statement_tokens s after)
unfolding program_rules program_table productions_of first_set number_of mark_number
statement_begins after (skip room place) =
    begins_as (Statement-F.Skip place) (statement.Skip place) after (rolls-Skip place)
    (at_word is_skip refl, at_word is_skip refl)
statement_begins after (if_alone room place c then is are) =
    begins_as (Statement-F.If place c then None) (statement.If place c then None) after (rolls-If place c then None)
    (at_word is_if refl, at_word is_if refl)
statement_begins after (if_else room place c then otherwise is are are_too) =
    begins_as (Statement-F.If place c then (Some otherwise)) (statement.If place c then (Some otherwise)) after
    (rolls-If place c then (Some otherwise)) (at_word is_if refl, at_word is_if refl)
statement_begins after (while room place c invariant body is is_too are) =
    begins_as (Statement-F.While place c invariant body) (statement.While place c invariant body) after
    (rolls-While place c invariant body) (at_word is_while refl, at_word is_while refl)
statement_begins after (split room place b is) =
    begins_as (Statement-F.Split place b) (statement.Split place b) after (rolls-Split place b)
    (at_word is_split refl, at_word is_split refl)
statement_begins after (assert room place b is) =
    begins_as (Statement-F.Assert place b) (statement.Assert place b) after (rolls-Assert place b)
    (at_word is_assert refl, at_word is_assert refl)
statement_begins after (free room place x is) =
    begins_as (Statement-F.Free place x) (statement.Free place x) after (rolls-Free place x)
    (at_word is_free refl, at_word is_free refl)
statement_begins after (call room c is) = begins_as (Statement-F.Call c) (statement.Call c) after (rolls-Call c) (at_word is_call refl, at_word is_call refl)
statement_begins after (assign room p place v is is_too) =
    begins_as (Statement-F.Assign p place v) (statement.Assign p place v) after (rolls-Assign p place v)
    (at_word (is_name is.base) refl, at_word (is_name is.base) refl)

pub statements_begin : {room : ℕ} {ss : List Statement} (after : List TokenKind) → AreCanonicalStatements room ss →
    NoneBegins (each (λ one. one) (map statement_tokens ss) (token.Mark mark.RightBrace ∷ after))
statements_begin after (none room) = (else_at_brace after, local_at_brace after)
statements_begin after (more room s ss c cs) = statement_begins (each (λ one. one) (map statement_tokens ss) (token.Mark mark.RightBrace ∷ after)) c

-- a block, where its statements are read
block_read : {aim : Aim} {row : List ProgramSymbol} {d : ℕ} {below : ProgramStack} {after : List TokenKind}
    {ss : List Statement} {tokens : List TokenKind} (parts : Parts) (blocks : List (List Statement)) →
    suc d ≤ aim.top →
    (Ends aim (Row (reads mark.RightBrace ∷ []) (suc d) (Row row d below)) (token.Mark mark.RightBrace ∷ after) (record parts { blocks = ss ∷ blocks }) →
    Ends aim (Row (Many part.Statement ∷ reads mark.RightBrace ∷ []) (suc d) (Row row d below)) tokens (record parts { blocks = [] ∷ blocks })) →
    Ends aim (Row row d below) after (record parts { blocks = ss ∷ blocks }) →
    Ends aim (Row (Once part.Block ∷ row) d below) (token.Mark mark.LeftBrace ∷ tokens) (record parts { blocks = blocks })
unfolding program_grammar rows_of
block_read parts blocks low inside next =
    goes (opens mark.LeftBrace ∷ makes statements.BeginBlock ∷ Many part.Statement ∷ reads mark.RightBrace ∷ []) (inl refl)
    (mark_open low (does (λ n. refl) (inside (mark low (row_ends next)))))

mutual
  unfolding program_grammar rows_of

  statement_read : {aim : Aim} {d : ℕ} {room : ℕ} {s : Statement} → IsCanonicalStatement room s →
      (after : List TokenKind) (parts : Parts) (done : List Statement) (blocks : List (List Statement)) →
      d + room ≤ aim.top → IsIdle parts → Stops part.Else after →
      FindsStatement aim d (statement_tokens s after) after parts done blocks (placeless_statement s)
  statement_read {aim} {d} (skip room place) after parts done blocks low at_rest stops =
      at_node parts done blocks (Statement-F.Skip place) (statement.Skip place) (rolls-Skip place) (
        (Read kind.Skip ∷ mark_place ∷ makes statements.MakeSkip ∷ reads mark.Semicolon ∷ []),
        inl refl,
        λ below next. word_with is_skip (room_now d room aim.top low) (λ n. refl) (does (λ n. refl) (mark (room_now d room aim.top low) (row_ends next))),
      )
  statement_read {aim} {d} (if_alone room place c then is are) after parts done blocks low at_rest stops =
      at_node parts done blocks (Statement-F.If place c then None) (statement.If place c then None) (rolls-If place c then None) (
        (Read kind.If ∷ mark_place ∷ reads mark.LeftParen ∷ Once part.Condition ∷ reads mark.RightParen ∷ Once part.Block ∷
            makes statements.NoElse ∷ Maybe part.Else ∷ makes statements.MakeIf ∷ []),
        inr (inl refl),
        λ below next.
            word_with is_if (room_now d (suc room) aim.top low) (λ n. refl) (mark (room_now d (suc room) aim.top low)
            (condition_read is low (at_right_paren _)
            (reads mark.RightParen ∷ Once part.Block ∷ makes statements.NoElse ∷ Maybe part.Else ∷ makes statements.MakeIf ∷ [])
            below
            (mark (room_now d (suc room) aim.top low)
            (block_read
            (record parts { places = nowhere ∷ parts.places; conditions = placeless_condition c ∷ parts.conditions })
            (done ∷ blocks) (room_open d room aim.top low)
            (statements_read are
            (record parts { places = nowhere ∷ parts.places; conditions = placeless_condition c ∷ parts.conditions }) []
            (done ∷ blocks) (room_in d room aim.top low) at_rest)
            (does (λ n. refl) (leaves stops (does (λ n. refl) (row_ends next)))))))),
      )
  statement_read {aim} {d} (if_else room place c then otherwise is are are_too) after parts done blocks low at_rest stops =
      at_node parts done blocks (Statement-F.If place c then (Some otherwise)) (statement.If place c then (Some otherwise))
      (rolls-If place c then (Some otherwise)) (
        (Read kind.If ∷ mark_place ∷ reads mark.LeftParen ∷ Once part.Condition ∷ reads mark.RightParen ∷ Once part.Block ∷
            makes statements.NoElse ∷ Maybe part.Else ∷ makes statements.MakeIf ∷ []),
        inr (inl refl),
        λ below next.
            word_with is_if (room_now d (suc room) aim.top low) (λ n. refl) (mark (room_now d (suc room) aim.top low)
            (condition_read is low (at_right_paren _)
            (reads mark.RightParen ∷ Once part.Block ∷ makes statements.NoElse ∷ Maybe part.Else ∷ makes statements.MakeIf ∷ [])
            below
            (mark (room_now d (suc room) aim.top low)
            (block_read
            (record parts { places = nowhere ∷ parts.places; conditions = placeless_condition c ∷ parts.conditions })
            (done ∷ blocks) (room_open d room aim.top low)
            (statements_read are
            (record parts { places = nowhere ∷ parts.places; conditions = placeless_condition c ∷ parts.conditions }) []
            (done ∷ blocks) (room_in d room aim.top low) at_rest)
            (does (λ n. refl)
            (takes (Read kind.Else ∷ Once part.Block ∷ makes statements.SetElse ∷ []) (inl refl)
            (word is_else (room_now d (suc room) aim.top low)
            (block_read
            (record parts { places = nowhere ∷ parts.places; conditions = placeless_condition c ∷ parts.conditions; elses = None ∷ parts.elses })
            (map placeless_statement then ∷ done ∷ blocks) (room_open d room aim.top low)
            (statements_read are_too
            (record parts { places = nowhere ∷ parts.places; conditions = placeless_condition c ∷ parts.conditions; elses = None ∷ parts.elses })
            [] (map placeless_statement then ∷ done ∷ blocks) (room_in d room aim.top low) at_rest)
            (does (λ n. refl) (row_ends (does (λ n. refl) (row_ends next)))))))))))),
      )
  statement_read {aim} {d} (while room place c invariant body is is_too are) after parts done blocks low at_rest stops =
      at_node parts done blocks (Statement-F.While place c invariant body) (statement.While place c invariant body) (rolls-While place c invariant body) (
        (Read kind.While ∷ mark_place ∷ reads mark.LeftParen ∷ Once part.Condition ∷ reads mark.RightParen ∷ Once part.Bracketed ∷
            Once part.Block ∷ makes statements.MakeWhile ∷ []),
        inr (inr (inl refl)),
        λ below next.
            word_with is_while (room_now d (suc room) aim.top low) (λ n. refl) (mark (room_now d (suc room) aim.top low)
            (condition_read is low (at_right_paren _) (reads mark.RightParen ∷ Once part.Bracketed ∷ Once part.Block ∷ makes statements.MakeWhile ∷ []) below
            (mark (room_now d (suc room) aim.top low)
            (bracketed_read invariant is_too low at_rest.0
            (block_read (record parts {
              places = nowhere ∷ parts.places;
              conditions = placeless_condition c
                  ∷ parts.conditions;
              brackets = placeless_bracketed invariant ∷ parts.brackets;
            }) (done ∷ blocks) (room_open d room aim.top low)
            (statements_read are (record parts {
              places = nowhere ∷ parts.places;
              conditions = placeless_condition c
                  ∷ parts.conditions;
              brackets = placeless_bracketed invariant ∷ parts.brackets;
            }) [] (done ∷ blocks) (room_in d room aim.top low) at_rest)
            (does (λ n. refl) (row_ends next))))))),
      )
  statement_read {aim} {d} (split room place b is) after parts done blocks low at_rest stops =
      at_node parts done blocks (Statement-F.Split place b) (statement.Split place b) (rolls-Split place b) (
        (Read kind.Split ∷ mark_place ∷ Once part.Bracketed ∷ reads mark.Semicolon ∷ makes statements.MakeSplit ∷ []),
        inr (inr (inr (inl refl))),
        λ below next.
            word_with is_split (room_now d room aim.top low) (λ n. refl)
            (bracketed_read b is low at_rest.0 (mark (room_now d room aim.top low) (does (λ n. refl) (row_ends next)))),
      )
  statement_read {aim} {d} (assert room place b is) after parts done blocks low at_rest stops =
      at_node parts done blocks (Statement-F.Assert place b) (statement.Assert place b) (rolls-Assert place b) (
        (Read kind.Assert ∷ mark_place ∷ Once part.Bracketed ∷ reads mark.Semicolon ∷ makes statements.MakeAssert ∷ []),
        inr (inr (inr (inr (inl refl)))),
        λ below next.
            word_with is_assert (room_now d room aim.top low) (λ n. refl)
            (bracketed_read b is low at_rest.0 (mark (room_now d room aim.top low) (does (λ n. refl) (row_ends next)))),
      )
  statement_read {aim} {d} (free room place x is) after parts done blocks low at_rest stops =
      at_node parts done blocks (Statement-F.Free place x) (statement.Free place x) (rolls-Free place x) (
        (Read kind.Free ∷ mark_place ∷ Read kind.Name ∷ push_name ∷ reads mark.Semicolon ∷ makes statements.MakeFree ∷ []),
        inr (inr (inr (inr (inr (inl refl))))),
        λ below next.
            word_with is_free (room_now d room aim.top low) (λ n. refl)
            (word_with (is_name is) (room_now d room aim.top low) (λ n. refl) (mark (room_now d room aim.top low) (does (λ n. refl) (row_ends next)))),
      )
  statement_read {aim} {d} (call room c is) after parts done blocks low at_rest stops =
      at_node parts done blocks (Statement-F.Call c) (statement.Call c) (rolls-Call c) (
        (Read kind.Call ∷ mark_place ∷ Read kind.Name ∷ push_name ∷ Once part.CallRest ∷ reads mark.Semicolon ∷ call_makes calls.MakeCall ∷ []),
        inr (inr (inr (inr (inr (inr (inl refl)))))),
        λ below next. call_read room parts done blocks c is low at_rest next,
      )
  statement_read {aim} {d} (assign room p place v is is_too) after parts done blocks low at_rest stops =
      at_node parts done blocks (Statement-F.Assign p place v) (statement.Assign p place v) (rolls-Assign p place v) (
        (Once part.Path ∷ reads mark.Equals ∷ mark_place ∷ Once part.Value ∷ reads mark.Semicolon ∷ makes statements.MakeAssign ∷ []),
        inr (inr (inr (inr (inr (inr (inr (inl refl))))))),
        λ below next.
            path_read p is (room_now d room aim.top low) (path_at_equals _) (mark_with (room_now d room aim.top low) (λ n. refl)
            (value_read room v is_too low (mark (room_now d room aim.top low) (does (λ n. refl) (row_ends next))))),
      )

  pub statements_read : {aim : Aim} {row : List ProgramSymbol} {d : ℕ} {below : ProgramStack} {after : List TokenKind}
      {room : ℕ} {ss : List Statement} →
      AreCanonicalStatements room ss →
      (parts : Parts) (done : List Statement) (blocks : List (List Statement)) → d + room ≤ aim.top → IsIdle parts →
      Ends aim (Row row d below) (token.Mark mark.RightBrace ∷ after) (record parts { blocks = (done ++ map placeless_statement ss) ∷ blocks }) →
      Ends aim (Row (Many part.Statement ∷ row) d below)
      (each (λ one. one) (map statement_tokens ss) (token.Mark mark.RightBrace ∷ after))
      (record parts { blocks = done ∷ blocks })
  statements_read {aim} {row} {d} {below} {after} (none room) parts done blocks low at_rest next =
      stops_there (statement_at_brace after)
      (subst (λ l. Ends aim (Row row d below) (token.Mark mark.RightBrace ∷ after) (record parts { blocks = l ∷ blocks })) (append-nil done) next)
  statements_read {aim} {row} {d} {below} {after} (more room s ss c cs) parts done blocks low at_rest next =
      let found =
      statement_read {aim = aim} {d = d} c (each (λ one. one) (map statement_tokens ss) (token.Mark mark.RightBrace ∷ after))
      parts done blocks low at_rest (statements_begin after cs).0 in
      goes_on found.0 found.1 (found.2 (Row (Many part.Statement ∷ row) d below)
      (statements_read cs parts (done ++ placeless_statement s ∷ []) blocks low at_rest
      (subst (λ l. Ends aim (Row row d below) (token.Mark mark.RightBrace ∷ after) (record parts { blocks = l ∷ blocks }))
      (sym (append_assoc done (placeless_statement s ∷ []) (map placeless_statement ss))) next)))
