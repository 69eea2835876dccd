-- The places of a statement's cut points occur in order among its words.
use Rattle.std.proofs.Common.{◌≡◌, ℕ, Bool, true, false, List, [], ◌∷◌, ◌++◌, map, flat_map, Option, Some, None, append_assoc, refl, sym, ap, ◌∙◌, subst}
use Rattle.std.specs.Prelude.{codes}
use Rattle.pale_text.specs.declared.place.Pos.{Pos}
use Rattle.pale_text.specs.declared.token.Mark.TheVariants as mark
use Rattle.pale_text.specs.declared.token.TokenKind.TheVariants as kind
use Rattle.pale_syntax.specs.declared.tree.names.Name.{Name}
use Rattle.pale_syntax.specs.declared.tree.condition.Condition.{Condition}
use Rattle.pale_syntax.specs.declared.tree.assertion.Bracketed.{Bracketed}
use Rattle.pale_syntax.specs.declared.tree.statement.Argument.{Argument}
use Rattle.pale_syntax.specs.declared.tree.statement.Argument.TheVariants as argument
use Rattle.pale_syntax.specs.declared.tree.statement.Statement.{Statement, roll-Statement}
use Rattle.pale_syntax.specs.declared.tree.statement.Statement.TheOpen.{Statement-F}
use Rattle.pale_syntax.specs.declared.tree.statement.Statement.TheFolds.{fold-roll-Statement, map-Statement, ind-Statement}
use Rattle.pale_syntax.specs.declared.tree.statement.Value.{Value}
use Rattle.pale_syntax.specs.declared.tree.statement.Value.TheVariants as value
use Rattle.pale_print_laws.specs.Words.{Word, Words, ◌>>◌, each, sign, word_at, name_words}
use Rattle.pale_print_laws.specs.ConditionWords.{condition_words}
use Rattle.pale_print_laws.specs.StatementWords.{truth_word, argument_words, new_variant_words, value_words, value_place, clause_words}
use Rattle.pale_print_laws.specs.StatementWords.{call_result_words, logic_argument_words, given_words}
use Rattle.pale_print_laws.specs.StatementWords.{block_words, else_words, statement_node, statement_words}
use Rattle.pale_typed.specs.declared.typed.Stmt.{Stmt, roll-Stmt}
use Rattle.pale_typed.specs.declared.typed.Stmt.TheVariants as stmt
use Rattle.pale_typed.specs.declared.typed.Stmt.TheOpen.{Stmt-F}
use Rattle.pale_typed.specs.declared.typed.Stmt.TheFolds.{map-Stmt, fold-roll-Stmt}
use Rattle.pale_procedures.specs.declared.basis.Basis.{Basis}
use Rattle.pale_sights.specs.declared.sights.Frame.{Frame}
use Rattle.pale_procedures.specs.Statements.{typing_rules, typed_statement, typed_block}
use Rattle.pale_procedures.proofs.StatementLemmas.{typed_form}
use Rattle.whole_run.specs.Places.{places_in, cut_places}
use Rattle.whole_run.proofs.Occurring.{Occur, here, ArePassed, one_passed, separated_passed}
use Rattle.whole_run.proofs.Forms.{sign_passed, word_passed, word_at_passed, name_passed, path_passed, condition_passed, bracketed_passed}

-- ---- parts of statements

truth_passed : (b : Bool) (place : Pos) → ArePassed (truth_word b place)
truth_passed true place = word_at_passed (codes "true") place
truth_passed false place = word_at_passed (codes "false") place

argument_passed : (x : Argument) → ArePassed (argument_words x)
argument_passed (argument.Name x) = name_passed x
argument_passed (argument.Null place) = word_at_passed (codes "null") place
argument_passed (argument.Truth place truth) = truth_passed truth place

variant_passed : (v : Option Name) → ArePassed (new_variant_words v)
variant_passed None = λ places after occur. occur
variant_passed (Some v) = λ places after occur. sign_passed mark.Colon places _ (name_passed v places after occur)

value_passed : (v : Value) → ArePassed (value_words v)
value_passed (value.New place ty v) = λ places after occur.
    word_at_passed (codes "new") place places _ (name_passed ty places _ (variant_passed v places after occur))
value_passed (value.Condition first c) = condition_passed c

pub clause_passed : (bytes : List ℕ) (b : Option Bracketed) → ArePassed (clause_words bytes b)
clause_passed bytes None = λ places after occur. occur
clause_passed bytes (Some b) = λ places after occur. word_passed bytes places _ (bracketed_passed b places after occur)

results_passed : (results : List Name) → ArePassed (call_result_words results)
results_passed [] = λ places after occur. occur
results_passed (first ∷ others) = λ places after occur.
    separated_passed name_words name_passed mark.Comma (first ∷ others) places _ (sign_passed mark.Equals places after occur)

logics_passed : (logics : List Argument) → ArePassed (logic_argument_words logics)
logics_passed [] = λ places after occur. occur
logics_passed (first ∷ others) = λ places after occur.
    sign_passed mark.Semicolon places _ (separated_passed argument_words argument_passed mark.Comma (first ∷ others) places after occur)

given_passed : (arguments logics : List Argument) (keep : Option Bracketed) → ArePassed (given_words arguments logics keep)
given_passed arguments logics keep places after occur =
    separated_passed argument_words argument_passed mark.Comma arguments places _ (logics_passed logics places _
    (clause_passed (codes "keep") keep places after occur))

-- a keyword that is a cut point
taken : (bytes : List ℕ) (place : Pos) (places : List Pos) (after : List Word) → Occur places after → Occur (place ∷ places) (word_at bytes place after)
taken bytes place places after occur =
    here places after (record { kind = kind.Name bytes; place = Some place; next = None }) bytes place refl refl occur

-- ---- the words and places of statements, by their forms

words_at : (x : Statement-F Statement) → statement_words (roll-Statement x) ≡ statement_node (map-Statement Statement Words statement_words x)
unfolding statement_words
words_at x = fold-roll-Statement Words statement_node x

places_form : (x : Stmt-F Stmt) → cut_places (roll-Stmt x) ≡ places_in (map-Stmt Stmt (List Pos) cut_places x)
unfolding cut_places
places_form x = fold-roll-Stmt (List Pos) places_in x

abbrev places_of : List Stmt → List Pos
places_of block = flat_map (λ (places : List Pos). places) (map cut_places block)

module _ (basis : Basis) (frame : Frame) where
  abbrev typed : Statement → Stmt
  typed = typed_statement basis frame

  -- its places occur so, in front of what occurs behind
  abbrev Stands : Statement → Type 0
  Stands s = (places : List Pos) (after : List Word) → Occur places after → Occur (cut_places (typed s) ++ places) (statement_words s after)

  abbrev Standing : Type 0
  Standing = (s : Statement) × Stands s

  abbrev own : List Standing → List Statement
  own block = map (λ (e : Standing). e.0) block

  abbrev own_places : List Standing → List Pos
  own_places block = places_of (map typed (own block))

  abbrev own_words : List Standing → List Words
  own_words block = map statement_words (own block)

  block_stands : (block : List Standing) (places : List Pos) (after : List Word) → Occur places after →
      Occur (own_places block ++ places) (each (λ (one : Words). one) (own_words block) after)
  block_stands [] places after occur = occur
  block_stands (e ∷ block) places after occur =
      subst (λ (l : List Pos). Occur l (statement_words e.0 (each (λ (one : Words). one) (own_words block) after)))
      (sym (append_assoc (cut_places (typed e.0)) (own_places block) places))
      (e.1 (own_places block ++ places) (each (λ (one : Words). one) (own_words block) after) (block_stands block places after occur))

  braced : (block : List Standing) (places : List Pos) (after : List Word) → Occur places after →
      Occur (own_places block ++ places) (block_words (own_words block) after)
  braced block places after occur = sign_passed mark.LeftBrace (own_places block ++ places) _
      (block_stands block places (sign mark.RightBrace after) (sign_passed mark.RightBrace places after occur))

  -- an `if`, and what stands where it is false
  if_stands : (place : Pos) (c : Condition) (first : List Standing) (elses : List Stmt) (words : Words) →
      ((places : List Pos) (after : List Word) → Occur places after → Occur (places_of elses ++ places) (words after)) →
      (places : List Pos) (after : List Word) → Occur places after →
      Occur ((own_places first ++ places_of elses) ++ places)
      (word_at (codes "if") place >> condition_words c >> block_words (own_words first) >> words after)
  if_stands place c first elses words each places after occur =
      word_at_passed (codes "if") place _ _ (condition_passed c _ _
      (subst (λ (l : List Pos). Occur l (block_words (own_words first) (words after))) (sym (append_assoc (own_places first) (places_of elses) places))
      (braced first (places_of elses ++ places) (words after) (each places after occur))))

  -- a form whose places are these
  with_places : (s : Stmt) (x : Stmt-F Stmt) (places : List Pos) (words : List Word) → roll-Stmt x ≡ s →
      Occur (places_in (map-Stmt Stmt (List Pos) cut_places x) ++ places) words → Occur (cut_places s ++ places) words
  with_places s x places words is occur =
      subst (λ (l : List Pos). Occur (l ++ places) words) (sym (ap cut_places (sym is) ∙ places_form x)) occur

  node_stands : (y : Statement-F Standing) (places : List Pos) (after : List Word) → Occur places after →
      Occur (cut_places (typing_rules basis frame (map-Statement Statement Stmt typed (map-Statement Standing Statement (λ e. e.0) y))) ++ places)
      (statement_node (map-Statement Statement Words statement_words (map-Statement Standing Statement (λ e. e.0) y)) after)
  node_stands (Statement-F.Skip place) places after occur =
      with_places stmt.Skip Stmt-F.Skip places _ stmt.rolls-Skip
      (word_at_passed (codes "skip") place places _ (sign_passed mark.Semicolon places after occur))
  node_stands (Statement-F.If place c first None) places after occur =
      with_places _ (Stmt-F.If place.line _ (map typed (own first)) []) places _ (stmt.rolls-If place.line _ _ _)
      (if_stands place c first [] (λ rest. rest) (λ more rest h. h) places after occur)
  node_stands (Statement-F.If place c first (Some block)) places after occur =
      with_places _ (Stmt-F.If place.line _ (map typed (own first)) (map typed (own block))) places _ (stmt.rolls-If place.line _ _ _)
      (if_stands place c first (map typed (own block)) (else_words (Some (own_words block)))
      (λ more rest h. word_passed (codes "else") (own_places block ++ more) _ (braced block more rest h)) places after occur)
  node_stands (Statement-F.While place c invariant body) places after occur =
      with_places _ (Stmt-F.While place _ _ (map typed (own body))) places _ (stmt.rolls-While place _ _ _)
      (taken (codes "while") place (own_places body ++ places) _ (condition_passed c _ _ (bracketed_passed invariant _ _ (braced body places after occur))))
  node_stands (Statement-F.Split place b) places after occur =
      with_places _ (Stmt-F.Split place _) places _ (stmt.rolls-Split place _)
      (taken (codes "split") place places _ (bracketed_passed b places _ (sign_passed mark.Semicolon places after occur)))
  node_stands (Statement-F.Assert place b) places after occur =
      with_places _ (Stmt-F.Do place.line _) places _ (stmt.rolls-Do place.line _)
      (word_at_passed (codes "assert") place places _ (bracketed_passed b places _ (sign_passed mark.Semicolon places after occur)))
  node_stands (Statement-F.Free place x) places after occur =
      with_places _ (Stmt-F.Do place.line _) places _ (stmt.rolls-Do place.line _)
      (word_at_passed (codes "free") place places _ (name_passed x places _ (sign_passed mark.Semicolon places after occur)))
  node_stands (Statement-F.Call c) places after occur =
      with_places _ (Stmt-F.Call c.place _) places _ (stmt.rolls-Call c.place _)
      (taken (codes "call") c.place places _ (results_passed c.results places _ (name_passed c.callee places _
      (given_passed c.arguments c.logics c.keep places _ (sign_passed mark.Semicolon places after occur)))))
  node_stands (Statement-F.Assign p place v) places after occur =
      with_places _ (Stmt-F.Do p.base.place.line _) places _ (stmt.rolls-Do p.base.place.line _)
      (path_passed p places _ (one_passed (record { kind = kind.Mark mark.Equals; place = Some place; next = value_place v }) places _
      (value_passed v places _ (sign_passed mark.Semicolon places after occur))))

  statement_stands : (s : Statement) → Stands s
  statement_stands = ind-Statement Stands (λ x y is. subst (λ (z : Statement-F Statement). Stands (roll-Statement z)) is (λ places after occur.
      subst (λ (t : Stmt). Occur (cut_places t ++ places) (statement_words (roll-Statement (map-Statement Standing Statement (λ e. e.0) y)) after))
      (sym (typed_form basis frame (roll-Statement (map-Statement Standing Statement (λ e. e.0) y)) (map-Statement Standing Statement (λ e. e.0) y) refl))
      (subst (λ (w : Words). Occur (cut_places (typing_rules basis frame
      (map-Statement Statement Stmt typed (map-Statement Standing Statement (λ e. e.0) y))) ++ places) (w after))
      (sym (words_at (map-Statement Standing Statement (λ e. e.0) y))) (node_stands y places after occur))))

  -- statements in order
  pub statements_stand : (block : List Statement) (places : List Pos) (after : List Word) → Occur places after →
      Occur (flat_map cut_places (typed_block basis frame block) ++ places) (each statement_words block after)
  statements_stand [] places after occur = occur
  statements_stand (s ∷ block) places after occur =
      subst (λ (l : List Pos). Occur l (statement_words s (each statement_words block after)))
      (sym (append_assoc (cut_places (typed s)) (flat_map cut_places (typed_block basis frame block)) places))
      (statement_stands s (flat_map cut_places (typed_block basis frame block) ++ places) (each statement_words block after)
      (statements_stand block places after occur))
