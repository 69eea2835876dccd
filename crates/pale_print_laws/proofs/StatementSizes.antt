-- How many tokens a statement has.
use Rattle.std.proofs.Common.{◌≡◌, ℕ, suc, ◌+◌, ◌≤◌, true, false, List, [], ◌∷◌, ◌++◌, length, Option, None, Some, map, sym, subst, arith}
use Rattle.std.specs.Prelude.{codes}
use Rattle.pale_text.specs.declared.place.Pos.{Pos}
use Rattle.pale_text.specs.declared.token.Mark.TheVariants as mark
use Rattle.pale_text.specs.declared.token.TokenKind.{TokenKind}
use Rattle.pale_syntax.specs.declared.tree.names.Name.{Name}
use Rattle.pale_syntax.specs.declared.tree.names.Path.{Path}
use Rattle.pale_syntax.specs.declared.tree.condition.Condition.{Condition}
use Rattle.pale_syntax.specs.declared.tree.assertion.Bracketed.{Bracketed}
use Rattle.pale_syntax.specs.declared.tree.statement.Argument.{Argument}
use Rattle.pale_syntax.specs.declared.tree.statement.Argument.TheVariants as argument
use Rattle.pale_syntax.specs.declared.tree.statement.Call.{Call}
use Rattle.pale_syntax.specs.declared.tree.statement.Value.{Value}
use Rattle.pale_syntax.specs.declared.tree.statement.Value.TheVariants as value
use Rattle.pale_syntax.specs.declared.tree.statement.Statement.{Statement, roll-Statement}
use Rattle.pale_syntax.specs.declared.tree.statement.Statement.TheVariants as statement
use Rattle.pale_syntax.specs.declared.tree.statement.Statement.TheOpen.{Statement-F}
use Rattle.pale_syntax.specs.declared.tree.statement.Statement.TheFolds.{fold-Statement, fold-roll-Statement, ind-Statement, map-Statement}
use denote.Hole.Carrier.{roll}
use Rattle.pale_print.specs.Tokens.{Tokens, each, separated, sign, word, ◌>>◌, name_tokens}
use Rattle.pale_print.specs.AssertionTokens.{bracketed_tokens}
use Rattle.pale_print.specs.StatementTokens.{argument_tokens, new_variant_tokens, value_tokens, clause_tokens}
use Rattle.pale_print.specs.StatementTokens.{call_result_tokens, logic_argument_tokens, call_tokens, block_tokens}
use Rattle.pale_print.specs.StatementTokens.{statement_node, statement_tokens}
use Rattle.pale_print_laws.proofs.RouteSizes.{Takes}
use Rattle.pale_print_laws.proofs.NameSizes.{path_size, path_takes}
use Rattle.pale_print_laws.proofs.ConditionSizes.{condition_size, condition_takes}
use Rattle.pale_print_laws.proofs.AssertionSizes.{assertion_size, assertion_takes}
use Rattle.pale_print_laws.proofs.ListSizes.{separated_size, separated_takes}

abbrev pub one_token : {X : Type 0} → X → ℕ
one_token x = 1

abbrev pub clause_size : Option Bracketed → ℕ
clause_size None = 0
clause_size (Some b) = suc (suc (suc (assertion_size b.assertion 0 false)))

abbrev pub call_result_size : List Name → ℕ
call_result_size [] = 0
call_result_size (x ∷ xs) = suc (separated_size one_token (x ∷ xs))

abbrev pub logic_argument_size : List Argument → ℕ
logic_argument_size [] = 0
logic_argument_size (x ∷ xs) = suc (separated_size one_token (x ∷ xs))

abbrev pub call_size : Call → ℕ
call_size c =
    suc (call_result_size c.results + suc (suc (separated_size one_token c.arguments + (logic_argument_size c.logics + suc (suc (clause_size c.keep))))))

abbrev pub new_variant_size : Option Name → ℕ
new_variant_size None = 0
new_variant_size (Some x) = 2

abbrev pub value_size : Value → ℕ
value_size (value.New place ty variant) = suc (suc (new_variant_size variant))
value_size (value.Condition place c) = condition_size c 0

abbrev pub total : List ℕ → ℕ
total [] = 0
total (n ∷ ns) = n + total ns

abbrev pub else_size : Option (List ℕ) → ℕ
else_size None = 0
else_size (Some ns) = suc (suc (suc (total ns)))

abbrev pub size_node : Statement-F ℕ → ℕ
size_node (Statement-F.Skip place) = 2
size_node (Statement-F.If place c then otherwise) = suc (suc (condition_size c 0 + suc (suc (suc (total then + else_size otherwise)))))
size_node (Statement-F.While place c invariant body) =
    suc (suc (condition_size c 0 + suc (suc (suc (assertion_size invariant.assertion 0 false + suc (suc (total body)))))))
size_node (Statement-F.Split place b) = suc (suc (suc (suc (assertion_size b.assertion 0 false))))
size_node (Statement-F.Assert place b) = suc (suc (suc (suc (assertion_size b.assertion 0 false))))
size_node (Statement-F.Free place x) = 3
size_node (Statement-F.Call c) = call_size c
size_node (Statement-F.Assign p place v) = path_size p + suc (suc (value_size v))

unfoldable pub statement_size : Statement → ℕ
statement_size = fold-Statement ℕ size_node

abbrev pub statements_size : List Statement → ℕ
statements_size ss = total (map statement_size ss)

pub sized_at : (x : Statement-F Statement) → statement_size (roll-Statement x) ≡ size_node (map-Statement Statement ℕ statement_size x)
unfolding statement_size
sized_at x = fold-roll-Statement ℕ size_node x

-- ---- the tokens are so many

pub name_takes : (x : Name) → Takes (name_tokens x) (one_token x)
name_takes x = record { takes = λ after. omega arith }

pub argument_takes : (a : Argument) → Takes (argument_tokens a) (one_token a)
argument_takes (argument.Name x) = record { takes = λ after. omega arith }
argument_takes (argument.Null place) = record { takes = λ after. omega arith }
argument_takes (argument.Truth place true) = record { takes = λ after. omega arith }
argument_takes (argument.Truth place false) = record { takes = λ after. omega arith }

pub bracketed_takes : (b : Bracketed) → Takes (bracketed_tokens b) (suc (suc (assertion_size b.assertion 0 false)))
bracketed_takes b = record { takes = λ after. let e = (assertion_takes b.assertion 0 false).takes (sign mark.RightBracket >> after) in omega arith }

pub clause_takes : (bytes : List ℕ) (b : Option Bracketed) → Takes (clause_tokens bytes b) (clause_size b)
clause_takes bytes None = record { takes = λ after. omega arith }
clause_takes bytes (Some b) = record { takes = λ after. let e = (bracketed_takes b).takes after in omega arith }

call_results_take : (xs : List Name) → Takes (call_result_tokens xs) (call_result_size xs)
call_results_take [] = record { takes = λ after. omega arith }
call_results_take (x ∷ xs) =
    record {
      takes = λ after. let e = separated_takes name_tokens one_token name_takes mark.Comma (x ∷ xs)
          (sign mark.Equals >> after) in omega arith;
    }

logic_arguments_take : (xs : List Argument) → Takes (logic_argument_tokens xs) (logic_argument_size xs)
logic_arguments_take [] = record { takes = λ after. omega arith }
logic_arguments_take (x ∷ xs) =
    record {
      takes = λ after. let e = separated_takes argument_tokens one_token argument_takes mark.Comma (x ∷ xs) after in omega
          arith;
    }

pub call_takes : (c : Call) → Takes (call_tokens c) (call_size c)
call_takes c = record {
  takes = λ after.
      let end = sign mark.Semicolon >> after in
      let kept = sign mark.RightParen >> clause_tokens (codes "keep") c.keep >> end in
      let logics = logic_argument_tokens c.logics >> kept in
      let given = name_tokens c.callee >> sign mark.LeftParen >> separated mark.Comma argument_tokens c.arguments >> logics in
      let e = (call_results_take c.results).takes given in
      let f = separated_takes argument_tokens one_token argument_takes mark.Comma c.arguments logics in
      let g = (logic_arguments_take c.logics).takes kept in
      let h = (clause_takes (codes "keep") c.keep).takes end in
      omega arith;
}

new_variant_takes : (v : Option Name) → Takes (new_variant_tokens v) (new_variant_size v)
new_variant_takes None = record { takes = λ after. omega arith }
new_variant_takes (Some x) = record { takes = λ after. omega arith }

pub value_takes : (v : Value) → Takes (value_tokens v) (value_size v)
value_takes (value.New place ty variant) = record { takes = λ after. let e = (new_variant_takes variant).takes after in omega arith }
value_takes (value.Condition place c) = condition_takes c 0

abbrev Sized : Statement → Type 0
Sized s = Takes (statement_tokens s) (statement_size s)

abbrev Known : Type 0
Known = (s : Statement) × Sized s

abbrev trees : List Known → List Statement
trees ss = map (λ (e : Known). e.0) ss

each_take : (ss : List Known) (after : List TokenKind) →
    length (each (λ (one : Tokens). one) (map statement_tokens (trees ss)) after) ≡ total (map statement_size (trees ss)) + length after
each_take [] after = omega arith
each_take (s ∷ ss) after =
    let e = s.1.takes (each (λ (one : Tokens). one) (map statement_tokens (trees ss)) after) in
    let more = each_take ss after in
    omega arith

block_takes : (ss : List Known) (after : List TokenKind) →
    length (block_tokens (map statement_tokens (trees ss)) after) ≡ suc (suc (total (map statement_size (trees ss)) + length after))
block_takes ss after = let e = each_take ss (sign mark.RightBrace >> after) in omega arith

node_takes : (y : Statement-F Known) →
    Takes (statement_node (map-Statement Statement Tokens statement_tokens (map-Statement Known Statement (λ e. e.0) y)))
    (size_node (map-Statement Statement ℕ statement_size (map-Statement Known Statement (λ e. e.0) y)))
node_takes (Statement-F.Skip place) = record { takes = λ after. omega arith }
node_takes (Statement-F.If place c then None) = record {
  takes = λ after.
      let e = (condition_takes c 0).takes (sign mark.RightParen >> block_tokens (map statement_tokens (trees then)) >> after) in
      let f = block_takes then after in
      omega arith;
}
node_takes (Statement-F.If place c then (Some otherwise)) = record {
  takes = λ after.
      let last = word (codes "else") >> block_tokens (map statement_tokens (trees otherwise)) >> after in
      let e = (condition_takes c 0).takes (sign mark.RightParen >> block_tokens (map statement_tokens (trees then)) >> last) in
      let f = block_takes then last in
      let g = block_takes otherwise after in
      omega arith;
}
node_takes (Statement-F.While place c invariant body) = record {
  takes = λ after.
      let last = block_tokens (map statement_tokens (trees body)) >> after in
      let e = (condition_takes c 0).takes (sign mark.RightParen >> bracketed_tokens invariant >> last) in
      let f = (bracketed_takes invariant).takes last in
      let g = block_takes body after in
      omega arith;
}
node_takes (Statement-F.Split place b) = record { takes = λ after. let e = (bracketed_takes b).takes (sign mark.Semicolon >> after) in omega arith }
node_takes (Statement-F.Assert place b) = record { takes = λ after. let e = (bracketed_takes b).takes (sign mark.Semicolon >> after) in omega arith }
node_takes (Statement-F.Free place x) = record { takes = λ after. omega arith }
node_takes (Statement-F.Call c) = call_takes c
node_takes (Statement-F.Assign p place v) = record {
  takes = λ after.
      let last = sign mark.Semicolon >> after in
      let e = (path_takes p).takes (sign mark.Equals >> value_tokens v >> last) in
      let f = (value_takes v).takes last in
      omega arith;
}

tokens_at : (x : Statement-F Statement) → statement_tokens (roll-Statement x) ≡ statement_node (map-Statement Statement Tokens statement_tokens x)
unfolding statement_tokens
tokens_at x = fold-roll-Statement Tokens statement_node x

pub statement_takes : (s : Statement) → Takes (statement_tokens s) (statement_size s)
statement_takes = ind-Statement Sized (λ x y is.
    subst (λ (t : Tokens). Takes t (statement_size (roll-Statement x))) (sym (tokens_at x))
    (subst (λ (n : ℕ). Takes (statement_node (map-Statement Statement Tokens statement_tokens x)) n) (sym (sized_at x))
    (subst (λ (z : Statement-F Statement). Takes (statement_node (map-Statement Statement Tokens statement_tokens z))
    (size_node (map-Statement Statement ℕ statement_size z))) is (node_takes y))))

-- ---- forms

pub size_skip : (place : Pos) → statement_size (statement.Skip place) ≡ 2
unfolding roll-Statement roll
size_skip place = sized_at (Statement-F.Skip place)

pub size_if : (place : Pos) (c : Condition) (then : List Statement) →
    statement_size (statement.If place c then None) ≡ suc (suc (condition_size c 0 + suc (suc (suc (statements_size then + 0)))))
unfolding roll-Statement roll
size_if place c then = sized_at (Statement-F.If place c then None)

pub size_if_else : (place : Pos) (c : Condition) (then otherwise : List Statement) →
    statement_size (statement.If place c then (Some otherwise)) ≡ suc
    (suc (condition_size c 0 + suc (suc (suc (statements_size then + suc (suc (suc (statements_size otherwise))))))))
unfolding roll-Statement roll
size_if_else place c then otherwise = sized_at (Statement-F.If place c then (Some otherwise))

pub size_while : (place : Pos) (c : Condition) (b : Bracketed) (body : List Statement) →
    statement_size (statement.While place c b body) ≡ suc
    (suc (condition_size c 0 + suc (suc (suc (assertion_size b.assertion 0 false + suc (suc (statements_size body)))))))
unfolding roll-Statement roll
size_while place c b body = sized_at (Statement-F.While place c b body)

pub size_split : (place : Pos) (b : Bracketed) → statement_size (statement.Split place b) ≡ suc (suc (suc (suc (assertion_size b.assertion 0 false))))
unfolding roll-Statement roll
size_split place b = sized_at (Statement-F.Split place b)

pub size_assert : (place : Pos) (b : Bracketed) → statement_size (statement.Assert place b) ≡ suc (suc (suc (suc (assertion_size b.assertion 0 false))))
unfolding roll-Statement roll
size_assert place b = sized_at (Statement-F.Assert place b)

pub size_free : (place : Pos) (x : Name) → statement_size (statement.Free place x) ≡ 3
unfolding roll-Statement roll
size_free place x = sized_at (Statement-F.Free place x)

pub size_call : (c : Call) → statement_size (statement.Call c) ≡ call_size c
unfolding roll-Statement roll
size_call c = sized_at (Statement-F.Call c)

pub size_assign : (p : Path) (place : Pos) (v : Value) → statement_size (statement.Assign p place v) ≡ path_size p + suc (suc (value_size v))
unfolding roll-Statement roll
size_assign p place v = sized_at (Statement-F.Assign p place v)

pub statements_last : (ss : List Statement) (s : Statement) → statements_size (ss ++ s ∷ []) ≡ statements_size ss + statement_size s
statements_last [] s = omega arith
statements_last (t ∷ ss) s = let e = statements_last ss s in omega arith

pub logic_arguments_at_most : (xs : List Argument) → logic_argument_size xs ≤ suc (separated_size one_token xs)
logic_arguments_at_most [] = omega arith
logic_arguments_at_most (x ∷ xs) = omega arith
