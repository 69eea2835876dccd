-- How statements are spelled, form by form.
use Rattle.std.proofs.Common.{◌≡◌, List, [], ◌∷◌, map, Option, Some, None, codes, refl, sym, ap, ◌∙◌}
use Rattle.pale_text.specs.declared.place.Pos.{Pos}
use Rattle.pale_text.specs.declared.token.Mark.TheVariants as mark
use Rattle.pale_text.specs.declared.token.TokenKind.{TokenKind}
use Rattle.pale_syntax.specs.declared.tree.names.Name.{Name}
use Rattle.pale_syntax.specs.declared.tree.names.Path.{Path}
use Rattle.pale_syntax.specs.declared.tree.condition.Condition.{Condition}
use Rattle.pale_syntax.specs.declared.tree.assertion.Bracketed.{Bracketed}
use Rattle.pale_syntax.specs.declared.tree.statement.Call.{Call}
use Rattle.pale_syntax.specs.declared.tree.statement.Value.{Value}
use Rattle.pale_syntax.specs.declared.tree.statement.Statement.{Statement, roll-Statement}
use Rattle.pale_syntax.specs.declared.tree.statement.Statement.TheVariants as statement
use Rattle.pale_syntax.specs.declared.tree.statement.Statement.TheVariants.{rolls-Skip, rolls-If, rolls-While, rolls-Split}
use Rattle.pale_syntax.specs.declared.tree.statement.Statement.TheVariants.{rolls-Assert, rolls-Free, rolls-Call, rolls-Assign}
use Rattle.pale_syntax.specs.declared.tree.statement.Statement.TheOpen.{Statement-F}
use Rattle.pale_syntax.specs.declared.tree.statement.Statement.TheFolds.{map-Statement, fold-roll-Statement}
use Rattle.pale_print.specs.Tokens.{Tokens, ◌>>◌, sign, word, each}
use Rattle.pale_print.specs.AssertionTokens.{bracketed_tokens}
use Rattle.pale_print.specs.StatementTokens.{call_tokens, block_tokens, statement_node, statement_tokens}
use Rattle.pale_print.specs.Writing.{tested, skipped, said, freed, assigned, statements_tokens, braced}

of_form : (x : Statement-F Statement) → statement_tokens (roll-Statement x) ≡ statement_node (map-Statement Statement Tokens statement_tokens x)
unfolding statement_tokens
of_form x = fold-roll-Statement Tokens statement_node x

form : (s : Statement) (x : Statement-F Statement) → s ≡ roll-Statement x →
    statement_tokens s ≡ statement_node (map-Statement Statement Tokens statement_tokens x)
form s x is = ap statement_tokens is ∙ of_form x

pub of-Skip : (place : Pos) → statement_tokens (statement.Skip place) ≡ skipped
of-Skip place = form _ (Statement-F.Skip place) (sym (rolls-Skip place))

pub of-Split : (place : Pos) (b : Bracketed) → statement_tokens (statement.Split place b) ≡ said (codes "split") b
of-Split place b = form _ (Statement-F.Split place b) (sym (rolls-Split place b))

pub of-Assert : (place : Pos) (b : Bracketed) → statement_tokens (statement.Assert place b) ≡ said (codes "assert") b
of-Assert place b = form _ (Statement-F.Assert place b) (sym (rolls-Assert place b))

pub of-Free : (place : Pos) (x : Name) → statement_tokens (statement.Free place x) ≡ freed x
of-Free place x = form _ (Statement-F.Free place x) (sym (rolls-Free place x))

pub of-Call : (c : Call) → statement_tokens (statement.Call c) ≡ call_tokens c
of-Call c = form _ (Statement-F.Call c) (sym (rolls-Call c))

pub of-Assign : (p : Path) (place : Pos) (v : Value) → statement_tokens (statement.Assign p place v) ≡ assigned p v
of-Assign p place v = form _ (Statement-F.Assign p place v) (sym (rolls-Assign p place v))

-- ---- blocks

same_statements : (statements : List Statement) (after : List TokenKind) →
    each (λ one. one) (map statement_tokens statements) after ≡ statements_tokens statements after
same_statements [] after = refl
same_statements (one ∷ others) after = ap (statement_tokens one) (same_statements others after)

same_block : (statements : List Statement) (after : List TokenKind) →
    block_tokens (map statement_tokens statements) after ≡ braced statements after
same_block statements after = ap (λ rest. sign mark.LeftBrace >> rest) (same_statements statements (sign mark.RightBrace after))

pub of-While : (place : Pos) (c : Condition) (invariant : Bracketed) (body : List Statement) →
    statement_tokens (statement.While place c invariant body)
    ≡ (λ after. tested (codes "while") c >> bracketed_tokens invariant >> braced body >> after)
of-While place c invariant body =
    form _ (Statement-F.While place c invariant body) (sym (rolls-While place c invariant body))
    ∙ (λ i after. tested (codes "while") c >> bracketed_tokens invariant >> same_block body after i)

pub of-If_alone : (place : Pos) (c : Condition) (then : List Statement) →
    statement_tokens (statement.If place c then None) ≡ (λ after. tested (codes "if") c >> braced then >> after)
of-If_alone place c then =
    form _ (Statement-F.If place c then None) (sym (rolls-If place c then None))
    ∙ (λ i after. tested (codes "if") c >> same_block then after i)

pub of-If_else : (place : Pos) (c : Condition) (then other : List Statement) →
    statement_tokens (statement.If place c then (Some other))
    ≡ (λ after. tested (codes "if") c >> braced then >> word (codes "else") >> braced other >> after)
of-If_else place c then other =
    form _ (Statement-F.If place c then (Some other)) (sym (rolls-If place c then (Some other)))
    ∙ (λ i after. tested (codes "if") c >> same_block then (word (codes "else") >> block_tokens (map statement_tokens other) >> after) i)
    ∙ (λ i after. tested (codes "if") c >> braced then >> word (codes "else") >> same_block other after i)

-- the same at parts that are lent

pub at-While : (s : Statement) (place : Pos) (c : Condition) (invariant : Bracketed) (body slice : List Statement) →
    s ≡ statement.While place c invariant body → slice ≡ body →
    statement_tokens s ≡ (λ after. tested (codes "while") c >> bracketed_tokens invariant >> braced slice >> after)
at-While s place c invariant body slice is rest =
    ap statement_tokens (is ∙ (λ i. statement.While place c invariant (sym rest i))) ∙ of-While place c invariant slice

pub at-If_alone : (s : Statement) (place : Pos) (c : Condition) (then slice : List Statement) (otherwise : Option (List Statement)) →
    s ≡ statement.If place c then otherwise → slice ≡ then → otherwise ≡ None →
    statement_tokens s ≡ (λ after. tested (codes "if") c >> braced slice >> after)
at-If_alone s place c then slice otherwise is rest none =
    ap statement_tokens (is ∙ (λ i. statement.If place c (sym rest i) (none i))) ∙ of-If_alone place c slice

pub at-If_else : (s : Statement) (place : Pos) (c : Condition) (then slice other lent : List Statement) (otherwise : Option (List Statement)) →
    s ≡ statement.If place c then otherwise → slice ≡ then → otherwise ≡ Some other → lent ≡ other →
    statement_tokens s ≡ (λ after. tested (codes "if") c >> braced slice >> word (codes "else") >> braced lent >> after)
at-If_else s place c then slice other lent otherwise is rest some given =
    ap statement_tokens (is ∙ (λ i. statement.If place c (sym rest i) (some i)) ∙ (λ i. statement.If place c slice (Some (sym given i))))
    ∙ of-If_else place c slice lent

-- each form but those with blocks
pub ruleset statement_forms = (of-Skip, of-Split, of-Assert, of-Free, of-Call, of-Assign)
