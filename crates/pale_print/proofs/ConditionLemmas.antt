-- How conditions are spelled, form by form.
use Rattle.std.proofs.Common.{◌≡◌, ℕ, nat_lt, Bool, List, [], ◌∷◌, map, codes, refl, sym, ap, ◌∙◌}
use Rattle.pale_text.specs.declared.place.Pos.{Pos}
use Rattle.pale_text.specs.declared.token.Mark.{Mark}
use Rattle.pale_text.specs.declared.token.Mark.TheVariants as mark
use Rattle.pale_text.specs.declared.token.TokenKind.{TokenKind}
use Rattle.pale_syntax.specs.declared.tree.names.Name.{Name}
use Rattle.pale_syntax.specs.declared.tree.names.Term.{Term}
use Rattle.pale_syntax.specs.declared.tree.condition.Condition.{Condition, roll-Condition}
use Rattle.pale_syntax.specs.declared.tree.condition.Condition.TheVariants as condition
use Rattle.pale_syntax.specs.declared.tree.condition.Condition.TheVariants.{rolls-True, rolls-False, rolls-Truth, rolls-Same}
use Rattle.pale_syntax.specs.declared.tree.condition.Condition.TheVariants.{rolls-Differ, rolls-Is, rolls-Not, rolls-And}
use Rattle.pale_syntax.specs.declared.tree.condition.Condition.TheVariants.{rolls-Or}
use Rattle.pale_syntax.specs.declared.tree.condition.Condition.TheOpen.{Condition-F}
use Rattle.pale_syntax.specs.declared.tree.condition.Condition.TheFolds.{map-Condition, fold-roll-Condition}
use Rattle.pale_print.specs.Tokens.{◌>>◌, sign, word, each_behind, term_tokens}
use Rattle.pale_print.specs.RouteTokens.{Placed, grouped, chained}
use Rattle.pale_print.specs.ConditionTokens.{condition_node, condition_tokens}
use Rattle.pale_print.specs.Writing.{compared, variant_tested, opening, closing, condition_operands, condition_chain}
use Rattle.pale_print.proofs.RouteLemmas.{between}

of_form : (x : Condition-F Condition) → condition_tokens (roll-Condition x) ≡ condition_node (map-Condition Condition Placed condition_tokens x)
unfolding condition_tokens
of_form x = fold-roll-Condition Placed condition_node x

form : (c : Condition) (x : Condition-F Condition) → c ≡ roll-Condition x →
    condition_tokens c ≡ condition_node (map-Condition Condition Placed condition_tokens x)
form c x is = ap condition_tokens is ∙ of_form x

pub of-True : (place : Pos) → condition_tokens (condition.True place) ≡ (λ asked. word (codes "true"))
of-True place = form _ (Condition-F.True place) (sym (rolls-True place))

pub of-False : (place : Pos) → condition_tokens (condition.False place) ≡ (λ asked. word (codes "false"))
of-False place = form _ (Condition-F.False place) (sym (rolls-False place))

pub of-Truth : (t : Term) → condition_tokens (condition.Truth t) ≡ (λ asked. term_tokens t)
of-Truth t = form _ (Condition-F.Truth t) (sym (rolls-Truth t))

pub of-Same : (t : Term) (place : Pos) (u : Term) → condition_tokens (condition.Same t place u) ≡ (λ asked. compared t mark.SameAs u)
of-Same t place u = form _ (Condition-F.Same t place u) (sym (rolls-Same t place u))

pub of-Differ : (t : Term) (place : Pos) (u : Term) → condition_tokens (condition.Differ t place u) ≡ (λ asked. compared t mark.NotSame u)
of-Differ t place u = form _ (Condition-F.Differ t place u) (sym (rolls-Differ t place u))

pub of-Is : (t : Term) (place : Pos) (variant : Name) → condition_tokens (condition.Is t place variant) ≡ (λ asked. variant_tested t variant)
of-Is t place variant = form _ (Condition-F.Is t place variant) (sym (rolls-Is t place variant))

pub of-Not : (place : Pos) (inner : Condition) →
    condition_tokens (condition.Not place inner) ≡ (λ asked after. sign mark.Bang >> condition_tokens inner 2 >> after)
of-Not place inner = form _ (Condition-F.Not place inner) (sym (rolls-Not place inner))

-- the operands of a chain, each behind its operator
same_operands : (mark : Mark) (asked : ℕ) (others : List Condition) (after : List TokenKind) →
    each_behind mark (λ other. other asked) (map condition_tokens others) after ≡ condition_operands mark asked others after
same_operands mark asked [] after = refl
same_operands mark asked (one ∷ others) after =
    ap (λ rest. sign mark >> condition_tokens one asked >> rest) (same_operands mark asked others after)

same_chain : (needed : Bool) (mark : Mark) (asked : ℕ) (first : Condition) (others : List Condition) (after : List TokenKind) →
    grouped needed (chained mark asked (condition_tokens first) (map condition_tokens others)) after ≡ condition_chain needed mark asked first others after
same_chain needed mark asked first others after =
    between needed (chained mark asked (condition_tokens first) (map condition_tokens others)) after
    ∙ ap (λ rest. opening needed (condition_tokens first asked rest)) (same_operands mark asked others (closing needed after))

pub of-And : (first : Condition) (others : List Condition) →
    condition_tokens (condition.And first others) ≡ (λ asked. condition_chain (nat_lt 1 asked) mark.AndAlso 2 first others)
of-And first others =
    form _ (Condition-F.And first others) (sym (rolls-And first others)) ∙ (λ i asked after. same_chain (nat_lt 1 asked) mark.AndAlso 2 first others after i)

pub of-Or : (first : Condition) (others : List Condition) →
    condition_tokens (condition.Or first others) ≡ (λ asked. condition_chain (nat_lt 0 asked) mark.OrElse 1 first others)
of-Or first others =
    form _ (Condition-F.Or first others) (sym (rolls-Or first others)) ∙ (λ i asked after. same_chain (nat_lt 0 asked) mark.OrElse 1 first others after i)

-- the same at parts that are lent

pub at-Not : (c inner lent : Condition) (place : Pos) → c ≡ condition.Not place inner → lent ≡ inner →
    condition_tokens c ≡ (λ asked after. sign mark.Bang >> condition_tokens lent 2 >> after)
at-Not c inner lent place is one = ap condition_tokens (is ∙ (λ i. condition.Not place (sym one i))) ∙ of-Not place lent

pub at-And : (c first lent : Condition) (others slice : List Condition) (asked : ℕ) (needed : Bool) → c ≡ condition.And first others → lent ≡ first →
    slice ≡ others → needed ≡ nat_lt 1 asked → condition_tokens c asked ≡ condition_chain needed mark.AndAlso 2 lent slice
at-And c first lent others slice asked needed is one rest need =
    (λ i. (ap condition_tokens (is ∙ (λ i. condition.And (sym one i) (sym rest i))) ∙ of-And lent slice) i asked)
    ∙ (λ i. condition_chain (sym need i) mark.AndAlso 2 lent slice)

pub at-Or : (c first lent : Condition) (others slice : List Condition) (asked : ℕ) (needed : Bool) → c ≡ condition.Or first others → lent ≡ first →
    slice ≡ others → needed ≡ nat_lt 0 asked → condition_tokens c asked ≡ condition_chain needed mark.OrElse 1 lent slice
at-Or c first lent others slice asked needed is one rest need =
    (λ i. (ap condition_tokens (is ∙ (λ i. condition.Or (sym one i) (sym rest i))) ∙ of-Or lent slice) i asked)
    ∙ (λ i. condition_chain (sym need i) mark.OrElse 1 lent slice)

-- each form
pub ruleset condition_forms = (of-True, of-False, of-Truth, of-Same, of-Differ, of-Is, of-Not, of-And, of-Or)
