-- How assertions are spelled, form by form.
use Rattle.std.proofs.Common.{◌≡◌, ℕ, nat_lt, Bool, true, false, List, [], ◌∷◌, length, map, codes, refl, sym, ap, ◌∙◌}
use Rattle.pale_text.specs.declared.place.Pos.{Pos}
use Rattle.pale_text.specs.declared.token.Mark.{Mark}
use Rattle.pale_text.specs.declared.token.Mark.TheVariants as mark
use Rattle.pale_text.specs.declared.token.TokenKind.{TokenKind}
use Rattle.pale_syntax.specs.declared.tree.names.Name.{Name}
use Rattle.pale_syntax.specs.declared.tree.names.Path.{Path}
use Rattle.pale_syntax.specs.declared.tree.names.Term.{Term}
use Rattle.pale_syntax.specs.declared.tree.route.Route.{Route}
use Rattle.pale_syntax.specs.declared.tree.assertion.Quantifier.{Quantifier}
use Rattle.pale_syntax.specs.declared.tree.assertion.Assertion.{Assertion, roll-Assertion}
use Rattle.pale_syntax.specs.declared.tree.assertion.Assertion.TheVariants as assertion
use Rattle.pale_syntax.specs.declared.tree.assertion.Assertion.TheVariants.{rolls-True, rolls-False, rolls-Truth, rolls-Same}
use Rattle.pale_syntax.specs.declared.tree.assertion.Assertion.TheVariants.{rolls-Differ, rolls-Member, rolls-Subset, rolls-Walk}
use Rattle.pale_syntax.specs.declared.tree.assertion.Assertion.TheVariants.{rolls-Is, rolls-Use, rolls-Not, rolls-And, rolls-Or}
use Rattle.pale_syntax.specs.declared.tree.assertion.Assertion.TheVariants.{rolls-Imp, rolls-Iff, rolls-Quantified}
use Rattle.pale_syntax.specs.declared.tree.assertion.Assertion.TheOpen.{Assertion-F}
use Rattle.pale_syntax.specs.declared.tree.assertion.Assertion.TheFolds.{map-Assertion, fold-roll-Assertion}
use Rattle.pale_print.specs.Tokens.{◌>>◌, sign, word, path_tokens}
use Rattle.pale_print.specs.AssertionTokens.{Followed, Operand, grouped, is_followed, operands, chained, implied, quantified, assertion_node, assertion_tokens}
use Rattle.pale_print.specs.Writing.{compared, variant_tested, opening, closing, inside, goes_on, related, walked, used}
use Rattle.pale_print.specs.Writing.{assertion_operands, assertion_chain, denied, implication, governed}

of_form : (x : Assertion-F Assertion) → assertion_tokens (roll-Assertion x) ≡ assertion_node (map-Assertion Assertion Operand assertion_tokens x)
unfolding assertion_tokens
of_form x = fold-roll-Assertion Operand assertion_node x

form : (a : Assertion) (x : Assertion-F Assertion) → a ≡ roll-Assertion x →
    assertion_tokens a ≡ assertion_node (map-Assertion Assertion Operand assertion_tokens x)
form a x is = ap assertion_tokens is ∙ of_form x

-- ---- what stands alone

pub of-True : assertion_tokens assertion.True ≡ (λ asked followed. word (codes "true"))
of-True = form _ Assertion-F.True (sym rolls-True)

pub of-False : assertion_tokens assertion.False ≡ (λ asked followed. word (codes "false"))
of-False = form _ Assertion-F.False (sym rolls-False)

pub of-Truth : (p : Path) → assertion_tokens (assertion.Truth p) ≡ (λ asked followed. path_tokens p)
of-Truth p = form _ (Assertion-F.Truth p) (sym (rolls-Truth p))

pub of-Same : (t : Term) (place : Pos) (u : Term) → assertion_tokens (assertion.Same t place u) ≡ (λ asked followed. compared t mark.Equals u)
of-Same t place u = form _ (Assertion-F.Same t place u) (sym (rolls-Same t place u))

pub of-Differ : (t : Term) (place : Pos) (u : Term) → assertion_tokens (assertion.Differ t place u) ≡ (λ asked followed. compared t mark.NotEqual u)
of-Differ t place u = form _ (Assertion-F.Differ t place u) (sym (rolls-Differ t place u))

pub of-Member : (t : Term) (place : Pos) (set : Name) → assertion_tokens (assertion.Member t place set) ≡ (λ asked followed. related t (codes "in") set)
of-Member t place set = form _ (Assertion-F.Member t place set) (sym (rolls-Member t place set))

pub of-Subset : (t : Term) (place : Pos) (set : Name) → assertion_tokens (assertion.Subset t place set) ≡ (λ asked followed. related t (codes "sub") set)
of-Subset t place set = form _ (Assertion-F.Subset t place set) (sym (rolls-Subset t place set))

pub of-Walk : (t : Term) (place : Pos) (r : Route) (u : Term) → assertion_tokens (assertion.Walk t place r u) ≡ (λ asked followed. walked t r u)
of-Walk t place r u = form _ (Assertion-F.Walk t place r u) (sym (rolls-Walk t place r u))

pub of-Is : (t : Term) (place : Pos) (variant : Name) → assertion_tokens (assertion.Is t place variant) ≡ (λ asked followed. variant_tested t variant)
of-Is t place variant = form _ (Assertion-F.Is t place variant) (sym (rolls-Is t place variant))

pub of-Use : (predicate : Name) (arguments : List Path) → assertion_tokens (assertion.Use predicate arguments) ≡ (λ asked followed. used predicate arguments)
of-Use predicate arguments = form _ (Assertion-F.Use predicate arguments) (sym (rolls-Use predicate arguments))

pub of-Not : (place : Pos) (inner : Assertion) →
    assertion_tokens (assertion.Not place inner) ≡ (λ asked. denied inner)
of-Not place inner = form _ (Assertion-F.Not place inner) (sym (rolls-Not place inner))

-- ---- groups and chains

-- what is in parentheses where they are needed stands between them
between : (needed : Bool) (inner : Followed) (followed : Bool) (after : List TokenKind) →
    grouped needed inner followed after ≡ (opening needed >> inner (inside needed followed) >> closing needed >> after)
between true inner followed after = refl
between false inner followed after = refl

same_followed : (others : List Assertion) (followed : Bool) →
    is_followed (map assertion_tokens others) followed ≡ goes_on (length others) followed
same_followed [] followed = refl
same_followed (one ∷ others) followed = refl

-- the operands of a chain, each behind its operator
same_operands : (mark : Mark) (asked : ℕ) (others : List Assertion) (followed : Bool) (after : List TokenKind) →
    operands mark asked (map assertion_tokens others) followed after ≡ assertion_operands mark asked others followed after
same_operands mark asked [] followed after = refl
same_operands mark asked (one ∷ others) followed after =
    ap (λ before. sign mark >> assertion_tokens one asked before >> operands mark asked (map assertion_tokens others) followed >> after)
    (same_followed others followed)
    ∙ ap (λ rest. sign mark >> assertion_tokens one asked (goes_on (length others) followed) >> rest)
    (same_operands mark asked others followed after)

same_chain : (needed : Bool) (mark : Mark) (asked : ℕ) (first : Assertion) (others : List Assertion) (followed : Bool) (after : List TokenKind) →
    grouped needed (chained mark asked (assertion_tokens first) (map assertion_tokens others)) followed after
    ≡ assertion_chain needed mark asked first others followed after
same_chain needed mark asked first others followed after =
    between needed (chained mark asked (assertion_tokens first) (map assertion_tokens others)) followed after
    ∙ ap
    (λ before. opening needed >> assertion_tokens first asked before >> operands mark asked (map assertion_tokens others)
    (inside needed followed) >> closing needed >> after)
    (same_followed others (inside needed followed))
    ∙ ap (λ rest. opening needed >> assertion_tokens first asked (goes_on (length others) (inside needed followed)) >> rest)
    (same_operands mark asked others (inside needed followed) (closing needed after))

pub of-And : (first : Assertion) (others : List Assertion) →
    assertion_tokens (assertion.And first others) ≡ (λ asked. assertion_chain (nat_lt 3 asked) mark.Ampersand 4 first others)
of-And first others =
    form _ (Assertion-F.And first others) (sym (rolls-And first others))
    ∙ (λ i asked followed after. same_chain (nat_lt 3 asked) mark.Ampersand 4 first others followed after i)

pub of-Or : (first : Assertion) (others : List Assertion) →
    assertion_tokens (assertion.Or first others) ≡ (λ asked. assertion_chain (nat_lt 2 asked) mark.Bar 3 first others)
of-Or first others =
    form _ (Assertion-F.Or first others) (sym (rolls-Or first others))
    ∙ (λ i asked followed after. same_chain (nat_lt 2 asked) mark.Bar 3 first others followed after i)

pub of-Iff : (first : Assertion) (others : List Assertion) →
    assertion_tokens (assertion.Iff first others) ≡ (λ asked. assertion_chain (nat_lt 0 asked) mark.Equivalent 1 first others)
of-Iff first others =
    form _ (Assertion-F.Iff first others) (sym (rolls-Iff first others))
    ∙ (λ i asked followed after. same_chain (nat_lt 0 asked) mark.Equivalent 1 first others followed after i)

pub of-Imp : (left : Assertion) (place : Pos) (right : Assertion) →
    assertion_tokens (assertion.Imp left place right) ≡ (λ asked. implication (nat_lt 1 asked) left right)
of-Imp left place right =
    form _ (Assertion-F.Imp left place right) (sym (rolls-Imp left place right))
    ∙ (λ i asked followed after. between (nat_lt 1 asked) (implied (assertion_tokens left) (assertion_tokens right)) followed after i)

same_governed : (q : Quantifier) (inner : Assertion) (followed : Bool) (after : List TokenKind) →
    grouped followed (quantified q (assertion_tokens inner)) followed after ≡ governed q inner followed after
same_governed q inner true after = refl
same_governed q inner false after = refl

pub of-Quantified : (q : Quantifier) (inner : Assertion) → assertion_tokens (assertion.Quantified q inner) ≡ (λ asked. governed q inner)
of-Quantified q inner =
    form _ (Assertion-F.Quantified q inner) (sym (rolls-Quantified q inner)) ∙ (λ i asked followed after. same_governed q inner followed after i)

-- ---- the same at parts that are lent

-- a chain whose parts and flags were computed one by one
lent_chain : (needed : Bool) (mark : Mark) (asked : ℕ) (first lent : Assertion) (others slice : List Assertion) (followed last before : Bool) (count : ℕ) →
    lent ≡ first → slice ≡ others → last ≡ inside needed followed → count ≡ length others → before ≡ goes_on count last →
    (after : List TokenKind) →
    assertion_chain needed mark asked first others followed after
    ≡ (opening needed >> assertion_tokens lent asked before >> assertion_operands mark asked slice last >> closing needed >> after)
lent_chain needed mark asked first lent others slice followed last before count one rest last_is count_is before_is after =
    let flag : before ≡ goes_on (length others) (inside needed followed) = before_is ∙ (λ i. goes_on (count_is i) (last_is i)) in
    λ i. opening needed >> assertion_tokens (sym one i) asked (sym flag i) >> assertion_operands mark asked (sym rest i)
    (sym last_is i) >> closing needed >> after

pub at-And : (a first lent : Assertion) (others slice : List Assertion) (asked : ℕ) (needed followed last before : Bool) (count : ℕ) →
    a ≡ assertion.And first others → lent ≡ first → slice ≡ others → needed ≡ nat_lt 3 asked → last ≡ inside needed followed →
    count ≡ length others → before ≡ goes_on count last → (after : List TokenKind) →
    assertion_tokens a asked followed after
    ≡ (opening needed >> assertion_tokens lent 4 before >> assertion_operands mark.Ampersand 4 slice last >> closing needed >> after)
at-And a first lent others slice asked needed followed last before count is one rest need last_is count_is before_is after =
    (λ i. (ap assertion_tokens is ∙ of-And first others) i asked followed after)
    ∙ (λ i. assertion_chain (sym need i) mark.Ampersand 4 first others followed after)
    ∙ lent_chain needed mark.Ampersand 4 first lent others slice followed last before count one rest last_is count_is before_is after

pub at-Or : (a first lent : Assertion) (others slice : List Assertion) (asked : ℕ) (needed followed last before : Bool) (count : ℕ) →
    a ≡ assertion.Or first others → lent ≡ first → slice ≡ others → needed ≡ nat_lt 2 asked → last ≡ inside needed followed →
    count ≡ length others → before ≡ goes_on count last → (after : List TokenKind) →
    assertion_tokens a asked followed after
    ≡ (opening needed >> assertion_tokens lent 3 before >> assertion_operands mark.Bar 3 slice last >> closing needed >> after)
at-Or a first lent others slice asked needed followed last before count is one rest need last_is count_is before_is after =
    (λ i. (ap assertion_tokens is ∙ of-Or first others) i asked followed after)
    ∙ (λ i. assertion_chain (sym need i) mark.Bar 3 first others followed after)
    ∙ lent_chain needed mark.Bar 3 first lent others slice followed last before count one rest last_is count_is before_is after

pub at-Iff : (a first lent : Assertion) (others slice : List Assertion) (asked : ℕ) (needed followed last before : Bool) (count : ℕ) →
    a ≡ assertion.Iff first others → lent ≡ first → slice ≡ others → needed ≡ nat_lt 0 asked → last ≡ inside needed followed →
    count ≡ length others → before ≡ goes_on count last → (after : List TokenKind) →
    assertion_tokens a asked followed after
    ≡ (opening needed >> assertion_tokens lent 1 before >> assertion_operands mark.Equivalent 1 slice last >> closing needed >> after)
at-Iff a first lent others slice asked needed followed last before count is one rest need last_is count_is before_is after =
    (λ i. (ap assertion_tokens is ∙ of-Iff first others) i asked followed after)
    ∙ (λ i. assertion_chain (sym need i) mark.Equivalent 1 first others followed after)
    ∙ lent_chain needed mark.Equivalent 1 first lent others slice followed last before count one rest last_is count_is before_is after

pub at-Imp : (a left lent right given : Assertion) (place : Pos) (asked : ℕ) (needed followed last : Bool) →
    a ≡ assertion.Imp left place right → lent ≡ left → given ≡ right → needed ≡ nat_lt 1 asked → last ≡ inside needed followed →
    (after : List TokenKind) →
    assertion_tokens a asked followed after
    ≡ (opening needed >> assertion_tokens lent 2 true >> sign mark.Implies >> assertion_tokens given 1 last >> closing needed >> after)
at-Imp a left lent right given place asked needed followed last is one other need last_is after =
    (λ i. (ap assertion_tokens is ∙ of-Imp left place right) i asked followed after)
    ∙ (λ i. implication (sym need i) left right followed after)
    ∙ (λ i. opening needed >> assertion_tokens (sym one i) 2 true >> sign mark.Implies >>
    assertion_tokens (sym other i) 1 (sym last_is i) >> closing needed >> after)

pub at-Not : (a inner : Assertion) (place : Pos) → a ≡ assertion.Not place inner → assertion_tokens a ≡ (λ asked. denied inner)
at-Not a inner place is = ap assertion_tokens is ∙ of-Not place inner

pub at-Quantified : (a inner : Assertion) (q : Quantifier) → a ≡ assertion.Quantified q inner → assertion_tokens a ≡ (λ asked. governed q inner)
at-Quantified a inner q is = ap assertion_tokens is ∙ of-Quantified q inner

-- each form
pub ruleset assertion_forms =
    (of-True, of-False, of-Truth, of-Same, of-Differ, of-Member, of-Subset, of-Walk, of-Is, of-Use, of-Not, of-And, of-Or, of-Imp, of-Iff, of-Quantified)
