-- How routes are spelled, form by form.
use Rattle.std.proofs.Common.{◌≡◌, ℕ, nat_lt, Bool, true, false, List, [], ◌∷◌, map, codes, refl, sym, ap, ◌∙◌}
use Rattle.pale_text.specs.declared.place.Pos.{Pos}
use Rattle.pale_text.specs.declared.token.Mark.{Mark}
use Rattle.pale_text.specs.declared.token.Mark.TheVariants as mark
use Rattle.pale_text.specs.declared.token.TokenKind.{TokenKind}
use Rattle.pale_syntax.specs.declared.tree.names.Name.{Name}
use Rattle.pale_syntax.specs.declared.tree.route.Route.{Route, roll-Route}
use Rattle.pale_syntax.specs.declared.tree.route.Route.TheVariants.{Down, Up, UpAny, Root, Leaf, IsType, IsVariant, IsBool, Then}
use Rattle.pale_syntax.specs.declared.tree.route.Route.TheVariants.{Or, Star, rolls-Down, rolls-Up, rolls-UpAny, rolls-Root}
use Rattle.pale_syntax.specs.declared.tree.route.Route.TheVariants.{rolls-Leaf, rolls-IsType, rolls-IsVariant, rolls-IsBool}
use Rattle.pale_syntax.specs.declared.tree.route.Route.TheVariants.{rolls-Then, rolls-Or, rolls-Star}
use Rattle.pale_syntax.specs.declared.tree.route.Route.TheOpen.{Route-F}
use Rattle.pale_syntax.specs.declared.tree.route.Route.TheFolds.{map-Route, fold-roll-Route}
use Rattle.pale_print.specs.Tokens.{Tokens, ◌>>◌, sign, word, each_behind, typed_tokens, name_tokens}
use Rattle.pale_print.specs.RouteTokens.{Placed, grouped, chained, stars, bool_test, route_node, route_tokens}
use Rattle.pale_print.specs.Writing.{opening, closing, route_operands, route_chain, repeated}

of_form : (x : Route-F Route) → route_tokens (roll-Route x) ≡ route_node (map-Route Route Placed route_tokens x)
unfolding route_tokens
of_form x = fold-roll-Route Placed route_node x

form : (r : Route) (x : Route-F Route) → r ≡ roll-Route x → route_tokens r ≡ route_node (map-Route Route Placed route_tokens x)
form r x is = ap route_tokens is ∙ of_form x

pub of-Down : (f : Name) → route_tokens (Down f) ≡ (λ asked. name_tokens f)
of-Down f = form _ (Route-F.Down f) (sym (rolls-Down f))

pub of-Up : (f : Name) → route_tokens (Up f) ≡ (λ asked after. sign mark.Caret >> name_tokens f >> after)
of-Up f = form _ (Route-F.Up f) (sym (rolls-Up f))

pub of-UpAny : route_tokens UpAny ≡ (λ asked. sign mark.Caret)
of-UpAny = form _ Route-F.UpAny (sym rolls-UpAny)

pub of-Root : route_tokens Root ≡ (λ asked. word (codes "root"))
of-Root = form _ Route-F.Root (sym rolls-Root)

pub of-Leaf : route_tokens Leaf ≡ (λ asked. sign mark.Dollar)
of-Leaf = form _ Route-F.Leaf (sym rolls-Leaf)

pub of-IsType : (ty : Name) → route_tokens (IsType ty) ≡ (λ asked after. sign mark.At >> name_tokens ty >> after)
of-IsType ty = form _ (Route-F.IsType ty) (sym (rolls-IsType ty))

pub of-IsVariant : (ty v : Name) → route_tokens (IsVariant ty v) ≡ (λ asked after. sign mark.At >> typed_tokens ty v >> after)
of-IsVariant ty v = form _ (Route-F.IsVariant ty v) (sym (rolls-IsVariant ty v))

pub of-IsBool : (f : Name) (value : Bool) → route_tokens (IsBool f value) ≡ (λ asked after. bool_test value >> name_tokens f >> after)
of-IsBool f value = form _ (Route-F.IsBool f value) (sym (rolls-IsBool f value))

-- the operands of a chain, each behind its operator
same_operands : (mark : Mark) (asked : ℕ) (others : List Route) (after : List TokenKind) →
    each_behind mark (λ other. other asked) (map route_tokens others) after ≡ route_operands mark asked others after
same_operands mark asked [] after = refl
same_operands mark asked (one ∷ others) after =
    ap (λ rest. sign mark >> route_tokens one asked >> rest) (same_operands mark asked others after)

-- what is in parentheses where they are needed stands between them
pub between : (needed : Bool) (inner : Tokens) (after : List TokenKind) →
    grouped needed inner after ≡ (opening needed >> inner >> closing needed >> after)
between true inner after = refl
between false inner after = refl

same_chain : (needed : Bool) (mark : Mark) (asked : ℕ) (first : Route) (others : List Route) (after : List TokenKind) →
    grouped needed (chained mark asked (route_tokens first) (map route_tokens others)) after ≡ route_chain needed mark asked first others after
same_chain needed mark asked first others after =
    between needed (chained mark asked (route_tokens first) (map route_tokens others)) after
    ∙ ap (λ rest. opening needed (route_tokens first asked rest)) (same_operands mark asked others (closing needed after))

pub of-Then : (first : Route) (others : List Route) →
    route_tokens (Then first others) ≡ (λ asked. route_chain (nat_lt 1 asked) mark.Dot 2 first others)
of-Then first others =
    form _ (Route-F.Then first others) (sym (rolls-Then first others)) ∙ (λ i asked after. same_chain (nat_lt 1 asked) mark.Dot 2 first others after i)

pub of-Or : (first : Route) (others : List Route) →
    route_tokens (Or first others) ≡ (λ asked. route_chain (nat_lt 0 asked) mark.Plus 1 first others)
of-Or first others =
    form _ (Route-F.Or first others) (sym (rolls-Or first others)) ∙ (λ i asked after. same_chain (nat_lt 0 asked) mark.Plus 1 first others after i)

pub of-Star : (inner : Route) (places : List Pos) →
    route_tokens (Star inner places)
    ≡ (λ asked. repeated (nat_lt 2 asked) inner places)
of-Star inner places =
    form _ (Route-F.Star inner places) (sym (rolls-Star inner places))
    ∙ (λ i asked after. between (nat_lt 2 asked) (λ then. route_tokens inner 3 (stars places then)) after i)

-- the same at parts that are lent

pub at-Then : (r first lent : Route) (others slice : List Route) (asked : ℕ) (needed : Bool) → r ≡ Then first others → lent ≡ first →
    slice ≡ others → needed ≡ nat_lt 1 asked → route_tokens r asked ≡ route_chain needed mark.Dot 2 lent slice
at-Then r first lent others slice asked needed is one rest need =
    (λ i. (ap route_tokens (is ∙ (λ i. Then (sym one i) (sym rest i))) ∙ of-Then lent slice) i asked) ∙ (λ i. route_chain (sym need i) mark.Dot 2 lent slice)

pub at-Or : (r first lent : Route) (others slice : List Route) (asked : ℕ) (needed : Bool) → r ≡ Or first others → lent ≡ first →
    slice ≡ others → needed ≡ nat_lt 0 asked → route_tokens r asked ≡ route_chain needed mark.Plus 1 lent slice
at-Or r first lent others slice asked needed is one rest need =
    (λ i. (ap route_tokens (is ∙ (λ i. Or (sym one i) (sym rest i))) ∙ of-Or lent slice) i asked) ∙ (λ i. route_chain (sym need i) mark.Plus 1 lent slice)

-- each form
pub ruleset route_forms = (of-Down, of-Up, of-UpAny, of-Root, of-Leaf, of-IsType, of-IsVariant, of-IsBool, of-Then, of-Or, of-Star)
