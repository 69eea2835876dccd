-- How many tokens an assertion has at each place.
use Rattle.std.proofs.Common.{◌≡◌, ℕ, suc, ◌+◌, ◌≤◌, nat_lt, Bool, true, false, List, [], ◌∷◌, ◌++◌, length, map, refl, sym, ap, subst, arith}
use Rattle.std.specs.Prelude.{codes}
use Rattle.pale_text.specs.declared.place.Pos.{Pos}
use Rattle.pale_text.specs.declared.token.Mark.{Mark}
use Rattle.pale_text.specs.declared.token.Mark.TheVariants as mark
use Rattle.pale_text.specs.declared.token.TokenKind.{TokenKind}
use Rattle.pale_text.specs.declared.token.TokenKind.TheVariants as token
use Rattle.pale_syntax.specs.declared.tree.names.Name.{Name}
use Rattle.pale_syntax.specs.declared.tree.names.Path.{Path}
use Rattle.pale_syntax.specs.declared.tree.names.Term.{Term}
use Rattle.pale_syntax.specs.declared.tree.route.Route.{Route}
use Rattle.pale_syntax.specs.declared.tree.assertion.Assertion.{Assertion, roll-Assertion}
use Rattle.pale_syntax.specs.declared.tree.assertion.Assertion.TheVariants as assertion
use Rattle.pale_syntax.specs.declared.tree.assertion.Assertion.TheOpen.{Assertion-F}
use Rattle.pale_syntax.specs.declared.tree.assertion.Assertion.TheFolds.{fold-Assertion, fold-roll-Assertion, ind-Assertion, map-Assertion}
use Rattle.pale_syntax.specs.declared.tree.assertion.Quantifier.{Quantifier}
use Rattle.pale_syntax.specs.declared.tree.assertion.QuantifierKind.{QuantifierKind}
use Rattle.pale_syntax.specs.declared.tree.assertion.QuantifierKind.TheVariants as quantifier
use denote.Hole.Carrier.{roll}
use Rattle.pale_print.specs.Tokens.{each_behind, separated, sign, word, ◌>>◌, name_tokens, path_tokens, term_tokens}
use Rattle.pale_print.specs.RouteTokens.{route_tokens}
use Rattle.pale_print.specs.AssertionTokens.{Followed, Operand, grouped, is_followed, operands, chained, quantifier_word}
use Rattle.pale_print.specs.AssertionTokens.{set_word, quantified, assertion_node, assertion_tokens}
use Rattle.pale_print_laws.proofs.RouteSizes.{route_size, route_takes, Takes}
use Rattle.pale_print_laws.proofs.NameSizes.{names_size, names_take, path_size, path_takes, term_size, term_takes}

-- how many tokens there are at a place that asks how tightly they bind, where an operator follows or not
abbrev pub OperandSize : Type 0
OperandSize = ℕ → Bool → ℕ

-- two more in parentheses, in which no operator follows
abbrev pub grouped_size : Bool → (Bool → ℕ) → Bool → ℕ
grouped_size true inner followed = suc (suc (inner false))
grouped_size false inner followed = inner followed

-- an operator follows the operand that stands before these others of a chain, where one follows the chain or not
abbrev pub goes_on : List OperandSize → Bool → Bool
goes_on [] followed = followed
goes_on (next ∷ others) followed = true

-- the operands of a chain but the first, each behind its operator
abbrev pub operands_size : ℕ → List OperandSize → Bool → ℕ
operands_size asked [] followed = 0
operands_size asked (one ∷ others) followed = suc (one asked (goes_on others followed) + operands_size asked others followed)

abbrev pub chain_size : ℕ → OperandSize → List OperandSize → Bool → ℕ
chain_size asked first others followed = first asked (goes_on others followed) + operands_size asked others followed

-- paths with a mark between them
abbrev pub paths_size : List Path → ℕ
paths_size [] = 0
paths_size (p ∷ ps) = suc (path_size p + paths_size ps)

abbrev pub used_size : List Path → ℕ
used_size [] = 0
used_size (p ∷ ps) = path_size p + paths_size ps

-- names with a mark between them
abbrev pub bound_size : List Name → ℕ
bound_size [] = 0
bound_size (x ∷ xs) = suc (names_size xs)

abbrev pub set_size : Bool → ℕ
set_size true = 1
set_size false = 0

abbrev pub quantified_size : Quantifier → OperandSize → Bool → ℕ
quantified_size q inner followed = suc (set_size q.of_sets + (bound_size q.names + suc (suc (suc (inner 0 followed)))))

abbrev pub size_node : Assertion-F OperandSize → OperandSize
size_node Assertion-F.True asked followed = 1
size_node Assertion-F.False asked followed = 1
size_node (Assertion-F.Truth p) asked followed = path_size p
size_node (Assertion-F.Same t place u) asked followed = term_size t + suc (term_size u)
size_node (Assertion-F.Differ t place u) asked followed = term_size t + suc (term_size u)
size_node (Assertion-F.Member t place set) asked followed = term_size t + 2
size_node (Assertion-F.Subset t place set) asked followed = term_size t + 2
size_node (Assertion-F.Walk t place r u) asked followed = term_size t + suc (route_size r 0 + suc (term_size u))
size_node (Assertion-F.Is t place variant) asked followed = term_size t + 2
size_node (Assertion-F.Use predicate arguments) asked followed = suc (suc (used_size arguments + 1))
size_node (Assertion-F.Not place inner) asked followed = suc (inner 4 followed)
size_node (Assertion-F.And first others) asked followed = grouped_size (nat_lt 3 asked) (chain_size 4 first others) followed
size_node (Assertion-F.Or first others) asked followed = grouped_size (nat_lt 2 asked) (chain_size 3 first others) followed
size_node (Assertion-F.Imp left place right) asked followed = grouped_size (nat_lt 1 asked) (λ then. left 2 true + suc (right 1 then)) followed
size_node (Assertion-F.Iff first others) asked followed = grouped_size (nat_lt 0 asked) (chain_size 1 first others) followed
size_node (Assertion-F.Quantified q inner) asked followed = grouped_size followed (quantified_size q inner) followed

unfoldable pub assertion_size : Assertion → OperandSize
assertion_size = fold-Assertion OperandSize size_node

pub sized_at : (x : Assertion-F Assertion) → assertion_size (roll-Assertion x) ≡ size_node (map-Assertion Assertion OperandSize assertion_size x)
unfolding assertion_size
sized_at x = fold-roll-Assertion OperandSize size_node x

-- ---- the tokens are so many

grouped_takes : (needed : Bool) (tokens : Followed) (n : Bool → ℕ) → ((followed : Bool) → Takes (tokens followed) (n followed)) → (followed : Bool) →
    Takes (grouped needed tokens followed) (grouped_size needed n followed)
grouped_takes true tokens n t followed = record { takes = λ after. let e = (t false).takes (token.Mark mark.RightParen ∷ after) in omega arith }
grouped_takes false tokens n t followed = t followed

abbrev Sized : Assertion → Type 0
Sized a = (asked : ℕ) (followed : Bool) → Takes (assertion_tokens a asked followed) (assertion_size a asked followed)

abbrev Known : Type 0
Known = (a : Assertion) × Sized a

abbrev trees : List Known → List Assertion
trees others = map (λ (e : Known). e.0) others

follows_alike : (others : List Known) (followed : Bool) →
    is_followed (map assertion_tokens (trees others)) followed ≡ goes_on (map assertion_size (trees others)) followed
follows_alike [] followed = refl
follows_alike (one ∷ others) followed = refl

one_takes : (one : Known) (asked : ℕ) (others : List Known) (followed : Bool) (after : List TokenKind) →
    length (assertion_tokens one.0 asked (is_followed (map assertion_tokens (trees others)) followed) after) ≡
    assertion_size one.0 asked (goes_on (map assertion_size (trees others)) followed) + length after
one_takes one asked others followed after =
    subst (λ (b : Bool). length (assertion_tokens one.0 asked b after) ≡ assertion_size one.0 asked
    (goes_on (map assertion_size (trees others)) followed) + length after)
    (sym (follows_alike others followed)) ((one.1 asked (goes_on (map assertion_size (trees others)) followed)).takes after)

operands_take : (m : Mark) (asked : ℕ) (others : List Known) (followed : Bool) (after : List TokenKind) →
    length (operands m asked (map assertion_tokens (trees others)) followed after) ≡ operands_size asked
    (map assertion_size (trees others)) followed + length after
operands_take m asked [] followed after = omega arith
operands_take m asked (one ∷ others) followed after =
    let e = one_takes one asked others followed (operands m asked (map assertion_tokens (trees others)) followed after) in
    let more = operands_take m asked others followed after in
    omega arith

chain_takes : (m : Mark) (asked : ℕ) (first : Known) (others : List Known) (followed : Bool) →
    Takes (chained m asked (assertion_tokens first.0) (map assertion_tokens (trees others)) followed)
    (chain_size asked (assertion_size first.0) (map assertion_size (trees others)) followed)
chain_takes m asked first others followed = record {
  takes = λ after.
      let e = one_takes first asked others followed (operands m asked (map assertion_tokens (trees others)) followed after) in
      let more = operands_take m asked others followed after in
      omega arith;
}

paths_take : (ps : List Path) (after : List TokenKind) → length (each_behind mark.Comma path_tokens ps after) ≡ paths_size ps + length after
paths_take [] after = omega arith
paths_take (p ∷ ps) after =
    let e = (path_takes p).takes (each_behind mark.Comma path_tokens ps after) in
    let more = paths_take ps after in
    omega arith

used_take : (ps : List Path) (after : List TokenKind) → length (separated mark.Comma path_tokens ps after) ≡ used_size ps + length after
used_take [] after = omega arith
used_take (p ∷ ps) after =
    let e = (path_takes p).takes (each_behind mark.Comma path_tokens ps after) in
    let more = paths_take ps after in
    omega arith

pub bound_take : (xs : List Name) (after : List TokenKind) → length (separated mark.Comma name_tokens xs after) ≡ bound_size xs + length after
bound_take [] after = omega arith
bound_take (x ∷ xs) after = let e = names_take mark.Comma xs after in omega arith

word_takes : (kind : QuantifierKind) (after : List TokenKind) → length (quantifier_word kind after) ≡ suc (length after)
word_takes quantifier.Ex after = refl
word_takes quantifier.All after = refl

set_takes : (sets : Bool) (after : List TokenKind) → length (set_word sets after) ≡ set_size sets + length after
set_takes true after = omega arith
set_takes false after = omega arith

quantified_takes : (q : Quantifier) (inner : Known) (followed : Bool) →
    Takes (quantified q (assertion_tokens inner.0) followed) (quantified_size q (assertion_size inner.0) followed)
quantified_takes q inner followed = record {
  takes = λ after.
      let body = assertion_tokens inner.0 0 followed after in
      let names = separated mark.Comma name_tokens q.names (sign mark.Colon >> name_tokens q.ty >> sign mark.Colon >> body) in
      let e = word_takes q.kind (set_word q.of_sets >> names) in
      let f = set_takes q.of_sets names in
      let g = bound_take q.names (sign mark.Colon >> name_tokens q.ty >> sign mark.Colon >> body) in
      let h = (inner.1 0 followed).takes after in
      omega arith;
}

node_takes : (y : Assertion-F Known) (asked : ℕ) (followed : Bool) →
    Takes (assertion_node (map-Assertion Assertion Operand assertion_tokens (map-Assertion Known Assertion (λ e. e.0) y)) asked followed)
    (size_node (map-Assertion Assertion OperandSize assertion_size (map-Assertion Known Assertion (λ e. e.0) y)) asked followed)
node_takes Assertion-F.True asked followed = record { takes = λ after. omega arith }
node_takes Assertion-F.False asked followed = record { takes = λ after. omega arith }
node_takes (Assertion-F.Truth p) asked followed = path_takes p
node_takes (Assertion-F.Same t place u) asked followed = record {
  takes = λ after.
      let e = (term_takes t).takes (sign mark.Equals >> term_tokens u >> after) in
      let f = (term_takes u).takes after in
      omega arith;
}
node_takes (Assertion-F.Differ t place u) asked followed = record {
  takes = λ after.
      let e = (term_takes t).takes (sign mark.NotEqual >> term_tokens u >> after) in
      let f = (term_takes u).takes after in
      omega arith;
}
node_takes (Assertion-F.Member t place set) asked followed = record {
  takes = λ after.
      let e = (term_takes t).takes (word (codes "in") >> name_tokens set >> after) in
      omega arith;
}
node_takes (Assertion-F.Subset t place set) asked followed = record {
  takes = λ after.
      let e = (term_takes t).takes (word (codes "sub") >> name_tokens set >> after) in
      omega arith;
}
node_takes (Assertion-F.Walk t place r u) asked followed = record {
  takes = λ after.
      let e = (term_takes t).takes (sign mark.Less >> route_tokens r 0 >> sign mark.Greater >> term_tokens u >> after) in
      let f = (route_takes r 0).takes (sign mark.Greater >> term_tokens u >> after) in
      let g = (term_takes u).takes after in
      omega arith;
}
node_takes (Assertion-F.Is t place variant) asked followed = record {
  takes = λ after.
      let e = (term_takes t).takes (sign mark.Colon >> name_tokens variant >> after) in
      omega arith;
}
node_takes (Assertion-F.Use predicate arguments) asked followed = record {
  takes = λ after.
      let e = used_take arguments (sign mark.RightParen >> after) in
      omega arith;
}
node_takes (Assertion-F.Not place inner) asked followed = record { takes = λ after. let e = (inner.1 4 followed).takes after in omega arith }
node_takes (Assertion-F.And first others) asked followed = grouped_takes (nat_lt 3 asked) _ _ (λ then. chain_takes mark.Ampersand 4 first others then) followed
node_takes (Assertion-F.Or first others) asked followed = grouped_takes (nat_lt 2 asked) _ _ (λ then. chain_takes mark.Bar 3 first others then) followed
node_takes (Assertion-F.Imp left place right) asked followed = grouped_takes (nat_lt 1 asked) _ _ (λ then. record {
  takes = λ after.
      let e = (left.1 2 true).takes (sign mark.Implies >> assertion_tokens right.0 1 then >> after) in
      let f = (right.1 1 then).takes after in
      omega arith;
}) followed
node_takes (Assertion-F.Iff first others) asked followed = grouped_takes (nat_lt 0 asked) _ _ (λ then. chain_takes mark.Equivalent 1 first others then) followed
node_takes (Assertion-F.Quantified q inner) asked followed = grouped_takes followed _ _ (λ then. quantified_takes q inner then) followed

tokens_at : (x : Assertion-F Assertion) → assertion_tokens (roll-Assertion x) ≡ assertion_node (map-Assertion Assertion Operand assertion_tokens x)
unfolding assertion_tokens
tokens_at x = fold-roll-Assertion Operand assertion_node x

pub assertion_takes : (a : Assertion) (asked : ℕ) (followed : Bool) → Takes (assertion_tokens a asked followed) (assertion_size a asked followed)
assertion_takes = ind-Assertion Sized (λ x y is asked followed.
    subst (λ (t : Operand). Takes (t asked followed) (assertion_size (roll-Assertion x) asked followed)) (sym (tokens_at x))
    (subst
    (λ (s : OperandSize). Takes (assertion_node (map-Assertion Assertion Operand assertion_tokens x) asked followed) (s asked followed))
    (sym (sized_at x))
    (subst (λ (z : Assertion-F Assertion). Takes (assertion_node (map-Assertion Assertion Operand assertion_tokens z) asked followed)
    (size_node (map-Assertion Assertion OperandSize assertion_size z) asked followed)) is (node_takes y asked followed))))

-- ---- forms

pub form : (x : Assertion-F Assertion) (asked : ℕ) (followed : Bool) →
    assertion_size (roll-Assertion x) asked followed ≡ size_node (map-Assertion Assertion OperandSize assertion_size x) asked followed
form x asked followed = ap (λ (s : OperandSize). s asked followed) (sized_at x)

pub size_true : (asked : ℕ) (f : Bool) → assertion_size assertion.True asked f ≡ 1
unfolding roll-Assertion roll
size_true asked f = form Assertion-F.True asked f

pub size_false : (asked : ℕ) (f : Bool) → assertion_size assertion.False asked f ≡ 1
unfolding roll-Assertion roll
size_false asked f = form Assertion-F.False asked f

pub size_truth : (p : Path) (asked : ℕ) (f : Bool) → assertion_size (assertion.Truth p) asked f ≡ path_size p
unfolding roll-Assertion roll
size_truth p asked f = form (Assertion-F.Truth p) asked f

pub size_same : (t : Term) (place : Pos) (u : Term) (asked : ℕ) (f : Bool) → assertion_size (assertion.Same t place u) asked f ≡ term_size t + suc (term_size u)
unfolding roll-Assertion roll
size_same t place u asked f = form (Assertion-F.Same t place u) asked f

pub size_differ : (t : Term) (place : Pos) (u : Term) (asked : ℕ) (f : Bool) →
    assertion_size (assertion.Differ t place u) asked f ≡ term_size t + suc (term_size u)
unfolding roll-Assertion roll
size_differ t place u asked f = form (Assertion-F.Differ t place u) asked f

pub size_member : (t : Term) (place : Pos) (x : Name) (asked : ℕ) (f : Bool) → assertion_size (assertion.Member t place x) asked f ≡ term_size t + 2
unfolding roll-Assertion roll
size_member t place x asked f = form (Assertion-F.Member t place x) asked f

pub size_subset : (t : Term) (place : Pos) (x : Name) (asked : ℕ) (f : Bool) → assertion_size (assertion.Subset t place x) asked f ≡ term_size t + 2
unfolding roll-Assertion roll
size_subset t place x asked f = form (Assertion-F.Subset t place x) asked f

pub size_is : (t : Term) (place : Pos) (x : Name) (asked : ℕ) (f : Bool) → assertion_size (assertion.Is t place x) asked f ≡ term_size t + 2
unfolding roll-Assertion roll
size_is t place x asked f = form (Assertion-F.Is t place x) asked f

pub size_walk : (t : Term) (place : Pos) (r : Route) (u : Term) (asked : ℕ) (f : Bool) →
    assertion_size (assertion.Walk t place r u) asked f ≡ term_size t + suc (route_size r 0 + suc (term_size u))
unfolding roll-Assertion roll
size_walk t place r u asked f = form (Assertion-F.Walk t place r u) asked f

pub size_use : (x : Name) (ps : List Path) (asked : ℕ) (f : Bool) → assertion_size (assertion.Use x ps) asked f ≡ suc (suc (used_size ps + 1))
unfolding roll-Assertion roll
size_use x ps asked f = form (Assertion-F.Use x ps) asked f

pub size_not : (place : Pos) (a : Assertion) (asked : ℕ) (f : Bool) → assertion_size (assertion.Not place a) asked f ≡ suc (assertion_size a 4 f)
unfolding roll-Assertion roll
size_not place a asked f = form (Assertion-F.Not place a) asked f

pub size_imp : (a : Assertion) (place : Pos) (b : Assertion) (f : Bool) →
    assertion_size (assertion.Imp a place b) 1 f ≡ assertion_size a 2 true + suc (assertion_size b 1 f)
unfolding roll-Assertion roll
size_imp a place b f = form (Assertion-F.Imp a place b) 1 f

pub size_quantified : (q : Quantifier) (a : Assertion) (asked : ℕ) →
    assertion_size (assertion.Quantified q a) asked false ≡ quantified_size q (assertion_size a) false
unfolding roll-Assertion roll
size_quantified q a asked = form (Assertion-F.Quantified q a) asked false

pub used_last : (ps : List Path) (p : Path) → used_size (ps ++ p ∷ []) ≤ used_size ps + suc (path_size p)
used_last [] p = omega arith
used_last (q ∷ ps) p = let e = paths_last ps p in omega arith
  where
    paths_last : (ps : List Path) (p : Path) → paths_size (ps ++ p ∷ []) ≡ paths_size ps + suc (path_size p)
    paths_last [] p = omega arith
    paths_last (q ∷ ps) p = let e = paths_last ps p in omega arith
