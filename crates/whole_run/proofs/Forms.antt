-- The words of names, routes, assertions and conditions are passed over.
use Rattle.std.proofs.Common.{◌≡◌, ℕ, Bool, true, false, List, [], ◌∷◌, map, Some, None, sym, subst}
use Rattle.std.specs.Prelude.{codes}
use Rattle.pale_text.specs.declared.place.Pos.{Pos}
use Rattle.pale_text.specs.declared.token.Mark.{Mark}
use Rattle.pale_text.specs.declared.token.Mark.TheVariants as mark
use Rattle.pale_text.specs.declared.token.TokenKind.{TokenKind}
use Rattle.pale_text.specs.declared.token.TokenKind.TheVariants as kind
use Rattle.pale_syntax.specs.declared.tree.names.Name.{Name}
use Rattle.pale_syntax.specs.declared.tree.names.Path.{Path}
use Rattle.pale_syntax.specs.declared.tree.names.Term.{Term}
use Rattle.pale_syntax.specs.declared.tree.names.Term.TheVariants as term
use Rattle.pale_syntax.specs.declared.tree.route.Route.{Route, roll-Route}
use Rattle.pale_syntax.specs.declared.tree.route.Route.TheOpen.{Route-F}
use Rattle.pale_syntax.specs.declared.tree.route.Route.TheFolds.{fold-roll-Route, ind-Route, map-Route}
use Rattle.pale_syntax.specs.declared.tree.condition.Condition.{Condition, roll-Condition}
use Rattle.pale_syntax.specs.declared.tree.condition.Condition.TheOpen.{Condition-F}
use Rattle.pale_syntax.specs.declared.tree.condition.Condition.TheFolds.{fold-roll-Condition, ind-Condition, map-Condition}
use Rattle.pale_syntax.specs.declared.tree.assertion.Assertion.{Assertion, roll-Assertion}
use Rattle.pale_syntax.specs.declared.tree.assertion.Assertion.TheOpen.{Assertion-F}
use Rattle.pale_syntax.specs.declared.tree.assertion.Assertion.TheFolds.{fold-roll-Assertion, ind-Assertion, map-Assertion}
use Rattle.pale_syntax.specs.declared.tree.assertion.Bracketed.{Bracketed}
use Rattle.pale_syntax.specs.declared.tree.assertion.Quantifier.{Quantifier}
use Rattle.pale_syntax.specs.declared.tree.assertion.QuantifierKind.{QuantifierKind}
use Rattle.pale_syntax.specs.declared.tree.assertion.QuantifierKind.TheVariants as quantifier
use Rattle.pale_print_laws.specs.Words.{Words, ◌>>◌, placed, unplaced, each, each_behind, separated, sign, sign_at, word_of, word_at, name_words}
use Rattle.pale_print_laws.specs.Words.{path_words, term_words}
use Rattle.pale_print_laws.specs.RouteWords.{bool_test, route_node, route_words}
use Rattle.pale_print_laws.specs.ConditionWords.{condition_node, condition_words}
use Rattle.pale_print_laws.specs.AssertionWords.{quantifier_word, set_word, quantifier_words, assertion_node, assertion_words, bracketed_words}
use Rattle.whole_run.proofs.Occurring.{ArePassed, one_passed, each_passed, behind_passed, separated_passed}

-- ---- one after the other

then_passed : (one two : Words) → ArePassed one → ArePassed two → ArePassed (λ after. one (two after))
then_passed one two first second places after occur = first places (two after) (second places after occur)

unplaced_passed : (k : TokenKind) → ArePassed (unplaced k)
unplaced_passed k = one_passed (record { kind = k; place = None; next = None })

placed_passed : (k : TokenKind) (place : Pos) → ArePassed (placed k place)
placed_passed k place = one_passed (record { kind = k; place = Some place; next = None })

pub sign_passed : (m : Mark) → ArePassed (sign m)
sign_passed m = unplaced_passed (kind.Mark m)

pub sign_at_passed : (m : Mark) (place : Pos) → ArePassed (sign_at m place)
sign_at_passed m place = placed_passed (kind.Mark m) place

pub word_passed : (bytes : List ℕ) → ArePassed (word_of bytes)
word_passed bytes = unplaced_passed (kind.Name bytes)

pub word_at_passed : (bytes : List ℕ) (place : Pos) → ArePassed (word_at bytes place)
word_at_passed bytes place = placed_passed (kind.Name bytes) place

pub name_passed : (x : Name) → ArePassed (name_words x)
name_passed x = word_at_passed x.bytes x.place

pub path_passed : (p : Path) → ArePassed (path_words p)
path_passed p = then_passed (name_words p.base) (each_behind mark.Dot name_words p.fields) (name_passed p.base)
    (behind_passed name_words name_passed mark.Dot p.fields)

pub term_passed : (t : Term) → ArePassed (term_words t)
term_passed (term.Null place) = word_at_passed (codes "null") place
term_passed (term.Path p) = path_passed p

-- what is passed over in each is passed over in a list of them
module _ {T : Type 0} (words_of : T → Words) where
  abbrev Passed : Type 0
  Passed = (x : T) × ArePassed (words_of x)

  abbrev Own : List Passed → List Words
  Own xs = map words_of (map (λ (e : Passed). e.0) xs)

  list_passed : (m : Mark) (xs : List Passed) → ArePassed (each_behind m (λ (other : Words). other) (Own xs))
  list_passed m [] places after occur = occur
  list_passed m (x ∷ xs) places after occur =
      sign_passed m places (words_of x.0 (each_behind m (λ (other : Words). other) (Own xs) after))
      (x.1 places (each_behind m (λ (other : Words). other) (Own xs) after) (list_passed m xs places after occur))

-- ---- routes

route_form : (x : Route-F Route) → route_words (roll-Route x) ≡ route_node (map-Route Route Words route_words x)
unfolding route_words
route_form x = fold-roll-Route Words route_node x

bool_passed : (value : Bool) → ArePassed (bool_test value)
bool_passed true = sign_passed mark.Question
bool_passed false = sign_passed mark.Bang

abbrev OfRoute : Type 0
OfRoute = (r : Route) × ArePassed (route_words r)

route_node_passed : (y : Route-F OfRoute) → ArePassed (route_node (map-Route Route Words route_words (map-Route OfRoute Route (λ e. e.0) y)))
route_node_passed (Route-F.Down f) = name_passed f
route_node_passed (Route-F.Up f) = then_passed (sign mark.Caret) (name_words f) (sign_passed mark.Caret) (name_passed f)
route_node_passed Route-F.UpAny = sign_passed mark.Caret
route_node_passed Route-F.Root = word_passed (codes "root")
route_node_passed Route-F.Leaf = sign_passed mark.Dollar
route_node_passed (Route-F.IsType ty) = then_passed (sign mark.At) (name_words ty) (sign_passed mark.At) (name_passed ty)
route_node_passed (Route-F.IsVariant ty variant) = then_passed (sign mark.At) (λ after. name_words ty >> sign mark.Colon >> name_words variant >> after)
    (sign_passed mark.At) (then_passed (name_words ty) (λ after. sign mark.Colon >> name_words variant >> after) (name_passed ty)
    (then_passed (sign mark.Colon) (name_words variant) (sign_passed mark.Colon) (name_passed variant)))
route_node_passed (Route-F.IsBool f value) = then_passed (bool_test value) (name_words f) (bool_passed value) (name_passed f)
route_node_passed (Route-F.Then first others) = then_passed (route_words first.0) (each_behind mark.Dot (λ other. other) (Own route_words others)) first.1
    (list_passed route_words mark.Dot others)
route_node_passed (Route-F.Or first others) = then_passed (route_words first.0) (each_behind mark.Plus (λ other. other) (Own route_words others)) first.1
    (list_passed route_words mark.Plus others)
route_node_passed (Route-F.Star inner places) = then_passed (route_words inner.0) (each (sign_at mark.Star) places) inner.1
    (each_passed (sign_at mark.Star) (sign_at_passed mark.Star) places)

pub route_passed : (r : Route) → ArePassed (route_words r)
route_passed = ind-Route (λ r. ArePassed (route_words r)) (λ x y is. subst (λ (z : Route-F Route). ArePassed (route_words (roll-Route z))) is
    (subst ArePassed (sym (route_form (map-Route OfRoute Route (λ e. e.0) y))) (route_node_passed y)))

-- ---- conditions

condition_form : (x : Condition-F Condition) →
    condition_words (roll-Condition x) ≡ condition_node (map-Condition Condition Words condition_words x)
unfolding condition_words
condition_form x = fold-roll-Condition Words condition_node x

abbrev OfCondition : Type 0
OfCondition = (c : Condition) × ArePassed (condition_words c)

-- a term, this sign and what follows
sign_behind : (t : Term) (m : Mark) (place : Pos) (next : Words) → ArePassed next → ArePassed (λ after. term_words t >> sign_at m place >> next after)
sign_behind t m place next passed = then_passed (term_words t) (λ after. sign_at m place >> next after) (term_passed t)
    (then_passed (sign_at m place) next (sign_at_passed m place) passed)

condition_node_passed : (y : Condition-F OfCondition) →
    ArePassed (condition_node (map-Condition Condition Words condition_words (map-Condition OfCondition Condition (λ e. e.0) y)))
condition_node_passed (Condition-F.True place) = word_at_passed (codes "true") place
condition_node_passed (Condition-F.False place) = word_at_passed (codes "false") place
condition_node_passed (Condition-F.Truth t) = term_passed t
condition_node_passed (Condition-F.Same t place u) = sign_behind t mark.SameAs place (term_words u) (term_passed u)
condition_node_passed (Condition-F.Differ t place u) = sign_behind t mark.NotSame place (term_words u) (term_passed u)
condition_node_passed (Condition-F.Is t place variant) = sign_behind t mark.Colon place (name_words variant) (name_passed variant)
condition_node_passed (Condition-F.Not place inner) = then_passed (sign_at mark.Bang place) (condition_words inner.0) (sign_at_passed mark.Bang place) inner.1
condition_node_passed (Condition-F.And first others) = then_passed (condition_words first.0)
    (each_behind mark.AndAlso (λ other. other) (Own condition_words others)) first.1 (list_passed condition_words mark.AndAlso others)
condition_node_passed (Condition-F.Or first others) = then_passed (condition_words first.0)
    (each_behind mark.OrElse (λ other. other) (Own condition_words others)) first.1 (list_passed condition_words mark.OrElse others)

pub condition_passed : (c : Condition) → ArePassed (condition_words c)
condition_passed = ind-Condition (λ c. ArePassed (condition_words c)) (λ x y is.
    subst (λ (z : Condition-F Condition). ArePassed (condition_words (roll-Condition z))) is
    (subst ArePassed (sym (condition_form (map-Condition OfCondition Condition (λ e. e.0) y))) (condition_node_passed y)))

-- ---- assertions

assertion_form : (x : Assertion-F Assertion) →
    assertion_words (roll-Assertion x) ≡ assertion_node (map-Assertion Assertion Words assertion_words x)
unfolding assertion_words
assertion_form x = fold-roll-Assertion Words assertion_node x

abbrev OfAssertion : Type 0
OfAssertion = (a : Assertion) × ArePassed (assertion_words a)

quantifier_word_passed : (k : QuantifierKind) (place : Pos) → ArePassed (quantifier_word k place)
quantifier_word_passed quantifier.Ex place = word_at_passed (codes "ex") place
quantifier_word_passed quantifier.All place = word_at_passed (codes "all") place

set_word_passed : (of_sets : Bool) → ArePassed (set_word of_sets)
set_word_passed true = word_passed (codes "set")
set_word_passed false = λ places after occur. occur

quantifier_passed : (q : Quantifier) → ArePassed (quantifier_words q)
quantifier_passed q places after occur =
    quantifier_word_passed q.kind q.place places _ (set_word_passed q.of_sets places _ (separated_passed name_words name_passed mark.Comma q.names places _
    (sign_passed mark.Colon places _ (name_passed q.ty places _ (sign_passed mark.Colon places after occur)))))

assertion_node_passed : (y : Assertion-F OfAssertion) →
    ArePassed (assertion_node (map-Assertion Assertion Words assertion_words (map-Assertion OfAssertion Assertion (λ e. e.0) y)))
assertion_node_passed Assertion-F.True = word_passed (codes "true")
assertion_node_passed Assertion-F.False = word_passed (codes "false")
assertion_node_passed (Assertion-F.Truth p) = path_passed p
assertion_node_passed (Assertion-F.Same t place u) = sign_behind t mark.Equals place (term_words u) (term_passed u)
assertion_node_passed (Assertion-F.Differ t place u) = sign_behind t mark.NotEqual place (term_words u) (term_passed u)
assertion_node_passed (Assertion-F.Member t place set) = then_passed (term_words t) (λ after. word_at (codes "in") place >> name_words set >> after)
    (term_passed t)
    (then_passed (word_at (codes "in") place) (name_words set) (word_at_passed (codes "in") place) (name_passed set))
assertion_node_passed (Assertion-F.Subset t place set) = then_passed (term_words t) (λ after. word_at (codes "sub") place >> name_words set >> after)
    (term_passed t) (then_passed (word_at (codes "sub") place) (name_words set) (word_at_passed (codes "sub") place) (name_passed set))
assertion_node_passed (Assertion-F.Walk t place r u) = sign_behind t mark.Less place (λ after. route_words r >> sign mark.Greater >> term_words u >> after)
    (then_passed (route_words r) (λ after. sign mark.Greater >> term_words u >> after) (route_passed r)
    (then_passed (sign mark.Greater) (term_words u) (sign_passed mark.Greater) (term_passed u)))
assertion_node_passed (Assertion-F.Is t place variant) = sign_behind t mark.Colon place (name_words variant) (name_passed variant)
assertion_node_passed (Assertion-F.Use predicate arguments) = then_passed (name_words predicate) (separated mark.Comma path_words arguments)
    (name_passed predicate) (separated_passed path_words path_passed mark.Comma arguments)
assertion_node_passed (Assertion-F.Not place inner) = then_passed (sign_at mark.Tilde place) (assertion_words inner.0) (sign_at_passed mark.Tilde place) inner.1
assertion_node_passed (Assertion-F.And first others) = then_passed (assertion_words first.0)
    (each_behind mark.Ampersand (λ other. other) (Own assertion_words others)) first.1 (list_passed assertion_words mark.Ampersand others)
assertion_node_passed (Assertion-F.Or first others) = then_passed (assertion_words first.0)
    (each_behind mark.Bar (λ other. other) (Own assertion_words others)) first.1 (list_passed assertion_words mark.Bar others)
assertion_node_passed (Assertion-F.Imp left place right) = then_passed (assertion_words left.0)
    (λ after. sign_at mark.Implies place >> assertion_words right.0 after)
    left.1 (then_passed (sign_at mark.Implies place) (assertion_words right.0) (sign_at_passed mark.Implies place) right.1)
assertion_node_passed (Assertion-F.Iff first others) = then_passed (assertion_words first.0)
    (each_behind mark.Equivalent (λ other. other) (Own assertion_words others)) first.1 (list_passed assertion_words mark.Equivalent others)
assertion_node_passed (Assertion-F.Quantified q inner) = then_passed (quantifier_words q) (assertion_words inner.0) (quantifier_passed q) inner.1

pub assertion_passed : (a : Assertion) → ArePassed (assertion_words a)
assertion_passed = ind-Assertion (λ a. ArePassed (assertion_words a)) (λ x y is.
    subst (λ (z : Assertion-F Assertion). ArePassed (assertion_words (roll-Assertion z))) is
    (subst ArePassed (sym (assertion_form (map-Assertion OfAssertion Assertion (λ e. e.0) y))) (assertion_node_passed y)))

pub bracketed_passed : (b : Bracketed) → ArePassed (bracketed_words b)
bracketed_passed b places after occur = sign_at_passed mark.LeftBracket b.place places _ (assertion_passed b.assertion places _
    (sign_passed mark.RightBracket places after occur))
