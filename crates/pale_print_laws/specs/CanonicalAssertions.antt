-- Assertions whose spelling is read as they are.
use Rattle.std.specs.Prelude.{◌≡◌, ℕ, suc, nat_lt, Bool, true, false, List, [], ◌∷◌}
use Rattle.pale_text.specs.declared.place.Pos.{Pos}
use Rattle.pale_text.specs.declared.token.Mark.TheVariants as mark
use Rattle.pale_text.specs.declared.token.TokenKind.{TokenKind}
use Rattle.pale_syntax.specs.declared.tree.names.Name.{Name}
use Rattle.pale_syntax.specs.declared.tree.names.Path.{Path}
use Rattle.pale_syntax.specs.declared.tree.names.Term.{Term}
use Rattle.pale_syntax.specs.declared.tree.route.Route.{Route}
use Rattle.pale_syntax.specs.declared.tree.assertion.Assertion.{Assertion, out-Assertion}
use Rattle.pale_syntax.specs.declared.tree.assertion.Assertion.TheVariants as assertion
use Rattle.pale_syntax.specs.declared.tree.assertion.Assertion.TheOpen.{Assertion-F}
use Rattle.pale_syntax.specs.declared.tree.assertion.Bracketed.{Bracketed}
use Rattle.pale_syntax.specs.declared.tree.assertion.QuantifierKind.{QuantifierKind}
use Rattle.pale_print.specs.Tokens.{◌>>◌, sign}
use Rattle.pale_print.specs.AssertionTokens.{assertion_tokens}
use Rattle.pale_syntax.specs.FreeNames.{IsFree, AreFree, IsFreePath, AreFreePaths, IsFreeTerm}
use Rattle.pale_print_laws.specs.CanonicalRoutes.{IsCanonicalRoute, whole as whole_route}

-- where an assertion stands, by how tightly it has to bind there
pub data AssertionPlace : Type 0 where
  whole : AssertionPlace
  implication : AssertionPlace
  disjunct : AssertionPlace
  conjunct : AssertionPlace
  operand : AssertionPlace

abbrev pub asks : AssertionPlace → ℕ
asks whole = 0
asks implication = 1
asks disjunct = 2
asks conjunct = 3
asks operand = 4

abbrev pub is_and_node : Assertion-F Assertion → Bool
is_and_node (Assertion-F.And first others) = true
is_and_node _ = false

abbrev pub is_or_node : Assertion-F Assertion → Bool
is_or_node (Assertion-F.Or first others) = true
is_or_node _ = false

abbrev pub is_iff_node : Assertion-F Assertion → Bool
is_iff_node (Assertion-F.Iff first others) = true
is_iff_node _ = false

-- the assertion is spelled in parentheses there, where an operator follows or not
abbrev pub IsGrouped : AssertionPlace → Bool → Assertion → Type 0
IsGrouped p followed a = (after : List TokenKind) →
    assertion_tokens a (asks p) followed after ≡ (sign mark.LeftParen >> assertion_tokens a 0 false >> sign mark.RightParen >> after)

mutual
  -- the assertion stands at this place, where an operator follows or not, its spelling there opens at most so many levels, and
  -- it is read as it is
  pub data IsCanonicalAssertion : AssertionPlace → Bool → ℕ → Assertion → Type 0 where
    truth : (p : AssertionPlace) (followed : Bool) (room : ℕ) → IsCanonicalAssertion p followed room assertion.True
    falsehood : (p : AssertionPlace) (followed : Bool) (room : ℕ) → IsCanonicalAssertion p followed room assertion.False
    path : (p : AssertionPlace) (followed : Bool) (room : ℕ) (x : Path) → IsFreePath x → IsCanonicalAssertion p followed room (assertion.Truth x)
    same : (p : AssertionPlace) (followed : Bool) (room : ℕ) (t : Term) (place : Pos) (u : Term) → IsFreeTerm t → IsFreeTerm u →
        IsCanonicalAssertion p followed room (assertion.Same t place u)
    differ : (p : AssertionPlace) (followed : Bool) (room : ℕ) (t : Term) (place : Pos) (u : Term) → IsFreeTerm t → IsFreeTerm u →
        IsCanonicalAssertion p followed room (assertion.Differ t place u)
    member : (p : AssertionPlace) (followed : Bool) (room : ℕ) (t : Term) (place : Pos) (set : Name) → IsFreeTerm t → IsFree set →
        IsCanonicalAssertion p followed room (assertion.Member t place set)
    subset : (p : AssertionPlace) (followed : Bool) (room : ℕ) (t : Term) (place : Pos) (set : Name) → IsFreeTerm t → IsFree set →
        IsCanonicalAssertion p followed room (assertion.Subset t place set)
    walk : (p : AssertionPlace) (followed : Bool) (room : ℕ) (t : Term) (place : Pos) (r : Route) (u : Term) → IsFreeTerm t
        → IsCanonicalRoute whole_route room r → IsFreeTerm u →
        IsCanonicalAssertion p followed room (assertion.Walk t place r u)
    of_variant : (p : AssertionPlace) (followed : Bool) (room : ℕ) (t : Term) (place : Pos) (variant : Name) → IsFreeTerm t → IsFree variant →
        IsCanonicalAssertion p followed room (assertion.Is t place variant)
    use_of : (p : AssertionPlace) (followed : Bool) (room : ℕ) (predicate : Name) (arguments : List Path) → IsFree predicate → AreFreePaths arguments →
        IsCanonicalAssertion p followed room (assertion.Use predicate arguments)
    not : (p : AssertionPlace) (followed : Bool) (room : ℕ) (place : Pos) (inner : Assertion) → IsCanonicalAssertion operand followed room inner →
        IsCanonicalAssertion p followed (suc room) (assertion.Not place inner)
    and : (p : AssertionPlace) (followed : Bool) (room : ℕ) (first next : Assertion) (others : List Assertion) → nat_lt 3 (asks p) ≡ false
        → is_and_node (out-Assertion first) ≡ false →
        IsCanonicalAssertion operand true room first → AreCanonicalAssertions operand followed room (next ∷ others) →
        IsCanonicalAssertion p followed room (assertion.And first (next ∷ others))
    or : (p : AssertionPlace) (followed : Bool) (room : ℕ) (first next : Assertion) (others : List Assertion) → nat_lt 2 (asks p) ≡ false
        → is_or_node (out-Assertion first) ≡ false →
        IsCanonicalAssertion conjunct true room first → AreCanonicalAssertions conjunct followed room (next ∷ others) →
        IsCanonicalAssertion p followed room (assertion.Or first (next ∷ others))
    imp : (p : AssertionPlace) (followed : Bool) (room : ℕ) (left : Assertion) (place : Pos) (right : Assertion) → nat_lt 1 (asks p) ≡ false →
        IsCanonicalAssertion disjunct true (suc room) left → IsCanonicalAssertion implication followed room right →
        IsCanonicalAssertion p followed (suc room) (assertion.Imp left place right)
    iff : (p : AssertionPlace) (followed : Bool) (room : ℕ) (first next : Assertion) (others : List Assertion) → nat_lt 0 (asks p) ≡ false
        → is_iff_node (out-Assertion first) ≡ false →
        IsCanonicalAssertion implication true room first → AreCanonicalAssertions implication followed room (next ∷ others) →
        IsCanonicalAssertion p followed room (assertion.Iff first (next ∷ others))
    quantified : (p : AssertionPlace) (room : ℕ) (kind : QuantifierKind) (place : Pos) (sets : Bool) (first : Name) (others : List Name) (ty : Name)
        (inner : Assertion) →
        IsFree first → AreFree others → IsFree ty → IsCanonicalAssertion whole false room inner →
        IsCanonicalAssertion p false (suc room)
        (assertion.Quantified (record { kind = kind; place = place; of_sets = sets; names = first ∷ others; ty = ty }) inner)
    group : (p : AssertionPlace) (followed : Bool) (room : ℕ) (a : Assertion) → IsGrouped p followed a → IsCanonicalAssertion whole false room a →
        IsCanonicalAssertion p followed (suc room) a

  -- the operands of a chain but the first, at least one
  pub data AreCanonicalAssertions : AssertionPlace → Bool → ℕ → List Assertion → Type 0 where
    last : (p : AssertionPlace) (followed : Bool) (room : ℕ) (a : Assertion) → IsCanonicalAssertion p followed room a
        → AreCanonicalAssertions p followed room (a ∷ [])
    more : (p : AssertionPlace) (followed : Bool) (room : ℕ) (a b : Assertion) (others : List Assertion) → IsCanonicalAssertion p true room a →
        AreCanonicalAssertions p followed room (b ∷ others) → AreCanonicalAssertions p followed room (a ∷ b ∷ others)

-- an assertion in brackets
abbrev pub IsCanonicalBracketed : ℕ → Bracketed → Type 0
IsCanonicalBracketed room b = IsCanonicalAssertion whole false room b.assertion
