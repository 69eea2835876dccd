-- Conditions whose spelling is read as they are.
use Rattle.std.specs.Prelude.{◌≡◌, ℕ, suc, nat_lt, Bool, true, false, List, [], ◌∷◌}
use Rattle.pale_text.specs.declared.place.Pos.{Pos}
use Rattle.pale_text.specs.declared.token.Mark.TheVariants as mark
use Rattle.pale_text.specs.declared.token.TokenKind.{TokenKind}
use Rattle.pale_syntax.specs.declared.tree.names.Name.{Name}
use Rattle.pale_syntax.specs.declared.tree.names.Term.{Term}
use Rattle.pale_syntax.specs.declared.tree.condition.Condition.{Condition, out-Condition}
use Rattle.pale_syntax.specs.declared.tree.condition.Condition.TheVariants as condition
use Rattle.pale_syntax.specs.declared.tree.condition.Condition.TheOpen.{Condition-F}
use Rattle.pale_print.specs.Tokens.{◌>>◌, sign}
use Rattle.pale_print.specs.ConditionTokens.{condition_tokens}
use Rattle.pale_syntax.specs.FreeNames.{IsFree, IsFreeTerm}

-- where a condition stands, by how tightly it has to bind there
pub data ConditionPlace : Type 0 where
  whole : ConditionPlace
  conjunction : ConditionPlace
  literal : ConditionPlace

abbrev pub asks : ConditionPlace → ℕ
asks whole = 0
asks conjunction = 1
asks literal = 2

abbrev pub is_and_node : Condition-F Condition → Bool
is_and_node (Condition-F.And first others) = true
is_and_node _ = false

abbrev pub is_or_node : Condition-F Condition → Bool
is_or_node (Condition-F.Or first others) = true
is_or_node _ = false

-- the condition is spelled in parentheses there
abbrev pub IsGrouped : ConditionPlace → Condition → Type 0
IsGrouped p c = (after : List TokenKind) → condition_tokens c (asks p) after ≡ (sign mark.LeftParen >> condition_tokens c 0 >> sign mark.RightParen >> after)

mutual
  -- the condition stands at this place, its spelling there opens at most so many levels, and it is read as it is
  pub data IsCanonicalCondition : ConditionPlace → ℕ → Condition → Type 0 where
    truth : (p : ConditionPlace) (room : ℕ) (place : Pos) → IsCanonicalCondition p room (condition.True place)
    falsehood : (p : ConditionPlace) (room : ℕ) (place : Pos) → IsCanonicalCondition p room (condition.False place)
    term : (p : ConditionPlace) (room : ℕ) (t : Term) → IsFreeTerm t → IsCanonicalCondition p room (condition.Truth t)
    same : (p : ConditionPlace) (room : ℕ) (t : Term) (place : Pos) (u : Term) → IsFreeTerm t → IsFreeTerm u
        → IsCanonicalCondition p room (condition.Same t place u)
    differ : (p : ConditionPlace) (room : ℕ) (t : Term) (place : Pos) (u : Term) → IsFreeTerm t → IsFreeTerm u
        → IsCanonicalCondition p room (condition.Differ t place u)
    of_variant : (p : ConditionPlace) (room : ℕ) (t : Term) (place : Pos) (variant : Name) → IsFreeTerm t → IsFree variant
        → IsCanonicalCondition p room (condition.Is t place variant)
    not : (p : ConditionPlace) (room : ℕ) (place : Pos) (inner : Condition) → IsCanonicalCondition literal room inner
        → IsCanonicalCondition p (suc room) (condition.Not place inner)
    and : (p : ConditionPlace) (room : ℕ) (first : Condition) (others : List Condition) → nat_lt 1 (asks p) ≡ false
        → is_and_node (out-Condition first) ≡ false →
        IsCanonicalCondition literal room first → AreCanonicalConditions literal room others → IsCanonicalCondition p room (condition.And first others)
    or : (p : ConditionPlace) (room : ℕ) (first : Condition) (others : List Condition) → nat_lt 0 (asks p) ≡ false → is_or_node (out-Condition first) ≡ false →
        IsCanonicalCondition conjunction room first → AreCanonicalConditions conjunction room others → IsCanonicalCondition p room (condition.Or first others)
    group : (p : ConditionPlace) (room : ℕ) (c : Condition) → IsGrouped p c → IsCanonicalCondition whole room c → IsCanonicalCondition p (suc room) c

  -- the operands of a chain but the first, at least one
  pub data AreCanonicalConditions : ConditionPlace → ℕ → List Condition → Type 0 where
    last : (p : ConditionPlace) (room : ℕ) (c : Condition) → IsCanonicalCondition p room c → AreCanonicalConditions p room (c ∷ [])
    more : (p : ConditionPlace) (room : ℕ) (c : Condition) (others : List Condition) → IsCanonicalCondition p room c → AreCanonicalConditions p room others →
        AreCanonicalConditions p room (c ∷ others)
