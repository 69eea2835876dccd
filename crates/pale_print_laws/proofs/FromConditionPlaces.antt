-- Where a canonical condition may stand as well, with more room or in parentheses; and chains of conditions that grow at their end.
use Rattle.std.proofs.Common.{◌≡◌, ℕ, suc, nat_lt, true, false, List, [], ◌∷◌, ◌++◌, refl, sym, subst}
use Rattle.pale_text.specs.declared.token.Mark.TheVariants as mark
use Rattle.pale_text.specs.declared.token.TokenKind.{TokenKind}
use Rattle.pale_syntax.specs.declared.tree.condition.Condition.{Condition, out-Condition, roll-Condition, out-roll-Condition}
use Rattle.pale_syntax.specs.declared.tree.condition.Condition.TheVariants as condition
use Rattle.pale_syntax.specs.declared.tree.condition.Condition.TheOpen.{Condition-F}
use Rattle.pale_syntax.specs.declared.tree.condition.Condition.TheFolds.{fold-roll-Condition, map-Condition}
use denote.Hole.Carrier.{roll, out}
use Rattle.pale_syntax.specs.MakingConditions.{and_by, or_by, both_conditions, either_condition}
use Rattle.pale_print.specs.Tokens.{◌>>◌, sign}
use Rattle.pale_print.specs.RouteTokens.{Placed}
use Rattle.pale_print.specs.ConditionTokens.{condition_node, condition_tokens}
use Rattle.pale_print_laws.specs.CanonicalConditions.{ConditionPlace, whole, conjunction, literal, asks, is_and_node, is_or_node}
use Rattle.pale_print_laws.specs.CanonicalConditions.{IsGrouped, IsCanonicalCondition, truth, falsehood, term, same, differ}
use Rattle.pale_print_laws.specs.CanonicalConditions.{of_variant, not, and, or, group, AreCanonicalConditions, last, more}
use Rattle.pale_print_laws.proofs.FromLevels.{Wider, alike, wider}

-- ---- parentheses

node_grouped : (p : ConditionPlace) (x : Condition-F Condition) →
    ((after : List TokenKind) → condition_node (map-Condition Condition Placed condition_tokens x) (asks p) after ≡
    (sign mark.LeftParen >> condition_node (map-Condition Condition Placed condition_tokens x) 0 >> sign mark.RightParen >> after)) →
    IsGrouped p (roll-Condition x)
unfolding condition_tokens
node_grouped p x agrees after =
    subst (λ (t : Placed). t (asks p) after ≡ (sign mark.LeftParen >> t 0 >> sign mark.RightParen >> after))
    (sym (fold-roll-Condition Placed condition_node x)) (agrees after)

or_grouped : (p : ConditionPlace) (first : Condition) (others : List Condition) → nat_lt 0 (asks p) ≡ true → IsGrouped p (condition.Or first others)
unfolding roll-Condition roll
or_grouped whole first others loose = absurd (cc loose)
or_grouped conjunction first others loose = node_grouped conjunction (Condition-F.Or first others) (λ after. refl)
or_grouped literal first others loose = node_grouped literal (Condition-F.Or first others) (λ after. refl)

and_grouped : (p : ConditionPlace) (first : Condition) (others : List Condition) → nat_lt 1 (asks p) ≡ true → IsGrouped p (condition.And first others)
unfolding roll-Condition roll
and_grouped whole first others loose = absurd (cc loose)
and_grouped conjunction first others loose = absurd (cc loose)
and_grouped literal first others loose = node_grouped literal (Condition-F.And first others) (λ after. refl)

-- ---- more room

mutual
  pub roomier : {p : ConditionPlace} {room : ℕ} {c : Condition} → IsCanonicalCondition p room c → IsCanonicalCondition p (suc room) c
  roomier (truth p room place) = truth p (suc room) place
  roomier (falsehood p room place) = falsehood p (suc room) place
  roomier (term p room t free) = term p (suc room) t free
  roomier (same p room t place u free free_too) = same p (suc room) t place u free free_too
  roomier (differ p room t place u free free_too) = differ p (suc room) t place u free free_too
  roomier (of_variant p room t place variant free free_too) = of_variant p (suc room) t place variant free free_too
  roomier (not p room place inner c) = not p (suc room) place inner (roomier c)
  roomier (and p room first others bare apart c cs) = and p (suc room) first others bare apart (roomier c) (roomier_all cs)
  roomier (or p room first others bare apart c cs) = or p (suc room) first others bare apart (roomier c) (roomier_all cs)
  roomier (group p room x grouped c) = group p (suc room) x grouped (roomier c)

  pub roomier_all : {p : ConditionPlace} {room : ℕ} {cs : List Condition} → AreCanonicalConditions p room cs → AreCanonicalConditions p (suc room) cs
  roomier_all (last p room x c) = last p (suc room) x (roomier c)
  roomier_all (more p room x others c cs) = more p (suc room) x others (roomier c) (roomier_all cs)

widened : {n m : ℕ} → Wider n m → {p : ConditionPlace} {x : Condition} → IsCanonicalCondition p n x → IsCanonicalCondition p m x
widened (alike n) c = c
widened (wider w) c = widened w (roomier c)

widened_all : {n m : ℕ} → Wider n m → {p : ConditionPlace} {cs : List Condition} → AreCanonicalConditions p n cs → AreCanonicalConditions p m cs
widened_all (alike n) cs = cs
widened_all (wider w) cs = widened_all w (roomier_all cs)

-- ---- other places

-- in parentheses, where there have to be some, a condition may stand anywhere
pub anywhere : {p : ConditionPlace} {room : ℕ} {x : Condition} (q : ConditionPlace) → IsCanonicalCondition p room x → IsCanonicalCondition q (suc room) x
anywhere q (truth p room place) = truth q (suc room) place
anywhere q (falsehood p room place) = falsehood q (suc room) place
anywhere q (term p room t free) = term q (suc room) t free
anywhere q (same p room t place u free free_too) = same q (suc room) t place u free free_too
anywhere q (differ p room t place u free free_too) = differ q (suc room) t place u free free_too
anywhere q (of_variant p room t place variant free free_too) = of_variant q (suc room) t place variant free free_too
anywhere q (not p room place inner c) = not q (suc room) place inner (roomier c)
anywhere whole (and p room first others bare apart c cs) = and whole (suc room) first others refl apart (roomier c) (roomier_all cs)
anywhere conjunction (and p room first others bare apart c cs) = and conjunction (suc room) first others refl apart (roomier c) (roomier_all cs)
anywhere literal (and p room first others bare apart c cs) =
    group literal room (condition.And first others) (and_grouped literal first others refl) (and whole room first others refl apart c cs)
anywhere whole (or p room first others bare apart c cs) = or whole (suc room) first others refl apart (roomier c) (roomier_all cs)
anywhere conjunction (or p room first others bare apart c cs) =
    group conjunction room (condition.Or first others) (or_grouped conjunction first others refl) (or whole room first others refl apart c cs)
anywhere literal (or p room first others bare apart c cs) =
    group literal room (condition.Or first others) (or_grouped literal first others refl) (or whole room first others refl apart c cs)
anywhere q (group p room x grouped c) = roomier (anywhere q c)

-- a condition may stand where what it is needs no more parentheses
moved : {p : ConditionPlace} {room : ℕ} {x : Condition} (q : ConditionPlace) → IsCanonicalCondition p room x →
    (is_or_node (out-Condition x) ≡ true → nat_lt 0 (asks p) ≡ false → nat_lt 0 (asks q) ≡ false) →
    (is_and_node (out-Condition x) ≡ true → nat_lt 1 (asks p) ≡ false → nat_lt 1 (asks q) ≡ false) → IsCanonicalCondition q room x
unfolding roll-Condition roll out-Condition out
moved q (truth p room place) o a = truth q room place
moved q (falsehood p room place) o a = falsehood q room place
moved q (term p room t free) o a = term q room t free
moved q (same p room t place u free free_too) o a = same q room t place u free free_too
moved q (differ p room t place u free free_too) o a = differ q room t place u free free_too
moved q (of_variant p room t place variant free free_too) o a = of_variant q room t place variant free free_too
moved q (not p room place inner c) o a = not q room place inner c
moved q (and p room first others bare apart c cs) o a = and q room first others (a refl bare) apart c cs
moved q (or p room first others bare apart c cs) o a = or q room first others (o refl bare) apart c cs
moved q (group p room x grouped c) o a = anywhere q c

pub as_whole : {room : ℕ} {x : Condition} → IsCanonicalCondition conjunction room x → IsCanonicalCondition whole room x
as_whole c = moved whole c (λ o b. refl) (λ a b. refl)

pub as_conjunction : {room : ℕ} {x : Condition} → IsCanonicalCondition literal room x → IsCanonicalCondition conjunction room x
as_conjunction c = moved conjunction c (λ o b. absurd (cc b)) (λ a b. refl)

as_alternative : {room : ℕ} {x : Condition} → IsCanonicalCondition whole room x → is_or_node (out-Condition x) ≡ false → IsCanonicalCondition conjunction room x
as_alternative c apart = moved conjunction c (λ o b. absurd (cc (o, apart))) (λ a b. refl)

as_literal : {room : ℕ} {x : Condition} → IsCanonicalCondition conjunction room x → is_and_node (out-Condition x) ≡ false → IsCanonicalCondition literal room x
as_literal c apart = moved literal c (λ o b. absurd (cc b)) (λ a b. absurd (cc (a, apart)))

-- ---- chains

one_more_condition : {p : ConditionPlace} {room : ℕ} {xs : List Condition} {x : Condition} → AreCanonicalConditions p room xs → IsCanonicalCondition p room x →
    AreCanonicalConditions p room (xs ++ x ∷ [])
one_more_condition {x = x} (last p room y c) one = more p room y (x ∷ []) c (last p room x one)
one_more_condition {x = x} (more p room y others c cs) one = more p room y (others ++ x ∷ []) c (one_more_condition cs one)

or_from : {p : ConditionPlace} {n room : ℕ} {x other : Condition} → IsCanonicalCondition p n x → Wider n room → IsCanonicalCondition whole room x →
    IsCanonicalCondition conjunction room other → IsCanonicalCondition whole room (either_condition x other)
unfolding roll-Condition roll out-Condition out
or_from {room = room} {other = other} (truth p n place) w c one =
    or whole room (condition.True place) (other ∷ []) refl refl (as_alternative c refl) (last conjunction room other one)
or_from {room = room} {other = other} (falsehood p n place) w c one =
    or whole room (condition.False place) (other ∷ []) refl refl (as_alternative c refl) (last conjunction room other one)
or_from {room = room} {other = other} (term p n t free) w c one =
    or whole room (condition.Truth t) (other ∷ []) refl refl (as_alternative c refl) (last conjunction room other one)
or_from {room = room} {other = other} (same p n t place u free free_too) w c one =
    or whole room (condition.Same t place u) (other ∷ []) refl refl (as_alternative c refl) (last conjunction room other one)
or_from {room = room} {other = other} (differ p n t place u free free_too) w c one =
    or whole room (condition.Differ t place u) (other ∷ []) refl refl (as_alternative c refl) (last conjunction room other one)
or_from {room = room} {other = other} (of_variant p n t place variant free free_too) w c one =
    or whole room (condition.Is t place variant) (other ∷ []) refl refl (as_alternative c refl) (last conjunction room other one)
or_from {room = room} {other = other} (not p n place inner f) w c one =
    or whole room (condition.Not place inner) (other ∷ []) refl refl (as_alternative c refl) (last conjunction room other one)
or_from {room = room} {other = other} (and p n first others bare apart f fs) w c one =
    or whole room (condition.And first others) (other ∷ []) refl refl (as_alternative c refl) (last conjunction room other one)
or_from {room = room} {other = other} (or p n first others bare apart f fs) w c one =
    subst (λ n. IsCanonicalCondition whole room (or_by n (condition.Or first others) other)) (sym (out-roll-Condition (Condition-F.Or first others)))
    (or whole room first (others ++ other ∷ []) refl apart (widened w f) (one_more_condition (widened_all w fs) one))
or_from (group p n x grouped f) w c one = or_from f (wider w) c one

pub or_settled : {room : ℕ} {x other : Condition} → IsCanonicalCondition whole room x → IsCanonicalCondition conjunction room other →
    IsCanonicalCondition whole room (either_condition x other)
or_settled {room} c one = or_from c (alike room) c one

and_from : {p : ConditionPlace} {n room : ℕ} {x other : Condition} → IsCanonicalCondition p n x → Wider n room → IsCanonicalCondition conjunction room x →
    IsCanonicalCondition literal room other → IsCanonicalCondition conjunction room (both_conditions x other)
unfolding roll-Condition roll out-Condition out
and_from {room = room} {other = other} (truth p n place) w c one =
    and conjunction room (condition.True place) (other ∷ []) refl refl (as_literal c refl) (last literal room other one)
and_from {room = room} {other = other} (falsehood p n place) w c one =
    and conjunction room (condition.False place) (other ∷ []) refl refl (as_literal c refl) (last literal room other one)
and_from {room = room} {other = other} (term p n t free) w c one =
    and conjunction room (condition.Truth t) (other ∷ []) refl refl (as_literal c refl) (last literal room other one)
and_from {room = room} {other = other} (same p n t place u free free_too) w c one =
    and conjunction room (condition.Same t place u) (other ∷ []) refl refl (as_literal c refl) (last literal room other one)
and_from {room = room} {other = other} (differ p n t place u free free_too) w c one =
    and conjunction room (condition.Differ t place u) (other ∷ []) refl refl (as_literal c refl) (last literal room other one)
and_from {room = room} {other = other} (of_variant p n t place variant free free_too) w c one =
    and conjunction room (condition.Is t place variant) (other ∷ []) refl refl (as_literal c refl) (last literal room other one)
and_from {room = room} {other = other} (not p n place inner f) w c one =
    and conjunction room (condition.Not place inner) (other ∷ []) refl refl (as_literal c refl) (last literal room other one)
and_from {room = room} {other = other} (and p n first others bare apart f fs) w c one =
    subst (λ n. IsCanonicalCondition conjunction room (and_by n (condition.And first others) other)) (sym (out-roll-Condition (Condition-F.And first others)))
    (and conjunction room first (others ++ other ∷ []) refl apart (widened w f) (one_more_condition (widened_all w fs) one))
and_from {room = room} {other = other} (or p n first others bare apart f fs) w c one =
    and conjunction room (condition.Or first others) (other ∷ []) refl refl (as_literal c refl) (last literal room other one)
and_from (group p n x grouped f) w c one = and_from f (wider w) c one

pub and_settled : {room : ℕ} {x other : Condition} → IsCanonicalCondition conjunction room x → IsCanonicalCondition literal room other →
    IsCanonicalCondition conjunction room (both_conditions x other)
and_settled {room} c one = and_from c (alike room) c one
