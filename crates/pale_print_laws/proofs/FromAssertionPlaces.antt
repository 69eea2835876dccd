-- Where a canonical assertion may stand as well, with more room or in parentheses; and chains of assertions that grow at their end.
use Rattle.std.proofs.Common.{◌≡◌, ℕ, suc, nat_lt, Bool, true, false, List, [], ◌∷◌, ◌++◌, refl, sym, subst}
use Rattle.pale_text.specs.declared.place.Pos.{Pos}
use Rattle.pale_text.specs.declared.token.Mark.TheVariants as mark
use Rattle.pale_text.specs.declared.token.TokenKind.{TokenKind}
use Rattle.pale_syntax.specs.declared.tree.assertion.Assertion.{Assertion, out-Assertion, roll-Assertion, out-roll-Assertion}
use Rattle.pale_syntax.specs.declared.tree.assertion.Assertion.TheVariants as assertion
use Rattle.pale_syntax.specs.declared.tree.assertion.Assertion.TheOpen.{Assertion-F}
use Rattle.pale_syntax.specs.declared.tree.assertion.Assertion.TheFolds.{fold-roll-Assertion, map-Assertion}
use Rattle.pale_syntax.specs.declared.tree.assertion.Quantifier.{Quantifier}
use denote.Hole.Carrier.{roll, out}
use Rattle.pale_syntax.specs.MakingAssertions.{and_by, or_by, iff_by, both, either, equivalent}
use Rattle.pale_print.specs.Tokens.{◌>>◌, sign}
use Rattle.pale_print.specs.AssertionTokens.{Operand, assertion_node, assertion_tokens}
use Rattle.pale_print_laws.specs.CanonicalAssertions.{AssertionPlace, whole, implication, disjunct, conjunct, operand, asks}
use Rattle.pale_print_laws.specs.CanonicalAssertions.{is_and_node, is_or_node, is_iff_node, IsGrouped, IsCanonicalAssertion}
use Rattle.pale_print_laws.specs.CanonicalAssertions.{truth, falsehood, path, same, differ, member, subset, walk, of_variant}
use Rattle.pale_print_laws.specs.CanonicalAssertions.{use_of, not, and, or, imp, iff, quantified, group, AreCanonicalAssertions}
use Rattle.pale_print_laws.specs.CanonicalAssertions.{last, more}
use Rattle.pale_print_laws.proofs.FromRoutePlaces.{roomier as roomier_route}
use Rattle.pale_print_laws.proofs.FromLevels.{Wider, alike, wider}

-- ---- parentheses

node_grouped : (p : AssertionPlace) (followed : Bool) (x : Assertion-F Assertion) →
    ((after : List TokenKind) → assertion_node (map-Assertion Assertion Operand assertion_tokens x) (asks p) followed after ≡
    (sign mark.LeftParen >> assertion_node (map-Assertion Assertion Operand assertion_tokens x) 0 false >> sign mark.RightParen >> after)) →
    IsGrouped p followed (roll-Assertion x)
unfolding assertion_tokens
node_grouped p followed x agrees after =
    subst (λ (t : Operand). t (asks p) followed after ≡ (sign mark.LeftParen >> t 0 false >> sign mark.RightParen >> after))
    (sym (fold-roll-Assertion Operand assertion_node x))
    (agrees after)

and_grouped : (p : AssertionPlace) (followed : Bool) (first : Assertion) (others : List Assertion) → nat_lt 3 (asks p) ≡ true →
    IsGrouped p followed (assertion.And first others)
unfolding roll-Assertion roll
and_grouped whole followed first others loose = absurd (cc loose)
and_grouped implication followed first others loose = absurd (cc loose)
and_grouped disjunct followed first others loose = absurd (cc loose)
and_grouped conjunct followed first others loose = absurd (cc loose)
and_grouped operand followed first others loose = node_grouped operand followed (Assertion-F.And first others) (λ after. refl)

or_grouped : (p : AssertionPlace) (followed : Bool) (first : Assertion) (others : List Assertion) → nat_lt 2 (asks p) ≡ true →
    IsGrouped p followed (assertion.Or first others)
unfolding roll-Assertion roll
or_grouped whole followed first others loose = absurd (cc loose)
or_grouped implication followed first others loose = absurd (cc loose)
or_grouped disjunct followed first others loose = absurd (cc loose)
or_grouped conjunct followed first others loose = node_grouped conjunct followed (Assertion-F.Or first others) (λ after. refl)
or_grouped operand followed first others loose = node_grouped operand followed (Assertion-F.Or first others) (λ after. refl)

imp_grouped : (p : AssertionPlace) (followed : Bool) (left : Assertion) (place : Pos) (right : Assertion) →
    nat_lt 1 (asks p) ≡ true → IsGrouped p followed (assertion.Imp left place right)
unfolding roll-Assertion roll
imp_grouped whole followed left place right loose = absurd (cc loose)
imp_grouped implication followed left place right loose = absurd (cc loose)
imp_grouped disjunct followed left place right loose = node_grouped disjunct followed (Assertion-F.Imp left place right) (λ after. refl)
imp_grouped conjunct followed left place right loose = node_grouped conjunct followed (Assertion-F.Imp left place right) (λ after. refl)
imp_grouped operand followed left place right loose = node_grouped operand followed (Assertion-F.Imp left place right) (λ after. refl)

iff_grouped : (p : AssertionPlace) (followed : Bool) (first : Assertion) (others : List Assertion) → nat_lt 0 (asks p) ≡ true →
    IsGrouped p followed (assertion.Iff first others)
unfolding roll-Assertion roll
iff_grouped whole followed first others loose = absurd (cc loose)
iff_grouped implication followed first others loose = node_grouped implication followed (Assertion-F.Iff first others) (λ after. refl)
iff_grouped disjunct followed first others loose = node_grouped disjunct followed (Assertion-F.Iff first others) (λ after. refl)
iff_grouped conjunct followed first others loose = node_grouped conjunct followed (Assertion-F.Iff first others) (λ after. refl)
iff_grouped operand followed first others loose = node_grouped operand followed (Assertion-F.Iff first others) (λ after. refl)

quantified_grouped : (p : AssertionPlace) (q : Quantifier) (inner : Assertion) → IsGrouped p true (assertion.Quantified q inner)
unfolding roll-Assertion roll
quantified_grouped p q inner = node_grouped p true (Assertion-F.Quantified q inner) (λ after. refl)

-- ---- more room

mutual
  pub roomier : {p : AssertionPlace} {followed : Bool} {room : ℕ} {a : Assertion} → IsCanonicalAssertion p followed room a →
      IsCanonicalAssertion p followed (suc room) a
  roomier (truth p followed room) = truth p followed (suc room)
  roomier (falsehood p followed room) = falsehood p followed (suc room)
  roomier (path p followed room x free) = path p followed (suc room) x free
  roomier (same p followed room t place u free free_too) = same p followed (suc room) t place u free free_too
  roomier (differ p followed room t place u free free_too) = differ p followed (suc room) t place u free free_too
  roomier (member p followed room t place set free free_too) = member p followed (suc room) t place set free free_too
  roomier (subset p followed room t place set free free_too) = subset p followed (suc room) t place set free free_too
  roomier (walk p followed room t place r u free c free_too) = walk p followed (suc room) t place r u free (roomier_route c) free_too
  roomier (of_variant p followed room t place variant free free_too) = of_variant p followed (suc room) t place variant free free_too
  roomier (use_of p followed room predicate arguments free frees) = use_of p followed (suc room) predicate arguments free frees
  roomier (not p followed room place inner c) = not p followed (suc room) place inner (roomier c)
  roomier (and p followed room first next others bare apart c cs) = and p followed (suc room) first next others bare apart (roomier c) (roomier_all cs)
  roomier (or p followed room first next others bare apart c cs) = or p followed (suc room) first next others bare apart (roomier c) (roomier_all cs)
  roomier (imp p followed room left place right bare c d) = imp p followed (suc room) left place right bare (roomier c) (roomier d)
  roomier (iff p followed room first next others bare apart c cs) = iff p followed (suc room) first next others bare apart (roomier c) (roomier_all cs)
  roomier (quantified p room kind place sets first others ty inner free frees ty_free c) =
      quantified p (suc room) kind place sets first others ty inner free frees ty_free (roomier c)
  roomier (group p followed room a grouped c) = group p followed (suc room) a grouped (roomier c)

  pub roomier_all : {p : AssertionPlace} {followed : Bool} {room : ℕ} {xs : List Assertion} → AreCanonicalAssertions p followed room xs →
      AreCanonicalAssertions p followed (suc room) xs
  roomier_all (last p followed room a c) = last p followed (suc room) a (roomier c)
  roomier_all (more p followed room a b others c cs) = more p followed (suc room) a b others (roomier c) (roomier_all cs)

widened : {n m : ℕ} → Wider n m → {p : AssertionPlace} {followed : Bool} {a : Assertion} → IsCanonicalAssertion p followed n a →
    IsCanonicalAssertion p followed m a
widened (alike n) c = c
widened (wider w) c = widened w (roomier c)

widened_all : {n m : ℕ} → Wider n m → {p : AssertionPlace} {followed : Bool} {xs : List Assertion} → AreCanonicalAssertions p followed n xs →
    AreCanonicalAssertions p followed m xs
widened_all (alike n) cs = cs
widened_all (wider w) cs = widened_all w (roomier_all cs)

-- ---- other places

mutual
  -- where no operator follows, there are no more parentheses
  pub unfollowed : {p : AssertionPlace} {followed : Bool} {room : ℕ} {a : Assertion} → IsCanonicalAssertion p followed room a →
      IsCanonicalAssertion p false room a
  unfollowed (truth p followed room) = truth p false room
  unfollowed (falsehood p followed room) = falsehood p false room
  unfollowed (path p followed room x free) = path p false room x free
  unfollowed (same p followed room t place u free free_too) = same p false room t place u free free_too
  unfollowed (differ p followed room t place u free free_too) = differ p false room t place u free free_too
  unfollowed (member p followed room t place set free free_too) = member p false room t place set free free_too
  unfollowed (subset p followed room t place set free free_too) = subset p false room t place set free free_too
  unfollowed (walk p followed room t place r u free c free_too) = walk p false room t place r u free c free_too
  unfollowed (of_variant p followed room t place variant free free_too) = of_variant p false room t place variant free free_too
  unfollowed (use_of p followed room predicate arguments free frees) = use_of p false room predicate arguments free frees
  unfollowed (not p followed room place inner c) = not p false room place inner (unfollowed c)
  unfollowed (and p followed room first next others bare apart c cs) = and p false room first next others bare apart c (unfollowed_all cs)
  unfollowed (or p followed room first next others bare apart c cs) = or p false room first next others bare apart c (unfollowed_all cs)
  unfollowed (imp p followed room left place right bare c d) = imp p false room left place right bare c (unfollowed d)
  unfollowed (iff p followed room first next others bare apart c cs) = iff p false room first next others bare apart c (unfollowed_all cs)
  unfollowed (quantified p room kind place sets first others ty inner free frees ty_free c) =
      quantified p room kind place sets first others ty inner free frees ty_free c
  unfollowed (group p followed room a grouped c) = anywhere p false c

  unfollowed_all : {p : AssertionPlace} {followed : Bool} {room : ℕ} {xs : List Assertion} → AreCanonicalAssertions p followed room xs →
      AreCanonicalAssertions p false room xs
  unfollowed_all (last p followed room a c) = last p false room a (unfollowed c)
  unfollowed_all (more p followed room a b others c cs) = more p false room a b others c (unfollowed_all cs)

  -- in parentheses, where there have to be some, an assertion may stand anywhere
  pub anywhere : {p : AssertionPlace} {followed : Bool} {room : ℕ} {a : Assertion} (q : AssertionPlace) (then : Bool) → IsCanonicalAssertion p followed room a →
      IsCanonicalAssertion q then (suc room) a
  anywhere q then (truth p followed room) = truth q then (suc room)
  anywhere q then (falsehood p followed room) = falsehood q then (suc room)
  anywhere q then (path p followed room x free) = path q then (suc room) x free
  anywhere q then (same p followed room t place u free free_too) = same q then (suc room) t place u free free_too
  anywhere q then (differ p followed room t place u free free_too) = differ q then (suc room) t place u free free_too
  anywhere q then (member p followed room t place set free free_too) = member q then (suc room) t place set free free_too
  anywhere q then (subset p followed room t place set free free_too) = subset q then (suc room) t place set free free_too
  anywhere q then (walk p followed room t place r u free c free_too) = walk q then (suc room) t place r u free (roomier_route c) free_too
  anywhere q then (of_variant p followed room t place variant free free_too) = of_variant q then (suc room) t place variant free free_too
  anywhere q then (use_of p followed room predicate arguments free frees) = use_of q then (suc room) predicate arguments free frees
  anywhere q then (not p followed room place inner c) = not q then (suc room) place inner (anywhere operand then c)
  anywhere whole then (and p followed room first next others bare apart c cs) =
      and whole then (suc room) first next others refl apart (roomier c) (anywhere_all then cs)
  anywhere implication then (and p followed room first next others bare apart c cs) =
      and implication then (suc room) first next others refl apart (roomier c) (anywhere_all then cs)
  anywhere disjunct then (and p followed room first next others bare apart c cs) =
      and disjunct then (suc room) first next others refl apart (roomier c) (anywhere_all then cs)
  anywhere conjunct then (and p followed room first next others bare apart c cs) =
      and conjunct then (suc room) first next others refl apart (roomier c) (anywhere_all then cs)
  anywhere operand then (and p followed room first next others bare apart c cs) =
      group operand then room (assertion.And first (next ∷ others)) (and_grouped operand then first (next ∷ others) refl)
      (and whole false room first next others refl apart c (unfollowed_all cs))
  anywhere whole then (or p followed room first next others bare apart c cs) =
      or whole then (suc room) first next others refl apart (roomier c) (anywhere_all then cs)
  anywhere implication then (or p followed room first next others bare apart c cs) =
      or implication then (suc room) first next others refl apart (roomier c) (anywhere_all then cs)
  anywhere disjunct then (or p followed room first next others bare apart c cs) =
      or disjunct then (suc room) first next others refl apart (roomier c) (anywhere_all then cs)
  anywhere conjunct then (or p followed room first next others bare apart c cs) =
      group conjunct then room (assertion.Or first (next ∷ others)) (or_grouped conjunct then first (next ∷ others) refl)
      (or whole false room first next others refl apart c (unfollowed_all cs))
  anywhere operand then (or p followed room first next others bare apart c cs) =
      group operand then room (assertion.Or first (next ∷ others)) (or_grouped operand then first (next ∷ others) refl)
      (or whole false room first next others refl apart c (unfollowed_all cs))
  anywhere whole then (iff p followed room first next others bare apart c cs) =
      iff whole then (suc room) first next others refl apart (roomier c) (anywhere_all then cs)
  anywhere implication then (iff p followed room first next others bare apart c cs) =
      group implication then room (assertion.Iff first (next ∷ others)) (iff_grouped implication then first (next ∷ others) refl)
      (iff whole false room first next others refl apart c (unfollowed_all cs))
  anywhere disjunct then (iff p followed room first next others bare apart c cs) =
      group disjunct then room (assertion.Iff first (next ∷ others)) (iff_grouped disjunct then first (next ∷ others) refl)
      (iff whole false room first next others refl apart c (unfollowed_all cs))
  anywhere conjunct then (iff p followed room first next others bare apart c cs) =
      group conjunct then room (assertion.Iff first (next ∷ others)) (iff_grouped conjunct then first (next ∷ others) refl)
      (iff whole false room first next others refl apart c (unfollowed_all cs))
  anywhere operand then (iff p followed room first next others bare apart c cs) =
      group operand then room (assertion.Iff first (next ∷ others)) (iff_grouped operand then first (next ∷ others) refl)
      (iff whole false room first next others refl apart c (unfollowed_all cs))
  anywhere whole then (imp p followed room left place right bare c d) =
      imp whole then (suc room) left place right refl (roomier c) (anywhere implication then d)
  anywhere implication then (imp p followed room left place right bare c d) =
      imp implication then (suc room) left place right refl (roomier c) (anywhere implication then d)
  anywhere disjunct then (imp p followed room left place right bare c d) =
      group disjunct then (suc room) (assertion.Imp left place right) (imp_grouped disjunct then left place right refl)
      (imp whole false room left place right refl c (unfollowed d))
  anywhere conjunct then (imp p followed room left place right bare c d) =
      group conjunct then (suc room) (assertion.Imp left place right) (imp_grouped conjunct then left place right refl)
      (imp whole false room left place right refl c (unfollowed d))
  anywhere operand then (imp p followed room left place right bare c d) =
      group operand then (suc room) (assertion.Imp left place right) (imp_grouped operand then left place right refl)
      (imp whole false room left place right refl c (unfollowed d))
  anywhere q false (quantified p room kind place sets first others ty inner free frees ty_free c) =
      quantified q (suc room) kind place sets first others ty inner free frees ty_free (roomier c)
  anywhere q true (quantified p room kind place sets first others ty inner free frees ty_free c) =
      group q true (suc room) (assertion.Quantified (record { kind = kind; place = place; of_sets = sets; names = first ∷ others; ty = ty }) inner)
      (quantified_grouped q (record { kind = kind; place = place; of_sets = sets; names = first ∷ others; ty = ty }) inner)
      (quantified whole room kind place sets first others ty inner free frees ty_free c)
  anywhere q then (group p followed room a grouped c) = roomier (anywhere q then c)

  anywhere_all : {p : AssertionPlace} {followed : Bool} {room : ℕ} {xs : List Assertion} (then : Bool) → AreCanonicalAssertions p followed room xs →
      AreCanonicalAssertions p then (suc room) xs
  anywhere_all then (last p followed room a c) = last p then (suc room) a (anywhere p then c)
  anywhere_all then (more p followed room a b others c cs) = more p then (suc room) a b others (roomier c) (anywhere_all then cs)

-- an assertion may stand where what it is needs no more parentheses
moved : {p : AssertionPlace} {followed : Bool} {room : ℕ} {a : Assertion} (q : AssertionPlace) → IsCanonicalAssertion p followed room a →
    (is_iff_node (out-Assertion a) ≡ true → nat_lt 0 (asks p) ≡ false → nat_lt 0 (asks q) ≡ false) →
    (nat_lt 1 (asks p) ≡ false → nat_lt 1 (asks q) ≡ false) →
    (is_or_node (out-Assertion a) ≡ true → nat_lt 2 (asks p) ≡ false → nat_lt 2 (asks q) ≡ false) →
    (is_and_node (out-Assertion a) ≡ true → nat_lt 3 (asks p) ≡ false → nat_lt 3 (asks q) ≡ false) → IsCanonicalAssertion q followed room a
unfolding roll-Assertion roll out-Assertion out
moved q (truth p followed room) i m o n = truth q followed room
moved q (falsehood p followed room) i m o n = falsehood q followed room
moved q (path p followed room x free) i m o n = path q followed room x free
moved q (same p followed room t place u free free_too) i m o n = same q followed room t place u free free_too
moved q (differ p followed room t place u free free_too) i m o n = differ q followed room t place u free free_too
moved q (member p followed room t place set free free_too) i m o n = member q followed room t place set free free_too
moved q (subset p followed room t place set free free_too) i m o n = subset q followed room t place set free free_too
moved q (walk p followed room t place r u free c free_too) i m o n = walk q followed room t place r u free c free_too
moved q (of_variant p followed room t place variant free free_too) i m o n = of_variant q followed room t place variant free free_too
moved q (use_of p followed room predicate arguments free frees) i m o n = use_of q followed room predicate arguments free frees
moved q (not p followed room place inner c) i m o n = not q followed room place inner c
moved q (and p followed room first next others bare apart c cs) i m o n = and q followed room first next others (n refl bare) apart c cs
moved q (or p followed room first next others bare apart c cs) i m o n = or q followed room first next others (o refl bare) apart c cs
moved q (imp p followed room left place right bare c d) i m o n = imp q followed room left place right (m bare) c d
moved q (iff p followed room first next others bare apart c cs) i m o n = iff q followed room first next others (i refl bare) apart c cs
moved q (quantified p room kind place sets first others ty inner free frees ty_free c) i m o n =
    quantified q room kind place sets first others ty inner free frees ty_free c
moved q (group p followed room a grouped c) i m o n = anywhere q followed c

pub as_whole : {followed : Bool} {room : ℕ} {a : Assertion} → IsCanonicalAssertion implication followed room a → IsCanonicalAssertion whole followed room a
as_whole c = moved whole c (λ i b. refl) (λ b. refl) (λ o b. refl) (λ n b. refl)

pub as_implication : {followed : Bool} {room : ℕ} {a : Assertion} → IsCanonicalAssertion disjunct followed room a →
    IsCanonicalAssertion implication followed room a
as_implication c = moved implication c (λ i b. absurd (cc b)) (λ b. refl) (λ o b. refl) (λ n b. refl)

pub as_disjunct : {followed : Bool} {room : ℕ} {a : Assertion} → IsCanonicalAssertion conjunct followed room a → IsCanonicalAssertion disjunct followed room a
as_disjunct c = moved disjunct c (λ i b. absurd (cc b)) (λ b. absurd (cc b)) (λ o b. refl) (λ n b. refl)

pub as_conjunct : {followed : Bool} {room : ℕ} {a : Assertion} → IsCanonicalAssertion operand followed room a → IsCanonicalAssertion conjunct followed room a
as_conjunct c = moved conjunct c (λ i b. absurd (cc b)) (λ b. absurd (cc b)) (λ o b. absurd (cc b)) (λ n b. refl)

of_iff : {followed : Bool} {room : ℕ} {a : Assertion} → IsCanonicalAssertion whole followed room a → is_iff_node (out-Assertion a) ≡ false →
    IsCanonicalAssertion implication followed room a
of_iff c apart = moved implication c (λ i b. absurd (cc (i, apart))) (λ b. refl) (λ o b. refl) (λ n b. refl)

of_or : {followed : Bool} {room : ℕ} {a : Assertion} → IsCanonicalAssertion disjunct followed room a → is_or_node (out-Assertion a) ≡ false →
    IsCanonicalAssertion conjunct followed room a
of_or c apart = moved conjunct c (λ i b. absurd (cc b)) (λ b. absurd (cc b)) (λ o b. absurd (cc (o, apart))) (λ n b. refl)

of_and : {followed : Bool} {room : ℕ} {a : Assertion} → IsCanonicalAssertion conjunct followed room a → is_and_node (out-Assertion a) ≡ false →
    IsCanonicalAssertion operand followed room a
of_and c apart = moved operand c (λ i b. absurd (cc b)) (λ b. absurd (cc b)) (λ o b. absurd (cc b)) (λ n b. absurd (cc (n, apart)))

-- ---- chains

-- an assertion stands here at a place that an operator follows, or so many levels are open in the parentheses around it
data Joins : Bool → ℕ → ℕ → Type 0 where
  here : (n : ℕ) → Joins true n n
  inside : {followed : Bool} {n m : ℕ} → Wider (suc n) m → Joins followed n m

inner_joins : {followed : Bool} {n m : ℕ} → Joins followed (suc n) m → Joins false n m
inner_joins (here n) = inside (alike n)
inner_joins (inside w) = inside (wider w)

joined : {followed : Bool} {n m : ℕ} → Joins followed n m → {p : AssertionPlace} {a : Assertion} →
    IsCanonicalAssertion p true n a → IsCanonicalAssertion p true m a
joined (here n) c = c
joined (inside w) c = widened w (roomier c)

joined_all : {followed : Bool} {n m : ℕ} → Joins followed n m → {p : AssertionPlace} {xs : List Assertion} → AreCanonicalAssertions p followed n xs →
    AreCanonicalAssertions p true m xs
joined_all (here n) cs = cs
joined_all (inside w) cs = widened_all w (anywhere_all true cs)

one_more_assertion : {p : AssertionPlace} {followed : Bool} {room : ℕ} {xs : List Assertion} {a : Assertion} → AreCanonicalAssertions p true room xs →
    IsCanonicalAssertion p followed room a → AreCanonicalAssertions p followed room (xs ++ a ∷ [])
one_more_assertion {followed = followed} {a = a} (last p _ room x c) one = more p followed room x a [] c (last p followed room a one)
one_more_assertion {followed = followed} {a = a} (more p _ room x y others c cs) one = more p followed room x y (others ++ a ∷ []) c (one_more_assertion cs one)

and_from : {p : AssertionPlace} {inner then : Bool} {n room : ℕ} {a other : Assertion} → IsCanonicalAssertion p inner n a → Joins inner n room →
    IsCanonicalAssertion conjunct true room a → IsCanonicalAssertion operand then room other → IsCanonicalAssertion conjunct then room (both a other)
unfolding roll-Assertion roll out-Assertion out
and_from {then = then} {room = room} {other = other} (and p inner n first next others bare apart f fs) j c one =
    subst (λ x. IsCanonicalAssertion conjunct then room (and_by x (assertion.And first (next ∷ others)) other))
    (sym (out-roll-Assertion (Assertion-F.And first (next ∷ others))))
    (and conjunct then room first next (others ++ other ∷ []) refl apart (joined j f) (one_more_assertion (joined_all j fs) one))
and_from (group p inner n a grouped f) j c one = and_from f (inner_joins j) c one
and_from {then = then} {room = room} {a = a} {other = other} e j c one =
    and conjunct then room a other [] refl refl (of_and c refl) (last operand then room other one)

pub and_settled : {then : Bool} {room : ℕ} {a other : Assertion} → IsCanonicalAssertion conjunct true room a → IsCanonicalAssertion operand then room other →
    IsCanonicalAssertion conjunct then room (both a other)
and_settled {room = room} c one = and_from c (here room) c one

or_from : {p : AssertionPlace} {inner then : Bool} {n room : ℕ} {a other : Assertion} → IsCanonicalAssertion p inner n a → Joins inner n room →
    IsCanonicalAssertion disjunct true room a → IsCanonicalAssertion conjunct then room other → IsCanonicalAssertion disjunct then room (either a other)
unfolding roll-Assertion roll out-Assertion out
or_from {then = then} {room = room} {other = other} (or p inner n first next others bare apart f fs) j c one =
    subst (λ x. IsCanonicalAssertion disjunct then room (or_by x (assertion.Or first (next ∷ others)) other))
    (sym (out-roll-Assertion (Assertion-F.Or first (next ∷ others))))
    (or disjunct then room first next (others ++ other ∷ []) refl apart (joined j f) (one_more_assertion (joined_all j fs) one))
or_from (group p inner n a grouped f) j c one = or_from f (inner_joins j) c one
or_from {then = then} {room = room} {a = a} {other = other} e j c one =
    or disjunct then room a other [] refl refl (of_or c refl) (last conjunct then room other one)

pub or_settled : {then : Bool} {room : ℕ} {a other : Assertion} → IsCanonicalAssertion disjunct true room a → IsCanonicalAssertion conjunct then room other →
    IsCanonicalAssertion disjunct then room (either a other)
or_settled {room = room} c one = or_from c (here room) c one

iff_from : {p : AssertionPlace} {inner then : Bool} {n room : ℕ} {a other : Assertion} → IsCanonicalAssertion p inner n a → Joins inner n room →
    IsCanonicalAssertion whole true room a → IsCanonicalAssertion implication then room other → IsCanonicalAssertion whole then room (equivalent a other)
unfolding roll-Assertion roll out-Assertion out
iff_from {then = then} {room = room} {other = other} (iff p inner n first next others bare apart f fs) j c one =
    subst (λ x. IsCanonicalAssertion whole then room (iff_by x (assertion.Iff first (next ∷ others)) other))
    (sym (out-roll-Assertion (Assertion-F.Iff first (next ∷ others))))
    (iff whole then room first next (others ++ other ∷ []) refl apart (joined j f) (one_more_assertion (joined_all j fs) one))
iff_from (group p inner n a grouped f) j c one = iff_from f (inner_joins j) c one
iff_from {then = then} {room = room} {a = a} {other = other} e j c one =
    iff whole then room a other [] refl refl (of_iff c refl) (last implication then room other one)

pub iff_settled : {then : Bool} {room : ℕ} {a other : Assertion} → IsCanonicalAssertion whole true room a → IsCanonicalAssertion implication then room other →
    IsCanonicalAssertion whole then room (equivalent a other)
iff_settled {room = room} c one = iff_from c (here room) c one
