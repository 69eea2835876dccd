-- How many tokens a condition has at each place.
use Rattle.std.proofs.Common.{◌≡◌, ℕ, suc, ◌+◌, ◌≤◌, nat_lt, false, List, [], ◌∷◌, ◌++◌, length, map, refl, sym, ap, subst, arith}
use Rattle.pale_text.specs.declared.token.Mark.{Mark}
use Rattle.pale_text.specs.declared.token.Mark.TheVariants as mark
use Rattle.pale_text.specs.declared.token.TokenKind.{TokenKind}
use Rattle.pale_text.specs.declared.place.Pos.{Pos}
use Rattle.pale_syntax.specs.declared.tree.names.Name.{Name}
use Rattle.pale_syntax.specs.declared.tree.names.Term.{Term}
use Rattle.pale_syntax.specs.declared.tree.condition.Condition.{Condition, roll-Condition, out-roll-Condition}
use Rattle.pale_syntax.specs.declared.tree.condition.Condition.TheVariants as condition
use Rattle.pale_syntax.specs.declared.tree.condition.Condition.TheOpen.{Condition-F}
use Rattle.pale_syntax.specs.declared.tree.condition.Condition.TheFolds.{fold-Condition, fold-roll-Condition, ind-Condition, map-Condition}
use denote.Hole.Carrier.{roll}
use Rattle.pale_syntax.specs.MakingConditions.{and_by, or_by, both_conditions, either_condition}
use Rattle.pale_print.specs.Tokens.{each_behind, sign, ◌>>◌, name_tokens, term_tokens}
use Rattle.pale_print.specs.RouteTokens.{Placed}
use Rattle.pale_print.specs.ConditionTokens.{condition_node, condition_tokens}
use Rattle.pale_print_laws.specs.CanonicalConditions.{is_and_node, is_or_node}
use Rattle.pale_print_laws.proofs.ConditionShapes.{opened_condition}
use Rattle.pale_print_laws.proofs.RouteSizes.{Size, grouped_size, behind_size, Takes, grouped_takes}
use Rattle.pale_print_laws.proofs.NameSizes.{term_size, term_takes}

abbrev pub size_node : Condition-F Size → Size
size_node (Condition-F.True place) asked = 1
size_node (Condition-F.False place) asked = 1
size_node (Condition-F.Truth t) asked = term_size t
size_node (Condition-F.Same t place u) asked = term_size t + suc (term_size u)
size_node (Condition-F.Differ t place u) asked = term_size t + suc (term_size u)
size_node (Condition-F.Is t place variant) asked = term_size t + 2
size_node (Condition-F.Not place inner) asked = suc (inner 2)
size_node (Condition-F.And first others) asked = grouped_size (nat_lt 1 asked) (first 2 + behind_size 2 others)
size_node (Condition-F.Or first others) asked = grouped_size (nat_lt 0 asked) (first 1 + behind_size 1 others)

unfoldable pub condition_size : Condition → Size
condition_size = fold-Condition Size size_node

pub sized_at : (x : Condition-F Condition) → condition_size (roll-Condition x) ≡ size_node (map-Condition Condition Size condition_size x)
unfolding condition_size
sized_at x = fold-roll-Condition Size size_node x

-- ---- the tokens are so many

abbrev Sized : Condition → Type 0
Sized c = (asked : ℕ) → Takes (condition_tokens c asked) (condition_size c asked)

abbrev Known : Type 0
Known = (c : Condition) × Sized c

behind_takes : (m : Mark) (asked : ℕ) (others : List Known) (after : List TokenKind) →
    length (each_behind m (λ (other : Placed). other asked) (map condition_tokens (map (λ (e : Known). e.0) others)) after) ≡
    behind_size asked (map condition_size (map (λ (e : Known). e.0) others)) + length after
behind_takes m asked [] after = omega arith
behind_takes m asked (one ∷ others) after =
    let e = (one.1 asked).takes (each_behind m (λ (other : Placed). other asked) (map condition_tokens (map (λ (e : Known). e.0) others)) after) in
    let more = behind_takes m asked others after in
    omega arith

node_takes : (y : Condition-F Known) (asked : ℕ) →
    Takes (condition_node (map-Condition Condition Placed condition_tokens (map-Condition Known Condition (λ e. e.0) y)) asked)
    (size_node (map-Condition Condition Size condition_size (map-Condition Known Condition (λ e. e.0) y)) asked)
node_takes (Condition-F.True place) asked = record { takes = λ after. omega arith }
node_takes (Condition-F.False place) asked = record { takes = λ after. omega arith }
node_takes (Condition-F.Truth t) asked = term_takes t
node_takes (Condition-F.Same t place u) asked = record {
  takes = λ after.
      let e = (term_takes t).takes (sign mark.SameAs >> term_tokens u >> after) in
      let f = (term_takes u).takes after in
      omega arith;
}
node_takes (Condition-F.Differ t place u) asked = record {
  takes = λ after.
      let e = (term_takes t).takes (sign mark.NotSame >> term_tokens u >> after) in
      let f = (term_takes u).takes after in
      omega arith;
}
node_takes (Condition-F.Is t place variant) asked = record {
  takes = λ after.
      let e = (term_takes t).takes (sign mark.Colon >> name_tokens variant >> after) in
      omega arith;
}
node_takes (Condition-F.Not place inner) asked = record { takes = λ after. let e = (inner.1 2).takes after in omega arith }
node_takes (Condition-F.And first others) asked =
    grouped_takes (nat_lt 1 asked) _ _ (record {
      takes = λ after.
          let e = (first.1 2).takes (each_behind mark.AndAlso (λ (other : Placed). other 2) (map condition_tokens (map (λ (e : Known). e.0) others)) after) in
          let more = behind_takes mark.AndAlso 2 others after in
          omega arith;
    })
node_takes (Condition-F.Or first others) asked =
    grouped_takes (nat_lt 0 asked) _ _ (record {
      takes = λ after.
          let e = (first.1 1).takes (each_behind mark.OrElse (λ (other : Placed). other 1) (map condition_tokens (map (λ (e : Known). e.0) others)) after) in
          let more = behind_takes mark.OrElse 1 others after in
          omega arith;
    })

tokens_at : (x : Condition-F Condition) → condition_tokens (roll-Condition x) ≡ condition_node (map-Condition Condition Placed condition_tokens x)
unfolding condition_tokens
tokens_at x = fold-roll-Condition Placed condition_node x

pub condition_takes : (c : Condition) (asked : ℕ) → Takes (condition_tokens c asked) (condition_size c asked)
condition_takes = ind-Condition Sized (λ x y is asked.
    subst (λ (t : Placed). Takes (t asked) (condition_size (roll-Condition x) asked)) (sym (tokens_at x))
    (subst (λ (s : Size). Takes (condition_node (map-Condition Condition Placed condition_tokens x) asked) (s asked)) (sym (sized_at x))
    (subst (λ (z : Condition-F Condition). Takes (condition_node (map-Condition Condition Placed condition_tokens z) asked)
    (size_node (map-Condition Condition Size condition_size z) asked)) is (node_takes y asked))))

-- ---- at other places

-- at a tighter place there are at least as many, but two more at most
pub record Rises (s : Size) : Type 0 where
  pub to_one : s 0 ≤ s 1
  pub to_two : s 1 ≤ s 2
  pub at_most : s 2 ≤ suc (suc (s 0))

node_rises : (y : Condition-F Size) → Rises (size_node y)
node_rises (Condition-F.And first others) = record { to_one = omega arith; to_two = omega arith; at_most = omega arith }
node_rises (Condition-F.Or first others) = record { to_one = omega arith; to_two = omega arith; at_most = omega arith }
node_rises _ = record { to_one = omega arith; to_two = omega arith; at_most = omega arith }

pub condition_rises : (c : Condition) → Rises (condition_size c)
condition_rises =
    opened_condition (λ c. Rises (condition_size c))
    (λ x. subst Rises (sym (sized_at x)) (node_rises (map-Condition Condition Size condition_size x)))

-- ---- forms

pub size_not : (at : Pos) (inner : Condition) (asked : ℕ) → condition_size (condition.Not at inner) asked ≡ suc (condition_size inner 2)
unfolding roll-Condition roll
size_not at inner asked = ap (λ (s : Size). s asked) (sized_at (Condition-F.Not at inner))

pub size_or : (first : Condition) (others : List Condition) (asked : ℕ) →
    condition_size (condition.Or first others) asked ≡ grouped_size (nat_lt 0 asked) (condition_size first 1 + behind_size 1 (map condition_size others))
unfolding roll-Condition roll
size_or first others asked = ap (λ (s : Size). s asked) (sized_at (Condition-F.Or first others))

pub size_and : (first : Condition) (others : List Condition) (asked : ℕ) →
    condition_size (condition.And first others) asked ≡ grouped_size (nat_lt 1 asked) (condition_size first 2 + behind_size 2 (map condition_size others))
unfolding roll-Condition roll
size_and first others asked = ap (λ (s : Size). s asked) (sized_at (Condition-F.And first others))

-- ---- chains

behind_last : (asked : ℕ) (cs : List Condition) (c : Condition) →
    behind_size asked (map condition_size (cs ++ c ∷ [])) ≡ behind_size asked (map condition_size cs) + suc (condition_size c asked)
behind_last asked [] c = omega arith
behind_last asked (one ∷ cs) c = let e = behind_last asked cs c in omega arith

no_or_node : (x : Condition-F Condition) → is_or_node x ≡ false →
    size_node (map-Condition Condition Size condition_size x) 1 ≤ size_node (map-Condition Condition Size condition_size x) 0
no_or_node (Condition-F.Or first others) is = absurd (cc is)
no_or_node _ is = omega arith

no_and_node : (x : Condition-F Condition) → is_and_node x ≡ false →
    size_node (map-Condition Condition Size condition_size x) 2 ≤ size_node (map-Condition Condition Size condition_size x) 1
no_and_node (Condition-F.And first others) is = absurd (cc is)
no_and_node _ is = omega arith

begun_or : (x : Condition-F Condition) (other : Condition) → is_or_node x ≡ false →
    condition_size (condition.Or (roll-Condition x) (other ∷ [])) 0 ≤ condition_size (roll-Condition x) 0 + suc (condition_size other 1)
begun_or x other is =
    let e = size_or (roll-Condition x) (other ∷ []) 0 in
    let l : condition_size (roll-Condition x) 1 ≤ condition_size (roll-Condition x) 0 = subst (λ (s : Size). s 1 ≤ s 0) (sym (sized_at x)) (no_or_node x is) in
    omega arith

or_by_size : (x : Condition-F Condition) (other : Condition) →
    condition_size (or_by x (roll-Condition x) other) 0 ≤ condition_size (roll-Condition x) 0 + suc (condition_size other 1)
unfolding roll-Condition roll
or_by_size (Condition-F.Or first others) other =
    let e = size_or first others 0 in
    let f = size_or first (others ++ other ∷ []) 0 in
    let l = behind_last 1 others other in
    omega arith
or_by_size x other = begun_or x other refl

pub either_size : (c other : Condition) → condition_size (either_condition c other) 0 ≤ condition_size c 0 + suc (condition_size other 1)
either_size =
    opened_condition
    (λ c. (other : Condition) → condition_size (either_condition c other) 0 ≤ condition_size c 0 + suc (condition_size other 1))
    (λ x other.
    subst (λ (n : Condition-F Condition). condition_size (or_by n (roll-Condition x) other) 0 ≤ condition_size
    (roll-Condition x) 0 + suc (condition_size other 1)) (sym (out-roll-Condition x)) (or_by_size x other))

begun_and : (x : Condition-F Condition) (other : Condition) → is_and_node x ≡ false →
    condition_size (condition.And (roll-Condition x) (other ∷ [])) 1 ≤ condition_size (roll-Condition x) 1 + suc (condition_size other 2)
begun_and x other is =
    let e = size_and (roll-Condition x) (other ∷ []) 1 in
    let l : condition_size (roll-Condition x) 2 ≤ condition_size (roll-Condition x) 1 = subst (λ (s : Size). s 2 ≤ s 1) (sym (sized_at x)) (no_and_node x is) in
    omega arith

and_by_size : (x : Condition-F Condition) (other : Condition) →
    condition_size (and_by x (roll-Condition x) other) 1 ≤ condition_size (roll-Condition x) 1 + suc (condition_size other 2)
unfolding roll-Condition roll
and_by_size (Condition-F.And first others) other =
    let e = size_and first others 1 in
    let f = size_and first (others ++ other ∷ []) 1 in
    let l = behind_last 2 others other in
    omega arith
and_by_size x other = begun_and x other refl

pub both_size : (c other : Condition) → condition_size (both_conditions c other) 1 ≤ condition_size c 1 + suc (condition_size other 2)
both_size =
    opened_condition
    (λ c. (other : Condition) → condition_size (both_conditions c other) 1 ≤ condition_size c 1 + suc (condition_size other 2))
    (λ x other.
    subst (λ (n : Condition-F Condition). condition_size (and_by n (roll-Condition x) other) 1 ≤ condition_size
    (roll-Condition x) 1 + suc (condition_size other 2)) (sym (out-roll-Condition x)) (and_by_size x other))

-- ---- literals

pub size_true : (at : Pos) (asked : ℕ) → condition_size (condition.True at) asked ≡ 1
unfolding roll-Condition roll
size_true at asked = ap (λ (s : Size). s asked) (sized_at (Condition-F.True at))

pub size_false : (at : Pos) (asked : ℕ) → condition_size (condition.False at) asked ≡ 1
unfolding roll-Condition roll
size_false at asked = ap (λ (s : Size). s asked) (sized_at (Condition-F.False at))

pub size_truth : (t : Term) (asked : ℕ) → condition_size (condition.Truth t) asked ≡ term_size t
unfolding roll-Condition roll
size_truth t asked = ap (λ (s : Size). s asked) (sized_at (Condition-F.Truth t))

pub size_same : (t : Term) (at : Pos) (u : Term) (asked : ℕ) → condition_size (condition.Same t at u) asked ≡ term_size t + suc (term_size u)
unfolding roll-Condition roll
size_same t at u asked = ap (λ (s : Size). s asked) (sized_at (Condition-F.Same t at u))

pub size_differ : (t : Term) (at : Pos) (u : Term) (asked : ℕ) → condition_size (condition.Differ t at u) asked ≡ term_size t + suc (term_size u)
unfolding roll-Condition roll
size_differ t at u asked = ap (λ (s : Size). s asked) (sized_at (Condition-F.Differ t at u))

pub size_is : (t : Term) (at : Pos) (variant : Name) (asked : ℕ) → condition_size (condition.Is t at variant) asked ≡ term_size t + 2
unfolding roll-Condition roll
size_is t at variant asked = ap (λ (s : Size). s asked) (sized_at (Condition-F.Is t at variant))
