-- How many tokens an assertion has where it may stand as well; and chains of assertions that grow at their end.
use Rattle.std.proofs.Common.{◌≡◌, ℕ, suc, ◌+◌, ◌≤◌, nat_lt, Bool, true, false, List, [], ◌∷◌, ◌++◌, map, refl, sym, subst, arith}
use Rattle.pale_syntax.specs.declared.tree.assertion.Assertion.{Assertion, roll-Assertion, out-roll-Assertion}
use Rattle.pale_syntax.specs.declared.tree.assertion.Assertion.TheVariants as assertion
use Rattle.pale_syntax.specs.declared.tree.assertion.Assertion.TheOpen.{Assertion-F}
use Rattle.pale_syntax.specs.declared.tree.assertion.Assertion.TheFolds.{ind-Assertion, map-Assertion}
use denote.Hole.Carrier.{roll}
use Rattle.pale_syntax.specs.MakingAssertions.{and_by, or_by, iff_by, both, either, equivalent}
use Rattle.pale_print_laws.specs.CanonicalAssertions.{is_and_node, is_or_node, is_iff_node}
use Rattle.pale_print_laws.proofs.AssertionShapes.{opened_assertion}
use Rattle.pale_print_laws.proofs.RouteSizes.{route_size}
use Rattle.pale_print_laws.proofs.NameSizes.{path_size, term_size}
use Rattle.pale_print_laws.proofs.AssertionSizes.{OperandSize, grouped_size, operands_size, chain_size, used_size}
use Rattle.pale_print_laws.proofs.AssertionSizes.{quantified_size, size_node, assertion_size, sized_at, form}

-- ---- at other places

-- at a tighter place, or where an operator follows, there are two more at most; and at a tighter place not less
pub record Rises (s : OperandSize) : Type 0 where
  pub at_most_two : (asked : ℕ) → s asked true ≤ suc (suc (s asked false))
  pub to_one : (followed : Bool) → s 0 followed ≤ s 1 followed
  pub to_two : (followed : Bool) → s 1 followed ≤ s 2 followed
  pub to_three : (followed : Bool) → s 2 followed ≤ s 3 followed
  pub to_four : (followed : Bool) → s 3 followed ≤ s 4 followed
  pub at_most : (followed : Bool) → s 4 followed ≤ suc (suc (s 0 false))

either_way : (c : Bool → ℕ) → c true ≤ suc (suc (c false)) → (followed : Bool) → c followed ≤ suc (suc (c false))
either_way c h true = h
either_way c h false = omega arith

grouped_at_most : (needed : Bool) (c : Bool → ℕ) → c true ≤ suc (suc (c false)) → grouped_size needed c true ≤ suc (suc (grouped_size needed c false))
grouped_at_most true c h = omega arith
grouped_at_most false c h = h

abbrev Risen : Type 0
Risen = (a : Assertion) × Rises (assertion_size a)

abbrev risen_trees : List Risen → List Assertion
risen_trees others = map (λ (e : Risen). e.0) others

operands_rise : (asked : ℕ) (others : List Risen) →
    operands_size asked (map assertion_size (risen_trees others)) true ≤ suc (suc (operands_size asked (map assertion_size (risen_trees others)) false))
operands_rise asked [] = omega arith
operands_rise asked (one ∷ []) = let h = one.1.at_most_two asked in omega arith
operands_rise asked (one ∷ two ∷ others) = let h = operands_rise asked (two ∷ others) in omega arith

chain_rises : (asked : ℕ) (first : Risen) (others : List Risen) →
    chain_size asked (assertion_size first.0) (map assertion_size (risen_trees others)) true ≤
    suc (suc (chain_size asked (assertion_size first.0) (map assertion_size (risen_trees others)) false))
chain_rises asked first [] = let h = first.1.at_most_two asked in omega arith
chain_rises asked first (one ∷ others) = let h = operands_rise asked (one ∷ others) in omega arith

rises_and : (c : Bool → ℕ) → c true ≤ suc (suc (c false)) → Rises (λ asked. grouped_size (nat_lt 3 asked) c)
rises_and c h = record {
  at_most_two = λ asked. grouped_at_most (nat_lt 3 asked) c h;
  to_one = λ f. omega arith;
  to_two = λ f. omega arith;
  to_three = λ f. omega arith;
  to_four = λ f. either_way c h f;
  at_most = λ f. omega arith;
}

rises_or : (c : Bool → ℕ) → c true ≤ suc (suc (c false)) → Rises (λ asked. grouped_size (nat_lt 2 asked) c)
rises_or c h = record {
  at_most_two = λ asked. grouped_at_most (nat_lt 2 asked) c h;
  to_one = λ f. omega arith;
  to_two = λ f. omega arith;
  to_three = λ f. either_way c h f;
  to_four = λ f. omega arith;
  at_most = λ f. omega arith;
}

rises_imp : (c : Bool → ℕ) → c true ≤ suc (suc (c false)) → Rises (λ asked. grouped_size (nat_lt 1 asked) c)
rises_imp c h = record {
  at_most_two = λ asked. grouped_at_most (nat_lt 1 asked) c h;
  to_one = λ f. omega arith;
  to_two = λ f. either_way c h f;
  to_three = λ f. omega arith;
  to_four = λ f. omega arith;
  at_most = λ f. omega arith;
}

rises_iff : (c : Bool → ℕ) → c true ≤ suc (suc (c false)) → Rises (λ asked. grouped_size (nat_lt 0 asked) c)
rises_iff c h = record {
  at_most_two = λ asked. grouped_at_most (nat_lt 0 asked) c h;
  to_one = λ f. either_way c h f;
  to_two = λ f. omega arith;
  to_three = λ f. omega arith;
  to_four = λ f. omega arith;
  at_most = λ f. omega arith;
}

rises_alike : (c : Bool → ℕ) → c true ≤ suc (suc (c false)) → Rises (λ asked followed. c followed)
rises_alike c h = record {
  at_most_two = λ asked. h;
  to_one = λ f. omega arith;
  to_two = λ f. omega arith;
  to_three = λ f. omega arith;
  to_four = λ f. omega arith;
  at_most = λ f. either_way c h f;
}

node_rises : (y : Assertion-F Risen) → Rises (size_node (map-Assertion Assertion OperandSize assertion_size (map-Assertion Risen Assertion (λ e. e.0) y)))
node_rises (Assertion-F.Not place inner) = rises_alike (λ f. suc (assertion_size inner.0 4 f)) (let h = inner.1.at_most_two 4 in omega arith)
node_rises (Assertion-F.And first others) = rises_and _ (chain_rises 4 first others)
node_rises (Assertion-F.Or first others) = rises_or _ (chain_rises 3 first others)
node_rises (Assertion-F.Imp left place right) =
    rises_imp (λ then. assertion_size left.0 2 true + suc (assertion_size right.0 1 then)) (let h = right.1.at_most_two 1 in omega arith)
node_rises (Assertion-F.Iff first others) = rises_iff _ (chain_rises 1 first others)
node_rises (Assertion-F.Quantified q inner) = rises_alike (λ f. grouped_size f (quantified_size q (assertion_size inner.0)) f) (omega arith)
node_rises Assertion-F.True = rises_alike (λ f. 1) (omega arith)
node_rises Assertion-F.False = rises_alike (λ f. 1) (omega arith)
node_rises (Assertion-F.Truth p) = rises_alike (λ f. path_size p) (omega arith)
node_rises (Assertion-F.Same t place u) = rises_alike (λ f. term_size t + suc (term_size u)) (omega arith)
node_rises (Assertion-F.Differ t place u) = rises_alike (λ f. term_size t + suc (term_size u)) (omega arith)
node_rises (Assertion-F.Member t place set) = rises_alike (λ f. term_size t + 2) (omega arith)
node_rises (Assertion-F.Subset t place set) = rises_alike (λ f. term_size t + 2) (omega arith)
node_rises (Assertion-F.Walk t place r u) = rises_alike (λ f. term_size t + suc (route_size r 0 + suc (term_size u))) (omega arith)
node_rises (Assertion-F.Is t place variant) = rises_alike (λ f. term_size t + 2) (omega arith)
node_rises (Assertion-F.Use predicate arguments) = rises_alike (λ f. suc (suc (used_size arguments + 1))) (omega arith)

pub assertion_rises : (a : Assertion) → Rises (assertion_size a)
assertion_rises = ind-Assertion (λ a. Rises (assertion_size a)) (λ x y is.
    subst Rises (sym (sized_at x))
    (subst (λ (z : Assertion-F Assertion). Rises (size_node (map-Assertion Assertion OperandSize assertion_size z))) is (node_rises y)))

-- ---- chains

size_and : (a : Assertion) (others : List Assertion) (f : Bool) →
    assertion_size (assertion.And a others) 3 f ≡ chain_size 4 (assertion_size a) (map assertion_size others) f
unfolding roll-Assertion roll
size_and a others f = form (Assertion-F.And a others) 3 f

size_or : (a : Assertion) (others : List Assertion) (f : Bool) →
    assertion_size (assertion.Or a others) 2 f ≡ chain_size 3 (assertion_size a) (map assertion_size others) f
unfolding roll-Assertion roll
size_or a others f = form (Assertion-F.Or a others) 2 f

size_iff : (a : Assertion) (others : List Assertion) (f : Bool) →
    assertion_size (assertion.Iff a others) 0 f ≡ chain_size 1 (assertion_size a) (map assertion_size others) f
unfolding roll-Assertion roll
size_iff a others f = form (Assertion-F.Iff a others) 0 f

operands_last : (asked : ℕ) (xs : List Assertion) (a : Assertion) (f : Bool) →
    operands_size asked (map assertion_size (xs ++ a ∷ [])) f ≡ operands_size asked (map assertion_size xs) true + suc (assertion_size a asked f)
operands_last asked [] a f = omega arith
operands_last asked (one ∷ []) a f = omega arith
operands_last asked (one ∷ two ∷ xs) a f = let e = operands_last asked (two ∷ xs) a f in omega arith

chain_last : (asked : ℕ) (first : Assertion) (xs : List Assertion) (a : Assertion) (f : Bool) →
    chain_size asked (assertion_size first) (map assertion_size (xs ++ a ∷ [])) f ≡ chain_size asked (assertion_size first)
    (map assertion_size xs) true + suc (assertion_size a asked f)
chain_last asked first [] a f = omega arith
chain_last asked first (one ∷ xs) a f = let e = operands_last asked (one ∷ xs) a f in omega arith

no_and_node : (x : Assertion-F Assertion) → is_and_node x ≡ false →
    size_node (map-Assertion Assertion OperandSize assertion_size x) 4 true ≤ size_node (map-Assertion Assertion OperandSize assertion_size x) 3 true
no_and_node (Assertion-F.And first others) is = absurd (cc is)
no_and_node _ is = omega arith

no_or_node : (x : Assertion-F Assertion) → is_or_node x ≡ false →
    size_node (map-Assertion Assertion OperandSize assertion_size x) 3 true ≤ size_node (map-Assertion Assertion OperandSize assertion_size x) 2 true
no_or_node (Assertion-F.Or first others) is = absurd (cc is)
no_or_node _ is = omega arith

no_iff_node : (x : Assertion-F Assertion) → is_iff_node x ≡ false →
    size_node (map-Assertion Assertion OperandSize assertion_size x) 1 true ≤ size_node (map-Assertion Assertion OperandSize assertion_size x) 0 true
no_iff_node (Assertion-F.Iff first others) is = absurd (cc is)
no_iff_node _ is = omega arith

begun_and : (x : Assertion-F Assertion) (other : Assertion) (f : Bool) → is_and_node x ≡ false →
    assertion_size (assertion.And (roll-Assertion x) (other ∷ [])) 3 f ≤ assertion_size (roll-Assertion x) 3 true + suc (assertion_size other 4 f)
begun_and x other f is =
    let e = size_and (roll-Assertion x) (other ∷ []) f in
    let l : assertion_size (roll-Assertion x) 4 true ≤ assertion_size (roll-Assertion x) 3 true =
    subst (λ (s : OperandSize). s 4 true ≤ s 3 true) (sym (sized_at x)) (no_and_node x is) in
    omega arith

and_by_size : (x : Assertion-F Assertion) (other : Assertion) (f : Bool) →
    assertion_size (and_by x (roll-Assertion x) other) 3 f ≤ assertion_size (roll-Assertion x) 3 true + suc (assertion_size other 4 f)
unfolding roll-Assertion roll
and_by_size (Assertion-F.And first others) other f =
    let e = size_and first others true in
    let g = size_and first (others ++ other ∷ []) f in
    let l = chain_last 4 first others other f in
    omega arith
and_by_size x other f = begun_and x other f refl

pub both_size : (a other : Assertion) (f : Bool) → assertion_size (both a other) 3 f ≤ assertion_size a 3 true + suc (assertion_size other 4 f)
both_size =
    opened_assertion
    (λ a. (other : Assertion) (f : Bool) → assertion_size (both a other) 3 f ≤ assertion_size a 3 true + suc (assertion_size other 4 f))
    (λ x other f.
    subst (λ (n : Assertion-F Assertion). assertion_size (and_by n (roll-Assertion x) other) 3 f ≤ assertion_size
    (roll-Assertion x) 3 true + suc (assertion_size other 4 f))
    (sym (out-roll-Assertion x)) (and_by_size x other f))

begun_or : (x : Assertion-F Assertion) (other : Assertion) (f : Bool) → is_or_node x ≡ false →
    assertion_size (assertion.Or (roll-Assertion x) (other ∷ [])) 2 f ≤ assertion_size (roll-Assertion x) 2 true + suc (assertion_size other 3 f)
begun_or x other f is =
    let e = size_or (roll-Assertion x) (other ∷ []) f in
    let l : assertion_size (roll-Assertion x) 3 true ≤ assertion_size (roll-Assertion x) 2 true =
    subst (λ (s : OperandSize). s 3 true ≤ s 2 true) (sym (sized_at x)) (no_or_node x is) in
    omega arith

or_by_size : (x : Assertion-F Assertion) (other : Assertion) (f : Bool) →
    assertion_size (or_by x (roll-Assertion x) other) 2 f ≤ assertion_size (roll-Assertion x) 2 true + suc (assertion_size other 3 f)
unfolding roll-Assertion roll
or_by_size (Assertion-F.Or first others) other f =
    let e = size_or first others true in
    let g = size_or first (others ++ other ∷ []) f in
    let l = chain_last 3 first others other f in
    omega arith
or_by_size x other f = begun_or x other f refl

pub either_size : (a other : Assertion) (f : Bool) → assertion_size (either a other) 2 f ≤ assertion_size a 2 true + suc (assertion_size other 3 f)
either_size =
    opened_assertion
    (λ a. (other : Assertion) (f : Bool) → assertion_size (either a other) 2 f ≤ assertion_size a 2 true + suc (assertion_size other 3 f))
    (λ x other f.
    subst (λ (n : Assertion-F Assertion). assertion_size (or_by n (roll-Assertion x) other) 2 f ≤ assertion_size
    (roll-Assertion x) 2 true + suc (assertion_size other 3 f))
    (sym (out-roll-Assertion x)) (or_by_size x other f))

begun_iff : (x : Assertion-F Assertion) (other : Assertion) (f : Bool) → is_iff_node x ≡ false →
    assertion_size (assertion.Iff (roll-Assertion x) (other ∷ [])) 0 f ≤ assertion_size (roll-Assertion x) 0 true + suc (assertion_size other 1 f)
begun_iff x other f is =
    let e = size_iff (roll-Assertion x) (other ∷ []) f in
    let l : assertion_size (roll-Assertion x) 1 true ≤ assertion_size (roll-Assertion x) 0 true =
    subst (λ (s : OperandSize). s 1 true ≤ s 0 true) (sym (sized_at x)) (no_iff_node x is) in
    omega arith

iff_by_size : (x : Assertion-F Assertion) (other : Assertion) (f : Bool) →
    assertion_size (iff_by x (roll-Assertion x) other) 0 f ≤ assertion_size (roll-Assertion x) 0 true + suc (assertion_size other 1 f)
unfolding roll-Assertion roll
iff_by_size (Assertion-F.Iff first others) other f =
    let e = size_iff first others true in
    let g = size_iff first (others ++ other ∷ []) f in
    let l = chain_last 1 first others other f in
    omega arith
iff_by_size x other f = begun_iff x other f refl

pub equivalent_size : (a other : Assertion) (f : Bool) → assertion_size (equivalent a other) 0 f ≤ assertion_size a 0 true + suc (assertion_size other 1 f)
equivalent_size =
    opened_assertion
    (λ a. (other : Assertion) (f : Bool) → assertion_size (equivalent a other) 0 f ≤ assertion_size a 0 true + suc (assertion_size other 1 f))
    (λ x other f.
    subst (λ (n : Assertion-F Assertion). assertion_size (iff_by n (roll-Assertion x) other) 0 f ≤ assertion_size
    (roll-Assertion x) 0 true + suc (assertion_size other 1 f))
    (sym (out-roll-Assertion x)) (iff_by_size x other f))
