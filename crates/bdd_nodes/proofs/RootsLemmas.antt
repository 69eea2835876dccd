-- Tables under their numbers.
use Rattle.std.proofs.Common.{◌≡◌, ◌≢◌, ℕ, suc, zero, ◌+◌, ◌<◌, ◌≤◌, Bool, true, false, List, [], ◌∷◌, ◌++◌, length, eqb, remove}
use Rattle.std.proofs.Common.{if◌then◌else◌, Option, Some, None, sym, ◌∙◌, ap, refl, subst, inl, inr, arith}
use Rattle.std.specs.Prelude.{map}
use Rattle.std.proofs.lemmas.List.{length-map}
use Rattle.std.proofs.lemmas.Bool.{cases_lt}
use Rattle.std.proofs.lemmas.Bool.Decides.{nat_tests}
use Rattle.bdd_nodes.specs.declared.node_ref.NodeRef.{NodeRef}
use Rattle.bdd_nodes.specs.declared.roots.RootTable.{RootTable}
use Rattle.bdd_nodes.specs.Roots.{number_of, roots_under, table_at, number_at, AreNumbered}
use Rattle.bdd_nodes.specs.Between.{IsBetween}

Rises : List RootTable → Type 0
Rises tables = (i j : ℕ) → i < j → j < length tables → number_at tables i < number_at tables j

eqb-other : (a b : ℕ) → a ≢ b → eqb a b ≡ false
eqb-other a b other = grind (arith, nat_tests)

eqb-same : (a b : ℕ) → a ≡ b → eqb a b ≡ true
eqb-same a b same = grind (arith, nat_tests)

pub pick-other : (t : RootTable) (rest : Option (List NodeRef)) (number : ℕ) → number_of t.id ≢ number →
    (if eqb (number_of t.id) number then Some t.roots else rest) ≡ rest
pick-other t rest number other = ap (λ (b : Bool). if b then Some t.roots else rest) (eqb-other _ _ other)

pub pick-same : (t : RootTable) (rest : Option (List NodeRef)) (number : ℕ) → number_of t.id ≡ number →
    (if eqb (number_of t.id) number then Some t.roots else rest) ≡ Some t.roots
pick-same t rest number same = ap (λ (b : Bool). if b then Some t.roots else rest) (eqb-same _ _ same)

-- the table at a position is found under its number
pub roots_under-at : (tables : List RootTable) (position : ℕ) →
    ((i j : ℕ) → i < j → j < length tables → number_at tables i < number_at tables j) → position < length tables →
    roots_under tables (number_at tables position) ≡ Some (table_at tables position).roots
roots_under-at [] position rise within = absurd (omega arith)
roots_under-at (t ∷ tables) zero rise within = pick-same t _ _ refl
roots_under-at (t ∷ tables) (suc position) rise within =
    let above : number_at (t ∷ tables) 0 < number_at (t ∷ tables) (suc position) = rise 0 (suc position) (omega arith) within in
    pick-other t _ _ (λ e. let f : number_at (t ∷ tables) 0 ≡ number_at (t ∷ tables) (suc position) = e in omega arith)
    ∙ roots_under-at tables position (λ i j less in_range. rise (suc i) (suc j) (omega arith) (omega arith)) (omega arith)

-- where no table has the number, nothing is found
pub roots_under-none : (tables : List RootTable) (number : ℕ) → ((i : ℕ) → i < length tables → number_at tables i ≢ number) → roots_under tables number ≡ None
roots_under-none [] number other = refl
roots_under-none (t ∷ tables) number other =
    pick-other t _ number (other 0 (omega arith))
    ∙ roots_under-none tables number (λ i within. other (suc i) (omega arith))

-- a table put at the end leaves what other numbers have
pub roots_under-push_other : (tables : List RootTable) (t : RootTable) (number : ℕ) → number_of t.id ≢ number →
    roots_under (tables ++ t ∷ []) number ≡ roots_under tables number
roots_under-push_other [] t number other = pick-other t None number other
roots_under-push_other (u ∷ tables) t number other =
    ap (λ (rest : Option (List NodeRef)). if eqb (number_of u.id) number then Some u.roots else rest) (roots_under-push_other tables t number other)

-- and is found where its number had none
pub roots_under-push_same : (tables : List RootTable) (t : RootTable) →
    ((i : ℕ) → i < length tables → number_at tables i ≢ number_of t.id) →
    roots_under (tables ++ t ∷ []) (number_of t.id) ≡ Some t.roots
roots_under-push_same [] t other = pick-same t None _ refl
roots_under-push_same (u ∷ tables) t other =
    pick-other u _ _ (other 0 (omega arith))
    ∙ roots_under-push_same tables t (λ i within. other (suc i) (omega arith))

-- a table taken out leaves what other numbers have
pub roots_under-remove_other : (tables : List RootTable) (position number : ℕ) → position < length tables →
    number_at tables position ≢ number → roots_under (remove tables position) number ≡ roots_under tables number
roots_under-remove_other [] position number within other = absurd (omega arith)
roots_under-remove_other (t ∷ tables) zero number within other = sym (pick-other t (roots_under tables number) number other)
roots_under-remove_other (t ∷ tables) (suc position) number within other =
    ap (λ (rest : Option (List NodeRef)). if eqb (number_of t.id) number then Some t.roots else rest)
    (roots_under-remove_other tables position number (omega arith) other)

-- the lower half is left behind
pub IsBetween-upper : (tables : List RootTable) (number low high middle : ℕ) →
    ((i j : ℕ) → i < j → j < length tables → number_at tables i < number_at tables j) →
    IsBetween tables number low high → middle < high → number_at tables middle < number →
    IsBetween tables number (middle + 1) high
IsBetween-upper tables number low high middle rise between inside less = record {
  ordered = omega arith;
  within = between.within;
  above = λ i early. elim (cases_lt i middle) [
    | inl earlier ↦ (let w = between.within in let r = rise i middle earlier (omega arith) in omega arith)
    | inr here ↦ subst (λ (k : ℕ). number_at tables k < number) (let e : middle ≡ i = omega arith in e) less
  ];
  below = between.below;
}

-- nothing is left between: no table has the number
pub IsBetween-none : (tables : List RootTable) (number low high : ℕ) → IsBetween tables number low high → high ≤ low → roots_under tables number ≡ None
IsBetween-none tables number low high between past = roots_under-none tables number (λ i within same. elim (cases_lt i low) [
  | inl early ↦ (let a = between.above i early in omega arith)
  | inr late ↦ (let b = between.below i (omega arith) within in omega arith)
])

-- a table taken out is gone
pub roots_under-remove_same : (tables : List RootTable) (position : ℕ) →
    ((i j : ℕ) → i < j → j < length tables → number_at tables i < number_at tables j) → position < length tables →
    roots_under (remove tables position) (number_at tables position) ≡ None
roots_under-remove_same [] position rise within = absurd (omega arith)
roots_under-remove_same (t ∷ tables) zero rise within =
    roots_under-none tables (number_of t.id) (λ i in_range same.
    let above : number_at (t ∷ tables) 0 < number_at (t ∷ tables) (suc i) = rise 0 (suc i) (omega arith) (omega arith) in
    let e : number_at (t ∷ tables) (suc i) ≡ number_at (t ∷ tables) 0 = same in omega arith)
roots_under-remove_same (t ∷ tables) (suc position) rise within =
    let above : number_at (t ∷ tables) 0 < number_at (t ∷ tables) (suc position) = rise 0 (suc position) (omega arith) within in
    pick-other t _ _ (λ e. let f : number_at (t ∷ tables) 0 ≡ number_at (t ∷ tables) (suc position) = e in omega arith)
    ∙ roots_under-remove_same tables position (λ i j less in_range. rise (suc i) (suc j) (omega arith) (omega arith)) (omega arith)

number_at-map : (f : RootTable → RootTable) (tables : List RootTable) (i : ℕ) →
    ((t : RootTable) → number_of (f t).id ≡ number_of t.id) → number_at (map f tables) i ≡ number_at tables i
number_at-map f [] i same = refl
number_at-map f (t ∷ tables) zero same = same t
number_at-map f (t ∷ tables) (suc i) same = number_at-map f tables i same

-- tables with other roots are numbered as before
pub AreNumbered-map : (f : RootTable → RootTable) (tables : List RootTable) (added : ℕ) →
    ((t : RootTable) → number_of (f t).id ≡ number_of t.id) → AreNumbered tables added →
    AreNumbered (map f tables) added
AreNumbered-map f tables added same numbered =
    let len : length (map f tables) ≡ length tables = simp length-map in
    record {
      rise = λ i j less within.
          let r = numbered.rise i j less (omega arith) in
          let a = number_at-map f tables i same in
          let b = number_at-map f tables j same in omega arith;
      given = λ i within.
          let g = numbered.given i (omega arith) in
          let a = number_at-map f tables i same in omega arith;
    }
