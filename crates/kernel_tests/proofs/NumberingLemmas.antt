-- Numbers for pairs of states, and what one more of them changes.
use Rattle.std.proofs.Common.{◌≡◌, ℕ, zero, suc, Bool, true, false, List, [], ◌∷◌, length, Option, Some, None, ◌&&◌, ◌%◌, ◌^◌}
use Rattle.std.proofs.Common.{nat_eq, slice_index, if◌then◌else◌, sym, ◌∙◌, ap, refl, arith}
use Rattle.std.specs.Prelude.{cond}
use Rattle.std.specs.List.{All}
use Rattle.std.specs.Option.{option_map}
use Rattle.std.proofs.lemmas.Bool.{eqb-true}
use Rattle.std.proofs.lemmas.Option.{none-some}
use Rattle.bdd_nodes.specs.declared.node_ref.NodeRef.{NodeRef}
use Rattle.bdd_walk.specs.Laws.{and-left, and-right}

-- the test for equal pairs
abbrev pub same : ℕ × ℕ → ℕ × ℕ → Bool
same one other = nat_eq one.0 other.0 && nat_eq one.1 other.1

-- the pair at the front of a list
abbrev pub pair_of : List ℕ → ℕ × ℕ
pair_of states = (slice_index states 0, slice_index states 1)

-- the number of a list of two states
abbrev pub numbered : (ℕ × ℕ → Option ℕ) → List ℕ → Option ℕ
numbered numbers states = if nat_eq (length states) 2 then option_map (λ number. number % 2 ^ 31) (numbers (pair_of states)) else None

pub same-pair : (a b : ℕ × ℕ) → same a b ≡ true → a ≡ b
same-pair a b e =
    ap (λ (n : ℕ). let p : ℕ × ℕ = (n, a.1) in p) (eqb-true a.0 b.0 (and-left (nat_eq a.0 b.0) (nat_eq a.1 b.1) e))
    ∙ ap (λ (n : ℕ). let p : ℕ × ℕ = (b.0, n) in p) (eqb-true a.1 b.1 (and-right (nat_eq a.0 b.0) (nat_eq a.1 b.1) e))

pub two-states : (states : List ℕ) → length states ≡ 2 → states ≡ slice_index states 0 ∷ slice_index states 1 ∷ []
two-states [] two = absurd (omega arith)
two-states (a ∷ []) two = absurd (omega arith)
two-states (a ∷ b ∷ []) two = refl
two-states (a ∷ b ∷ c ∷ states) two = absurd (omega arith)

nothing : (t : Bool) (answer : ℕ) → (if t then None else None) ≡ Some answer → ⊥
nothing true answer e = none-some answer e
nothing false answer e = none-some answer e

is_long : (t : Bool) (found : Option ℕ) (answer : ℕ) → (if t then found else None) ≡ Some answer → t ≡ true
is_long true found answer e = refl
is_long false found answer e = absurd (none-some answer e)

module _ (old new : ℕ × ℕ → Option ℕ) (key : ℕ × ℕ) (number : ℕ)
    (updates : (q : ℕ × ℕ) → new q ≡ cond (same key q) (Some number) (old q)) where
  elsewhere : (states : List ℕ) → same key (pair_of states) ≡ false → numbered new states ≡ numbered old states
  elsewhere states e =
      ap (λ (found : Option ℕ). if nat_eq (length states) 2 then option_map (λ number. number % 2 ^ 31) found else None)
      (updates (pair_of states) ∙ ap (λ (t : Bool). cond t (Some number) (old (pair_of states))) e)

  kept_by : old key ≡ None → (states : List ℕ) (answer : ℕ) → numbered old states ≡ Some answer → (t : Bool) →
      same key (pair_of states) ≡ t → numbered new states ≡ Some answer
  kept_by absent states answer was true e =
      absurd (nothing (nat_eq (length states) 2) answer
      (ap (λ (found : Option ℕ). if nat_eq (length states) 2 then option_map (λ number. number % 2 ^ 31) found else None)
      (sym absent ∙ ap old (same-pair key (pair_of states) e)) ∙ was))
  kept_by absent states answer was false e = elsewhere states e ∙ was

  pub numbered-kept : old key ≡ None → (states : List ℕ) (answer : ℕ) → numbered old states ≡ Some answer → numbered new states ≡ Some answer
  numbered-kept absent states answer was = kept_by absent states answer was (same key (pair_of states)) refl

  only_by : (asked : List ℕ) → length asked ≡ 2 → key ≡ pair_of asked → (states : List ℕ) (answer : ℕ) →
      numbered new states ≡ Some answer → numbered old states ≡ None → (t : Bool) → same key (pair_of states) ≡ t →
      states ≡ asked
  only_by asked two is states answer now was true e =
      two-states states (eqb-true (length states) 2
      (is_long (nat_eq (length states) 2) (option_map (λ number. number % 2 ^ 31) (new (pair_of states))) answer
      now))
      ∙ ap (λ (p : ℕ × ℕ). p.0 ∷ p.1 ∷ []) (sym (same-pair key (pair_of states) e) ∙ is)
      ∙ sym (two-states asked two)
  only_by asked two is states answer now was false e = absurd (none-some answer (sym was ∙ sym (elsewhere states e) ∙ now))

  pub numbered-only : (asked : List ℕ) → length asked ≡ 2 → key ≡ pair_of asked → (states : List ℕ) (answer : ℕ) →
      numbered new states ≡ Some answer → numbered old states ≡ None → states ≡ asked
  numbered-only asked two is states answer now was = only_by asked two is states answer now was (same key (pair_of states)) refl

-- both of two references
pub All-two : (P : NodeRef → Type 0) (a b : NodeRef) → P a → P b → All P (a ∷ b ∷ [])
All-two P a b p q zero d within = p
All-two P a b p q (suc zero) d within = q
All-two P a b p q (suc (suc k)) d within = absurd (omega arith)
