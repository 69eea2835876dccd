-- The parts of all spaces of an automaton, counted by its Size.
use Rattle.std.proofs.Common.{◌≡◌, ℕ, zero, suc, ◌+◌, ◌<◌, ◌≤◌, List, [], ◌++◌, map, length, length-append, Contains, sym, subst, inl, inr, arith}
use Rattle.std.proofs.lemmas.Bool.{cases_lt}
use Rattle.std.proofs.lemmas.List.{length-map}
use Rattle.std.proofs.lemmas.List.Elements.{Contains-append_left, Contains-append_right}
use Rattle.labels.specs.Labels.{Function}
use Rattle.gta_theory.specs.Guides.{Spaces}
use Rattle.gta_theory.specs.Automata.{Automaton}
use Rattle.gta_theory.specs.Sizes.{IsPart, sum_below, SizeOf}
use Rattle.gta_theory.proofs.ListsLemmas.{Contains-map}

-- the parts of the spaces below a number, each with its space
pub record ListsSpaces (g : Spaces) (C : Automaton ℕ) (has : ℕ → ℕ → Type 0) (below count : ℕ) : Type 0 where
  pub parts : List (ℕ × Function)
  pub every : (s : ℕ) (f : Function) → s < below → IsPart g C has s f → Contains parts (s, f)
  pub few : length parts ≤ count

module _ (g : Spaces) (C : Automaton ℕ) (has : ℕ → ℕ → Type 0) (n : ℕ) (size : SizeOf g C has n) where
  spaces_below : (m : ℕ) → m ≤ length g → ListsSpaces g C has m (sum_below size.sizes m)
  spaces_below zero within = record { parts = []; every = λ s f below part. absurd (omega arith); few = omega arith }
  spaces_below (suc m) within =
      let before = spaces_below m (omega arith) in
      let here = size.in_space m (omega arith) in
      let tag = λ (f : Function). let p : ℕ × Function = (m, f) in p in
      record {
        parts = before.parts ++ map tag here.parts;
        every = λ s f below part. elim (cases_lt s m) [
          | inl early ↦ Contains-append_left before.parts (map tag here.parts) (s, f) (before.every s f early part)
          | inr last ↦ (let same : s ≡ m = omega arith in
              subst (λ (k : ℕ). Contains (before.parts ++ map tag here.parts) (k, f)) (sym same)
              (Contains-append_right before.parts (map tag here.parts) (m, f)
              (Contains-map tag here.parts f ((here.all_parts).every f (subst (λ (k : ℕ). IsPart g C has k f) same part)))))
        ];
        few = omega (arith, length-append before.parts (map tag here.parts), length-map here.parts tag, before.few, here.is_sum);
      }

  pub all_spaces : ListsSpaces g C has (length g) n
  all_spaces = subst (ListsSpaces g C has (length g)) size.is_sum (spaces_below (length g) (omega arith))

-- one of the numbers that are added up
pub term-le : (f : ℕ → ℕ) (m s : ℕ) → s < m → f s ≤ sum_below f m
term-le f zero s within = absurd (omega arith)
term-le f (suc m) s within = elim (cases_lt s m) [
  | inl early ↦ omega (arith, term-le f m s early)
  | inr last ↦ (let same : s ≡ m = omega arith in subst (λ (k : ℕ). f k ≤ sum_below f m + f m) (sym same) (omega arith))
]
