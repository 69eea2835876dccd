-- The start: each space has its initial set.
use Rattle.std.proofs.Common.{◌≡◌, ℕ, zero, suc, ◌<◌, List, [], ◌∷◌, length, Option, Some, None, slice_get, sym, ◌∙◌, ap, subst, arith}
use Rattle.std.specs.Prelude.{unwrap_or}
use Rattle.gta_theory.specs.Guides.{Spaces, IsSpace}
use Rattle.gta_theory.specs.Generated.{Generated, starts}
use Rattle.gta_theory.specs.Automata.{Automaton}
use Rattle.gta_subsets.specs.Subsets.{subsets}
use Rattle.gta_subsets.specs.Numbers.{AreNumbers, Grows, stays, comes}
use Rattle.gta_project.specs.Building.{IsSpaceOf}

one-set : (new : List (List ℕ)) (set : List ℕ) (number : ℕ) → Grows [] new set → number < length new → new ≡ set ∷ []
one-set new set number (stays same) within = absurd (let e = ap length same in omega arith)
one-set new set number (comes none is) within = is

only-zero : (set q : List ℕ) (k : ℕ) → slice_get (set ∷ []) k ≡ Some q → set ≡ q
only-zero set q zero e = let f : ◌≡◌ {A = Option (List ℕ)} (Some set) (Some q) = e in cc
only-zero set q (suc k) e = absurd (let f : ◌≡◌ {A = Option (List ℕ)} None (Some q) = e in cc)

pub IsSpaceOf-start : (g : Spaces) (A : Automaton ℕ) (t : ℕ) (initials : List (List ℕ)) (s : ℕ) → IsSpace g s → (set : List ℕ) →
    slice_get initials s ≡ Some set → (new : List (List ℕ)) (number : ℕ) → AreNumbers new → Grows [] new set → number < length new →
    IsSpaceOf g (subsets A t initials) s new
IsSpaceOf-start g A t initials s inside set at new number numbers grows within =
    let is = one-set new set number grows within in
    let first : (subsets A t initials).initial s ≡ set = ap (λ (o : Option (List ℕ)). unwrap_or o []) at in
    record {
      numbers = numbers;
      initial = ap (λ (ps : List (List ℕ)). slice_get ps 0) is ∙ ap (λ (p : List ℕ). let o : Option (List ℕ) = Some p in o) (sym first);
      generated = λ k q there.
          let same = only-zero set q k (ap (λ (ps : List (List ℕ)). slice_get ps k) (sym is) ∙ there) in
          subst (Generated g (subsets A t initials) s) (first ∙ same) (starts s inside);
    }
