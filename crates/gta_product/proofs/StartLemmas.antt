-- The start: each space has its initial pair.
use Rattle.std.proofs.Common.{◌≡◌, ℕ, zero, suc, ◌<◌, List, [], ◌∷◌, length, Option, Some, None, slice_get, refl, sym, ◌∙◌, ap, subst, arith}
use Rattle.bdd_nodes.specs.Shelf.{Contents}
use Rattle.gta_theory.specs.Guides.{Spaces, IsSpace}
use Rattle.gta_theory.specs.Constructions.{pairs}
use Rattle.gta_theory.specs.Generated.{Generated, starts}
use Rattle.gta_core.specs.Auto.{AutoView, initial_of, automaton_of}
use Rattle.gta_product.specs.Numbers.{AreNumbers, Grows, stays, comes}
use Rattle.gta_product.specs.Building.{IsSpaceOf}

initial-both : (shelf : Contents) (a b : AutoView) (s : ℕ) → (pairs (automaton_of shelf a) (automaton_of shelf b)).initial s ≡ (initial_of a s, initial_of b s)
unfolding automaton_of
initial-both shelf a b s = refl

one-pair : (new : List (ℕ × ℕ)) (pair : ℕ × ℕ) (number : ℕ) → Grows [] new pair → number < length new → new ≡ pair ∷ []
one-pair new pair number (stays same) within = absurd (let e = ap length same in omega arith)
one-pair new pair number (comes none is) within = is

only-zero : (pair q : ℕ × ℕ) (k : ℕ) → slice_get (pair ∷ []) k ≡ Some q → pair ≡ q
only-zero pair q zero e = let f : ◌≡◌ {A = Option (ℕ × ℕ)} (Some pair) (Some q) = e in cc
only-zero pair q (suc k) e = absurd (let f : ◌≡◌ {A = Option (ℕ × ℕ)} None (Some q) = e in cc)

pub IsSpaceOf-start : (g : Spaces) (s : ℕ) (inside : IsSpace g s) (shelf : Contents) (a b : AutoView) (new : List (ℕ × ℕ)) (number : ℕ) →
    AreNumbers new → Grows [] new (initial_of a s, initial_of b s) → number < length new →
    IsSpaceOf g (pairs (automaton_of shelf a) (automaton_of shelf b)) s new
IsSpaceOf-start g s inside shelf a b new number numbers grows within =
    let is = one-pair new (initial_of a s, initial_of b s) number grows within in
    record {
      numbers = numbers;
      initial = ap (λ (ps : List (ℕ × ℕ)). slice_get ps 0) is ∙ ap (λ (p : ℕ × ℕ). let o : Option (ℕ × ℕ) = Some p in o) (sym (initial-both shelf a b s));
      generated = λ k pair there.
          let same = only-zero (initial_of a s, initial_of b s) pair k (ap (λ (ps : List (ℕ × ℕ)). slice_get ps k) (sym is) ∙ there) in
          subst (Generated g (pairs (automaton_of shelf a) (automaton_of shelf b)) s) (initial-both shelf a b s ∙ same) (starts s inside);
    }
