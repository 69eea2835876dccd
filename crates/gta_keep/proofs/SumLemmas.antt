-- On sums of Sizes of automata that wait: they stay as long as their tables do, and one more adds its Size.
use Rattle.std.proofs.Common.{◌≡◌, ℕ, ◌+◌, suc, List, [], ◌∷◌, map, All, Contains, refl, sym, ◌∙◌, ap, subst, arith}
use Rattle.std.proofs.lemmas.List.Elements.{All-cons}
use Rattle.std.proofs.lemmas.List.Sums.{sum_by-cons}
use Rattle.std.proofs.lemmas.Bool.{cases_eq}
use Rattle.bdd_nodes.specs.Shelf.{Contents, IsShelf}
use Rattle.gta_theory.specs.Guides.{Spaces, IsGuide}
use Rattle.gta_theory.specs.Automata.{Automaton}
use Rattle.gta_theory.specs.Numbered.{Below}
use Rattle.gta_theory.specs.Sizes.{SizeOf}
use Rattle.gta_core.specs.Auto.{AutoView, states_of, automaton_of, IsAuto}
use Rattle.gta_core.specs.Changes.{KeepsTable}
use Rattle.gta_core.specs.Sizes.{IsSized}
use Rattle.gta_core.proofs.AutoLemmas.{automaton_of-kept, IsAuto-kept}
use Rattle.ws2s_core.specs.declared.formula.Formula.{Formula}
use Rattle.ws2s_theory.specs.Peaks.{HasMinimalSize}
use Rattle.ws2s_theory.proofs.SizesLemmas.{minimal-size}
use Rattle.gta_keep.specs.Holding.{HaveSum, IsMinimalFor}
use Rattle.gta_keep.proofs.AutoSizesLemmas.{SizeOf-auto}

module _ (g : Spaces) where
  -- an automaton keeps its Size
  pub SizeOf-kept : (old new : Contents) (a : AutoView) (n : ℕ) → KeepsTable old new a.table →
      SizeOf g (automaton_of old a) (Below (states_of a)) n → SizeOf g (automaton_of new a) (Below (states_of a)) n
  SizeOf-kept old new a n keeps size =
      subst (λ (A : Automaton ℕ). SizeOf g A (Below (states_of a)) n) (sym (automaton_of-kept old new a keeps)) size

  sized-kept : (old new : Contents) (sized : List (AutoView × ℕ)) →
      ((a : AutoView) → Contains (map (λ auto. auto.0) sized) a → KeepsTable old new a.table) → All (IsSized g old) sized → All (IsSized g new) sized
  sized-kept old new [] keeps each = λ i d inside. absurd (let none : ⊥ = omega (arith, inside) in none)
  sized-kept old new (x ∷ sized) keeps each =
      let first : IsSized g old x = each 0 x (omega arith) in
      let stays : KeepsTable old new (x.0).table = keeps x.0 (0, omega arith, refl) in
      let now : IsSized g new x = record {
        auto = IsAuto-kept old new x.0 stays g first.auto;
        size = SizeOf-kept old new x.0 x.1 stays first.size;
      } in
      All-cons (IsSized g new) x sized now
      (sized-kept old new sized (λ a there. keeps a (suc there.0, (let lt = there.1 in omega (arith, lt)), there.2))
      (λ i d inside. each (suc i) d (omega (arith, inside))))

  pub HaveSum-kept : (old new : Contents) (autos : List AutoView) (s : ℕ) →
      ((a : AutoView) → Contains autos a → KeepsTable old new a.table) → HaveSum g old autos s → HaveSum g new autos s
  HaveSum-kept old new autos s keeps have = record {
    sized = have.sized;
    are = have.are;
    each = sized-kept old new have.sized (λ a there. keeps a (subst (λ (xs : List AutoView). Contains xs a) have.are there)) have.each;
    is_sum = have.is_sum;
  }

  -- one more automaton
  pub HaveSum-more : (shelf : Contents) (a : AutoView) (autos : List AutoView) (n s : ℕ) → IsAuto g shelf a →
      SizeOf g (automaton_of shelf a) (Below (states_of a)) n → HaveSum g shelf autos s → HaveSum g shelf (a ∷ autos) (n + s)
  HaveSum-more shelf a autos n s auto size have =
      let one : AutoView × ℕ = (a, n) in
      record {
        sized = one ∷ have.sized;
        are = ap (λ (xs : List AutoView). a ∷ xs) have.are;
        each = All-cons (IsSized g shelf) one have.sized (record { auto = auto; size = size }) have.each;
        is_sum = sum_by-cons (λ (auto : AutoView × ℕ). auto.1) one have.sized ∙ ap (λ (k : ℕ). n + k) have.is_sum;
      }

  -- a minimal automaton of a formula has the Size of the formula's
  pub SizeOf-minimal : IsGuide g → (shelf : Contents) → IsShelf shelf → (a : AutoView) (f : Formula) (n : ℕ) → IsMinimalFor g shelf a f →
      HasMinimalSize g f n → SizeOf g (automaton_of shelf a) (Below (states_of a)) n
  SizeOf-minimal guide shelf is_shelf a f n minimal has =
      let found = SizeOf-auto g shelf is_shelf a in
      let same : found.0 ≡ n = minimal-size g guide cases_eq f (automaton_of shelf a) (Below (states_of a)) minimal found.0 n found.1 has in
      subst (SizeOf g (automaton_of shelf a) (Below (states_of a))) same found.1
