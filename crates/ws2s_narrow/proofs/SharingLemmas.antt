-- On the free tracks of a conjunction's sides.
use Rattle.std.proofs.Common.{◌≡◌, ℕ, Bool, true, false, not, ◌&&◌, filter, nat_eq, refl, sym, ap, ◌∙◌, eqb-true}
use Rattle.std.proofs.lemmas.Map.Views.{any-filter_same}
use Rattle.std.specs.HashSet.{HashSet, contains}
use Rattle.std.specs.declared.hash.BuildHasherDefault.{BuildHasherDefault}
use Rattle.std.specs.declared.hash.FoldHasher.{FoldHasher}
use Rattle.ws2s_narrow.specs.Pending.{has}

and-turned : (b c : Bool) → b && c ≡ c && b
and-turned true true = refl
and-turned true false = refl
and-turned false true = refl
and-turned false false = refl

module _ (few many : HashSet ℕ (BuildHasherDefault FoldHasher)) (a b : ℕ → Bool)
    (of_few : (t : ℕ) → contains nat_eq few t ≡ a t) (of_many : (t : ℕ) → contains nat_eq many t ≡ b t) where
  pub has-both : (t : ℕ) → has t (filter (λ u. contains nat_eq many u) few.keys) ≡ a t && b t
  has-both t = any-filter_same (nat_eq t) (λ u. contains nat_eq many u) (contains nat_eq many t)
      (λ u same. ap (contains nat_eq many) (sym (eqb-true t u same))) few.keys
      ∙ and-turned (contains nat_eq many t) (contains nat_eq few t)
      ∙ ap (λ (c : Bool). c && contains nat_eq many t) (of_few t) ∙ ap (λ (c : Bool). a t && c) (of_many t)

  pub has-both-turned : (t : ℕ) → has t (filter (λ u. contains nat_eq many u) few.keys) ≡ b t && a t
  has-both-turned t = has-both t ∙ and-turned (a t) (b t)

  pub has-alone : (t : ℕ) → has t (filter (λ u. not (contains nat_eq many u)) few.keys) ≡ a t && not (b t)
  has-alone t = any-filter_same (nat_eq t) (λ u. not (contains nat_eq many u)) (not (contains nat_eq many t))
      (λ u same. ap (λ (v : ℕ). not (contains nat_eq many v)) (sym (eqb-true t u same))) few.keys
      ∙ and-turned (not (contains nat_eq many t)) (contains nat_eq few t)
      ∙ ap (λ (c : Bool). c && not (contains nat_eq many t)) (of_few t) ∙ ap (λ (c : Bool). a t && not c) (of_many t)
