-- A formula has a lightest model or none.
use Rattle.std.proofs.Common.{◌⊎◌, inl, inr, ◌+◌, ◌<◌, ℕ, zero, suc, List, arith}
use Rattle.std.proofs.lemmas.Bool.{cases_lt}
use Rattle.gta_theory.specs.Assignments.{Assignment, Covers}
use Rattle.gta_theory.specs.Automata.{Automaton}
use Rattle.gta_theory.specs.Constructions.{IsClosed}
use Rattle.gta_theory.specs.Numbered.{Below}
use Rattle.gta_theory.specs.Sizes.{LooksBelow}
use Rattle.gta_theory.specs.Weights.{weight}
use Rattle.gta_theory.proofs.AutomataLemmas.{IsClosed-reached, Accepts-product}
use Rattle.gta_theory.proofs.NumberedLemmas.{IsProduct-exists}
use Rattle.ws2s_core.specs.declared.formula.Formula.{Formula}
use Rattle.ws2s_core.specs.Satisfaction.{WSat}
use Rattle.ws2s_core.specs.Recognising.{IsMinimalOf}
use Rattle.ws2s_theory.specs.Worked.{plain}
use Rattle.ws2s_theory.proofs.FormsLemmas.{Formed-all}
use Rattle.ws2s_theory.proofs.WorkedLemmas.{plain-guide}
use Rattle.ws2s_least.specs.Lightest.{HasNoModel, IsLightestFor}
use Rattle.ws2s_least.proofs.CounterLemmas.{bound, counter, counts, stable-counter, closed-counter, looks-counter, light-from, accepts-light, accepts-decided}

module _ (f : Formula) (tracks : List ℕ) (M : Automaton ℕ) (count : ℕ → ℕ) (k : ℕ) (minimal : IsMinimalOf plain M (Below count) f)
    (looks : LooksBelow plain M (Below count) k) where
  abbrev HasModel : Type 0
  HasModel = (n : ℕ) × (a : Assignment) × Covers n a × WSat f a

  satisfiable : HasNoModel f ⊎ HasModel
  satisfiable = elim (accepts-decided plain plain-guide M count minimal.minimal.reached) as (λ _. HasNoModel f ⊎ HasModel) [
    | inl (n, a, covers, accepts) ↦ inr (n, a, covers, (minimal.recognises.exactly n a covers).0 accepts)
    | inr none ↦ inl (λ n a covers sat. none a ((minimal.recognises.exactly n a covers).1 sat))
  ]

  -- ---- whether anything is lighter

  abbrev IsLightEnough : ℕ → Type 0
  IsLightEnough w = (m : ℕ) (b : Assignment) → Covers m b → WSat f b → weight tracks m b < w → ⊥

  abbrev HasLighter : ℕ → Type 0
  HasLighter w = (m : ℕ) × (b : Assignment) × Covers m b × WSat f b × (weight tracks m b < w)

  closed : IsClosed plain M (Below count)
  closed = IsClosed-reached plain plain-guide M minimal.minimal.stable (Below count) minimal.minimal.reached

  looks-on : LooksBelow plain M (Below count) (k + bound tracks)
  looks-on = record {
    step = λ s p q l m there in_left in_right same. looks.step s p q l m there in_left in_right (λ t below. same t (omega (arith, below)));
  }

  lighter : (w : ℕ) → IsLightEnough w ⊎ HasLighter w
  lighter w =
      let (P, counts_P, pair, product) = IsProduct-exists plain M (counter tracks w) count (counts tracks w) (k + bound tracks) plain-guide
      minimal.minimal.stable closed looks-on (stable-counter tracks w plain) (closed-counter tracks w plain)
      (looks-counter tracks w plain (k + bound tracks) (omega arith)) in
      let both = Accepts-product plain plain-guide M (counter tracks w) minimal.minimal.stable (stable-counter tracks w plain) P (Below counts_P) pair
      product in
      elim (accepts-decided plain plain-guide P counts_P product.reached) as (λ _. IsLightEnough w ⊎ HasLighter w) [
        | inl (n, b, covers, accepts) ↦
            (let parts = (both b).0 accepts in
            inr (parts.1.depth, b, parts.1.covers, (minimal.recognises.exactly parts.1.depth b parts.1.covers).0 parts.0, light-from tracks w plain b parts.1))
        | inr none ↦ inl (λ m b covers sat light.
            none b ((both b).1 ((minimal.recognises.exactly m b covers).1 sat, accepts-light tracks w plain m b covers light)))
      ]

  -- ---- going down

  abbrev HasLightest : Type 0
  HasLightest = (n : ℕ) × (a : Assignment) × IsLightestFor tracks f n a

  least-below : (fuel n : ℕ) (a : Assignment) → Covers n a → WSat f a → weight tracks n a < fuel → HasLightest
  least-below zero n a covers sat below = absurd (omega (arith, below))
  least-below (suc fuel) n a covers sat below = elim (lighter (weight tracks n a)) as (λ _. HasLightest) [
    | inl none ↦ (
      n,
      a,
      record {
        covers = covers;
        satisfies = sat;
        least = λ m b in_m sat_b. elim (cases_lt (weight tracks m b) (weight tracks n a)) [
          | inl less ↦ absurd (none m b in_m sat_b less)
          | inr more ↦ more
        ];
      },
    )
    | inr (m, b, in_m, sat_b, less) ↦ least-below fuel m b in_m sat_b (omega (arith, less, below))
  ]

  lightest : HasNoModel f ⊎ HasLightest
  lightest = elim satisfiable as (λ _. HasNoModel f ⊎ HasLightest) [
    | inl none ↦ inl none
    | inr (n, a, covers, sat) ↦ inr (least-below (suc (weight tracks n a)) n a covers sat (omega arith))
  ]

pub lightest-exists : (f : Formula) (tracks : List ℕ) → HasNoModel f ⊎ ((n : ℕ) × (a : Assignment) × IsLightestFor tracks f n a)
lightest-exists f tracks =
    let (M, count, k, of_M) = Formed-all plain plain-guide f in
    lightest f tracks M count k of_M.minimal of_M.looks
