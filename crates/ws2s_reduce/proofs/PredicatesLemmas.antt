-- The reductions of a text's predicates mean what the predicates mean.
use Rattle.std.proofs.Common.{◌≡◌, ◌≢◌, ℕ, suc, ◌<◌, Bool, true, false, cond, eqb, IsTrue, ◌↔◌, inl, inr, List, [], ◌∷◌, ◌++◌}
use Rattle.std.proofs.Common.{length, map, Some, slice_get, refl, sym, ap, ◌∙◌, subst, arith, append_assoc, append-nil, eq-eqb}
use Rattle.std.proofs.Common.{ne_eqb, length-append}
use Rattle.std.proofs.Math.Numerals.{add-one}
use Rattle.std.proofs.lemmas.Bool.{true≢false, and_parts}
use Rattle.std.proofs.lemmas.Option.{slice_get_within}
use Rattle.gta_theory.specs.Assignments.{Assignment}
use Rattle.gta_theory.proofs.ListedLemmas.{slice_get-push}
use Rattle.ws2s_core.specs.declared.formula.Formula.{Formula}
use Rattle.ws2s_core.specs.Satisfaction.{WSat}
use Rattle.ws2s_syntax.specs.declared.declaration.Class.{Class}
use Rattle.ws2s_syntax.specs.declared.declaration.Predicate.{Predicate}
use Rattle.ws2s_syntax.specs.Sentences.{sentence_of}
use Rattle.ws2s_syntax.specs.Checked.{is_sentence, are_predicates}
use Rattle.ws2s_syntax.specs.Meaning.{Value, Predicates, Means, no_predicates, with_predicate, predicates_from}
use Rattle.ws2s_reduce.specs.Reducing.{Reductions, reduced, no_reductions, with_reduction, reductions_from}
use Rattle.ws2s_reduce.proofs.NamesLemmas.{Fits}
use Rattle.ws2s_reduce.proofs.SentencesLemmas.{Knows, WSat-sentence}

module _ (free : List Class) (values : List Value) where
  Knows-none : Knows free values [] no_predicates no_reductions
  Knows-none = record {
    means = λ predicate params e a next given local fits.
        let within : predicate < 0 = slice_get_within [] predicate params e in absurd (omega (arith, within));
  }

  -- one predicate more
  Knows-with : (signatures : List (List Class)) (known : Predicates) (reductions : Reductions) (params : List Class)
      (meaning : List Value → Type 0) (reduction : ℕ → List ℕ → Formula) (n : ℕ) → n ≡ length signatures →
      Knows free values signatures known reductions →
      ((a : Assignment) (next : ℕ) (given : List ℕ) (local : List Value) →
      Fits (record { free = free; local = params }) a next given (record { free = values; local = local }) →
      WSat (reduction next given) a ↔ meaning local) →
      Knows free values (signatures ++ params ∷ []) (with_predicate known n meaning) (with_reduction reductions n reduction)
  Knows-with signatures known reductions params meaning reduction n is_n knows new = record { means = means }
    where
      at_bit : (b : Bool) (predicate : ℕ) (own : List Class) (a : Assignment) (next : ℕ) (given : List ℕ) (local : List Value) →
          (b ≡ true → WSat (reduction next given) a ↔ meaning local) →
          (b ≡ false → WSat (reductions predicate next given) a ↔ known predicate local) →
          WSat (cond b (reduction next given) (reductions predicate next given)) a
          ↔ (elim b as (λ _. Type 0) [ true ↦ meaning local | false ↦ known predicate local ])
      at_bit true predicate own a next given local here there = here refl
      at_bit false predicate own a next given local here there = there refl

      means : (predicate : ℕ) (own : List Class) → slice_get (signatures ++ params ∷ []) predicate ≡ Some own →
          (a : Assignment) (next : ℕ) (given : List ℕ) (local : List Value) →
          Fits (record { free = free; local = own }) a next given (record { free = values; local = local }) →
          WSat (with_reduction reductions n reduction predicate next given) a ↔ with_predicate known n meaning predicate local
      means predicate own e a next given local fits =
          elim (slice_get-push signatures params own predicate e)
          as (λ _. WSat (with_reduction reductions n reduction predicate next given) a ↔ with_predicate known n meaning predicate local) [
            | inl old ↦
                let within : predicate < length signatures = slice_get_within signatures predicate own old in
                let other : predicate ≢ n = λ same. let k : ⊥ = omega (arith, within, is_n, same) in k in
                at_bit (eqb predicate n) predicate own a next given local
                (λ is. absurd (true≢false (sym is ∙ ne_eqb predicate n other)))
                (λ _. knows.means predicate own old a next given local fits)
            | inr last ↦
                at_bit (eqb predicate n) predicate own a next given local
                (λ _. new a next given local (subst
                (λ classes. Fits (record { free = free; local = classes }) a next given
                (record { free = values; local = local })) (sym last.1) fits))
                (λ is. absurd (true≢false (sym (eq-eqb predicate n (last.0 ∙ sym is_n)) ∙ is)))
          ]

  Knows-from : (predicates : List Predicate) (signatures : List (List Class)) (known : Predicates) (reductions : Reductions)
      (n : ℕ) → n ≡ length signatures → Knows free values signatures known reductions →
      IsTrue (are_predicates free signatures predicates) →
      Knows free values (signatures ++ map (λ p. p.params) predicates)
      (predicates_from values known n (map (λ p. sentence_of p.body) predicates))
      (reductions_from reductions n (map (λ p. sentence_of p.body) predicates))
  Knows-from [] signatures known reductions n is_n knows checked =
      subst (λ all. Knows free values all known reductions) (sym (append-nil signatures)) knows
  Knows-from (p ∷ predicates) signatures known reductions n is_n knows checked =
      let is = and_parts (is_sentence signatures (record { free = free; local = p.params }) (sentence_of p.body))
      (are_predicates free (signatures ++ p.params ∷ []) predicates) checked in
      subst (λ all. Knows free values all
      (predicates_from values known n (map (λ p. sentence_of p.body) (p ∷ predicates)))
      (reductions_from reductions n (map (λ p. sentence_of p.body) (p ∷ predicates))))
      (append_assoc signatures (p.params ∷ []) (map (λ p. p.params) predicates))
      (Knows-from predicates (signatures ++ p.params ∷ [])
      (with_predicate known n (λ args. Means known (record { free = values; local = args }) (sentence_of p.body)))
      (with_reduction reductions n (λ next given. reduced reductions next given (sentence_of p.body)))
      (suc n) (ap suc is_n ∙ sym (length-append signatures (p.params ∷ []) ∙ add-one (length signatures)))
      (Knows-with signatures known reductions p.params
      (λ args. Means known (record { free = values; local = args }) (sentence_of p.body))
      (λ next given. reduced reductions next given (sentence_of p.body)) n is_n knows
      (λ a next given local fits.
      WSat-sentence free values signatures known reductions knows (sentence_of p.body) p.params a next given local fits is.0))
      is.1)

  pub Knows-predicates : (predicates : List Predicate) → IsTrue (are_predicates free [] predicates) →
      Knows free values (map (λ p. p.params) predicates)
      (predicates_from values no_predicates 0 (map (λ p. sentence_of p.body) predicates))
      (reductions_from no_reductions 0 (map (λ p. sentence_of p.body) predicates))
  Knows-predicates predicates checked = Knows-from predicates [] no_predicates no_reductions 0 refl Knows-none checked
