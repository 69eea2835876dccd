-- On the worked section.
use Rattle.std.proofs.Common.{◌≡◌, ℕ, zero, suc, ◌<◌, Bool, true, false, not, ◌&&◌, inl, inr}
use Rattle.std.proofs.Common.{[], ◌∷◌, Contains, Some, slice_get, refl, sym, ap, ap₂, subst, ◌∙◌, arith}
use Rattle.std.proofs.lemmas.List.Elements.{All-nil, All-cons}
use Rattle.gta_theory.specs.Constructions.{complement}
use Rattle.gta_theory.proofs.ListsLemmas.{Contains-first, Contains-later, Contains-cases, Contains-none}
use Rattle.ws2s_core.specs.declared.formula.Formula.TheVariants.{And, Not, rolls-Single, rolls-And, rolls-Not}
use Rattle.ws2s_core.specs.declared.node.Node.{Node}
use Rattle.ws2s_core.specs.Examples.{track}
use Rattle.ws2s_core.specs.Nodes.{HasPartsBelow, formulas_of}
use Rattle.ws2s_theory.specs.Worked.{plain}
use Rattle.cert_theory.specs.Atoms.{single_numbers}
use Rattle.cert_theory.specs.Tables.{NamedPair, GoesTo, IsPairTable}
use Rattle.cert_theory.specs.Sections.{IsStageOf, IsSection}
use Rattle.cert_theory.specs.Worked.{contradiction, contradiction_nodes, never, same_states, contradiction_stages}
use Rattle.cert_theory.proofs.AtomsLemmas.{single_below}

-- the pair of a state with itself
abbrev own : ℕ → NamedPair
own p = record { space = 0; first = p; second = p; state = 0 }

-- what a pair of the table is
record IsOwn (s p q x : ℕ) : Type 0 where
  here : 0 ≡ s
  same : p ≡ q
  to : 0 ≡ x

own-is : (k s p q x : ℕ) (pair : NamedPair) → own k ≡ pair → pair.space ≡ s → pair.first ≡ p → pair.second ≡ q → pair.state ≡ x → IsOwn s p q x
own-is k s p q x pair is in_space is_first is_second is_state = record {
  here = ap (λ (n : NamedPair). n.space) is ∙ in_space;
  same = sym (ap (λ (n : NamedPair). n.first) is ∙ is_first) ∙ ap (λ (n : NamedPair). n.second) is ∙ is_second;
  to = ap (λ (n : NamedPair). n.state) is ∙ is_state;
}

pair-is : (s p q x : ℕ) → GoesTo same_states s p q x → IsOwn s p q x
pair-is s p q x h = elim (Contains-cases (own 0) h.pair (own 1 ∷ own 2 ∷ []) h.listed) as (λ _. IsOwn s p q x) [
  | inl is ↦ own-is 0 s p q x h.pair is h.in_space h.is_first h.is_second h.is_state
  | inr later ↦ elim (Contains-cases (own 1) h.pair (own 2 ∷ []) later) as (λ _. IsOwn s p q x) [
    | inl is ↦ own-is 1 s p q x h.pair is h.in_space h.is_first h.is_second h.is_state
    | inr last ↦ elim (Contains-cases (own 2) h.pair [] last) as (λ _. IsOwn s p q x) [
      | inl is ↦ own-is 2 s p q x h.pair is h.in_space h.is_first h.is_second h.is_state
      | inr none ↦ absurd (Contains-none h.pair none)
    ]
  ]
]

goes : (s k : ℕ) → 0 ≡ s → Contains same_states (own k) → GoesTo same_states s k k 0
goes s k here listed = record {
  pair = own k;
  listed = listed;
  in_space = here;
  is_first = refl;
  is_second = refl;
  is_state = refl;
}

own-goes : (s p : ℕ) → 0 ≡ s → p < 3 → GoesTo same_states s p p 0
own-goes s zero here below = goes s 0 here (Contains-first (own 0) (own 1 ∷ own 2 ∷ []))
own-goes s (suc zero) here below =
    goes s 1 here (Contains-later (own 0) (own 1) (own 1 ∷ own 2 ∷ []) (Contains-first (own 1) (own 2 ∷ [])))
own-goes s (suc (suc zero)) here below =
    goes s 2 here (Contains-later (own 0) (own 2) (own 1 ∷ own 2 ∷ []) (Contains-later (own 1) (own 2) (own 2 ∷ []) (Contains-first (own 2) [])))
own-goes s (suc (suc (suc p))) here below = absurd (omega (arith, below))

-- a pair of equal states
pair-goes : (s p q : ℕ) → 0 ≡ s → p ≡ q → p < 3 → GoesTo same_states s p q 0
pair-goes s p q here same below = subst (λ n. GoesTo same_states s p n 0) same (own-goes s p here below)

never-both : (b c : Bool) → b ≡ c → (b && not c) ≡ false
never-both b c same = subst (λ d. (b && not d) ≡ false) same (each b)
  where
    each : (d : Bool) → (d && not d) ≡ false
    each true = refl
    each false = refl

IsPairTable-same : IsPairTable plain (single_numbers 0) (complement (single_numbers 0)) same_states never
IsPairTable-same = record {
  initial = λ s there. own-goes s 0 (omega (arith, there)) (omega arith);
  step = λ s p q x p' q' y label there l r.
      pair-goes s _ _ (omega (arith, there))
      (λ i. (single_numbers 0).step s ((pair-is _ p q x l).same i) ((pair-is _ p' q' y r).same i) label)
      (single_below _);
  accepting = λ p q x h. never-both _ _ (ap (λ n. (single_numbers 0).accepting n) (pair-is 0 p q x h).same);
  once = λ s p q x y h h'. sym (pair-is s p q x h).to ∙ (pair-is s p q y h').to;
}

earlier : (k : ℕ) (node : Node) → slice_get contradiction_nodes k ≡ Some node → HasPartsBelow k node
earlier zero node at =
    let is : Node.Single (track 0) ≡ node = cc in
    subst (HasPartsBelow 0) is (All-nil (λ part. part < 0))
earlier (suc zero) node at =
    let is : Node.Not (record { 0 = 0 }) ≡ node = cc in
    subst (HasPartsBelow 1) is (All-cons (λ part. part < 1) 0 [] (omega arith) (All-nil (λ part. part < 1)))
earlier (suc (suc zero)) node at =
    let is : Node.And (record { 0 = 0 }) (record { 0 = 1 }) ≡ node = cc in
    subst (HasPartsBelow 2) is (All-cons (λ part. part < 2) 0 (1 ∷ []) (omega arith)
    (All-cons (λ part. part < 2) 1 [] (omega arith) (All-nil (λ part. part < 2))))
earlier (suc (suc (suc k))) node at = absurd cc

staged : (k : ℕ) (node : Node) → slice_get contradiction_nodes k ≡ Some node →
    IsStageOf plain contradiction_stages node (contradiction_stages k)
staged zero node at =
    let is : Node.Single (track 0) ≡ node = cc in
    subst (λ n. IsStageOf plain contradiction_stages n (contradiction_stages 0)) is refl
staged (suc zero) node at =
    let is : Node.Not (record { 0 = 0 }) ≡ node = cc in
    subst (λ n. IsStageOf plain contradiction_stages n (contradiction_stages 1)) is refl
staged (suc (suc zero)) node at =
    let is : Node.And (record { 0 = 0 }) (record { 0 = 1 }) ≡ node = cc in
    subst (λ n. IsStageOf plain contradiction_stages n (contradiction_stages 2)) is IsPairTable-same
staged (suc (suc (suc k))) node at = absurd cc

whole : slice_get (formulas_of contradiction_nodes) 2 ≡ Some contradiction
whole = ap Some (rolls-And _ _ ∙ ap₂ And (rolls-Single (track 0)) (rolls-Not _ ∙ ap Not (rolls-Single (track 0))))

pub worked-section : IsSection plain contradiction contradiction_nodes contradiction_stages
worked-section = record {
  stages_of_parts = record { earlier = earlier; staged = staged };
  whole_is_last = whole;
  none_accepts = λ q reached. refl;
}
