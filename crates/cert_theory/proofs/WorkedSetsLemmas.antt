-- On the worked section with a quantifier.
use Rattle.std.proofs.Common.{◌≡◌, ℕ, zero, suc, ◌<◌, true, false, ◌↔◌, inl, inr, [], ◌∷◌, Contains, Some, slice_get}
use Rattle.std.proofs.Common.{refl, sym, ap, subst, ◌∙◌, arith}
use Rattle.std.proofs.lemmas.Bool.{false≢true}
use Rattle.std.proofs.lemmas.List.Elements.{All-nil, All-cons}
use Rattle.labels.specs.Labels.{Label, with_track}
use Rattle.gta_theory.specs.Guides.{IsSpace, left, right}
use Rattle.gta_theory.specs.Constructions.{Settled, starts, steps, IsStepOf, HasAccepting}
use Rattle.gta_theory.proofs.ListsLemmas.{Contains-first, Contains-cases, Contains-none}
use Rattle.ws2s_core.specs.declared.formula.Formula.TheVariants.{Not, Ex2, rolls-Sub, rolls-Not, rolls-Ex2}
use Rattle.ws2s_core.specs.declared.node.Node.{Node}
use Rattle.ws2s_core.specs.Examples.{track}
use Rattle.ws2s_core.specs.Nodes.{HasPartsBelow, formulas_of}
use Rattle.ws2s_theory.specs.Worked.{plain}
use Rattle.cert_theory.specs.Tables.{NamedSet, SetGoesTo, IsSetTable}
use Rattle.cert_theory.specs.Sections.{IsStageOf, IsSection}
use Rattle.cert_theory.specs.Worked.{never, quantified, quantified_nodes, one_set, quantified_stages}
use Rattle.cert_theory.proofs.StartsLemmas.{part, from-inside}

abbrev the_one : NamedSet
the_one = record { space = 0; members = 0 ∷ []; state = 0 }

only : (set : NamedSet) → Contains one_set set → the_one ≡ set
only set listed = elim (Contains-cases the_one set [] listed) as (λ _. the_one ≡ set) [
  | inl is ↦ is
  | inr none ↦ absurd (Contains-none set none)
]

-- the one member
member : (q : ℕ) → Contains (0 ∷ []) q ↔ (0 ≡ q)
member q = (
  (λ h. elim (Contains-cases 0 q [] h) as (λ _. 0 ≡ q) [
    | inl is ↦ is
    | inr none ↦ absurd (Contains-none q none)
  ]),
  (λ is. subst (Contains (0 ∷ [])) is (Contains-first 0 [])),
)

-- every step from the initial states leads to 0
stays : (s p r : ℕ) (label : Label) → 0 ≡ p → 0 ≡ r → 0 ≡ part.step s p r label
stays s p r label is_p is_r = sym (from-inside (label 0)) ∙ (λ i. part.step s (is_p i) (is_r i) label)

settled-zero : (s q : ℕ) → Settled plain part 1 s q → 0 ≡ q
settled-zero _ _ (starts s there) = refl
settled-zero _ _ (steps s p r label there at_most in_l in_r) =
    stays s p r label (settled-zero (left plain s) p in_l) (settled-zero (right plain s) r in_r)

goes : (s : ℕ) (IsMember : ℕ → Type 0) → IsSpace plain s → ((q : ℕ) → (0 ≡ q) ↔ IsMember q) → SetGoesTo one_set s IsMember 0
goes s IsMember there same = record {
  set = the_one;
  listed = Contains-first the_one [];
  in_space = omega (arith, there);
  exactly = λ q. ((λ h. (same q).0 ((member q).0 h)), (λ h. (member q).1 ((same q).1 h)));
  is_state = refl;
}

comes : (s : ℕ) (label : Label) (q : ℕ) → 0 ≡ q → IsStepOf part 1 s (Contains (the_one).members) (Contains (the_one).members) label q
comes s label q is = record {
  left = 0;
  right = 0;
  bit = false;
  in_left = Contains-first 0 [];
  in_right = Contains-first 0 [];
  is_step = from-inside (label 0) ∙ is;
}

steps-goes : (s : ℕ) (l r : NamedSet) (label : Label) → IsSpace plain s → the_one ≡ l → the_one ≡ r →
    SetGoesTo one_set s (IsStepOf part 1 s (Contains l.members) (Contains r.members) label) 0
steps-goes s l r label there is_l is_r =
    goes s _ there (λ q. (
      (λ is. subst (λ (m : NamedSet). IsStepOf part 1 s (Contains l.members) (Contains m.members) label q) is_r
          (subst (λ (m : NamedSet). IsStepOf part 1 s (Contains m.members) (Contains (the_one).members) label q) is_l (comes s label q is))),
      (λ h. back q h),
    ))
  where
    back : (q : ℕ) → IsStepOf part 1 s (Contains l.members) (Contains r.members) label q → 0 ≡ q
    back q h =
        let in_l : Contains (the_one).members h.left = subst (λ (m : NamedSet). Contains m.members h.left) (sym is_l) h.in_left in
        let in_r : Contains (the_one).members h.right = subst (λ (m : NamedSet). Contains m.members h.right) (sym is_r) h.in_right in
        stays s h.left h.right (with_track label 1 h.bit) ((member h.left).0 in_l) ((member h.right).0 in_r) ∙ h.is_step

none-accepts : (set : NamedSet) → Contains one_set set → HasAccepting part (Contains set.members) → false ≡ true
none-accepts set listed some =
    let inside : Contains (the_one).members some.state = subst (λ (m : NamedSet). Contains m.members some.state) (sym (only set listed)) some.inside in
    ap (λ q. part.accepting q) ((member some.state).0 inside) ∙ some.accepting

IsSetTable-one : IsSetTable plain part 1 (Settled plain part 1) one_set never
IsSetTable-one = record {
  initial = λ s there. goes s (Settled plain part 1 s) there (λ q. (
    (λ is. subst (Settled plain part 1 s) is (starts s there)),
    (λ settled. settled-zero s q settled),
  ));
  step = λ s l r label there in_l in_r of_l of_r. steps-goes s l r label there (only l in_l) (only r in_r);
  accepting = λ set listed here. ((λ bad. absurd (false≢true bad)), (λ some. none-accepts set listed some));
  once = λ k m in_k in_m here same. ap (λ (set : NamedSet). set.state) (sym (only k in_k) ∙ only m in_m);
}

earlier : (k : ℕ) (node : Node) → slice_get quantified_nodes k ≡ Some node → HasPartsBelow k node
earlier zero node at =
    let is : Node.Sub (track 0) (track 0) ≡ node = cc in
    subst (HasPartsBelow 0) is (All-nil (λ part. part < 0))
earlier (suc zero) node at =
    let is : Node.Not (record { 0 = 0 }) ≡ node = cc in
    subst (HasPartsBelow 1) is (All-cons (λ part. part < 1) 0 [] (omega arith) (All-nil (λ part. part < 1)))
earlier (suc (suc zero)) node at =
    let is : Node.Ex2 (track 1) (record { 0 = 1 }) ≡ node = cc in
    subst (HasPartsBelow 2) is (All-cons (λ part. part < 2) 1 [] (omega arith) (All-nil (λ part. part < 2)))
earlier (suc (suc (suc k))) node at = absurd cc

staged : (k : ℕ) (node : Node) → slice_get quantified_nodes k ≡ Some node → IsStageOf plain quantified_stages node (quantified_stages k)
staged zero node at =
    let is : Node.Sub (track 0) (track 0) ≡ node = cc in
    subst (λ n. IsStageOf plain quantified_stages n (quantified_stages 0)) is refl
staged (suc zero) node at =
    let is : Node.Not (record { 0 = 0 }) ≡ node = cc in
    subst (λ n. IsStageOf plain quantified_stages n (quantified_stages 1)) is refl
staged (suc (suc zero)) node at =
    let is : Node.Ex2 (track 1) (record { 0 = 1 }) ≡ node = cc in
    subst (λ n. IsStageOf plain quantified_stages n (quantified_stages 2)) is IsSetTable-one
staged (suc (suc (suc k))) node at = absurd cc

whole : slice_get (formulas_of quantified_nodes) 2 ≡ Some quantified
whole = ap Some (rolls-Ex2 _ _ ∙ ap (Ex2 (track 1)) (rolls-Not _ ∙ ap Not (rolls-Sub (track 0) (track 0))))

pub quantified-section : IsSection plain quantified quantified_nodes quantified_stages
quantified-section = record {
  stages_of_parts = record { earlier = earlier; staged = staged };
  whole_is_last = whole;
  none_accepts = λ q reached. refl;
}
