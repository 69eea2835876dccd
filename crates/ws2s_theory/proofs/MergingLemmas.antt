-- On merging: what holds along all positions holds in their spaces; and classes of an automaton whose states are all met.
use Rattle.std.proofs.Common.{◌≡◌, ◌≢◌, ℕ, Bool, true, false, ◌||◌, inl, inr, [], ◌∷◌, ◌++◌, refl, sym, ap, subst, ◌∙◌, eqb, eqb-true}
use Rattle.labels.specs.Labels.{Label}
use Rattle.gta_theory.specs.Assignments.{Position}
use Rattle.gta_theory.specs.Guides.{Spaces, IsGuide, IsSpace, left, right, space_at}
use Rattle.gta_theory.specs.Automata.{Automaton}
use Rattle.gta_theory.specs.Constructions.{IsReached, IsNaming}
use Rattle.gta_theory.specs.Generated.{Generated}
use Rattle.gta_theory.specs.Minimal.{AreSeparated}
use Rattle.gta_theory.proofs.GeneratedLemmas.{IsReached-generated}
use Rattle.gta_theory.proofs.MinimalLemmas.{IsMinimal-classes}
use Rattle.ws2s_core.specs.declared.formula.Formula.{Formula}
use Rattle.ws2s_core.specs.Recognising.{Recognises, IsMinimalOf}
use Rattle.ws2s_core.proofs.RecognisingLemmas.{Recognises-classes}
use Rattle.ws2s_theory.specs.Merging.{child_space, IsChildTest, is_below, merged, Stands}
use Rattle.ws2s_theory.proofs.TestsLemmas.{or-cases, or-true}
use Rattle.ws2s_theory.proofs.TestsLemmas.{Any}

module _ (g : Spaces) (guide : IsGuide g) where
  pub child-inside : (letter : Bool) (s : ℕ) → IsSpace g s → IsSpace g (child_space g letter s)
  child-inside false s there = guide.left_inside s there
  child-inside true s there = guide.right_inside s there

  pub space_at-child : (u : Position) (letter : Bool) (s : ℕ) → space_at g s (u ++ letter ∷ []) ≡ child_space g letter (space_at g s u)
  space_at-child [] false s = refl
  space_at-child [] true s = refl
  space_at-child (false ∷ u) letter s = space_at-child u letter (left g s)
  space_at-child (true ∷ u) letter s = space_at-child u letter (right g s)

  -- what goes from a space to its children goes along each position
  pub along : (P : ℕ → Type 0) → ((s : ℕ) → IsSpace g s → P s → (letter : Bool) → P (child_space g letter s)) →
      (u : Position) (s : ℕ) → IsSpace g s → P s → IsSpace g (space_at g s u) × P (space_at g s u)
  along P down [] s there h = (there, h)
  along P down (false ∷ u) s there h = along P down u (left g s) (guide.left_inside s there) (down s there h false)
  along P down (true ∷ u) s there h = along P down u (right g s) (guide.right_inside s there) (down s there h true)

  module _ (is_child : Bool → ℕ → Bool) (test : IsChildTest g is_child) where
    -- the space has a position
    abbrev IsPlaced : ℕ → Type 0
    IsPlaced s = (u : Position) × (space_at g 0 u ≡ s)

    placed-child : (letter : Bool) (s : ℕ) → IsSpace g s → is_child letter s ≡ true → IsPlaced s
    placed-child letter s there is =
        let u = (test.exactly letter s there).0 is in (u.0 ++ letter ∷ [], space_at-child u.0 letter 0 ∙ u.1)

    pub placed : (s : ℕ) → IsSpace g s → is_below is_child s || eqb s 0 ≡ true → IsPlaced s
    placed s there is = elim (or-cases (is_below is_child s) (eqb s 0) is) as (λ _. IsPlaced s) [
      | inl below ↦ elim (or-cases (is_child false s) (is_child true s) below) as (λ _. IsPlaced s) [
        | inl one ↦ placed-child false s there one
        | inr other ↦ placed-child true s there other
      ]
      | inr top ↦ ([], sym (eqb-true s 0 top))
    ]

    -- the children of a space that has a position pass the test
    pub child-passes : (s : ℕ) → IsSpace g s → is_below is_child s || eqb s 0 ≡ true → (letter : Bool) → is_child letter (child_space g letter s) ≡ true
    child-passes s there is letter =
        let u = placed s there is in
        (test.exactly letter (child_space g letter s) (child-inside letter s there)).1 (u.0, ap (child_space g letter) u.1)

    pub child-below : (s : ℕ) → IsSpace g s → is_below is_child s || eqb s 0 ≡ true → (letter : Bool) → is_below is_child (child_space g letter s) ≡ true
    child-below s there is false = λ i. child-passes s there is false i || is_child true (left g s)
    child-below s there is true = or-true (is_child false (right g s)) (is_child true (right g s)) (child-passes s there is true)

    -- what holds at the root's space and goes to children holds in each space with a position
    pub everywhere : (P : ℕ → Type 0) → P 0 → ((s : ℕ) → IsSpace g s → P s → (letter : Bool) → P (child_space g letter s)) →
        (s : ℕ) → IsSpace g s → is_below is_child s || eqb s 0 ≡ true → P s
    everywhere P top down s there is =
        let u = placed s there is in subst P u.1 (along P down u.0 0 guide.not_empty top).1

    -- what children have of that, the child by a letter has
    pub at-child : (P : ℕ → Type 0) → P 0 → ((s : ℕ) → IsSpace g s → P s → (letter : Bool) → P (child_space g letter s)) →
        (letter : Bool) (R : ℕ → Type 0) → ((s : ℕ) → IsSpace g s → P s → R (child_space g letter s)) →
        (s : ℕ) → IsSpace g s → is_child letter s ≡ true → R s
    at-child P top down letter R gives s there is =
        let u = (test.exactly letter s there).0 is in
        let at = along P down u.0 0 guide.not_empty top in
        subst R u.1 (gives (space_at g 0 u.0) at.0 at.1)

    pub at-below : (P : ℕ → Type 0) → P 0 → ((s : ℕ) → IsSpace g s → P s → (letter : Bool) → P (child_space g letter s)) →
        (R : ℕ → Type 0) → ((s : ℕ) → IsSpace g s → P s → (letter : Bool) → R (child_space g letter s)) →
        (s : ℕ) → IsSpace g s → is_below is_child s ≡ true → R s
    at-below P top down R gives s there is = elim (or-cases (is_child false s) (is_child true s) is) as (λ _. R s) [
      | inl one ↦ at-child P top down false R (λ s there h. gives s there h false) s there one
      | inr other ↦ at-child P top down true R (λ s there h. gives s there h true) s there other
    ]

-- classes of an automaton whose states are all met
module _ {Q : Type 0} (g : Spaces) (guide : IsGuide g) (A : Automaton Q) (f : Formula) (of_A : Recognises g A f)
    (generated : (s : ℕ) (q : Q) → IsSpace g s → Generated g A s q) (class : ℕ → Q → Q)
    (idempotent : (s : ℕ) (q : Q) → class s (class s q) ≡ class s q)
    (step : (s : ℕ) (p q : Q) (label : Label) → IsSpace g s →
    class s (A.step s p q label) ≡ class s (A.step s (class (left g s) p) (class (right g s) q) label))
    (accepting : (q : Q) → A.accepting q ≡ A.accepting (class 0 q))
    (apart : (s : ℕ) (p q : Q) → IsSpace g s → class s p ≢ class s q → AreSeparated g A s p q) where
  reached : IsReached g A Any
  reached = IsReached-generated g guide A of_A.stable Any
      (record { initial = λ s there. tt; step = λ s p q label there in_p in_q. tt })
      (record { state = λ s q there h. generated s q there })

  naming : IsNaming g A Any (merged class A) class
  naming = record {
    initial = λ s there. refl;
    step = λ s p q label there in_p in_q. step s p q label there;
    accepting = λ q is. accepting q;
  }

  pub IsMinimalOf-merged : IsMinimalOf g (merged class A) (Stands class) f
  IsMinimalOf-merged = record {
    minimal = IsMinimal-classes g guide A of_A.stable Any reached (merged class A) class naming (Stands class)
        (λ s x there. ((λ e. (x, tt, e)), (λ h. subst (λ z. class s z ≡ z) h.2 (idempotent s h.0))))
        (λ s p q there in_p in_q. apart s p q there);
    recognises = Recognises-classes g guide A f of_A Any (merged class A) class reached naming;
  }
