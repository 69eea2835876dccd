-- Joins of rows and columns.
use Rattle.std.proofs.Common.{◌≡◌, ℕ, List, [], ◌∷◌, Option, Some, None, Contains, slice_get, sym, ◌∙◌, ap, refl, subst, inl, inr, arith, ◌⊎◌}
use Rattle.std.specs.List.{All}
use Rattle.std.proofs.Math.Path.{fun_ext}
use Rattle.std.proofs.lemmas.List.Elements.{All-cons}
use Rattle.labels.specs.Labels.{Label, Function}
use Rattle.bdd_nodes.specs.declared.node_ref.NodeRef.{NodeRef}
use Rattle.bdd_nodes.specs.Shelf.{Contents, IsShelf, IsValid, state_of, limit_of}
use Rattle.bdd_nodes.specs.Changes.{Keeps, SameTables}
use Rattle.bdd_walk.specs.Answers.{KeepsAnswers, AnswersOnly, Completes}
use Rattle.bdd_walk.specs.Asked.{asked_of, IsGiven}
use Rattle.bdd_walk.specs.Under.{Adds, AddsAmong, Exceeds, ExceedsAmong}
use Rattle.bdd_walk.proofs.AddsAmongLemmas.{ExceedsAmong-alone}
use Rattle.gta_theory.specs.Automata.{Automaton}
use Rattle.gta_theory.specs.Constructions.{pairs}
use Rattle.gta_core.specs.Auto.{AutoView, root_at, automaton_of}
use Rattle.gta_core.proofs.AutoLemmas.{step-some}
use Rattle.gta_product.specs.Numbers.{number_in, numbered, AreNumbers}
use Rattle.gta_product.specs.Filling.{asked_at, IsCell, IsCellFunction, ExceedsCells, Joins}
use Rattle.gta_product.proofs.NumbersLemmas.{number_in-get, Extends-answers}

cases_number : (o : Option ℕ) → (o ≡ None) ⊎ ((n : ℕ) × (o ≡ Some n))
cases_number None = inl refl
cases_number (Some n) = inr (n, refl)

same_number : (m n : ℕ) → ◌≡◌ {A = Option ℕ} (Some m) (Some n) → m ≡ n
same_number m n e = cc

alone : {X : Type 0} (x : X) → Contains (x ∷ []) x
alone x = (0, omega arith, refl)

All-alone : {X : Type 0} (P : X → Type 0) (x : X) → P x → All P (x ∷ [])
All-alone P x holds = All-cons P x [] holds (λ k d within. absurd (omega arith))

-- one join of the roots that two automata have
module _ (a b : AutoView) (s : ℕ) (l r : ℕ × ℕ) (old new : Contents) (first second : NodeRef)
    (first_at : root_at old a s l.0 r.0 ≡ Some first) (second_at : root_at old b s l.1 r.1 ≡ Some second)
    (before after : List (ℕ × ℕ)) (numbers_before : AreNumbers before) (numbers_after : AreNumbers after) where
  abbrev pub both : Automaton (ℕ × ℕ)
  both = pairs (automaton_of old a) (automaton_of old b)

  pub asked-step : (label : Label) → asked_of old (first ∷ second ∷ []) None label ≡ asked_at both s l r label
  asked-step label =
      ap (λ (n : ℕ). n ∷ state_of old second label ∷ []) (step-some old a s l.0 r.0 label first first_at)
      ∙ ap (λ (n : ℕ). (automaton_of old a).step s l.0 r.0 label ∷ n ∷ []) (step-some old b s l.1 r.1 label second second_at)

  -- the functions of the join by a way of giving numbers
  given-step : (given : List ℕ → ℕ) → ◌≡◌ {A = Function} (λ label. given (asked_of old (first ∷ second ∷ []) None label)) (λ label. given (asked_at
      both s l r label))
  given-step given = fun_ext (λ (label : Label). ap given (asked-step label))

  cell-function : (given : List ℕ → ℕ) → IsCellFunction both s (l ∷ []) (r ∷ []) given (λ label. given (asked_at both s l r label))
  cell-function given = record { row = l; column = r; in_rows = alone l; in_columns = alone r; states = λ label. refl }

  pub Joins-one : Keeps old new → limit_of new ≡ limit_of old → SameTables old new → IsShelf new →
      KeepsAnswers (numbered before) (numbered after) →
      AnswersOnly (IsGiven (λ one other. other ≡ one) (asked_of old (first ∷ second ∷ []) None)) (numbered before) (numbered after) →
      ((given : List ℕ → ℕ) → Completes (numbered after) given → Adds old new (λ label. given (asked_of old (first ∷ second ∷ []) None label))) →
      Joins both s (l ∷ []) (r ∷ []) old new before after
  unfolding IsGiven
  Joins-one keeps same_limit tables shelf kept only adds = record {
    keeps = keeps;
    same_limit = same_limit;
    tables = tables;
    shelf = shelf;
    extends = Extends-answers before after numbers_before kept;
    only = λ k pair there.
        let number = numbers_after.found k pair there in
        elim (cases_number (number_in before pair)) [
          | inr was ↦ (let same : was.0 ≡ k = same_number was.0 k (sym (kept (pair.0 ∷ pair.1 ∷ []) was.0 was.1) ∙ number) in
              inl (subst (λ (n : ℕ). slice_get before n ≡ Some pair) same (number_in-get before pair was.0 was.1)))
          | inl none ↦ (let given = only (pair.0 ∷ pair.1 ∷ []) k number none in
              let gives : asked_at both s l r given.0 ≡ pair.0 ∷ pair.1 ∷ [] = sym (asked-step given.0) ∙ sym given.1 in
              inr (record {
                row = l;
                column = r;
                label = given.0;
                in_rows = alone l;
                in_columns = alone r;
                gives = same_pair _ pair gives;
              }))
        ];
    counted = λ given completes. record {
      wholes = (λ label. given (asked_at both s l r label)) ∷ [];
      each = All-alone (IsCellFunction both s (l ∷ []) (r ∷ []) given) (λ label. given (asked_at both s l r label)) (cell-function given);
      adds = subst (λ (whole : Function). AddsAmong old new (whole ∷ [])) (given-step given) (adds given completes);
    };
  }
    where
      same_pair : (p q : ℕ × ℕ) → p.0 ∷ p.1 ∷ [] ≡ q.0 ∷ q.1 ∷ [] → p ≡ q
      same_pair p q e =
          let at_0 : p.0 ≡ q.0 = cc in
          let at_1 : p.1 ≡ q.1 = cc in
          ap (λ (n : ℕ). let x : ℕ × ℕ = (n, p.1) in x) at_0 ∙ ap (λ (n : ℕ). let x : ℕ × ℕ = (q.0, n) in x) at_1

  pub IsCell-one : (made : NodeRef) → IsValid new made →
      ((label : Label) → numbered after (asked_of old (first ∷ second ∷ []) None label) ≡ Some (state_of new made label)) →
      IsCell both s after l r new made
  IsCell-one made valid value = record {
    valid = valid;
    states = λ label. ap (numbered after) (sym (asked-step label)) ∙ value label;
  }

  pub ExceedsCells-one : (given : List ℕ → ℕ) → Exceeds old (λ label. given (asked_of old (first ∷ second ∷ []) None label)) →
      ExceedsCells both s (l ∷ []) (r ∷ []) old given
  ExceedsCells-one given exceeds = record {
    wholes = (λ label. given (asked_at both s l r label)) ∷ [];
    each = All-alone (IsCellFunction both s (l ∷ []) (r ∷ []) given) (λ label. given (asked_at both s l r label)) (cell-function given);
    exceeds = subst (λ (whole : Function). ExceedsAmong old (whole ∷ [])) (given-step given) (ExceedsAmong-alone old _ exceeds);
  }
