-- Joins of rows and columns.
use Rattle.std.proofs.Common.{◌≡◌, ℕ, List, [], ◌∷◌, Option, Some, None, Contains, slice_get, sym, ◌∙◌, ap, refl, subst, inl, inr, arith, ◌⊎◌}
use Rattle.std.specs.List.{All}
use Rattle.std.proofs.Math.Path.{fun_ext}
use Rattle.std.proofs.lemmas.List.Elements.{All-cons}
use Rattle.labels.specs.Labels.{Label, Function}
use Rattle.bdd_nodes.specs.declared.node_ref.NodeRef.{NodeRef}
use Rattle.bdd_nodes.specs.Shelf.{Contents, IsShelf, IsValid, state_of, limit_of}
use Rattle.bdd_nodes.specs.Changes.{Keeps, SameTables}
use Rattle.bdd_walk.specs.Answers.{KeepsAnswers, AnswersOnly, Completes}
use Rattle.bdd_walk.specs.Asked.{asked_of, IsGiven}
use Rattle.bdd_walk.specs.Under.{Adds, AddsAmong, Exceeds, ExceedsAmong}
use Rattle.bdd_walk.proofs.AddsAmongLemmas.{ExceedsAmong-alone}
use Rattle.bdd_walk.proofs.SetsLemmas.{set_of-twice}
use Rattle.gta_core.specs.Auto.{AutoView, root_at, automaton_of}
use Rattle.bdd_walk.specs.Sets.{set_of}
use Rattle.gta_subsets.specs.Subsets.{set_step}
use Rattle.gta_subsets.specs.Roots.{AreRoots}
use Rattle.gta_subsets.specs.Numbers.{number_in, numbered, AreOfOneSet, AreNumbers}
use Rattle.gta_project.specs.Filling.{Stepping, IsCell, IsCellFunction, ExceedsCells, Joins}
use Rattle.gta_subsets.proofs.NumbersLemmas.{number_in-get, Completes-lists}
use Rattle.gta_subsets.proofs.SubsetsLemmas.{set_of-asked}

cases_number : (o : Option ℕ) → (o ≡ None) ⊎ ((n : ℕ) × (o ≡ Some n))
cases_number None = inl refl
cases_number (Some n) = inr (n, refl)

same_number : (m n : ℕ) → ◌≡◌ {A = Option ℕ} (Some m) (Some n) → m ≡ n
same_number m n e = cc

alone : {X : Type 0} (x : X) → Contains (x ∷ []) x
alone x = (0, omega arith, refl)

All-alone : {X : Type 0} (P : X → Type 0) (x : X) → P x → All P (x ∷ [])
All-alone P x holds = All-cons P x [] holds (λ k d within. absurd (omega arith))

-- one join of the roots that an automaton has for states of two sets
module _ (a : AutoView) (t s : ℕ) (l r : List ℕ) (old new : Contents) (roots : List NodeRef) (are : AreRoots (root_at old a s) l r roots)
    (known : (m n : ℕ) → Contains l m → Contains r n → (root : NodeRef) × (root_at old a s m n ≡ Some root))
    (before after : List (List ℕ)) (numbers_before : AreNumbers before) (numbers_after : AreNumbers after) where
  abbrev pub Step : Stepping
  Step = set_step (automaton_of old a) t

  pub asked-step : (label : Label) → set_of (asked_of old roots (Some t) label) ≡ Step s l r label
  asked-step label = set_of-asked old a t s l r roots are known label

  -- the set that is asked is a set already
  twice-step : (label : Label) → set_of (set_of (asked_of old roots (Some t) label)) ≡ Step s l r label
  twice-step label = set_of-twice (asked_of old roots (Some t) label) ∙ asked-step label

  -- the functions of the join by a way of giving numbers
  given-step : (given : List ℕ → ℕ) →
      ◌≡◌ {A = Function} (λ label. given (set_of (set_of (asked_of old roots (Some t) label)))) (λ label. given (Step s l r label))
  given-step given = fun_ext (λ (label : Label). ap given (twice-step label))

  cell-function : (given : List ℕ → ℕ) → IsCellFunction Step s (l ∷ []) (r ∷ []) given (λ label. given (Step s l r label))
  cell-function given = record { row = l; column = r; in_rows = alone l; in_columns = alone r; states = λ label. refl }

  -- a set that has a number keeps it
  kept-number : KeepsAnswers (numbered before) (numbered after) → (k : ℕ) (set : List ℕ) → slice_get before k ≡ Some set → number_in after set ≡ Some k
  kept-number kept k set there =
      let is = numbers_before.set k set there in
      subst (λ (x : List ℕ). number_in after x ≡ Some k) is
      (kept set k (subst (λ (x : List ℕ). number_in before x ≡ Some k) (sym is) (numbers_before.found k set there)))

  pub Joins-one : Keeps old new → limit_of new ≡ limit_of old →
      SameTables old new → IsShelf new → KeepsAnswers (numbered before) (numbered after) →
      AnswersOnly (IsGiven AreOfOneSet (λ label. set_of (asked_of old roots (Some t) label))) (numbered before) (numbered after) →
      ((given : List ℕ → ℕ) → Completes (numbered after) given → Adds old new (λ label. given (set_of (asked_of old roots (Some t) label)))) →
      Joins Step s (l ∷ []) (r ∷ []) old new before after
  unfolding IsGiven
  Joins-one keeps same_limit tables shelf kept only adds = record {
    keeps = keeps;
    same_limit = same_limit;
    tables = tables;
    shelf = shelf;
    extends = record { kept = λ k set there. number_in-get after set k (kept-number kept k set there) };
    only = λ k set there.
        let number = numbers_after.found k set there in
        let is = numbers_after.set k set there in
        elim (cases_number (number_in before set)) [
          | inr was ↦
              let at = number_in-get before set was.0 was.1 in
              let same : was.0 ≡ k = same_number was.0 k (sym (kept-number kept was.0 set at) ∙ number) in
              inl (subst (λ (n : ℕ). slice_get before n ≡ Some set) same at)
          | inl none ↦
              let given = only set k (subst (λ (x : List ℕ). number_in after x ≡ Some k) (sym is) number)
              (subst (λ (x : List ℕ). number_in before x ≡ None) (sym is) none) in
              inr (record {
                row = l;
                column = r;
                label = given.0;
                in_rows = alone l;
                in_columns = alone r;
                gives = sym (twice-step given.0) ∙ sym given.1 ∙ is;
              })
        ];
    counted = λ given completes. record {
      wholes = (λ label. given (Step s l r label)) ∷ [];
      each = All-alone (IsCellFunction Step s (l ∷ []) (r ∷ []) given) (λ label. given (Step s l r label)) (cell-function given);
      adds = subst (λ (whole : Function). AddsAmong old new (whole ∷ [])) (given-step given)
          (adds (λ states. given (set_of states)) (Completes-lists after given completes));
    };
  }

  pub IsCell-one : (made : NodeRef) → IsValid new made →
      ((label : Label) → numbered after (set_of (asked_of old roots (Some t) label)) ≡ Some (state_of new made label)) →
      IsCell Step s after l r new made
  IsCell-one made valid value = record {
    valid = valid;
    states = λ label. ap (number_in after) (sym (twice-step label)) ∙ value label;
  }

  pub ExceedsCells-one : (given : List ℕ → ℕ) → Completes (number_in after) given →
      ((every : List ℕ → ℕ) → Completes (numbered after) every → Exceeds old (λ label. every (set_of (asked_of old roots (Some t) label)))) →
      ExceedsCells Step s (l ∷ []) (r ∷ []) old given
  ExceedsCells-one given completes exceeds = record {
    wholes = (λ label. given (Step s l r label)) ∷ [];
    each = All-alone (IsCellFunction Step s (l ∷ []) (r ∷ []) given) (λ label. given (Step s l r label)) (cell-function given);
    exceeds = subst (λ (whole : Function). ExceedsAmong old (whole ∷ [])) (given-step given)
        (ExceedsAmong-alone old _ (exceeds (λ states. given (set_of states)) (Completes-lists after given completes)));
  }
