-- On formulas taken apart into their conjuncts, by numbers.
use Rattle.std.proofs.Common.{◌≡◌, ℕ, ◌↔◌, ◌⊎◌, inl, inr, true, false, List, [], ◌∷◌, ◌++◌, length, take, drop, All, Contains}
use Rattle.std.proofs.Common.{refl, sym, ap, subst, ◌∙◌, arith}
use Rattle.std.proofs.Common.{Bool, ◌<◌, ◌+◌, nat_eq, filter, cond, get_or}
use Rattle.std.specs.HashSet.{contains}
use Rattle.std.specs.List.{insert}
use Rattle.std.proofs.lemmas.Bool.{false≢true}
use Rattle.std.proofs.lemmas.List.{take-append-drop}
use Rattle.std.proofs.lemmas.List.Elements.{All-nil, All-cons, All-head, All-tail, All-append, All-take, All-drop, All-map}
use Rattle.std.proofs.lemmas.List.Elements.{filter_more, Contains-append_left, Contains-append_right}
use Rattle.gta_theory.specs.Assignments.{Assignment}
use Rattle.gta_theory.proofs.ListsLemmas.{Contains-first}
use Rattle.ws2s_core.specs.declared.formula.Formula.{Formula}
use Rattle.ws2s_core.specs.declared.formula.Formula.TheVariants.{And}
use Rattle.ws2s_core.specs.declared.node.FormulaId.{FormulaId}
use Rattle.ws2s_core.specs.Nodes.{Extends}
use Rattle.ws2s_core.specs.Satisfaction.{WSat}
use Rattle.ws2s_core.proofs.SatisfactionLemmas.{WSat-And}
use Rattle.ws2s_theory.specs.Contexts.{SatisfiesAll}
use Rattle.ws2s_facts.specs.Conjuncts.{IsThere, formula_of, formulas_at}
use Rattle.ws2s_facts.proofs.ConjunctsLemmas.{All-contains, formulas_at-extends}
use Rattle.ws2s_lean.specs.Conjunctions.{SatisfiesEach, IsConjunction, IsFolded}
use Rattle.ws2s_plan.specs.declared.conjuncts.Taking.{Taking}
use Rattle.ws2s_plan.specs.Steps.{AreHalves, IsTaking}

-- ---- lists

pub none-long : {X : Type 0} (xs : List X) → length xs ≡ 0 → xs ≡ []
none-long [] e = refl
none-long (x ∷ xs) e = absurd (omega arith)

append-none : {X : Type 0} (xs : List X) → xs ++ [] ≡ xs
append-none [] = refl
append-none (x ∷ xs) = ap (λ l. x ∷ l) (append-none xs)

module _ {X : Type 0} (p : X → Bool) (xs : List X) (i : ℕ) (d : X) (lt : i < length xs) (old new : List X) where
  pub filter-taken : p (get_or xs i d) ≡ true → new ≡ old ++ get_or xs i d ∷ [] → old ≡ filter p (take i xs) → new ≡ filter p (take (i + 1) xs)
  filter-taken is e was =
      e ∙ ap (λ l. l ++ get_or xs i d ∷ []) was
      ∙ sym (filter_more p xs i d lt ∙ ap (λ b. filter p (take i xs) ++ cond b (get_or xs i d ∷ []) []) is)

  pub filter-left : p (get_or xs i d) ≡ false → new ≡ old → old ≡ filter p (take i xs) → new ≡ filter p (take (i + 1) xs)
  filter-left is e was =
      e ∙ was
      ∙ sym (filter_more p xs i d lt ∙ ap (λ b. filter p (take i xs) ++ cond b (get_or xs i d ∷ []) []) is ∙ append-none (filter p (take i xs)))

module _ {X : Type 0} (P : X → Type 0) where
  All-front : (xs ys : List X) → All P (xs ++ ys) → All P xs
  All-front [] ys h = All-nil P
  All-front (x ∷ xs) ys h = All-cons P x xs (All-head P x (xs ++ ys) h) (All-front xs ys (All-tail P x (xs ++ ys) h))

  All-back : (xs ys : List X) → All P (xs ++ ys) → All P ys
  All-back [] ys h = h
  All-back (x ∷ xs) ys h = All-back xs ys (All-tail P x (xs ++ ys) h)

  pub All-one : (x : X) → P x → All P (x ∷ [])
  All-one x h = All-cons P x [] h (All-nil P)

  -- one more at the end
  pub pushed : (xs new : List X) (x : X) → new ≡ xs ++ x ∷ [] → All P xs → P x → All P new
  pushed xs new x e all one = subst (All P) (sym e) (All-append P xs (x ∷ []) all (All-one x one))

  pub front : (xs new : List X) (x : X) → new ≡ xs ++ x ∷ [] → All P new → All P xs
  front xs new x e all = All-front xs (x ∷ []) (subst (All P) e all)

  pub last : (xs new : List X) (x : X) → new ≡ xs ++ x ∷ [] → All P new → P x
  last xs new x e all = All-head P x [] (All-back xs (x ∷ []) (subst (All P) e all))

  -- one fewer
  pub removed : (xs new : List X) (i : ℕ) → new ≡ take i xs ++ drop (i + 1) xs → All P xs → All P new
  removed xs new i e all = subst (All P) (sym e) (All-append P (take i xs) (drop (i + 1) xs) (All-take P i xs all) (All-drop P (i + 1) xs all))

  -- one more somewhere
  pub put : (xs new : List X) (i : ℕ) (x : X) → new ≡ insert xs i x → All P xs → P x → All P new
  put xs new i x e all one =
      subst (All P) (sym e) (All-append P (take i xs) (x ∷ drop i xs) (All-take P i xs all) (All-cons P x (drop i xs) one (All-drop P i xs all)))

  pub put_others : (xs new : List X) (i : ℕ) (x : X) → new ≡ insert xs i x → All P new → All P xs
  put_others xs new i x e all =
      let both = subst (All P) e all in
      subst (All P) (take-append-drop i xs) (All-append P (take i xs) (drop i xs) (All-front (take i xs) (x ∷ drop i xs) both)
      (All-tail P x (drop i xs) (All-back (take i xs) (x ∷ drop i xs) both)))

  pub put_one : (xs new : List X) (i : ℕ) (x : X) → new ≡ insert xs i x → All P new → P x
  put_one xs new i x e all = All-head P x (drop i xs) (All-back (take i xs) (x ∷ drop i xs) (subst (All P) e all))

-- ---- what satisfies formulas by their numbers

pub each-all : (formulas : List Formula) (ids : List FormulaId) (a : Assignment) → SatisfiesEach formulas ids a → SatisfiesAll (formulas_at formulas ids) a
each-all formulas ids a h = All-map (λ c. WSat c a) (formula_of formulas) ids h

pub all-each : (formulas : List Formula) (ids : List FormulaId) (a : Assignment) → SatisfiesAll (formulas_at formulas ids) a → SatisfiesEach formulas ids a
all-each formulas [] a h = All-nil (λ id. WSat (formula_of formulas id) a)
all-each formulas (id ∷ ids) a h =
    All-cons (λ id. WSat (formula_of formulas id) a) id ids (All-head (λ c. WSat c a) (formula_of formulas id) (formulas_at formulas ids) h)
    (all-each formulas ids a (All-tail (λ c. WSat c a) (formula_of formulas id) (formulas_at formulas ids) h))

pub each-extends : (old new : List Formula) (ids : List FormulaId) (a : Assignment) → Extends old new → All (IsThere old) ids →
    SatisfiesEach old ids a ↔ SatisfiesEach new ids a
each-extends old new ids a h there =
    let same = formulas_at-extends old new ids h there in (
      (λ sat. all-each new ids a (subst (λ fs. SatisfiesAll fs a) (sym same) (each-all old ids a sat))),
      (λ sat. all-each old ids a (subst (λ fs. SatisfiesAll fs a) same (each-all new ids a sat))),
    )

-- ---- conjunctions

pub IsFolded-nil : (formulas : List Formula) (f : Formula) → IsFolded formulas f [] f
IsFolded-nil formulas f = record {
  exactly = λ a finite. ((λ sat. (sat, All-nil (λ id. WSat (formula_of formulas id) a))), (λ both. both.0));
}

pub IsFolded-step : (formulas : List Formula) (m w g : Formula) (id : FormulaId) (ids : List FormulaId) → w ≡ And m (formula_of formulas id) →
    IsFolded formulas w ids g → IsFolded formulas m (id ∷ ids) g
IsFolded-step formulas m w g id ids is h = record {
  exactly = λ a finite. (
    (λ sat.
        let both = (h.exactly a finite).0 sat in
        let halves = (WSat-And m (formula_of formulas id) a).0 (subst (λ f. WSat f a) is both.0) in
        (halves.0, All-cons (λ i. WSat (formula_of formulas i) a) id ids halves.1 both.1)),
    (λ both.
        let one = All-head (λ i. WSat (formula_of formulas i) a) id ids both.1 in
        (h.exactly a finite).1 (
          subst (λ f. WSat f a) (sym is) ((WSat-And m (formula_of formulas id) a).1 (both.0, one)),
          All-tail (λ i. WSat (formula_of formulas i) a) id ids both.1,
        )),
  );
}

-- ---- conjuncts

module _ (formulas : List Formula) (f : Formula) where
  abbrev sat_of : Assignment → FormulaId → Type 0
  sat_of a id = WSat (formula_of formulas id) a

  same-list : (a : Assignment) (xs ys : List FormulaId) → xs ≡ ys → SatisfiesEach formulas xs a → SatisfiesEach formulas ys a
  same-list a xs ys e h = subst (λ (ids : List FormulaId). SatisfiesEach formulas ids a) e h

  still-known : (old new : Taking) → new.found.items ≡ old.found.items → ((k : ℕ) → contains nat_eq new.known k ≡ contains nat_eq old.known k) →
      ((k : ℕ) → contains nat_eq old.known k ≡ true → Contains old.found.items (record { 0 = k })) →
      (k : ℕ) → contains nat_eq new.known k ≡ true → Contains new.found.items (record { 0 = k })
  still-known old new same_found same_known was k h =
      subst (λ (ids : List FormulaId). Contains ids (record { 0 = k })) (sym same_found) (was k (sym (same_known k) ∙ h))

  pub IsTaking-popped : (old new : Taking) (next : FormulaId) → old.waiting.items ≡ new.waiting.items ++ next ∷ [] → new.found.items ≡ old.found.items →
      ((k : ℕ) → contains nat_eq new.known k ≡ contains nat_eq old.known k) → IsTaking formulas f [] old → IsTaking formulas f (next ∷ []) new
  IsTaking-popped old new next e same_found same_known was = record {
    waiting_there = front (IsThere formulas) new.waiting.items old.waiting.items next e was.waiting_there;
    looked_at_there = All-one (IsThere formulas) next (last (IsThere formulas) new.waiting.items old.waiting.items next e was.waiting_there);
    found_there = subst (All (IsThere formulas)) (sym same_found) was.found_there;
    known = still-known old new same_found same_known was.known;
    exactly = λ a finite. (
      (λ sat.
          let parts = (was.exactly a finite).0 sat in (
            All-one (sat_of a) next (last (sat_of a) new.waiting.items old.waiting.items next e parts.1),
            front (sat_of a) new.waiting.items old.waiting.items next e parts.1,
            same-list a old.found.items new.found.items (sym same_found) parts.2,
          )),
      (λ parts. (was.exactly a finite).1 (
        All-nil (sat_of a),
        pushed (sat_of a) new.waiting.items old.waiting.items next e parts.1 (All-head (sat_of a) next [] parts.0),
        same-list a new.found.items old.found.items same_found parts.2,
      )),
    );
  }

  pub IsTaking-apart : (old new : Taking) (next : FormulaId) (h : FormulaId × FormulaId) (between : List FormulaId) → AreHalves formulas next h →
      between ≡ old.waiting.items ++ h.1 ∷ [] → new.waiting.items ≡ between ++ h.0 ∷ [] → new.found.items ≡ old.found.items →
      ((k : ℕ) → contains nat_eq new.known k ≡ contains nat_eq old.known k) → IsTaking formulas f (next ∷ []) old → IsTaking formulas f [] new
  IsTaking-apart old new next h between halves first second same_found same_known was = record {
    waiting_there = pushed (IsThere formulas) between new.waiting.items h.0 second
        (pushed (IsThere formulas) old.waiting.items between h.1 first was.waiting_there halves.right_there) halves.left_there;
    looked_at_there = All-nil (IsThere formulas);
    found_there = subst (All (IsThere formulas)) (sym same_found) was.found_there;
    known = still-known old new same_found same_known was.known;
    exactly = λ a finite. (
      (λ sat.
          let parts = (was.exactly a finite).0 sat in
          let both = (WSat-And (formula_of formulas h.0) (formula_of formulas h.1) a).0
          (subst (λ g. WSat g a) halves.whole (All-head (sat_of a) next [] parts.0)) in (
            All-nil (sat_of a),
            pushed (sat_of a) between new.waiting.items h.0 second (pushed (sat_of a) old.waiting.items between h.1 first parts.1 both.1) both.0,
            same-list a old.found.items new.found.items (sym same_found) parts.2,
          )),
      (λ parts.
          let rest = front (sat_of a) between new.waiting.items h.0 second parts.1 in
          let whole = (WSat-And (formula_of formulas h.0) (formula_of formulas h.1) a).1
          (last (sat_of a) between new.waiting.items h.0 second parts.1, last (sat_of a) old.waiting.items between h.1 first rest) in
          (was.exactly a finite).1 (
            All-one (sat_of a) next (subst (λ g. WSat g a) (sym halves.whole) whole),
            front (sat_of a) old.waiting.items between h.1 first rest,
            same-list a new.found.items old.found.items same_found parts.2,
          )),
    );
  }

  pub IsTaking-found : (old new : Taking) (next : FormulaId) → new.waiting.items ≡ old.waiting.items → new.found.items ≡ old.found.items ++ next ∷ [] →
      ((k : ℕ) → contains nat_eq new.known k ≡ true → (k ≡ next.0) ⊎ (contains nat_eq old.known k ≡ true)) →
      IsTaking formulas f (next ∷ []) old → IsTaking formulas f [] new
  IsTaking-found old new next same e known was = record {
    waiting_there = subst (All (IsThere formulas)) (sym same) was.waiting_there;
    looked_at_there = All-nil (IsThere formulas);
    found_there = pushed (IsThere formulas) old.found.items new.found.items next e was.found_there (All-head (IsThere formulas) next [] was.looked_at_there);
    known = λ k h. subst (λ (ids : List FormulaId). Contains ids (record { 0 = k })) (sym e) (elim (known k h) as
        (λ _. Contains (old.found.items ++ next ∷ []) (record { 0 = k })) [
          | inl here ↦ Contains-append_right old.found.items (next ∷ []) (record { 0 = k })
              (subst (λ (i : ℕ). Contains (next ∷ []) (record { 0 = i })) (sym here)
              (Contains-first next []))
          | inr there ↦ Contains-append_left old.found.items (next ∷ []) (record { 0 = k }) (was.known k there)
        ]);
    exactly = λ a finite. (
      (λ sat.
          let parts = (was.exactly a finite).0 sat in (
            All-nil (sat_of a),
            same-list a old.waiting.items new.waiting.items (sym same) parts.1,
            pushed (sat_of a) old.found.items new.found.items next e parts.2 (All-head (sat_of a) next [] parts.0),
          )),
      (λ parts. (was.exactly a finite).1 (
        All-one (sat_of a) next (last (sat_of a) old.found.items new.found.items next e parts.2),
        same-list a new.waiting.items old.waiting.items same parts.1,
        front (sat_of a) old.found.items new.found.items next e parts.2,
      )),
    );
  }

  pub IsTaking-again : (old new : Taking) (next : FormulaId) → new.waiting.items ≡ old.waiting.items → new.found.items ≡ old.found.items →
      ((k : ℕ) → contains nat_eq new.known k ≡ contains nat_eq old.known k) → contains nat_eq old.known next.0 ≡ true →
      IsTaking formulas f (next ∷ []) old → IsTaking formulas f [] new
  IsTaking-again old new next same same_found same_known there was = record {
    waiting_there = subst (All (IsThere formulas)) (sym same) was.waiting_there;
    looked_at_there = All-nil (IsThere formulas);
    found_there = subst (All (IsThere formulas)) (sym same_found) was.found_there;
    known = still-known old new same_found same_known was.known;
    exactly = λ a finite. (
      (λ sat.
          let parts = (was.exactly a finite).0 sat in (
            All-nil (sat_of a),
            same-list a old.waiting.items new.waiting.items (sym same) parts.1,
            same-list a old.found.items new.found.items (sym same_found) parts.2,
          )),
      (λ parts.
          let found = same-list a new.found.items old.found.items same_found parts.2 in
          (was.exactly a finite).1 (
            All-one (sat_of a) next (All-contains (sat_of a) old.found.items next found (was.known next.0 there)),
            same-list a new.waiting.items old.waiting.items same parts.1,
            found,
          )),
    );
  }

  pub IsTaking-start : (taking : Taking) (id : FormulaId) → taking.waiting.items ≡ id ∷ [] → taking.found.items ≡ [] →
      ((k : ℕ) → contains nat_eq taking.known k ≡ false) → IsThere formulas id → formula_of formulas id ≡ f → IsTaking formulas f [] taking
  IsTaking-start taking id waits none_found none_known there is = record {
    waiting_there = subst (All (IsThere formulas)) (sym waits) (All-one (IsThere formulas) id there);
    looked_at_there = All-nil (IsThere formulas);
    found_there = subst (All (IsThere formulas)) (sym none_found) (All-nil (IsThere formulas));
    known = λ k h. absurd (false≢true (sym (none_known k) ∙ h));
    exactly = λ a finite. (
      (λ sat. (
        All-nil (sat_of a),
        same-list a (id ∷ []) taking.waiting.items (sym waits) (All-one (sat_of a) id (subst (λ g. WSat g a) (sym is) sat)),
        same-list a [] taking.found.items (sym none_found) (All-nil (sat_of a)),
      )),
      (λ parts. subst (λ g. WSat g a) is (All-head (sat_of a) id [] (same-list a taking.waiting.items (id ∷ []) waits parts.1))),
    );
  }

  pub IsConjunction-taken : (taking : Taking) → taking.waiting.items ≡ [] → IsTaking formulas f [] taking → IsConjunction formulas f taking.found.items
  IsConjunction-taken taking none was = record {
    there = was.found_there;
    exactly = λ a finite. (
      (λ sat. ((was.exactly a finite).0 sat).2),
      (λ found. (was.exactly a finite).1 (All-nil (sat_of a), same-list a [] taking.waiting.items (sym none) (All-nil (sat_of a)), found)),
    );
  }

pub IsConjunction-alone : (formulas : List Formula) (id : FormulaId) (ids : List FormulaId) → IsThere formulas id → ids ≡ id ∷ [] →
    IsConjunction formulas (formula_of formulas id) ids
IsConjunction-alone formulas id ids there e = record {
  there = subst (All (IsThere formulas)) (sym e) (All-one (IsThere formulas) id there);
  exactly = λ a finite. (
    (λ sat. subst (λ (one : List FormulaId). SatisfiesEach formulas one a) (sym e) (All-one (λ i. WSat (formula_of formulas i) a) id sat)),
    (λ each. All-head (λ i. WSat (formula_of formulas i) a) id [] (subst (λ (one : List FormulaId). SatisfiesEach formulas one a) e each)),
  );
}
