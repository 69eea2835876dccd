-- All assertions, form by form.
use Rattle.std.proofs.Common.{◌≡◌, ◌↔◌, ℕ, suc, ◌≤◌, List, [], ◌∷◌, sym, subst, arith}
use Rattle.gta_theory.specs.Assignments.{Assignment}
use Rattle.ws2s_core.specs.Satisfaction.{WSat}
use Rattle.ws2s_forms.proofs.ConnectivesLemmas.{WSat-false, WSat-true}
use Rattle.store_core.specs.declared.ids.TypeId.{TypeId}
use Rattle.store_core.specs.declared.value.Value.{Value}
use Rattle.store_core.specs.Stores.{StoreMap}
use Rattle.store_logic.specs.declared.assertion.Assertion.{Assertion}
use Rattle.store_logic.specs.declared.assertion.Assertion.TheVariants as form
use Rattle.store_logic.specs.declared.assertion.Assertion.TheOpen.{Assertion-F}
use Rattle.store_logic.specs.Sorts.{Sort, Cell, Set}
use Rattle.store_logic.specs.Fits.{FitsIn}
use Rattle.store_logic.specs.Terms.{Environment, under}
use Rattle.store_logic.specs.Satisfaction.{Holds}
use Rattle.store_logic.proofs.AssertionLemmas.{IsHereditary, assertion-induction, fold-True, fold-False, fold-Truth, fold-Is, fold-Same, fold-Member}
use Rattle.store_logic.proofs.AssertionLemmas.{fold-Subset, fold-Walk, fold-Not, fold-And, fold-Or, fold-Imp, fold-Iff, fold-Ex, fold-All, fold-ExSet}
use Rattle.store_logic.proofs.AssertionLemmas.{fold-AllSet}
use Rattle.store_logic.proofs.HoldsLemmas.{Holds-True, Holds-False, Holds-Truth, Holds-Is, Holds-Same, Holds-Member, Holds-Subset, Holds-Walk, Holds-Not}
use Rattle.store_logic.proofs.HoldsLemmas.{Holds-And, Holds-Or, Holds-Imp, Holds-Iff, Holds-Ex, Holds-All, Holds-ExSet, Holds-AllSet}
use Rattle.tree_encode.specs.Layouts.{LaidOut}
use Rattle.graph_view.specs.declared.view.View.{View}
use Rattle.graph_view.specs.Sights.{sight_of}
use Rattle.graph_view.specs.After.{Standing}
use Rattle.graph_meaning.specs.Live.Meaning.{Agrees}
use Rattle.graph_meaning.proofs.live.AgreeingLemmas.{sat-and, sat-not, sat-or}
use Rattle.graph_meaning.specs.Walks.Wells.{ShowsWell}
use Rattle.site_list.specs.States.{Text}
use Rattle.site_list.specs.Claims.{assertion_rule, assertion}
use Rattle.triple_meaning.specs.Claims.Bound.{scope_under, AreBound}
use Rattle.triple_meaning.proofs.claims.BoundLemmas.{none-some, agrees-on, bound-under}
use Rattle.triple_meaning.proofs.claims.HereLemmas.{sat-imp, sat-iff}
use Rattle.triple_meaning.proofs.claims.TermLemmas.{term-truth-means}
use Rattle.triple_meaning.proofs.claims.AtomLemmas.{variant-means, same-means, member-means, subset-means, walk-means}
use Rattle.triple_meaning.proofs.claims.QuantifierLemmas.{IsInner, some-cell-means, each-cell-means, some-set-means, each-set-means}
use Rattle.triple_meaning.proofs.claims.FittingForms.{Truth-parts, Is-parts, Same-parts, Member-parts, Subset-parts, Walk-parts, Pred-parts, Not-parts}
use Rattle.triple_meaning.proofs.claims.FittingForms.{And-parts, Or-parts, Imp-parts, Iff-parts, Ex-parts, All-parts, ExSet-parts, AllSet-parts}
use Rattle.triple_meaning.proofs.claims.RouteForms.{fitting-known}

module _ (l : LaidOut) (view : View) (a : Assignment) (first s t : StoreMap) (at : Standing) (count : ℕ) (wells : ShowsWell l view a first s t at count)
    (says : ℕ → List Value → Type 0) where
  abbrev formula : Assertion → Text
  formula it = assertion l.types (sight_of l.vars view) view.vars it

  abbrev Holding : Assertion → Environment → Type 0
  Holding it e = Holds l.types t says it e

  abbrev rule : Assertion-F Text → Text
  rule = assertion_rule l.types (sight_of l.vars view) view.vars

  -- where this assertion fits, its formula holds exactly where it does
  IsMeant : Assertion → Type 0
  IsMeant it = (own : ℕ) (b : Assignment) (sorts : List Sort) (e : Environment) → Agrees count a b → count ≤ own → AreBound at b own sorts e.bound →
      FitsIn l.types it (scope_under l.vars sorts) → WSat (formula it own) b ↔ Holding it e

  -- by what the form and its formula mean
  by-form : (it : Assertion) (x : Text) (own : ℕ) (b : Assignment) (e : Environment) (P : Type 0) → formula it ≡ x → Holding it e ↔ P → WSat (x own) b ↔ P →
      WSat (formula it own) b ↔ Holding it e
  by-form it x own b e P same holds means = (
    (λ h. holds.1 (means.0 (subst (λ (g : Text). WSat (g own) b) same h))),
    (λ h. subst (λ (g : Text). WSat (g own) b) (sym same) (means.1 (holds.0 h))),
  )

  -- what is inside a quantifier of this sort
  inner-of : (it : Assertion) → IsMeant it → (own : ℕ) (b : Assignment) (sorts : List Sort) (e : Environment) (agrees : Agrees count a b) (few : count ≤ own) →
      AreBound at b own sorts e.bound → (ty : TypeId) (sort : Sort) → FitsIn l.types it (scope_under l.vars (sort ∷ sorts)) →
      IsInner l view a first s t at count wells own b agrees few e ty (formula it) (Holding it) sort
  unfolding IsMeant
  inner-of it meant own b sorts e agrees few bound ty sort fits x c later has_form stands =
      meant (suc own) c (sort ∷ sorts) (under x e) (agrees-on count own a b c agrees few later) (omega (arith, few))
      (bound-under own b c at sorts e.bound sort x later bound has_form stands) fits

  hereditary : IsHereditary IsMeant
  unfolding IsMeant
  hereditary = record {
    of_True = λ own b sorts e agrees few bound fits.
        by-form form.True (rule Assertion-F.True) own b e (Unit {0}) (fold-True Text rule) (Holds-True l.types t says e)
        ((λ h. tt), (λ h. WSat-true own b));
    of_False = λ own b sorts e agrees few bound fits.
        by-form form.False (rule Assertion-F.False) own b e ⊥ (fold-False Text rule) (Holds-False l.types t says e)
        ((λ h. WSat-false own b h), (λ h. absurd h));
    of_Truth = λ it own b sorts e agrees few bound fits.
        by-form (form.Truth it) (rule (Assertion-F.Truth it)) own b e _ (fold-Truth Text rule it) (Holds-Truth l.types t says it e)
        (term-truth-means l view a first s t at count wells own b agrees few sorts e bound it (Truth-parts l.types (scope_under l.vars sorts) it fits));
    of_Is = λ it v own b sorts e agrees few bound fits.
        let parts = Is-parts l.types (scope_under l.vars sorts) it v fits in
        by-form (form.Is it v) (rule (Assertion-F.Is it v)) own b e _ (fold-Is Text rule it v) (Holds-Is l.types t says it v e)
        (variant-means l view a first s t at count wells own b agrees few sorts e bound it v parts.variant parts.term);
    of_Same = λ it other own b sorts e agrees few bound fits.
        let parts = Same-parts l.types (scope_under l.vars sorts) it other fits in
        by-form (form.Same it other) (rule (Assertion-F.Same it other)) own b e _ (fold-Same Text rule it other) (Holds-Same l.types t says it other e)
        (same-means l view a first s t at count wells own b agrees few sorts e bound it other parts.ty parts.left parts.right);
    of_Member = λ it name own b sorts e agrees few bound fits.
        let parts = Member-parts l.types (scope_under l.vars sorts) it name fits in
        by-form (form.Member it name) (rule (Assertion-F.Member it name)) own b e _ (fold-Member Text rule it name) (Holds-Member l.types t says it name e)
        (member-means l view a first s t at count wells own b agrees few sorts e bound it name parts.ty parts.member parts.of_set);
    of_Subset = λ name other own b sorts e agrees few bound fits.
        let parts = Subset-parts l.types (scope_under l.vars sorts) name other fits in
        by-form (form.Subset name other) (rule (Assertion-F.Subset name other)) own b e _ (fold-Subset Text rule name other)
        (Holds-Subset l.types t says name other e)
        (subset-means l view a first s t at count wells own b agrees few sorts e bound name other parts.ty parts.left parts.right);
    of_Walk = λ it along other own b sorts e agrees few bound fits.
        let parts = Walk-parts l.types (scope_under l.vars sorts) it along other fits in
        by-form (form.Walk it along other) (rule (Assertion-F.Walk it along other)) own b e _ (fold-Walk Text rule it along other)
        (Holds-Walk l.types t says it along other e)
        (walk-means l view a first s t at count wells own b agrees few sorts e bound it other along parts.from_type parts.to_type parts.from
        (fitting-known l.types along parts.route) parts.to);
    of_Pred = λ k args own b sorts e agrees few bound fits. absurd (Pred-parts l.types (scope_under l.vars sorts) k args fits);
    of_Not = λ it one own b sorts e agrees few bound fits.
        by-form (form.Not it) (rule (Assertion-F.Not (formula it))) own b e _ (fold-Not Text rule it) (Holds-Not l.types t says it e)
        (sat-not (formula it own) b (Holding it e) (one own b sorts e agrees few bound (Not-parts l.types (scope_under l.vars sorts) it fits)));
    of_And = λ it other one two own b sorts e agrees few bound fits.
        let parts = And-parts l.types (scope_under l.vars sorts) it other fits in
        by-form (form.And it other) (rule (Assertion-F.And (formula it) (formula other))) own b e _ (fold-And Text rule it other)
        (Holds-And l.types t says it other e)
        (sat-and (formula it own) (formula other own) b (Holding it e) (Holding other e) (one own b sorts e agrees few bound parts.0)
        (two own b sorts e agrees few bound parts.1));
    of_Or = λ it other one two own b sorts e agrees few bound fits.
        let parts = Or-parts l.types (scope_under l.vars sorts) it other fits in
        by-form (form.Or it other) (rule (Assertion-F.Or (formula it) (formula other))) own b e _ (fold-Or Text rule it other)
        (Holds-Or l.types t says it other e)
        (sat-or (formula it own) (formula other own) b (Holding it e) (Holding other e) agrees.finite (one own b sorts e agrees few bound parts.0)
        (two own b sorts e agrees few bound parts.1));
    of_Imp = λ it other one two own b sorts e agrees few bound fits.
        let parts = Imp-parts l.types (scope_under l.vars sorts) it other fits in
        by-form (form.Imp it other) (rule (Assertion-F.Imp (formula it) (formula other))) own b e _ (fold-Imp Text rule it other)
        (Holds-Imp l.types t says it other e)
        (sat-imp (formula it own) (formula other own) b (Holding it e) (Holding other e) agrees.finite (one own b sorts e agrees few bound parts.0)
        (two own b sorts e agrees few bound parts.1));
    of_Iff = λ it other one two own b sorts e agrees few bound fits.
        let parts = Iff-parts l.types (scope_under l.vars sorts) it other fits in
        by-form (form.Iff it other) (rule (Assertion-F.Iff (formula it) (formula other))) own b e _ (fold-Iff Text rule it other)
        (Holds-Iff l.types t says it other e)
        (sat-iff (formula it own) (formula other own) b (Holding it e) (Holding other e) agrees.finite (one own b sorts e agrees few bound parts.0)
        (two own b sorts e agrees few bound parts.1));
    of_Ex = λ ty it one own b sorts e agrees few bound fits.
        let parts = Ex-parts l.types (scope_under l.vars sorts) ty it fits in
        by-form (form.Ex ty it) (rule (Assertion-F.Ex ty (formula it))) own b e _ (fold-Ex Text rule ty it) (Holds-Ex l.types t says ty it e)
        (some-cell-means l view a first s t at count wells own b agrees few e ty (formula it) (Holding it)
        (inner-of it one own b sorts e agrees few bound ty (Cell ty) parts.1));
    of_All = λ ty it one own b sorts e agrees few bound fits.
        let parts = All-parts l.types (scope_under l.vars sorts) ty it fits in
        by-form (form.All ty it) (rule (Assertion-F.All ty (formula it))) own b e _ (fold-All Text rule ty it) (Holds-All l.types t says ty it e)
        (each-cell-means l view a first s t at count wells own b agrees few e ty (formula it) (Holding it)
        (inner-of it one own b sorts e agrees few bound ty (Cell ty) parts.1));
    of_ExSet = λ ty it one own b sorts e agrees few bound fits.
        let parts = ExSet-parts l.types (scope_under l.vars sorts) ty it fits in
        by-form (form.ExSet ty it) (rule (Assertion-F.ExSet ty (formula it))) own b e _ (fold-ExSet Text rule ty it) (Holds-ExSet l.types t says ty it e)
        (some-set-means l view a first s t at count wells own b agrees few e ty (formula it) (Holding it)
        (inner-of it one own b sorts e agrees few bound ty (Set ty) parts.1));
    of_AllSet = λ ty it one own b sorts e agrees few bound fits.
        let parts = AllSet-parts l.types (scope_under l.vars sorts) ty it fits in
        by-form (form.AllSet ty it) (rule (Assertion-F.AllSet ty (formula it))) own b e _ (fold-AllSet Text rule ty it) (Holds-AllSet l.types t says ty it e)
        (each-set-means l view a first s t at count wells own b agrees few e ty (formula it) (Holding it)
        (inner-of it one own b sorts e agrees few bound ty (Set ty) parts.1));
  }

  pub assertion-means : (it : Assertion) (own : ℕ) (b : Assignment) (sorts : List Sort) (e : Environment) → Agrees count a b → count ≤ own →
      AreBound at b own sorts e.bound → FitsIn l.types it (scope_under l.vars sorts) →
      WSat (assertion l.types (sight_of l.vars view) view.vars it own) b ↔ Holds l.types t says it e
  unfolding IsMeant
  assertion-means = assertion-induction IsMeant hereditary

-- outside of all quantifiers nothing is bound
pub none-bound : (at : Standing) (b : Assignment) (own : ℕ) → AreBound at b own [] []
none-bound at b own k sort is = none-some sort is
