-- Assertions in code, where each is a formula that means it.
use Rattle.std.proofs.Common.{◌≡◌, ℕ, List, [], ◌∷◌, ◌++◌, Ok, Err, refl, sym, subst, arith, append-nil}
use Rattle.gta_theory.specs.Assignments.{Assignment}
use Rattle.ws2s_core.proofs.SatisfactionLemmas.{WSat-Not}
use Rattle.store_core.specs.Tables.{TypeEntry, VarEntry}
use Rattle.store_core.specs.Stores.{StoreMap}
use Rattle.store_logic.specs.declared.assertion.Assertion.{Assertion}
use Rattle.store_logic.specs.declared.act.Act.TheVariants as act
use Rattle.store_logic.specs.Fits.{AssertionFits}
use Rattle.store_exec.specs.declared.cause.Cause.TheVariants as cause
use Rattle.store_exec.specs.Runs.{Ending, Does}
use Rattle.graph_view.specs.After.{Standing, IsTaken}
use Rattle.site_list.specs.States.{Check, State, guard, fails, sight}
use Rattle.site_list.specs.Claims.{assertion}
use Rattle.site_list.specs.Acts.{act_rule}
use Rattle.triple_meaning.specs.Sites.Seeing.{HasRoom, Sees, with_more}
use Rattle.triple_meaning.specs.Sites.Doing.{Follows, Leads, AreAssertionsMeant}
use Rattle.triple_meaning.proofs.sites.PlacesLemmas.{none-none, none-cons}
use Rattle.triple_meaning.proofs.sites.StatesLemmas.{below-more, sees-more}
use Rattle.triple_meaning.proofs.sites.EvaluatingLemmas.{reached-guard}

module _ (types : List TypeEntry) (vars : List VarEntry) (meant : AreAssertionsMeant types vars) (line : ℕ) (s : State) (claim : Assertion)
    (fits : AssertionFits types vars claim) where
  abbrev assert_check : Check
  assert_check = record {
    cause = cause.Assert;
    line = line;
    reached = guard s;
    condition = fails (assertion types (sight vars s) s.values claim);
  }

  abbrev after : State
  after = with_more [] (assert_check ∷ []) s

  after-is : act_rule types vars line (act.Assert claim) s ≡ after
  after-is = λ i. record s { defined = sym (append-nil s.defined) i; checks = s.checks ++ assert_check ∷ [] }

  assert-follows : (next : ℕ) (a : Assignment) (first t : StoreMap) (at : Standing) (end : Ending) → Sees types vars next a first s t at →
      HasRoom types vars next after → IsTaken a s.guard → Does types line t (act.Assert claim) end →
      Follows types vars next a first after (assert_check ∷ []) end
  assert-follows next a first t at (Ok u) sees room taken does = (
    (at, subst (λ w. Sees types vars next a first after w at) (sym does.0) (sees-more types vars next a first s t at [] (assert_check ∷ []) sees room)),
    none-cons next a assert_check [] (λ h.
        (WSat-Not (assertion types (sight vars s) s.values claim next) a).0 h.1 ((meant claim next a first s t at fits sees).1 does.1)) (none-none next a),
  )
  assert-follows next a first t at (Err fault) sees room taken does = record {
    before = [];
    check = assert_check;
    after = [];
    order = refl;
    none = none-none next a;
    comes = (
      (reached-guard types vars line s next a sees.over.finite sees.below.guard).1 taken,
      (WSat-Not (assertion types (sight vars s) s.values claim next) a).1 (λ h. does.0.1 ((meant claim next a first s t at fits sees).0 h)),
    );
    is = sym does.0.0;
    at_line = sym does.1;
  }

  pub assert-leads : Leads types vars s (act_rule types vars line (act.Assert claim) s) (λ t end. Does types line t (act.Assert claim) end)
  assert-leads =
      subst (λ z. Leads types vars s z (λ t end. Does types line t (act.Assert claim) end)) (sym after-is) (record {
        made = [];
        defined = refl;
        added = assert_check ∷ [];
        checks = refl;
        guard = refl;
        count = refl;
        news = omega arith;
        below = λ next below room. below-more types vars next [] (assert_check ∷ []) s below room;
        reached = λ next a first t at end sees room defined taken does. assert-follows next a first t at end sees room taken does;
        idle = λ next a finite room defined below guarded passed. record {
          none = none-cons next a assert_check [] (λ h. passed ((reached-guard types vars line s next a finite below).0 h.0)) (none-none next a);
          sees = λ first values t at seen. seen;
        };
      })
