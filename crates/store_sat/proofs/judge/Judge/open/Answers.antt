use Rattle.std.proofs.Common.{◌↔◌, [], Bool, true, false, IsTrue, map, reverse, refl, ap, subst}
use Rattle.std.proofs.lemmas.Bool.{false≢true}
use Rattle.std.specs.FinMap.{keys}
use Rattle.store_logic.specs.declared.assertion.Assertion.TheVariants as assertion
use Rattle.std.specs.Prelude.{IsSomeAnd}
use Rattle.routing_walks.specs.Walks.{Walk}
use Rattle.routing_expr.specs.Searches.{Ground}
use Rattle.store_logic.specs.Terms.{cell_at}
use Rattle.store_logic.specs.Satisfaction.{Says}
use Rattle.store_logic.proofs.HoldsLemmas.{Holds-True, Holds-False, Holds-Truth, Holds-Is, Holds-Same, Holds-Member, Holds-Subset, Holds-Walk, Holds-Pred}
use Rattle.store_logic.proofs.SameLemmas.{itself}
use Rattle.store_sat.specs.Tasks.{around, whole, cells, sets, spot_of, surround_of}
use Rattle.store_sat.proofs.StepLemmas.{steps_as}
use Rattle.store_sat.proofs.OpenLemmas.{linked, known_as, open_Not, open_And, open_Or, open_Imp, open_Iff, open_Ex, open_All, open_ExSet, open_AllSet}
use Rattle.store_sat.proofs.judge.Judge.open.Goals as goal

pub returns-in-True-clause-steps : goal.returns-in-True-clause-steps
returns-in-True-clause-steps c =
    let types = c.args.self.now.types.now in
    let s = c.args.self.now.store.now in
    let spot = spot_of s c.args.spine.now in
    let here = around c.args.spine.now.bound in
    let says = Says types s (reverse []) in
    known_as types s spot c.requires.ready.1 c.args.assertion.now assertion.True _ c.in-True.is
    ((λ h. (Holds-True types s says here).1 tt), (λ h. refl))

pub returns-in-False-clause-steps : goal.returns-in-False-clause-steps
returns-in-False-clause-steps c =
    let types = c.args.self.now.types.now in
    let s = c.args.self.now.store.now in
    let spot = spot_of s c.args.spine.now in
    let here = around c.args.spine.now.bound in
    let says = Says types s (reverse []) in
    known_as types s spot c.requires.ready.1 c.args.assertion.now assertion.False _ c.in-False.is
    ((λ h. absurd (false≢true h)), (λ h. absurd ((Holds-False types s says here).0 h)))

pub returns-in-Truth-clause-steps : goal.returns-in-Truth-clause-steps
returns-in-Truth-clause-steps c =
    let types = c.args.self.now.types.now in
    let s = c.args.self.now.store.now in
    let spot = spot_of s c.args.spine.now in
    let here = around c.args.spine.now.bound in
    let says = Says types s (reverse []) in
    known_as types s spot c.requires.ready.1 c.args.assertion.now (assertion.Truth c.in-Truth.t) _ c.in-Truth.is
    (linked (subst (λ (b : Bool). IsTrue c.truth.result ↔ IsTrue b) c.truth.ensures itself) (Holds-Truth types s says c.in-Truth.t here))

pub returns-in-Is-clause-steps : goal.returns-in-Is-clause-steps
returns-in-Is-clause-steps c =
    let types = c.args.self.now.types.now in
    let s = c.args.self.now.store.now in
    let spot = spot_of s c.args.spine.now in
    let here = around c.args.spine.now.bound in
    let says = Says types s (reverse []) in
    known_as types s spot c.requires.ready.1 c.args.assertion.now (assertion.Is c.in-Is.t c.in-Is.v) _ c.in-Is.is
    (linked c.is.ensures (Holds-Is types s says c.in-Is.t c.in-Is.v here))

pub returns-in-Same-clause-steps : goal.returns-in-Same-clause-steps
returns-in-Same-clause-steps c =
    let types = c.args.self.now.types.now in
    let s = c.args.self.now.store.now in
    let spot = spot_of s c.args.spine.now in
    let here = around c.args.spine.now.bound in
    let says = Says types s (reverse []) in
    known_as types s spot c.requires.ready.1 c.args.assertion.now (assertion.Same c.in-Same.t c.in-Same.u) _ c.in-Same.is
    (linked c.same.ensures (Holds-Same types s says c.in-Same.t c.in-Same.u here))

pub returns-in-Member-clause-steps : goal.returns-in-Member-clause-steps
returns-in-Member-clause-steps c =
    let types = c.args.self.now.types.now in
    let s = c.args.self.now.store.now in
    let spot = spot_of s c.args.spine.now in
    let here = around c.args.spine.now.bound in
    let says = Says types s (reverse []) in
    known_as types s spot c.requires.ready.1 c.args.assertion.now (assertion.Member c.in-Member.t c.in-Member.set) _ c.in-Member.is
    (linked c.is_member.ensures (Holds-Member types s says c.in-Member.t c.in-Member.set here))

pub returns-in-Subset-clause-steps : goal.returns-in-Subset-clause-steps
returns-in-Subset-clause-steps c =
    let types = c.args.self.now.types.now in
    let s = c.args.self.now.store.now in
    let spot = spot_of s c.args.spine.now in
    let here = around c.args.spine.now.bound in
    let says = Says types s (reverse []) in
    known_as types s spot c.requires.ready.1 c.args.assertion.now (assertion.Subset c.in-Subset.set c.in-Subset.other) _ c.in-Subset.is
    (linked c.is_subset.ensures (Holds-Subset types s says c.in-Subset.set c.in-Subset.other here))

pub returns-in_ok-is_walk-in-Walk-clause-steps : goal.returns-in_ok-is_walk-in-Walk-clause-steps
returns-in_ok-is_walk-in-Walk-clause-steps c =
    let types = c.args.self.now.types.now in
    let s = c.args.self.now.store.now in
    let spot = spot_of s c.args.spine.now in
    let here = around c.args.spine.now.bound in
    let says = Says types s (reverse []) in
    known_as types s spot c.requires.ready.1 c.args.assertion.now (assertion.Walk c.in-Walk.t c.in-Walk.route c.in-Walk.u) _ c.in-Walk.is
    (linked (subst (λ (g : Ground). IsTrue c.in_ok-is_walk-in-Walk.field-0 ↔ IsSomeAnd (cell_at s here c.in-Walk.t)
    (λ a. IsSomeAnd (cell_at s here c.in-Walk.u) (λ b. Walk g.types s g.fields c.in-Walk.route a b))) c.requires.ground
    c.in_ok-is_walk-in-Walk.ensures.value) (Holds-Walk types s says c.in-Walk.t c.in-Walk.route c.in-Walk.u here))

pub returns-in-Pred-clause-steps : goal.returns-in-Pred-clause-steps
returns-in-Pred-clause-steps c =
    let types = c.args.self.now.types.now in
    let s = c.args.self.now.store.now in
    let spot = spot_of s c.args.spine.now in
    let here = around c.args.spine.now.bound in
    let says = Says types s (reverse []) in
    known_as types s spot c.requires.ready.1 c.args.assertion.now _ _ c.in-Pred.is
    ((λ h. absurd (false≢true h)), (λ h. absurd ((Holds-Pred types s says _ _ here).0 h)))

pub returns-in_ok-push-in-Not-clause-steps : goal.returns-in_ok-push-in-Not-clause-steps
returns-in_ok-push-in-Not-clause-steps c =
    let types = c.args.self.now.types.now in
    let s = c.args.self.now.store.now in
    let spot = spot_of s c.args.spine.now in
    let here = around c.args.spine.now.bound in
    let says = Says types s (reverse []) in
    steps_as types s spot _ _ _ _ _ _ (ap whole c.in-Not.is)
    (λ i. record { frames = map (surround_of s) (c.in_ok-push-in-Not.ensures.ok i); bound = c.args.spine.now.bound })
    (ap whole c.get.ensures) (open_Not types s spot c.requires.ready.1 c.in-Not.inner)

pub returns-in_ok-left-in-And-clause-steps : goal.returns-in_ok-left-in-And-clause-steps
returns-in_ok-left-in-And-clause-steps c =
    let types = c.args.self.now.types.now in
    let s = c.args.self.now.store.now in
    let spot = spot_of s c.args.spine.now in
    let here = around c.args.spine.now.bound in
    let says = Says types s (reverse []) in
    steps_as types s spot _ _ _ _ _ _ (ap whole c.in-And.is) c.in_ok-left-in-And.ensures.spot c.in_ok-left-in-And.ensures.left
    (open_And types s spot c.requires.ready.1 c.in-And.left c.in-And.right)

pub returns-in_ok-left-in-Or-clause-steps : goal.returns-in_ok-left-in-Or-clause-steps
returns-in_ok-left-in-Or-clause-steps c =
    let types = c.args.self.now.types.now in
    let s = c.args.self.now.store.now in
    let spot = spot_of s c.args.spine.now in
    let here = around c.args.spine.now.bound in
    let says = Says types s (reverse []) in
    steps_as types s spot _ _ _ _ _ _ (ap whole c.in-Or.is) c.in_ok-left-in-Or.ensures.spot c.in_ok-left-in-Or.ensures.left
    (open_Or types s spot c.requires.ready.1 c.in-Or.left c.in-Or.right)

pub returns-in_ok-left-in-Imp-clause-steps : goal.returns-in_ok-left-in-Imp-clause-steps
returns-in_ok-left-in-Imp-clause-steps c =
    let types = c.args.self.now.types.now in
    let s = c.args.self.now.store.now in
    let spot = spot_of s c.args.spine.now in
    let here = around c.args.spine.now.bound in
    let says = Says types s (reverse []) in
    steps_as types s spot _ _ _ _ _ _ (ap whole c.in-Imp.is) c.in_ok-left-in-Imp.ensures.spot c.in_ok-left-in-Imp.ensures.left
    (open_Imp types s spot c.requires.ready.1 c.in-Imp.left c.in-Imp.right)

pub returns-in_ok-left-in-Iff-clause-steps : goal.returns-in_ok-left-in-Iff-clause-steps
returns-in_ok-left-in-Iff-clause-steps c =
    let types = c.args.self.now.types.now in
    let s = c.args.self.now.store.now in
    let spot = spot_of s c.args.spine.now in
    let here = around c.args.spine.now.bound in
    let says = Says types s (reverse []) in
    steps_as types s spot _ _ _ _ _ _ (ap whole c.in-Iff.is) c.in_ok-left-in-Iff.ensures.spot c.in_ok-left-in-Iff.ensures.left
    (open_Iff types s spot c.requires.ready.1 c.in-Iff.left c.in-Iff.right)

pub returns-in-Ex-clause-steps : goal.returns-in-Ex-clause-steps
returns-in-Ex-clause-steps c =
    let types = c.args.self.now.types.now in
    let s = c.args.self.now.store.now in
    let spot = spot_of s c.args.spine.now in
    let here = around c.args.spine.now.bound in
    let says = Says types s (reverse []) in
    steps_as types s spot _ _ _ _ _ _ (ap whole c.in-Ex.is) refl
    (ap (λ b. cells true c.in-Ex.ty b (keys s.cells)) c.get-body.ensures) (open_Ex types s spot c.requires.ready.1 c.in-Ex.ty c.in-Ex.body)

pub returns-in-All-clause-steps : goal.returns-in-All-clause-steps
returns-in-All-clause-steps c =
    let types = c.args.self.now.types.now in
    let s = c.args.self.now.store.now in
    let spot = spot_of s c.args.spine.now in
    let here = around c.args.spine.now.bound in
    let says = Says types s (reverse []) in
    steps_as types s spot _ _ _ _ _ _ (ap whole c.in-All.is) refl
    (ap (λ b. cells false c.in-All.ty b (keys s.cells)) c.get-body-in-All.ensures) (open_All types s spot c.requires.ready.1 c.in-All.ty c.in-All.body)

pub returns-in-ExSet-clause-steps : goal.returns-in-ExSet-clause-steps
returns-in-ExSet-clause-steps c =
    let types = c.args.self.now.types.now in
    let s = c.args.self.now.store.now in
    let spot = spot_of s c.args.spine.now in
    let here = around c.args.spine.now.bound in
    let says = Says types s (reverse []) in
    steps_as types s spot _ _ _ _ _ _ (ap whole c.in-ExSet.is) refl
    (λ i. sets true c.in-ExSet.ty (c.get-body-in-ExSet.ensures i) (c.new.ensures i) (keys s.cells))
    (open_ExSet types s spot c.requires.ready.1 c.in-ExSet.ty c.in-ExSet.body)

pub returns-in-AllSet-clause-steps : goal.returns-in-AllSet-clause-steps
returns-in-AllSet-clause-steps c =
    let types = c.args.self.now.types.now in
    let s = c.args.self.now.store.now in
    let spot = spot_of s c.args.spine.now in
    let here = around c.args.spine.now.bound in
    let says = Says types s (reverse []) in
    steps_as types s spot _ _ _ _ _ _ (ap whole c.in-AllSet.is) refl
    (λ i. sets false c.in-AllSet.ty (c.get-body-in-AllSet.ensures i) (c.new-in-AllSet.ensures i) (keys s.cells))
    (open_AllSet types s spot c.requires.ready.1 c.in-AllSet.ty c.in-AllSet.body)
