use Rattle.std.proofs.Common.{◌≡◌, List, sym, subst}
use Rattle.std.proofs.lemmas.Result.{IfOk-weaker}
use Rattle.ws2s_core.specs.declared.formula.Formula.{Formula}
use Rattle.ws2s_forms.specs.Forms.{and_list}
use Rattle.store_core.specs.Tables.{TypeEntry, VarEntry}
use Rattle.tree_reached.specs.Alike.{AlikeOnTrees}
use Rattle.tree_reached.specs.Conjuncts.{lent}
use Rattle.tree_reached.proofs.ReplacingLemmas.{GoesOn, going-start, going-next, going-end}
use Rattle.tree_reached.proofs.replacing.replaced.Goals as goal

pub loop-conjunct-init : goal.loop-conjunct-init
loop-conjunct-init c = λ types vars alike.
    subst (λ (made : List Formula). GoesOn types vars c.args.formula.now made (lent c.in_ok-conjuncts.conjuncts)) (sym c.new-parts.ensures.items)
    (going-start types vars c.args.formula.now c.in_ok-conjuncts.conjuncts c.in_ok-conjuncts.ensures)

pub loop-conjunct-preserved : goal.loop-conjunct-preserved
loop-conjunct-preserved c = λ types vars alike.
    going-next types vars c.args.formula.now c.loop-conjunct.parts.items c.push.new.self.items c.loop-conjunct.conjuncts c.pop.new.self
    c.in-Some.conjunct c.in_ok-replaced_one.field-0 (c.loop-conjunct.invariant types vars alike) c.in-Some.ensures
    (c.in_ok-replaced_one.ensures types vars alike) c.in_ok-push.ensures.items

pub returns : goal.returns
returns c =
    IfOk-weaker c.and_list.result (λ (f : Formula). f ≡ and_list c.args.next c.loop-conjunct.parts.items)
    (λ (f : Formula). (types : List TypeEntry) (vars : List VarEntry) → AlikeOnTrees types vars c.args.old.now c.args.new.now →
    AlikeOnTrees types vars c.args.formula.now f)
    (λ f is types vars alike.
    going-end types vars c.args.formula.now f c.args.next c.loop-conjunct.parts.items c.loop-conjunct.conjuncts
    (c.loop-conjunct.invariant types vars alike) c.in_default.ensures.0 is) c.and_list.ensures
