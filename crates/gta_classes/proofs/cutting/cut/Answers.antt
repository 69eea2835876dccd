-- The listed states have classes, and so have the others.
use Rattle.std.proofs.Common.{sym, subst, arith}
use Rattle.gta_classes.specs.Cuts.{IsIndicator, HasOthers}
use Rattle.gta_classes.proofs.ChosenLemmas.{marked-inside}
use Rattle.gta_classes.proofs.CutLemmas.{others-same}
use Rattle.gta_classes.proofs.cutting.cut.Goals as goal

pub indicate-requires-clause-small : goal.indicate-requires-clause-small
indicate-requires-clause-small c = λ q there.
    let i = marked-inside c.args.part.now.reached q (c.requires.reached q there) in
    let e = c.requires.long in
    omega arith

pub split_listed-requires-clause-others : goal.split_listed-requires-clause-others
split_listed-requires-clause-others c = λ q marked outside.
    others-same c.choose_representatives.new.part c.args.listed.now c.deref-3.result.now c.deref-4.result.now
    (subst (HasOthers c.choose_representatives.new.part c.args.listed.now) (sym c.deref-3.ensures.value) c.in_ok-order.ensures)
    (subst (IsIndicator c.args.listed.now) (sym c.deref-4.ensures.value) c.indicate.ensures.indicator) q marked outside

pub reset-requires-clause-small : goal.reset-requires-clause-small
reset-requires-clause-small c = λ q there.
    let i = marked-inside c.args.part.now.reached q (c.requires.reached q there) in
    let e = c.requires.long in
    let m = c.indicate.ensures.many in
    omega arith
