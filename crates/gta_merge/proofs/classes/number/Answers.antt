-- The line has a class, or it gets one.
use Rattle.std.proofs.Common.{ℕ, List, sym, subst}
use Rattle.gta_merge.specs.Classes.{IsLineStep, has, gets}
use Rattle.gta_merge.proofs.classes.number.Goals as goal

pub returns-in-Some : goal.returns-in-Some
returns-in-Some c = has c.in-Some.class.now (sym c.in-Some.ensures.value)

pub returns : goal.returns
returns c =
    subst (λ (xs : List ℕ). IsLineStep c.args.line c.args.state c.args.classes.now c.args.ones.now c.insert.new.self xs c.len-class.result)
    (sym c.in_ok-push.ensures.ok)
    (gets c.insert.new.self c.len-class.result (sym c.in_default.ensures.value) c.len-class.ensures c.in_ok-insert.ensures.updates)
