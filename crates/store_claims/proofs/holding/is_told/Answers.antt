use Rattle.std.proofs.Common.{◌≡◌, ◌↔◌, sym, subst}
use Rattle.ws2s_core.specs.declared.formula.Formula.{Formula}
use Rattle.ws2s_core.specs.LabelTrees.{assignment_of}
use Rattle.ws2s_core.specs.Satisfaction.{WSat}
use Rattle.store_exec.specs.Cuts.{IsMet}
use Rattle.tree_encode.specs.Layouts.{LaidOut}
use Rattle.tree_store.specs.Encoding.{IsTreeOf}
use Rattle.store_claims.specs.Formulas.{formula_on}
use Rattle.store_claims.proofs.Telling.{told-also}
use Rattle.store_claims.proofs.Meeting.{met-told}
use Rattle.store_claims.proofs.holding.is_told.Goals as goal

pub returns : goal.returns
returns c =
    let claim = c.args.claim.now in
    let s = c.args.store.now in
    let tree = subst (λ (l : LaidOut). IsTreeOf l.types l.vars s c.in_ok-tree.tree) c.in_ok-l.ensures c.in_ok-tree.ensures in
    let made = subst (λ (l : LaidOut). c.in_ok-formula.formula ≡ formula_on l.types l.vars claim.region claim.assertion) c.in_ok-l.ensures
    c.in_ok-formula.ensures in
    let same = met-told c.args.types.now c.args.vars.now claim c.requires.claim c.requires.table s c.in_ok-tree.tree c.requires.fits c.requires.sound tree in
    told-also (subst (λ (f : Formula). WSat f (assignment_of c.in_ok-tree.tree) ↔ IsMet c.args.types.now c.args.vars.now s claim) (sym made) same)
    c.satisfies.result c.satisfies.ensures
