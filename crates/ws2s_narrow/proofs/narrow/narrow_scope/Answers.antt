use Rattle.std.proofs.Common.{◌≡◌, sym, subst, rules, arith}
use Rattle.std.proofs.lemmas.Grind.{common_steps}
use Rattle.ws2s_pass.specs.Rewriting.{IsRewriting}
use Rattle.ws2s_narrow.specs.Narrowing.{narrowed}
use Rattle.ws2s_narrow.proofs.NarrowingLemmas.{IsRewriting-narrowed}
use Rattle.ws2s_narrow.proofs.narrow.narrow_scope.Goals as goal

pub returns-clause-kept : goal.returns-clause-kept
returns-clause-kept c =
    let value : c.in_ok-made.made ≡ narrowed c.args.formula.now = first_of (search rules, grind (arith, common_steps)) in
    subst (IsRewriting c.args.formula.now) (sym value) (IsRewriting-narrowed c.args.formula.now)
