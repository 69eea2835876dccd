use Rattle.std.proofs.Common.{◌≡◌, Ok, drop}
use Rattle.ws2s_core.specs.declared.formula.Formula.{Formula}
use Rattle.ws2s_pass.specs.Applying.{LeadsTo}
use Rattle.ws2s_pass.specs.Rewriting.{IsRewriting}
use Rattle.ws2s_pass.proofs.passes.apply.Given as goal

abbrev pub invariant-loop-pass : goal.invariant-loop-pass
invariant-loop-pass g l =
    IsRewriting l.formula l.made × ((last : Formula) →
    LeadsTo (λ pass before after. (f : _) × (goal.Fn-dyn g).post (pass.run.vtable, pass.run.value) (l.alloc, (f, _)) (Ok after) × (f.now ≡ before))
    (drop l.pass-index l.pass-items) l.made last →
    LeadsTo (λ pass before after. (f : _) × (goal.Fn-dyn g).post (pass.run.vtable, pass.run.value) (l.alloc, (f, _)) (Ok after) × (f.now ≡ before))
    l.pass-items l.formula last)
