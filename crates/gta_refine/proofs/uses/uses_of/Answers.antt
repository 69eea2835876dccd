-- One space more.
use Rattle.std.proofs.Common.{◌≡◌, List, Some, subst, arith}
use Rattle.std.specs.Prelude.{slice_get}
use Rattle.gta_refine.specs.declared.uses.SpaceUses.{SpaceUses}
use Rattle.gta_refine.proofs.UsesLemmas.{IsUses-push}
use Rattle.gta_refine.proofs.uses.uses_of.Goals as goal

pub loop-s-preserved : goal.loop-s-preserved
loop-s-preserved c =
    let uses = c.loop-s.uses.items in
    record {
      many = let l = c.in_ok-push.ensures.len in let m = c.loop-s.invariant.many in omega arith;
      each = λ s space one at there. IsUses-push c.args.form.now uses c.loop-s.s c.in_ok-space_uses.field-0
          (let m = c.loop-s.invariant.many in let o = c.loop-s.uses.ok in omega arith) c.loop-s.invariant.each c.in_ok-space_uses.ensures
          s space one at (subst (λ (xs : List SpaceUses). slice_get xs s ≡ Some one) c.in_ok-push.ensures.items there);
    }
