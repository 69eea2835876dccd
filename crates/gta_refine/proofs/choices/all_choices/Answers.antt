-- One space more.
use Rattle.std.proofs.Common.{◌≡◌, ℕ, List, Some, length, subst, arith}
use Rattle.std.specs.Prelude.{slice_get}
use Rattle.gta_reach.specs.declared.sides.Side.TheVariants.{Left, Right}
use Rattle.gta_refine.specs.declared.choices.Choices.{Choices}
use Rattle.gta_refine.specs.Choices.{AreChoices}
use Rattle.gta_refine.proofs.ChoicesLemmas.{choices-push}
use Rattle.gta_refine.proofs.choices.all_choices.Goals as goal

pub loop-s-preserved : goal.loop-s-preserved
loop-s-preserved c =
    let form = c.args.form.now in
    let all = c.loop-s.all.items in
    let inv = c.loop-s.invariant in
    let more = c.in_ok-choices.choices in
    let e = c.in_ok-choices.ensures in
    let many : length all ≡ c.loop-s.s = (let m = inv.many in let o = c.loop-s.all.ok in omega arith) in
    record {
      many = let l = c.in_ok-push.ensures.len in let m = inv.many in omega arith;
      left = λ s one there. choices-push (λ (k : ℕ) (choices : Choices). AreChoices form k Left choices.left.items) all c.loop-s.s more many
          inv.left e.left s one (subst (λ (xs : List Choices). slice_get xs s ≡ Some one) c.in_ok-push.ensures.items there);
      right = λ s one there. choices-push (λ (k : ℕ) (choices : Choices). AreChoices form k Right choices.right.items) all c.loop-s.s more many
          inv.right e.right s one (subst (λ (xs : List Choices). slice_get xs s ≡ Some one) c.in_ok-push.ensures.items there);
    }
