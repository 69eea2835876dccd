use Rattle.std.proofs.Common.{ap, ◌∙◌}
use Rattle.ws2s_core.specs.Tracks.{is_free}
use Rattle.ws2s_narrow.specs.Pending.{has}
use Rattle.ws2s_narrow.proofs.SharingLemmas.{has-both, has-both-turned, has-alone}
use Rattle.ws2s_narrow.proofs.sharing.shares_of.Goals as goal

pub returns-then-left-right : goal.returns-then-left-right
returns-then-left-right c = let left = c.args.left.now.part in let right = c.args.right.now.part in record {
  both = λ t. ap (has t) c.in_ok-in_both.ensures
      ∙ has-both left.free right.free (λ t. is_free t left.formula) (λ t. is_free t right.formula) left.told.exactly right.told.exactly t;
  alone = λ t. ap (has t) c.in_ok-in_first.ensures
      ∙ has-alone left.free right.free (λ t. is_free t left.formula) (λ t. is_free t right.formula) left.told.exactly right.told.exactly t;
}

pub returns : goal.returns
returns c = let left = c.args.left.now.part in let right = c.args.right.now.part in record {
  both = λ t. ap (has t) c.in_ok-in_both-2.ensures
      ∙ has-both-turned right.free left.free (λ t. is_free t right.formula) (λ t. is_free t left.formula) right.told.exactly left.told.exactly t;
  alone = λ t. ap (has t) c.in_ok-in_first-2.ensures
      ∙ has-alone right.free left.free (λ t. is_free t right.formula) (λ t. is_free t left.formula) right.told.exactly left.told.exactly t;
}
