use Rattle.std.proofs.Common.{[]}
use Rattle.gta_keep.proofs.PassesLemmas.{Passes-both}
use Rattle.gta_keep.proofs.KeptLemmas.{taken-registered, taken-gone, taken-held}
use Rattle.gta_keep.proofs.kept.Kept.shrink.Goals as goal

pub release-requires : goal.release-requires
release-requires c =
    let l = c.loop-auto in
    taken-registered l.invariant.held.0 l.shelf l.self c.fall_out.new.self l.invariant.held.1 c.in-Some.auto
    (λ g. c.in-Some.ensures.passes g l.shelf)

pub loop-auto-preserved : goal.loop-auto-preserved
loop-auto-preserved c =
    let l = c.loop-auto in
    let h = l.invariant.held.0 in
    let held = l.invariant.held.1 in
    let new = c.release.new.shelf in
    let after = c.fall_out.new.self in
    record {
      passes = λ g. Passes-both g c.args.shelf.now l.shelf new [] [] [] c.args.self.now l.self after (l.invariant.passes g)
          (taken-gone h l.shelf new l.self after held c.in-Some.auto (λ k. c.in-Some.ensures.passes k l.shelf) c.release.ensures.shelf
          c.release.ensures.dropped g);
      held = (
        h,
        taken-held h l.shelf new l.self after held c.in-Some.auto (λ k. c.in-Some.ensures.passes k l.shelf) c.release.ensures.shelf
            c.release.ensures.dropped,
      );
      stays = λ auto there. c.in-Some.ensures.stays auto (l.invariant.stays auto there);
    }

pub returns-clause-passes : goal.returns-clause-passes
returns-clause-passes c = λ g.
    let l = c.loop-auto in
    Passes-both g c.args.shelf.now l.shelf l.shelf [] [] [] c.args.self.now l.self c.fall_out.new.self (l.invariant.passes g)
    (c.in_default.ensures.passes g l.shelf)

pub returns-clause-stays : goal.returns-clause-stays
returns-clause-stays c = λ auto there. c.in_default.ensures.stays auto (c.loop-auto.invariant.stays auto there)
