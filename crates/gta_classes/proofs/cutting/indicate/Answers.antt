-- One state after the other.
use Rattle.std.proofs.Common.{◌≡◌, ◌+◌, ℕ, List, length, refl, sym, ◌∙◌, ap, subst, arith}
use Rattle.std.specs.Prelude.{slice_index}
use Rattle.std.proofs.lemmas.List.{length-set}
use Rattle.gta_classes.proofs.CutLemmas.{IsIndicatorBelow, IsIndicatorBelow-start, IsIndicatorBelow-next, IsIndicator-all, small-at}
use Rattle.gta_classes.proofs.cutting.indicate.Goals as goal

pub loop-state-init : goal.loop-state-init
loop-state-init c = record { many = refl; below = IsIndicatorBelow-start c.args.listed.now c.args.ids.now.items c.requires.zero }

pub set_at-requires : goal.set_at-requires
set_at-requires c =
    small-at c.args.listed.now c.args.ids.now.items c.loop-state.ids.items c.loop-state.state-index c.requires.small c.loop-state-test.true
    c.loop-state.invariant.many

pub loop-state-preserved : goal.loop-state-preserved
loop-state-preserved c =
    let listed = c.args.listed.now in
    let ids = c.loop-state.ids.items in
    let at = c.loop-state.state-index in
    let small = small-at listed c.args.ids.now.items ids at c.requires.small c.loop-state-test.true c.loop-state.invariant.many in
    record {
      many = ap length c.set_at.ensures ∙ length-set ids (slice_index listed at) 1 ∙ c.loop-state.invariant.many;
      below = subst (λ (xs : List ℕ). IsIndicatorBelow listed xs (at + 1)) (sym c.set_at.ensures)
          (IsIndicatorBelow-next listed ids at c.loop-state-test.true small c.loop-state.invariant.below);
    }

pub returns-clause-indicator : goal.returns-clause-indicator
returns-clause-indicator c =
    let listed = c.args.listed.now in
    let end : c.loop-state.state-index ≡ length listed =
    (let t = c.loop-state-test.false in let e = c.loop-state.auto.state-index-end in omega arith) in
    IsIndicator-all listed c.loop-state.ids.items (subst (IsIndicatorBelow listed c.loop-state.ids.items) end c.loop-state.invariant.below)
