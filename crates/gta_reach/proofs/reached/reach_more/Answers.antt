-- One more space.
use Rattle.std.proofs.Common.{◌≡◌, List, Bool, inl, inr, sym, ◌∙◌, ap, subst, arith}
use Rattle.std.proofs.lemmas.Bool.{cases_lt, false≢true}
use Rattle.gta_reach.specs.Reached.{IsClosedIn}
use Rattle.gta_reach.specs.Unset.{one_if}
use Rattle.gta_reach.proofs.reached.reach_more.Goals as goal
use Rattle.gta_reach.proofs.reached.reach_more.Goals.{then-branch, else-branch}

pub loop-s-preserved : goal.loop-s-preserved
loop-s-preserved c = record {
  generated = c.in_ok-reach_in.ensures.generated;
  closed = elim c.if-branch.branch [
    | then-branch w ↦ λ no_more. absurd (false≢true (sym no_more ∙ w.is_more-is))
    | else-branch w ↦ λ no_more s s_in.
        let form = c.args.form.now in
        let same = c.in_ok-reach_in.ensures.unchanged w.if-branch.false in
        elim (cases_lt s c.loop-s.s) [
          | inl before ↦ subst (λ (reached : List (List Bool)). IsClosedIn form reached s) (sym same)
              (c.loop-s.invariant.closed (sym w.is_more-is ∙ no_more) s before)
          | inr last ↦
              let is : c.loop-s.s ≡ s = omega arith in
              subst (IsClosedIn form c.reach_in.new.reached.items) is (c.in_ok-reach_in.ensures.closed w.if-branch.false)
        ]
  ];
  fewer = elim c.if-branch.branch [
    | then-branch w ↦
        let now = ap one_if w.is_more-is in
        let here = ap one_if w.if-branch.true in
        let f = c.in_ok-reach_in.ensures.fewer in
        let before = c.loop-s.invariant.fewer in
        omega arith
    | else-branch w ↦
        let now = ap one_if w.is_more-is in
        let f = c.in_ok-reach_in.ensures.fewer in
        let before = c.loop-s.invariant.fewer in
        omega arith
  ];
}
