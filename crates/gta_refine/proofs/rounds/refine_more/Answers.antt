-- One more space.
use Rattle.std.proofs.Common.{◌≡◌, ℕ, Bool, List, inl, inr, sym, ◌∙◌, subst, arith}
use Rattle.std.proofs.lemmas.Bool.{cases_lt, false≢true}
use Rattle.gta_classes.specs.declared.part.SpaceClasses.{SpaceClasses}
use Rattle.gta_refine.specs.Refined.{IsStableAt, room_in, TakesRoom}
use Rattle.gta_refine.proofs.RoomLemmas.{TakesRoom-more, TakesRoom-none}
use Rattle.gta_refine.proofs.rounds.refine_more.Goals as goal
use Rattle.gta_refine.proofs.rounds.refine_more.Goals.{then-branch, else-branch}

pub loop-s-preserved : goal.loop-s-preserved
loop-s-preserved c = record {
  partition = c.in_ok-look_at.ensures.partition;
  looked = c.in_ok-look_at.ensures.looked;
  stable = elim c.if-branch.branch [
    | then-branch w ↦ λ no_more. absurd (false≢true (sym no_more ∙ w.is_more-is))
    | else-branch w ↦ λ no_more s side s_in.
        let form = c.args.form.now in
        let same = c.in_ok-look_at.ensures.unchanged w.if-branch.false in
        elim (cases_lt s c.loop-s.s) [
          | inl before ↦ subst (λ (spaces : List SpaceClasses). IsStableAt form spaces s side) (sym same)
              (c.loop-s.invariant.stable (sym w.is_more-is ∙ no_more) s side before)
          | inr last ↦
              let is : c.loop-s.s ≡ s = omega arith in
              subst (λ (k : ℕ). IsStableAt form c.look_at.new.spaces.items k side) is (c.in_ok-look_at.ensures.stable w.if-branch.false side)
        ]
  ];
  room = elim c.if-branch.branch [
    | then-branch w ↦
        subst (λ (more : Bool). TakesRoom more (room_in c.args.spaces.now.items) (room_in c.look_at.new.spaces.items)) (sym w.is_more-is)
        (TakesRoom-more c.loop-s.is_more _ (room_in c.args.spaces.now.items) (room_in c.loop-s.spaces.items)
        (room_in c.look_at.new.spaces.items) w.if-branch.true c.loop-s.invariant.room c.in_ok-look_at.ensures.room)
    | else-branch w ↦
        subst (λ (more : Bool). TakesRoom more (room_in c.args.spaces.now.items) (room_in c.look_at.new.spaces.items)) (sym w.is_more-is)
        (TakesRoom-none c.loop-s.is_more _ (room_in c.args.spaces.now.items) (room_in c.loop-s.spaces.items)
        (room_in c.look_at.new.spaces.items) w.if-branch.false c.loop-s.invariant.room c.in_ok-look_at.ensures.room)
  ];
}
