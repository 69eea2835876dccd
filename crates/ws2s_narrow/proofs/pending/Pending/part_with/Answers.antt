use Rattle.std.proofs.Common.{◌≡◌, ◌⊎◌, true, false, subst, rules, arith, inl, inr}
use Rattle.std.proofs.lemmas.Grind.{common_steps}
use Rattle.std.specs.List.{AllByRecursion}
use Rattle.ws2s_narrow.specs.Pending.{IsAmong, IsIdle, Goes, Stays}
use Rattle.ws2s_narrow.proofs.MovingLemmas.{All-weaker, All-zip, Ascends-woven, Woven-turned}
use Rattle.ws2s_narrow.proofs.HandingLemmas.{goes-among, goes-idle, stays-right}
use Rattle.ws2s_narrow.proofs.pending.Pending.part_with.Goals as goal

pub returns-then-shares-clause-sound : goal.returns-then-shares-clause-sound
returns-then-shares-clause-sound c = record {
  ascends = Ascends-woven c.in_ok-part_with_used.ensures.woven c.requires.ascends;
  placed = c.in_ok-part_with_used.ensures.placed;
}

pub returns-then-shares-clause-gone_sound : goal.returns-then-shares-clause-gone_sound
returns-then-shares-clause-gone_sound c = record {
  ascends = Ascends-woven (Woven-turned c.in_ok-part_with_used.ensures.woven) c.requires.ascends;
  placed = c.in_ok-part_with_used.ensures.gone_placed;
}

pub part_with_idle-requires-clause-ascends : goal.part_with_idle-requires-clause-ascends
part_with_idle-requires-clause-ascends c = Ascends-woven c.in_ok-part_with_used.ensures.woven c.requires.ascends

pub part_with_idle-requires-clause-used : goal.part_with_idle-requires-clause-used
part_with_idle-requires-clause-used c = All-weaker (IsAmong c.as_slice.result.now) (λ next. next.1.used ≡ true) (λ next among. among.0)
    c.part_with_used.new.gone.waiting.entries c.in_ok-part_with_used.ensures.goes

pub returns-clause-goes : goal.returns-clause-goes
returns-clause-goes c =
    let right : c.args.shares.now.is_left ≡ false = first_of (search rules, grind (arith, common_steps)) in
    let alone : c.as_slice.result.now ≡ c.args.shares.now.alone.items = first_of (search rules, grind (arith, common_steps)) in
    All-weaker (λ next. IsIdle next ⊎ IsAmong c.as_slice.result.now next) (Goes c.args.shares.now)
    (λ next either. elim either [
      | inl idle ↦ goes-idle c.args.shares.now right next idle
      | inr among ↦ goes-among c.args.shares.now next (subst (λ tracks. IsAmong tracks next) alone among)
    ])
    c.part_with_idle.new.gone.waiting.entries (c.in_ok-part_with_idle.ensures.goes c.as_slice.result.now c.in_ok-part_with_used.ensures.goes)

pub returns-clause-stays : goal.returns-clause-stays
returns-clause-stays c =
    let alone : c.as_slice.result.now ≡ c.args.shares.now.alone.items = first_of (search rules, grind (arith, common_steps)) in
    All-zip (λ next. IsAmong c.args.shares.now.alone.items next → ⊥) (λ next. IsIdle next → ⊥) (Stays c.args.shares.now)
    (λ next none busy. stays-right c.args.shares.now next none busy) c.part_with_idle.new.self.waiting.entries
    (c.in_ok-part_with_idle.ensures.kept c.args.shares.now.alone.items
    (subst (λ tracks. AllByRecursion (λ next. IsAmong tracks next → ⊥) c.part_with_used.new.self.waiting.entries) alone
    c.in_ok-part_with_used.ensures.stays))
    c.in_ok-part_with_idle.ensures.stays

pub returns-clause-sound : goal.returns-clause-sound
returns-clause-sound c = record {
  ascends = Ascends-woven (c.in_ok-part_with_idle.ensures.woven c.args.self.now.waiting.entries c.in_ok-part_with_used.ensures.woven c.requires.ascends)
      c.requires.ascends;
  placed = c.in_ok-part_with_idle.ensures.placed;
}

pub returns-clause-gone_sound : goal.returns-clause-gone_sound
returns-clause-gone_sound c = record {
  ascends = Ascends-woven (Woven-turned
      (c.in_ok-part_with_idle.ensures.woven c.args.self.now.waiting.entries c.in_ok-part_with_used.ensures.woven c.requires.ascends))
      c.requires.ascends;
  placed = c.in_ok-part_with_idle.ensures.gone_placed;
}
