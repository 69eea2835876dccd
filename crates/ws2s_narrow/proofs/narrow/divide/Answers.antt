use Rattle.std.proofs.Common.{◌≡◌, [], ◌∷◌, ◌++◌, ap, subst, ◌∙◌, rules, arith}
use Rattle.std.proofs.lemmas.Grind.{common_steps}
use Rattle.std.specs.List.{AllByRecursion}
use Rattle.ws2s_narrow.specs.Pending.{IsAmong, BeginsAmong}
use Rattle.ws2s_narrow.specs.Taking.{into_left, into_right}
use Rattle.ws2s_narrow.proofs.narrow.divide.Goals as goal

pub returns-then-shares : goal.returns-then-shares
returns-then-shares c =
    let both : c.as_slice.result.now ≡ c.args.shares.both.items = first_of (search rules, grind (arith, common_steps)) in
    into_left c.take_staying.new.self.waiting.entries c.in_ok-staying.staying.entries c.in_ok-gone.gone c.part_with.new.self
    c.in_ok-staying.ensures.parts
    (subst (λ tracks. AllByRecursion (λ next. IsAmong tracks next → ⊥) c.take_staying.new.self.waiting.entries) both
    c.in_ok-staying.ensures.within)
    (subst (λ tracks. BeginsAmong tracks c.in_ok-staying.staying.entries) both c.in_ok-staying.ensures.begins)
    c.if-shares.true c.in_ok-gone.ensures.woven c.in_ok-gone.ensures.goes c.in_ok-gone.ensures.stays c.in_ok-gone.ensures.gone_sound
    c.in_ok-gone.ensures.sound
    (c.in_ok-push-2.ensures.items ∙ ap (λ ps. ps ++ c.part_with.new.self ∷ []) c.in_ok-push.ensures.items)
    c.in_ok-finish.ensures

pub returns : goal.returns
returns c =
    let both : c.as_slice.result.now ≡ c.args.shares.both.items = first_of (search rules, grind (arith, common_steps)) in
    into_right c.take_staying.new.self.waiting.entries c.in_ok-staying.staying.entries c.part_with.new.self c.in_ok-gone.gone
    c.in_ok-staying.ensures.parts
    (subst (λ tracks. AllByRecursion (λ next. IsAmong tracks next → ⊥) c.take_staying.new.self.waiting.entries) both
    c.in_ok-staying.ensures.within)
    (subst (λ tracks. BeginsAmong tracks c.in_ok-staying.staying.entries) both c.in_ok-staying.ensures.begins)
    c.if-shares.false c.in_ok-gone.ensures.woven c.in_ok-gone.ensures.goes c.in_ok-gone.ensures.stays c.in_ok-gone.ensures.sound
    c.in_ok-gone.ensures.gone_sound
    (c.in_ok-push-4.ensures.items ∙ ap (λ ps. ps ++ c.in_ok-gone.gone ∷ []) c.in_ok-push-3.ensures.items)
    c.in_ok-finish.ensures
