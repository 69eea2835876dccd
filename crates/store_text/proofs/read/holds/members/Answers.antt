use Rattle.std.proofs.Common.{◌≡◌, [], ◌+◌, None, get_or, drop, ap, ◌∙◌, sym}
use Rattle.std.specs.Option.{option_map}
use Rattle.std.proofs.lemmas.List.{at_drop_more}
use Rattle.store_core.specs.declared.value.Value.TheVariants as value
use Rattle.store_text.specs.declared.fault.StoreKind.TheVariants.{Repeated}
use Rattle.store_text.specs.Saying.{set_of, or_fault, members_after, cells_numbered}
use Rattle.store_text.proofs.SayingLemmas.{members-any, members_after-again, members_after-new, true_from_not, false_from_not}
use Rattle.store_text.proofs.read.holds.members.Goals as goal

pub returns-then-not-branch-clause-stop : goal.returns-then-not-branch-clause-stop
unfolding set_of
returns-then-not-branch-clause-stop c = λ n.
    let number = get_or c.args.numbers.now c.loop-number.number-index 0 in
    let turned = at_drop_more (members_after c.loop-number.set.keys) c.args.numbers.now c.loop-number.number-index 0 c.loop-number-test.true in
    let there = sym (members-any number c.loop-number.set.keys) ∙ true_from_not _ _ c.in_ok-insert.ensures.added c.if-not-branch.true in
    let none : members_after [] c.args.numbers.now ≡ None =
    sym c.loop-number.invariant ∙ turned ∙ members_after-again c.loop-number.set.keys number (drop (c.loop-number.number-index + 1) c.args.numbers.now) there in
    ap (λ o. or_fault Repeated (option_map (λ members. value.Cells (cells_numbered members)) o)) none

pub loop-number-preserved : goal.loop-number-preserved
loop-number-preserved c =
    let number = get_or c.args.numbers.now c.loop-number.number-index 0 in
    let rest = drop (c.loop-number.number-index + 1) c.args.numbers.now in
    let turned = at_drop_more (members_after c.loop-number.set.keys) c.args.numbers.now c.loop-number.number-index 0 c.loop-number-test.true in
    let not_there = sym (members-any number c.loop-number.set.keys) ∙ false_from_not _ _ c.in_ok-insert.ensures.added c.if-not-branch.false in
    ap (λ ks. members_after ks rest) c.in_ok-insert.ensures.keys ∙ sym (members_after-new c.loop-number.set.keys number rest not_there) ∙
    sym turned ∙ c.loop-number.invariant
