use Rattle.std.proofs.Common.{◌≡◌, ℕ, List, sym, ◌∙◌, subst}
use Rattle.gta_core.specs.Auto.{automaton_of}
use Rattle.gta_subsets.specs.Closing.{AreNext, AreSettled, AreRising}
use Rattle.gta_subsets.proofs.ClosingLemmas.{AreInitial-next}
use Rattle.gta_subsets.proofs.RisingLemmas.{AreRising-none, AreRising-next, absent-falls}
use Rattle.gta_subsets.proofs.closing.initial_sets.Goals as goal

pub loop-sets-init : goal.loop-sets-init
loop-sets-init c = subst (AreRising c.args.g.now (automaton_of c.args.shelf.now c.args.a.now) c.args.track) (sym c.new-sets.ensures)
    (AreRising-none c.args.g.now (automaton_of c.args.shelf.now c.args.a.now) c.args.track)

pub loop-sets-preserved : goal.loop-sets-preserved
loop-sets-preserved c = AreRising-next c.args.g.now (automaton_of c.args.shelf.now c.args.a.now) c.args.track c.loop-sets.sets c.in_ok-next.next
    c.loop-sets.invariant
    (subst (λ (before : List (List ℕ)). AreNext c.args.g.now (automaton_of c.args.shelf.now c.args.a.now) c.args.track before c.in_ok-next.next)
    c.as_slice.ensures
    c.in_ok-next.ensures.next)

pub loop-sets-smaller : goal.loop-sets-smaller
loop-sets-smaller c = absent-falls c.args.g.now c.args.shelf.now c.args.a.now c.requires.auto c.args.track c.loop-sets.sets c.in_ok-next.next
    c.loop-sets.invariant
    (subst (λ (before : List (List ℕ)). AreNext c.args.g.now (automaton_of c.args.shelf.now c.args.a.now) c.args.track before c.in_ok-next.next)
    c.as_slice.ensures
    c.in_ok-next.ensures.next)
    (λ same. c.are_same.ensures.apart c.if-are_same.false (c.as_slice-in-loop-sets.ensures ∙ same ∙ sym c.as_slice-in-loop-sets-2.ensures))

pub next_sets-requires-clause-settled : goal.next_sets-requires-clause-settled
next_sets-requires-clause-settled c = subst (AreSettled c.args.g.now (automaton_of c.args.shelf.now c.args.a.now) c.args.track) (sym c.as_slice.ensures)
    c.loop-sets.invariant.settled

pub returns-then-are_same : goal.returns-then-are_same
returns-then-are_same c =
    let A = automaton_of c.args.shelf.now c.args.a.now in
    let same : c.in_ok-next.next ≡ c.loop-sets.sets = sym c.as_slice-in-loop-sets.ensures ∙ c.are_same.ensures.same c.if-are_same.true ∙
    c.as_slice-in-loop-sets-2.ensures in
    let next = subst (λ (before : List (List ℕ)). AreNext c.args.g.now A c.args.track before c.in_ok-next.next) (c.as_slice.ensures ∙ sym same)
    c.in_ok-next.ensures.next in
    AreInitial-next c.args.g.now A c.args.track c.next_sets.ensures.guide c.in_ok-next.next next
    (subst (AreSettled c.args.g.now A c.args.track) (sym same) c.loop-sets.invariant.settled)
