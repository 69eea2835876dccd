use Rattle.std.proofs.Common.{◌≡◌, sym, ap, ◌∙◌, subst}
use Rattle.std.proofs.lemmas.Bool.{false≢true}
use Rattle.hoare_split.specs.Statements.{block_of}
use Rattle.hoare_split.specs.Callers.{procs_of, vars_of}
use Rattle.hoare_split.proofs.MeasuresFlowLemmas.{together}
use Rattle.hoare_split.proofs.MeasuresStatementLemmas.{zero_count, Measured, measured-Skip, measured-Do, measured-branch, measured-plain}
use Rattle.hoare_split.proofs.MeasuresStatementLemmas.{measured-While, measured-Split, measured-Call, passed-one}
use Rattle.hoare_split.proofs.measuring.+measuring.Goals as goal
use Rattle.hoare_split.proofs.measuring.+measuring.Goals.{measure-then-cut, measure-else-cut}

pub measure-returns-in-Skip : goal.measure-returns-in-Skip
measure-returns-in-Skip t c =
    let of = measured-Skip (procs_of c.args.caller.now) (vars_of c.args.caller.now) c.args.stmt.now c.in-Skip.is c.args.rest c.args.found.now in
    record { count = of.count; found = of.found }

pub measure-returns-in-Do : goal.measure-returns-in-Do
measure-returns-in-Do t c =
    let of = measured-Do (procs_of c.args.caller.now) (vars_of c.args.caller.now) c.args.stmt.now c.in-Do.field-0 c.in-Do.act c.in-Do.is
    c.args.rest c.and.result c.args.found.now (c.and.ensures ∙ ap (λ k. together k c.args.rest) c.of_act.ensures) in
    record { count = of.count; found = of.found }

pub measure-returns-in-While : goal.measure-returns-in-While
measure-returns-in-While t c =
    let again = c.measure_block-again.result in
    let inner = subst (λ body. Measured (block_of (procs_of c.args.caller.now) (vars_of c.args.caller.now) body) zero_count again c.args.found.now
    c.measure_block-again.new.found) c.as_slice-in-While.ensures
    (record { count = c.measure_block-again.ensures.count; found = c.measure_block-again.ensures.found }) in
    let of = measured-While (procs_of c.args.caller.now) (vars_of c.args.caller.now) c.args.stmt.now c.in-While.place c.in-While.field-1 c.in-While.field-2
    c.in-While.body c.in-While.is again c.args.rest c.and-in-While-2.result c.args.found.now c.measure_block-again.new.found c.look.new.found inner
    (c.and-in-While-2.ensures ∙ ap (λ k. together k c.args.rest) (c.and-in-While.ensures ∙ ap (λ k. together k again) c.of_atoms-in-While.ensures))
    c.look.ensures in
    record { count = of.count; found = of.found }

pub measure-returns-in-Split : goal.measure-returns-in-Split
measure-returns-in-Split t c =
    let of = measured-Split (procs_of c.args.caller.now) (vars_of c.args.caller.now) c.args.stmt.now c.in-Split.place c.in-Split.field-1 c.in-Split.is
    c.args.rest c.args.found.now c.look-in-Split.new.found c.look-in-Split.ensures in
    record { count = of.count; found = of.found }

pub measure-returns-in-Call : goal.measure-returns-in-Call
measure-returns-in-Call t c =
    let of = measured-Call (procs_of c.args.caller.now) (vars_of c.args.caller.now) c.args.stmt.now c.in-Call.place c.in-Call.call c.in-Call.is
    c.args.rest c.settings_before.result c.args.found.now c.look-in-Call.new.found c.settings_before.ensures c.look-in-Call.ensures in
    record { count = of.count; found = of.found }

pub measure_block-loop-last-preserved : goal.measure_block-loop-last-preserved
measure_block-loop-last-preserved t c = passed-one (procs_of c.args.caller.now) (vars_of c.args.caller.now) c.args.block.now c.loop-last.left.now
    c.in-Some.before.now c.in-Some.last.now c.args.rest c.loop-last.count c.measure-count.result c.args.found.now c.loop-last.found c.measure-count.new.found
    c.in-Some.ensures.cases.0 c.loop-last.invariant (record { count = c.measure-count.ensures.count; found = c.measure-count.ensures.found })

-- both blocks of an `if`
pub measure-returns-then-cut-2 : goal.measure-returns-then-cut-2
measure-returns-then-cut-2 t c =
    let procs = procs_of c.args.caller.now in
    let vars = vars_of c.args.caller.now in
    let inside = c.if-cut.inside in
    let other = c.measure_block-other.result in
    let taken = c.measure_block-taken.result in
    let mid = c.measure_block-other.new.found in
    let one = subst (λ block. Measured (block_of procs vars block) inside other c.args.found.now mid) c.as_slice.ensures
    (record { count = c.measure_block-other.ensures.count; found = c.measure_block-other.ensures.found }) in
    let two = subst (λ block. Measured (block_of procs vars block) inside taken mid c.measure_block-taken.new.found) c.as_slice-in-If.ensures
    (record { count = c.measure_block-taken.ensures.count; found = c.measure_block-taken.ensures.found }) in
    let same : inside ≡ c.args.rest = elim c.if-cut.branch
    [ measure-then-cut w ↦ w.inside-is | measure-else-cut w ↦ absurd (false≢true (sym w.if-cut.false ∙ c.if-cut-2.true)) ] in
    let of = measured-branch procs vars c.args.stmt.now c.in-If.field-0 c.in-If.field-1 c.in-If.yes c.in-If.no c.in-If.is c.args.rest inside taken other
    c.args.found.now mid c.measure_block-taken.new.found one two (sym (c.is_cut-cut.ensures procs vars) ∙ c.if-cut-2.true) same c.and-both.result
    (c.and-both.ensures ∙ ap (λ k. together k other) (c.and-in-If.ensures ∙ ap (λ k. together k taken) c.of_atoms.ensures)) in
    record { count = of.count; found = of.found }

pub measure-returns-else-cut-2 : goal.measure-returns-else-cut-2
measure-returns-else-cut-2 t c =
    let procs = procs_of c.args.caller.now in
    let vars = vars_of c.args.caller.now in
    let inside = c.if-cut.inside in
    let other = c.measure_block-other.result in
    let taken = c.measure_block-taken.result in
    let mid = c.measure_block-other.new.found in
    let one = subst (λ block. Measured (block_of procs vars block) inside other c.args.found.now mid) c.as_slice.ensures
    (record { count = c.measure_block-other.ensures.count; found = c.measure_block-other.ensures.found }) in
    let two = subst (λ block. Measured (block_of procs vars block) inside taken mid c.measure_block-taken.new.found) c.as_slice-in-If.ensures
    (record { count = c.measure_block-taken.ensures.count; found = c.measure_block-taken.ensures.found }) in
    let none : inside ≡ zero_count = elim c.if-cut.branch
    [ measure-then-cut w ↦ absurd (false≢true (sym c.if-cut-2.false ∙ w.if-cut.true)) | measure-else-cut w ↦ w.inside-is ] in
    let of = measured-plain procs vars c.args.stmt.now c.in-If.field-0 c.in-If.field-1 c.in-If.yes c.in-If.no c.in-If.is c.args.rest inside taken other
    c.args.found.now mid c.measure_block-taken.new.found one two (sym (c.is_cut-cut.ensures procs vars) ∙ c.if-cut-2.false) none c.and-else-cut-2.result
    (c.and-else-cut-2.ensures ∙ ap (λ k. together k c.args.rest) (c.and-both.ensures
    ∙ ap (λ k. together k other) (c.and-in-If.ensures ∙ ap (λ k. together k taken) c.of_atoms.ensures))) in
    record { count = of.count; found = of.found }
