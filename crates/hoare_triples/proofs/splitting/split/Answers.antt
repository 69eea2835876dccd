use Rattle.std.proofs.Common.{ℕ, ◌++◌, map, option_map, sym, ap, ap₂, ◌∙◌, subst, All}
use Rattle.hoare_split.specs.Triples.{starts_of, triple_of, procedure_fault}
use Rattle.hoare_split.specs.Callers.{entry_of}
use Rattle.hoare_split.specs.Fitting.{FitsProgram, IsShort}
use Rattle.hoare_triples.proofs.SplittingLemmas.{SplitUpto, split-none, split-last, split-fault, split-one}
use Rattle.hoare_triples.proofs.splitting.split.Goals as goal

pub loop-caller-init : goal.loop-caller-init
loop-caller-init c = split-none c.args.t.now c.new-triples.result c.new-triples.ensures

pub returns-clause-met : goal.returns-clause-met
returns-clause-met c = (split-last c.args.t.now c.loop-caller.number c.loop-caller.triples c.loop-caller.invariant
    (sym c.caller_at.ensures.entry ∙ ap (option_map entry_of) c.in_default.is)).0

pub returns-clause-triples : goal.returns-clause-triples
returns-clause-triples c = (split-last c.args.t.now c.loop-caller.number c.loop-caller.triples c.loop-caller.invariant
    (sym c.caller_at.ensures.entry ∙ ap (option_map entry_of) c.in_default.is)).1

pub returns-clause-fits : goal.returns-clause-fits
returns-clause-fits c = λ fits.
    subst (All (FitsProgram c.args.t.now)) (sym (split-last c.args.t.now c.loop-caller.number c.loop-caller.triples c.loop-caller.invariant
    (sym c.caller_at.ensures.entry ∙ ap (option_map entry_of) c.in_default.is)).1)
    (c.triples_of_programs_that_fit_fit.ensures.fits c.args.t.now fits)

pub returns-clause-short : goal.returns-clause-short
returns-clause-short c =
    let all = split-last c.args.t.now c.loop-caller.number c.loop-caller.triples c.loop-caller.invariant
    (sym c.caller_at.ensures.entry ∙ ap (option_map entry_of) c.in_default.is) in
    subst (All IsShort) (sym all.1) (c.triples_of_programs_that_fit_fit.ensures.short c.args.t.now all.0)

pub returns-in-Some-first_fault-clause-stop : goal.returns-in-Some-first_fault-clause-stop
returns-in-Some-first_fault-clause-stop c =
    let caller = c.in-Some.caller in
    split-fault c.args.t.now c.loop-caller.number c.loop-caller.triples c.loop-caller.invariant (entry_of caller)
    (sym c.caller_at.ensures.entry ∙ ap (option_map entry_of) c.in-Some.is) c.in-Some-first_fault.refusal
    (ap (λ procs. procedure_fault procs (entry_of caller)) (sym c.in-Some.ensures.procs) ∙ sym c.first_fault.ensures ∙ c.in-Some-first_fault.is)

pub loop-caller-preserved : goal.loop-caller-preserved
loop-caller-preserved c =
    let caller = c.in-Some.caller in
    subst (λ (k : ℕ). SplitUpto c.args.t.now k c.split_procedure.new.triples) (sym c.in_ok-number.ensures)
    (split-one c.args.t.now c.loop-caller.number c.loop-caller.triples c.loop-caller.invariant (entry_of caller)
    (sym c.caller_at.ensures.entry ∙ ap (option_map entry_of) c.in-Some.is) c.split_procedure.new.triples
    (ap (λ procs. procedure_fault procs (entry_of caller)) (sym c.in-Some.ensures.procs) ∙ sym c.first_fault.ensures ∙ c.in_default-first_fault.is)
    (c.in_ok-split_procedure.ensures
    ∙ ap₂ (λ k procs. c.loop-caller.triples ++ map (triple_of k) (starts_of procs (entry_of caller))) c.in-Some.ensures.number c.in-Some.ensures.procs))
