use Rattle.std.proofs.Common.{◌≡◌, ◌∙◌, Some}
use Rattle.std.specs.Prelude.{slice_get}
use Rattle.ws2s_core.specs.declared.formula.Formula.{Formula}
use Rattle.ws2s_decide.proofs.OwnLemmas.{Rests-none}
use Rattle.ws2s_decide.proofs.AloneLemmas.{left, left-held, left-minimal, left-alone, left-none}
use Rattle.ws2s_decide.proofs.minimal.automaton.Goals as goal

pub automaton_of-made-requires-clause-rests : goal.automaton_of-made-requires-clause-rests
automaton_of-made-requires-clause-rests c = rw c.in_ok-kept.ensures (Rests-none c.args.g.now c.intern.new.interner c.args.shelf.now c.requires)

pub release_all-requires : goal.release_all-requires
release_all-requires c =
    let a = c.automaton_of-made in (
      c.args.g.now,
      record {
        others = left a.result;
        holds = left-held c.args.g.now c.intern.new.interner a.new.shelf a.new.kept a.result a.ensures.ok a.ensures.err;
      },
    )

pub returns-clause-minimal : goal.returns-clause-minimal
returns-clause-minimal c =
    let a = c.automaton_of-made in
    let held = left-held c.args.g.now c.intern.new.interner a.new.shelf a.new.kept a.result a.ensures.ok a.ensures.err in
    left-minimal c.args.g.now a.new.shelf c.release_all.new.shelf a.new.kept c.release_all.new.self (c.release_all.ensures.passes c.args.g.now)
    (λ (h : Formula). slice_get c.intern.new.interner (c.in_ok-id.id).0 ≡ Some h) c.args.f.now c.in_ok-id.ensures.value a.result held a.ensures.minimal

pub returns-clause-alone : goal.returns-clause-alone
returns-clause-alone c =
    let a = c.automaton_of-made in
    let held = left-held c.args.g.now c.intern.new.interner a.new.shelf a.new.kept a.result a.ensures.ok a.ensures.err in
    left-alone c.args.g.now a.new.shelf c.release_all.new.shelf a.new.kept c.release_all.new.self (c.release_all.ensures.passes c.args.g.now)
    a.result held c.release_all.ensures.empty

pub returns-clause-none : goal.returns-clause-none
returns-clause-none c =
    let a = c.automaton_of-made in
    let held = left-held c.args.g.now c.intern.new.interner a.new.shelf a.new.kept a.result a.ensures.ok a.ensures.err in
    left-none c.args.g.now a.new.shelf c.release_all.new.shelf a.new.kept c.release_all.new.self (c.release_all.ensures.passes c.args.g.now)
    a.result held c.release_all.ensures.empty

pub returns-clause-same_limit : goal.returns-clause-same_limit
returns-clause-same_limit c = (c.release_all.ensures.passes c.args.g.now).limit ∙ c.automaton_of-made.ensures.same_limit
