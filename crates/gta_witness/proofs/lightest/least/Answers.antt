-- The form's answer is the automaton's.
use Rattle.std.proofs.Common.{subst}
use Rattle.gta_theory.specs.Guides.{IsGuide}
use Rattle.gta_core.specs.Auto.{automaton_of}
use Rattle.gta_witness.proofs.LargeLemmas.{none-exactly, large-so}
use Rattle.gta_witness.proofs.SameLemmas.{answer-for, large-for}
use Rattle.gta_witness.proofs.lightest.least.Goals as goal

pub returns-clause-value : goal.returns-clause-value
returns-clause-value c =
    let f = c.in_ok-form.form in
    let g = c.args.g.now in
    let same = c.in_ok-form.ensures.same in
    let guide : IsGuide g = subst IsGuide same.guide c.in_ok-form.ensures.form.guide in
    answer-for g c.args.shelf.now c.args.a.now f c.requires guide same c.as_slice.result.now c.args.weigh.now c.in_ok-answer.answer c.as_slice.ensures
    c.in_ok-answer.ensures.value

pub returns-clause-none : goal.returns-clause-none
returns-clause-none c =
    let f = c.in_ok-form.form in
    let g = c.args.g.now in
    let same = c.in_ok-form.ensures.same in
    let guide : IsGuide g = subst IsGuide same.guide c.in_ok-form.ensures.form.guide in
    none-exactly g (automaton_of c.args.shelf.now c.args.a.now) c.args.weigh.now c.in_ok-answer.answer
    (answer-for g c.args.shelf.now c.args.a.now f c.requires guide same c.as_slice.result.now c.args.weigh.now c.in_ok-answer.answer c.as_slice.ensures
    c.in_ok-answer.ensures.value)

pub returns-clause-too_large : goal.returns-clause-too_large
returns-clause-too_large c =
    let f = c.in_ok-form.form in
    let g = c.args.g.now in
    let same = c.in_ok-form.ensures.same in
    let guide : IsGuide g = subst IsGuide same.guide c.in_ok-form.ensures.form.guide in
    let of = answer-for g c.args.shelf.now c.args.a.now f c.requires guide same c.as_slice.result.now c.args.weigh.now c.in_ok-answer.answer
    c.as_slice.ensures c.in_ok-answer.ensures.value in (
      large-so g (automaton_of c.args.shelf.now c.args.a.now) c.args.weigh.now c.in_ok-answer.answer of,
      λ large. c.in_ok-answer.ensures.too_large
          (large-for g c.args.shelf.now c.args.a.now f c.requires guide same c.as_slice.result.now c.args.weigh.now c.as_slice.ensures large),
    )
