use Rattle.std.proofs.Common.{◌∙◌, subst}
use Rattle.labels.specs.Labels.{Function}
use Rattle.bdd_nodes.specs.Shelf.{state_of}
use Rattle.bdd_nodes.proofs.SplitLemmas.{is_valid-IsValid}
use Rattle.bdd_walk.specs.Answers.{Answers}
use Rattle.bdd_walk.specs.Rules.{renamed_by}
use Rattle.bdd_walk.specs.Under.{Exceeds, Adds, AddsParts}
use Rattle.bdd_walk.proofs.AddsLemmas.{AddsParts-new, Adds-new}
use Rattle.bdd_walk.proofs.UnderLemmas.{AddsUnder-stands}
use Rattle.bdd_walk.proofs.CallLemmas.{given_by, Completes-given_by, renamed-given, renamed-value}
use Rattle.bdd_walk.proofs.calls.rename.Goals as goal

pub join_from-requires-clause-is_in : goal.join_from-requires-clause-is_in
join_from-requires-clause-is_in c = is_valid-IsValid c.args.shelf.now c.args.root c.requires.valid

pub returns-in_err-made-clause-limit : goal.returns-in_err-made-clause-limit
returns-in_err-made-clause-limit c = λ stopped.
    let more : Answers = renamed_by c.join_from.new.rule.numbers.now in
    subst (λ (function : Function). Exceeds c.args.shelf.now function)
    (renamed-given c.args.states.now more c.join_from.ensures.progress.answers_kept (state_of c.args.shelf.now c.args.root) c.requires.numbered)
    (c.join_from.ensures.limit (let why = rw stopped at c.from_residual.ensures in c.in_err-made.was
    ∙ (let is = why.1 in cc)) (given_by more) (Completes-given_by more))

pub returns-in_err-made-clause-parts : goal.returns-in_err-made-clause-parts
returns-in_err-made-clause-parts c =
    let more : Answers = renamed_by c.join_from.new.rule.numbers.now in
    subst (λ (function : Function). AddsParts c.args.shelf.now c.join_from.new.shelf function)
    (renamed-given c.args.states.now more c.join_from.ensures.progress.answers_kept (state_of c.args.shelf.now c.args.root) c.requires.numbered)
    (AddsParts-new _ c.join_from.new.shelf more (given_by more) (Completes-given_by more) c.join_from.ensures.progress.adds)

pub returns-clause-value : goal.returns-clause-value
returns-clause-value c = λ label.
    renamed-value c.args.states.now (renamed_by c.join_from.new.rule.numbers.now) c.join_from.ensures.progress.answers_kept
    (state_of c.args.shelf.now c.args.root label) (state_of c.join_from.new.shelf c.in_ok-made.made label)
    (c.requires.numbered label) (c.in_ok-made.ensures.stands.states label)

pub returns-clause-nodes : goal.returns-clause-nodes
returns-clause-nodes c = AddsUnder-stands _ c.join_from.new.shelf _ c.in_ok-made.made c.join_from.ensures.progress c.in_ok-made.ensures.stands

pub returns-clause-parts : goal.returns-clause-parts
returns-clause-parts c =
    let more : Answers = renamed_by c.join_from.new.rule.numbers.now in
    subst (λ (function : Function). AddsParts c.args.shelf.now c.join_from.new.shelf function)
    (renamed-given c.args.states.now more c.join_from.ensures.progress.answers_kept (state_of c.args.shelf.now c.args.root) c.requires.numbered)
    (AddsParts-new _ c.join_from.new.shelf more (given_by more) (Completes-given_by more) c.join_from.ensures.progress.adds)

pub returns-in_err-made-clause-adds : goal.returns-in_err-made-clause-adds
returns-in_err-made-clause-adds c =
    let more : Answers = renamed_by c.join_from.new.rule.numbers.now in
    subst (λ (function : Function). Adds c.args.shelf.now c.join_from.new.shelf function)
    (renamed-given c.args.states.now more c.join_from.ensures.progress.answers_kept (state_of c.args.shelf.now c.args.root) c.requires.numbered)
    (Adds-new _ c.join_from.new.shelf more (given_by more) (Completes-given_by more) c.join_from.ensures.progress)

pub returns-clause-adds : goal.returns-clause-adds
returns-clause-adds c =
    let more : Answers = renamed_by c.join_from.new.rule.numbers.now in
    subst (λ (function : Function). Adds c.args.shelf.now c.join_from.new.shelf function)
    (renamed-given c.args.states.now more c.join_from.ensures.progress.answers_kept (state_of c.args.shelf.now c.args.root) c.requires.numbered)
    (Adds-new _ c.join_from.new.shelf more (given_by more) (Completes-given_by more) c.join_from.ensures.progress)
