use Rattle.std.proofs.Common.{◌+◌, ◌≤◌, ℕ, sym, subst, ◌∙◌}
use Rattle.bdd_nodes.specs.Shelf.{Contents, count_of}
use Rattle.ws2s_theory.specs.Peaks.{HasMinimalSize}
use Rattle.gta_atom.specs.Children.{test_of}
use Rattle.gta_atom.proofs.PartsLemmas.{IsGiven-parts, IsMinimalOf-built}
use Rattle.gta_atom.proofs.AtomLemmas.{room, no_room, keeps-all, room-all, limit-all, registers}
use Rattle.gta_atom.proofs.making.atom.Goals as goal

pub build-requires : goal.build-requires
build-requires c =
    IsGiven-parts c.args.g.now c.plan_of-plan.result (test_of c.in_ok-test.test) c.children.ensures.guide c.in_ok-test.ensures
    c.args.f.now c.plan_of-plan.ensures c.parts.new.shelf c.in_ok-spaces.spaces c.in_ok-accepting.accepting
    c.in_ok-spaces.ensures.many c.in_ok-spaces.ensures.parts c.in_ok-accepting.ensures

pub returns-clause-minimal : goal.returns-clause-minimal
returns-clause-minimal c =
    IsMinimalOf-built c.args.g.now c.plan_of-plan.result (test_of c.in_ok-test.test) c.children.ensures.guide c.in_ok-test.ensures
    c.args.f.now c.plan_of-plan.ensures c.parts.new.shelf c.in_ok-spaces.spaces c.in_ok-accepting.accepting
    c.in_ok-spaces.ensures.many c.in_ok-spaces.ensures.parts c.in_ok-accepting.ensures
    c.build.new.shelf c.in_ok-auto.auto c.in_ok-auto.ensures.same c.in_ok-auto.ensures.states

pub returns-clause-table : goal.returns-clause-table
returns-clause-table c =
    registers c.args.g.now c.plan_of-plan.result (test_of c.in_ok-test.test) c.children.ensures.guide c.in_ok-test.ensures c.args.f.now c.plan_of-plan.ensures
    c.args.shelf.now c.parts.new.shelf c.parts.ensures.adds c.build.new.shelf c.in_ok-auto.auto.table c.in_ok-auto.ensures.table

pub returns-clause-kept : goal.returns-clause-kept
returns-clause-kept c =
    keeps-all c.args.g.now c.plan_of-plan.result (test_of c.in_ok-test.test) c.children.ensures.guide c.in_ok-test.ensures c.args.f.now c.plan_of-plan.ensures
    c.args.shelf.now c.parts.new.shelf c.parts.ensures.adds c.build.new.shelf c.in_ok-auto.auto.table c.in_ok-auto.ensures.table

pub returns-clause-room : goal.returns-clause-room
returns-clause-room c =
    room-all c.args.g.now c.plan_of-plan.result (test_of c.in_ok-test.test) c.children.ensures.guide c.in_ok-test.ensures c.args.f.now c.plan_of-plan.ensures
    c.args.shelf.now c.parts.new.shelf c.parts.ensures.adds c.build.new.shelf c.in_ok-auto.auto.table c.in_ok-auto.ensures.table

pub returns-clause-same_limit : goal.returns-clause-same_limit
returns-clause-same_limit c =
    limit-all c.args.g.now c.plan_of-plan.result (test_of c.in_ok-test.test) c.children.ensures.guide c.in_ok-test.ensures c.args.f.now c.plan_of-plan.ensures
    c.args.shelf.now c.parts.new.shelf c.parts.ensures.adds c.build.new.shelf c.in_ok-auto.auto.table c.in_ok-auto.ensures.table

pub returns-in_err-spaces-clause-limit : goal.returns-in_err-spaces-clause-limit
returns-in_err-spaces-clause-limit c = λ stopped n has.
    no_room c.args.g.now c.plan_of-plan.result (test_of c.in_ok-test.test) c.children.ensures.guide c.in_ok-test.ensures c.args.f.now c.plan_of-plan.ensures
    c.args.shelf.now c.parts.new.shelf c.parts.ensures.adds
    (c.parts.ensures.stuck (let why = rw stopped at c.from_residual-in_err-spaces.ensures in c.in_err-spaces.was ∙ (let is = why.1 in cc))) n has

pub returns-in_err-spaces-clause-room : goal.returns-in_err-spaces-clause-room
returns-in_err-spaces-clause-room c =
    room c.args.g.now c.plan_of-plan.result (test_of c.in_ok-test.test) c.children.ensures.guide c.in_ok-test.ensures c.args.f.now c.plan_of-plan.ensures
    c.args.shelf.now c.parts.new.shelf c.parts.ensures.adds

pub returns-in_err-auto-clause-room : goal.returns-in_err-auto-clause-room
returns-in_err-auto-clause-room c =
    subst (λ (shelf : Contents). (n : ℕ) → HasMinimalSize c.args.g.now c.args.f.now n → count_of shelf ≤ count_of c.args.shelf.now + n)
    (sym c.in_err-auto.ensures.err)
    (room c.args.g.now c.plan_of-plan.result (test_of c.in_ok-test.test) c.children.ensures.guide c.in_ok-test.ensures c.args.f.now c.plan_of-plan.ensures
    c.args.shelf.now c.parts.new.shelf c.parts.ensures.adds)
