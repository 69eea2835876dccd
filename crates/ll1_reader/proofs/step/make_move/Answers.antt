use Rattle.std.proofs.Common.{[], ◌∷◌, refl, sym, ◌∙◌, ap, append-nil}
use Rattle.std.proofs.lemmas.List.{nil_from_length}
use Rattle.ll1_reader.specs.declared.symbol.Symbol.TheVariants.{Once, Maybe, Many, Act}
use Rattle.ll1_reader.specs.Readings.{Row, Did}
use Rattle.ll1_reader.specs.Moves.{row_end, act, enter, take_it, leave_it, go_on, stop}
use Rattle.ll1_reader.specs.Frames.{stack_of}
use Rattle.ll1_reader.proofs.AdvanceLemmas.{moves_by, moves_by_one, moves_by_two}
use Rattle.ll1_reader.proofs.step.make_move.Goals as goal

pub returns-in_default : goal.returns-in_default
returns-in_default g c =
    moves_by g.G.Grammar.rules g.G.Grammar.table c.args.next c.args.row.now [] c.args.depth (stack_of c.args.work.now) []
    c.args.work.now c.args.work.now (nil_from_length c.args.row.now c.in_default.ensures.cases)
    (row_end c.args.depth (stack_of c.args.work.now)) refl (sym (append-nil c.args.work.now.events))

pub returns-in_ok-push_done-in-Act : goal.returns-in_ok-push_done-in-Act
returns-in_ok-push_done-in-Act g c =
    moves_by g.G.Grammar.rules g.G.Grammar.table c.args.next c.args.row.now (Act c.in-Act.act ∷ c.in-Some.rest.now)
    c.args.depth (Row c.in-Some.rest.now c.args.depth (stack_of c.args.work.now)) (Did c.in-Act.act ∷ []) c.args.work.now
    c.push_done.new.work
    (c.in-Some.ensures.cases.0 ∙ ap (λ x. x ∷ c.in-Some.rest.now) c.in-Act.is)
    (act c.in-Act.act c.in-Some.rest.now c.args.depth (stack_of c.args.work.now)) c.in_ok-push_done-in-Act.ensures.stack
    c.in_ok-push_done-in-Act.ensures.events

pub returns-in_ok-push_rows-in-Once : goal.returns-in_ok-push_rows-in-Once
returns-in_ok-push_rows-in-Once g c =
    moves_by_two g.G.Grammar.rules g.G.Grammar.table c.args.next c.args.row.now
    (Once c.in-Once.nonterminal ∷ c.in-Some.rest.now) c.in-Some.rest.now c.row.result.now
    (g.G.Grammar.rules.row c.in-Some-choose.production) c.args.depth c.args.work.now c.push_rows.new.work
    (c.in-Some.ensures.cases.0 ∙ ap (λ x. x ∷ c.in-Some.rest.now) c.in-Once.is)
    (enter c.in-Once.nonterminal c.in-Some-choose.production c.in-Some.rest.now c.args.depth (stack_of c.args.work.now)
    c.in-Some-choose.ensures.0 c.in-Some-choose.ensures.1)
    c.in_ok-push_rows-in-Once.ensures.stack c.row.ensures c.in_ok-push_rows-in-Once.ensures.events

pub returns-in_ok-push_row-in-Maybe-2 : goal.returns-in_ok-push_row-in-Maybe-2
returns-in_ok-push_row-in-Maybe-2 g c =
    moves_by_two g.G.Grammar.rules g.G.Grammar.table c.args.next c.args.row.now
    (Maybe c.in-Maybe.nonterminal ∷ c.in-Some.rest.now) c.in-Some.rest.now c.row-in-Some-choose-2.result.now
    (g.G.Grammar.rules.row c.in-Some-choose-2.production) c.args.depth c.args.work.now c.push_row-in-Some-choose-2.new.work
    (c.in-Some.ensures.cases.0 ∙ ap (λ x. x ∷ c.in-Some.rest.now) c.in-Maybe.is)
    (take_it c.in-Maybe.nonterminal c.in-Some-choose-2.production c.in-Some.rest.now c.args.depth (stack_of c.args.work.now)
    c.in-Some-choose-2.ensures.0 c.in-Some-choose-2.ensures.1)
    (c.in_ok-push_row-in-Maybe-2.ensures.stack ∙ ap (λ x. Row c.row-in-Some-choose-2.result.now c.args.depth x) c.in_ok-push_row-in-Maybe.ensures.stack)
    c.row-in-Some-choose-2.ensures
    (c.in_ok-push_row-in-Maybe-2.ensures.events ∙ c.in_ok-push_row-in-Maybe.ensures.events)

pub returns-in_default-choose-2 : goal.returns-in_default-choose-2
returns-in_default-choose-2 g c =
    moves_by_one g.G.Grammar.rules g.G.Grammar.table c.args.next c.args.row.now
    (Maybe c.in-Maybe.nonterminal ∷ c.in-Some.rest.now) c.in-Some.rest.now c.args.depth c.args.work.now
    c.push_row-in-Maybe.new.work
    (c.in-Some.ensures.cases.0 ∙ ap (λ x. x ∷ c.in-Some.rest.now) c.in-Maybe.is)
    (leave_it c.in-Maybe.nonterminal c.in-Some.rest.now c.args.depth (stack_of c.args.work.now) c.in_default-choose-2.ensures)
    c.in_ok-push_row-in-Maybe.ensures.stack c.in_ok-push_row-in-Maybe.ensures.events

pub returns-in_default-choose-3 : goal.returns-in_default-choose-3
returns-in_default-choose-3 g c =
    moves_by_one g.G.Grammar.rules g.G.Grammar.table c.args.next c.args.row.now
    (Many c.in-Many.nonterminal ∷ c.in-Some.rest.now) c.in-Some.rest.now c.args.depth c.args.work.now
    c.push_row-in_default-choose-3.new.work
    (c.in-Some.ensures.cases.0 ∙ ap (λ x. x ∷ c.in-Some.rest.now) c.in-Many.is)
    (stop c.in-Many.nonterminal c.in-Some.rest.now c.args.depth (stack_of c.args.work.now) c.in_default-choose-3.ensures)
    c.in_ok-push_row-in-Many.ensures.stack c.in_ok-push_row-in-Many.ensures.events

pub returns-in_ok-push_rows-in-Many : goal.returns-in_ok-push_rows-in-Many
returns-in_ok-push_rows-in-Many g c =
    let same = c.in-Some.ensures.cases.0 ∙ ap (λ x. x ∷ c.in-Some.rest.now) c.in-Many.is in
    moves_by_two g.G.Grammar.rules g.G.Grammar.table c.args.next c.args.row.now
    (Many c.in-Many.nonterminal ∷ c.in-Some.rest.now) (Many c.in-Many.nonterminal ∷ c.in-Some.rest.now)
    c.row-in-Many.result.now (g.G.Grammar.rules.row c.in-Some-choose-3.production) c.args.depth c.args.work.now c.push_rows-in-Many.new.work same
    (go_on c.in-Many.nonterminal c.in-Some-choose-3.production c.in-Some.rest.now c.args.depth (stack_of c.args.work.now)
    c.in-Some-choose-3.ensures.0 c.in-Some-choose-3.ensures.1)
    (c.in_ok-push_rows-in-Many.ensures.stack ∙ ap (λ x. Row c.row-in-Many.result.now c.args.depth (Row x c.args.depth (stack_of c.args.work.now))) same)
    c.row-in-Many.ensures c.in_ok-push_rows-in-Many.ensures.events
