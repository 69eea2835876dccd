use Rattle.ws2s_decide.proofs.KeepingLemmas.{Rests-kept}
use Rattle.ws2s_decide.proofs.OwnLemmas.{IsReady-extends}
use Rattle.ws2s_decide.proofs.decider.Decider.decide.Goals as goal

pub decide_number-requires-clause-rests : goal.decide_number-requires-clause-rests
decide_number-requires-clause-rests c = Rests-kept c.args.shelf.now c.args.self.now c.intern.new.interner c.in_ok-id.ensures.kept c.requires

pub decide_number-requires-clause-ready : goal.decide_number-requires-clause-ready
decide_number-requires-clause-ready c =
    IsReady-extends c.args.self.now.interner c.intern.new.interner c.args.self.now.first c.in_ok-id.ensures.kept c.requires.first

pub returns-clause-kept : goal.returns-clause-kept
returns-clause-kept c =
    let rests = c.decide_number.ensures.rests in
    record {
      is_shelf = rests.holds.is_shelf;
      each = rests.holds.each;
      tables = rests.holds.tables;
      minimal = rests.kept_for;
      first = c.decide_number.ensures.ready;
    }
