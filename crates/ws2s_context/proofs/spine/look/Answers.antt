use Rattle.ws2s_facts.specs.Conjuncts.{IsConjunct}
use Rattle.ws2s_facts.proofs.ConjunctsLemmas.{All-pushed}
use Rattle.ws2s_context.proofs.spine.look.Goals as goal

pub returns : goal.returns
returns c = λ context conjunct was.
    let halves = c.in-Some.ensures context conjunct in
    record {
      in_waiting = All-pushed (IsConjunct c.args.interner.now context) c.push-2.new.self.items c.push-3.new.self.items c.in-Some.halves.0
          c.in_ok-push-3.ensures.items
          (All-pushed (IsConjunct c.args.interner.now context) c.args.waiting.now.items c.push-2.new.self.items c.in-Some.halves.1 c.in_ok-push-2.ensures.items
          was.in_waiting halves.1) halves.0;
      in_found = was.in_found;
    }
