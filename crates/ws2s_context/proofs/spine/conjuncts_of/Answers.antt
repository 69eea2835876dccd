use Rattle.std.proofs.Common.{[], ◌∷◌, Some}
use Rattle.std.proofs.lemmas.List.Elements.{All-pop}
use Rattle.ws2s_facts.specs.Conjuncts.{IsConjunct, formula_of}
use Rattle.ws2s_facts.proofs.ConjunctsLemmas.{All-empty, All-pushed, IsConjunct-itself}
use Rattle.ws2s_context.proofs.spine.conjuncts_of.Goals as goal

pub looks-init : goal.looks-init
looks-init c =
    let context = formula_of c.args.interner.now c.args.id ∷ [] in
    record {
      in_waiting = All-pushed (IsConjunct c.args.interner.now context) c.new-waiting.result.items c.push.new.self.items c.args.id c.in_ok-push.ensures.items
          (All-empty (IsConjunct c.args.interner.now context) c.new-waiting.result.items c.new-waiting.ensures.items)
          (IsConjunct-itself c.args.interner.now c.args.id c.requires);
      in_found = All-empty (IsConjunct c.args.interner.now context) c.new-found.result.items c.new-found.ensures.items;
    }

pub looks-preserved : goal.looks-preserved
looks-preserved c =
    let context = formula_of c.args.interner.now c.args.id ∷ [] in
    let popped = All-pop (IsConjunct c.args.interner.now context) c.looks.waiting.items c.pop.new.self.items (Some c.in-Some.next) c.in-Some.ensures.items
    c.looks.invariant.in_waiting in
    c.in_ok-look.ensures context popped.1 (record { in_waiting = popped.0; in_found = c.looks.invariant.in_found })
