use Rattle.ws2s_core.specs.Nodes.{formula_of_node}
use Rattle.ws2s_core.specs.Tracks.{is_free}
use Rattle.ws2s_facts.specs.declared.facts.Fact.{Fact}
use Rattle.ws2s_facts.specs.Facts.{IsFact, Finds, TrackSet}
use Rattle.ws2s_facts.proofs.ConjunctsLemmas.{All-pushed}
use Rattle.ws2s_facts.proofs.FactsLemmas.{AreFacts-push, found-some}
use Rattle.ws2s_facts.proofs.facts.Facts.add.Goals as goal

pub returns : goal.returns
returns c =
    let fs = c.args.interner.now in
    let facts = c.args.self.now.facts.items in
    let fact : Fact = record { id = c.args.id; tracks = c.in-Some-found.tracks; size = c.size_of-size.result } in
    let found = found-some (λ (tracks : TrackSet). Finds facts (λ formulas t. is_free t (formula_of_node formulas c.in-Some.node)) tracks) c.in_ok-found.found
    c.in-Some-found.tracks c.in-Some-found.is c.in_ok-found.ensures in
    All-pushed (IsFact fs) facts c.push.new.self.items fact c.in_ok-push.ensures.items c.requires
    (AreFacts-push fs facts c.in-Some.node fact c.in-Some.ensures.value found c.requires)
