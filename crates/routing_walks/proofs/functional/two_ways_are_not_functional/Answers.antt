use Rattle.routing_walks.specs.Twins.{twin_types, twin_vars, twin_store, twin_field}
use Rattle.routing_walks.proofs.OneEachLemmas.{functional_refuted}
use Rattle.routing_walks.proofs.TwinLemmas.{twins_refute}
use Rattle.routing_walks.proofs.functional.two_ways_are_not_functional.Goals as goal

pub returns : goal.returns
returns c = record {
  refuted = twins_refute;
  so = λ functional. functional_refuted twin_types twin_vars twin_field functional twin_store twins_refute;
}
