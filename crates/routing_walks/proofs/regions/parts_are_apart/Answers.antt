use Rattle.routing_walks.proofs.RegionLemmas.{part_closed, part_apart, pointers_apart, rest_apart}
use Rattle.routing_walks.proofs.regions.parts_are_apart.Goals as goal

pub returns : goal.returns
returns c = record {
  closed = part_closed;
  fields = λ types vars s roots cells backbone part. part_apart types vars s roots cells part backbone.named_once;
  pointers = pointers_apart;
  rest = rest_apart;
}
