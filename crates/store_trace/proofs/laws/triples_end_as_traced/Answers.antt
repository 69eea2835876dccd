use Rattle.store_trace.proofs.Triples.{fails-so, ends-so}
use Rattle.store_trace.proofs.laws.triples_end_as_traced.Goals as goal

pub returns : goal.returns
returns c = record {
  fails = λ types vars triple s t shown fault h. fails-so types vars triple s t shown fault h;
  ends = λ types vars triple s t shown line h. ends-so types vars triple s t shown line h;
}
