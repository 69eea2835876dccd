use Rattle.std.proofs.Common.{refl}
use Rattle.hoare_triples.specs.Following.{flow_of}
use Rattle.hoare_triples.proofs.PointLemmas.{triple-made}
use Rattle.hoare_triples.proofs.points.triple_of.Goals as goal

pub returns : goal.returns
returns c = triple-made c.args.caller.now.number c.args.place.line c.args.place c.args.start c.args.start (flow_of c.args.caller.now c.args.rest)
    c.in_ok-code.code c.into_cuts.result c.new-reached.result c.code_of.new.reached c.new-reached.ensures.points c.new-reached.ensures.cuts
    c.in_ok-code.ensures.reached c.in_ok-code.ensures.code c.into_cuts.ensures refl refl
