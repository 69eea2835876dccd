use Rattle.std.proofs.Common.{◌≡◌, ◌⊎◌, List, Contains, subst}
use Rattle.std.specs.Prelude.{◌↔◌}
use Rattle.cert_tables.specs.declared.class_triples.ClassTriple.{ClassTriple}
use Rattle.cert_tables.proofs.InsertedLemmas.{insert-either}
use Rattle.cert_tables.proofs.TriplesLemmas.{same_triple, same_triple-true}
use Rattle.cert_tables.proofs.class_triples.TripleSet.insert.Goals as goal

pub returns : goal.returns
returns c =
    let new = c.insert_full.new.self.keys in
    subst (λ (old : List ClassTriple). (x : ClassTriple) → Contains new x ↔ (Contains old x ⊎ (c.args.triple ≡ x))) c.self.view_is
    (insert-either same_triple same_triple-true c.self.inside.triples.keys new c.args.triple c.in_ok-insert_full.ensures.keys)
