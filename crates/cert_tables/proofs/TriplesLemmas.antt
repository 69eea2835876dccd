-- Triples of classes that a test calls equal are equal.
use Rattle.std.proofs.Common.{◌≡◌, Bool, true, eqb-true}
use Rattle.std.specs.Prelude.{◌&&◌, nat_eq}
use Rattle.cert_tables.specs.declared.class_triples.ClassTriple.{ClassTriple}
use Rattle.cert_tables.specs.contracts.class_triples.ClassTriplePartialEq.TheImpl as triple_eq
use Rattle.cert_tables.proofs.TestsLemmas.{and-left, and-right}

abbrev pub same_triple : ClassTriple → ClassTriple → Bool
same_triple = (triple_eq.ghosts).eq

triples-same : (a b : ClassTriple) → a.first ≡ b.first → a.second ≡ b.second → a.state ≡ b.state → a ≡ b
triples-same a b first second state = λ i. record { first = first i; second = second i; state = state i }

pub same_triple-true : (a b : ClassTriple) → same_triple a b ≡ true → a ≡ b
same_triple-true a b e =
    let rest = nat_eq a.second b.second && nat_eq a.state b.state in
    let later = and-right (nat_eq a.first b.first) rest e in
    triples-same a b
    (eqb-true a.first b.first (and-left (nat_eq a.first b.first) rest e))
    (eqb-true a.second b.second (and-left (nat_eq a.second b.second) (nat_eq a.state b.state) later))
    (eqb-true a.state b.state (and-right (nat_eq a.second b.second) (nat_eq a.state b.state) later))
