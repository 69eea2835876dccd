-- Classes of sets that a test calls equal are equal.
use Rattle.std.proofs.Common.{◌≡◌, Bool, true, eqb-true}
use Rattle.std.specs.Prelude.{nat_eq}
use Rattle.std.specs.Cmp.Lexicographic.{pointwise}
use Rattle.cert_tables.specs.declared.class_sets.SetClasses.{SetClasses}
use Rattle.cert_tables.specs.contracts.class_sets.SetClassesPartialEq.TheImpl as classes_eq
use Rattle.cert_tables.specs.Sets.{ClassKey, key_of}
use Rattle.cert_tables.proofs.SetKeysLemmas.{numbers-same}
use Rattle.cert_tables.proofs.TestsLemmas.{and-left, and-right}

abbrev pub same_classes : SetClasses → SetClasses → Bool
same_classes = (classes_eq.ghosts).eq

keys-same : (a b : ClassKey) → a.0 ≡ b.0 → a.1 ≡ b.1 → a ≡ b
keys-same a b state members = λ i. (state i, members i)

pub same_classes-true : (a b : SetClasses) → same_classes a b ≡ true → key_of a ≡ key_of b
same_classes-true a b e =
    keys-same (key_of a) (key_of b)
    (eqb-true a.state b.state (and-left (nat_eq a.state b.state) (pointwise nat_eq a.members.items b.members.items) e))
    (numbers-same a.members.items b.members.items
    (and-right (nat_eq a.state b.state) (pointwise nat_eq a.members.items b.members.items) e))
