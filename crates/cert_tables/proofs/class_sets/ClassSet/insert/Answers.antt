use Rattle.std.proofs.Common.{◌≡◌, ◌⊎◌, List, map, Contains, subst}
use Rattle.std.specs.Prelude.{◌↔◌}
use Rattle.cert_tables.specs.Sets.{ClassKey, key_of}
use Rattle.cert_tables.proofs.ClassesLemmas.{same_classes, same_classes-true}
use Rattle.cert_tables.proofs.InsertedLemmas.{insert-viewed}
use Rattle.cert_tables.proofs.class_sets.ClassSet.insert.Goals as goal

pub returns : goal.returns
returns c =
    let new = map key_of c.insert_full.new.self.keys in
    subst (λ (old : List ClassKey). (x : ClassKey) → Contains new x ↔ (Contains old x ⊎ (key_of c.args.classes ≡ x))) c.self.view_is
    (insert-viewed same_classes key_of same_classes-true c.self.inside.classes.keys c.insert_full.new.self.keys c.args.classes
    c.in_ok-insert_full.ensures.keys)
