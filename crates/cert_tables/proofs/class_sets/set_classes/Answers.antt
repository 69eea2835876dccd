use Rattle.std.proofs.Common.{List, ℕ, map, Contains, subst}
use Rattle.std.specs.Prelude.{◌↔◌}
use Rattle.cert_tables.specs.Automata.{class_in}
use Rattle.cert_tables.proofs.class_sets.set_classes.Goals as goal

pub returns : goal.returns
returns c = record {
  state = c.class.ensures;
  members = λ q. subst (λ (members : List ℕ). Contains c.in_ok-classes_of.field-0.items q
      ↔ Contains (map (class_in c.args.a.now c.args.is_right c.args.space) members) q) c.as_slice.ensures (c.in_ok-classes_of.ensures q);
}
