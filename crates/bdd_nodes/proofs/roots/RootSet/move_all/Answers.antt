use Rattle.std.proofs.Common.{◌≡◌, List, length, sym, ◌∙◌, ap, subst, refl}
use Rattle.std.specs.Prelude.{map}
use Rattle.std.proofs.lemmas.List.{length-map}
use Rattle.bdd_nodes.specs.declared.roots.RootTable.{RootTable}
use Rattle.bdd_nodes.specs.Roots.{AreNumbered}
use Rattle.bdd_nodes.specs.Collecting.{linked_table}
use Rattle.bdd_nodes.proofs.ElementsLemmas.{take-written}
use Rattle.bdd_nodes.proofs.RootsLemmas.{AreNumbered-map}
use Rattle.bdd_nodes.proofs.roots.RootSet.move_all.Goals as goal

pub invariant_of-self : goal.invariant_of-self
invariant_of-self c =
    let tables = c.self.inside.tables.items in
    let moved : c.move_tables.new.tables ≡ map (linked_table c.args.links.now) tables =
    c.move_tables.ensures ∙ ap (map (linked_table c.args.links.now)) c.deref_mut.ensures.value in
    subst (λ (ts : List RootTable). AreNumbered ts c.self.inside.added)
    (sym (take-written c.move_tables.new.tables tables c.self.inside.tables.len c.self.inside.tables.ok.0 (ap length moved ∙ simp length-map) ∙ moved))
    (AreNumbered-map (linked_table c.args.links.now) tables c.self.inside.added (λ t. refl) c.self.invariant)
