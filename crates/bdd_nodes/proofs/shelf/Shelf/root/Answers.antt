use Rattle.std.proofs.Common.{sym, ◌∙◌, ap, subst}
use Rattle.bdd_nodes.specs.Roots.{number_of}
use Rattle.bdd_nodes.specs.Shelf.{Contents, IsShelf, IsValid, root_of}
use Rattle.bdd_nodes.proofs.TablesLemmas.{IfSome-each}
use Rattle.bdd_nodes.proofs.shelf.Shelf.root.Goals as goal

pub returns-clause-valid : goal.returns-clause-valid
returns-clause-valid c = IfSome-each c.root.result (IsValid c.args.self.now) (λ r there.
    (subst IsShelf c.self.view_is c.self.invariant.shelf).roots (number_of c.args.id) c.args.index r
    (sym (ap (λ (s : Contents). root_of s (number_of c.args.id) c.args.index) c.self.view_is) ∙ sym c.root.ensures ∙ there))
