use Rattle.std.proofs.Common.{sym, ◌∙◌, ap, subst}
use Rattle.std.specs.Prelude.{All}
use Rattle.bdd_nodes.specs.Roots.{number_of}
use Rattle.bdd_nodes.specs.Shelf.{Contents, IsShelf, IsValid, roots_of}
use Rattle.bdd_nodes.proofs.TablesLemmas.{All-registered, IfSome-found}
use Rattle.bdd_nodes.proofs.shelf.Shelf.roots.Goals as goal

pub returns-clause-valid : goal.returns-clause-valid
returns-clause-valid c =
    IfSome-found (λ roots. roots.now) c.roots.result _ (All (IsValid c.args.self.now)) c.roots.ensures (λ roots there.
    All-registered c.args.self.now (subst IsShelf c.self.view_is c.self.invariant.shelf) (number_of c.args.id) roots
    (sym (ap (λ (s : Contents). roots_of s (number_of c.args.id)) c.self.view_is) ∙ there))
