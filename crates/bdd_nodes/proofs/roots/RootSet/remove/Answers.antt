use Rattle.std.proofs.Common.{◌≡◌, ◌<◌, List, length, remove, sym, ◌∙◌, ap, subst}
use Rattle.bdd_nodes.specs.declared.roots.RootTable.{RootTable}
use Rattle.bdd_nodes.specs.Roots.{Registered, number_at, number_of, roots_under}
use Rattle.bdd_nodes.proofs.RootsLemmas.{roots_under-remove_same, roots_under-remove_other}
use Rattle.bdd_nodes.proofs.roots.RootSet.remove.Goals as goal
use Rattle.bdd_nodes.proofs.roots.RootSet.remove.Goals.{After-remove}

found : (c : After-remove) → number_at c.self.inside.tables.items c.in-Some.position ≡ number_of c.args.id
found c = subst (λ (ts : List RootTable). number_at ts c.in-Some.position ≡ number_of c.args.id) c.deref.ensures.value c.in-Some.ensures.found

within : (c : After-remove) → c.in-Some.position < length c.self.inside.tables.items
within c = subst (λ (ts : List RootTable). c.in-Some.position < length ts) c.deref.ensures.value c.in-Some.ensures.within

pub returns-in-Some-clause-gone : goal.returns-in-Some-clause-gone
returns-in-Some-clause-gone c =
    let d = (goal.at.returns-in-Some-clause-gone c).After-remove in
    ap (λ (ts : List RootTable). roots_under ts (number_of c.args.id)) c.remove.ensures.items
    ∙ ap (roots_under (remove c.self.inside.tables.items c.in-Some.position)) (sym (found d))
    ∙ roots_under-remove_same c.self.inside.tables.items c.in-Some.position c.self.invariant.rise (within d)

pub returns-in-Some-clause-others : goal.returns-in-Some-clause-others
returns-in-Some-clause-others c = λ number other.
    let d = (goal.at.returns-in-Some-clause-others c).After-remove in
    ap (λ (ts : List RootTable). roots_under ts number) c.remove.ensures.items
    ∙ roots_under-remove_other c.self.inside.tables.items c.in-Some.position number (within d) (λ e. other (sym e ∙ found d))
    ∙ ap (λ (r : Registered). roots_under r.tables number) c.self.view_is
