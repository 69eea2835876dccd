use Rattle.std.proofs.Common.{◌≡◌, ◌<◌, List, length, Option, Some, sym, ◌∙◌, ap, subst}
use Rattle.std.proofs.lemmas.List.{get_or_read}
use Rattle.bdd_nodes.specs.declared.roots.RootTable.{RootTable}
use Rattle.bdd_nodes.specs.declared.node_ref.NodeRef.{NodeRef}
use Rattle.bdd_nodes.specs.Roots.{Registered, table_at, number_at, number_of, roots_under}
use Rattle.bdd_nodes.proofs.RootsLemmas.{roots_under-at}
use Rattle.bdd_nodes.proofs.roots.RootSet.roots.Goals as goal

pub returns : goal.returns
returns c =
    let tables = c.self.inside.tables.items in
    let position = c.in_ok-position.position in
    let found : number_at tables position ≡ number_of c.args.id =
    subst (λ (ts : List RootTable). number_at ts position
    ≡ number_of c.args.id) c.deref.ensures.value c.in_ok-position.ensures.found in
    let within : position < length tables = subst (λ (ts : List RootTable). position < length ts) c.deref.ensures.value c.in_ok-position.ensures.within in
    let read : c.index.result.now ≡ table_at tables position = get_or_read tables _ _ within c.index.ensures _ in
    ap (λ (r : Registered). roots_under r.tables (number_of c.args.id)) (sym c.self.view_is)
    ∙ ap (roots_under tables) (sym found) ∙ roots_under-at tables position c.self.invariant.rise within
    ∙ ap (λ (t : RootTable). let o : Option (List NodeRef) = Some t.roots in o) (sym read)
    ∙ ap (λ (rs : List NodeRef). let o : Option (List NodeRef) = Some rs in o) (sym c.as_slice.ensures)
