use Rattle.std.proofs.Common.{◌≢◌, ℕ, List, Option, sym, ap, ◌∙◌, arith}
use Rattle.std.specs.Prelude.{is_some}
use Rattle.std.proofs.lemmas.Bool.{false≢true}
use Rattle.bdd_nodes.specs.declared.node_ref.NodeRef.{NodeRef}
use Rattle.bdd_nodes.specs.Shelf.{roots_of}
use Rattle.bdd_nodes.proofs.UnderLemmas.{roots_of-unused}
use Rattle.gta_core.proofs.AutoLemmas.{IsAuto-kept}
use Rattle.gta_gallery.proofs.TablesLemmas.{KeepsTable-collected}
use Rattle.gta_gallery.proofs.steps.moved.Goals as goal

pub returns-clause-auto : goal.returns-clause-auto
returns-clause-auto c g auto =
    let old = c.args.shelf.now in
    let a = c.args.a in
    let copy = c.in_ok-copy.copy in
    let first = c.copy.new.shelf in
    let collected = c.collect.new.self in
    let adds = (c.in_ok-copy.ensures.table).adds in
    let other : copy.table ≢ a.table = λ same.
    (let none = roots_of-unused old c.requires.shelf copy.table (let n = adds.number in omega arith) in
    false≢true (sym (ap (λ (o : Option (List NodeRef)). is_some o) none) ∙ ap (λ (n : ℕ). is_some (roots_of old n)) same ∙ c.requires.table)) in
    let keeps = KeepsTable-collected first c.release.new.shelf collected copy.table a.table c.release.ensures.dropped other c.collect.ensures.roots in
    IsAuto-kept first collected copy keeps g (c.in_ok-copy.ensures.auto g auto)
