-- What is listed, with states replaced by their classes.
use Rattle.std.proofs.Common.{◌≡◌, Bool, List, length, sym, ◌∙◌, ap, subst, arith}
use Rattle.bdd_nodes.specs.declared.node_ref.NodeRef.{NodeRef}
use Rattle.bdd_list.specs.declared.listing.ListedNode.{ListedNode}
use Rattle.bdd_list.specs.Listing.{AreOrdered}
use Rattle.gta_room.specs.Progress.{Adds, IsStuck}
use Rattle.gta_room.proofs.ProgressLemmas.{Adds-none, Adds-also, IsStuck-also}
use Rattle.gta_refine.specs.Numbered.{StandFor}
use Rattle.gta_minimise.specs.Marked.{AreSidesMarked}
use Rattle.gta_minimise.specs.Renamed.{IsRenamed, IsUnderRenamed, AreMade}
use Rattle.gta_minimise.proofs.RenamedLemmas.{AreRenamed-made, under-read, inside-made}
use Rattle.gta_minimise.proofs.nodes.rename_listed.Goals as goal

pub returns-in_err-marks-clause-adds : goal.returns-in_err-marks-clause-adds
returns-in_err-marks-clause-adds c =
    Adds-none (IsUnderRenamed c.args.classes.now c.args.space.now.listing.nodes c.args.roots.now) c.args.shelf.now c.requires.shelf

pub make_nodes-requires-clause-ordered : goal.make_nodes-requires-clause-ordered
make_nodes-requires-clause-ordered c = subst (λ (ns : List ListedNode). AreOrdered ns) (sym c.as_slice-nodes.ensures) c.requires.ordered

pub make_nodes-requires-clause-marks : goal.make_nodes-requires-clause-marks
make_nodes-requires-clause-marks c = ap length c.deref.ensures.value ∙ c.in_ok-marks.ensures.many ∙ ap length (sym c.as_slice-nodes.ensures)

pub make_nodes-requires-clause-sides : goal.make_nodes-requires-clause-sides
make_nodes-requires-clause-sides c =
    subst (λ (ns : List ListedNode). AreSidesMarked ns c.deref.result.now) (sym c.as_slice-nodes.ensures)
    (subst (λ (xs : List Bool). AreSidesMarked c.args.space.now.listing.nodes xs) (sym c.deref.ensures.value) c.in_ok-marks.ensures.sides)

pub references-requires-clause-inside : goal.references-requires-clause-inside
references-requires-clause-inside c =
    let refs = c.deref-2.result.now in
    let many : length refs ≡ length c.in_ok-marks.marks.items =
    (let v = c.in_ok-refs.refs.ok.0 in let m = c.in_ok-refs.ensures.many in let e = ap length c.deref-2.ensures.value in
    let f = ap length c.deref.ensures.value in omega arith) in
    inside-made c.args.classes.now c.args.space.now.listing.nodes c.args.roots.now c.in_ok-marks.marks.items c.in_ok-marks.ensures refs many
    c.requires.inside

pub returns-in_err-refs-clause-adds : goal.returns-in_err-refs-clause-adds
returns-in_err-refs-clause-adds c =
    let classes = c.args.classes.now in
    let nodes = c.args.space.now.listing.nodes in
    let others = c.as_slice-nodes.result.now in
    let roots = c.args.roots.now in
    let marks = c.in_ok-marks.marks.items in
    let also = under-read classes nodes roots marks c.in_ok-marks.ensures others c.as_slice-nodes.ensures in
    let old = c.args.shelf.now in
    let new = c.make_nodes.new.shelf in
    let adds = subst (λ (xs : List Bool). Adds (IsRenamed classes others xs) old new) c.deref.ensures.value c.make_nodes.ensures.adds in
    Adds-also (IsRenamed classes others marks) (IsUnderRenamed classes nodes roots) also old new adds

pub returns-in_err-renamed-clause-adds : goal.returns-in_err-renamed-clause-adds
returns-in_err-renamed-clause-adds c =
    let classes = c.args.classes.now in
    let nodes = c.args.space.now.listing.nodes in
    let others = c.as_slice-nodes.result.now in
    let roots = c.args.roots.now in
    let marks = c.in_ok-marks.marks.items in
    let also = under-read classes nodes roots marks c.in_ok-marks.ensures others c.as_slice-nodes.ensures in
    let old = c.args.shelf.now in
    let new = c.make_nodes.new.shelf in
    let adds = subst (λ (xs : List Bool). Adds (IsRenamed classes others xs) old new) c.deref.ensures.value c.make_nodes.ensures.adds in
    Adds-also (IsRenamed classes others marks) (IsUnderRenamed classes nodes roots) also old new adds

pub returns-clause-adds : goal.returns-clause-adds
returns-clause-adds c =
    let classes = c.args.classes.now in
    let nodes = c.args.space.now.listing.nodes in
    let others = c.as_slice-nodes.result.now in
    let roots = c.args.roots.now in
    let marks = c.in_ok-marks.marks.items in
    let also = under-read classes nodes roots marks c.in_ok-marks.ensures others c.as_slice-nodes.ensures in
    let old = c.args.shelf.now in
    let new = c.make_nodes.new.shelf in
    let adds = subst (λ (xs : List Bool). Adds (IsRenamed classes others xs) old new) c.deref.ensures.value c.make_nodes.ensures.adds in
    Adds-also (IsRenamed classes others marks) (IsUnderRenamed classes nodes roots) also old new adds

pub returns-in_err-refs-clause-stuck : goal.returns-in_err-refs-clause-stuck
returns-in_err-refs-clause-stuck c = λ stopped.
    let classes = c.args.classes.now in
    let nodes = c.args.space.now.listing.nodes in
    let others = c.as_slice-nodes.result.now in
    let roots = c.args.roots.now in
    let marks = c.in_ok-marks.marks.items in
    let also = under-read classes nodes roots marks c.in_ok-marks.ensures others c.as_slice-nodes.ensures in
    let old = c.args.shelf.now in
    let new = c.make_nodes.new.shelf in
    let stuck = c.make_nodes.ensures.stuck
    (let why = rw stopped at c.from_residual-in_err-refs.ensures in c.in_err-refs.was ∙ (let is = why.1 in cc)) in
    IsStuck-also (IsRenamed classes others marks) (IsUnderRenamed classes nodes roots) also new
    (subst (λ (xs : List Bool). IsStuck (IsRenamed classes others xs) new) c.deref.ensures.value stuck)

pub returns-clause-renamed : goal.returns-clause-renamed
returns-clause-renamed c =
    let classes = c.args.classes.now in
    let nodes = c.args.space.now.listing.nodes in
    let roots = c.args.roots.now in
    let marks = c.in_ok-marks.marks.items in
    let new = c.make_nodes.new.shelf in
    let refs = c.in_ok-refs.refs.items in
    let references = c.in_ok-renamed.renamed in
    let made : AreMade new classes nodes marks refs = subst (λ (ns : List ListedNode). AreMade new classes ns marks refs) c.as_slice-nodes.ensures
    (subst (λ (xs : List Bool). AreMade new classes c.as_slice-nodes.result.now xs refs) c.deref.ensures.value c.in_ok-refs.ensures.made) in
    let many : length refs ≡ length marks =
    (let v = c.in_ok-refs.refs.ok.0 in let m = c.in_ok-refs.ensures.many in let f = ap length c.deref.ensures.value in omega arith) in
    let stand : StandFor classes refs roots references =
    subst (λ (rs : List NodeRef). StandFor classes rs roots references) c.deref-2.ensures.value c.in_ok-renamed.ensures in
    AreRenamed-made classes nodes roots marks c.in_ok-marks.ensures new refs references made many stand
