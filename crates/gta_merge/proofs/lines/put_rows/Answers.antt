-- One row more.
use Rattle.std.proofs.Common.{◌≡◌, ℕ, ◌<◌, List, ◌++◌, length, sym, ◌∙◌, ap, subst, arith}
use Rattle.std.specs.Prelude.{All, slice_index}
use Rattle.std.proofs.lemmas.List.Elements.{All-append}
use Rattle.std.proofs.lemmas.Option.{slice_get-get_or}
use Rattle.bdd_nodes.specs.declared.node_ref.NodeRef.{NodeRef}
use Rattle.bdd_nodes.specs.Shelf.{IsValid}
use Rattle.gta_core.specs.Auto.{root_at}
use Rattle.gta_merge.proofs.RowsLemmas.{RowsBelow, RowsBelow-none, RowsBelow-more, PutsRows-all}
use Rattle.gta_merge.proofs.lines.put_rows.Goals as goal

pub loop-left-init : goal.loop-left-init
loop-left-init c = record {
  rows = RowsBelow-none (root_at c.args.shelf.now c.args.a.now c.args.space) c.args.lefts.now c.args.rights.now c.args.roots.now;
  valid = c.requires.valid;
}

pub line_of-requires : goal.line_of-requires
line_of-requires c = c.requires.known c.loop-left.left-index 0 (let t = c.loop-left-test.true in let e = c.loop-left.auto.left-index-end in omega arith)

pub loop-left-preserved : goal.loop-left-preserved
loop-left-preserved c =
    let lefts = c.args.lefts.now in
    let i = c.loop-left.left-index in
    let root = root_at c.args.shelf.now c.args.a.now c.args.space in
    let inside : i < length lefts = (let t = c.loop-left-test.true in let e = c.loop-left.auto.left-index-end in omega arith) in
    let new = c.in_ok-append.ensures.ok ∙ ap (λ (rs : List NodeRef). c.loop-left.roots ++ rs) c.from_vec.ensures in
    record {
      rows = RowsBelow-more root lefts c.args.rights.now c.args.roots.now i (slice_index lefts i) c.loop-left.roots c.in_ok-row.row.items
          c.append.new.self c.loop-left.invariant.rows (slice_get-get_or lefts i 0 inside) c.in_ok-row.ensures.line new;
      valid = subst (All (IsValid c.args.shelf.now)) (sym new)
          (All-append (IsValid c.args.shelf.now) c.loop-left.roots c.in_ok-row.row.items c.loop-left.invariant.valid c.in_ok-row.ensures.valid);
    }

pub returns-clause-puts : goal.returns-clause-puts
returns-clause-puts c =
    let lefts = c.args.lefts.now in
    let root = root_at c.args.shelf.now c.args.a.now c.args.space in
    let end : c.loop-left.left-index ≡ length lefts = (let t = c.loop-left-test.false in let e = c.loop-left.auto.left-index-end in omega arith) in
    PutsRows-all root lefts c.args.rights.now c.args.roots.now c.loop-left.roots
    (subst (λ (n : ℕ). RowsBelow root lefts c.args.rights.now c.args.roots.now n c.loop-left.roots) end c.loop-left.invariant.rows)
