-- The part of a space is put together.
use Rattle.std.proofs.Common.{◌≡◌, ◌-◌, ℕ, List, Option, Some, length, length-append, refl, sym, ◌∙◌, ap, arith}
use Rattle.std.specs.Prelude.{unwrap_or}
use Rattle.std.specs.List.{range_with_len}
use Rattle.bdd_nodes.specs.declared.node_ref.NodeRef.{NodeRef}
use Rattle.gta_core.proofs.PlacingLemmas.{unwrap-inside}
use Rattle.gta_product.specs.Filling.{row_by_row}
use Rattle.gta_product.proofs.pairing.part_of.Goals as goal

pub returns-clause-part : goal.returns-clause-part
returns-clause-part c =
    let child = c.unwrap_or-children.ensures ∙ ap (λ (o : Option (ℕ × ℕ)). unwrap_or o (0, 0)) c.children.ensures.value in
    let roots = row_by_row c.args.growth.now.cells.items in
    let added = ap (λ (rs : List NodeRef). length rs) c.in_ok-add_roots.ensures in
    let long = length-append c.args.roots.now roots in
    let many : c.len-2.result - c.len-first.result ≡ length roots = omega (arith, added, long, c.len-2.ensures, c.len-first.ensures) in
    record {
      children = unwrap-inside c.args.g.now c.args.space (0, 0) c.requires.inside
          ∙ ap (λ (p : ℕ × ℕ). let o : Option (ℕ × ℕ) = Some p in o) (sym child);
      states = c.len-3.ensures.value;
      initial = refl;
      first = c.len-first.ensures;
      rows = c.take-rows.ensures;
      columns = c.take-columns.ensures;
      width = c.len-4.ensures;
      cells = c.in_ok-cells.ensures ∙ ap (range_with_len 0) many;
    }
