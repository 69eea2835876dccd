use Rattle.gta_product.proofs.growing.Growth.new.Goals as goal

pub returns : goal.returns
returns c = record {
  row_keys = c.in_ok-rows.ensures.keys;
  row_of = c.in_ok-rows.ensures.of;
  rows = c.in_ok-rows.ensures.ones;
  column_keys = c.in_ok-columns.ensures.keys;
  column_of = c.in_ok-columns.ensures.of;
  columns = c.in_ok-columns.ensures.ones;
  cells = c.in_ok-cells.ensures.items;
}
