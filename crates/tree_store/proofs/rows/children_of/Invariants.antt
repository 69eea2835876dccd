use Rattle.store_core.specs.Tables.{fields_of}
use Rattle.tree_encode.specs.declared.counting.Counted.TheVariants.{Children}
use Rattle.tree_encode.specs.Counting.{is_counted}
use Rattle.tree_store.specs.Rows.{AreNumbered, field_in}
use Rattle.tree_store.proofs.rows.children_of.Given as goal

abbrev pub invariant-loop-index : goal.invariant-loop-index
invariant-loop-index l = AreNumbered (is_counted Children) (field_in l.ty) (fields_of l.l.types l.ty) l.index l.fields
