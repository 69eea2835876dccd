-- What is read from the shelf at the start of a product.
use Rattle.std.specs.Prelude.{◌≡◌}
use Rattle.bdd_nodes.specs.Shelf.{Contents, IsShelf, limit_of}
use Rattle.gta_core.specs.Auto.{AutoView, table_of}
use Rattle.gta_product.specs.declared.tables.Tables.{Tables}

-- they are the roots that the tables of both have in the shelf, and its limit
pub record AreTables (shelf : Contents) (a b : AutoView) (tables : Tables) : Type 0 where
  pub is_shelf : IsShelf shelf
  pub limit : tables.limit ≡ limit_of shelf
  pub first : tables.first ≡ table_of shelf a
  pub second : tables.second ≡ table_of shelf b
