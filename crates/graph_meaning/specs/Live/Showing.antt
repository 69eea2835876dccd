-- What the laws ask: a view, the tree of the first store, and what the view shows of the store after its events.
use Rattle.std.specs.Prelude.{ℕ, reverse}
use Rattle.gta_theory.specs.Assignments.{Assignment}
use Rattle.store_core.specs.Stores.{StoreMap, Fits}
use Rattle.routing_walks.specs.WellFormed.{IsBackbone}
use Rattle.tree_encode.specs.Layouts.{LaidOut}
use Rattle.tree_store.specs.Encoding.{IsAssignmentOf}
use Rattle.tree_store.specs.Premises.{OwnersAreThere}
use Rattle.graph_view.specs.declared.view.View.{View}
use Rattle.graph_view.specs.After.{Standing, IsSeen, IsRead}
use Rattle.graph_view.specs.Fitting.{AreFree}

-- the assignment is that of a backbone on the layout's tracks, and gives the view's tracks, all below `count`, values for which
-- the view sees the store s, whose cells stand there; of it t is read
pub record Shows (l : LaidOut) (view : View) (a : Assignment) (first s t : StoreMap) (at : Standing) (count : ℕ) : Type 0 where
  pub owners : OwnersAreThere l.types
  pub fits : Fits l.types l.vars first
  pub backbone : IsBackbone l.types l.vars first
  pub assignment : IsAssignmentOf l.types l.vars first a
  pub seen : IsSeen l.types l.vars view.vars (reverse view.events) a first s at
  pub read : IsRead l.types a at view.region s t
  pub free : AreFree l view count
