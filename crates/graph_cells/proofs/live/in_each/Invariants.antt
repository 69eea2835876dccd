use Rattle.std.proofs.Common.{◌≡◌, map}
use Rattle.store_core.specs.declared.ids.TypeId.{TypeId}
use Rattle.tree_formula.specs.WellEncoded.{named, type_id}
use Rattle.graph_view.specs.Live.{lives_in}
use Rattle.graph_view.specs.Sights.{sight_of}
use Rattle.graph_cells.proofs.live.in_each.Given as goal

abbrev pub invariant-loop-index : goal.invariant-loop-index
invariant-loop-index l = l.parts.items ≡ map (λ (ty : TypeId). lives_in l.l.types (sight_of l.l.vars l.view) l.fn.next ty l.fn.a) (named type_id l.index)
