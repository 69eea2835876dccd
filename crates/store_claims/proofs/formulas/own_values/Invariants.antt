use Rattle.std.proofs.Common.{◌≡◌, map}
use Rattle.tree_encode.specs.Tracks.{var_track}
use Rattle.tree_formula.specs.WellEncoded.{named, var_id, track_or_first}
use Rattle.graph_view.specs.declared.view.Sym.TheVariants.{At}
use Rattle.store_claims.proofs.formulas.own_values.Given as goal

abbrev pub invariant-loop-index : goal.invariant-loop-index
invariant-loop-index l = l.values ≡ map (λ v. At (track_or_first (var_track l.l.types l.l.vars v))) (named var_id l.index)
