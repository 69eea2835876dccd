-- The walk over a triple that fits.
use Rattle.std.proofs.Common.{◌≡◌, ℕ, ◌<◌, ◌≤◌, cond, List, length, Option, Some, None, sym, ap, subst, arith, lt-ltb}
use Rattle.std.specs.Option.{option_map_or}
use Rattle.std.proofs.lemmas.List.Elements.{All-map}
use Rattle.gta_theory.proofs.ListsLemmas.{All-from_contains}
use Rattle.store_core.specs.declared.ids.VarId.{VarId}
use Rattle.store_core.specs.Tables.{TypeEntry, VarEntry}
use Rattle.store_exec.specs.declared.triple.Triple.{Triple}
use Rattle.store_exec.specs.declared.triple.Start.{Start}
use Rattle.store_exec.specs.Fits.{TripleFits}
use Rattle.tree_encode.specs.Tracks.{track_count, track_at, var_track}
use Rattle.tree_formula.specs.WellEncoded.{var_id, vars_in, track_or_first}
use Rattle.tree_store.proofs.ListsLemmas.{named-inside}
use Rattle.tree_store.proofs.TablesLemmas.{number_of_var}
use Rattle.graph_view.specs.declared.view.Sym.TheVariants.{At}
use Rattle.graph_view.specs.After.{IsSymBelow}
use Rattle.site_list.specs.States.{next_track}
use Rattle.site_list.specs.Cuts.{with_part}
use Rattle.site_list.specs.Triples.{at_start, started, walked}
use Rattle.triple_meaning.proofs.tracks.KeptLemmas.{IsKept}
use Rattle.triple_meaning.proofs.tracks.CodeKeptLemmas.{part-kept, code-kept}

module _ (types : List TypeEntry) (vars : List VarEntry) where
  -- each variable's own track
  own-below : (n : ℕ) → track_count types vars ≤ n → (v : VarId) → (k : ℕ) × (k < length vars) × (var_id k ≡ v) →
      IsSymBelow n (At (track_or_first (var_track types vars v)))
  own-below n few v (k, inside, name) =
      let there : var_track types vars (var_id k) ≡ Some (track_at (number_of_var types (var_id k))) =
      ap (λ b. cond b (Some (track_at (number_of_var types (var_id k)))) None) (lt-ltb k (length vars) inside) in
      subst (λ w. IsSymBelow n (At (track_or_first (var_track types vars w)))) name
      (subst (λ o. IsSymBelow n (At (track_or_first o))) (sym there) (omega (arith, inside, few)))

  begun-kept : IsKept types vars (at_start types vars)
  begun-kept = record {
    made = tt;
    guarded = tt;
    values = All-map (IsSymBelow (next_track types vars (at_start types vars))) (λ v. At (track_or_first (var_track types vars v))) (vars_in vars)
        (All-from_contains (λ v. IsSymBelow (next_track types vars (at_start types vars)) (At (track_or_first (var_track types vars v)))) (vars_in vars)
        (λ v listed.
        own-below (next_track types vars (at_start types vars)) (omega arith) v (named-inside var_id (length vars) v listed)));
    events = tt;
  }

  started-kept : (start : Start) → IsKept types vars (started types vars start)
  started-kept start = by start.returned
    where
      by : (o : Option (List VarId)) → IsKept types vars (option_map_or (λ roots. with_part types vars roots (at_start types vars)) o (at_start types vars))
      by None = begun-kept
      by (Some roots) = (part-kept types vars roots (at_start types vars) begun-kept).kept

  -- the walk keeps the made tracks defined one after the other
  pub walked-kept : (t : Triple) → TripleFits types vars t → IsKept types vars (walked types vars t)
  walked-kept t fits = (code-kept types vars t.cuts t.code fits.code (started types vars t.start) (started-kept t.start)).kept
