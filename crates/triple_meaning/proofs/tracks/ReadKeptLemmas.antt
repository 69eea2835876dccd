-- Reading keeps the made tracks defined one after the other, and its values are there.
use Rattle.std.proofs.Common.{◌≡◌, ℕ, suc, ◌<◌, ◌≤◌, List, [], ◌∷◌, length, refl, ap, arith}
use Rattle.std.specs.Option.{option_and_then}
use Rattle.ws2s_core.specs.declared.formula.Formula.TheVariants.{And}
use Rattle.store_core.specs.declared.ids.FieldId.{FieldId}
use Rattle.store_core.specs.declared.ids.VariantId.{VariantId}
use Rattle.store_core.specs.Tables.{TypeEntry, VarEntry, var_at}
use Rattle.store_exec.specs.declared.cause.Cause.TheVariants as cause
use Rattle.store_logic.specs.declared.path.Path.{Path}
use Rattle.store_logic.specs.declared.path.Operand.{Operand}
use Rattle.store_logic.specs.declared.path.Operand.TheVariants as operand
use Rattle.store_logic.specs.Sorts.{Sort, sort_along}
use Rattle.store_logic.specs.FitsCode.{code_sort, PathFits, OperandFits}
use Rattle.tree_encode.specs.Tracks.{track_count}
use Rattle.tree_encode.proofs.TracksLemmas.{and_then-some}
use Rattle.graph_view.specs.declared.view.Sym.{Sym}
use Rattle.graph_view.specs.Sights.{var_slots}
use Rattle.graph_view.specs.Syms.{is_in}
use Rattle.graph_view.specs.Live.{lives}
use Rattle.graph_view.specs.Fields.{is_true}
use Rattle.graph_view.specs.After.{IsSymBelow}
use Rattle.site_list.specs.States.{Text, State, Got, next_track, make, check, sight, value_of}
use Rattle.site_list.specs.Reading.{lacks, check_cell, check_access, is_read, read, read_along, path_value, operand_value, is_true_of, truth_along, truth_at}
use Rattle.site_list.specs.Reading.{path_truth, is_of_variant}
use Rattle.triple_meaning.proofs.tracks.ClearLemmas.{above, later, clear-And, clear-ex1}
use Rattle.triple_meaning.proofs.tracks.SightClearLemmas.{clear-is_in, clear-truth, IsSightBelow, clear-lives, clear-is_true}
use Rattle.triple_meaning.proofs.tracks.BelowLemmas.{sym-later, events-later, var-track}
use Rattle.triple_meaning.proofs.tracks.ValuesLemmas.{IsSteady}
use Rattle.triple_meaning.proofs.tracks.ReadValueLemmas.{read-defining}
use Rattle.triple_meaning.proofs.tracks.KeptLemmas.{value-below, IsKept, KeepsGot, KeepsTold, keeps-itself, keeps-then, keeps-made, kept-check, kept-check_cell}
use Rattle.triple_meaning.proofs.tracks.KeptLemmas.{by-access}

-- a path that fits begins at a variable that is there, which has a track
pub path-track : (types : List TypeEntry) (vars : List VarEntry) (p : Path) (sort : Sort) → PathFits types vars p sort → 0 < track_count types vars
path-track types vars p sort fits =
    let (start, is, along) = and_then-some (λ s. sort_along types s p.fields)
    (option_and_then (λ (entry : VarEntry). code_sort entry.kind) (var_at vars p.var)) sort fits in
    let (entry, there, kind) = and_then-some (λ (entry : VarEntry). code_sort entry.kind) (var_at vars p.var) start is in
    var-track types vars p.var entry there

module _ (types : List TypeEntry) (vars : List VarEntry) (line : ℕ) (reached : Text) where
  module _ (positive : 0 < track_count types vars) where
    few : (s : State) → track_count types vars ≤ next_track types vars s
    few s = omega arith

    some : (s : State) → 0 < next_track types vars s
    some s = omega (arith, positive)

    -- ---- a field

    pub read-kept : (f : FieldId) (got : Got) → IsKept types vars (got.1) → IsSymBelow (next_track types vars (got.1)) (got.0) →
        KeepsGot types vars (got.1) (read types vars line reached f got)
    read-kept f got kept under =
        let s : State = got.1 in
        let text : ℕ → Text = is_read types (sight vars s) f (got.0) in
        let one = read-defining types vars (var_slots vars) (next_track types vars s) (few s) (some s) f (got.0) s.events under kept.events in
        let cell : State = check_cell types vars line reached (got.0) s in
        let own : State = check line reached cause.Variant (lacks types (sight vars s) f (got.0)) cell in
        let kept_cell = kept-check_cell types vars line reached (got.0) s kept in
        let kept_own = kept-check types vars line reached cause.Variant (lacks types (sight vars s) f (got.0)) cell kept_cell in
        by-access types vars (λ z. KeepsGot types vars s (make types vars text z)) line reached f (got.0) s
        (from cell (keeps-made types vars cell text kept_cell one) refl) (from own (keeps-made types vars own text kept_own one) refl)
      where
        from : (z : State) → KeepsGot types vars z (make types vars (is_read types (sight vars (got.1)) f (got.0)) z) → z.defined ≡ (got.1).defined →
            KeepsGot types vars (got.1) (make types vars (is_read types (sight vars (got.1)) f (got.0)) z)
        from z h same = record {
          keeps = record {
            kept = h.keeps.kept;
            longer = (let long = ap (λ texts. length texts) same in omega (arith, long, h.keeps.longer));
          };
          value = h.value;
        }

    along-kept : (fields : List FieldId) (got : Got) → IsKept types vars (got.1) → IsSymBelow (next_track types vars (got.1)) (got.0) →
        KeepsGot types vars (got.1) (read_along types vars line reached fields got)
    along-kept [] got kept under = record { keeps = keeps-itself types vars (got.1) kept; value = under }
    along-kept (f ∷ fields) got kept under =
        let one = read-kept f got kept under in
        let rest = along-kept fields (read types vars line reached f got) one.keeps.kept one.value in
        record {
          keeps = keeps-then types vars (got.1) ((read types vars line reached f got).1) ((read_along types vars line reached (f ∷ fields) got).1)
              one.keeps rest.keeps;
          value = rest.value;
        }

    -- what stands at a path to a cell
    pub path-kept : (p : Path) (s : State) → IsKept types vars s → KeepsGot types vars s (path_value types vars line reached p s)
    path-kept p s kept = along-kept p.fields (value_of s.values p.var, s) kept (value-below (next_track types vars s) s.values p.var kept.values)

    -- ---- truth values

    truth-steady : (f : FieldId) (u : Sym) (s : State) → IsKept types vars s → IsSymBelow (next_track types vars s) u →
        IsSteady (next_track types vars s) (is_true_of types (sight vars s) f u)
    truth-steady f u s kept under next t from less =
        let n : ℕ = next_track types vars s in
        let room : track_count types vars ≤ t = (let at = few s in omega (arith, at, from)) in
        let there : 0 < t = (let at = some s in omega (arith, at, from)) in
        let sight_below : IsSightBelow t (sight vars s) = record { region = refl; events = events-later n t s.events from kept.events } in
        clear-ex1 t next (And (is_in (suc next) next u) (is_true types (sight vars s) (suc next) f next)) less
        (clear-And t (is_in (suc next) next u) (is_true types (sight vars s) (suc next) f next)
        (clear-is_in t (suc next) next u (later t next less) (above t next less) (sym-later n t u from under))
        (clear-is_true types vars t room there (sight vars s) (suc next) f next sight_below (later t next less) (above t next less)))

    access-told : (f : FieldId) (got : Got) → IsKept types vars (got.1) → IsSymBelow (next_track types vars (got.1)) (got.0) →
        KeepsTold types vars (got.1) (is_true_of types (sight vars (got.1)) f (got.0), check_access types vars line reached f (got.0) (got.1))
    access-told f got kept under =
        let s : State = got.1 in
        let cell : State = check_cell types vars line reached (got.0) s in
        let kept_cell = kept-check_cell types vars line reached (got.0) s kept in
        let said = truth-steady f (got.0) s kept under in
        by-access types vars (λ z. KeepsTold types vars s (is_true_of types (sight vars s) f (got.0), z)) line reached f (got.0) s
        (record { keeps = record { kept = kept_cell; longer = (keeps-itself types vars s kept).longer }; steady = said })
        (record {
          keeps = record {
            kept = kept-check types vars line reached cause.Variant (lacks types (sight vars s) f (got.0)) cell kept_cell;
            longer = (keeps-itself types vars s kept).longer;
          };
          steady = said;
        })

    truth_along-kept : (fields : List FieldId) (f : FieldId) (got : Got) → IsKept types vars (got.1) → IsSymBelow (next_track types vars (got.1)) (got.0) →
        KeepsTold types vars (got.1) (truth_along types vars line reached f fields got)
    truth_along-kept [] f got kept under = access-told f got kept under
    truth_along-kept (g ∷ fields) f got kept under =
        let one = read-kept f got kept under in
        let rest = truth_along-kept fields g (read types vars line reached f got) one.keeps.kept one.value in
        record {
          keeps = keeps-then types vars (got.1) ((read types vars line reached f got).1) ((truth_along types vars line reached f (g ∷ fields) got).1)
              one.keeps rest.keeps;
          steady = rest.steady;
        }

    truth_at-kept : (fields : List FieldId) (got : Got) → IsKept types vars (got.1) → IsSymBelow (next_track types vars (got.1)) (got.0) →
        KeepsTold types vars (got.1) (truth_at types vars line reached fields got)
    truth_at-kept [] got kept under = record {
      keeps = keeps-itself types vars (got.1) kept;
      steady = λ next t from less. clear-truth t next (got.0) less (sym-later (next_track types vars (got.1)) t (got.0) from under);
    }
    truth_at-kept (f ∷ fields) got kept under = truth_along-kept fields f got kept under

    -- what stands at a path to a truth value
    pub path_truth-kept : (p : Path) (s : State) → IsKept types vars s → KeepsTold types vars s (path_truth types vars line reached p s)
    path_truth-kept p s kept = truth_at-kept p.fields (value_of s.values p.var, s) kept (value-below (next_track types vars s) s.values p.var kept.values)

    -- the value is a cell of the variant
    pub variant-steady : (v : VariantId) (u : Sym) (s : State) → IsKept types vars s → IsSymBelow (next_track types vars s) u →
        IsSteady (next_track types vars s) (is_of_variant types (sight vars s) v u)
    variant-steady v u s kept under next t from less =
        let n : ℕ = next_track types vars s in
        let room : track_count types vars ≤ t = (let at = few s in omega (arith, at, from)) in
        let there : 0 < t = (let at = some s in omega (arith, at, from)) in
        let sight_below : IsSightBelow t (sight vars s) = record { region = refl; events = events-later n t s.events from kept.events } in
        clear-ex1 t next (And (is_in (suc next) next u) (lives types (sight vars s) (suc next) v next)) less
        (clear-And t (is_in (suc next) next u) (lives types (sight vars s) (suc next) v next)
        (clear-is_in t (suc next) next u (later t next less) (above t next less) (sym-later n t u from under))
        (clear-lives types vars t room there (sight vars s) (suc next) v next sight_below (later t next less) (above t next less)))

  -- ---- operands

  pub operand-kept : (p : Operand) (sort : Sort) (s : State) → OperandFits types vars p sort → IsKept types vars s →
      KeepsGot types vars s (operand_value types vars line reached p s)
  operand-kept operand.Null sort s fits kept = record { keeps = keeps-itself types vars s kept; value = tt }
  operand-kept (operand.Path p) sort s fits kept = path-kept (path-track types vars p sort fits) p s kept
