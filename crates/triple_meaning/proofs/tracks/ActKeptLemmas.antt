-- Acts keep the made tracks defined one after the other.
use Rattle.std.proofs.Common.{ℕ, suc, ◌+◌, ◌<◌, List, [], ◌∷◌}
use Rattle.ws2s_forms.specs.Forms.{slot}
use Rattle.store_core.specs.declared.ids.VarId.{VarId}
use Rattle.store_core.specs.declared.ids.VariantId.{VariantId}
use Rattle.store_core.specs.declared.ids.FieldId.{FieldId}
use Rattle.store_core.specs.Tables.{TypeEntry, VarEntry}
use Rattle.store_exec.specs.declared.cause.Cause.TheVariants as cause
use Rattle.store_logic.specs.declared.act.Rhs.{Rhs}
use Rattle.store_logic.specs.declared.act.Rhs.TheVariants as rhs
use Rattle.store_logic.specs.declared.act.Act.{Act}
use Rattle.store_logic.specs.declared.act.Act.TheVariants as act
use Rattle.store_logic.specs.declared.assertion.Assertion.{Assertion}
use Rattle.store_logic.specs.Sorts.{Sort}
use Rattle.store_logic.specs.FitsCode.{RhsFits, ActFits}
use Rattle.tree_encode.specs.Tracks.{track_count}
use Rattle.graph_view.specs.declared.view.Sym.{Sym}
use Rattle.graph_view.specs.declared.view.Event.TheVariants as event
use Rattle.graph_view.specs.Sights.{var_slots}
use Rattle.graph_view.specs.Syms.{is_null}
use Rattle.graph_view.specs.Live.{is_dead}
use Rattle.graph_view.specs.After.{IsSymBelow}
use Rattle.site_list.specs.States.{State, Got, next_track, is_truth_of, check, guard, fails, sight, value_of, happens}
use Rattle.site_list.specs.Reading.{Told, lacks, check_cell, read}
use Rattle.site_list.specs.Conditions.{condition}
use Rattle.site_list.specs.Claims.{assertion}
use Rattle.site_list.specs.Acts.{made_truth, made_cell, evaluated, write_field, write_along, assigned, freed, asserted, act_rule}
use Rattle.triple_meaning.proofs.tracks.BelowLemmas.{sym-later}
use Rattle.triple_meaning.proofs.tracks.ValuesLemmas.{truth-defining, slot-defining}
use Rattle.triple_meaning.proofs.tracks.KeptLemmas.{value-below, IsKept, Keeps, KeepsGot, KeepsTold, keeps-itself, keeps-then, next-later, keeps-made}
use Rattle.triple_meaning.proofs.tracks.KeptLemmas.{kept-check, kept-check_cell, by-access, kept-event, kept-value}
use Rattle.triple_meaning.proofs.tracks.ReadKeptLemmas.{path-track, read-kept, operand-kept}
use Rattle.triple_meaning.proofs.tracks.ConditionKeptLemmas.{condition-kept}

module _ (types : List TypeEntry) (vars : List VarEntry) (line : ℕ) where
  -- ---- what is assigned

  truth-kept : (s : State) (told : Told) → KeepsTold types vars s told → KeepsGot types vars s (made_truth types vars told)
  truth-kept s told one =
      let n : ℕ = next_track types vars (told.1) in
      let made = keeps-made types vars (told.1) (is_truth_of (told.0)) one.keeps.kept (truth-defining n (told.0) one.steady) in
      record { keeps = keeps-then types vars s (told.1) ((made_truth types vars told).1) one.keeps made.keeps; value = made.value }

  cell-kept : (v : VariantId) (s : State) → IsKept types vars s → KeepsGot types vars s (made_cell types vars v s)
  cell-kept v s kept =
      let with_new : State = record (happens (event.New s.guard s.news v) s) { news = suc s.news } in
      let kept_event = kept-event types vars (event.New s.guard s.news v) s kept kept.guarded in
      let kept_new : IsKept types vars with_new =
      record { made = kept_event.made; guarded = kept_event.guarded; values = kept_event.values; events = kept_event.events } in
      let made = keeps-made types vars with_new (λ t next. slot next (var_slots vars + s.news) t) kept_new
      (slot-defining (next_track types vars s) (var_slots vars + s.news)) in
      record { keeps = record { kept = made.keeps.kept; longer = made.keeps.longer }; value = made.value }

  evaluated-kept : (x : Rhs) (sort : Sort) (s : State) → RhsFits types vars x sort → IsKept types vars s →
      KeepsGot types vars s (evaluated types vars line x s)
  evaluated-kept (rhs.Cell p) sort s fits kept = operand-kept types vars line (guard s) p sort s fits.1 kept
  evaluated-kept (rhs.New v) sort s fits kept = cell-kept v s kept
  evaluated-kept (rhs.Truth c) sort s fits kept =
      truth-kept s (condition types vars line c (guard s) s) (condition-kept types vars line c fits.0 (guard s) s kept)

  -- ---- places

  write-kept : (u : Sym) (f : FieldId) (s : State) (got : Got) → KeepsGot types vars s got → IsSymBelow (next_track types vars s) u →
      Keeps types vars s (write_field types vars line u f got)
  write-kept u f s got one under =
      let z : State = got.1 in
      let n : ℕ = next_track types vars z in
      let u_below = sym-later (next_track types vars s) n u (next-later types vars s z one.keeps.longer) under in
      let cell : State = check_cell types vars line (guard z) u z in
      let kept_cell = kept-check_cell types vars line (guard z) u z one.keeps.kept in
      let own : State = check line (guard z) cause.Variant (lacks types (sight vars z) f u) cell in
      let kept_own = kept-check types vars line (guard z) cause.Variant (lacks types (sight vars z) f u) cell kept_cell in
      by-access types vars (λ y. Keeps types vars s (happens (event.Write z.guard u f (got.0)) y)) line (guard z) f u z
      (record {
        kept = kept-event types vars (event.Write z.guard u f (got.0)) cell kept_cell (one.keeps.kept.guarded, u_below, one.value);
        longer =
            one.keeps.longer;
      })
      (record {
        kept = kept-event types vars (event.Write z.guard u f (got.0)) own kept_own (one.keeps.kept.guarded, u_below, one.value);
        longer =
            one.keeps.longer;
      })

  along-kept : (positive : 0 < track_count types vars) (fields : List FieldId) (f : FieldId) (x : Rhs) (sort : Sort) (got : Got) → RhsFits types vars x sort →
      IsKept types vars (got.1) → IsSymBelow (next_track types vars (got.1)) (got.0) →
      Keeps types vars (got.1) (write_along types vars line f fields x got)
  along-kept positive [] f x sort got fits kept under =
      write-kept (got.0) f (got.1) (evaluated types vars line x (got.1)) (evaluated-kept x sort (got.1) fits kept) under
  along-kept positive (g ∷ fields) f x sort got fits kept under =
      let next_got : Got = read types vars line (guard (got.1)) f got in
      let one = read-kept types vars line (guard (got.1)) positive f got kept under in
      keeps-then types vars (got.1) (next_got.1) (write_along types vars line f (g ∷ fields) x got) one.keeps
      (along-kept positive fields g x sort next_got fits one.keeps.kept one.value)

  assigned-kept : (positive : 0 < track_count types vars) (v : VarId) (fields : List FieldId) (x : Rhs) (sort : Sort) (s : State) → RhsFits types vars x sort →
      IsKept types vars s → Keeps types vars s (assigned types vars line v fields x s)
  assigned-kept positive v [] x sort s fits kept =
      let got : Got = evaluated types vars line x s in
      let one = evaluated-kept x sort s fits kept in
      record { kept = kept-value types vars v got one.keeps.kept one.value; longer = one.keeps.longer }
  assigned-kept positive v (f ∷ fields) x sort s fits kept =
      along-kept positive fields f x sort (value_of s.values v, s) fits kept (value-below (next_track types vars s) s.values v kept.values)

  -- ---- acts

  freed-kept : (u : Sym) (s : State) → IsKept types vars s → IsSymBelow (next_track types vars s) u → Keeps types vars s (freed types vars line u s)
  freed-kept u s kept under =
      let one = kept-check types vars line (guard s) cause.Null (λ next. is_null next u) s kept in
      let first : State = check line (guard s) cause.Null (λ next. is_null next u) s in
      let other = kept-check types vars line (guard s) cause.DoubleFree (λ next. is_dead types (sight vars s) next u) first one in
      record {
        kept = kept-event types vars (event.Free s.guard u) (check line (guard s) cause.DoubleFree (λ next. is_dead types (sight vars s) next u) first) other
            (kept.guarded, under);
        longer = (keeps-itself types vars s kept).longer;
      }

  asserted-kept : (a : Assertion) (s : State) → IsKept types vars s → Keeps types vars s (asserted types vars line a s)
  asserted-kept a s kept = record {
    kept = kept-check types vars line (guard s) cause.Assert (fails (assertion types (sight vars s) s.values a)) s kept;
    longer = (keeps-itself types vars s kept).longer;
  }

  pub act-kept : (a : Act) → ActFits types vars a → (s : State) → IsKept types vars s → Keeps types vars s (act_rule types vars line a s)
  act-kept (act.Assign p x) fits s kept =
      let (sort, path, right) = fits in
      assigned-kept (path-track types vars p sort path) p.var p.fields x sort s right kept
  act-kept (act.Free v) fits s kept = freed-kept (value_of s.values v) s kept (value-below (next_track types vars s) s.values v kept.values)
  act-kept (act.Assert a) fits s kept = asserted-kept a s kept
