-- Arriving at a cut.
use Rattle.std.proofs.Common.{◌≡◌, ℕ, ◌+◌, List, length, map, Option, Some, None, sym, ap, ◌∙◌}
use Rattle.std.specs.Option.{option_map_or}
use Rattle.store_core.specs.declared.ids.VarId.{VarId}
use Rattle.store_core.specs.Tables.{TypeEntry, VarEntry}
use Rattle.store_exec.specs.declared.cause.Cause.{Cause}
use Rattle.store_exec.specs.declared.cause.Cause.TheVariants as cause
use Rattle.store_exec.specs.declared.triple.Cut.{Cut}
use Rattle.ws2s_core.specs.declared.track.Track.{Track}
use Rattle.ws2s_core.specs.declared.formula.Formula.{Formula}
use Rattle.ws2s_core.specs.declared.formula.Formula.TheVariants.{Not}
use Rattle.ws2s_forms.specs.Forms.{track}
use Rattle.tree_encode.specs.Tracks.{track_count}
use Rattle.graph_view.specs.declared.view.Sym.{Sym}
use Rattle.graph_view.specs.declared.view.CutCheck.{CutCheck}
use Rattle.graph_view.specs.declared.view.CutCheck.TheVariants as look
use Rattle.graph_view.specs.Cuts.{cut_formula}
use Rattle.graph_view.specs.Sights.{sight_of}
use Rattle.site_list.specs.States.{State, guard, check, sight, value_of, next_track}
use Rattle.site_list.specs.Parts.{is_part, escapes}
use Rattle.site_list.specs.Cuts.{check_store, check_stores, check_claims, with_part, arrived_at_call, arrived}
use Rattle.symbolic_steps.specs.declared.walker.Walker.{Walker}
use Rattle.symbolic_steps.specs.Shown.{shown, checked, defining}
use Rattle.pred_transform.specs.Holding.{claims_hold}
use Rattle.symbolic_steps.proofs.ShownLemmas.{step-checked, own-shown, defining-shown, sight-shown}

module _ (types : List TypeEntry) (vars : List VarEntry) (next wanted : ℕ) where
  pub part-made : (s : State) (w0 w1 : Walker) (roots : List VarId) (values : List Sym) (definition : Formula) (own : Track) → w0 ≡ shown next wanted s →
      own ≡ track (track_count types vars + length w0.defined) → values ≡ map (value_of w0.view.vars) roots →
      definition ≡ is_part types (sight_of vars w0.view) values own.0 w0.view.next → w1 ≡ defining definition w0 →
      (own ≡ track (next_track types vars s)) × (w1 ≡ shown next wanted (with_part types vars roots s))
  part-made s w0 w1 roots values definition own is owned valued defines made =
      let number : own ≡ track (next_track types vars s) = own-shown types vars next wanted s w0 own is owned in (
        number,
        made ∙ defining-shown next wanted s w0 (is_part types (sight vars s) (map (value_of s.values) roots) (next_track types vars s)) definition
            (defines
            ∙ ap (λ (us : List Sym). is_part types (sight_of vars w0.view) us own.0 w0.view.next) valued
            ∙ ap (λ (w : Walker). is_part types (sight_of vars w.view) (map (value_of w.view.vars) roots) own.0 w.view.next) is
            ∙ ap (λ seen. is_part types seen (map (value_of s.values) roots) own.0 next) (sight-shown vars next wanted s)
            ∙ ap (λ (t : Track). is_part types (sight vars s) (map (value_of s.values) roots) t.0 next) number)
            is,
      )

  module _ (line : ℕ) (reached : Formula) where
    store-checked : (why : Cause) (what : CutCheck) (s : State) (w0 w1 : Walker) → reached ≡ guard s next → w0 ≡ shown next wanted s →
        w1 ≡ checked reached (cut_formula types (sight_of vars w0.view) vars w0.view.vars what w0.view.next) w0 →
        w1 ≡ shown next wanted (check_store types vars line why what s)
    store-checked why what s w0 w1 reaches is made =
        step-checked vars next wanted line why (guard s) s w0 w1 reached (λ seen values n. cut_formula types seen vars values what n) reaches is made

    pub stores-checked : (s : State) (w0 w1 w2 w3 w4 : Walker) → reached ≡ guard s next → w0 ≡ shown next wanted s →
        w1 ≡ checked reached (cut_formula types (sight_of vars w0.view) vars w0.view.vars look.DanglingRef w0.view.next) w0 →
        w2 ≡ checked reached (cut_formula types (sight_of vars w1.view) vars w1.view.vars look.Shared w1.view.next) w1 →
        w3 ≡ checked reached (cut_formula types (sight_of vars w2.view) vars w2.view.vars look.Leak w2.view.next) w2 →
        w4 ≡ checked reached (cut_formula types (sight_of vars w3.view) vars w3.view.vars look.Field w3.view.next) w3 →
        w4 ≡ shown next wanted (check_stores types vars line s)
    stores-checked s w0 w1 w2 w3 w4 reaches is one two three four =
        let s1 : State = check_store types vars line cause.DanglingRef look.DanglingRef s in
        let s2 : State = check_store types vars line cause.Shared look.Shared s1 in
        let s3 : State = check_store types vars line cause.Leak look.Leak s2 in
        let e1 : w1 ≡ shown next wanted s1 = store-checked cause.DanglingRef look.DanglingRef s w0 w1 reaches is one in
        let e2 : w2 ≡ shown next wanted s2 = store-checked cause.Shared look.Shared s1 w1 w2 reaches e1 two in
        let e3 : w3 ≡ shown next wanted s3 = store-checked cause.Leak look.Leak s2 w2 w3 reaches e2 three in
        store-checked cause.Field look.Field s3 w3 w4 reaches e3 four

  claims-checked : (cut : Cut) (part : Option Track) (s : State) (w0 w1 : Walker) (reached : Formula) → reached ≡ guard s next → w0 ≡ shown next wanted s →
      w1 ≡ checked reached (Not (claims_hold types (sight_of vars w0.view) w0.view.vars part cut.asserts w0.view.next)) w0 →
      w1 ≡ shown next wanted (check_claims types vars cut part s)
  claims-checked cut part s w0 w1 reached reaches is made =
      step-checked vars next wanted cut.line cause.Post (guard s) s w0 w1 reached
      (λ seen values n. Not (claims_hold types seen values part cut.asserts n)) reaches is made

  pub alone-arrived : (cut : Cut) (s : State) (w1 w2 : Walker) (reached : Formula) → reached ≡ guard s next →
      w1 ≡ shown next wanted (check_stores types vars cut.line s) →
      w2 ≡ checked reached (Not (claims_hold types (sight_of vars w1.view) w1.view.vars None cut.asserts w1.view.next)) w1 →
      w2 ≡ shown next wanted (check_claims types vars cut None (check_stores types vars cut.line s))
  alone-arrived cut s w1 w2 reached reaches is made = claims-checked cut None (check_stores types vars cut.line s) w1 w2 reached reaches is made

  pub call-arrived : (cut : Cut) (p : ℕ) (part : Track) (s : State) (w1 w2 w3 : Walker) (reached : Formula) → part ≡ track p → reached ≡ guard s next →
      w1 ≡ shown next wanted (check_stores types vars cut.line s) →
      w2 ≡ checked reached (escapes vars cut.inside w1.view.vars part.0 w1.view.next) w1 →
      w3 ≡ checked reached (Not (claims_hold types (sight_of vars w2.view) w2.view.vars (Some part) cut.asserts w2.view.next)) w2 →
      w3 ≡ shown next wanted (arrived_at_call types vars cut p s)
  call-arrived cut p part s w1 w2 w3 reached parted reaches is one two =
      let s1 : State = check_stores types vars cut.line s in
      let s2 : State = check cut.line (guard s) cause.Escape (escapes vars cut.inside s.values part.0) s1 in
      let e2 : w2 ≡ shown next wanted s2 =
      step-checked vars next wanted cut.line cause.Escape (guard s) s1 w1 w2 reached
      (λ seen values n. escapes vars cut.inside values part.0 n) reaches is one in
      claims-checked cut (Some part) s2 w2 w3 reached reaches e2 two
      ∙ ap (λ (t : Track). shown next wanted (check_claims types vars cut (Some t)
      (check cut.line (guard s) cause.Escape (escapes vars cut.inside s.values t.0) s1))) parted

  -- ---- with a handed part, or without one

  abbrev with_handed : Cut → State → Option (List VarId) → State
  with_handed cut s o = option_map_or (λ roots. arrived_at_call types vars cut (next_track types vars s) (with_part types vars roots s)) o
      (check_claims types vars cut None (check_stores types vars cut.line s))

  pub handed-arrived : (cut : Cut) (s : State) (roots : List VarId) (w : Walker) → cut.handed ≡ Some roots →
      w ≡ shown next wanted (arrived_at_call types vars cut (next_track types vars s) (with_part types vars roots s)) →
      w ≡ shown next wanted (arrived types vars cut s)
  handed-arrived cut s roots w handed is = is ∙ ap (λ o. shown next wanted (with_handed cut s o)) (sym handed)

  pub plain-arrived : (cut : Cut) (s : State) (w : Walker) → cut.handed ≡ None →
      w ≡ shown next wanted (check_claims types vars cut None (check_stores types vars cut.line s)) → w ≡ shown next wanted (arrived types vars cut s)
  plain-arrived cut s w handed is = is ∙ ap (λ o. shown next wanted (with_handed cut s o)) (sym handed)
