-- What stands for variables after both ways, one after the other.
use Rattle.std.proofs.Common.{◌≡◌, ℕ, suc, ◌+◌, ◌<◌, Bool, true, false, List, [], ◌∷◌, ◌++◌, length, drop, get_or, min}
use Rattle.std.proofs.Common.{refl, sym, ap, ◌∙◌, arith, add-one, drop-cons, append_assoc, append-nil, if◌then◌else◌, length-drop}
use Rattle.store_core.specs.Tables.{TypeEntry, VarEntry}
use Rattle.ws2s_forms.specs.Forms.{track}
use Rattle.graph_view.specs.declared.view.Sym.{Sym}
use Rattle.graph_view.specs.declared.view.Sym.TheVariants.{At}
use Rattle.site_list.specs.States.{State, Got, next_track, define, make}
use Rattle.site_list.specs.Codes.{Merging, behind, is_sym, is_merged, merged}
use Rattle.symbolic_steps.specs.declared.walker.Walker.{Walker}
use Rattle.symbolic_steps.specs.Shown.{shown, merged_value}

-- values before those that are still to be merged
abbrev pub front : List Sym → Merging → Merging
front values rest = (values ++ rest.0, rest.1)

module _ (types : List TypeEntry) (vars : List VarEntry) (h : ℕ) where
  abbrev head : Sym → Sym → State → Bool → Got
  head u w s same = if same then (u, s) else make types vars (is_merged h u w) s

  merged-head : (u w : Sym) (us ws : List Sym) (s : State) →
      merged types vars h (u ∷ us) (w ∷ ws) s
      ≡ behind ((merged_value types vars h u w s).0) (merged types vars h us ws ((merged_value types vars h u w s).1))
  merged-head u w us ws s = by (is_sym u w)
    where
      by : (same : Bool) →
          (if same then behind u (merged types vars h us ws s)
          else behind (At (track (next_track types vars s)))
          (merged types vars h us ws (define (is_merged h u w (next_track types vars s)) s)))
          ≡ behind ((head u w s same).0) (merged types vars h us ws ((head u w s same).1))
      by true = refl
      by false = refl

  -- how far the merging has come
  abbrev pub IsMerging : List Sym → List Sym → ℕ → ℕ → ℕ → Walker → Walker → List Sym → Type 0
  IsMerging us ws i next wanted old w values = (s : State) → old ≡ shown next wanted s →
      (t : State) × (w ≡ shown next wanted t) × (front values (merged types vars h (drop i us) (drop i ws) t) ≡ merged types vars h us ws s)

  pub merging-step : (us ws : List Sym) (i next wanted : ℕ) (old w1 w2 : Walker) (values : List Sym) (d e u x value : Sym) → i < length us → i < length ws →
      u ≡ get_or us i d → x ≡ get_or ws i e → IsMerging us ws i next wanted old w1 values →
      ((t : State) → w1 ≡ shown next wanted t →
      (value ≡ (merged_value types vars h u x t).0) × (w2 ≡ shown next wanted ((merged_value types vars h u x t).1))) →
      IsMerging us ws (i + 1) next wanted old w2 (values ++ value ∷ [])
  merging-step us ws i next wanted old w1 w2 values d e u x value inside within one other before step s is =
      let far = before s is in
      let got = step far.0 far.1 in
      let g : Got = merged_value types vars h u x far.0 in
      let more : merged types vars h (drop i us) (drop i ws) far.0 ≡ behind value (merged types vars h (drop (i + 1) us) (drop (i + 1) ws) g.1) =
      ap (λ (ps : List Sym). merged types vars h ps (drop i ws) far.0) (drop-cons us i d inside)
      ∙ ap (λ (qs : List Sym). merged types vars h (get_or us i d ∷ drop (suc i) us) qs far.0) (drop-cons ws i e within)
      ∙ merged-head (get_or us i d) (get_or ws i e) (drop (suc i) us) (drop (suc i) ws) far.0
      ∙ ap (λ (v : Sym). behind ((merged_value types vars h v (get_or ws i e) far.0).0)
      (merged types vars h (drop (suc i) us) (drop (suc i) ws) ((merged_value types vars h v (get_or ws i e) far.0).1))) (sym one)
      ∙ ap (λ (v : Sym). behind ((merged_value types vars h u v far.0).0)
      (merged types vars h (drop (suc i) us) (drop (suc i) ws) ((merged_value types vars h u v far.0).1))) (sym other)
      ∙ ap (λ (v : Sym). behind v (merged types vars h (drop (suc i) us) (drop (suc i) ws) g.1)) (sym got.0)
      ∙ ap (λ (n : ℕ). behind value (merged types vars h (drop n us) (drop n ws) g.1)) (sym (add-one i)) in (
        g.1,
        got.1,
        ap (λ (vs : List Sym). (vs, (merged types vars h (drop (i + 1) us) (drop (i + 1) ws) g.1).1))
            (append_assoc values (value ∷ []) ((merged types vars h (drop (i + 1) us) (drop (i + 1) ws) g.1).0))
            ∙ sym (ap (front values) more) ∙ far.2,
      )

  merged-none : (us ws : List Sym) (s : State) → min (length us) (length ws) ≡ 0 → merged types vars h us ws s ≡ ([], s)
  merged-none [] ws s e = refl
  merged-none (u ∷ us) [] s e = refl
  merged-none (u ∷ us) (w ∷ ws) s e = absurd (omega arith)

  pub merging-end : (us ws : List Sym) (i next wanted : ℕ) (old w : Walker) (values : List Sym) → i ≡ min (length us) (length ws) →
      IsMerging us ws i next wanted old w values → (s : State) → old ≡ shown next wanted s →
      (values ≡ (merged types vars h us ws s).0) × (w ≡ shown next wanted ((merged types vars h us ws s).1))
  merging-end us ws i next wanted old w values all before s is =
      let far = before s is in
      let none : merged types vars h (drop i us) (drop i ws) far.0 ≡ ([], far.0) =
      merged-none (drop i us) (drop i ws) far.0 (omega (arith, length-drop i us, length-drop i ws)) in
      let whole : (values, far.0) ≡ merged types vars h us ws s =
      ap (λ (vs : List Sym). (vs, far.0)) (sym (append-nil values)) ∙ sym (ap (front values) none) ∙ far.2 in
      (ap (λ (m : Merging). m.0) whole, far.1 ∙ ap (λ (m : Merging). shown next wanted (m.1)) whole)
