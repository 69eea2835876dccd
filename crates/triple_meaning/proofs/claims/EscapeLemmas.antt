-- The formula of pointer variables on the wrong side of a part.
use Rattle.std.proofs.Common.{◌≡◌, ◌↔◌, ◌⊎◌, inl, inr, ℕ, suc, ◌≤◌, Bool, true, false, cond, IsTrue, List, [], ◌∷◌, flat_map, length, Option, Some, Contains}
use Rattle.std.proofs.Common.{refl, sym, ap, ◌∙◌, subst, arith, nat_eq}
use Rattle.std.specs.List.{list_any}
use Rattle.std.proofs.lemmas.Bool.{false≢true, or_left, or_right, or_cases}
use Rattle.std.proofs.lemmas.Bool.Decides.{nat_tests}
use Rattle.std.proofs.lemmas.Option.{slice_get_within}
use Rattle.gta_theory.specs.Assignments.{Position, Assignment}
use Rattle.gta_theory.proofs.ListsLemmas.{Contains-first, Contains-later, Contains-cases, Contains-flat_map}
use Rattle.ws2s_core.specs.declared.formula.Formula.{Formula}
use Rattle.ws2s_core.specs.declared.formula.Formula.TheVariants.{Sub, And, Not}
use Rattle.ws2s_core.specs.Satisfaction.{WSat}
use Rattle.ws2s_forms.specs.Forms.{track}
use Rattle.ws2s_forms.specs.Places.{with_position}
use Rattle.ws2s_forms.proofs.LawsLemmas.{law-or_list}
use Rattle.store_core.specs.declared.ids.CellId.{CellId}
use Rattle.store_core.specs.declared.ids.VarId.{VarId}
use Rattle.store_core.specs.declared.kind.VarKind.{VarKind}
use Rattle.store_core.specs.declared.kind.VarKind.TheVariants as var
use Rattle.store_core.specs.declared.value.Value.{Value}
use Rattle.store_core.specs.declared.value.Value.TheVariants as value
use Rattle.store_core.specs.Tables.{VarEntry, var_at}
use Rattle.store_core.specs.Stores.{StoreMap, VarFits, var_value}
use Rattle.store_core.proofs.FittingLemmas.{IsSomeAnd-at}
use Rattle.routing_walks.specs.Regions.{IsReachedFrom}
use Rattle.routing_walks.proofs.DecidedLemmas.{in_none}
use Rattle.store_exec.specs.Cuts.{IsPointerVar, Escapes}
use Rattle.tree_encode.specs.Layouts.{LaidOut}
use Rattle.tree_formula.specs.WellEncoded.{var_id, vars_in}
use Rattle.tree_store.proofs.ListsLemmas.{Contains-named, flat_map-inside, cond-inside, listed-inside, Contains-listed}
use Rattle.tree_store.proofs.SpotsLemmas.{of-some}
use Rattle.graph_view.specs.declared.view.View.{View}
use Rattle.graph_view.specs.Syms.{is_in}
use Rattle.graph_view.specs.After.{Standing, IsAt, StandsFor, StandsForCell}
use Rattle.graph_meaning.specs.Live.Meaning.{Agrees}
use Rattle.graph_meaning.specs.Live.Standing.{Sits}
use Rattle.graph_meaning.specs.Live.Fields.{NamesAt}
use Rattle.graph_meaning.proofs.live.AgreeingLemmas.{Agrees-bound, IsOnly-bound, member-agreed, sat-and, sat-not, sat-ex1}
use Rattle.graph_meaning.proofs.live.FieldsLemmas.{names-means}
use Rattle.graph_meaning.proofs.live.SeenLemmas.{seen-sits}
use Rattle.graph_meaning.proofs.live.TellLemmas.{stands-somewhere}
use Rattle.graph_meaning.specs.Walks.Wells.{ShowsWell}
use Rattle.site_list.specs.States.{value_of}
use Rattle.site_list.specs.Parts.{is_pointer, is_var, is_astray, astray_of, escapes}
use Rattle.triple_meaning.specs.Claims.Given.{IsGiven}
use Rattle.triple_meaning.proofs.claims.BoundLemmas.{var-held}

-- ---- variables of a list

same-number : (x y : ℕ) → nat_eq x y ≡ true → x ≡ y
same-number x y e = grind (arith, nat_tests)

number-same : (x y : ℕ) → x ≡ y → nat_eq x y ≡ true
number-same x y e = grind (arith, nat_tests)

listed-var : (v : VarId) (vs : List VarId) → list_any (is_var v) vs ≡ true → Contains vs v
listed-var v [] e = absurd (false≢true e)
listed-var v (w ∷ vs) e = elim (or_cases (is_var v w) (list_any (is_var v) vs) e) as (λ _. Contains (w ∷ vs) v) [
  | inl same ↦ (let is : w ≡ v = sym (ap (λ (n : ℕ). record { 0 = n }) (same-number v.0 w.0 same)) in subst (λ z. Contains (w ∷ vs) z) is (Contains-first w vs))
  | inr later ↦ Contains-later w v vs (listed-var v vs later)
]

var-listed : (v : VarId) (vs : List VarId) → Contains vs v → list_any (is_var v) vs ≡ true
var-listed v [] h = absurd (in_none v h)
var-listed v (w ∷ vs) h = elim (Contains-cases w v vs h) as (λ _. list_any (is_var v) (w ∷ vs) ≡ true) [
  | inl same ↦ or_left (is_var v w) (list_any (is_var v) vs) (number-same v.0 w.0 (sym (ap (λ (z : VarId). z.0) same)))
  | inr later ↦ or_right (is_var v w) (list_any (is_var v) vs) (var-listed v vs later)
]

-- ---- pointer variables

pointer-kind : (kind : VarKind) → is_pointer kind ≡ true → IsPointerVar kind
pointer-kind var.Bool e = absurd (false≢true e)
pointer-kind (var.Data target) e = absurd (false≢true e)
pointer-kind (var.Pointer target) e = tt
pointer-kind (var.LogicSet target) e = absurd (false≢true e)
pointer-kind var.LogicBool e = absurd (false≢true e)

kind-pointer : (kind : VarKind) → IsPointerVar kind → is_pointer kind ≡ true
kind-pointer var.Bool is = absurd is
kind-pointer (var.Data target) is = absurd is
kind-pointer (var.Pointer target) is = refl
kind-pointer (var.LogicSet target) is = absurd is
kind-pointer var.LogicBool is = absurd is

pointer-cell : (s : StoreMap) (kind : VarKind) (x : Value) → IsPointerVar kind → VarFits s kind x → (o : Option CellId) × (x ≡ value.Cell o)
pointer-cell s var.Bool x is fits = absurd is
pointer-cell s (var.Data target) x is fits = absurd is
pointer-cell s (var.LogicSet target) x is fits = absurd is
pointer-cell s var.LogicBool x is fits = absurd is
pointer-cell s (var.Pointer target) (value.Bool k) is fits = absurd fits
pointer-cell s (var.Pointer target) (value.Cells k) is fits = absurd fits
pointer-cell s (var.Pointer target) (value.Cell o) is fits = (o, refl)

module _ (l : LaidOut) (view : View) (a : Assignment) (first s : StoreMap) (at : Standing) (count : ℕ) (wells : ShowsWell l view a first s s at count)
    (b : Assignment) (next x : ℕ) (agrees : Agrees count a b) (few : count ≤ next) (roots inside : List VarId)
    (given : IsGiven l.types l.vars a at s count roots (track x)) where
  sits : Sits s at
  sits = seen-sits l view a first s s at count wells.shows

  abbrev Reached : CellId → Type 0
  Reached c = IsReachedFrom l.types l.vars s roots c

  -- the cell is on the wrong side for the variable
  abbrev IsWrongSide : VarId → CellId → Type 0
  IsWrongSide v c = (Contains inside v × (Reached c → ⊥)) ⊎ ((Contains inside v → ⊥) × Reached c)

  -- the cell at a position is reached where the position is on the track
  on-part : (c : CellId) (p : Position) → IsAt at c p → IsTrue (a x p) ↔ Reached c
  on-part c p here = (
    (λ on. let (d, reached, also) = (given.has p).0 on in subst (λ z. Reached z) (sits.apart d c p also here) reached),
    (λ reached. (given.has p).1 (c, reached, here)),
  )

  side : VarId → ℕ → Formula
  side v y = cond (list_any (is_var v) inside) (Not (Sub (track y) (track x))) (Sub (track y) (track x))

  side-means : (v : VarId) (c : CellId) (p : Position) → IsAt at c p → WSat (side v next) (with_position b next p) ↔ IsWrongSide v c
  unfolding side
  side-means v c p here = by (list_any (is_var v) inside) refl
    where
      on : WSat (Sub (track next) (track x)) (with_position b next p) ↔ Reached c
      on =
          let member = member-agreed count a (with_position b next p) next x p (Agrees-bound count a b next p agrees few) given.below (IsOnly-bound b next p) in
          let reached = on-part c p here in ((λ h. reached.0 (member.0 h)), (λ h. member.1 (reached.1 h)))

      by : (k : Bool) → list_any (is_var v) inside ≡ k →
          WSat (cond k (Not (Sub (track next) (track x))) (Sub (track next) (track x))) (with_position b next p) ↔ IsWrongSide v c
      by true is =
          let out = sat-not (Sub (track next) (track x)) (with_position b next p) (Reached c) on in (
            (λ h. inl (listed-var v inside is, out.0 h)),
            (λ h. out.1 (elim h as (λ _. Reached c → ⊥) [ inl listed ↦ listed.1 | inr other ↦ absurd (other.0 (listed-var v inside is)) ])),
          )
      by false is = (
        (λ h. inr ((λ listed. false≢true (sym is ∙ var-listed v inside listed)), on.0 h)),
        (λ h. on.1 (elim h as (λ _. Reached c) [ inl listed ↦ absurd (false≢true (sym is ∙ var-listed v inside listed.0)) | inr other ↦ other.1 ])),
      )

  -- ---- one variable

  astray-means : (v : VarId) (entry : VarEntry) → var_at l.vars v ≡ Some entry → IsPointerVar entry.kind →
      WSat (is_astray inside view.vars x next v) b ↔ ((c : CellId) × (var_value s v ≡ Some (value.Cell (Some c))) × IsWrongSide v c)
  unfolding side
  astray-means v entry there pointer =
      let it = var-held l view a first s s at count wells.shows v entry there in
      let (o, value_is) = pointer-cell s entry.kind it.held pointer it.fits in
      let stands = subst (λ z. StandsFor a at (value_of view.vars v) z) value_is it.stands in
      let holds : var_value s v ≡ Some (value.Cell o) = it.holds ∙ ap (λ z. Some z) value_is in
      let named : (p : Position) → WSat (is_in (suc next) next (value_of view.vars v)) (with_position b next p) ↔ NamesAt at (value.Cell o) p = λ p.
      names-means count a (with_position b next p) (suc next) next p at s (value_of view.vars v) o sits (Agrees-bound count a b next p agrees few)
      (IsOnly-bound b next p) stands it.under in
      let some = sat-ex1 next (And (is_in (suc next) next (value_of view.vars v)) (side v next)) b
      (λ p. NamesAt at (value.Cell o) p × WSat (side v next) (with_position b next p)) (λ p.
      sat-and (is_in (suc next) next (value_of view.vars v)) (side v next) (with_position b next p) (NamesAt at (value.Cell o) p)
      (WSat (side v next) (with_position b next p)) (named p) ((λ h. h), (λ h. h))) in (
        (λ h.
            let (p, parts) = some.0 h in
            let (c, here, is) = parts.0 in
            (c, holds ∙ ap (λ z. Some z) is, (side-means v c p here).0 parts.1)),
        (λ h.
            let (c, cell_is, wrong) = h in
            let both : Some (value.Cell o) ≡ Some (value.Cell (Some c)) = sym holds ∙ cell_is in
            let is : value.Cell o ≡ value.Cell (Some c) = cc in
            let only : o ≡ Some c = cc in
            let (p, here) = stands-somewhere a at (value_of view.vars v) c (subst (λ z. StandsForCell a at (value_of view.vars v) z) only stands) in
            some.1 (p, ((c, here, is), (side-means v c p here).1 wrong))),
      )

  -- ---- all variables

  pub escapes-means : WSat (escapes l.vars inside view.vars x next) b ↔ Escapes l.types l.vars s roots inside
  escapes-means =
      let parts = astray_of l.vars inside view.vars x next in
      let some = law-or_list next (flat_map parts (vars_in l.vars)) b agrees.finite in (
        (λ h.
            let (f, among, holds) = some.0 h in
            let (v, listed, from_v) = flat_map-inside parts (vars_in l.vars) f among in
            let (entry, there, inner) = listed-inside (λ (z : VarEntry). cond (is_pointer z.kind) (is_astray inside view.vars x next v ∷ []) [])
            (var_at l.vars v) f from_v in
            let (so, same) = cond-inside (is_pointer entry.kind) (is_astray inside view.vars x next v) f inner in
            let pointer = pointer-kind entry.kind so in
            let (c, value_is, wrong) = (astray-means v entry there pointer).0 (subst (λ g. WSat g b) (sym same) holds) in
            record {
              var = v;
              cell = c;
              points = record { pointer = of-some (λ z. IsPointerVar z.kind) (var_at l.vars v) entry there pointer; names = value_is };
              wrong_side = wrong;
            }),
        (λ h.
            let v = h.var in
            let (entry, there, pointer) = IsSomeAnd-at (var_at l.vars v) (λ z. IsPointerVar z.kind) h.points.pointer in
            let holds = (astray-means v entry there pointer).1 (h.cell, h.points.names, h.wrong_side) in
            let single : Contains (cond (is_pointer entry.kind) (is_astray inside view.vars x next v ∷ []) []) (is_astray inside view.vars x next v) =
            subst (λ k. Contains (cond k (is_astray inside view.vars x next v ∷ []) []) (is_astray inside view.vars x next v))
            (sym (kind-pointer entry.kind pointer))
            (Contains-first (is_astray inside view.vars x next v) []) in
            some.1 (
              is_astray inside view.vars x next v,
              Contains-flat_map parts (vars_in l.vars) v (is_astray inside view.vars x next v)
                  (Contains-named var_id (length l.vars) v.0 (slice_get_within l.vars v.0 entry there))
                  (Contains-listed (λ (z : VarEntry). cond (is_pointer z.kind) (is_astray inside view.vars x next v ∷ []) []) (var_at l.vars v) entry
                  (is_astray inside view.vars x next v) there single),
              holds,
            )),
      )
