-- The formula of shared cells.
use Rattle.std.proofs.Common.{◌≡◌, ◌≢◌, ◌↔◌, ◌⊎◌, inl, inr, ℕ, suc, ◌<◌, ◌≤◌, true, false, IsTrue, IsSomeAnd, List, [], ◌∷◌, ◌++◌, map, flat_map, length}
use Rattle.std.proofs.Common.{slice_get, Option, Some, None, Contains, refl, sym, ap, ◌∙◌, subst, arith}
use Rattle.std.specs.Option.{option_map_or}
use Rattle.std.proofs.lemmas.Bool.{cases_order}
use Rattle.std.proofs.lemmas.List.Elements.{Contains-append_left, Contains-append_right, Contains-append_cases}
use Rattle.gta_theory.specs.Assignments.{Position, Assignment, IsOnly}
use Rattle.gta_theory.proofs.ListsLemmas.{Contains-first, Contains-later, Contains-cases, Contains-flat_map}
use Rattle.ws2s_core.specs.declared.formula.Formula.{Formula}
use Rattle.ws2s_core.specs.declared.formula.Formula.TheVariants.{And, Not}
use Rattle.ws2s_core.specs.Satisfaction.{WSat}
use Rattle.ws2s_forms.specs.Forms.{and_list, or_list, equal, ex1}
use Rattle.ws2s_forms.specs.Places.{with_position}
use Rattle.ws2s_forms.proofs.LawsLemmas.{law-or_list}
use Rattle.store_core.specs.declared.ids.CellId.{CellId}
use Rattle.store_core.specs.declared.ids.TypeId.{TypeId}
use Rattle.store_core.specs.declared.ids.FieldId.{FieldId}
use Rattle.store_core.specs.declared.ids.VarId.{VarId}
use Rattle.store_core.specs.declared.value.Value.{Value}
use Rattle.store_core.specs.declared.value.Value.TheVariants as value
use Rattle.store_core.specs.Tables.{TypeEntry, FieldEntry, VarEntry, field_at, fields_of, var_at}
use Rattle.store_core.specs.Stores.{StoreMap, CellEntry, IsLive, cell_of, field_value, var_value}
use Rattle.store_core.proofs.FittingLemmas.{IsSomeAnd-at}
use Rattle.store_laws.proofs.CellLemmas.{cell_cases}
use Rattle.routing_walks.specs.declared.fault.Place.{Place}
use Rattle.routing_walks.specs.declared.fault.Place.TheVariants as place
use Rattle.routing_walks.specs.Walks.{DataAlone, IsFollowed, IsParent}
use Rattle.routing_walks.specs.WellFormed.{IsDataVar, Names, IsShared}
use Rattle.routing_walks.specs.CutFaults.{HasShared}
use Rattle.routing_walks.proofs.LiveLemmas.{IsLive-field_value, IsParent-live}
use Rattle.tree_encode.specs.Layouts.{LaidOut}
use Rattle.tree_encode.proofs.PositionsLemmas.{own_type}
use Rattle.tree_store.proofs.SpotsLemmas.{of-some}
use Rattle.tree_formula.specs.WellEncoded.{type_id, field_in, types_in, fields_in}
use Rattle.tree_store.proofs.ListsLemmas.{Contains-named, flat_map-inside, named-inside}
use Rattle.tree_store.proofs.TablesLemmas.{field-known}
use Rattle.graph_view.specs.declared.view.Sym.{Sym}
use Rattle.graph_view.specs.declared.view.View.{View}
use Rattle.graph_view.specs.Syms.{is_in}
use Rattle.graph_view.specs.Sights.{Sight, sight_of}
use Rattle.graph_view.specs.Live.{is_live}
use Rattle.graph_view.specs.Fields.{is_data, has_kind}
use Rattle.graph_view.specs.Routes.{edge, names_by_data}
use Rattle.graph_view.specs.Cuts.{data_value, values_by, pairs, both_name, is_below, two_above, two_fields, field_pairs, named_twice, shares}
use Rattle.graph_view.specs.After.{Standing, IsAt, StandsFor, StandsForCell, IsSymBelow}
use Rattle.graph_meaning.specs.Live.Meaning.{Agrees}
use Rattle.graph_meaning.specs.Live.Standing.{LiveAt}
use Rattle.graph_meaning.proofs.live.AgreeingLemmas.{Agrees-bound, IsOnly-bound, IsOnly-still, sat-and, sat-not, sat-ex1, sat-three, sat-or_list}
use Rattle.graph_meaning.proofs.live.SymsLemmas.{is_in-cell, is_in-null}
use Rattle.graph_meaning.specs.Walks.Walking.{JoinsAt}
use Rattle.graph_meaning.specs.Walks.Wells.{ShowsWell}
use Rattle.graph_meaning.proofs.walks.ListedLemmas.{entry-of}
use Rattle.graph_meaning.proofs.walks.GroundLemmas.{data-test, equal-means, edge-means}
use Rattle.graph_meaning.proofs.walks.SeenLemmas.{ground, by_data}
use Rattle.graph_meaning.proofs.cuts.ValuesLemmas.{IsValueOf, valued-in, in-valued, IsHeld, var-held}
use Rattle.graph_meaning.proofs.cuts.LeakLemmas.{data-kind, kind-data}
use Rattle.graph_meaning.proofs.cuts.PairsLemmas.{IsPassingPair, passing-inside, inside-passing, at-named, named-at, IsValuePair, values-inside, inside-values}

module _ (l : LaidOut) (view : View) (a : Assignment) (first s : StoreMap) (at : Standing) (count : ℕ) (wells : ShowsWell l view a first s s at count)
    (b : Assignment) (next : ℕ) (agrees : Agrees count a b) (few : count ≤ next) where
  abbrev sight : Sight
  sight = sight_of l.vars view

  abbrev values : List Sym
  values = values_by data_value l.vars view.vars

  abbrev var_of : ℕ → VarId
  var_of i = record { 0 = i }

  -- ---- one cell

  module _ (c : CellId) (p : Position) (here : IsAt at c p) where
    abbrev bound : Assignment
    bound = with_position b next p

    abbrev n : ℕ
    n = suc next

    bound-agrees : Agrees count a bound
    bound-agrees = Agrees-bound count a b next p agrees few

    bound-only : IsOnly (bound next) p
    bound-only = IsOnly-bound b next p

    -- the variable or field names the cell
    abbrev Named : Place → Type 0
    Named q = Names l.types l.vars s q c

    -- the value of a data variable is the cell exactly where the variable names it
    var-named : (u : Sym) (i : ℕ) → IsValueOf data_value l.vars view.vars u i → WSat (is_in n next u) bound ↔ Named (place.Var (var_of i))
    var-named u i is =
        let held = var-held l view a first s s at count wells.shows (var_of i) is.entry is.there in
        let both : Some is.sym_of ≡ Some held.sym_of = sym is.stands ∙ held.is in
        let same : is.sym_of ≡ held.sym_of = cc in
        let (data_var, same_sym, (o, value_is)) = data-kind s is.entry.kind is.sym_of u held.held is.one held.fits in
        let u_is : held.sym_of ≡ u = sym same ∙ same_sym in
        by o (held.holds ∙ ap (λ y. Some y) value_is)
        (subst (λ w. StandsForCell a at w o) u_is (subst (λ y. StandsFor a at held.sym_of y) value_is held.stands))
        (subst (λ w. IsSymBelow count w) u_is held.under)
        (of-some (λ entry. IsDataVar entry.kind) (var_at l.vars (var_of i)) is.entry is.there data_var)
      where
        by : (o : Option CellId) → var_value s (var_of i) ≡ Some (value.Cell o) → StandsForCell a at u o → IsSymBelow count u →
            IsSomeAnd (var_at l.vars (var_of i)) (λ entry. IsDataVar entry.kind) → WSat (is_in n next u) bound ↔ Named (place.Var (var_of i))
        by None holds stands under data_var = (
          (λ h. absurd (is_in-null count a bound n next p at u bound-agrees under bound-only stands h)),
          (λ named.
              let both : Some (value.Cell None) ≡ Some (value.Cell (Some c)) = sym holds ∙ named.value in
              let no : ⊥ = cc in absurd no),
        )
        by (Some d) holds stands under data_var =
            let g = ground l view a first s s at count wells.shows in
            let means = is_in-cell count a bound n next p at u d bound-agrees under bound-only (g.one d) stands in (
              (λ h. record {
                place = data_var;
                value = holds ∙ ap (λ e. Some (value.Cell (Some e))) (g.apart d c p (means.0 h) here);
              }),
              (λ named.
                  let both : Some (value.Cell (Some d)) ≡ Some (value.Cell (Some c)) = sym holds ∙ named.value in
                  let same : d ≡ c = cc in
                  means.1 (subst (λ e. IsAt at e p) (sym same) here)),
            )

    -- the value of a data variable that names the cell
    named-value : (v : VarId) → Named (place.Var v) → (u : Sym) × IsValueOf data_value l.vars view.vars u v.0
    named-value v named =
        let (entry, there, data_var) = IsSomeAnd-at (var_at l.vars v) (λ e. IsDataVar e.kind) named.place in
        let held = var-held l view a first s s at count wells.shows v entry there in (
          held.sym_of,
          record { entry = entry; there = there; sym_of = held.sym_of; stands = held.is; one = kind-data entry.kind held.sym_of data_var },
        )

    -- ---- cells above

    edge-to : (r : Position) (m x : ℕ) (d : Assignment) → Agrees count a d → count ≤ m → x < m → next < m → IsOnly (d x) r → IsOnly (d next) p →
        WSat (edge l.types sight m x next) d ↔ ((e : CellId) × IsAt at e r × IsParent l.types s e c)
    edge-to r m x d agreed enough below behind only also =
        let g = ground l view a first s s at count wells.shows in
        let means = edge-means l.types sight count a s s at g (by_data l view a first s s at count wells.shows) d m x next r p agreed enough below behind
        only also in (
          (λ h.
              let (e, f, at_r, at_p, parent) = means.0 h in
              (e, at_r, subst (λ k. IsParent l.types s e k) (g.apart f c p at_p here) parent)),
          (λ h. means.1 (h.0, c, h.1, here, h.2)),
        )

    below-means : WSat (is_below l.types sight n next) bound ↔ ((e : CellId) × IsParent l.types s e c)
    below-means =
        let g = ground l view a first s s at count wells.shows in
        let some = sat-ex1 n (edge l.types sight (suc n) n next) bound (λ r. (e : CellId) × IsAt at e r × IsParent l.types s e c) (λ r.
        edge-to r (suc n) n (with_position bound n r) (Agrees-bound count a bound n r bound-agrees (omega (arith, few))) (omega (arith, few)) (omega arith)
        (omega arith) (IsOnly-bound bound n r) (IsOnly-still bound n next r p (omega arith) bound-only)) in (
          (λ h. let (r, found) = some.0 h in (found.0, found.2)),
          (λ h. let (r, at_r) = g.there h.0 (IsParent-live l.types s h.0 c h.1).0 in some.1 (r, (h.0, at_r, h.1))),
        )

    -- two cells name the cell
    abbrev TwoAbove : Type 0
    TwoAbove = (e : CellId) × (f : CellId) × (e ≢ f) × IsParent l.types s e c × IsParent l.types s f c

    two-means : WSat (two_above l.types sight n next) bound ↔ TwoAbove
    two-means =
        let g = ground l view a first s s at count wells.shows in
        let inner = and_list (suc (suc n)) (Not (equal n (suc n)) ∷ edge l.types sight (suc (suc n)) n next ∷ edge l.types sight (suc (suc n)) (suc n)
        next ∷ []) in
        let Above = λ (r : Position). (e : CellId) × IsAt at e r × IsParent l.types s e c in
        let each : (r w : Position) → WSat inner (with_position (with_position bound n r) (suc n) w) ↔ (((r ≡ w) → ⊥) × Above r × Above w) = λ r w.
        let d = with_position (with_position bound n r) (suc n) w in
        let once = Agrees-bound count a bound n r bound-agrees (omega (arith, few)) in
        let agreed = Agrees-bound count a (with_position bound n r) (suc n) w once (omega (arith, few)) in
        let at_r = IsOnly-still (with_position bound n r) (suc n) n w r (omega arith) (IsOnly-bound bound n r) in
        let at_w = IsOnly-bound (with_position bound n r) (suc n) w in
        let at_p = IsOnly-still (with_position bound n r) (suc n) next w p (omega arith) (IsOnly-still bound n next r p (omega arith) bound-only) in
        sat-three (suc (suc n)) (Not (equal n (suc n))) (edge l.types sight (suc (suc n)) n next) (edge l.types sight (suc (suc n)) (suc n) next) d
        ((r ≡ w) → ⊥) (Above r) (Above w) (sat-not (equal n (suc n)) d (r ≡ w) (equal-means d n (suc n) r w at_r at_w))
        (edge-to r (suc (suc n)) n d agreed (omega (arith, few)) (omega arith) (omega arith) at_r at_p)
        (edge-to w (suc (suc n)) (suc n) d agreed (omega (arith, few)) (omega arith) (omega arith) at_w at_p) in
        let outer = sat-ex1 n (ex1 (suc n) inner) bound (λ r. (w : Position) × (((r ≡ w) → ⊥) × Above r × Above w)) (λ r.
        sat-ex1 (suc n) inner (with_position bound n r) (λ w. ((r ≡ w) → ⊥) × Above r × Above w) (λ w. each r w)) in (
          (λ h.
              let (r, k) = outer.0 h in
              let (w, parts) = k in
              let (e, at_r, one) = parts.1 in
              let (f, at_w, other) = parts.2 in
              (e, f, (λ same. parts.0 (g.one f r w (subst (λ x. IsAt at x r) same at_r) at_w)), one, other)),
          (λ (h : TwoAbove).
              let (e, f, apart, one, other) = h in
              let (r, at_r) = g.there e (IsParent-live l.types s e c one).0 in
              let (w, at_w) = g.there f (IsParent-live l.types s f c other).0 in
              outer.1 (r, (w, ((λ same. apart (g.apart e f w (subst (λ x. IsAt at e x) same at_r) at_w)), (e, at_r, one), (f, at_w, other))))),
        )

    -- two fields of one cell name the cell
    abbrev BothName : FieldId → FieldId → Type 0
    BothName f g = (e : CellId) × (field_value s e f ≡ Some (value.Cell (Some c))) × (field_value s e g ≡ Some (value.Cell (Some c)))

    fields-mean : (f g : FieldId) (x y : FieldEntry) → field_at l.types f ≡ Some x → field_at l.types g ≡ Some y → IsFollowed DataAlone x.kind →
        IsFollowed DataAlone y.kind → WSat (two_fields l.types sight n next f g) bound ↔ BothName f g
    fields-mean f g x y there found follows also =
        let ground_at = ground l view a first s s at count wells.shows in
        let named = by_data l view a first s s at count wells.shows in
        let inner = and_list (suc n) (is_live l.types sight (suc n) n ∷ names_by_data l.types sight (suc n) f n next ∷ names_by_data l.types sight (suc n)
        g n next ∷ []) in
        let agreed = λ (r : Position). Agrees-bound count a bound n r bound-agrees (omega (arith, few)) in
        let at_r = λ (r : Position). IsOnly-bound bound n r in
        let at_p = λ (r : Position). IsOnly-still bound n next r p (omega arith) bound-only in
        let each = λ (r : Position). sat-three (suc n) (is_live l.types sight (suc n) n) (names_by_data l.types sight (suc n) f n next)
        (names_by_data l.types sight (suc n) g n next) (with_position bound n r) (LiveAt s at r)
        (WSat (names_by_data l.types sight (suc n) f n next) (with_position bound n r))
        (WSat (names_by_data l.types sight (suc n) g n next) (with_position bound n r))
        (ground_at.live (with_position bound n r) (suc n) n r (agreed r) (omega (arith, few)) (omega arith) (at_r r)) ((λ h. h), (λ h. h))
        ((λ h. h), (λ h. h)) in
        let one = λ (r : Position) (e : CellId) (at_e : IsAt at e r) (live : IsLive s e).
        named f x (with_position bound n r) (suc n) n next r p e c there follows (agreed r) (omega (arith, few)) (omega arith) (omega arith) (at_r r) (at_p r)
        at_e live here in
        let other = λ (r : Position) (e : CellId) (at_e : IsAt at e r) (live : IsLive s e).
        named g y (with_position bound n r) (suc n) n next r p e c found also (agreed r) (omega (arith, few)) (omega arith) (omega arith) (at_r r) (at_p r)
        at_e live here in
        let outer = sat-ex1 n inner bound (λ r. WSat inner (with_position bound n r)) (λ r. ((λ h. h), (λ h. h))) in (
          (λ h.
              let (r, k) = outer.0 h in
              let parts = (each r).0 k in
              let (e, at_e, live) = parts.0 in
              (e, (one r e at_e live).0 parts.1, (other r e at_e live).0 parts.2)),
          (λ (h : BothName f g).
              let (e, by_f, by_g) = h in
              let live = IsLive-field_value s e f (value.Cell (Some c)) by_f in
              let (r, at_e) = ground_at.there e live in
              outer.1 (r, (each r).1 ((e, at_e, live), (one r e at_e live).1 by_f, (other r e at_e live).1 by_g))),
        )

    -- ---- from formulas to places

    abbrev by_values : List Formula
    by_values = pairs (both_name n next) values

    abbrev by_both : Formula
    by_both = And (or_list n (map (is_in n next) values)) (is_below l.types sight n next)

    abbrev by_fields : List Formula
    by_fields = flat_map (field_pairs l.types sight n next) (types_in l.types)

    abbrev Twice : Type 0
    Twice = (one : Place) × (other : Place) × (one ≢ other) × Named one × Named other

    parent-place : (e : CellId) → IsParent l.types s e c → (f : FieldId) × Named (place.Field e f)
    parent-place e parent = (parent.field, record { place = parent.leads.kind; value = parent.leads.value })

    some-value : WSat (or_list n (map (is_in n next) values)) bound ↔ ((u : Sym) × Contains values u × WSat (is_in n next u) bound)
    some-value = sat-or_list n (is_in n next) values bound (λ u. WSat (is_in n next u) bound) bound-agrees.finite (λ u among. ((λ h. h), (λ h. h)))

    from-values : (g : Formula) → Contains by_values g → WSat g bound → Twice
    from-values g inside holds =
        let q = values-inside (both_name n next) l.vars view.vars g inside in
        let both = sat-and (is_in n next q.u) (is_in n next q.w) bound (Named (place.Var (var_of q.i))) (Named (place.Var (var_of q.j)))
        (var-named q.u q.i q.one) (var-named q.w q.j q.other) in
        let named = both.0 (subst (λ k. WSat k bound) (sym q.is) holds) in
        let less = q.less in (
          place.Var (var_of q.i),
          place.Var (var_of q.j),
          (λ same. let number : q.i ≡ q.j = cc in let no : ⊥ = omega (arith, number, less) in no),
          named.0,
          named.1,
        )

    from-both : WSat by_both bound → Twice
    from-both holds =
        let parts = (sat-and (or_list n (map (is_in n next) values)) (is_below l.types sight n next) bound
        ((u : Sym) × Contains values u × WSat (is_in n next u) bound) ((e : CellId) × IsParent l.types s e c) some-value below-means).0 holds in
        let (u, among, inside) = parts.0 in
        let (i, is) = valued-in data_value l.vars view.vars u among in
        let (e, parent) = parts.1 in
        let (f, named) = parent-place e parent in
        (place.Var (var_of i), place.Field e f, (λ same. let no : ⊥ = cc in no), (var-named u i is).0 inside, named)

    from-two : WSat (two_above l.types sight n next) bound → Twice
    from-two holds =
        let (e, d, apart, one, other) = two-means.0 holds in
        let (f, named) = parent-place e one in
        let (g, also) = parent-place d other in
        (place.Field e f, place.Field d g, (λ same. let is : e ≡ d = cc in apart is), named, also)

    from-fields : (g : Formula) → Contains by_fields g → WSat g bound → Twice
    from-fields g inside holds =
        let (ty, among, at_ty) = flat_map-inside (field_pairs l.types sight n next) (types_in l.types) g inside in
        let test = λ (f : FieldId). option_map_or (has_kind is_data) (field_at l.types f) false in
        let q = passing-inside test (two_fields l.types sight n next) (fields_in l.types ty) g at_ty in
        let (x, there, x_data) = entry-of (field_at l.types q.one) (has_kind is_data) q.one_so in
        let (y, found, y_data) = entry-of (field_at l.types q.other) (has_kind is_data) q.other_so in
        let (e, by_one, by_other) = (fields-mean q.one q.other x y there found (data-test.from x.kind x_data) (data-test.from y.kind y_data)).0
        (subst (λ k. WSat k bound) (sym q.is) holds) in
        let one_is = at-named (field_in ty) (length (fields_of l.types ty)) q.i q.one q.at_one in
        let other_is = at-named (field_in ty) (length (fields_of l.types ty)) q.j q.other q.at_other in
        let less = q.less in (
          place.Field e q.one,
          place.Field e q.other,
          (λ same.
              let fields : q.one ≡ q.other = cc in
              let number : q.i ≡ q.j = ap (λ (f : FieldId). f.index) (one_is ∙ fields ∙ sym other_is) in
              let no : ⊥ = omega (arith, number, less) in no),
          record { place = of-some (λ z. IsFollowed DataAlone z.kind) (field_at l.types q.one) x there (data-test.from x.kind x_data); value = by_one },
          record { place = of-some (λ z. IsFollowed DataAlone z.kind) (field_at l.types q.other) y found (data-test.from y.kind y_data); value = by_other },
        )

    -- ---- from places to formulas

    abbrev SomeTwice : Type 0
    SomeTwice = (g : Formula) × Contains (named_twice l.types sight values n next) g × WSat g bound

    at-values : (i j : ℕ) (u w : Sym) → i < j → IsValueOf data_value l.vars view.vars u i → IsValueOf data_value l.vars view.vars w j →
        Named (place.Var (var_of i)) → Named (place.Var (var_of j)) → SomeTwice
    at-values i j u w less one other by_one by_other = (
      both_name n next u w,
      Contains-append_left by_values (by_both ∷ two_above l.types sight n next ∷ by_fields) (both_name n next u w)
          (inside-values (both_name n next) l.vars view.vars i j u w less one other),
      (sat-and (is_in n next u) (is_in n next w) bound (Named (place.Var (var_of i))) (Named (place.Var (var_of j))) (var-named u i one)
          (var-named w j other)).1
          (by_one, by_other),
    )

    at-vars : (v w : VarId) → (v ≡ w → ⊥) → Named (place.Var v) → Named (place.Var w) → SomeTwice
    at-vars v w apart by_v by_w =
        let (u, one) = named-value v by_v in
        let (x, other) = named-value w by_w in
        elim (cases_order v.0 w.0) as (λ _. SomeTwice) [
          | inl same ↦ absurd (apart (λ i. record { 0 = same i }))
          | inr differ ↦ elim differ as (λ _. SomeTwice) [
            | inl less ↦ at-values v.0 w.0 u x less one other by_v by_w
            | inr more ↦ at-values w.0 v.0 x u more other one by_w by_v
          ]
        ]

    field-parent : (e : CellId) (f : FieldId) → IsLive s c → Named (place.Field e f) → IsParent l.types s e c
    field-parent e f live named = record { field = f; leads = record { kind = named.place; value = named.value; live = live } }

    at-both : (v : VarId) (e : CellId) (f : FieldId) → IsLive s c → Named (place.Var v) → Named (place.Field e f) → SomeTwice
    at-both v e f live by_v by_f =
        let (u, one) = named-value v by_v in (
          by_both,
          Contains-append_right by_values (by_both ∷ two_above l.types sight n next ∷ by_fields) by_both
              (Contains-first by_both (two_above l.types sight n next ∷ by_fields)),
          (sat-and (or_list n (map (is_in n next) values)) (is_below l.types sight n next) bound
              ((x : Sym) × Contains values x × WSat (is_in n next x) bound) ((d : CellId) × IsParent l.types s d c) some-value below-means).1 (
                (u, in-valued data_value l.vars view.vars u v.0 one.entry one.sym_of one.there one.stands one.one, (var-named u v.0 one).1 by_v),
                (e, field-parent e f live by_f),
              ),
        )

    at-fields : (e : CellId) (f g : FieldId) → f.ty ≡ g.ty → f.index < g.index → Named (place.Field e f) → Named (place.Field e g) → SomeTwice
    at-fields e f g typed less by_f by_g =
        let (x, there, x_data) = IsSomeAnd-at (field_at l.types f) (λ z. IsFollowed DataAlone z.kind) by_f.place in
        let (y, found, y_data) = IsSomeAnd-at (field_at l.types g) (λ z. IsFollowed DataAlone z.kind) by_g.place in
        let test = λ (h : FieldId). option_map_or (has_kind is_data) (field_at l.types h) false in
        let (ty_known, f_inside) = field-known l.types f x there in
        let (_, g_within) = field-known l.types g y found in
        let g_inside : g.index < length (fields_of l.types f.ty) = subst (λ t. g.index < length (fields_of l.types t)) (sym typed) g_within in
        let at_g : slice_get (fields_in l.types f.ty) g.index ≡ Some g =
        named-at (field_in f.ty) (length (fields_of l.types f.ty)) g.index g_inside ∙ ap (λ t. Some (field_in t g.index)) typed in
        let inside = inside-passing test (two_fields l.types sight n next) (fields_in l.types f.ty) f.index g.index f g less
        (named-at (field_in f.ty) (length (fields_of l.types f.ty)) f.index f_inside) at_g
        (ap (λ o. option_map_or (has_kind is_data) o false) there ∙ data-test.to x.kind x_data)
        (ap (λ o. option_map_or (has_kind is_data) o false) found ∙ data-test.to y.kind y_data) in
        let listed = Contains-flat_map (field_pairs l.types sight n next) (types_in l.types) f.ty (two_fields l.types sight n next f g)
        (Contains-named type_id (length l.types) f.ty.0 ty_known) inside in (
          two_fields l.types sight n next f g,
          Contains-append_right by_values (by_both ∷ two_above l.types sight n next ∷ by_fields) (two_fields l.types sight n next f g)
              (Contains-later by_both (two_fields l.types sight n next f g) (two_above l.types sight n next ∷ by_fields)
              (Contains-later (two_above l.types sight n next) (two_fields l.types sight n next f g) by_fields listed)),
          (fields-mean f g x y there found x_data y_data).1 (e, by_f.value, by_g.value),
        )

    at-cells : (e d : CellId) (f g : FieldId) → IsLive s c → (place.Field e f ≡ place.Field d g → ⊥) → Named (place.Field e f) → Named (place.Field d g) →
        SomeTwice
    at-cells e d f g live apart by_f by_g = elim (cell_cases e d) as (λ _. SomeTwice) [
      | inr differ ↦ (
        two_above l.types sight n next,
        Contains-append_right by_values (by_both ∷ two_above l.types sight n next ∷ by_fields) (two_above l.types sight n next)
            (Contains-later by_both (two_above l.types sight n next) (two_above l.types sight n next ∷ by_fields)
            (Contains-first (two_above l.types sight n next) by_fields)),
        two-means.1 (e, d, differ, field-parent e f live by_f, field-parent d g live by_g),
      )
      | inl same ↦ (
          let also : Named (place.Field e g) = subst (λ k. Named (place.Field k g)) (sym same) by_g in
          let (x, at_x, x_typed) = own_type s e f (value.Cell (Some c)) by_f.value in
          let (y, at_y, y_typed) = own_type s e g (value.Cell (Some c)) also.value in
          let both : Some x ≡ Some y = sym at_x ∙ at_y in
          let cells : x ≡ y = cc in
          let typed : f.ty ≡ g.ty = sym x_typed ∙ ap (λ (z : CellEntry). z.variant.ty) cells ∙ y_typed in
          elim (cases_order f.index g.index) as (λ _. SomeTwice) [
            | inl index ↦ absurd (apart (λ i. place.Field (same i) (record { ty = typed i; index = index i })))
            | inr order ↦ elim order as (λ _. SomeTwice) [
              | inl less ↦ at-fields e f g typed less by_f also
              | inr more ↦ at-fields e g f (sym typed) more also by_f
            ]
          ])
    ]

    to-formula : (one other : Place) → IsLive s c → (one ≡ other → ⊥) → Named one → Named other → SomeTwice
    to-formula (place.Var v) (place.Var w) live apart by_one by_other = at-vars v w (λ e. apart (ap (λ x. place.Var x) e)) by_one by_other
    to-formula (place.Var v) (place.Field e f) live apart by_one by_other = at-both v e f live by_one by_other
    to-formula (place.Field e f) (place.Var v) live apart by_one by_other = at-both v e f live by_other by_one
    to-formula (place.Field e f) (place.Field d g) live apart by_one by_other = at-cells e d f g live apart by_one by_other

    -- ---- the list

    from-formula : (g : Formula) → Contains (named_twice l.types sight values n next) g → WSat g bound → Twice
    from-formula g inside holds =
        elim (Contains-append_cases by_values (by_both ∷ two_above l.types sight n next ∷ by_fields) g inside) as (λ _. Twice) [
          | inl in_values ↦ from-values g in_values holds
          | inr more ↦ elim (Contains-cases by_both g (two_above l.types sight n next ∷ by_fields) more) as (λ _. Twice) [
            | inl same ↦ from-both (subst (λ k. WSat k bound) (sym same) holds)
            | inr rest ↦ elim (Contains-cases (two_above l.types sight n next) g by_fields rest) as (λ _. Twice) [
              | inl same ↦ from-two (subst (λ k. WSat k bound) (sym same) holds)
              | inr in_fields ↦ from-fields g in_fields holds
            ]
          ]
        ]

    pub twice-means : IsLive s c → WSat (or_list n (named_twice l.types sight values n next)) bound ↔ IsShared l.types l.vars s c
    twice-means live =
        let some = law-or_list n (named_twice l.types sight values n next) bound bound-agrees.finite in (
          (λ h.
              let (g, inside, holds) = some.0 h in
              let (one, other, apart, by_one, by_other) = from-formula g inside holds in
              record { live = live; one = one; other = other; apart = apart; by_one = by_one; by_other = by_other }),
          (λ h. some.1 (to-formula h.one h.other live h.apart h.by_one h.by_other)),
        )

  pub shares-means : WSat (shares l.types sight values next) b ↔ HasShared l.types l.vars s
  shares-means =
      let g = ground l view a first s s at count wells.shows in
      let twice = or_list (suc next) (named_twice l.types sight values (suc next) next) in
      let some = sat-ex1 next (And (is_live l.types sight (suc next) next) twice) b (λ p. LiveAt s at p × WSat twice (with_position b next p)) (λ p.
      sat-and (is_live l.types sight (suc next) next) twice (with_position b next p) (LiveAt s at p) (WSat twice (with_position b next p))
      (g.live (with_position b next p) (suc next) next p (Agrees-bound count a b next p agrees few) (omega (arith, few)) (omega arith) (IsOnly-bound b next p))
      ((λ h. h), (λ h. h))) in (
        (λ h.
            let (p, parts) = some.0 h in
            let (c, here, live) = parts.0 in
            record { cell = c; shared = (twice-means c p here live).0 parts.1 }),
        (λ h.
            let live = h.shared.live in
            let (p, here) = g.there h.cell live in
            some.1 (p, ((h.cell, here, live), (twice-means h.cell p here live).1 h.shared))),
      )
