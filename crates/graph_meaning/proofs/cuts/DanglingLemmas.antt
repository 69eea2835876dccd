-- The formula of dangling references.
use Rattle.std.proofs.Common.{◌≡◌, ◌↔◌, ◌⊎◌, inl, inr, ℕ, suc, ◌<◌, ◌≤◌, true, IsTrue, IsSomeAnd, List, [], ◌∷◌, ◌++◌, map, slice_get, Option, Some, None}
use Rattle.std.proofs.Common.{Contains, refl, sym, ap, ◌∙◌, subst, arith}
use Rattle.std.specs.Prelude.{IsSome}
use Rattle.std.proofs.lemmas.Bool.{false≢true}
use Rattle.std.proofs.lemmas.List.Elements.{Contains-append_left, Contains-append_right, Contains-append_cases}
use Rattle.gta_theory.specs.Assignments.{Position, Assignment, IsOnly}
use Rattle.gta_theory.proofs.ListsLemmas.{Contains-map, Contains-mapped, Contains-first}
use Rattle.ws2s_core.specs.declared.formula.Formula.{Formula}
use Rattle.ws2s_core.specs.declared.formula.Formula.TheVariants.{Not}
use Rattle.ws2s_core.specs.Satisfaction.{WSat}
use Rattle.ws2s_forms.specs.Forms.{and_list, ex1}
use Rattle.ws2s_forms.specs.Places.{with_position}
use Rattle.ws2s_forms.proofs.LawsLemmas.{law-or_list}
use Rattle.store_core.specs.declared.ids.CellId.{CellId}
use Rattle.store_core.specs.declared.ids.FieldId.{FieldId}
use Rattle.store_core.specs.declared.ids.VarId.{VarId}
use Rattle.store_core.specs.declared.kind.FieldKind.{FieldKind}
use Rattle.store_core.specs.declared.kind.FieldKind.TheVariants as field
use Rattle.store_core.specs.declared.kind.VarKind.{VarKind}
use Rattle.store_core.specs.declared.kind.VarKind.TheVariants as var
use Rattle.store_core.specs.declared.value.Value.{Value}
use Rattle.store_core.specs.declared.value.Value.TheVariants as value
use Rattle.store_core.specs.Tables.{TypeEntry, FieldEntry, VarEntry, field_at, var_at}
use Rattle.store_core.specs.Stores.{StoreMap, CellEntry, IsLive, FieldFits, VarFits, cell_of, field_value, var_value}
use Rattle.store_core.proofs.FittingLemmas.{IsSomeAnd-at, var_at_value, slot_at_value}
use Rattle.routing_walks.specs.declared.fault.Place.{Place}
use Rattle.routing_walks.specs.declared.fault.Place.TheVariants as place
use Rattle.routing_walks.specs.Walks.{DataAndPointers, IsFollowed, IsOfType}
use Rattle.routing_walks.specs.WellFormed.{NamesDead, IsDanglingReference}
use Rattle.routing_walks.specs.CutFaults.{HasDanglingReference}
use Rattle.routing_walks.proofs.LiveLemmas.{IsSome-and, IsLive-field_value}
use Rattle.tree_encode.specs.Layouts.{LaidOut}
use Rattle.tree_encode.proofs.PositionsLemmas.{own_type}
use Rattle.tree_store.proofs.SpotsLemmas.{of-some}
use Rattle.graph_view.specs.declared.view.Sym.{Sym}
use Rattle.graph_view.specs.declared.view.View.{View}
use Rattle.graph_view.specs.Sights.{Sight, sight_of}
use Rattle.graph_view.specs.Live.{lives_in, is_live, is_dead}
use Rattle.graph_view.specs.Fields.{is_reference, has_kind, fields_of_kind}
use Rattle.graph_view.specs.Routes.{names}
use Rattle.graph_view.specs.Cuts.{cell_value, values_by, field_dangles, dangles}
use Rattle.graph_view.specs.After.{Standing, IsAt, StandsFor, StandsForCell, IsSymBelow}
use Rattle.graph_meaning.specs.Live.Meaning.{Agrees}
use Rattle.graph_meaning.specs.Live.Standing.{LiveAt, TypeAt}
use Rattle.graph_meaning.specs.Live.Fields.{FieldNamesAt}
use Rattle.graph_meaning.proofs.live.AgreeingLemmas.{Agrees-bound, IsOnly-bound, IsOnly-still, sat-not, sat-ex1, sat-three}
use Rattle.graph_meaning.proofs.live.SeenLemmas.{seen-is_dead}
use Rattle.graph_meaning.proofs.live.TellLemmas.{stands-somewhere}
use Rattle.routing_walks.proofs.DecidedLemmas.{in_none}
use Rattle.tree_store.proofs.ListsLemmas.{Contains-one}
use Rattle.graph_meaning.proofs.live.ReadLemmas.{is-none}
use Rattle.graph_meaning.specs.Walks.Wells.{ShowsWell}
use Rattle.graph_meaning.proofs.walks.GroundLemmas.{reference-test}
use Rattle.graph_meaning.proofs.walks.ListedLemmas.{field-listed, listed-field}
use Rattle.graph_meaning.proofs.walks.SeenLemmas.{ground, names-told, named-placed}
use Rattle.graph_meaning.proofs.cuts.ValuesLemmas.{IsValueOf, valued-in, in-valued, IsHeld, var-held}

-- ---- dead cells

pub dead-from : (o : Option CellEntry) → (IsSome o → ⊥) → o ≡ None
dead-from None h = refl
dead-from (Some cell) h = absurd (h refl)

-- a value of a data or pointer variable is a reference
pub cell-kind : (s : StoreMap) (kind : VarKind) (w u : Sym) (x : Value) → Contains (cell_value kind w) u → VarFits s kind x →
    (w ≡ u) × ((o : Option CellId) × (x ≡ value.Cell o))
cell-kind s var.Bool w u x one fits = absurd (in_none u one)
cell-kind s (var.LogicSet ty) w u x one fits = absurd (in_none u one)
cell-kind s var.LogicBool w u x one fits = absurd (in_none u one)
cell-kind s (var.Data ty) w u (value.Bool k) one fits = absurd fits
cell-kind s (var.Data ty) w u (value.Cells k) one fits = absurd fits
cell-kind s (var.Data ty) w u (value.Cell o) one fits = (Contains-one w u one, (o, refl))
cell-kind s (var.Pointer ty) w u (value.Bool k) one fits = absurd fits
cell-kind s (var.Pointer ty) w u (value.Cells k) one fits = absurd fits
cell-kind s (var.Pointer ty) w u (value.Cell o) one fits = (Contains-one w u one, (o, refl))

-- and one that is a reference is of such a variable
pub kind-cell : (s : StoreMap) (kind : VarKind) (w : Sym) (o : Option CellId) → VarFits s kind (value.Cell o) → Contains (cell_value kind w) w
kind-cell s var.Bool w o fits = absurd fits
kind-cell s (var.LogicSet ty) w o fits = absurd fits
kind-cell s var.LogicBool w o fits = absurd fits
kind-cell s (var.Data ty) w o fits = Contains-first w []
kind-cell s (var.Pointer ty) w o fits = Contains-first w []

reference-field : (s : StoreMap) (kind : FieldKind) (o : Option CellId) → FieldFits s kind (value.Cell o) → IsFollowed DataAndPointers kind
reference-field s field.Bool o fits = absurd fits
reference-field s (field.Data target) o fits = tt
reference-field s (field.Pointer target along) o fits = tt

-- the value names a dead cell
names-dead : (s : StoreMap) (x : Value) → NamesDead s x → (c : CellId) × (x ≡ value.Cell (Some c)) × (cell_of s c ≡ None)
names-dead s (value.Bool k) h = absurd h
names-dead s (value.Cells k) h = absurd h
names-dead s (value.Cell o) h =
    let (c, is, dead) = IsSomeAnd-at o (λ d. cell_of s d ≡ None) h in (c, ap (λ p. value.Cell p) is, dead)

dead-names : (s : StoreMap) (c : CellId) → cell_of s c ≡ None → NamesDead s (value.Cell (Some c))
dead-names s c dead = dead

module _ (l : LaidOut) (view : View) (a : Assignment) (first s : StoreMap) (at : Standing) (count : ℕ) (wells : ShowsWell l view a first s s at count)
    (b : Assignment) (next : ℕ) (agrees : Agrees count a b) (few : count ≤ next) where
  abbrev sight : Sight
  sight = sight_of l.vars view

  abbrev cells : List Sym
  cells = values_by cell_value l.vars view.vars

  abbrev fields : List FieldId
  fields = fields_of_kind l.types is_reference

  -- ---- variables

  var-dangles : (u : Sym) → Contains cells u → WSat (is_dead l.types sight next u) b → HasDanglingReference s
  var-dangles u among holds =
      let (i, is) = valued-in cell_value l.vars view.vars u among in
      let v : VarId = record { 0 = i } in
      let var_held = var-held l view a first s s at count wells.shows v is.entry is.there in
      let both : Some is.sym_of ≡ Some var_held.sym_of = sym is.stands ∙ var_held.is in
      let same : is.sym_of ≡ var_held.sym_of = cc in
      let (same_sym, (o, value_is)) = cell-kind s is.entry.kind is.sym_of u var_held.held is.one var_held.fits in
      let u_is : var_held.sym_of ≡ u = sym same ∙ same_sym in
      let stands : StandsForCell a at u o = subst (λ w. StandsForCell a at w o) u_is (subst (λ x. StandsFor a at var_held.sym_of x) value_is var_held.stands) in
      let under = subst (λ w. IsSymBelow count w) u_is var_held.under in
      let dead = (seen-is_dead l view a first s s at count wells.shows b next u o agrees few under stands).0 holds in
      let (c, o_is, (p, (here, not_live))) = IsSomeAnd-at o (λ d. (q : Position) × (IsAt at d q × (IsLive s d → ⊥))) dead in
      record {
        place = place.Var v;
        dangling = of-some (NamesDead s) (var_value s v) var_held.held var_held.holds
            (subst (λ x. NamesDead s x) (sym (value_is ∙ ap (λ p. value.Cell p) o_is)) (dead-names s c (dead-from (cell_of s c) not_live)));
      }

  dangling-var : (v : VarId) → IsDanglingReference s (place.Var v) → (u : Sym) × Contains cells u × WSat (is_dead l.types sight next u) b
  dangling-var v h =
      let (x, holds, dead) = IsSomeAnd-at (var_value s v) (NamesDead s) h in
      let (c, x_is, gone) = names-dead s x dead in
      let var_at = var_at_value l.types l.vars s wells.shows.seen.fits v x holds in
      let var_held = var-held l view a first s s at count wells.shows v var_at.entry var_at.at in
      let both : Some x ≡ Some var_held.held = sym holds ∙ var_held.holds in
      let same : x ≡ var_held.held = cc in
      let held_is : var_held.held ≡ value.Cell (Some c) = sym same ∙ x_is in
      let u = var_held.sym_of in
      let stands : StandsForCell a at u (Some c) = subst (λ y. StandsFor a at u y) held_is var_held.stands in
      let (p, here) = stands-somewhere a at u c stands in (
        u,
        in-valued cell_value l.vars view.vars u v.0 var_at.entry u var_at.at var_held.is
            (kind-cell s var_at.entry.kind u (Some c) (subst (λ y. VarFits s var_at.entry.kind y) held_is var_held.fits)),
        (seen-is_dead l view a first s s at count wells.shows b next u (Some c) agrees few var_held.under stands).1
            (p, (here, (λ live. is-none (cell_of s c) gone live))),
      )

  -- ---- fields

  abbrev inner : FieldId → Formula
  inner f =
      and_list (suc (suc next)) (lives_in l.types sight (suc (suc next)) f.ty next
      ∷ names l.types sight (suc (suc next)) f next (suc next) ∷ Not (is_live l.types sight (suc (suc next)) (suc next)) ∷ [])

  abbrev at_two : Position → Position → Assignment
  at_two p q = with_position (with_position b next p) (suc next) q

  field-dangles : (f : FieldId) (entry : FieldEntry) → field_at l.types f ≡ Some entry → IsFollowed DataAndPointers entry.kind →
      WSat (field_dangles l.types sight next f) b ↔ ((c : CellId) × (d : CellId) × (field_value s c f ≡ Some (value.Cell (Some d))) × (cell_of s d ≡ None))
  field-dangles f entry there follows = (
    (λ h.
        let (p, k) = some.0 h in
        let (q, parts) = (each p).0 k in
        let (typed, named, no_live) = (whole p q).0 parts in
        let (c, at_p, of_ty) = typed in
        let live = IsSome-and (cell_of s c) (λ e. e.variant.ty ≡ f.ty) of_ty in
        let (d, at_q, value_is) = (told p q c at_p live).0 named in
        (c, d, value_is, dead-from (cell_of s d) (λ lives. no_live (d, at_q, lives)))),
    (λ h.
        let (c, d, value_is, gone) = h in
        let live = IsLive-field_value s c f (value.Cell (Some d)) value_is in
        let (p, at_p) = (ground l view a first s s at count wells.shows).there c live in
        let (q, at_q) = named-placed l view a first s s at count wells.shows wells.table wells.well f entry there follows c d value_is in
        let (cell, found, typed) = own_type s c f (value.Cell (Some d)) value_is in
        some.1 (
          p,
          (each p).1 (
            q,
            (whole p q).1 (
              (c, at_p, of-some (λ e. e.variant.ty ≡ f.ty) (cell_of s c) cell found typed),
              (told p q c at_p live).1 (d, at_q, value_is),
              (λ (k : LiveAt s at q). is-none (cell_of s d) gone
                  (subst (λ e. IsLive s e) ((ground l view a first s s at count wells.shows).apart k.0 d q k.1 at_q) k.2)),
            ),
          ),
        )),
  )
    where
      agreed : (p : Position) → Agrees count a (with_position b next p)
      agreed p = Agrees-bound count a b next p agrees few

      agreed_two : (p q : Position) → Agrees count a (at_two p q)
      agreed_two p q = Agrees-bound count a (with_position b next p) (suc next) q (agreed p) (omega (arith, few))

      at_p : (p q : Position) → IsOnly (at_two p q next) p
      at_p p q = IsOnly-still (with_position b next p) (suc next) next q p (omega arith) (IsOnly-bound b next p)

      at_q : (p q : Position) → IsOnly (at_two p q (suc next)) q
      at_q p q = IsOnly-bound (with_position b next p) (suc next) q

      some : WSat (field_dangles l.types sight next f) b ↔ ((p : Position) × WSat (ex1 (suc next) (inner f)) (with_position b next p))
      some = sat-ex1 next (ex1 (suc next) (inner f)) b (λ p. WSat (ex1 (suc next) (inner f)) (with_position b next p)) (λ p. ((λ h. h), (λ h. h)))

      each : (p : Position) → WSat (ex1 (suc next) (inner f)) (with_position b next p) ↔ ((q : Position) × WSat (inner f) (at_two p q))
      each p = sat-ex1 (suc next) (inner f) (with_position b next p) (λ q. WSat (inner f) (at_two p q)) (λ q. ((λ h. h), (λ h. h)))

      whole : (p q : Position) → WSat (inner f) (at_two p q)
          ↔ (TypeAt s at f.ty p × WSat (names l.types sight (suc (suc next)) f next (suc next)) (at_two p q) × (LiveAt s at q → ⊥))
      whole p q =
          let g = ground l view a first s s at count wells.shows in
          sat-three (suc (suc next)) (lives_in l.types sight (suc (suc next)) f.ty next) (names l.types sight (suc (suc next)) f next (suc next))
          (Not (is_live l.types sight (suc (suc next)) (suc next))) (at_two p q) (TypeAt s at f.ty p)
          (WSat (names l.types sight (suc (suc next)) f next (suc next)) (at_two p q)) (LiveAt s at q → ⊥)
          (g.typed f.ty (at_two p q) (suc (suc next)) next p (agreed_two p q) (omega (arith, few)) (omega arith) (at_p p q)) ((λ h. h), (λ h. h))
          (sat-not (is_live l.types sight (suc (suc next)) (suc next)) (at_two p q) (LiveAt s at q)
          (g.live (at_two p q) (suc (suc next)) (suc next) q (agreed_two p q) (omega (arith, few)) (omega arith) (at_q p q)))

      told : (p q : Position) (c : CellId) → IsAt at c p → IsLive s c →
          WSat (names l.types sight (suc (suc next)) f next (suc next)) (at_two p q) ↔ FieldNamesAt s at c f q
      told p q c here live =
          names-told l view a first s s at count wells.shows wells.table wells.well f entry (at_two p q) (suc (suc next)) next (suc next) p q c there follows
          (agreed_two p q) (omega (arith, few)) (omega arith) (omega arith) (at_p p q) (at_q p q) here live

  -- ---- all together

  pub dangles-means : WSat (dangles l.types sight cells next) b ↔ HasDanglingReference s
  dangles-means =
      let of_vars = map (is_dead l.types sight next) cells in
      let of_fields = map (field_dangles l.types sight next) fields in
      let some = law-or_list next (of_vars ++ of_fields) b agrees.finite in (
        (λ h.
            let (g, listed, holds) = some.0 h in
            elim (Contains-append_cases of_vars of_fields g listed) as (λ _. HasDanglingReference s) [
              | inl in_vars ↦ (
                  let (u, among, is) = Contains-mapped (is_dead l.types sight next) cells g in_vars in
                  var-dangles u among (subst (λ k. WSat k b) (sym is) holds))
              | inr in_fields ↦ (
                  let (f, among, is) = Contains-mapped (field_dangles l.types sight next) fields g in_fields in
                  let (entry, there, so) = listed-field l.types (has_kind is_reference) f among in
                  let (c, d, value_is, gone) = (field-dangles f entry there (reference-test.from entry.kind so)).0 (subst (λ k. WSat k b) (sym is) holds) in
                  record {
                    place = place.Field c f;
                    dangling = of-some (NamesDead s) (field_value s c f) (value.Cell (Some d)) value_is (dead-names s d gone);
                  })
            ]),
        (λ h. by h.place h.dangling),
      )
    where
      by : (p : Place) → IsDanglingReference s p → WSat (dangles l.types sight cells next) b
      by (place.Var v) h =
          let (u, among, holds) = dangling-var v h in
          let of_vars = map (is_dead l.types sight next) cells in
          let of_fields = map (field_dangles l.types sight next) fields in
          (law-or_list next (of_vars ++ of_fields) b agrees.finite).1 (
            is_dead l.types sight next u,
            Contains-append_left of_vars of_fields (is_dead l.types sight next u) (Contains-map (is_dead l.types sight next) cells u among),
            holds,
          )
      by (place.Field c f) h =
          let (x, value_is, dead) = IsSomeAnd-at (field_value s c f) (NamesDead s) h in
          let (d, x_is, gone) = names-dead s x dead in
          let slot = slot_at_value l.types l.vars s wells.shows.seen.fits c f x value_is in
          let follows = reference-field s slot.entry.kind (Some d) (subst (λ y. FieldFits s slot.entry.kind y) x_is slot.fits) in
          let of_vars = map (is_dead l.types sight next) cells in
          let of_fields = map (field_dangles l.types sight next) fields in
          (law-or_list next (of_vars ++ of_fields) b agrees.finite).1 (
            field_dangles l.types sight next f,
            Contains-append_right of_vars of_fields (field_dangles l.types sight next f) (Contains-map (field_dangles l.types sight next) fields f
                (field-listed l.types (has_kind is_reference) f slot.entry slot.at (reference-test.to slot.entry.kind follows))),
            (field-dangles f slot.entry slot.at follows).1 (c, d, value_is ∙ ap (λ y. Some y) x_is, gone),
          )
