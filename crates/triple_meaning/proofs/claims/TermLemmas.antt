-- The formulas of paths and of terms.
use Rattle.std.proofs.Common.{◌≡◌, ◌↔◌, inl, inr, ℕ, suc, ◌≤◌, true, IsTrue, List, [], ◌∷◌, reverse, unwrap_or, Option, Some, None, refl, sym, ap, ◌∙◌, subst}
use Rattle.std.proofs.Common.{arith}
use Rattle.std.specs.List.{AllByRecursion}
use Rattle.std.specs.Option.{option_and_then}
use Rattle.std.proofs.lemmas.List.{reverse-append}
use Rattle.gta_theory.specs.Assignments.{Position, Assignment}
use Rattle.ws2s_core.specs.declared.formula.Formula.TheVariants.{And}
use Rattle.ws2s_core.specs.Satisfaction.{WSat}
use Rattle.ws2s_core.proofs.SatisfactionLemmas.{WSat-And}
use Rattle.ws2s_forms.specs.Forms.{ex1}
use Rattle.ws2s_forms.specs.Places.{with_position}
use Rattle.ws2s_forms.proofs.ConnectivesLemmas.{WSat-false}
use Rattle.store_core.specs.declared.ids.CellId.{CellId}
use Rattle.store_core.specs.declared.ids.TypeId.{TypeId}
use Rattle.store_core.specs.declared.ids.FieldId.{FieldId}
use Rattle.store_core.specs.declared.kind.FieldKind.TheVariants as field
use Rattle.store_core.specs.declared.value.Value.{Value}
use Rattle.store_core.specs.declared.value.Value.TheVariants as value
use Rattle.store_core.specs.Tables.{FieldEntry, field_at}
use Rattle.store_core.specs.Stores.{StoreMap, IsLive, field_value}
use Rattle.store_core.proofs.FittingLemmas.{IsSomeAnd-at}
use Rattle.routing_walks.specs.Walks.{DataAndPointers, IsFollowed}
use Rattle.routing_walks.proofs.LiveLemmas.{IsLive-field_value}
use Rattle.store_logic.specs.declared.term.Base.{Base}
use Rattle.store_logic.specs.declared.term.Term.{Term}
use Rattle.store_logic.specs.declared.term.Term.TheVariants as term
use Rattle.store_logic.specs.Sorts.{Sort, Truth, Cell, TermFits, base_sort, sort_along}
use Rattle.store_logic.specs.Terms as terms
use Rattle.store_logic.specs.Terms.{Environment, null, field_of_value, value_along, live_value, cell_in, truth_in, cell_at, truth_at}
use Rattle.tree_encode.specs.Layouts.{LaidOut}
use Rattle.graph_view.specs.declared.view.Sym.{Sym}
use Rattle.graph_view.specs.declared.view.View.{View}
use Rattle.graph_view.specs.Syms.{is_in, truth}
use Rattle.graph_view.specs.Sights.{Sight, sight_of}
use Rattle.graph_view.specs.Live.{is_live}
use Rattle.graph_view.specs.Fields.{is_true}
use Rattle.graph_view.specs.Routes.{names}
use Rattle.graph_view.specs.After.{Standing, IsAt, StandsFor, StandsForCell, IsSymBelow}
use Rattle.graph_meaning.specs.Live.Meaning.{Agrees, MeansHere}
use Rattle.graph_meaning.specs.Live.Standing.{Sits, LiveAt}
use Rattle.graph_meaning.specs.Live.Fields.{NamesAt, FieldNamesAt}
use Rattle.graph_meaning.proofs.live.AgreeingLemmas.{Agrees-itself, Agrees-bound, IsOnly-bound, IsOnly-still, sat-and, sat-ex1}
use Rattle.graph_meaning.proofs.live.FieldsLemmas.{names-means, truth-means}
use Rattle.graph_meaning.proofs.live.SeenLemmas.{seen-sits}
use Rattle.graph_meaning.specs.Walks.Wells.{ShowsWell}
use Rattle.graph_meaning.proofs.walks.GroundLemmas.{IsGround}
use Rattle.graph_meaning.proofs.walks.SeenLemmas.{ground, names-told}
use Rattle.site_list.specs.Claims.{base_value, leads_to, is_value, leads_to_true, is_true_term}
use Rattle.triple_meaning.specs.Claims.Bound.{scope_under, AreBound, TermAt}
use Rattle.triple_meaning.proofs.claims.BoundLemmas.{none-some, agrees-on, NameStands, base-named, form-cell, form-truth}
use Rattle.triple_meaning.proofs.claims.PathLemmas.{back, back-reverse, along-end, all-reverse, field-from, null-cell, null-true, live-cell, cell-live, true-in}
use Rattle.triple_meaning.proofs.claims.PathLemmas.{in-true, IsCellField, cells-along, EndsInBool, truth-along}

-- the value is a live cell that stands there
abbrev pub ValueAt : StoreMap → Standing → Value → Position → Type 0
ValueAt t at x p = (c : CellId) × IsAt at c p × IsLive t c × (x ≡ value.Cell (Some c))

-- ..of which the field names a cell that stands there
abbrev LedAt : StoreMap → Standing → Value → FieldId → Position → Position → Type 0
LedAt t at x f p q = (c : CellId) × IsAt at c p × IsLive t c × (x ≡ value.Cell (Some c)) × FieldNamesAt t at c f q

module _ (l : LaidOut) (view : View) (a : Assignment) (first s t : StoreMap) (at : Standing) (count : ℕ) (wells : ShowsWell l view a first s t at count) where
  abbrev sight : Sight
  sight = sight_of l.vars view

  sits : Sits s at
  sits = seen-sits l view a first s t at count wells.shows

  looks : IsGround l.types (sight_of l.vars view) count a s t at
  looks = ground l view a first s t at count wells.shows

  -- ---- paths

  module _ (own : ℕ) (b : Assignment) (agrees : Agrees count a b) (few : count ≤ own) (u : Sym) (o : Option CellId) (under : IsSymBelow own u)
      (stands : StandsForCell b at u o) where
    pub leads-means : (fs : List FieldId) → AllByRecursion (IsCellField l.types) fs →
        MeansHere own b (λ next x. leads_to l.types (sight_of l.vars view) u fs next x) (ValueAt t at (back t (value.Cell o) fs))
    leads-means [] fine c next x p later more less only =
        let agreed = agrees-on count own a b c agrees few later in
        let both = sat-and (is_in next x u) (is_live l.types sight next x) c (NamesAt at (value.Cell o) p) (LiveAt t at p)
        (names-means own b c next x p at s u o sits later only stands under)
        (looks.live c next x p agreed (omega (arith, few, more)) less only) in (
          (λ h.
              let k = both.0 h in
              let (d, here, is) = k.0 in
              let (e, also, lives) = k.1 in
              (d, here, subst (λ z. IsLive t z) (looks.apart e d p also here) lives, is)),
          (λ (h : ValueAt t at (value.Cell o) p). let (d, here, lives, is) = h in both.1 ((d, here, is), (d, here, lives))),
        )
    leads-means (f ∷ before) fine c next x p later more less only =
        let agreed = agrees-on count own a b c agrees few later in
        let some = sat-ex1 next (And (leads_to l.types sight u before (suc next) next) (names l.types sight (suc next) f next x)) c
        (λ q. LedAt t at (back t (value.Cell o) before) f q p) (led (leads-means before fine.1)) in
        let whole = sat-and (ex1 next (And (leads_to l.types sight u before (suc next) next) (names l.types sight (suc next) f next x)))
        (is_live l.types sight next x) c ((q : Position) × LedAt t at (back t (value.Cell o) before) f q p) (LiveAt t at p) some
        (looks.live c next x p agreed (omega (arith, few, more)) less only) in (
          (λ h.
              let k = whole.0 h in
              let (q, ends) = k.0 in
              let (e, at_q, lives, is, named) = ends in
              let (d, here, held) = named in
              let (g, also, living) = k.1 in (
                d,
                here,
                subst (λ z. IsLive t z) (looks.apart g d p also here) living,
                ap (λ v. field_of_value t v f) is ∙ ap (λ w. unwrap_or w null) held,
              )),
          (λ (h : ValueAt t at (back t (value.Cell o) (f ∷ before)) p).
              let (d, here, living, is) = h in
              let (e, value_is, held) = field-from t (back t (value.Cell o) before) f (value.Cell (Some d)) (null-cell d) is in
              let lives = IsLive-field_value t e f (value.Cell (Some d)) held in
              let (q, at_q) = looks.there e lives in
              whole.1 ((q, (e, at_q, lives, value_is, (d, here, held))), (d, here, living))),
        )
      where
        led : MeansHere own b (λ m y. leads_to l.types sight u before m y) (ValueAt t at (back t (value.Cell o) before)) → (q : Position) →
            WSat (And (leads_to l.types sight u before (suc next) next) (names l.types sight (suc next) f next x)) (with_position c next q)
            ↔ LedAt t at (back t (value.Cell o) before) f q p
        led path q =
            let g = with_position c next q in
            let bound = Agrees-bound own b c next q later more in
            let at_q = IsOnly-bound c next q in
            let at_p = IsOnly-still c next x q p less only in
            let (entry, there, follows) = IsSomeAnd-at (field_at l.types f) (λ e. IsFollowed DataAndPointers e.kind) fine.0 in
            let rest = path g (suc next) next q bound (omega (arith, more)) (omega arith) at_q in
            let named : (e : CellId) → IsAt at e q → IsLive t e → WSat (names l.types sight (suc next) f next x) g ↔ FieldNamesAt t at e f p = λ e here lives.
            names-told l view a first s t at count wells.shows wells.table wells.well f entry g (suc next) next x q p e there follows
            (agrees-on count own a b g agrees few bound) (omega (arith, few, more)) (omega arith) (omega (arith, less)) at_q at_p here lives in
            let both = WSat-And (leads_to l.types sight u before (suc next) next) (names l.types sight (suc next) f next x) g in (
              (λ h.
                  let k = both.0 h in
                  let (e, here, lives, is) = rest.0 k.0 in
                  (e, here, lives, is, (named e here lives).0 k.1)),
              (λ (h : LedAt t at (back t (value.Cell o) before) f q p).
                  let (e, here, lives, is, names_p) = h in
                  both.1 (rest.1 (e, here, lives, is), (named e here lives).1 names_p)),
            )

    -- a cell behind a path stands there, and its field is true
    abbrev TrueAt : List FieldId → FieldId → Position → Type 0
    TrueAt fs f q =
        (c : CellId) × IsAt at c q × IsLive t c × (back t (value.Cell o) fs ≡ value.Cell (Some c)) × (field_value t c f ≡ Some (value.Bool true))

    -- a bool field behind a path
    pub true-means : (fs : List FieldId) (f : FieldId) (entry : FieldEntry) → AllByRecursion (IsCellField l.types) fs → field_at l.types f ≡ Some entry →
        entry.kind ≡ field.Bool → WSat (leads_to_true l.types (sight_of l.vars view) u (f ∷ fs) own) b
        ↔ (field_of_value t (back t (value.Cell o) fs) f ≡ value.Bool true)
    true-means fs f entry fine there kind = (
      (λ h.
          let (q, parts) = some.0 h in
          let (c, here, lives, is, held) = parts in
          ap (λ v. field_of_value t v f) is ∙ ap (λ w. unwrap_or w null) held),
      (λ h.
          let (c, is, held) = field-from t (back t (value.Cell o) fs) f (value.Bool true) null-true h in
          let lives = IsLive-field_value t c f (value.Bool true) held in
          let (q, here) = looks.there c lives in
          some.1 (q, (c, here, lives, is, held))),
    )
      where
        each : (q : Position) → WSat (And (leads_to l.types sight u fs (suc own) own) (is_true l.types sight (suc own) f own)) (with_position b own q) ↔
            TrueAt fs f q
        each q =
            let g = with_position b own q in
            let bound = Agrees-bound own b b own q (Agrees-itself own b agrees.finite) (omega arith) in
            let at_q = IsOnly-bound b own q in
            let path = leads-means fs fine g (suc own) own q bound (omega arith) (omega arith) at_q in
            let so : (c : CellId) → IsAt at c q → IsLive t c → WSat (is_true l.types sight (suc own) f own) g ↔ (field_value t c f ≡ Some (value.Bool true))
            = λ c here lives.
            looks.truth f entry g (suc own) own q c there kind (agrees-on count own a b g agrees few bound) (omega (arith, few)) (omega arith) at_q here
            lives in
            let both = WSat-And (leads_to l.types sight u fs (suc own) own) (is_true l.types sight (suc own) f own) g in (
              (λ h.
                  let k = both.0 h in
                  let (c, here, lives, is) = path.0 k.0 in
                  (c, here, lives, is, (so c here lives).0 k.1)),
              (λ (h : TrueAt fs f q).
                  let (c, here, lives, is, held) = h in
                  both.1 (path.1 (c, here, lives, is), (so c here lives).1 held)),
            )

        some : WSat (ex1 own (And (leads_to l.types sight u fs (suc own) own) (is_true l.types sight (suc own) f own))) b ↔ ((q : Position) × TrueAt fs f q)
        some = sat-ex1 own (And (leads_to l.types sight u fs (suc own) own) (is_true l.types sight (suc own) f own)) b (λ q. TrueAt fs f q) each

  -- ---- terms

  module _ (own : ℕ) (b : Assignment) (agrees : Agrees count a b) (few : count ≤ own) (sorts : List Sort) (e : Environment)
      (bound : AreBound at b own sorts e.bound) where
    pub value-means : (it : Term) (ty : TypeId) → TermFits l.types (scope_under l.vars sorts) it (Cell ty) →
        MeansHere own b (λ next x. is_value l.types (sight_of l.vars view) view.vars own it next x) (TermAt t at e it)
    value-means term.Null ty fits = λ c next x p later more less only. (
      (λ h. absurd (WSat-false next c h)),
      (λ (h : TermAt t at e term.Null p). let (d, here, is) = h in none-some d is),
    )
    value-means (term.At name fields) ty fits = by (base_sort (scope_under l.vars sorts) name) refl fits
      where
        by : (k : Option Sort) → base_sort (scope_under l.vars sorts) name ≡ k → option_and_then (λ start. sort_along l.types start fields) k ≡ Some (Cell ty) →
            MeansHere own b (λ next x. leads_to l.types sight (base_value view.vars own name) (reverse fields) next x) (TermAt t at e (term.At name fields))
        by None is q = none-some (Cell ty) q
        by (Some start) is q = λ c next x p later more less only.
            let named = base-named l view a first s t at count wells.shows own b agrees few sorts e name start bound is in
            let (cell, fine) = cells-along l.types fields start ty q in
            let (o, held) = form-cell start (terms.base_value t e name) cell named.form in
            let path = leads-means own b agrees few (base_value view.vars own name) o named.below
            (subst (λ w. StandsFor b at (base_value view.vars own name) w) held named.stands) (reverse fields)
            (all-reverse (IsCellField l.types) fields fine) c next x p later more less only in
            let same : back t (value.Cell o) (reverse fields) ≡ value_along t (terms.base_value t e name) fields =
            back-reverse t (value.Cell o) fields ∙ ap (λ w. value_along t w fields) (sym held) in (
              (λ h.
                  let (d, here, lives, value_is) = path.0 h in
                  (d, here, cell-live t (value_along t (terms.base_value t e name) fields) d lives (sym same ∙ value_is))),
              (λ (h : TermAt t at e (term.At name fields) p).
                  let (d, here, value_is) = h in
                  let (lives, cell_is) = live-cell t (value_along t (terms.base_value t e name) fields) d value_is in
                  path.1 (d, here, lives, same ∙ cell_is)),
            )

    -- what a term is is live
    pub term-live : (it : Term) (c : CellId) → cell_at t e it ≡ Some c → IsLive t c
    term-live term.Null c is = none-some c is
    term-live (term.At name fields) c is = (live-cell t (value_along t (terms.base_value t e name) fields) c is).0

    abbrev value_at_name : Base → Value
    value_at_name name = terms.base_value t e name

    abbrev sym_at_name : Base → Sym
    sym_at_name name = base_value view.vars own name

    pub term-truth-means : (it : Term) → TermFits l.types (scope_under l.vars sorts) it Truth →
        WSat (is_true_term l.types (sight_of l.vars view) view.vars own it) b ↔ IsTrue (truth_at t e it)
    term-truth-means term.Null fits = absurd fits
    term-truth-means (term.At name fields) fits = by (base_sort (scope_under l.vars sorts) name) refl fits
      where
        -- a name alone
        alone : NameStands own b at (sym_at_name name) (value_at_name name) Truth → WSat (truth own (sym_at_name name)) b ↔ IsTrue
            (truth_in (live_value t (value_at_name name)))
        alone named =
            let (k, held) = form-truth (value_at_name name) named.form in
            let means = truth-means own b b own at s (sym_at_name name) (value.Bool k) (Agrees-itself own b agrees.finite) (omega arith)
            (subst (λ w. StandsFor b at (sym_at_name name) w) held named.stands) tt named.below in (
              (λ h. in-true t (value_at_name name) (held ∙ means.0 h)),
              (λ h. means.1 (sym held ∙ true-in t (value_at_name name) h)),
            )

        behind : (start : Sort) → NameStands own b at (sym_at_name name) (value_at_name name) start → EndsInBool l.types start fields →
            WSat (leads_to_true l.types sight (sym_at_name name) (reverse fields) own) b ↔ IsTrue
            (truth_in (live_value t (value_along t (value_at_name name) fields)))
        behind start named ends =
            let (o, held) = form-cell start (value_at_name name) ends.cell named.form in
            let means = true-means own b agrees few (sym_at_name name) o named.below (subst (λ w. StandsFor b at (sym_at_name name) w) held named.stands)
            (reverse ends.before) ends.last ends.entry
            (all-reverse (IsCellField l.types) ends.before ends.cells) ends.known ends.is_bool in
            let order : reverse fields ≡ ends.last ∷ reverse ends.before = ap reverse ends.order ∙ reverse-append ends.before (ends.last ∷ []) in
            let same : field_of_value t (back t (value.Cell o) (reverse ends.before)) ends.last ≡ value_along t (value_at_name name) fields =
            ap (λ w. field_of_value t w ends.last) (back-reverse t (value.Cell o) ends.before ∙ ap (λ w. value_along t w ends.before) (sym held))
            ∙ sym (ap (value_along t (value_at_name name)) ends.order ∙ along-end t (value_at_name name) ends.before ends.last) in (
              (λ h.
                  in-true t (value_along t (value_at_name name) fields)
                  (sym same ∙ means.0 (subst (λ fs. WSat (leads_to_true l.types sight (sym_at_name name) fs own) b) order h))),
              (λ h.
                  subst (λ fs. WSat (leads_to_true l.types sight (sym_at_name name) fs own) b) (sym order)
                  (means.1 (same ∙ true-in t (value_along t (value_at_name name) fields) h))),
            )

        by : (k : Option Sort) → base_sort (scope_under l.vars sorts) name ≡ k → option_and_then (λ start. sort_along l.types start fields) k ≡ Some Truth →
            WSat (leads_to_true l.types sight (sym_at_name name) (reverse fields) own) b ↔ IsTrue
            (truth_in (live_value t (value_along t (value_at_name name) fields)))
        by None is q = none-some Truth q
        by (Some start) is q =
            let named = base-named l view a first s t at count wells.shows own b agrees few sorts e name start bound is in
            elim (truth-along l.types fields start q) as
            (λ _. WSat (leads_to_true l.types sight (sym_at_name name) (reverse fields) own) b ↔ IsTrue
            (truth_in (live_value t (value_along t (value_at_name name) fields)))) [
              | inl end ↦ subst (λ fs. WSat (leads_to_true l.types sight (sym_at_name name) (reverse fs) own) b ↔ IsTrue
                  (truth_in (live_value t (value_along t (value_at_name name) fs)))) (sym end.1)
                  (alone (subst (λ k. NameStands own b at (sym_at_name name) (value_at_name name) k) end.0 named))
              | inr ends ↦ behind start named ends
            ]
