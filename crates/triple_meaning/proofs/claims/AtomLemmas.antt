-- The forms of assertion without parts.
use Rattle.std.proofs.Common.{◌≡◌, ◌↔◌, ℕ, suc, ◌≤◌, List, [], ◌∷◌, Option, Some, None, Contains, refl, sym, ap, ◌∙◌, subst, arith}
use Rattle.std.specs.Prelude.{IsSomeAnd}
use Rattle.gta_theory.specs.Assignments.{Position, Assignment}
use Rattle.ws2s_core.specs.declared.formula.Formula.{Formula}
use Rattle.ws2s_core.specs.declared.formula.Formula.TheVariants.{And}
use Rattle.ws2s_core.specs.Satisfaction.{WSat}
use Rattle.ws2s_forms.specs.Forms.{and_list, imp, iff, ex1, all1}
use Rattle.ws2s_forms.specs.Places.{with_position}
use Rattle.store_core.specs.declared.ids.CellId.{CellId}
use Rattle.store_core.specs.declared.ids.TypeId.{TypeId}
use Rattle.store_core.specs.declared.ids.VariantId.{VariantId}
use Rattle.store_core.specs.declared.kind.Route.{Route}
use Rattle.store_core.specs.declared.value.Value.{Value}
use Rattle.store_core.specs.declared.value.Value.TheVariants as value
use Rattle.store_core.specs.Tables.{KnowsVariant, KnowsRoute}
use Rattle.store_core.specs.Stores.{StoreMap, IsLive}
use Rattle.store_core.proofs.FittingLemmas.{IsSomeAnd-at}
use Rattle.routing_walks.specs.Walks.{DataAndPointers, IsOfVariant, Walk}
use Rattle.store_logic.specs.declared.term.Base.{Base}
use Rattle.store_logic.specs.declared.term.Term.{Term}
use Rattle.store_logic.specs.Sorts.{Sort, Cell, Set, BaseFits, TermFits}
use Rattle.store_logic.specs.Terms as terms
use Rattle.store_logic.specs.Terms.{Environment, cell_at, set_at, set_in}
use Rattle.tree_encode.specs.Layouts.{LaidOut}
use Rattle.tree_store.proofs.SpotsLemmas.{of-some}
use Rattle.graph_view.specs.declared.view.Sym.{Sym}
use Rattle.graph_view.specs.declared.view.Sym.TheVariants.{Null, At}
use Rattle.graph_view.specs.declared.view.View.{View}
use Rattle.graph_view.specs.Syms.{is_in}
use Rattle.graph_view.specs.Sights.{Sight, sight_of}
use Rattle.graph_view.specs.Live.{lives, is_live}
use Rattle.graph_view.specs.Routes.{walk}
use Rattle.graph_view.specs.After.{Standing, IsAt}
use Rattle.graph_meaning.specs.Live.Meaning.{Agrees, MeansHere}
use Rattle.graph_meaning.specs.Live.Standing.{LiveAt, VariantAt}
use Rattle.graph_meaning.proofs.live.AgreeingLemmas.{Agrees-itself, Agrees-bound, IsOnly-bound, IsOnly-still, member-agreed, sat-ex1, sat-three}
use Rattle.graph_meaning.specs.Walks.Walking.{WalkAt}
use Rattle.graph_meaning.specs.Walks.Wells.{ShowsWell}
use Rattle.graph_meaning.proofs.walks.GroundLemmas.{IsGround}
use Rattle.graph_meaning.proofs.walks.SeenLemmas.{ground, all_walk-means}
use Rattle.site_list.specs.Claims.{base_value, is_value}
use Rattle.triple_meaning.specs.Claims.Bound.{scope_under, AreBound, TermAt}
use Rattle.triple_meaning.proofs.claims.BoundLemmas.{agrees-on, here-later, NameStands, base-named}
use Rattle.triple_meaning.proofs.claims.HereLemmas.{and-here, imp-here, iff-here, some-here, each-here}
use Rattle.triple_meaning.proofs.claims.TermLemmas.{value-means, term-live}

-- one of the cells stands there
abbrev pub SetAt : Standing → List CellId → Position → Type 0
SetAt at cells p = (c : CellId) × Contains cells c × IsAt at c p

-- two readings are one where each cell that one of them is, the other is
same-readings : (o w : Option CellId) → ((c : CellId) → o ≡ Some c → w ≡ Some c) → ((c : CellId) → w ≡ Some c → o ≡ Some c) → o ≡ w
same-readings (Some c) w to from = sym (to c refl)
same-readings None (Some d) to from = from d refl
same-readings None None to from = refl

module _ (l : LaidOut) (view : View) (a : Assignment) (first s t : StoreMap) (at : Standing) (count : ℕ) (wells : ShowsWell l view a first s t at count)
    (own : ℕ) (b : Assignment) (agrees : Agrees count a b) (few : count ≤ own) (sorts : List Sort) (e : Environment)
    (bound : AreBound at b own sorts e.bound) where
  abbrev sight : Sight
  sight = sight_of l.vars view

  looks : IsGround l.types (sight_of l.vars view) count a s t at
  looks = ground l view a first s t at count wells.shows

  abbrev value_of_term : Term → ℕ → ℕ → Formula
  value_of_term it next x = is_value l.types (sight_of l.vars view) view.vars own it next x

  term-means : (it : Term) (ty : TypeId) → TermFits l.types (scope_under l.vars sorts) it (Cell ty) → MeansHere own b (value_of_term it) (TermAt t at e it)
  term-means it ty fits = value-means l view a first s t at count wells own b agrees few sorts e bound it ty fits

  lives-in : (it : Term) (c : CellId) → cell_at t e it ≡ Some c → IsLive t c
  lives-in it c is = term-live l view a first s t at count wells own b agrees few sorts e bound it c is

  -- ---- sets

  set-means : (u : Sym) (x : Value) (ty : TypeId) → NameStands own b at u x (Set ty) → MeansHere own b (λ next y. is_in next y u) (SetAt at (set_in x))
  set-means u (value.Bool k) ty named = absurd named.form
  set-means u (value.Cell o) ty named = absurd named.form
  set-means Null (value.Cells cells) ty named = absurd named.stands
  set-means (At z) (value.Cells cells) ty named = λ c next y p later more less only.
      let member = member-agreed own b c y z.0 p later named.below only in (
        (λ h. (named.stands.each p).0 (member.0 h)),
        (λ h. member.1 ((named.stands.each p).1 h)),
      )

  set-name-means : (name : Base) (ty : TypeId) → BaseFits (scope_under l.vars sorts) name (Set ty) →
      MeansHere own b (λ next y. is_in next y (base_value view.vars own name)) (SetAt at (set_at t e name))
  set-name-means name ty fits =
      set-means (base_value view.vars own name) (terms.base_value t e name) ty
      (base-named l view a first s t at count wells.shows own b agrees few sorts e name (Set ty) bound fits)

  -- ---- forms

  pub variant-means : (it : Term) (v : VariantId) → KnowsVariant l.types v → TermFits l.types (scope_under l.vars sorts) it (Cell v.ty) →
      WSat (ex1 own (And (value_of_term it (suc own) own) (lives l.types (sight_of l.vars view) (suc own) v own))) b
      ↔ IsSomeAnd (cell_at t e it) (IsOfVariant t v)
  variant-means it v known fits =
      let here = and-here own b (value_of_term it) (λ next x. lives l.types sight next v x) (TermAt t at e it) (VariantAt t at v) (term-means it v.ty fits)
      (here-later count own a b (λ next x. lives l.types sight next v x) (VariantAt t at v) agrees few (looks.variant v known)) in
      let some = some-here own b (λ next x. And (value_of_term it next x) (lives l.types sight next v x)) (λ p. TermAt t at e it p × VariantAt t at v p)
      agrees.finite here in (
        (λ h.
            let (p, parts) = some.0 h in
            let (c, stands, is) = parts.0 in
            let (d, also, of_v) = parts.1 in
            of-some (IsOfVariant t v) (cell_at t e it) c is (subst (λ z. IsOfVariant t v z) (looks.apart d c p also stands) of_v)),
        (λ h.
            let (c, is, of_v) = IsSomeAnd-at (cell_at t e it) (IsOfVariant t v) h in
            let (p, stands) = looks.there c (lives-in it c is) in
            some.1 (p, ((c, stands, is), (c, stands, of_v)))),
      )

  pub same-means : (it other : Term) (ty : TypeId) → TermFits l.types (scope_under l.vars sorts) it (Cell ty) →
      TermFits l.types (scope_under l.vars sorts) other (Cell ty) →
      WSat (all1 own (iff (value_of_term it (suc own) own) (value_of_term other (suc own) own))) b ↔ (cell_at t e it ≡ cell_at t e other)
  same-means it other ty fits also_fits =
      let here = iff-here own b (value_of_term it) (value_of_term other) (TermAt t at e it) (TermAt t at e other) (term-means it ty fits)
      (term-means other ty also_fits) in
      let each = each-here own b (λ next x. iff (value_of_term it next x) (value_of_term other next x)) (λ p. TermAt t at e it p ↔ TermAt t at e other p)
      agrees.finite here in (
        (λ h.
            let all = each.0 h in
            same-readings (cell_at t e it) (cell_at t e other)
            (λ c is.
            let (p, stands) = looks.there c (lives-in it c is) in
            let (d, also, found) = (all p).0 (c, stands, is) in
            found ∙ ap (λ z. Some z) (looks.apart d c p also stands))
            (λ c is.
            let (p, stands) = looks.there c (lives-in other c is) in
            let (d, also, found) = (all p).1 (c, stands, is) in
            found ∙ ap (λ z. Some z) (looks.apart d c p also stands))),
        (λ h. each.1 (λ p. (
          (λ (k : TermAt t at e it p). let (c, stands, is) = k in (c, stands, sym h ∙ is)),
          (λ (k : TermAt t at e other p). let (c, stands, is) = k in (c, stands, h ∙ is)),
        ))),
      )

  pub member-means : (it : Term) (name : Base) (ty : TypeId) → TermFits l.types (scope_under l.vars sorts) it (Cell ty) →
      BaseFits (scope_under l.vars sorts) name (Set ty) →
      WSat (ex1 own (And (value_of_term it (suc own) own) (is_in (suc own) own (base_value view.vars own name)))) b
      ↔ IsSomeAnd (cell_at t e it) (Contains (set_at t e name))
  member-means it name ty fits set_fits =
      let here = and-here own b (value_of_term it) (λ next x. is_in next x (base_value view.vars own name)) (TermAt t at e it) (SetAt at (set_at t e name))
      (term-means it ty fits) (set-name-means name ty set_fits) in
      let some = some-here own b (λ next x. And (value_of_term it next x) (is_in next x (base_value view.vars own name)))
      (λ p. TermAt t at e it p × SetAt at (set_at t e name) p) agrees.finite here in (
        (λ h.
            let (p, parts) = some.0 h in
            let (c, stands, is) = parts.0 in
            let (d, inside, also) = parts.1 in
            of-some (Contains (set_at t e name)) (cell_at t e it) c is
            (subst (λ z. Contains (set_at t e name) z) (looks.apart d c p also stands) inside)),
        (λ h.
            let (c, is, inside) = IsSomeAnd-at (cell_at t e it) (Contains (set_at t e name)) h in
            let (p, stands) = looks.there c (lives-in it c is) in
            some.1 (p, ((c, stands, is), (c, inside, stands)))),
      )

  pub subset-means : (name other : Base) (ty : TypeId) → BaseFits (scope_under l.vars sorts) name (Set ty) →
      BaseFits (scope_under l.vars sorts) other (Set ty) →
      WSat (all1 own (imp (And (is_live l.types (sight_of l.vars view) (suc own) own) (is_in (suc own) own (base_value view.vars own name)))
      (is_in (suc own) own (base_value view.vars own other)))) b
      ↔ ((c : CellId) → IsLive t c → Contains (set_at t e name) c → Contains (set_at t e other) c)
  subset-means name other ty fits also_fits =
      let left = and-here own b (λ next x. is_live l.types sight next x) (λ next x. is_in next x (base_value view.vars own name)) (LiveAt t at)
      (SetAt at (set_at t e name)) (here-later count own a b (λ next x. is_live l.types sight next x) (LiveAt t at) agrees few looks.live)
      (set-name-means name ty fits) in
      let here = imp-here own b (λ next x. And (is_live l.types sight next x) (is_in next x (base_value view.vars own name)))
      (λ next x. is_in next x (base_value view.vars own other)) (λ p. LiveAt t at p × SetAt at (set_at t e name) p) (SetAt at (set_at t e other)) left
      (set-name-means other ty also_fits) in
      let each = each-here own b
      (λ next x. imp (And (is_live l.types sight next x) (is_in next x (base_value view.vars own name))) (is_in next x (base_value view.vars own other)))
      (λ p. (LiveAt t at p × SetAt at (set_at t e name) p) → SetAt at (set_at t e other) p) agrees.finite here in (
        (λ h c living inside.
            let (p, stands) = looks.there c living in
            let (d, within, also) = each.0 h p ((c, stands, living), (c, inside, stands)) in
            subst (λ z. Contains (set_at t e other) z) (looks.apart d c p also stands) within),
        (λ h. each.1 (λ p (both : LiveAt t at p × SetAt at (set_at t e name) p).
            let (d, stands, living) = both.0 in
            let (c, inside, also) = both.1 in
            (c, h c (subst (λ z. IsLive t z) (looks.apart d c p stands also) living) inside, also))),
      )

  abbrev walk_between : Term → Term → Route → Formula
  walk_between it other along =
      and_list (suc (suc own)) (value_of_term it (suc (suc own)) own ∷ value_of_term other (suc (suc own)) (suc own)
      ∷ walk l.types (sight_of l.vars view) along (suc (suc own)) own (suc own) ∷ [])

  abbrev WalksBetween : Term → Term → Route → Position → Position → Type 0
  WalksBetween it other along p q = TermAt t at e it p × TermAt t at e other q × WalkAt l.types t at DataAndPointers along p q

  pub walk-means : (it other : Term) (along : Route) (ty to_ty : TypeId) → TermFits l.types (scope_under l.vars sorts) it (Cell ty) →
      KnowsRoute l.types along → TermFits l.types (scope_under l.vars sorts) other (Cell to_ty) →
      WSat (ex1 own (ex1 (suc own) (and_list (suc (suc own)) (value_of_term it (suc (suc own)) own ∷ value_of_term other (suc (suc own)) (suc own)
      ∷ walk l.types (sight_of l.vars view) along (suc (suc own)) own (suc own) ∷ [])))) b
      ↔ IsSomeAnd (cell_at t e it) (λ from. IsSomeAnd (cell_at t e other) (λ to. Walk l.types t DataAndPointers along from to))
  walk-means it other along ty to_ty fits known also_fits = (
    (λ h.
        let (p, (q, (from, to, walks))) = some.0 h in
        let (c, at_p, is) = from in
        let (d, at_q, also_is) = to in
        let (f, g, also_p, also_q, walk_fg) = walks in
        let walk_cd = subst (λ z. Walk l.types t DataAndPointers along z d) (looks.apart f c p also_p at_p)
        (subst (λ z. Walk l.types t DataAndPointers along f z) (looks.apart g d q also_q at_q) walk_fg) in
        of-some (λ x. IsSomeAnd (cell_at t e other) (λ y. Walk l.types t DataAndPointers along x y)) (cell_at t e it) c is
        (of-some (λ y. Walk l.types t DataAndPointers along c y) (cell_at t e other) d also_is walk_cd)),
    (λ h.
        let (c, is, rest) = IsSomeAnd-at (cell_at t e it) (λ x. IsSomeAnd (cell_at t e other) (λ y. Walk l.types t DataAndPointers along x y)) h in
        let (d, also_is, walk_cd) = IsSomeAnd-at (cell_at t e other) (λ y. Walk l.types t DataAndPointers along c y) rest in
        let (p, at_p) = looks.there c (lives-in it c is) in
        let (q, at_q) = looks.there d (lives-in other d also_is) in
        some.1 (p, (q, ((c, at_p, is), (d, at_q, also_is), (c, d, at_p, at_q, walk_cd))))),
  )
    where
      each : (p q : Position) → WSat (walk_between it other along) (with_position (with_position b own p) (suc own) q) ↔ WalksBetween it other along p q
      each p q =
          let c = with_position b own p in
          let d = with_position c (suc own) q in
          let one = Agrees-bound own b b own p (Agrees-itself own b agrees.finite) (omega arith) in
          let two = Agrees-bound own b c (suc own) q one (omega arith) in
          let at_p = IsOnly-still c (suc own) own q p (omega arith) (IsOnly-bound b own p) in
          let at_q = IsOnly-bound c (suc own) q in
          sat-three (suc (suc own)) (value_of_term it (suc (suc own)) own) (value_of_term other (suc (suc own)) (suc own))
          (walk l.types sight along (suc (suc own)) own (suc own)) d (TermAt t at e it p) (TermAt t at e other q)
          (WalkAt l.types t at DataAndPointers along p q)
          (term-means it ty fits d (suc (suc own)) own p two (omega arith) (omega arith) at_p)
          (term-means other to_ty also_fits d (suc (suc own)) (suc own) q two (omega arith) (omega arith) at_q)
          (all_walk-means l view a first s t at count wells.shows wells.table wells.well along known d (suc (suc own)) own (suc own) p q
          (agrees-on count own a b d agrees few two) (omega (arith, few)) (omega arith) (omega arith) at_p at_q)

      some : WSat (ex1 own (ex1 (suc own) (walk_between it other along))) b ↔ ((p : Position) × ((q : Position) × WalksBetween it other along p q))
      some = sat-ex1 own (ex1 (suc own) (walk_between it other along)) b (λ p. (q : Position) × WalksBetween it other along p q)
          (λ p. sat-ex1 (suc own) (walk_between it other along) (with_position b own p) (λ q. WalksBetween it other along p q) (each p))
