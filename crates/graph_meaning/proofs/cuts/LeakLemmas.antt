-- The formula of leaks.
use Rattle.std.proofs.Common.{◌≡◌, ◌↔◌, ◌⊎◌, inl, inr, ℕ, suc, ◌<◌, ◌≤◌, Bool, true, false, cond, IsTrue, IsSomeAnd, List, [], ◌∷◌, ◌++◌, flat_map, Option}
use Rattle.std.proofs.Common.{Some, None, Contains, refl, sym, ap, ◌∙◌, subst, arith}
use Rattle.std.specs.Prelude.{IsSome}
use Rattle.std.proofs.lemmas.Bool.{false≢true}
use Rattle.gta_theory.specs.Assignments.{Position, PositionSet, Assignment, IsFiniteSet, IsOnly, replace}
use Rattle.gta_theory.proofs.AssignmentsLemmas.{replace-same, replace-other}
use Rattle.gta_theory.proofs.ListsLemmas.{Contains-first, Contains-later, Contains-cases}
use Rattle.ws2s_core.specs.declared.formula.Formula.{Formula}
use Rattle.ws2s_core.specs.declared.formula.Formula.TheVariants.{Sub, And, Not, Ex2}
use Rattle.ws2s_core.specs.Satisfaction.{WSat}
use Rattle.ws2s_core.proofs.SatisfactionLemmas.{WSat-Sub, WSat-Ex2}
use Rattle.ws2s_forms.specs.Forms.{track, and_list, ex1}
use Rattle.ws2s_forms.specs.Places.{just, with_position}
use Rattle.ws2s_forms.proofs.PositionsLemmas.{IsOnly-inside}
use Rattle.ws2s_forms.proofs.ConnectivesLemmas.{EachSat, WSat-and_list, EachSat-append}
use Rattle.ws2s_forms.proofs.LawsLemmas.{law-member}
use Rattle.store_core.specs.declared.ids.CellId.{CellId}
use Rattle.store_core.specs.declared.ids.VarId.{VarId}
use Rattle.store_core.specs.declared.kind.VarKind.{VarKind}
use Rattle.store_core.specs.declared.kind.VarKind.TheVariants as var
use Rattle.store_core.specs.declared.value.Value.{Value}
use Rattle.store_core.specs.declared.value.Value.TheVariants as value
use Rattle.store_core.specs.Tables.{VarEntry, var_at}
use Rattle.store_core.specs.Stores.{StoreMap, CellEntry, IsLive, VarFits, cell_of, var_value}
use Rattle.store_core.proofs.FittingLemmas.{IsSomeAnd-at}
use Rattle.routing_walks.specs.declared.fault.Place.TheVariants as place
use Rattle.routing_walks.specs.Walks.{IsParent, Chain}
use Rattle.routing_walks.specs.WellFormed.{IsDataVar, Names, IsInTree, IsLeaked}
use Rattle.routing_walks.specs.CutFaults.{HasLeaked}
use Rattle.routing_walks.specs.Regions.{has_number}
use Rattle.routing_walks.proofs.LiveLemmas.{IsParent-live}
use Rattle.routing_walks.proofs.DecidedLemmas.{in_none}
use Rattle.routing_walks.proofs.DecidedStores.{leak_set, set_leaks}
use Rattle.routing_walks.proofs.RegionLemmas.{number_in, in_number}
use Rattle.tree_encode.specs.Layouts.{LaidOut}
use Rattle.tree_store.proofs.SpotsLemmas.{of-some}
use Rattle.tree_store.proofs.ListsLemmas.{Contains-one}
use Rattle.graph_view.specs.declared.view.Sym.{Sym}
use Rattle.graph_view.specs.declared.view.Sym.TheVariants.{Null, At}
use Rattle.graph_view.specs.declared.view.View.{View}
use Rattle.graph_view.specs.Sights.{Sight, sight_of}
use Rattle.graph_view.specs.Live.{is_live}
use Rattle.graph_view.specs.Routes.{Joining, edge, is_left}
use Rattle.graph_view.specs.Cuts.{data_value, values_by, has_value, closes, leaks}
use Rattle.graph_view.specs.After.{Standing, IsAt, StandsFor, StandsForCell, IsSymBelow}
use Rattle.graph_meaning.specs.Live.Meaning.{Agrees}
use Rattle.graph_meaning.specs.Live.Standing.{LiveAt}
use Rattle.graph_meaning.proofs.live.AgreeingLemmas.{Agrees-set, Agrees-bound, IsOnly-bound, sat-and, sat-not, sat-ex1}
use Rattle.graph_meaning.proofs.live.SymsLemmas.{on-agreed}
use Rattle.graph_meaning.specs.Walks.Walking.{JoinsAt}
use Rattle.graph_meaning.specs.Walks.Wells.{ShowsWell}
use Rattle.graph_meaning.proofs.walks.ListedLemmas.{places_of, on-place, place-on, places-finite}
use Rattle.graph_meaning.proofs.walks.ClosingLemmas.{IsClosed, left-means}
use Rattle.graph_meaning.proofs.walks.ChainLemmas.{chain-linked}
use Rattle.graph_meaning.proofs.walks.GroundLemmas.{edge-means}
use Rattle.graph_meaning.proofs.walks.SeenLemmas.{ground, by_data}
use Rattle.graph_meaning.proofs.cuts.ValuesLemmas.{IsValueOf, valued-in, in-valued, IsHeld, var-held}

-- ---- data variables

pub data-kind : (s : StoreMap) (kind : VarKind) (w u : Sym) (x : Value) → Contains (data_value kind w) u → VarFits s kind x →
    IsDataVar kind × (w ≡ u) × ((o : Option CellId) × (x ≡ value.Cell o))
data-kind s var.Bool w u x one fits = absurd (in_none u one)
data-kind s (var.LogicSet ty) w u x one fits = absurd (in_none u one)
data-kind s var.LogicBool w u x one fits = absurd (in_none u one)
data-kind s (var.Pointer ty) w u x one fits = absurd (in_none u one)
data-kind s (var.Data ty) w u (value.Bool k) one fits = absurd fits
data-kind s (var.Data ty) w u (value.Cells k) one fits = absurd fits
data-kind s (var.Data ty) w u (value.Cell o) one fits = (tt, Contains-one w u one, (o, refl))

pub kind-data : (kind : VarKind) (w : Sym) → IsDataVar kind → Contains (data_value kind w) w
kind-data var.Bool w is = absurd is
kind-data (var.LogicSet ty) w is = absurd is
kind-data var.LogicBool w is = absurd is
kind-data (var.Pointer ty) w is = absurd is
kind-data (var.Data ty) w is = Contains-first w []

-- ---- live cells that pass

-- a dead cell, or a live one that passes
is_kept : Option CellEntry → Bool → Bool
is_kept None t = true
is_kept (Some cell) t = t

kept-live : (o : Option CellEntry) (t : Bool) → IsSome o → is_kept o t ≡ true → t ≡ true
unfolding is_kept
kept-live None t live so = absurd (false≢true live)
kept-live (Some cell) t live so = so

live-kept : (o : Option CellEntry) (t : Bool) → (IsSome o → t ≡ true) → is_kept o t ≡ true
unfolding is_kept
live-kept None t each = refl
live-kept (Some cell) t each = each refl

-- ---- what the set has

-- the set has what is on the value's track
abbrev HasSym : Assignment → PositionSet → Sym → Type 0
HasSym a set Null = Unit {0}
HasSym a set (At v) = (p : Position) → IsTrue (a v.0 p) → IsTrue (set p)

module _ (count : ℕ) (a b : Assignment) (agrees : Agrees count a b) (x : ℕ) (set : PositionSet) (is : (p : Position) → IsTrue (b x p) ↔ IsTrue (set p)) where
  sym-means : (u : Sym) → IsSymBelow count u → EachSat b (has_value x u) ↔ HasSym a set u
  sym-means Null below = ((λ h. tt), (λ h. tt))
  sym-means (At v) below =
      let within = WSat-Sub v (track x) b in (
        (λ h p on. (is p).0 (within.0 h.0 p ((on-agreed count a b v.0 p agrees below).1 on))),
        (λ h. (within.1 (λ p on. (is p).1 (h p ((on-agreed count a b v.0 p agrees below).0 on))), tt)),
      )

  syms-mean : (us : List Sym) → ((u : Sym) → Contains us u → IsSymBelow count u) →
      EachSat b (flat_map (has_value x) us) ↔ ((u : Sym) → Contains us u → HasSym a set u)
  syms-mean [] below = ((λ h u inside. absurd (in_none u inside)), (λ h. tt))
  syms-mean (w ∷ us) below =
      let parts = EachSat-append b (has_value x w) (flat_map (has_value x) us) in
      let here = sym-means w (below w (Contains-first w us)) in
      let rest = syms-mean us (λ u inside. below u (Contains-later w u us inside)) in (
        (λ h u inside. elim (Contains-cases w u us inside) as (λ _. HasSym a set u) [
          | inl same ↦ subst (λ z. HasSym a set z) same (here.0 (parts.0 h).0)
          | inr later ↦ rest.0 (parts.0 h).1 u later
        ]),
        (λ h. parts.1 (here.1 (h w (Contains-first w us)), rest.1 (λ u inside. h u (Contains-later w u us inside)))),
      )

module _ (l : LaidOut) (view : View) (a : Assignment) (first s : StoreMap) (at : Standing) (count : ℕ) (wells : ShowsWell l view a first s s at count)
    (b : Assignment) (next : ℕ) (agrees : Agrees count a b) (few : count ≤ next) where
  abbrev sight : Sight
  sight = sight_of l.vars view

  abbrev values : List Sym
  values = values_by data_value l.vars view.vars

  abbrev Parents : Position → Position → Type 0
  Parents = JoinsAt at (IsParent l.types s)

  -- a data variable's value, by its number
  record IsDataHeld (u : Sym) : Type 0 where
    var : VarId
    is_data : IsSomeAnd (var_at l.vars var) (λ entry. IsDataVar entry.kind)
    cell : Option CellId
    holds : var_value s var ≡ Some (value.Cell cell)
    stands : StandsForCell a at u cell
    under : IsSymBelow count u

  data-held : (u : Sym) → Contains values u → IsDataHeld u
  data-held u among =
      let (i, is) = valued-in data_value l.vars view.vars u among in
      let v : VarId = record { 0 = i } in
      let var_held = var-held l view a first s s at count wells.shows v is.entry is.there in
      let both : Some is.sym_of ≡ Some var_held.sym_of = sym is.stands ∙ var_held.is in
      let same : is.sym_of ≡ var_held.sym_of = cc in
      let (data_var, same_sym, (o, value_is)) = data-kind s is.entry.kind is.sym_of u var_held.held is.one var_held.fits in
      let u_is : var_held.sym_of ≡ u = sym same ∙ same_sym in
      record {
        var = v;
        is_data = of-some (λ entry. IsDataVar entry.kind) (var_at l.vars v) is.entry is.there data_var;
        cell = o;
        holds = var_held.holds ∙ ap (λ y. Some y) value_is;
        stands = subst (λ w. StandsForCell a at w o) u_is (subst (λ y. StandsFor a at var_held.sym_of y) value_is var_held.stands);
        under = subst (λ w. IsSymBelow count w) u_is var_held.under;
      }

  -- the value of a data variable that names a cell
  named-sym : (v : VarId) (root : CellId) → Names l.types l.vars s (place.Var v) root → (u : Sym) × Contains values u × StandsForCell a at u (Some root)
  named-sym v root named =
      let (entry, there, is_data) = IsSomeAnd-at (var_at l.vars v) (λ e. IsDataVar e.kind) named.place in
      let var_held = var-held l view a first s s at count wells.shows v entry there in
      let both : Some var_held.held ≡ Some (value.Cell (Some root)) = sym var_held.holds ∙ named.value in
      let same : var_held.held ≡ value.Cell (Some root) = cc in (
        var_held.sym_of,
        in-valued data_value l.vars view.vars var_held.sym_of v.0 entry var_held.sym_of there var_held.is (kind-data entry.kind var_held.sym_of is_data),
        subst (λ y. StandsFor a at var_held.sym_of y) same var_held.stands,
      )

  -- ---- the formula

  abbrev outside : Formula
  outside = ex1 (suc next) (And (is_live l.types sight (suc (suc next)) (suc next)) (Not (Sub (track (suc next)) (track next))))

  -- the set has the values of data variables, no data field leads out of it, and some live cell is outside
  abbrev ShowsLeakAt : PositionSet → Type 0
  ShowsLeakAt set = ((u : Sym) → Contains values u → HasSym a set u) × IsClosed Parents set × ((p : Position) × (LiveAt s at p × (IsTrue (set p) → ⊥)))

  on-next : (set : PositionSet) (p : Position) → IsTrue (replace b next set next p) ↔ IsTrue (set p)
  on-next set p = (
    (λ h. subst (λ (z : PositionSet). IsTrue (z p)) (replace-same b next set) h),
    (λ h. subst (λ (z : PositionSet). IsTrue (z p)) (sym (replace-same b next set)) h),
  )

  closes-means : (set : PositionSet) → IsFiniteSet set → WSat (closes l.types sight values (suc next) next) (replace b next set)
      ↔ (((u : Sym) → Contains values u → HasSym a set u) × IsClosed Parents set)
  closes-means set finite =
      let c = replace b next set in
      let agreed = Agrees-set count a b next set agrees few finite in
      let parts = EachSat-append c (flat_map (has_value next) values) (Not (is_left (edge l.types sight) (suc next) next) ∷ []) in
      let all = WSat-and_list c (suc next) (flat_map (has_value next) values ++ Not (is_left (edge l.types sight) (suc next) next) ∷ []) in
      let syms = syms-mean count a c agreed next set (on-next set) values (λ u inside. (data-held u inside).under) in
      let closed = left-means count a (edge l.types sight) Parents
      (edge-means l.types sight count a s s at (ground l view a first s s at count wells.shows) (by_data l view a first s s at count wells.shows))
      c (suc next) next set agreed (omega (arith, few)) (omega arith) (on-next set) in (
        (λ h. let each = parts.0 (all.0 h) in (syms.0 each.0, closed.0 each.1.0)),
        (λ h. all.1 (parts.1 (syms.1 h.0, (closed.1 h.1, tt)))),
      )

  outside-means : (set : PositionSet) → IsFiniteSet set → WSat outside (replace b next set) ↔ ((p : Position) × (LiveAt s at p × (IsTrue (set p) → ⊥)))
  outside-means set finite =
      let c = replace b next set in
      let agreed = Agrees-set count a b next set agrees few finite in
      sat-ex1 (suc next) (And (is_live l.types sight (suc (suc next)) (suc next)) (Not (Sub (track (suc next)) (track next)))) c
      (λ p. LiveAt s at p × (IsTrue (set p) → ⊥)) (λ p.
      let e = with_position c (suc next) p in
      let bound = Agrees-bound count a c (suc next) p agreed (omega (arith, few)) in
      let only = IsOnly-bound c (suc next) p in
      let member = law-member (suc next) next e p only in
      let same = replace-other c (suc next) next (just p) (λ q. let k : ⊥ = omega (arith, q) in k) in
      sat-and (is_live l.types sight (suc (suc next)) (suc next)) (Not (Sub (track (suc next)) (track next))) e (LiveAt s at p) (IsTrue (set p) → ⊥)
      ((ground l view a first s s at count wells.shows).live e (suc (suc next)) (suc next) p bound (omega (arith, few)) (omega arith) only)
      (sat-not (Sub (track (suc next)) (track next)) e (IsTrue (set p)) (
        (λ h. (on-next set p).0 (subst (λ (z : PositionSet). IsTrue (z p)) same (member.0 h))),
        (λ h. member.1 (subst (λ (z : PositionSet). IsTrue (z p)) (sym same) ((on-next set p).1 h))),
      )))

  -- ---- sets and stores

  leak-from : (set : PositionSet) → IsFiniteSet set → ShowsLeakAt set → HasLeaked l.types l.vars s
  leak-from set finite (has_values, closed, (p, ((c, here, live), out))) = record {
    cell = c;
    leaked = record {
      live = live;
      unreached = λ v tree.
          let (u, among, stands) = named-sym v tree.root tree.named in
          let (r, at_r, on) = named-on u tree.root stands (has_values u among) in
          out (chain-linked s at (ground l view a first s s at count wells.shows).there (ground l view a first s s at count wells.shows).one
          (IsParent l.types s) (IsParent-live l.types s) tree.root c tree.path r p at_r here set finite on closed);
    };
  }
    where
      named-on : (u : Sym) (root : CellId) → StandsForCell a at u (Some root) → HasSym a set u → (r : Position) × IsAt at root r × IsTrue (set r)
      named-on Null root stands has_it = absurd stands
      named-on (At w) root stands has_it = (stands.0, stands.2, has_it stands.0 (IsOnly-inside (a w.0) stands.0 stands.1))

  leak-set-shows : (c : CellId) → IsLeaked l.types l.vars s c → (set : PositionSet) × IsFiniteSet set × ShowsLeakAt set
  leak-set-shows c leaked =
      let found = leak_set l.types l.vars s c leaked in
      let test = λ (d : CellId). is_kept (cell_of s d) (has_number found.cells d.0) in
      let g = ground l view a first s s at count wells.shows in
      let live-in : (d : CellId) → IsLive s d → test d ≡ true → Contains found.cells d = λ d live so. in_number found.cells d
      (kept-live (cell_of s d) (has_number found.cells d.0) live so) in
      let in-test : (d : CellId) → (IsLive s d → Contains found.cells d) → test d ≡ true = λ d inside.
      live-kept (cell_of s d) (has_number found.cells d.0) (λ live. number_in found.cells d (inside live)) in
      let (p, here) = g.there c found.shows.live in (
        places_of test at,
        places-finite test at,
        (
          (λ u among. let held = data-held u among in has-all test u held.cell held.stands (λ root is. in-test root (λ live.
              found.shows.roots held.var root live (record { place = held.is_data; value = held.holds ∙ ap (λ o. Some (value.Cell o)) is })))),
          (λ r w on parent.
              let (d, at_r, so) = on-place test at r on in
              let (e, f, also, at_w, leads) = parent in
              let same : e ≡ d = g.apart e d r also at_r in
              let live = (IsParent-live l.types s e f leads).0 in
              let inside = live-in d (subst (λ z. IsLive s z) same live) so in
              place-on test at f w at_w (in-test f (λ living. found.shows.closed d f inside (subst (λ z. IsParent l.types s z f) same leads)))),
          (
            p,
            (
              (c, here, found.shows.live),
              (λ on.
                  let (d, also, so) = on-place test at p on in
                  let same : d ≡ c = g.apart d c p also here in
                  found.shows.without (live-in c found.shows.live (subst (λ z. test z ≡ true) same so))),
            ),
          ),
        ),
      )
    where
      has-all : (test : CellId → Bool) (u : Sym) (o : Option CellId) → StandsForCell a at u o → ((root : CellId) → o ≡ Some root → test root ≡ true) →
          HasSym a (places_of test at) u
      has-all test Null o stands each = tt
      has-all test (At w) None stands each = λ p on. absurd (false≢true (sym (stands p) ∙ on))
      has-all test (At w) (Some root) stands each = λ p on.
          place-on test at root p (subst (λ q. IsAt at root q) (sym ((stands.1 p).0 on)) stands.2) (each root refl)

  pub leaks-means : WSat (leaks l.types sight values next) b ↔ HasLeaked l.types l.vars s
  leaks-means =
      let body = And (closes l.types sight values (suc next) next) outside in
      let some = WSat-Ex2 (track next) body b in
      let each : (set : PositionSet) → IsFiniteSet set → WSat body (replace b next set) ↔ ShowsLeakAt set = λ set finite.
      let both = sat-and (closes l.types sight values (suc next) next) outside (replace b next set)
      (((u : Sym) → Contains values u → HasSym a set u) × IsClosed Parents set) ((p : Position) × (LiveAt s at p × (IsTrue (set p) → ⊥)))
      (closes-means set finite) (outside-means set finite) in (
        (λ h. let k = both.0 h in (k.0.0, k.0.1, k.1)),
        (λ (h : ShowsLeakAt set). both.1 ((h.0, h.1), h.2)),
      ) in (
        (λ h. let (set, finite, holds) = some.0 h in leak-from set finite ((each set finite).0 holds)),
        (λ h. let (set, finite, shows) = leak-set-shows h.cell h.leaked in some.1 (set, finite, (each set finite).1 shows)),
      )
