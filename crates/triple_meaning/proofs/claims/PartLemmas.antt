-- The formula of a part: the least set that has the roots and that no data field leaves.
use Rattle.std.proofs.Common.{◌≡◌, ◌↔◌, ◌⊎◌, inl, inr, ℕ, suc, ◌<◌, ◌≤◌, IsTrue, IsSomeAnd, List, [], ◌∷◌, ◌++◌, flat_map, map, Option, Some, None, Contains}
use Rattle.std.proofs.Common.{refl, sym, ap, ◌∙◌, subst, arith}
use Rattle.std.proofs.lemmas.Bool.{false≢true}
use Rattle.std.proofs.lemmas.List.Elements.{Contains-append_left, Contains-append_right, Contains-append_cases}
use Rattle.std.specs.List.{AllByRecursion}
use Rattle.gta_theory.specs.Assignments.{Position, PositionSet, Assignment, IsFiniteSet, replace}
use Rattle.gta_theory.proofs.AssignmentsLemmas.{replace-same, replace-other}
use Rattle.gta_theory.proofs.ListsLemmas.{Contains-first, Contains-later, Contains-cases}
use Rattle.ws2s_core.specs.declared.formula.Formula.TheVariants.{Sub, Not}
use Rattle.ws2s_core.specs.Satisfaction.{WSat}
use Rattle.ws2s_core.proofs.SatisfactionLemmas.{WSat-And, WSat-Sub}
use Rattle.ws2s_forms.specs.Forms.{track, imp, all2}
use Rattle.ws2s_forms.proofs.PositionsLemmas.{IsOnly-inside}
use Rattle.ws2s_forms.proofs.ConnectivesLemmas.{EachSat, WSat-and_list, EachSat-append}
use Rattle.ws2s_forms.proofs.LawsLemmas.{law-all2, law-imp}
use Rattle.store_core.specs.declared.ids.CellId.{CellId}
use Rattle.store_core.specs.declared.ids.VarId.{VarId}
use Rattle.store_core.specs.declared.kind.VarKind.{VarKind}
use Rattle.store_core.specs.declared.kind.VarKind.TheVariants as var
use Rattle.store_core.specs.declared.value.Value.{Value}
use Rattle.store_core.specs.declared.value.Value.TheVariants as value
use Rattle.store_core.specs.Tables.{var_at}
use Rattle.store_core.specs.Stores.{StoreMap, IsLive, VarFits, var_value}
use Rattle.store_core.proofs.FittingLemmas.{IsSomeAnd-at}
use Rattle.routing_walks.specs.Walks.{IsParent, stay}
use Rattle.routing_walks.specs.WellFormed.{IsDataVar}
use Rattle.routing_walks.specs.Regions.{IsReachedFrom, has_number}
use Rattle.routing_walks.proofs.LiveLemmas.{IsParent-live}
use Rattle.routing_walks.proofs.TreeLemmas.{IsInTree-child}
use Rattle.routing_walks.proofs.DecidedLemmas.{in_none}
use Rattle.routing_walks.proofs.DecidedStores.{part_of}
use Rattle.routing_walks.proofs.RegionLemmas.{number_in, in_number}
use Rattle.store_logic.specs.Fits.{IsKnownDataVar}
use Rattle.tree_encode.specs.Layouts.{LaidOut}
use Rattle.tree_store.proofs.ListsLemmas.{Contains-one}
use Rattle.graph_view.specs.declared.view.Sym.{Sym}
use Rattle.graph_view.specs.declared.view.Sym.TheVariants.{Null, At}
use Rattle.graph_view.specs.declared.view.View.{View}
use Rattle.graph_view.specs.Sights.{sight_of}
use Rattle.graph_view.specs.Routes.{edge, is_left}
use Rattle.graph_view.specs.Cuts.{has_value, closes}
use Rattle.graph_view.specs.After.{Standing, IsAt, StandsFor, StandsForCell, IsSymBelow}
use Rattle.graph_meaning.specs.Live.Meaning.{Agrees}
use Rattle.graph_meaning.proofs.live.AgreeingLemmas.{Agrees-set}
use Rattle.graph_meaning.proofs.live.SymsLemmas.{on-agreed}
use Rattle.graph_meaning.specs.Walks.Walking.{JoinsAt}
use Rattle.graph_meaning.specs.Walks.Wells.{ShowsWell}
use Rattle.graph_meaning.proofs.walks.ListedLemmas.{places_of, on-place, place-on, places-finite}
use Rattle.graph_meaning.proofs.walks.ClosingLemmas.{IsClosed, left-means}
use Rattle.graph_meaning.proofs.walks.ChainLemmas.{chain-linked}
use Rattle.graph_meaning.proofs.walks.GroundLemmas.{IsGround, edge-means}
use Rattle.graph_meaning.proofs.walks.SeenLemmas.{ground, by_data}
use Rattle.site_list.specs.States.{value_of}
use Rattle.site_list.specs.Parts.{is_part}
use Rattle.triple_meaning.specs.Claims.Given.{HasPart, IsNamedBy, HasNamedPart, NameLive}
use Rattle.triple_meaning.proofs.claims.BoundLemmas.{var-held}
use Rattle.triple_meaning.proofs.claims.SetLemmas.{all-in}

-- the set has what is on the value's track
abbrev pub HasSym : Assignment → PositionSet → Sym → Type 0
HasSym a set Null = Unit {0}
HasSym a set (At v) = (p : Position) → IsTrue (a v.0 p) → IsTrue (set p)

data-cell : (s : StoreMap) (kind : VarKind) (x : Value) → IsDataVar kind → VarFits s kind x → (o : Option CellId) × (x ≡ value.Cell o)
data-cell s var.Bool x is fits = absurd is
data-cell s (var.LogicSet ty) x is fits = absurd is
data-cell s var.LogicBool x is fits = absurd is
data-cell s (var.Pointer ty) x is fits = absurd is
data-cell s (var.Data ty) (value.Bool k) is fits = absurd fits
data-cell s (var.Data ty) (value.Cells k) is fits = absurd fits
data-cell s (var.Data ty) (value.Cell o) is fits = (o, refl)

-- a set with a cell that is named, and one with the cell that is named
named-on : (a : Assignment) (at : Standing) (set : PositionSet) (u : Sym) (c : CellId) → StandsForCell a at u (Some c) → HasSym a set u →
    (r : Position) × IsAt at c r × IsTrue (set r)
named-on a at set Null c stands has_it = absurd stands
named-on a at set (At w) c stands has_it = (stands.0, stands.2, has_it stands.0 (IsOnly-inside (a w.0) stands.0 stands.1))

has-named : (a : Assignment) (at : Standing) (set : PositionSet) (u : Sym) (o : Option CellId) → StandsForCell a at u o →
    ((c : CellId) (r : Position) → o ≡ Some c → IsAt at c r → IsTrue (set r)) → HasSym a set u
has-named a at set Null o stands each = tt
has-named a at set (At w) None stands each = λ p on. absurd (false≢true (sym (stands p) ∙ on))
has-named a at set (At w) (Some c) stands each = λ p on. each c p refl (subst (λ q. IsAt at c q) (sym ((stands.1 p).0 on)) stands.2)

-- the cells that these variables name, which may be dead
cell-in : Option Value → List CellId
cell-in (Some (value.Cell (Some c))) = c ∷ []
cell-in _ = []

named_by : StoreMap → List VarId → List CellId
named_by s [] = []
named_by s (v ∷ vs) = cell-in (var_value s v) ++ named_by s vs

cell-inside : (o : Option Value) (c : CellId) → Contains (cell-in o) c → o ≡ Some (value.Cell (Some c))
unfolding cell-in
cell-inside None c h = absurd (in_none c h)
cell-inside (Some (value.Bool k)) c h = absurd (in_none c h)
cell-inside (Some (value.Cells cells)) c h = absurd (in_none c h)
cell-inside (Some (value.Cell None)) c h = absurd (in_none c h)
cell-inside (Some (value.Cell (Some d))) c h = ap (λ z. Some (value.Cell (Some z))) (Contains-one d c h)

inside-cell : (o : Option Value) (c : CellId) → o ≡ Some (value.Cell (Some c)) → Contains (cell-in o) c
unfolding cell-in
inside-cell o c e = subst (λ z. Contains (cell-in z) c) (sym e) (Contains-first c [])

in-named : (s : StoreMap) (vs : List VarId) (c : CellId) → Contains (named_by s vs) c → IsNamedBy s vs c
unfolding named_by
in-named s [] c h = absurd (in_none c h)
in-named s (v ∷ vs) c h = elim (Contains-append_cases (cell-in (var_value s v)) (named_by s vs) c h) as (λ _. IsNamedBy s (v ∷ vs) c) [
  | inl here ↦ (v, Contains-first v vs, cell-inside (var_value s v) c here)
  | inr later ↦ (let (w, listed, holds) = in-named s vs c later in (w, Contains-later v w vs listed, holds))
]

named-in : (s : StoreMap) (vs : List VarId) (c : CellId) → IsNamedBy s vs c → Contains (named_by s vs) c
unfolding named_by
named-in s [] c (v, listed, holds) = absurd (in_none v listed)
named-in s (v ∷ vs) c (w, listed, holds) = elim (Contains-cases v w vs listed) as (λ _. Contains (cell-in (var_value s v) ++ named_by s vs) c) [
  | inl same ↦ Contains-append_left (cell-in (var_value s v)) (named_by s vs) c
      (inside-cell (var_value s v) c (ap (λ z. var_value s z) same ∙ holds))
  | inr later ↦ Contains-append_right (cell-in (var_value s v)) (named_by s vs) c (named-in s vs c (w, later, holds))
]

module _ (l : LaidOut) (view : View) (a : Assignment) (first s : StoreMap) (at : Standing) (count : ℕ) (wells : ShowsWell l view a first s s at count)
    (roots : List VarId) (known : AllByRecursion (IsKnownDataVar l.vars) roots) where
  looks : IsGround l.types (sight_of l.vars view) count a s s at
  looks = ground l view a first s s at count wells.shows

  abbrev values : List VarId → List Sym
  values vs = map (value_of view.vars) vs

  abbrev Parents : Position → Position → Type 0
  Parents = JoinsAt at (IsParent l.types s)

  -- ---- the roots

  -- what a root holds
  record IsRootHeld (v : VarId) : Type 0 where
    is_data : IsSomeAnd (var_at l.vars v) (λ entry. IsDataVar entry.kind)
    cell : Option CellId
    holds : var_value s v ≡ Some (value.Cell cell)
    stands : StandsForCell a at (value_of view.vars v) cell
    under : IsSymBelow count (value_of view.vars v)

  root-held : (v : VarId) → Contains roots v → IsRootHeld v
  root-held v listed =
      let is_data = all-in (IsKnownDataVar l.vars) roots v known listed in
      let (entry, there, data_kind) = IsSomeAnd-at (var_at l.vars v) (λ e. IsDataVar e.kind) is_data in
      let it = var-held l view a first s s at count wells.shows v entry there in
      let (o, value_is) = data-cell s entry.kind it.held data_kind it.fits in
      record {
        is_data = is_data;
        cell = o;
        holds = it.holds ∙ ap (λ z. Some z) value_is;
        stands = subst (λ z. StandsFor a at (value_of view.vars v) z) value_is it.stands;
        under = it.under;
      }

  -- the set has the roots
  HasRoots : PositionSet → Type 0
  HasRoots set = (v : VarId) → Contains roots v → HasSym a set (value_of view.vars v)

  module _ (c : Assignment) (agreed : Agrees count a c) (y : ℕ) (set : PositionSet) (is : (p : Position) → IsTrue (c y p) ↔ IsTrue (set p)) where
    sym-means : (u : Sym) → IsSymBelow count u → EachSat c (has_value y u) ↔ HasSym a set u
    sym-means Null below = ((λ h. tt), (λ h. tt))
    sym-means (At v) below =
        let within = WSat-Sub v (track y) c in (
          (λ h p on. (is p).0 (within.0 h.0 p ((on-agreed count a c v.0 p agreed below).1 on))),
          (λ h. (within.1 (λ p on. (is p).1 (h p ((on-agreed count a c v.0 p agreed below).0 on))), tt)),
        )

    roots-mean : (vs : List VarId) → ((v : VarId) → Contains vs v → IsSymBelow count (value_of view.vars v)) →
        EachSat c (flat_map (has_value y) (map (value_of view.vars) vs)) ↔ ((v : VarId) → Contains vs v → HasSym a set (value_of view.vars v))
    roots-mean [] below = ((λ h v inside. absurd (in_none v inside)), (λ h. tt))
    roots-mean (w ∷ vs) below =
        let parts = EachSat-append c (has_value y (value_of view.vars w)) (flat_map (has_value y) (values vs)) in
        let here = sym-means (value_of view.vars w) (below w (Contains-first w vs)) in
        let rest = roots-mean vs (λ v inside. below v (Contains-later w v vs inside)) in (
          (λ h v inside. elim (Contains-cases w v vs inside) as (λ _. HasSym a set (value_of view.vars v)) [
            | inl same ↦ subst (λ z. HasSym a set (value_of view.vars z)) same (here.0 (parts.0 h).0)
            | inr later ↦ rest.0 (parts.0 h).1 v later
          ]),
          (λ h. parts.1 (here.1 (h w (Contains-first w vs)), rest.1 (λ v inside. h v (Contains-later w v vs inside)))),
        )

    -- the set has the roots and is closed
    closes-means : (next : ℕ) → count ≤ next → y < next →
        WSat (closes l.types (sight_of l.vars view) (map (value_of view.vars) roots) next y) c ↔ (HasRoots set × IsClosed Parents set)
    unfolding HasRoots
    closes-means next few less =
        let left = Not (is_left (edge l.types (sight_of l.vars view)) next y) in
        let parts = EachSat-append c (flat_map (has_value y) (values roots)) (left ∷ []) in
        let all = WSat-and_list c next (flat_map (has_value y) (values roots) ++ left ∷ []) in
        let rooted = roots-mean roots (λ v inside. (root-held v inside).under) in
        let closed = left-means count a (edge l.types (sight_of l.vars view)) Parents
        (edge-means l.types (sight_of l.vars view) count a s s at looks (by_data l view a first s s at count wells.shows)) c next y set agreed few less is in (
          (λ h. let each = parts.0 (all.0 h) in (rooted.0 each.0, closed.0 each.1.0)),
          (λ h. all.1 (parts.1 (rooted.1 h.0, (closed.1 h.1, tt)))),
        )

  -- ---- the least set

  -- the set is the least finite one that has the roots and is closed
  record IsLeast (set : PositionSet) : Type 0 where
    roots_in : HasRoots set
    closed : IsClosed Parents set
    within : (other : PositionSet) → IsFiniteSet other → HasRoots other → IsClosed Parents other → (p : Position) → IsTrue (set p) → IsTrue (other p)

  -- reached by data fields from the roots, or named by one
  abbrev IsReachable : CellId → Type 0
  IsReachable c = IsReachedFrom l.types l.vars s roots c ⊎ IsNamedBy s roots c

  live-named : (c : CellId) → IsLive s c → IsNamedBy s roots c → IsReachedFrom l.types l.vars s roots c
  live-named c live (v, listed, holds) = record {
    root = v;
    listed = listed;
    in_tree = record { root = c; named = record { place = (root-held v listed).is_data; value = holds }; path = stay c live };
  }

  child-reached : (c d : CellId) → IsReachedFrom l.types l.vars s roots c → IsParent l.types s c d → IsReachedFrom l.types l.vars s roots d
  child-reached c d reached parent = record {
    root = reached.root;
    listed = reached.listed;
    in_tree = IsInTree-child l.types l.vars s reached.root c d reached.in_tree parent;
  }

  reached-child : (c d : CellId) → IsReachable c → IsParent l.types s c d → IsReachable d
  reached-child c d (inl reached) parent = inl (child-reached c d reached parent)
  reached-child c d (inr named) parent = inl (child-reached c d (live-named c (IsParent-live l.types s c d parent).0 named) parent)

  -- a closed finite set with the roots has what is reached, and the roots
  root-in : (set : PositionSet) → HasRoots set → (v : VarId) (c : CellId) → Contains roots v → var_value s v ≡ Some (value.Cell (Some c)) →
      (r : Position) × IsAt at c r × IsTrue (set r)
  unfolding HasRoots
  root-in set rooted v c listed holds =
      let held = root-held v listed in
      let both : Some (value.Cell held.cell) ≡ Some (value.Cell (Some c)) = sym held.holds ∙ holds in
      let same : held.cell ≡ Some c = cc in
      named-on a at set (value_of view.vars v) c (subst (λ o. StandsForCell a at (value_of view.vars v) o) same held.stands) (rooted v listed)

  reached-in : (set : PositionSet) → IsFiniteSet set → HasRoots set → IsClosed Parents set → (c : CellId) (p : Position) → IsReachable c → IsAt at c p →
      IsTrue (set p)
  reached-in set bounded rooted closed c p (inl reached) here =
      let (r, at_r, on) = root-in set rooted reached.root reached.in_tree.root reached.listed reached.in_tree.named.value in
      chain-linked s at looks.there looks.one (IsParent l.types s) (IsParent-live l.types s) reached.in_tree.root c reached.in_tree.path r p at_r here set
      bounded
      on closed
  reached-in set bounded rooted closed c p (inr (v, listed, holds)) here =
      let (r, at_r, on) = root-in set rooted v c listed holds in
      subst (λ q. IsTrue (set q)) (looks.one c r p at_r here) on

  -- the positions of what is reachable
  abbrev HasReachable : PositionSet → Type 0
  HasReachable set = (p : Position) → IsTrue (set p) ↔ ((c : CellId) × IsReachable c × IsAt at c p)

  part-rooted : (set : PositionSet) → HasReachable set → HasRoots set
  unfolding HasRoots
  part-rooted set has v listed =
      let held = root-held v listed in
      has-named a at set (value_of view.vars v) held.cell held.stands (λ c r is here.
      (has r).1 (c, inr (v, listed, held.holds ∙ ap (λ o. Some (value.Cell o)) is), here))

  part-closed : (set : PositionSet) → HasReachable set → IsClosed Parents set
  part-closed set has p q on leads =
      let (c, d, at_p, at_q, parent) = leads in
      let (e, reached, also) = (has p).0 on in
      (has q).1 (d, reached-child c d (subst (λ z. IsReachable z) (looks.apart e c p also at_p) reached) parent, at_q)

  -- there is a finite set of them
  pub reachable-set : (set : PositionSet) × IsFiniteSet set × HasReachable set
  reachable-set =
      let (cells, part) = part_of l.types l.vars s roots in
      let test = λ (c : CellId). has_number (cells ++ named_by s roots) c.0 in (
        places_of test at,
        places-finite test at,
        λ p. (
          (λ on.
              let (c, here, so) = on-place test at p on in
              let among = in_number (cells ++ named_by s roots) c so in (
                c,
                elim (Contains-append_cases cells (named_by s roots) c among) as (λ _. IsReachable c) [
                  | inl inside ↦ inl ((part.members c).0 inside)
                  | inr named ↦ inr (in-named s roots c named)
                ],
                here,
              )),
          (λ (h : (c : CellId) × IsReachable c × IsAt at c p).
              let (c, reachable, here) = h in
              place-on test at c p here (number_in (cells ++ named_by s roots) c
              (elim reachable as (λ _. Contains (cells ++ named_by s roots) c) [
                | inl reached ↦ Contains-append_left cells (named_by s roots) c ((part.members c).1 reached)
                | inr named ↦ Contains-append_right cells (named_by s roots) c (named-in s roots c named)
              ]))),
        ),
      )

  least-part : (set : PositionSet) → IsFiniteSet set → IsLeast set ↔ HasReachable set
  least-part set bounded =
      let (other, finite, is) = reachable-set in (
        (λ least p. (
          (λ on. (is p).0 (least.within other finite (part-rooted other is) (part-closed other is) p on)),
          (λ h. reached-in set bounded least.roots_in least.closed h.0 p h.1 h.2),
        )),
        (λ has. record {
          roots_in = part-rooted set has;
          closed = part-closed set has;
          within = λ wide wide_finite rooted closed p on.
              let (c, reached, here) = (has p).0 on in reached-in wide wide_finite rooted closed c p reached here;
        }),
      )

  -- ---- the formula

  module _ (b : Assignment) (next x : ℕ) (agrees : Agrees count a b) (few : count ≤ next) (below : x < next) where
    -- the set holds what is on the track
    over-means : (set : PositionSet) → WSat (Sub (track x) (track next)) (replace b next set) ↔ ((p : Position) → IsTrue (b x p) → IsTrue (set p))
    over-means set =
        let within = WSat-Sub (track x) (track next) (replace b next set) in
        let still : replace b next set x ≡ b x = replace-other b next x set (λ e. let k : ⊥ = omega (arith, e, below) in k) in (
          (λ h p on.
              subst (λ (z : PositionSet). IsTrue (z p)) (replace-same b next set)
              (within.0 h p (subst (λ (z : PositionSet). IsTrue (z p)) (sym still) on))),
          (λ h. within.1 (λ p on.
              subst (λ (z : PositionSet). IsTrue (z p)) (sym (replace-same b next set))
              (h p (subst (λ (z : PositionSet). IsTrue (z p)) still on)))),
        )

    on-next : (set : PositionSet) (p : Position) → IsTrue (replace b next set next p) ↔ IsTrue (set p)
    on-next set p = (
      (λ h. subst (λ (z : PositionSet). IsTrue (z p)) (replace-same b next set) h),
      (λ h. subst (λ (z : PositionSet). IsTrue (z p)) (sym (replace-same b next set)) h),
    )

    pub part-means : WSat (is_part l.types (sight_of l.vars view) (map (value_of view.vars) roots) x next) b ↔ HasNamedPart l.types l.vars b at (track x)
        s roots
    part-means =
        let sight = sight_of l.vars view in
        let own = closes l.types sight (values roots) next x in
        let wide = closes l.types sight (values roots) (suc next) next in
        let both = WSat-And own (all2 next (imp wide (Sub (track x) (track next)))) b in
        let here = closes-means b agrees x (b x) (λ p. ((λ h. h), (λ h. h))) next few below in
        let all = law-all2 next (imp wide (Sub (track x) (track next))) b agrees.finite in
        let others : (set : PositionSet) (finite : IsFiniteSet set) → WSat wide (replace b next set) ↔ (HasRoots set × IsClosed Parents set) = λ set finite.
        closes-means (replace b next set) (Agrees-set count a b next set agrees few finite) next set (on-next set) (suc next) (omega (arith, few))
        (omega arith) in
        let follows = λ (set : PositionSet) (finite : IsFiniteSet set).
        law-imp wide (Sub (track x) (track next)) (replace b next set) (Agrees-set count a b next set agrees few finite).finite in
        let least = least-part (b x) (agrees.finite x) in (
          (λ h.
              let parts = both.0 h in
              let own_parts = here.0 parts.0 in
              least.0 (record {
                roots_in = own_parts.0;
                closed = own_parts.1;
                within = λ set finite rooted closed.
                    (over-means set).0 ((follows set finite).0 (all.0 parts.1 set finite) ((others set finite).1 (rooted, closed)));
              })),
          (λ h.
              let is = least.1 h in
              both.1 (
                here.1 (is.roots_in, is.closed),
                all.1 (λ set finite. (follows set finite).1 (λ holds.
                    let parts = (others set finite).0 holds in (over-means set).1 (is.within set finite parts.0 parts.1))),
              )),
        )

    -- where no root names a dead cell
    pub live-part-means : NameLive s roots →
        WSat (is_part l.types (sight_of l.vars view) (map (value_of view.vars) roots) x next) b ↔ HasPart l.types l.vars b at (track x) s roots
    live-part-means live = (
      (λ h p.
          let is = part-means.0 h p in (
            (λ on. let (c, reachable, here) = is.0 on in (c, only-reached live c reachable, here)),
            (λ k. is.1 (k.0, inl k.1, k.2)),
          )),
      (λ has. part-means.1 (λ p. (
        (λ on. let (c, reached, here) = (has p).0 on in (c, inl reached, here)),
        (λ (k : (c : CellId) × IsReachable c × IsAt at c p). let (c, reachable, here) = k in (has p).1 (c, only-reached live c reachable, here)),
      ))),
    )
      where
        only-reached : NameLive s roots → (c : CellId) → IsReachable c → IsReachedFrom l.types l.vars s roots c
        only-reached live c (inl reached) = reached
        only-reached live c (inr named) = live-named c (live c named) named

  -- on a track that isn't in use there is such a set
  pub part-there : (b : Assignment) (next x : ℕ) → Agrees count a b → count ≤ x → x < next →
      (set : PositionSet) × IsFiniteSet set × WSat (is_part l.types (sight_of l.vars view) (map (value_of view.vars) roots) x next) (replace b x set)
  part-there b next x agrees few below =
      let (set, finite, is) = reachable-set in (
        set,
        finite,
        (part-means (replace b x set) next x (Agrees-set count a b x set agrees few finite) (omega (arith, few, below)) below).1 (λ p. (
          (λ on. (is p).0 (subst (λ (z : PositionSet). IsTrue (z p)) (replace-same b x set) on)),
          (λ h. subst (λ (z : PositionSet). IsTrue (z p)) (sym (replace-same b x set)) ((is p).1 h)),
        )),
      )
