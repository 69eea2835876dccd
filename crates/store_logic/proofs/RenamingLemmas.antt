-- Paired stores and environments: what terms and names stand for, and the partners of a set.
use Rattle.std.proofs.Common.{◌≡◌, ◌↔◌, inl, inr, ℕ, zero, suc, List, [], ◌∷◌, map, slice_get, get_or, unwrap_or, Option, Some, None, IsSome, IsSomeAnd}
use Rattle.std.proofs.Common.{is_some, if◌then◌else◌, refl, sym, ap, ◌∙◌, subst, Contains}
use Rattle.std.proofs.lemmas.List.Elements.{All-from_recursion, recursion_from_All, All-contains, Contains-get_or}
use Rattle.store_core.specs.declared.ids.TypeId.{TypeId}
use Rattle.store_core.specs.declared.ids.VariantId.{VariantId}
use Rattle.store_core.specs.declared.ids.FieldId.{FieldId}
use Rattle.store_core.specs.declared.ids.VarId.{VarId}
use Rattle.store_core.specs.declared.ids.CellId.{CellId}
use Rattle.store_core.specs.declared.value.Value.{Value}
use Rattle.store_core.specs.declared.value.Value.TheVariants as value
use Rattle.store_core.specs.Tables.{TypeEntry, VarEntry}
use Rattle.store_core.specs.Stores.{StoreMap, CellEntry, IsLive, cell_of, field_value}
use Rattle.routing_walks.specs.Walks.{IsOfType, IsOfVariant, IsParent, Chain, stay, go}
use Rattle.routing_walks.specs.Regions.{store_on, IsReachedFrom}
use Rattle.routing_walks.specs.Deciding.{Decided}
use Rattle.routing_walks.specs.Pairing.{PairsReference, PairsValue, PairsSlot, Pairwise, PairsEntry, ArePaired}
use Rattle.routing_walks.proofs.DecidedLemmas.{decided_there, decided_in, in_none}
use Rattle.routing_walks.proofs.DecidedWalks.{decided_same_cell, listed}
use Rattle.routing_walks.proofs.PairLemmas.{turn, ArePaired-turned, value_turned, reference_to, field_paired, live_to, type_to}
use Rattle.routing_walks.proofs.RegionLemmas.{store_on-IsOn, live_on}
use Rattle.store_logic.specs.declared.term.Base.{Base}
use Rattle.store_logic.specs.declared.term.Base.TheVariants as base
use Rattle.store_logic.specs.declared.term.Term.{Term}
use Rattle.store_logic.specs.declared.term.Term.TheVariants as term
use Rattle.store_logic.specs.declared.arg.Arg.{Arg}
use Rattle.store_logic.specs.declared.arg.Arg.TheVariants as arg
use Rattle.store_logic.specs.Terms.{Environment, null, base_value, field_of_value, value_along, live_value, term_value, cell_in, truth_in, set_in}
use Rattle.store_logic.specs.Terms.{cell_at, truth_at, set_at, arg_value}
use Rattle.store_logic.specs.Satisfaction.{IsSetOf}
use Rattle.store_logic.specs.Renamed.{PairsLive, PairsBound, without_variables, PairsStore, PairsEnvironment}
use Rattle.store_logic.proofs.SameLemmas.{itself}

-- ---- lists and references

pub Pairwise-each : {X : Type 0} (K L : X → X → Type 0) → ((x y : X) → K x y → L x y) → (xs ys : List X) → Pairwise K xs ys → Pairwise L xs ys
Pairwise-each K L each [] [] h = tt
Pairwise-each K L each [] (y ∷ ys) h = absurd h
Pairwise-each K L each (x ∷ xs) [] h = absurd h
Pairwise-each K L each (x ∷ xs) (y ∷ ys) h = (each x y h.0, Pairwise-each K L each xs ys h.1)

-- what holds of a cell where it does of its partner
pub reference-both : {P Q : CellId → Type 0} (K : CellId → CellId → Type 0) → ((a c : CellId) → K a c → P a ↔ Q c) → (o p : Option CellId) →
    PairsReference K o p → IsSomeAnd o P ↔ IsSomeAnd p Q
reference-both K each None None k = itself
reference-both K each None (Some c) k = absurd k
reference-both K each (Some a) None k = absurd k
reference-both K each (Some a) (Some c) k = each a c k

-- one reference has one partner
one-reference : (K : CellId → CellId → Type 0) → ((a c d : CellId) → K a c → K a d → c ≡ d) → (o p u w : Option CellId) →
    PairsReference K o p → PairsReference K u w → o ≡ u → p ≡ w
one-reference K one None None None None h k e = refl
one-reference K one (Some a) (Some c) (Some b) (Some d) h k e =
    let same : b ≡ a = cc in ap (λ x. Some x) (one a c d h (subst (λ x. K x d) same k))
one-reference K one None (Some c) u w h k e = absurd h
one-reference K one (Some a) None u w h k e = absurd h
one-reference K one o p None (Some d) h k e = absurd k
one-reference K one o p (Some b) None h k e = absurd k
one-reference K one None None (Some b) (Some d) h k e = absurd (cc)
one-reference K one (Some a) (Some c) None None h k e = absurd (cc)

from_value : (R : CellId → CellId → Type 0) (s t : StoreMap) (x y : Value) → PairsValue R x y → PairsBound R s t x y
from_value R s t (value.Bool truth) (value.Bool other) e = e
from_value R s t (value.Cell c) (value.Cell d) e = e
from_value R s t (value.Cells cells) (value.Cells others) e = record { forth = λ c live m. e.2 c m; back = λ d live m. e.3 d m }
from_value R s t x y e = absurd e

-- stores whose dead members are paired too
pub PairsStore-from_ArePaired : (R : CellId → CellId → Type 0) (s t : StoreMap) → ArePaired R s t → PairsStore R s t
PairsStore-from_ArePaired R s t h = record {
  cells = record { one = h.one; other = h.other; forth = h.forth; back = h.back; cells = h.cells; vars = tt };
  vars = Pairwise-each (PairsValue R) (PairsBound R s t) (from_value R s t) s.vars t.vars h.vars;
}

-- ---- the other way about

module _ (R : CellId → CellId → Type 0) (s t : StoreMap) where
  reference_turned : (c d : Option CellId) → PairsReference R c d → PairsReference (turn R) d c
  reference_turned c d e = value_turned R (value.Cell c) (value.Cell d) e

  bound_turned : (x y : Value) → PairsBound R s t x y → PairsBound (turn R) t s y x
  bound_turned (value.Bool truth) (value.Bool other) e = sym e
  bound_turned (value.Cell c) (value.Cell d) e = reference_turned c d e
  bound_turned (value.Cells cells) (value.Cells others) e = record { forth = e.back; back = e.forth }
  bound_turned x y e = absurd e

  vars_turned : (xs ys : List Value) → Pairwise (PairsBound R s t) xs ys → Pairwise (PairsBound (turn R) t s) ys xs
  vars_turned [] [] e = tt
  vars_turned [] (y ∷ ys) e = absurd e
  vars_turned (x ∷ xs) [] e = absurd e
  vars_turned (x ∷ xs) (y ∷ ys) e = (bound_turned x y e.0, vars_turned xs ys e.1)

  pub PairsStore-turned : PairsStore R s t → PairsStore (turn R) t s
  PairsStore-turned h = record {
    cells = ArePaired-turned R (without_variables s) (without_variables t) h.cells;
    vars = vars_turned s.vars t.vars h.vars;
  }

-- a live cell with its partner
abbrev pub LivePair : (CellId → CellId → Type 0) → StoreMap → CellId → CellId → Type 0
LivePair R s a c = R a c × IsLive s a

-- a live cell that is paired with one of the set
record IsPartner (R : CellId → CellId → Type 0) (t : StoreMap) (cells : List CellId) (d : CellId) : Type 0 where
  live : IsLive t d
  cell : CellId
  member : Contains cells cell
  pair : R cell d

module _ (R : CellId → CellId → Type 0) (s t : StoreMap) (h : PairsStore R s t) where
  -- ---- values

  from_slot : (x y : Option Value) → PairsSlot R x y → PairsBound R s t (unwrap_or x null) (unwrap_or y null)
  from_slot None None e = tt
  from_slot None (Some y) e = absurd e
  from_slot (Some x) None e = absurd e
  from_slot (Some x) (Some y) e = from_value R s t x y e

  bound_at : (xs ys : List Value) (k : ℕ) → Pairwise (PairsBound R s t) xs ys →
      PairsBound R s t (unwrap_or (slice_get xs k) null) (unwrap_or (slice_get ys k) null)
  bound_at [] [] k e = tt
  bound_at [] (y ∷ ys) k e = absurd e
  bound_at (x ∷ xs) [] k e = absurd e
  bound_at (x ∷ xs) (y ∷ ys) zero e = e.0
  bound_at (x ∷ xs) (y ∷ ys) (suc k) e = bound_at xs ys k e.1

  field_of_paired : (x y : Value) (f : FieldId) → PairsBound R s t x y → PairsBound R s t (field_of_value s x f) (field_of_value t y f)
  field_of_paired (value.Bool truth) (value.Bool other) f e = tt
  field_of_paired (value.Cell None) (value.Cell None) f e = tt
  field_of_paired (value.Cell (Some a)) (value.Cell (Some c)) f e =
      from_slot (field_value s a f) (field_value t c f) (field_paired R (without_variables s) (without_variables t) h.cells a c f e)
  field_of_paired (value.Cells cells) (value.Cells others) f e = tt
  field_of_paired x y f e = absurd e

  along_paired : (x y : Value) (fields : List FieldId) → PairsBound R s t x y → PairsBound R s t (value_along s x fields) (value_along t y fields)
  along_paired x y [] e = e
  along_paired x y (f ∷ fields) e = along_paired (field_of_value s x f) (field_of_value t y f) fields (field_of_paired x y f e)

  where_live : (a c : CellId) → R a c → (o p : Option CellEntry) → PairsEntry R o p →
      PairsBound R s t (if is_some o then value.Cell (Some a) else null) (if is_some p then value.Cell (Some c) else null)
  where_live a c e None None k = tt
  where_live a c e None (Some other) k = absurd k
  where_live a c e (Some cell) None k = absurd k
  where_live a c e (Some cell) (Some other) k = e

  live_paired : (x y : Value) → PairsBound R s t x y → PairsBound R s t (live_value s x) (live_value t y)
  live_paired (value.Bool truth) (value.Bool other) e = e
  live_paired (value.Cell None) (value.Cell None) e = tt
  live_paired (value.Cell (Some a)) (value.Cell (Some c)) e = where_live a c e (cell_of s a) (cell_of t c) (h.cells.cells a c e)
  live_paired (value.Cells cells) (value.Cells others) e = e
  live_paired x y e = absurd e

  -- ---- what is read of a value

  live_cell : (a c : CellId) (o p : Option CellEntry) → PairsEntry R o p → (IsSome o → LivePair R s a c) →
      PairsReference (LivePair R s) (cell_in (if is_some o then value.Cell (Some a) else null)) (cell_in (if is_some p then value.Cell (Some c) else null))
  live_cell a c None None k pair = tt
  live_cell a c None (Some other) k pair = absurd k
  live_cell a c (Some cell) None k pair = absurd k
  live_cell a c (Some cell) (Some other) k pair = pair refl

  cell_paired : (x y : Value) → PairsBound R s t x y → PairsReference (LivePair R s) (cell_in (live_value s x)) (cell_in (live_value t y))
  cell_paired (value.Bool truth) (value.Bool other) e = tt
  cell_paired (value.Cell None) (value.Cell None) e = tt
  cell_paired (value.Cell (Some a)) (value.Cell (Some c)) e = live_cell a c (cell_of s a) (cell_of t c) (h.cells.cells a c e) (λ live. (e, live))
  cell_paired (value.Cells cells) (value.Cells others) e = tt
  cell_paired x y e = absurd e

  truth_paired : (x y : Value) → PairsBound R s t x y → truth_in x ≡ truth_in y
  truth_paired (value.Bool truth) (value.Bool other) e = e
  truth_paired (value.Cell c) (value.Cell d) e = refl
  truth_paired (value.Cells cells) (value.Cells others) e = refl
  truth_paired x y e = absurd e

  no_members : PairsLive R s t [] []
  no_members = record { forth = λ c live m. absurd (in_none c m); back = λ d live m. absurd (in_none d m) }

  set_paired : (x y : Value) → PairsBound R s t x y → PairsLive R s t (set_in x) (set_in y)
  set_paired (value.Bool truth) (value.Bool other) e = no_members
  set_paired (value.Cell c) (value.Cell d) e = no_members
  set_paired (value.Cells cells) (value.Cells others) e = e
  set_paired x y e = absurd e

  -- ---- names and terms

  module _ (e f : Environment) (q : PairsEnvironment R s t e f) where
    base_paired : (name : Base) → PairsBound R s t (base_value s e name) (base_value t f name)
    base_paired (base.Var v) = bound_at s.vars t.vars v.0 h.vars
    base_paired (base.Bound k) = bound_at e.bound f.bound k q.bound
    base_paired (base.Param k) = bound_at e.params f.params k q.params

    term_paired : (x : Term) → PairsBound R s t (term_value s e x) (term_value t f x)
    term_paired term.Null = tt
    term_paired (term.At name fields) =
        live_paired (value_along s (base_value s e name) fields) (value_along t (base_value t f name) fields)
        (along_paired (base_value s e name) (base_value t f name) fields (base_paired name))

    pub cells_at : (x : Term) → PairsReference (LivePair R s) (cell_at s e x) (cell_at t f x)
    cells_at term.Null = tt
    cells_at (term.At name fields) =
        cell_paired (value_along s (base_value s e name) fields) (value_along t (base_value t f name) fields)
        (along_paired (base_value s e name) (base_value t f name) fields (base_paired name))

    pub truths_at : (x : Term) → truth_at s e x ≡ truth_at t f x
    truths_at x = truth_paired (term_value s e x) (term_value t f x) (term_paired x)

    pub sets_at : (name : Base) → PairsLive R s t (set_at s e name) (set_at t f name)
    sets_at name = set_paired (base_value s e name) (base_value t f name) (base_paired name)

    arg_paired : (x : Arg) → PairsBound R s t (arg_value s e x) (arg_value t f x)
    arg_paired (arg.Cell x) = term_paired x
    arg_paired (arg.Set name) = base_paired name
    arg_paired (arg.Truth x) = term_paired x

    pub args_paired : (args : List Arg) → Pairwise (PairsBound R s t) (map (arg_value s e) args) (map (arg_value t f) args)
    args_paired [] = tt
    args_paired (x ∷ args) = (arg_paired x, args_paired args)

  -- ---- cells

  back : ArePaired (turn R) (without_variables t) (without_variables s)
  back = ArePaired-turned R (without_variables s) (without_variables t) h.cells

  pub live_forth : (a c : CellId) → R a c → IsLive s a → IsLive t c
  live_forth a c p live = live_to R (without_variables s) (without_variables t) h.cells a c p live

  pub live_back : (a c : CellId) → R a c → IsLive t c → IsLive s a
  live_back a c p live = live_to (turn R) (without_variables t) (without_variables s) back c a p live

  variant_entry : (v : VariantId) (o p : Option CellEntry) → PairsEntry R o p →
      IsSomeAnd o (λ cell. cell.variant ≡ v) ↔ IsSomeAnd p (λ cell. cell.variant ≡ v)
  variant_entry v None None e = itself
  variant_entry v None (Some other) e = absurd e
  variant_entry v (Some cell) None e = absurd e
  variant_entry v (Some cell) (Some other) e = (λ k. sym e.variant ∙ k, λ k. e.variant ∙ k)

  pub of_variant : (v : VariantId) (a c : CellId) → R a c → IsOfVariant s v a ↔ IsOfVariant t v c
  of_variant v a c p = variant_entry v (cell_of s a) (cell_of t c) (h.cells.cells a c p)

  pub of_type : (ty : TypeId) (a c : CellId) → R a c → IsOfType s ty a ↔ IsOfType t ty c
  of_type ty a c p = (
    type_to R (without_variables s) (without_variables t) h.cells ty a c p,
    type_to (turn R) (without_variables t) (without_variables s) back ty c a p,
  )

  -- ---- equal terms, members and subsets

  pub same_at : (o p u w : Option CellId) → PairsReference (LivePair R s) o p → PairsReference (LivePair R s) u w → (o ≡ u) ↔ (p ≡ w)
  same_at o p u w k m = (
    one-reference (LivePair R s) (λ a c d x y. h.cells.one a c d x.0 y.0) o p u w k m,
    one-reference (turn (LivePair R s)) (λ c a b x y. h.cells.other a b c x.0 y.0) p o w u
        (reference_turned (LivePair R s) s t o p k) (reference_turned (LivePair R s) s t u w m),
  )

  pub member_both : (cells others : List CellId) → PairsLive R s t cells others → (a c : CellId) → LivePair R s a c →
      Contains cells a ↔ Contains others c
  member_both cells others e a c p = (
    λ m. let k = e.forth a p.1 m in subst (Contains others) (h.cells.one a k.0 c k.2 p.0) k.1,
    λ m. let k = e.back c (live_forth a c p.0 p.1) m in subst (Contains cells) (h.cells.other k.0 a c k.2 p.0) k.1,
  )

  pub subset_both : (cells others more further : List CellId) → PairsLive R s t cells others → PairsLive R s t more further →
      ((c : CellId) → IsLive s c → Contains cells c → Contains more c) ↔ ((d : CellId) → IsLive t d → Contains others d → Contains further d)
  subset_both cells others more further e k = (
    λ within d live m. let a = h.cells.back d live in let alive = live_back a.0 d a.1 live in
        (member_both more further k a.0 d (a.1, alive)).0 (within a.0 alive ((member_both cells others e a.0 d (a.1, alive)).1 m)),
    λ within a live m. let c = h.cells.forth a live in
        (member_both more further k a c.0 (c.1, live)).1 (within c.0 (live_forth a c.0 c.1 live) ((member_both cells others e a c.0 (c.1, live)).0 m)),
  )

  -- ---- the partners of a set

  decided_partner : (cells : List CellId) (d : CellId) → Decided (IsPartner R t cells d)
  decided_partner cells d = elim (decided_there (cell_of t d)) [
    | inr dead ↦ inr (λ k. dead k.live)
    | inl live ↦ let a = h.cells.back d live in elim (decided_in decided_same_cell cells a.0) [
      | inl m ↦ inl (record { live = live; cell = a.0; member = m; pair = a.1 })
      | inr out ↦ inr (λ k. out (subst (Contains cells) (h.cells.other k.cell a.0 d k.pair a.1) k.member))
    ]
  ]

  pub set_forth : (ty : TypeId) (cells : List CellId) → IsSetOf s ty cells → (others : List CellId) × IsSetOf t ty others × PairsLive R s t cells others
  set_forth ty cells is =
      let k = listed t (IsPartner R t cells) (decided_partner cells) (λ d p. p.live) in (
        k.0,
        record {
          rising = k.1.rising;
          members = recursion_from_All (IsOfType t ty) k.0 (λ i d within. let p = ((k.1.members (get_or k.0 i d)).0 (Contains-get_or k.0 i d within)) in
              type_to R (without_variables s) (without_variables t) h.cells ty p.cell (get_or k.0 i d) p.pair
              (All-contains (IsOfType s ty) cells p.cell (All-from_recursion (IsOfType s ty) cells is.members) p.member));
        },
        record {
          forth = λ c live m. let d = h.cells.forth c live in
              (d.0, (k.1.members d.0).1 (record { live = live_forth c d.0 d.1 live; cell = c; member = m; pair = d.1 }), d.1);
          back = λ d live m. let p = (k.1.members d).0 m in (p.cell, p.member, p.pair);
        },
      )

module _ (R : CellId → CellId → Type 0) (s t : StoreMap) (h : PairsStore R s t) where
  pub set_back : (ty : TypeId) (others : List CellId) → IsSetOf t ty others → (cells : List CellId) × IsSetOf s ty cells × PairsLive R s t cells others
  set_back ty others is = let k = set_forth (turn R) t s (PairsStore-turned R s t h) ty others is in
      (k.0, k.1, record { forth = k.2.back; back = k.2.forth })

  -- ---- stores on a set

  module _ (cells others : List CellId) (same : (a c : CellId) → R a c → Contains cells a ↔ Contains others c) where
    bound_on : (x y : Value) → PairsBound R s t x y → PairsBound R (store_on s cells) (store_on t others) x y
    bound_on (value.Bool truth) (value.Bool other) e = e
    bound_on (value.Cell c) (value.Cell d) e = e
    bound_on (value.Cells set) (value.Cells more) e = record {
      forth = λ c live m. e.forth c (live_on cells s (store_on s cells) (store_on-IsOn s cells) c live).1 m;
      back = λ d live m. e.back d (live_on others t (store_on t others) (store_on-IsOn t others) d live).1 m;
    }
    bound_on x y e = absurd e

    values_on : (xs ys : List Value) → Pairwise (PairsBound R s t) xs ys → Pairwise (PairsBound R (store_on s cells) (store_on t others)) xs ys
    values_on = Pairwise-each (PairsBound R s t) (PairsBound R (store_on s cells) (store_on t others)) bound_on

    pub environment_on : (e f : Environment) → PairsEnvironment R s t e f → PairsEnvironment R (store_on s cells) (store_on t others) e f
    environment_on e f q = record { bound = values_on e.bound f.bound q.bound; params = values_on e.params f.params q.params }

    pub paired_on : PairsStore R (store_on s cells) (store_on t others)
    paired_on = record {
      cells = record {
        one = h.cells.one;
        other = h.cells.other;
        forth = λ a live. h.cells.forth a (live_on cells s (store_on s cells) (store_on-IsOn s cells) a live).1;
        back = λ c live. h.cells.back c (live_on others t (store_on t others) (store_on-IsOn t others) c live).1;
        cells = λ a c p. entries a c p;
        vars = tt;
      };
      vars = values_on s.vars t.vars h.vars;
    }
      where
        entries : (a c : CellId) → R a c → PairsEntry R (cell_of (store_on s cells) a) (cell_of (store_on t others) c)
        entries a c p = elim (decided_in decided_same_cell cells a) [
          | inl m ↦ subst (λ o. PairsEntry R o (cell_of (store_on t others) c)) (sym ((store_on-IsOn s cells).inside a m))
              (subst (PairsEntry R (cell_of s a)) (sym ((store_on-IsOn t others).inside c ((same a c p).0 m))) (h.cells.cells a c p))
          | inr out ↦ subst (λ o. PairsEntry R o (cell_of (store_on t others) c)) (sym ((store_on-IsOn s cells).outside a out))
              (subst (PairsEntry R None) (sym ((store_on-IsOn t others).outside c (λ m. out ((same a c p).1 m)))) tt)
        ]

-- ---- trees

module _ (types : List TypeEntry) (vars : List VarEntry) (R : CellId → CellId → Type 0) (s t : StoreMap) (h : PairsStore R s t) where
  chain_to : {a b : CellId} → Chain s (IsParent types s) a b → (c : CellId) → R a c → (d : CellId) × R b d × Chain t (IsParent types t) c d
  chain_to (stay a live) c p = (c, p, stay c (live_forth R s t h a c p live))
  chain_to (go a b last step rest) c p =
      let k = reference_to R (field_value s a step.field) (field_value t c step.field) b
      (field_paired R (without_variables s) (without_variables t) h.cells a c step.field p) step.leads.value in
      let live = live_forth R s t h b k.0 k.1 step.leads.live in
      let more = chain_to rest k.0 k.1 in
      (more.0, more.1, go c k.0 more.0 (record { field = step.field; leads = record { kind = step.leads.kind; value = k.2; live = live } }) more.2)

  root_of : (x y : Value) (b : CellId) → PairsBound R s t x y → x ≡ value.Cell (Some b) → (d : CellId) × R b d × (y ≡ value.Cell (Some d))
  root_of (value.Bool truth) y b e k = absurd (cc)
  root_of (value.Cells cells) y b e k = absurd (cc)
  root_of (value.Cell None) y b e k = absurd (cc)
  root_of (value.Cell (Some a)) (value.Cell (Some d)) b e k = let same : a ≡ b = cc in (d, subst (λ x. R x d) same e, refl)
  root_of (value.Cell (Some a)) y b e k = absurd e

  root_at : (xs ys : List Value) (k : ℕ) (b : CellId) → Pairwise (PairsBound R s t) xs ys → slice_get xs k ≡ Some (value.Cell (Some b)) →
      (d : CellId) × R b d × (slice_get ys k ≡ Some (value.Cell (Some d)))
  root_at [] ys k b e is = absurd (cc)
  root_at (x ∷ xs) [] k b e is = absurd e
  root_at (x ∷ xs) (y ∷ ys) zero b e is = let r = root_of x y b e.0 (cc) in (r.0, r.1, ap (λ z. Some z) r.2)
  root_at (x ∷ xs) (y ∷ ys) (suc k) b e is = root_at xs ys k b e.1 is

  pub reached_to : (roots : List VarId) (a c : CellId) → R a c → IsReachedFrom types vars s roots a → IsReachedFrom types vars t roots c
  reached_to roots a c p k =
      let tree = k.in_tree in
      let root = root_at s.vars t.vars k.root.0 tree.root h.vars tree.named.value in
      let path = chain_to tree.path root.0 root.1 in
      record {
        root = k.root;
        listed = k.listed;
        in_tree = record {
          root = root.0;
          named = record { place = tree.named.place; value = root.2 };
          path = subst (λ x. Chain t (IsParent types t) root.0 x) (h.cells.one a path.0 c path.1 p) path.2;
        };
      }
