-- A search finds what can be reached, each once, and lists it by number.
use Rattle.std.proofs.Common.{◌≡◌, ◌↔◌, ◌⊎◌, inl, inr, ◌<◌, ◌≤◌, ◌+◌, ◌-◌, ◌&&◌, ◌++◌, ◌∷◌, [], ℕ, zero, suc, Bool, true, false, eqb, List, map}
use Rattle.std.proofs.Common.{length, get_or, Option, Some, None, Result, Ok, Err, OnOk, if◌then◌else◌, refl, sym, ap, ◌∙◌, subst, arith, slice_get}
use Rattle.std.proofs.Common.{eqb-true, Contains}
use Rattle.std.specs.List.{list_any, AllByRecursion}
use Rattle.std.specs.List.Sorted.{IsNonDecreasingBy, IsPermutation}
use Rattle.std.proofs.lemmas.Bool.{false≢true}
use Rattle.std.proofs.lemmas.Option.{slice_get_within, slice_get-get_or, get_or_from_slice_get, same_Some}
use Rattle.std.proofs.lemmas.List.Sorted.{Contains-permutation, IsPermutation-sym}
use Rattle.indexmap.specs.IndexSet.{insert_key}
use Rattle.indexmap.proofs.CallerLemmas.{Contains-list_any}
use Rattle.store_core.specs.declared.ids.TypeId.{TypeId}
use Rattle.store_core.specs.declared.ids.CellId.{CellId}
use Rattle.store_core.specs.declared.kind.Route.{Route}
use Rattle.store_core.specs.CellLists.{AreRising}
use Rattle.store_core.specs.Tables.{TypeEntry}
use Rattle.store_core.specs.Stores.{StoreMap}
use Rattle.store_core.proofs.Rising.{AreRising-push}
use Rattle.routing_walks.specs.Walks.{Fields, Walk}
use Rattle.routing_walks.specs.Gathering.{HasAll, Before, Grows}
use Rattle.routing_walks.specs.Sets.{Lists}
use Rattle.routing_walks.proofs.GatheringLemmas.{below_suc, Contains-at, place_in, Contains-one, Contains-here, Contains-there, Contains-map}
use Rattle.routing_walks.proofs.GatheringLemmas.{map-Contains, Gathers-push}
use Rattle.routing_expr.specs.declared.search.Spot.{Spot}
use Rattle.routing_expr.specs.declared.machine.Edge.{Edge}
use Rattle.routing_expr.specs.contracts.search.SpotPartialEq.TheImpl as spot_eq
use Rattle.routing_expr.specs.Searches.{IsWanted}
use Rattle.routing_expr.specs.Machines.{Arc, arc_of, label_of, Takes, Path, stop, go, Means}
use Rattle.routing_expr.specs.Spots.{Follows, IsAtEnd}
use Rattle.routing_expr.proofs.MachineLemmas.{Path-then}

-- what is read past the end of a list of spots
abbrev pub no_spot : Spot
no_spot = record { place = 0; cell = record { 0 = 0 } }

abbrev pub spot : ℕ → CellId → Spot
spot p c = record { place = p; cell = c }

-- ---- the set of spots

abbrev pub same_spot : Spot → Spot → Bool
same_spot = (spot_eq.ghosts).eq

both_true : (b c : Bool) → b && c ≡ true → (b ≡ true) × (c ≡ true)
both_true true true both = (refl, refl)
both_true true false both = absurd (false≢true both)
both_true false c both = absurd (false≢true both)

-- the derived test says whether two spots are the same
pub same_spot-true : (x y : Spot) → same_spot x y ≡ true → x ≡ y
same_spot-true x y e =
    let h = both_true (eqb x.place y.place) (eqb x.cell.0 y.cell.0) e in
    let places = eqb-true x.place y.place h.0 in
    let cells = eqb-true x.cell.0 y.cell.0 h.1 in
    λ i. record { place = places i; cell = record { 0 = cells i } }

module _ {K : Type 0} (eq : K → K → Bool) (same : (x y : K) → eq x y ≡ true → x ≡ y) where
  -- a key that is put into a set goes to the end, unless it is there
  pub Grows-insert : (ks : List K) (k : K) → Grows ks (insert_key eq ks k) (λ x. x ≡ k)
  Grows-insert ks k = by (list_any (eq k) ks) refl
    where
      nothing : (xs : List K) → xs ≡ xs ++ []
      nothing [] = refl
      nothing (x ∷ xs) = ap (λ l. x ∷ l) (nothing xs)

      by : (b : Bool) → list_any (eq k) ks ≡ b → Grows ks (insert_key eq ks k) (λ x. x ≡ k)
      by true e = subst (λ l. Grows ks l (λ x. x ≡ k)) (sym (ap (λ c. if c then ks else ks ++ k ∷ []) e)) (record {
        more = [];
        end = nothing ks;
        members = λ x. (inl, λ either. elim either [ inl there ↦ there | inr new ↦ subst (λ y. Contains ks y) (sym new) (Contains-list_any eq same ks k e) ]);
      })
      by false e = subst (λ l. Grows ks l (λ x. x ≡ k)) (sym (ap (λ c. if c then ks else ks ++ k ∷ []) e))
          (record { more = k ∷ []; end = refl; members = Gathers-push ks k })

-- ---- spots place by place

-- the spot with the cell at this place of a list
pub record CellSpot (cells : List CellId) (to : ℕ) (i : ℕ) (x : Spot) : Type 0 where
  pub at : slice_get cells i ≡ Some x.cell
  pub place : x.place ≡ to

pub CellSpot-one : (cells : List CellId) (to i : ℕ) (cell : CellId) → slice_get cells i ≡ Some cell → (x : Spot) → (x ≡ spot to cell) ↔ CellSpot cells to i x
CellSpot-one cells to i cell at x = (
  λ same. record { at = at ∙ ap Some (sym (ap (λ (y : Spot). y.cell) same)); place = ap (λ (y : Spot). y.place) same },
  λ h. let cells_same = same_Some cell x.cell (sym at ∙ h.at) in λ i. record { place = h.place i; cell = sym cells_same i },
)

pub CellSpot-all : (cells : List CellId) (to n : ℕ) (P : CellId → Type 0) → length cells ≤ n → HasAll cells P →
    (x : Spot) → Before (CellSpot cells to) n x ↔ ((x.place ≡ to) × P x.cell)
CellSpot-all cells to n P enough all x = (
  λ h. (h.at.place, (all x.cell).0 (Contains-at cells h.place x.cell h.at.at)),
  λ h.
      let p = place_in cells x.cell ((all x.cell).1 h.1) in
      let inside = slice_get_within cells p.0 x.cell p.1 in
      record { place = p.0; before = omega arith; at = record { at = p.1; place = h.0 } },
)

-- a spot to which the edge at this place leads
pub record EdgeSpot (types : List TypeEntry) (s : StoreMap) (fields : Fields) (edges : List Edge) (from : CellId) (i : ℕ) (x : Spot) : Type 0 where
  pub edge : Edge
  pub at : slice_get edges i ≡ Some edge
  pub place : x.place ≡ edge.to
  pub takes : Takes types s fields (label_of edge.step) from x.cell

module _ (types : List TypeEntry) (s : StoreMap) (fields : Fields) where
  pub EdgeSpot-one : (edges : List Edge) (from : CellId) (i : ℕ) (edge : Edge) → slice_get edges i ≡ Some edge →
      (x : Spot) → ((x.place ≡ edge.to) × Takes types s fields (label_of edge.step) from x.cell) ↔ EdgeSpot types s fields edges from i x
  EdgeSpot-one edges from i edge at x = (
    λ h. record { edge = edge; at = at; place = h.0; takes = h.1 },
    λ h.
        let same = same_Some h.edge edge (sym h.at ∙ at) in
        (h.place ∙ ap (λ (e : Edge). e.to) same, subst (λ (e : Edge). Takes types s fields (label_of e.step) from x.cell) same h.takes),
  )

  pub EdgeSpot-all : (all edges : List Edge) (x : Spot) (n : ℕ) → length edges ≤ n → HasAll (map arc_of edges)
      (λ a. Contains (map arc_of all) a × (a.from ≡ x.place)) →
      (y : Spot) → Before (EdgeSpot types s fields edges x.cell) n y ↔ Follows types s fields (map arc_of all) x y
  EdgeSpot-all all edges x n enough from y = (
    λ h.
        let held = (from (arc_of h.at.edge)).0 (Contains-map arc_of edges h.at.edge (Contains-at edges h.place h.at.edge h.at.at)) in
        record { arc = arc_of h.at.edge; held = held.0; from = held.1; takes = h.at.takes; to = sym h.at.place },
    λ h.
        let m = map-Contains arc_of edges h.arc ((from h.arc).1 (h.held, h.from)) in
        let p = place_in edges m.0 m.1 in
        let inside = slice_get_within edges p.0 m.0 p.1 in
        record {
          place = p.0;
          before = omega arith;
          at = record {
            edge = m.0;
            at = p.1;
            place = sym h.to ∙ sym (ap (λ (a : Arc). a.to) m.2);
            takes = subst (λ (a : Arc). Takes types s fields a.label x.cell y.cell) (sym m.2) h.takes;
          };
        },
  )

-- ---- reaching

-- the spots that were found: the first is there, each can be reached, and what follows one of the first n is there
pub record IsReaching (types : List TypeEntry) (s : StoreMap) (fields : Fields) (arcs : List Arc) (from : CellId) (n : ℕ) (found : List Spot) : Type 0 where
  pub start : Contains found (spot 0 from)
  pub sound : (x : Spot) → Contains found x → Path types s fields arcs 0 from x.place x.cell
  pub closed : (i : ℕ) (x y : Spot) → i < n → slice_get found i ≡ Some x → Follows types s fields arcs x y → Contains found y

module _ (types : List TypeEntry) (s : StoreMap) (fields : Fields) (arcs : List Arc) (from : CellId) where
  pub IsReaching-start : (found : List Spot) → found ≡ spot 0 from ∷ [] → IsReaching types s fields arcs from 0 found
  IsReaching-start found is = subst (λ l. IsReaching types s fields arcs from 0 l) (sym is) (record {
    start = Contains-here (spot 0 from) [];
    sound = λ x h. subst (λ (y : Spot). Path types s fields arcs 0 from y.place y.cell) (sym (Contains-one (spot 0 from) x h)) (stop 0 from);
    closed = λ i x y below at h. absurd (omega arith);
  })

  prefix : (found more : List Spot) (i : ℕ) → i < length found → slice_get (found ++ more) i ≡ slice_get found i
  prefix [] more i inside = absurd (omega arith)
  prefix (x ∷ found) more zero inside = refl
  prefix (x ∷ found) more (suc i) inside = prefix found more i (omega arith)

  pub IsReaching-next : (n : ℕ) (found now : List Spot) (x : Spot) → slice_get found n ≡ Some x → IsReaching types s fields arcs from n found →
      Grows found now (Follows types s fields arcs x) → IsReaching types s fields arcs from (n + 1) now
  IsReaching-next n found now x at h grows = record {
    start = (grows.members (spot 0 from)).1 (inl h.start);
    sound = λ y there. elim ((grows.members y).0 there) [
      | inl old ↦ h.sound y old
      | inr new ↦ Path-then types s fields (h.sound x (Contains-at found n x at))
          (go x.place x.cell new.arc y.cell y.place y.cell new.held new.from new.takes
          (subst (λ p. Path types s fields arcs p y.cell y.place y.cell) (sym new.to) (stop y.place y.cell)))
    ];
    closed = λ i y z below there follows.
        let within : n < length found = slice_get_within found n x at in
        let before : slice_get found i ≡ Some y = sym (prefix found grows.more i (omega arith)) ∙ sym (ap (λ l. slice_get l i) grows.end) ∙ there in
        elim (below_suc i n below) [
          | inl less ↦ (grows.members z).1 (inl (h.closed i y z less before follows))
          | inr same ↦ (grows.members z).1 (inr (subst (λ w. Follows types s fields arcs w z)
              (same_Some y x (sym before ∙ ap (λ k. slice_get found k) same ∙ at)) follows))
        ];
  }

  -- a path from a spot that was found ends at one, where all have been gone on from
  carried : (n : ℕ) (found : List Spot) → length found ≤ n → IsReaching types s fields arcs from n found →
      {p : ℕ} {a : CellId} {q : ℕ} {b : CellId} → Path types s fields arcs p a q b → Contains found (spot p a) → Contains found (spot q b)
  carried n found enough h (stop p a) there = there
  carried n found enough h (go p a arc b q c held at takes path) there =
      let place = place_in found (spot p a) there in
      let inside = slice_get_within found place.0 (spot p a) place.1 in
      carried n found enough h path
      (h.closed place.0 (spot p a) (spot arc.to b) (omega arith) place.1 (record { arc = arc; held = held; from = at; takes = takes; to = refl }))

  pub IsReaching-all : (n : ℕ) (found : List Spot) → length found ≤ n → IsReaching types s fields arcs from n found →
      HasAll found (λ x. Path types s fields arcs 0 from x.place x.cell)
  IsReaching-all n found enough h x = (h.sound x, λ path. carried n found enough h path h.start)

-- ---- the cells at the end

-- the cell of the spot at this place, where it passes
pub record SpotCell (spots : List Spot) (P : Spot → Type 0) (i : ℕ) (d : CellId) : Type 0 where
  pub spot_at : Spot
  pub at : slice_get spots i ≡ Some spot_at
  pub passes : P spot_at
  pub is : d ≡ spot_at.cell

pub SpotCell-one : (spots : List Spot) (P : Spot → Type 0) (i : ℕ) (x : Spot) → slice_get spots i ≡ Some x → P x → (d : CellId) →
    (d ≡ x.cell) ↔ SpotCell spots P i d
SpotCell-one spots P i x at passes d = (
  λ is. record { spot_at = x; at = at; passes = passes; is = is },
  λ h. h.is ∙ ap (λ (y : Spot). y.cell) (same_Some h.spot_at x (sym h.at ∙ at)),
)

pub SpotCell-not : (spots : List Spot) (P : Spot → Type 0) (i : ℕ) (x : Spot) → slice_get spots i ≡ Some x → (P x → ⊥) → (d : CellId) → SpotCell spots P i d → ⊥
SpotCell-not spots P i x at fails d h = fails (subst P (same_Some h.spot_at x (sym h.at ∙ at)) h.passes)

pub SpotCell-all : (spots : List Spot) (s : StoreMap) (target : Option TypeId) (n : ℕ) → length spots ≤ n →
    (d : CellId) → Before (SpotCell spots (IsAtEnd s target)) n d ↔ (Contains spots (spot 1 d) × IsWanted s target d)
SpotCell-all spots s target n enough d = (
  λ h.
      let x = h.at.spot_at in
      let same : x ≡ spot 1 d = λ i. record { place = h.at.passes.0 i; cell = sym h.at.is i } in
      (subst (λ y. Contains spots y) same (Contains-at spots h.place x h.at.at), subst (λ c. IsWanted s target c) (sym h.at.is) h.at.passes.1),
  λ h.
      let p = place_in spots (spot 1 d) h.0 in
      let inside = slice_get_within spots p.0 (spot 1 d) p.1 in
      record { place = p.0; before = omega arith; at = record { spot_at = spot 1 d; at = p.1; passes = (refl, h.1); is = refl } },
)

-- ---- lists of cells by number

all-weaker : {X : Type 0} (P Q : X → Type 0) → ((x : X) → P x → Q x) → (xs : List X) → AllByRecursion P xs → AllByRecursion Q xs
all-weaker P Q weaker [] all = tt
all-weaker P Q weaker (x ∷ xs) all = (weaker x all.0, all-weaker P Q weaker xs all.1)

-- all are below what the last one is below
pub below-last : (cells : List CellId) (last : CellId) (n : ℕ) → AreRising cells → slice_get cells (length cells - 1) ≡ Some last →
    last.0 < n → AllByRecursion (λ d. d.0 < n) cells
below-last [] last n rising at less = tt
below-last (c ∷ []) last n rising at less = let same = ap (λ (x : CellId). x.0) (same_Some c last at) in (omega arith, tt)
below-last (c ∷ d ∷ cells) last n rising at less =
    let place : length (c ∷ d ∷ cells) - 1 ≡ suc (length (d ∷ cells) - 1) = omega arith in
    let tail = below-last (d ∷ cells) last n rising.1 (sym (ap (λ k. slice_get (c ∷ d ∷ cells) k) place) ∙ at) less in
    let first = rising.0.0 in
    let second = tail.0 in
    (omega arith, tail)

-- what holds of all of a list holds of each
pub all-from : {X : Type 0} (P : X → Type 0) (xs : List X) → ((x : X) → Contains xs x → P x) → AllByRecursion P xs
all-from P [] each = tt
all-from P (x ∷ xs) each = (each x (Contains-here x xs), all-from P xs (λ y there. each y (Contains-there x xs y there)))

pub Lists-push : (cells : List CellId) (cell : CellId) → AreRising cells → AllByRecursion (λ d. d.0 < cell.0) cells →
    Lists (λ d. Contains cells d ⊎ (d ≡ cell)) (cells ++ cell ∷ [])
Lists-push cells cell rising below = record { rising = AreRising-push cells cell rising below; members = Gathers-push cells cell }

pub Lists-kept : (cells : List CellId) (cell : CellId) → AreRising cells → Contains cells cell → Lists (λ d. Contains cells d ⊎ (d ≡ cell)) cells
Lists-kept cells cell rising there = record {
  rising = rising;
  members = λ d. (inl, λ either. elim either [ inl old ↦ old | inr same ↦ subst (λ x. Contains cells x) (sym same) there ]);
}

-- the first n cells of the list
abbrev pub FirstCell : List CellId → ℕ → CellId → Type 0
FirstCell cells i d = slice_get cells i ≡ Some d

pub Lists-alike : (P Q : CellId → Type 0) (cells : List CellId) → ((d : CellId) → P d ↔ Q d) → Lists P cells → Lists Q cells
Lists-alike P Q cells alike h = record {
  rising = h.rising;
  members = λ d. (λ there. (alike d).0 ((h.members d).0 there), λ q. (h.members d).1 ((alike d).1 q));
}

pub Lists-next : (cells : List CellId) (n : ℕ) (cell : CellId) (old now : List CellId) → slice_get cells n ≡ Some cell →
    Lists (Before (FirstCell cells) n) old →
    Lists (λ d. Contains old d ⊎ (d ≡ cell)) now → Lists (Before (FirstCell cells) (n + 1)) now
Lists-next cells n cell old now at before after = Lists-alike (λ d. Contains old d ⊎ (d ≡ cell)) (Before (FirstCell cells) (n + 1)) now alike after
  where
    alike : (d : CellId) → (Contains old d ⊎ (d ≡ cell)) ↔ Before (FirstCell cells) (n + 1) d
    alike d = (
      λ either. elim either [
        | inl there ↦ let h = (before.members d).0 there in let below = h.before in record { place = h.place; before = omega arith; at = h.at }
        | inr same ↦ record { place = n; before = omega arith; at = at ∙ ap Some (sym same) }
      ],
      λ h. elim (below_suc h.place n h.before) [
        | inl below ↦ inl ((before.members d).1 (record { place = h.place; before = below; at = h.at }))
        | inr same ↦ inr (same_Some d cell (sym h.at ∙ ap (λ k. slice_get cells k) same ∙ at))
      ],
    )

-- those before a place have no greater numbers
pub first-below : (cells : List CellId) (n : ℕ) (cell : CellId) (old : List CellId) → slice_get cells n ≡ Some cell →
    IsNonDecreasingBy (λ (c : CellId). c.0) cells →
    Lists (Before (FirstCell cells) n) old → AllByRecursion (λ d. d.0 ≤ cell.0) old
first-below cells n cell old at rising before = all-from (λ d. d.0 ≤ cell.0) old (λ d there.
    let h = (before.members d).0 there in
    let below = h.before in
    let inside = slice_get_within cells n cell at in
    let le = rising h.place n d (omega arith) inside in
    let one = ap (λ (c : CellId). c.0) (get_or_from_slice_get cells h.place d d h.at) in
    let two = ap (λ (c : CellId). c.0) (get_or_from_slice_get cells n cell d at) in
    omega arith)

pub Lists-none : (cells : List CellId) → Lists (Before (FirstCell cells) 0) []
Lists-none cells = record {
  rising = tt;
  members = λ d. (λ there. let inside = there.1 in absurd (omega arith), λ h. let below = h.before in absurd (omega arith));
}

-- after the last one these are all cells of a list that was put in order
pub Lists-all : (cells sorted : List CellId) (n : ℕ) (now : List CellId) → IsPermutation cells sorted → length sorted ≤ n →
    Lists (Before (FirstCell sorted) n) now → Lists (Contains cells) now
Lists-all cells sorted n now order enough h = Lists-alike (Before (FirstCell sorted) n) (Contains cells) now alike h
  where
    alike : (d : CellId) → Before (FirstCell sorted) n d ↔ Contains cells d
    alike d = (
      λ b. Contains-permutation sorted cells d (IsPermutation-sym cells sorted order) (Contains-at sorted b.place d b.at),
      λ there.
          let p = place_in sorted d (Contains-permutation cells sorted d order there) in
          let inside = slice_get_within sorted p.0 d p.1 in
          record { place = p.0; before = omega arith; at = p.1 },
    )

-- ---- one more in a list

pub last-none : (cells : List CellId) → slice_get cells (length cells - 1) ≡ None → cells ≡ []
last-none [] at = refl
last-none (c ∷ cells) at =
    let there = slice_get-get_or (c ∷ cells) (length (c ∷ cells) - 1) c (omega arith) in
    absurd (none_some (get_or (c ∷ cells) (length (c ∷ cells) - 1) c) (sym at ∙ there))
  where
    none_some : (x : CellId) → None ≡ Some x → ⊥
    none_some x e = cc

pub below-none : (cells : List CellId) (n : ℕ) → cells ≡ [] → AllByRecursion (λ d. d.0 < n) cells
below-none cells n none = subst (λ l. AllByRecursion (λ d. d.0 < n) l) (sym none) tt

pub OnOk-pushed : {T E : Type 0} (r : Result T E) (cells now : List CellId) (cell : CellId) → OnOk r (now ≡ cells ++ cell ∷ []) → AreRising cells →
    AllByRecursion (λ d. d.0 < cell.0) cells → OnOk r (Lists (λ d. Contains cells d ⊎ (d ≡ cell)) now)
OnOk-pushed (Ok x) cells now cell is rising below = subst (λ l. Lists (λ d. Contains cells d ⊎ (d ≡ cell)) l) (sym is) (Lists-push cells cell rising below)
OnOk-pushed (Err e) cells now cell is rising below = tt

-- ---- from spots to walks

pub at-end : (types : List TypeEntry) (s : StoreMap) (fields : Fields) (along : Route) (arcs : List Arc) (from : CellId)
    (found : List Spot) → Means along arcs →
    HasAll found (λ x. Path types s fields arcs 0 from x.place x.cell) → (d : CellId) → Contains found (spot 1 d) ↔ Walk types s fields along from d
at-end types s fields along arcs from found means all d = (
  λ there. (means types s fields from d).1 ((all (spot 1 d)).0 there),
  λ walk. (all (spot 1 d)).1 ((means types s fields from d).0 walk),
)
