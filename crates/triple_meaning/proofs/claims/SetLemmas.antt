-- Finite sets of positions of cells, and sets of cells.
use Rattle.std.proofs.Common.{◌≡◌, ◌↔◌, inl, inr, Bool, true, false, IsTrue, List, [], ◌∷◌, Contains, refl, sym, ◌∙◌, subst}
use Rattle.std.proofs.lemmas.Bool.{false≢true}
use Rattle.std.specs.Prelude.{is_some}
use Rattle.std.specs.List.{AllByRecursion}
use Rattle.gta_theory.specs.Assignments.{Position, PositionSet, IsFiniteSet}
use Rattle.gta_theory.proofs.ListsLemmas.{Contains-first, Contains-later, Contains-cases}
use Rattle.store_core.specs.declared.ids.CellId.{CellId}
use Rattle.store_core.specs.declared.ids.TypeId.{TypeId}
use Rattle.store_core.specs.Stores.{StoreMap, IsLive, cell_of}
use Rattle.routing_walks.specs.Walks.{IsOfType}
use Rattle.routing_walks.specs.Regions.{has_number}
use Rattle.routing_walks.proofs.LiveLemmas.{IsSome-and}
use Rattle.routing_walks.specs.Deciding.{Decided}
use Rattle.routing_walks.proofs.DecidedWalks.{listed}
use Rattle.routing_walks.proofs.DecidedLemmas.{in_none}
use Rattle.routing_walks.proofs.RegionLemmas.{number_in, in_number}
use Rattle.store_logic.specs.Satisfaction.{IsSetOf}
use Rattle.graph_view.specs.After.{Standing, IsAt}
use Rattle.graph_meaning.specs.Live.Standing.{TypeAt}
use Rattle.graph_meaning.proofs.walks.ListedLemmas.{places_of, on-place, place-on, places-finite}

pub all-from : {X : Type 0} (P : X → Type 0) (xs : List X) → ((x : X) → Contains xs x → P x) → AllByRecursion P xs
all-from P [] each = tt
all-from P (x ∷ xs) each = (each x (Contains-first x xs), all-from P xs (λ y inside. each y (Contains-later x y xs inside)))

pub all-in : {X : Type 0} (P : X → Type 0) (xs : List X) (x : X) → AllByRecursion P xs → Contains xs x → P x
all-in P [] x all inside = absurd (in_none x inside)
all-in P (y ∷ xs) x all inside = elim (Contains-cases y x xs inside) as (λ _. P x) [
  | inl same ↦ subst P same all.0
  | inr later ↦ all-in P xs x all.1 later
]

-- the set has just the positions of the cells, each of which stands somewhere
pub record Covers (at : Standing) (set : PositionSet) (cells : List CellId) : Type 0 where
  pub each : (p : Position) → IsTrue (set p) ↔ ((c : CellId) × Contains cells c × IsAt at c p)
  pub all : (c : CellId) → Contains cells c → (p : Position) × IsAt at c p

module _ (t : StoreMap) (at : Standing) (there : (c : CellId) → IsLive t c → (p : Position) × IsAt at c p)
    (one : (c : CellId) (p q : Position) → IsAt at c p → IsAt at c q → p ≡ q) (apart : (c d : CellId) (p : Position) → IsAt at c p → IsAt at d p → c ≡ d) where
  -- the positions of live cells
  cells-set : (cells : List CellId) → ((c : CellId) → Contains cells c → IsLive t c) → (set : PositionSet) × IsFiniteSet set × Covers at set cells
  cells-set cells live = (
    places_of (λ c. has_number cells c.0) at,
    places-finite (λ c. has_number cells c.0) at,
    record {
      each = λ p. (
        (λ on. let (c, here, so) = on-place (λ d. has_number cells d.0) at p on in (c, in_number cells c so, here)),
        (λ h. place-on (λ d. has_number cells d.0) at h.0 p h.2 (number_in cells h.0 h.1)),
      );
      all = λ c inside. there c (live c inside);
    },
  )

  -- the live cells of a set of positions
  abbrev IsInSet : PositionSet → CellId → Type 0
  IsInSet set c = IsLive t c × ((p : Position) × (IsAt at c p × IsTrue (set p)))

  decided-inside : (set : PositionSet) (c : CellId) → Decided (IsInSet set c)
  decided-inside set c = by (is_some (cell_of t c)) refl
    where
      placed : (living : IsLive t c) (p : Position) (here : IsAt at c p) (k : Bool) → set p ≡ k → Decided (IsInSet set c)
      placed living p here true on = inl (living, (p, (here, on)))
      placed living p here false off = inr (λ h. false≢true (sym off ∙ subst (λ q. IsTrue (set q)) (one c h.1.0 p h.1.1.0 here) h.1.1.1))

      by : (k : Bool) → is_some (cell_of t c) ≡ k → Decided (IsInSet set c)
      by true living = (let (p, here) = there c living in placed living p here (set p) refl)
      by false dead = inr (λ h. false≢true (sym dead ∙ h.0))

  pub set-cells : (ty : TypeId) (set : PositionSet) → ((p : Position) → IsTrue (set p) → TypeAt t at ty p) →
      (cells : List CellId) × IsSetOf t ty cells × Covers at set cells
  set-cells ty set typed =
      let (cells, lists) = listed t (IsInSet set) (decided-inside set) (λ c h. h.0) in (
        cells,
        record {
          rising = lists.rising;
          members = all-from (IsOfType t ty) cells (λ c inside.
              let h = (lists.members c).0 inside in
              let (d, also, of_ty) = typed h.1.0 h.1.1.1 in
              subst (λ z. IsOfType t ty z) (apart d c h.1.0 also h.1.1.0) of_ty);
        },
        record {
          each = λ p. (
            (λ on.
                let (c, here, of_ty) = typed p on in
                (c, (lists.members c).1 (IsSome-and (cell_of t c) (λ e. e.variant.ty ≡ ty) of_ty, (p, (here, on))), here)),
            (λ h.
                let k = (lists.members h.0).0 h.1 in
                subst (λ q. IsTrue (set q)) (one h.0 k.1.0 p k.1.1.0 h.2) k.1.1.1),
          );
          all = λ c inside. let h = (lists.members c).0 inside in (h.1.0, h.1.1.0);
        },
      )

  -- a set of cells of the type
  pub set-of-cells : (ty : TypeId) (cells : List CellId) → IsSetOf t ty cells → (set : PositionSet) × IsFiniteSet set × Covers at set cells
  set-of-cells ty cells is = cells-set cells (λ c inside. IsSome-and (cell_of t c) (λ e. e.variant.ty ≡ ty) (all-in (IsOfType t ty) cells c is.members inside))

  pub covered-typed : (ty : TypeId) (cells : List CellId) (set : PositionSet) → IsSetOf t ty cells → Covers at set cells → (p : Position) → IsTrue (set p) →
      TypeAt t at ty p
  covered-typed ty cells set is covers p on =
      let (c, inside, here) = (covers.each p).0 on in (c, here, all-in (IsOfType t ty) cells c is.members inside)
