-- The cells of a backbone, each at its position, as a list.
use Rattle.std.proofs.Common.{◌≡◌, ◌↔◌, List, [], ◌∷◌, Contains, inl, inr, sym, subst}
use Rattle.gta_theory.specs.Assignments.{Position}
use Rattle.gta_theory.proofs.ListsLemmas.{Contains-first, Contains-later, Contains-cases, Contains-none}
use Rattle.store_core.specs.declared.ids.CellId.{CellId}
use Rattle.store_core.specs.Tables.{TypeEntry, VarEntry}
use Rattle.store_core.specs.Stores.{StoreMap, IsLive, Fits}
use Rattle.routing_walks.specs.WellFormed.{IsBackbone}
use Rattle.routing_walks.proofs.DecidedWalks.{live_cells, live_in, in_live}
use Rattle.tree_encode.specs.Positions.{IsPlaced}
use Rattle.tree_encode.proofs.ApartLemmas.{one-position}
use Rattle.tree_store.proofs.StoresLemmas.{placed-live}
use Rattle.graph_view.specs.After.{Standing, IsAt, AreStanding}
use Rattle.graph_meaning.specs.Live.Standing.{Sits}
use Rattle.graph_meaning.proofs.live.StandingLemmas.{Sits-first}

module _ (types : List TypeEntry) (vars : List VarEntry) (s : StoreMap) (backbone : IsBackbone types vars s) where
  -- the list has these cells, and each where it is placed
  abbrev HasPlaces : List CellId → Standing → Type 0
  HasPlaces cells at = (c : CellId) (p : Position) → IsAt at c p ↔ (Contains cells c × IsPlaced types vars s c p)

  has-more : (d : CellId) (place : Position) (cells : List CellId) (at : Standing) → IsPlaced types vars s d place →
      ((p : Position) → IsPlaced types vars s d p → p ≡ place) → HasPlaces cells at → HasPlaces (d ∷ cells) ((d, place) ∷ at)
  has-more d place cells at placed only has c p = (
    (λ h. elim (Contains-cases (d, place) (c, p) at h) as (λ _. Contains (d ∷ cells) c × IsPlaced types vars s c p) [
      | inl same ↦ subst (λ (x : CellId × Position). Contains (d ∷ cells) x.0 × IsPlaced types vars s x.0 x.1) same (Contains-first d cells, placed)
      | inr old ↦ (let both = (has c p).0 old in (Contains-later d c cells both.0, both.1))
    ]),
    (λ h. elim (Contains-cases d c cells h.0) as (λ _. IsAt ((d, place) ∷ at) c p) [
      | inl same ↦ subst (λ e. IsAt ((d, place) ∷ at) e p) same
          (subst (λ q. IsAt ((d, place) ∷ at) d q) (sym (only p (subst (λ e. IsPlaced types vars s e p) (sym same) h.1)))
          (Contains-first (d, place) at))
      | inr old ↦ Contains-later (d, place) (c, p) at ((has c p).1 (old, h.1))
    ]),
  )

  places : (cells : List CellId) → ((c : CellId) → Contains cells c → IsLive s c) → (at : Standing) × HasPlaces cells at
  places [] live = ([], λ c p. ((λ h. absurd (Contains-none (c, p) h)), (λ h. absurd (Contains-none c h.0))))
  places (d ∷ cells) live =
      let one = one-position types vars s d backbone (live d (Contains-first d cells)) in
      let rest = places cells (λ c inside. live c (Contains-later d c cells inside)) in
      ((d, one.position) ∷ rest.0, has-more d one.position cells rest.0 one.placed one.only rest.1)

  pub standing : (at : Standing) × AreStanding types vars s at
  standing =
      let (at, has) = places (live_cells s) (in_live s) in (
        at,
        λ c p. (
          (λ h. ((has c p).0 h).1),
          (λ placed. (has c p).1 (live_in s c (placed-live types vars s c p placed), placed)),
        ),
      )

  pub standing-sits : Fits types vars s → (at : Standing) × AreStanding types vars s at × Sits s at
  standing-sits fits = let (at, stand) = standing in (at, stand, Sits-first types vars s at fits backbone stand)
