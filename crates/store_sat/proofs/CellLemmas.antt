-- Some cell, and each cell, of the live ones.
use Rattle.std.proofs.Common.{◌≡◌, ◌↔◌, inl, inr, ℕ, zero, suc, List, [], ◌∷◌, slice_get, Some, subst}
use Rattle.std.specs.FinMap.{keys}
use Rattle.store_core.specs.declared.ids.TypeId.{TypeId}
use Rattle.store_core.specs.declared.ids.CellId.{CellId}
use Rattle.store_core.specs.Stores.{StoreMap, cell_of}
use Rattle.routing_walks.specs.Walks.{IsOfType}
use Rattle.routing_walks.proofs.KeyLemmas.{key_of_live}
use Rattle.routing_walks.proofs.LiveLemmas.{IsSome-and}
use Rattle.store_sat.specs.Tasks.{numbered, SomeCell, EachCell}

module _ (s : StoreMap) (ty : TypeId) (Is : CellId → Type 0) where
  some_from : (numbers : List ℕ) → SomeCell s ty Is numbers → (c : CellId) × IsOfType s ty c × Is c
  some_from [] h = absurd h
  some_from (n ∷ numbers) (inl h) = (numbered n, h.0, h.1)
  some_from (n ∷ numbers) (inr h) = some_from numbers h

  some_at : (numbers : List ℕ) (j : ℕ) (c : CellId) → slice_get numbers j ≡ Some c.0 → IsOfType s ty c → Is c → SomeCell s ty Is numbers
  some_at [] j c at of is = absurd (cc)
  some_at (n ∷ numbers) zero c at of is =
      let same : c.0 ≡ n = cc in inl (subst (λ (k : ℕ). IsOfType s ty (numbered k) × Is (numbered k)) same (of, is))
  some_at (n ∷ numbers) (suc j) c at of is = inr (some_at numbers j c at of is)

  pub SomeCell-all : SomeCell s ty Is (keys s.cells) ↔ ((c : CellId) × IsOfType s ty c × Is c)
  SomeCell-all = (
    some_from (keys s.cells),
    λ h. let key = key_of_live s h.0 (IsSome-and (cell_of s h.0) _ h.1) in some_at (keys s.cells) key.0 h.0 key.1 h.1 h.2,
  )

  each_from : (numbers : List ℕ) → ((c : CellId) → IsOfType s ty c → Is c) → EachCell s ty Is numbers
  each_from [] h = tt
  each_from (n ∷ numbers) h = (h (numbered n), each_from numbers h)

  each_at : (numbers : List ℕ) (j : ℕ) (c : CellId) → slice_get numbers j ≡ Some c.0 → EachCell s ty Is numbers → IsOfType s ty c → Is c
  each_at [] j c at h = absurd (cc)
  each_at (n ∷ numbers) zero c at h = let same : n ≡ c.0 = cc in subst (λ (k : ℕ). IsOfType s ty (numbered k) → Is (numbered k)) same h.0
  each_at (n ∷ numbers) (suc j) c at h = each_at numbers j c at h.1

  pub EachCell-all : EachCell s ty Is (keys s.cells) ↔ ((c : CellId) → IsOfType s ty c → Is c)
  EachCell-all = (
    λ h c of. let key = key_of_live s c (IsSome-and (cell_of s c) _ of) in each_at (keys s.cells) key.0 c key.1 h of,
    each_from (keys s.cells),
  )
