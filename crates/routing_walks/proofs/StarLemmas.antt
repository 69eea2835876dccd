-- Whether finitely many steps lead from one cell to another is decided where each step is. (Warshall, JACM 1962, "A theorem
-- on Boolean matrices": through one more cell at a time.)
use Rattle.std.proofs.Common.{◌≡◌, ◌⊎◌, inl, inr, List, [], ◌∷◌, refl, sym, subst, Contains}
use Rattle.store_core.specs.declared.ids.CellId.{CellId}
use Rattle.store_core.specs.Stores.{StoreMap, IsLive}
use Rattle.routing_walks.specs.Walks.{Chain, stay, go}
use Rattle.routing_walks.proofs.TreeLemmas.{Chain-join}
use Rattle.routing_walks.proofs.LiveLemmas.{Chain-live}
use Rattle.routing_walks.specs.Deciding.{Decided}
use Rattle.routing_walks.proofs.DecidedLemmas.{decided_as, decided_both, decided_either, in_none, in_first, in_rest, in_cases}

-- steps lead from a to b through cells of the list alone
Through : (CellId → CellId → Type 0) → List CellId → CellId → CellId → Type 0
Through Step [] a b = (a ≡ b) ⊎ Step a b
Through Step (c ∷ cells) a b = Through Step cells a b ⊎ (Through Step cells a c × Through Step cells c b)

module _ (Step : CellId → CellId → Type 0) where
  through_decided : ((a b : CellId) → Decided (a ≡ b)) → ((a b : CellId) → Decided (Step a b)) → (cells : List CellId) (a b : CellId) →
      Decided (Through Step cells a b)
  unfolding Through
  through_decided same each [] a b = decided_either (same a b) (each a b)
  through_decided same each (c ∷ cells) a b = decided_either (through_decided same each cells a b)
      (decided_both (through_decided same each cells a c) (through_decided same each cells c b))

  one_step : (cells : List CellId) (a b : CellId) → (a ≡ b) ⊎ Step a b → Through Step cells a b
  unfolding Through
  one_step [] a b h = h
  one_step (c ∷ cells) a b h = inl (one_step cells a b h)

  -- two ways one after the other, where they meet in a cell of the list
  meet : (cells : List CellId) (a m b : CellId) → Contains cells m → Through Step cells a m → Through Step cells m b → Through Step cells a b
  unfolding Through
  meet [] a m b here one two = absurd (in_none m here)
  meet (c ∷ cells) a m b here one two = elim (in_cases c m cells here) [
    | inl same ↦ inr (
      to_head (subst (λ x. Through Step (c ∷ cells) a x) (sym same) one),
      from_head (subst (λ x. Through Step (c ∷ cells) x b) (sym same) two),
    )
    | inr rest ↦ elim one [
      | inl p ↦ elim two [ inl q ↦ inl (meet cells a m b rest p q) | inr q ↦ inr (meet cells a m c rest p q.0, q.1) ]
      | inr p ↦ elim two [ inl q ↦ inr (p.0, meet cells c m b rest p.1 q) | inr q ↦ inr (p.0, q.1) ]
    ]
  ]
    where
      to_head : Through Step (c ∷ cells) a c → Through Step cells a c
      to_head (inl h) = h
      to_head (inr h) = h.0

      from_head : Through Step (c ∷ cells) c b → Through Step cells c b
      from_head (inl h) = h
      from_head (inr h) = h.1

  module _ (s : StoreMap) (live : (a b : CellId) → Step a b → IsLive s a × IsLive s b) where
    through_chain : (cells : List CellId) (a b : CellId) → IsLive s a → IsLive s b → ((c : CellId) → Contains cells c → IsLive s c) →
        Through Step cells a b → Chain s Step a b
    unfolding Through
    through_chain [] a b live_a live_b within (inl same) = subst (λ x. Chain s Step a x) same (stay a live_a)
    through_chain [] a b live_a live_b within (inr step) = go a b b step (stay b live_b)
    through_chain (c ∷ cells) a b live_a live_b within (inl h) = through_chain cells a b live_a live_b (λ d m. within d (deeper d m)) h
      where
        deeper : (d : CellId) → Contains cells d → Contains (c ∷ cells) d
        deeper d m = in_rest c d cells m
    through_chain (c ∷ cells) a b live_a live_b within (inr h) =
        Chain-join (through_chain cells a c live_a live_c inner h.0) (through_chain cells c b live_c live_b inner h.1)
      where
        live_c : IsLive s c
        live_c = within c (in_first c cells)

        inner : (d : CellId) → Contains cells d → IsLive s d
        inner d m = within d (in_rest c d cells m)

    chain_through : (cells : List CellId) → ((c : CellId) → IsLive s c → Contains cells c) → {a b : CellId} → Chain s Step a b → Through Step cells a b
    chain_through cells all (stay a h) = one_step cells a a (inl refl)
    chain_through cells all (go a b c step chain) = meet cells a b c (all b (live a b step).1) (one_step cells a b (inr step)) (chain_through cells all chain)

    pub decided_chain : ((a b : CellId) → Decided (a ≡ b)) → ((a b : CellId) → Decided (Step a b)) → ((a : CellId) → Decided (IsLive s a)) →
        (cells : List CellId) → ((c : CellId) → Contains cells c → IsLive s c) → ((c : CellId) → IsLive s c → Contains cells c) →
        (a b : CellId) → Decided (Chain s Step a b)
    decided_chain same each lives cells within all a b = decided_as
        (λ h. through_chain cells a b h.0.0 h.0.1 within h.1)
        (λ h. (Chain-live live h, chain_through cells all h))
        (decided_both (decided_both (lives a) (lives b)) (through_decided same each cells a b))
