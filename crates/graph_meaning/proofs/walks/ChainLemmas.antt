-- Chains lead into closed sets.
use Rattle.std.proofs.Common.{◌≡◌, IsTrue, subst}
use Rattle.gta_theory.specs.Assignments.{Position}
use Rattle.store_core.specs.declared.ids.CellId.{CellId}
use Rattle.store_core.specs.Stores.{StoreMap, IsLive}
use Rattle.routing_walks.specs.Walks.{Chain, stay, go}
use Rattle.graph_view.specs.After.{Standing, IsAt}
use Rattle.graph_meaning.specs.Walks.Walking.{JoinsAt}
use Rattle.graph_meaning.proofs.walks.ClosingLemmas.{IsLinked}

module _ (t : StoreMap) (at : Standing) (there : (c : CellId) → IsLive t c → (p : Position) × IsAt at c p)
    (one : (c : CellId) (p q : Position) → IsAt at c p → IsAt at c q → p ≡ q) (Step : CellId → CellId → Type 0)
    (lives : (c d : CellId) → Step c d → IsLive t c × IsLive t d) where
  -- a chain leads into each closed set that has its start
  pub chain-linked : (c d : CellId) → Chain t Step c d → (p q : Position) → IsAt at c p → IsAt at d q → IsLinked (JoinsAt at Step) p q
  chain-linked c d (stay e live) p q here stands set bounded on closed = subst (λ r. IsTrue (set r)) (one e p q here stands) on
  chain-linked c d (go e m f step chain) p q here stands set bounded on closed =
      let (u, at_u) = there m (lives e m step).1 in
      chain-linked m f chain u q at_u stands set bounded (closed p u on (e, m, here, at_u, step)) closed

  -- one step more
  pub chain-end : (c d e : CellId) → Chain t Step c d → Step d e → Chain t Step c e
  chain-end c d e (stay g live) step = go g e e step (stay e (lives g e step).1)
  chain-end c d e (go g m f first chain) step = go g m e first (chain-end m f e chain step)
