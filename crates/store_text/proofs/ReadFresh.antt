-- A store that was read is fresh where its values name no cell above all cells.
use Rattle.std.proofs.Common.{◌≡◌, ◌↔◌, ℕ, List, Ok, sym, subst}
use Rattle.std.specs.FinMap.{keys}
use Rattle.store_core.specs.Tables.{TypeEntry, VarEntry}
use Rattle.store_core.specs.Stores.{StoreMap, IsAbove, IsFresh}
use Rattle.store_text.specs.Reading.{reading, next_after, NamesAllBelow}
use Rattle.store_text.proofs.ReadFits.{read_stores_fit}
use Rattle.store_text.proofs.ReadNext.{read_stores_go_on}

fresh_from : (s : StoreMap) → IsAbove s → NamesAllBelow s.next s → IsFresh s
fresh_from s above below = record { cells = above; values = below.values; vars = below.vars }

below_from : (s : StoreMap) → IsFresh s → NamesAllBelow s.next s
below_from s fresh = record { values = fresh.values; vars = fresh.vars }

pub read_stores_are_fresh_below : (types : List TypeEntry) (vars : List VarEntry) (text : List ℕ) (store : StoreMap) →
    reading types vars text ≡ Ok store → IsFresh store ↔ NamesAllBelow (next_after (keys store.cells)) store
read_stores_are_fresh_below types vars text store read =
    let next = read_stores_go_on types vars text store read in (
      λ fresh. subst (λ n. NamesAllBelow n store) next (below_from store fresh),
      λ below. fresh_from store (read_stores_fit types vars text store read).above (subst (λ n. NamesAllBelow n store) (sym next) below),
    )
