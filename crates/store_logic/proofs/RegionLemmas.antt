-- Satisfaction on a region and on the store of its cells.
use Rattle.std.proofs.Common.{◌≡◌, ◌↔◌, inl, inr, List, Option, Some}
use Rattle.std.proofs.Common.{None, IsSome, refl, sym, ◌∙◌, subst, Contains}
use Rattle.std.specs.Cmp.{nat_cmp_total}
use Rattle.std.specs.FinMap.{same_map, nat_cmp-IsAntisymmetric}
use Rattle.store_core.specs.declared.ids.CellId.{CellId}
use Rattle.store_core.specs.Tables.{TypeEntry, VarEntry}
use Rattle.store_core.specs.Stores.{StoreMap, CellEntry, IsLive, cell_of}
use Rattle.routing_walks.specs.Sets.{Lists}
use Rattle.routing_walks.specs.Regions.{store_on}
use Rattle.routing_walks.proofs.DecidedLemmas.{decided_in}
use Rattle.routing_walks.proofs.DecidedWalks.{decided_same_cell}
use Rattle.routing_walks.proofs.RegionLemmas.{store_on-IsOn}
use Rattle.store_logic.specs.declared.assertion.Assertion.{Assertion}
use Rattle.store_logic.specs.declared.pred.PredDef.{PredDef}
use Rattle.store_logic.specs.declared.region.Region.{Region}
use Rattle.store_logic.specs.declared.region.Region.TheVariants as region
use Rattle.store_logic.specs.Terms.{Environment}
use Rattle.store_logic.specs.Regions.{IsRegion}
use Rattle.store_logic.specs.Satisfaction.{SatAll, Sat}

-- stores with the same cells by number, the same variables and the same next number are one
one_store : (s t : StoreMap) → ((c : CellId) → cell_of s c ≡ cell_of t c) → s.vars ≡ t.vars → s.next ≡ t.next → s ≡ t
one_store s t cells vars next =
    let map : s.cells ≡ t.cells = same_map nat_cmp_total nat_cmp-IsAntisymmetric s.cells t.cells (λ n. cells (record { 0 = n })) in
    λ i. record { cells = map i; vars = vars i; next = next i }

-- the store on two lists of the same cells
same_on : (s : StoreMap) (cells others : List CellId) → ((c : CellId) → Contains cells c ↔ Contains others c) → store_on s cells ≡ store_on s others
same_on s cells others same = one_store (store_on s cells) (store_on s others) at refl refl
  where
    at : (c : CellId) → cell_of (store_on s cells) c ≡ cell_of (store_on s others) c
    at c = elim (decided_in decided_same_cell cells c) [
      | inl m ↦ (store_on-IsOn s cells).inside c m ∙ sym ((store_on-IsOn s others).inside c ((same c).0 m))
      | inr out ↦ (store_on-IsOn s cells).outside c out ∙ sym ((store_on-IsOn s others).outside c (λ m. out ((same c).1 m)))
    ]

-- the store on all its live cells is the store
on_all : (s : StoreMap) (cells : List CellId) → Lists (IsLive s) cells → store_on s cells ≡ s
on_all s cells all = one_store (store_on s cells) s at refl refl
  where
    none : (o : Option CellEntry) → (IsSome o → ⊥) → None ≡ o
    none None dead = refl
    none (Some cell) dead = absurd (dead refl)

    at : (c : CellId) → cell_of (store_on s cells) c ≡ cell_of s c
    at c = elim (decided_in decided_same_cell cells c) [
      | inl m ↦ (store_on-IsOn s cells).inside c m
      | inr out ↦ (store_on-IsOn s cells).outside c out ∙ none (cell_of s c) (λ live. out ((all.members c).1 live))
    ]

module _ (types : List TypeEntry) (vars : List VarEntry) (preds : List PredDef) (s : StoreMap) (e : Environment) (a : Assertion) where
  -- on any of the lists of the same cells
  on_one : {P : CellId → Type 0} (cells : List CellId) → Lists P cells →
      ((others : List CellId) × Lists P others × SatAll types preds (store_on s others) e a) ↔ SatAll types preds (store_on s cells) e a
  on_one {P} cells listed = (
    λ h. subst (λ t. SatAll types preds t e a)
        (same_on s h.0 cells (λ c. ((λ m. (listed.members c).1 ((h.1.members c).0 m)), (λ m. (h.1.members c).1 ((listed.members c).0 m))))) h.2,
    λ h. (cells, listed, h),
  )

  pub Sat-on : (on : Region) (cells : List CellId) → IsRegion types vars s on cells →
      Sat types vars preds s on e a ↔ SatAll types preds (store_on s cells) e a
  Sat-on region.All cells all = (
    λ h. subst (λ t. SatAll types preds t e a) (sym (on_all s cells all)) h,
    λ h. subst (λ t. SatAll types preds t e a) (on_all s cells all) h,
  )
  Sat-on (region.Part roots) cells part = on_one cells part
  Sat-on (region.Rest roots) cells rest = on_one cells rest
