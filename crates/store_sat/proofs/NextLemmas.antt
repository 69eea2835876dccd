-- The steps through the cells, and the sets of cells, that are left for a quantifier.
use Rattle.std.proofs.Common.{◌≡◌, inl, inr, ◌≤◌, ◌+◌, ℕ, zero, suc, Bool, true, false, List}
use Rattle.std.proofs.Common.{[], ◌∷◌, ◌++◌, drop, length, slice_get, Some, refl, sym, ap, subst, arith, add-one}
use Rattle.std.specs.Prelude.{not, option_map, if◌then◌else◌}
use Rattle.std.specs.List.{AllByRecursion}
use Rattle.std.proofs.lemmas.Bool.{false≢true}
use Rattle.store_core.specs.declared.ids.TypeId.{TypeId}
use Rattle.store_core.specs.declared.ids.CellId.{CellId}
use Rattle.store_core.specs.declared.value.Value.TheVariants as value
use Rattle.store_core.specs.Tables.{TypeEntry}
use Rattle.store_core.specs.Stores.{StoreMap}
use Rattle.routing_walks.specs.Walks.{IsOfType}
use Rattle.store_logic.specs.declared.assertion.Assertion.{Assertion}
use Rattle.store_logic.proofs.SameLemmas.{itself}
use Rattle.store_sat.specs.declared.task.Join.{Join}
use Rattle.store_sat.specs.declared.task.Join.TheVariants as join
use Rattle.store_sat.specs.Tasks.{known, whole, cells, sets, joined, Spot, numbered}
use Rattle.store_sat.specs.Steps.{IsOrderedIn, StayRising, Steps, with_frame, inside}
use Rattle.store_sat.proofs.StepLemmas.{step_on, step_inside, step_joined, step_joined_inside}

-- ---- what is left from a place on

pub drop-past : (numbers : List ℕ) (place : ℕ) → length numbers ≤ place → drop place numbers ≡ []
drop-past [] zero past = refl
drop-past [] (suc place) past = refl
drop-past (n ∷ numbers) zero past = absurd (omega (arith, past))
drop-past (n ∷ numbers) (suc place) past = drop-past numbers place (omega (arith, past))

drop-next : (numbers : List ℕ) (place : ℕ) (c : CellId) → option_map numbered (slice_get numbers place) ≡ Some c →
    drop place numbers ≡ c.0 ∷ drop (suc place) numbers
drop-next [] place c some = absurd (cc)
drop-next (n ∷ numbers) zero c some = let same : numbered n ≡ c = cc in ap (λ (d : CellId). d.0 ∷ numbers) same
drop-next (n ∷ numbers) (suc place) c some = drop-next numbers place c some

pub drop-some : (numbers : List ℕ) (place : ℕ) (c : CellId) → option_map numbered (slice_get numbers place) ≡ Some c →
    drop place numbers ≡ c.0 ∷ drop (place + 1) numbers
drop-some numbers place c some = subst (λ (k : ℕ). drop place numbers ≡ c.0 ∷ drop k numbers) (sym (add-one place)) (drop-next numbers place c some)

abbrev pub join_for : Bool → Join
join_for some = if some then join.Or else join.And

-- ---- steps

module _ (types : List TypeEntry) (s : StoreMap) (spot : Spot) (ready : AllByRecursion IsOrderedIn spot.frames) (ty : TypeId) (a : Assertion) where
  -- no cell is left
  pub cells_none : (some : Bool) → Steps types s spot (cells some ty a []) spot (known (not some))
  cells_none true = step_on types s spot ready (cells true ty a []) (known false) tt (λ h. absurd (false≢true h), λ h. absurd h) (omega arith)
  cells_none false = step_on types s spot ready (cells false ty a []) (known true) tt (λ h. tt, λ h. refl) (omega arith)

  module _ (n : ℕ) (numbers : List ℕ) where
    -- the cell is of another type
    pub cells_skip : (some : Bool) → (IsOfType s ty (numbered n) → ⊥) → Steps types s spot (cells some ty a (n ∷ numbers)) spot (cells some ty a numbers)
    cells_skip true other = step_on types s spot ready (cells true ty a (n ∷ numbers)) (cells true ty a numbers) tt
        (λ h. inr h, λ h. elim h [ inl first ↦ absurd (other first.0) | inr rest ↦ rest ]) (omega arith)
    cells_skip false other = step_on types s spot ready (cells false ty a (n ∷ numbers)) (cells false ty a numbers) tt
        (λ h. ((λ of. absurd (other of)), h), λ h. h.1) (omega arith)

    -- the cell is the first goal
    pub cells_take : (some : Bool) → IsOfType s ty (numbered n) → Steps types s spot (cells some ty a (n ∷ numbers))
        (inside (value.Cell (Some (numbered n))) (with_frame (joined (join_for some) (cells some ty a numbers)) spot)) (whole a)
    cells_take true of = step_joined_inside types s spot ready (cells true ty a (n ∷ numbers)) (whole a) tt join.Or (cells true ty a numbers) tt
        (value.Cell (Some (numbered n)))
        (λ h. elim h [ inl first ↦ inl (of, first) | inr rest ↦ inr rest ], λ h. elim h [ inl first ↦ inl first.1 | inr rest ↦ inr rest ]) (omega arith)
    cells_take false of = step_joined_inside types s spot ready (cells false ty a (n ∷ numbers)) (whole a) tt join.And (cells false ty a numbers) tt
        (value.Cell (Some (numbered n))) (λ h. ((λ again. h.0), h.1), λ h. (h.0 of, h.1)) (omega arith)

  module _ (chosen : List CellId) where
    -- the set is chosen
    pub sets_none : (some : Bool) → Steps types s spot (sets some ty a chosen []) (inside (value.Cells chosen) spot) (whole a)
    sets_none true = step_inside types s spot ready (sets true ty a chosen []) (whole a) tt (value.Cells chosen) itself (omega arith)
    sets_none false = step_inside types s spot ready (sets false ty a chosen []) (whole a) tt (value.Cells chosen) itself (omega arith)

    module _ (n : ℕ) (numbers : List ℕ) (rising : StayRising chosen (n ∷ numbers)) where
      -- the cell is of another type
      pub sets_skip : (some : Bool) → (IsOfType s ty (numbered n) → ⊥) →
          Steps types s spot (sets some ty a chosen (n ∷ numbers)) spot (sets some ty a chosen numbers)
      sets_skip true other = step_on types s spot ready (sets true ty a chosen (n ∷ numbers)) (sets true ty a chosen numbers) rising.1
          (λ h. inl h, λ h. elim h [ inl without ↦ without | inr with_it ↦ absurd (other with_it.0) ]) (omega arith)
      sets_skip false other = step_on types s spot ready (sets false ty a chosen (n ∷ numbers)) (sets false ty a chosen numbers) rising.1
          (λ h. (h, (λ of. absurd (other of))), λ h. h.0) (omega arith)

      -- the sets without the cell are the first goal
      pub sets_take : (some : Bool) → IsOfType s ty (numbered n) → Steps types s spot (sets some ty a chosen (n ∷ numbers))
          (with_frame (joined (join_for some) (sets some ty a (chosen ++ numbered n ∷ []) numbers)) spot) (sets some ty a chosen numbers)
      sets_take true of = step_joined types s spot ready (sets true ty a chosen (n ∷ numbers)) (sets true ty a chosen numbers) rising.1
          join.Or (sets true ty a (chosen ++ numbered n ∷ []) numbers) rising.2 (
            λ h. elim h [ inl without ↦ inl without | inr with_it ↦ inr (of, with_it) ],
            λ h. elim h [ inl without ↦ inl without | inr with_it ↦ inr with_it.1 ],
          ) (omega arith)
      sets_take false of = step_joined types s spot ready (sets false ty a chosen (n ∷ numbers)) (sets false ty a chosen numbers) rising.1
          join.And (sets false ty a (chosen ++ numbered n ∷ []) numbers) rising.2
          (λ h. (h.0, (λ again. h.1)), λ h. (h.0, h.1 of)) (omega arith)
