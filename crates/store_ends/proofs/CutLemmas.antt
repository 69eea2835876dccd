-- A cut has a first cause, or none.
use Rattle.std.proofs.Common.{◌≡◌, ◌⊎◌, inl, inr, ℕ, List, [], ◌∷◌, length, Option, Some, None, refl, sym, ap, ◌∙◌, subst, Contains}
use Rattle.std.proofs.lemmas.List.Elements.{All-nil, All-cons, All-head, All-tail}
use Rattle.store_core.specs.declared.ids.VarId.{VarId}
use Rattle.store_core.specs.declared.ids.CellId.{CellId}
use Rattle.store_core.specs.declared.kind.VarKind.{VarKind}
use Rattle.store_core.specs.declared.kind.VarKind.TheVariants as var
use Rattle.store_core.specs.declared.value.Value.{Value}
use Rattle.store_core.specs.declared.value.Value.TheVariants as value
use Rattle.store_core.specs.Tables.{TypeEntry, VarEntry, var_at}
use Rattle.store_core.specs.Stores.{StoreMap, Fits, var_value}
use Rattle.routing_walks.specs.CutFaults.{IsSound}
use Rattle.routing_walks.specs.Regions.{IsReachedFrom}
use Rattle.routing_walks.proofs.LiveLemmas.{IsSome-and}
use Rattle.routing_walks.specs.Deciding.{Decided}
use Rattle.routing_walks.specs.Shown.{HasCause}
use Rattle.routing_walks.proofs.DecidedLemmas.{decided_as, decided_both, decided_either, decided_not, decided_number, decided_some, decided_in, decided_below}
use Rattle.routing_walks.proofs.DecidedWalks.{within}
use Rattle.routing_walks.proofs.DecidedStores.{decided_reached, sound_or_cause, first_cause}
use Rattle.store_logic.specs.Terms.{outside}
use Rattle.store_exec.specs.declared.cause.Cause.{Cause}
use Rattle.store_exec.specs.declared.cause.Cause.TheVariants as cause
use Rattle.store_exec.specs.declared.triple.Claim.{Claim}
use Rattle.store_exec.specs.declared.triple.Cut.{Cut}
use Rattle.store_exec.specs.Cuts.{IsMet, AreMet, IsPointerVar, PointsTo, Escapes, AtCut}
use Rattle.store_exec.specs.Telling.{cause_of_fault}
use Rattle.store_exec.proofs.CutLemmas.{at-fault, at-escape, at-post, at-none}
use Rattle.store_ends.proofs.DecidedAssertions.{decided_sat}

decided_pointer : (kind : VarKind) → Decided (IsPointerVar kind)
decided_pointer var.Bool = inr (λ h. h)
decided_pointer (var.Data target) = inr (λ h. h)
decided_pointer (var.Pointer target) = inl tt
decided_pointer (var.LogicSet target) = inr (λ h. h)
decided_pointer var.LogicBool = inr (λ h. h)

decided_same_var : (v w : VarId) → Decided (v ≡ w)
decided_same_var v w = decided_as (λ e. ap (λ (n : ℕ). record { 0 = n }) e) (λ e. ap (λ (x : VarId). x.0) e) (decided_number v.0 w.0)

module _ (types : List TypeEntry) (vars : List VarEntry) (s : StoreMap) where
  -- ---- claims

  decided_met : (claims : List Claim) → Decided (AreMet types vars s claims)
  decided_met [] = inl (All-nil (IsMet types vars s))
  decided_met (claim ∷ claims) = decided_as
      (λ h. All-cons (IsMet types vars s) claim claims h.0 h.1)
      (λ h. (All-head (IsMet types vars s) claim claims h, All-tail (IsMet types vars s) claim claims h))
      (decided_both (decided_sat types vars s claim.region outside claim.assertion) (decided_met claims))

  -- ---- pointers

  module _ (v : VarId) (Is : CellId → Type 0) where
    -- the variable is a pointer variable and names such a cell
    abbrev Hits : Type 0
    Hits = (c : CellId) × (PointsTo vars s v c × Is c)

    no-hit : ((c : CellId) → var_value s v ≡ Some (value.Cell (Some c)) → ⊥) → Decided Hits
    no-hit never = inr (λ h. never h.0 ((h.1).0).names)

    module _ (each : (c : CellId) → Decided (Is c)) where
      hit : (o : Option Value) → var_value s v ≡ o → Decided Hits
      hit None at = no-hit (λ c e. let both : None ≡ Some (value.Cell (Some c)) = sym at ∙ e in cc)
      hit (Some (value.Bool truth)) at = no-hit (λ c e. let both : Some (value.Bool truth) ≡ Some (value.Cell (Some c)) = sym at ∙ e in cc)
      hit (Some (value.Cell None)) at = no-hit (λ c e. let both : Some (value.Cell None) ≡ Some (value.Cell (Some c)) = sym at ∙ e in cc)
      hit (Some (value.Cells cells)) at = no-hit (λ c e. let both : Some (value.Cells cells) ≡ Some (value.Cell (Some c)) = sym at ∙ e in cc)
      hit (Some (value.Cell (Some c))) at = decided_as
          (λ h. (c, (record { pointer = h.0; names = at }, h.1)))
          (λ h. (((h.1).0).pointer, subst Is (same h.0 ((h.1).0).names) (h.1).1))
          (decided_both (decided_some (var_at vars v) _ (λ entry. decided_pointer entry.kind)) (each c))
        where
          same : (d : CellId) → var_value s v ≡ Some (value.Cell (Some d)) → d ≡ c
          same d e = let both : Some (value.Cell (Some d)) ≡ Some (value.Cell (Some c)) = sym e ∙ at in cc

  abbrev IsWrongSide : List VarId → List VarId → VarId → CellId → Type 0
  IsWrongSide part inside v c = (Contains inside v × (IsReachedFrom types vars s part c → ⊥)) ⊎ ((Contains inside v → ⊥) × IsReachedFrom types vars s part c)

  wrong_side : (part inside : List VarId) (v : VarId) (c : CellId) → Decided (IsWrongSide part inside v c)
  wrong_side part inside v c =
      let listed = decided_in decided_same_var inside v in
      let reached = decided_reached types vars s part c in
      decided_either (decided_both listed (decided_not reached)) (decided_both (decided_not listed) reached)

  decided_escapes : (part inside : List VarId) → Decided (Escapes types vars s part inside)
  decided_escapes part inside = decided_as
      (λ h. record { var = record { 0 = h.0 }; cell = (h.2).0; points = ((h.2).1).0; wrong_side = ((h.2).1).1 })
      (λ h. ((h.var).0, within vars (h.var).0 (IsSome-and (var_at vars h.var) _ (h.points).pointer), (h.cell, (h.points, h.wrong_side))))
      (decided_below (λ n. Hits (record { 0 = n }) (IsWrongSide part inside (record { 0 = n })))
      (λ n. hit (record { 0 = n }) (IsWrongSide part inside (record { 0 = n })) (wrong_side part inside (record { 0 = n }))
      (var_value s (record { 0 = n })) refl)
      (length vars))

  -- ---- the first cause

  module _ (cut : Cut) (fits : Fits types vars s) where
    escape-or-claims : IsSound types vars s → (why : Option Cause) × AtCut types vars cut s why
    escape-or-claims sound =
        elim (decided_some cut.handed _ (λ part. decided_escapes part cut.inside)) as (λ _. (why : Option Cause) × AtCut types vars cut s why) [
          | inl escape ↦ (Some cause.Escape, at-escape types vars cut s fits sound escape)
          | inr none ↦ elim (decided_met cut.asserts) as (λ _. (why : Option Cause) × AtCut types vars cut s why) [
            | inl met ↦ (None, at-none types vars cut s fits sound none met)
            | inr unmet ↦ (Some cause.Post, at-post types vars cut s fits sound none unmet)
          ]
        ]

    by-fault : HasCause types vars s → (why : Option Cause) × AtCut types vars cut s why
    by-fault has = let (fault, first) = first_cause types vars s fits has in (Some (cause_of_fault fault), at-fault types vars cut s fault first)

    pub cut-settled : (why : Option Cause) × AtCut types vars cut s why
    cut-settled = elim (sound_or_cause types vars s fits) as (λ _. (why : Option Cause) × AtCut types vars cut s why) [
      | inl sound ↦ escape-or-claims sound
      | inr has ↦ by-fault has
    ]
