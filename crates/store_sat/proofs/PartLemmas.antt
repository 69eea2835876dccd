-- The cells that are reached from data variables, by another table in which these are data variables.
use Rattle.std.proofs.Common.{◌≡◌, ℕ, zero, suc, ◌<◌, ◌≤◌, ◌+◌, List, [], ◌∷◌, length, slice_get}
use Rattle.std.proofs.Common.{Some, IsSome, IsSomeAnd, refl, sym, ap, ◌∙◌, subst, arith, Contains, inl, inr}
use Rattle.std.specs.List.{AllByRecursion}
use Rattle.std.proofs.lemmas.Bool.{cases_lt}
use Rattle.std.proofs.lemmas.Option.{slice_get-get_or, slice_get_within, same_Some}
use Rattle.store_core.specs.declared.ids.VarId.{VarId}
use Rattle.store_core.specs.declared.ids.CellId.{CellId}
use Rattle.store_core.specs.Tables.{TypeEntry, VarEntry, IsVarTable}
use Rattle.store_core.specs.Stores.{StoreMap, var_value}
use Rattle.store_core.proofs.Bodies.{AllByRecursion-at}
use Rattle.routing_walks.specs.WellFormed.{IsDataVar}
use Rattle.routing_walks.specs.Regions.{IsReachedFrom, IsPart}
use Rattle.routing_expr.proofs.ReachLemmas.{known_within}
use Rattle.store_logic.specs.Fits.{IsKnownDataVar}
use Rattle.store_sat.specs.RootTables.{AreDataVars, IsCovered}

known_at : (entries : List VarEntry) → AllByRecursion (λ entry. IsDataVar entry.kind) entries → (i : ℕ) → i < length entries →
    IsSomeAnd (slice_get entries i) (λ entry. IsDataVar entry.kind)
known_at [] all i within = absurd (omega arith)
known_at (e ∷ entries) all zero within = all.0
known_at (e ∷ entries) all (suc i) within = known_at entries all.1 i (omega arith)

module _ (types : List TypeEntry) (made vars : List VarEntry) (s : StoreMap) (roots : List VarId) (count : ℕ) (data_vars : AreDataVars count made)
    (covered : (j : ℕ) (v : VarId) → slice_get roots j ≡ Some v → IsCovered s count v) (table : IsVarTable vars)
    (known : AllByRecursion (IsKnownDataVar vars) roots) where
  at : (root : VarId) (listed : Contains roots root) → slice_get roots listed.0 ≡ Some root
  at root listed = slice_get-get_or roots listed.0 root listed.1 ∙ ap (λ (v : VarId). Some v) listed.2

  known_root : (root : VarId) → Contains roots root → IsKnownDataVar vars root
  known_root root listed = AllByRecursion-at (IsKnownDataVar vars) roots listed.0 root known (at root listed)

  to_vars : (c : CellId) → IsReachedFrom types made s roots c → IsReachedFrom types vars s roots c
  to_vars c h = record {
    root = h.root;
    listed = h.listed;
    in_tree = record {
      root = h.in_tree.root;
      named = record { place = known_root h.root h.listed; value = h.in_tree.named.value };
      path = h.in_tree.path;
    };
  }

  to_made : (c : CellId) → IsReachedFrom types vars s roots c → IsReachedFrom types made s roots c
  to_made c h = record {
    root = h.root;
    listed = h.listed;
    in_tree = record {
      root = h.in_tree.root;
      named = record {
        place =
            let few : h.root.0 < length vars = known_within types vars s vars h.root.0 (λ entry. IsDataVar entry.kind) (known_root h.root h.listed) in
            let there : IsSome (var_value s h.root) = subst IsSome (sym h.in_tree.named.value) refl in
            let below : h.root.0 < count = covered h.listed.0 h.root (at h.root h.listed) there (omega (arith, few, table.few)) in
            known_at made data_vars.each h.root.0 (omega (arith, below, data_vars.length_is));
        value = h.in_tree.named.value;
      };
      path = h.in_tree.path;
    };
  }

  pub IsPart-made : (cells : List CellId) → IsPart types made s roots cells → IsPart types vars s roots cells
  IsPart-made cells part = record {
    rising = part.rising;
    members = λ d. ((λ m. to_vars d ((part.members d).0 m)), (λ r. (part.members d).1 (to_made d r)));
  }

-- ---- how many variables cover those of the roots so far

abbrev pub AreCovered : StoreMap → List VarId → ℕ → ℕ → Type 0
AreCovered s roots n count = (j : ℕ) (v : VarId) → j < n → slice_get roots j ≡ Some v → IsCovered s count v

pub covered_next : (s : StoreMap) (roots : List VarId) (n count more : ℕ) (root : VarId) → slice_get roots n ≡ Some root → count ≤ more →
    IsCovered s more root → AreCovered s roots n count → AreCovered s roots (n + 1) more
covered_next s roots n count more root at_n le here before j v less at_j there few = elim (cases_lt j n) [
  | inl earlier ↦ let below : v.0 < count = before j v earlier at_j there few in omega (arith, below, le)
  | inr later ↦
      let same_place : j ≡ n = omega (arith, less, later) in
      let same : v ≡ root = same_Some v root (sym at_j ∙ ap (λ k. slice_get roots k) same_place ∙ at_n) in
      subst (λ (w : VarId). w.0 < more) (sym same)
      (here (subst (λ (w : VarId). IsSome (var_value s w)) same there) (subst (λ (w : VarId). w.0 < 4294967295) same few))
]

pub covered_all : (s : StoreMap) (roots : List VarId) (n count : ℕ) → length roots ≤ n → AreCovered s roots n count →
    (j : ℕ) (v : VarId) → slice_get roots j ≡ Some v → IsCovered s count v
covered_all s roots n count all covered j v at = covered j v (let w = slice_get_within roots j v at in omega arith) at
