-- A name that is longer than each of a table.
use Rattle.std.proofs.Common.{◌≡◌, ◌<◌, ◌≤◌, ℕ, Bool, true, false, List, [], ◌∷◌, ◌++◌, length, map, None, refl, ap, arith}
use Rattle.std.specs.Prelude.{option_map}
use Rattle.std.specs.List.{AllByRecursion}
use Rattle.std.specs.Str.{bytes_eq}
use Rattle.std.proofs.lemmas.List.{length_push}
use Rattle.std.proofs.lemmas.Slice.Eq.{bytes_eq-Decides}
use Rattle.store_core.specs.declared.ids.VarId.{VarId}
use Rattle.store_core.specs.Tables.{VarEntry, place_of, var_named}
use Rattle.store_core.proofs.Names.{position_none-from}
use Rattle.store_core.proofs.Growing.{AllByRecursion-push, AllByRecursion-weaker}
use Rattle.routing_walks.specs.WellFormed.{IsDataVar}

refuted : (b : Bool) → (b ≡ true → ⊥) → b ≡ false
refuted true never = absurd (never refl)
refuted false never = refl

other_length : (name other : List ℕ) → length other < length name → bytes_eq name other ≡ false
other_length name other less = refuted (bytes_eq name other) (λ yes.
    let same : length name ≡ length other = ap (λ (xs : List ℕ). length xs) ((bytes_eq-Decides name other).0 yes) in omega arith)

no_place : (name : List ℕ) (entries : List VarEntry) (n : ℕ) → n < length name → AllByRecursion (λ entry. length entry.name ≤ n) entries →
    place_of name (map (λ entry. entry.name) entries) ≡ None
no_place name [] n longer short = refl
no_place name (e ∷ entries) n longer short =
    position_none-from (bytes_eq name) e.name (map (λ entry. entry.name) entries) (other_length name e.name (omega (arith, longer, short.0)))
    (no_place name entries n longer short.1)

abbrev the_id : ℕ → VarId
the_id i = record { 0 = i }

pub var_named-longer : (entries : List VarEntry) (name : List ℕ) (n : ℕ) → n < length name → AllByRecursion (λ entry. length entry.name ≤ n) entries →
    var_named entries name ≡ None
var_named-longer entries name n longer short = ap (option_map the_id) (no_place name entries n longer short)

-- ---- a table of which each name is longer than those before it

pub record IsGrowing (count : ℕ) (table : List VarEntry) (name : List ℕ) : Type 0 where
  pub few : length table ≤ count
  pub named : length name ≡ length table
  pub each : AllByRecursion (λ entry. IsDataVar entry.kind) table
  pub shorter : AllByRecursion (λ entry. length entry.name ≤ length name) table

pub grown : (count : ℕ) (table : List VarEntry) (name : List ℕ) (x : ℕ) (entry : VarEntry) → entry.name ≡ name ++ x ∷ [] → IsDataVar entry.kind →
    length table < count → IsGrowing count table name → IsGrowing count (table ++ entry ∷ []) (name ++ x ∷ [])
grown count table name x entry is kind less h = record {
  few = omega (arith, length_push table entry, less);
  named = omega (arith, length_push table entry, length_push name x, h.named);
  each = AllByRecursion-push (λ (e : VarEntry). IsDataVar e.kind) table entry h.each kind;
  shorter = AllByRecursion-push (λ (e : VarEntry). length e.name ≤ length (name ++ x ∷ [])) table entry
      (AllByRecursion-weaker (λ (e : VarEntry). length e.name ≤ length name) (λ (e : VarEntry). length e.name ≤ length (name ++ x ∷ []))
      (λ e le. omega (arith, le, length_push name x)) table h.shorter)
      (let same : length entry.name ≡ length (name ++ x ∷ []) = ap (λ (xs : List ℕ). length xs) is in omega (arith, same));
}
