-- The table with one data variable a type.
use Rattle.std.proofs.Common.{◌≡◌, ◌<◌, ◌≤◌, ◌+◌, ℕ, zero, suc, List, [], ◌∷◌, ◌++◌, length, take, slice_get, Some, None, IsSomeAnd, refl, sym, ap, ◌∙◌, subst}
use Rattle.std.proofs.Common.{arith}
use Rattle.std.specs.List.{AllByRecursion}
use Rattle.std.specs.Option.{option_map}
use Rattle.std.specs.Str.{bytes_eq}
use Rattle.std.proofs.lemmas.Cmp.{nat_list_eq_equiv}
use Rattle.std.proofs.lemmas.List.{take_all}
use Rattle.std.proofs.lemmas.Option.{slice_get_within}
use Rattle.store_core.specs.declared.kind.VarKind.TheVariants as var
use Rattle.store_core.specs.Tables.{TypeEntry, VarEntry, IsTypeTable, KnowsVarKind, place_of, AreDistinct, type_names, var_names, var_named, add_var}
use Rattle.store_core.proofs.Names.{position_none-at, position_none-from}
use Rattle.routing_walks.specs.Refuting.{IsOneEach}
use Rattle.tree_store.proofs.SpotsLemmas.{present}
use Rattle.witness_store.proofs.ListsLemmas.{take-next, length-front}
use Rattle.field_judge.specs.OneEach.{var_of, vars_from, type_vars}

-- ---- the variables of the types so far

vars_from-push : (n : ℕ) (ts : List TypeEntry) (t : TypeEntry) → vars_from n (ts ++ t ∷ []) ≡ vars_from n ts ++ var_of (n + length ts) t ∷ []
vars_from-push n [] t = let none : n ≡ n + 0 = omega arith in ap (λ m. var_of m t ∷ []) none
vars_from-push n (s ∷ ts) t =
    let next : suc n + length ts ≡ n + suc (length ts) = omega arith in
    ap (λ l. var_of n s ∷ l) (vars_from-push (suc n) ts t ∙ ap (λ m. vars_from (suc n) ts ++ var_of m t ∷ []) next)

-- the type with a number
pub type-there : (types : List TypeEntry) (i : ℕ) → i < length types → (t : TypeEntry) × (slice_get types i ≡ Some t)
type-there types i inside = present types i inside

pub type_vars-next : (types : List TypeEntry) (i : ℕ) (t : TypeEntry) (name : List ℕ) (old new : List VarEntry) → slice_get types i ≡ Some t → name ≡ t.name →
    old ≡ vars_from 0 (take i types) → new ≡ add_var old name (var.Data (record { 0 = i })) → new ≡ vars_from 0 (take (i + 1) types)
type_vars-next types i t name old new at named is added =
    added
    ∙ (λ k. is k ++ record { name = named k; kind = var.Data (record { 0 = number k }) } ∷ [])
    ∙ sym (vars_from-push 0 (take i types) t)
    ∙ ap (vars_from 0) (sym (take-next types i t at))
  where
    number : i ≡ 0 + length (take i types)
    number = let long = length-front types i t at in omega arith

pub type_vars-all : (types : List TypeEntry) (i : ℕ) (vars : List VarEntry) → length types ≤ i → vars ≡ vars_from 0 (take i types) → vars ≡ type_vars types
type_vars-all types i vars enough is = is ∙ ap (vars_from 0) (take_all i types enough)

pub length-vars_from : (n : ℕ) (ts : List TypeEntry) → length (vars_from n ts) ≡ length ts
length-vars_from n [] = refl
length-vars_from n (t ∷ ts) = ap suc (length-vars_from (suc n) ts)

pub has-room : (types : List TypeEntry) (i : ℕ) (t : TypeEntry) (vars : List VarEntry) → IsTypeTable types → slice_get types i ≡ Some t →
    vars ≡ vars_from 0 (take i types) → length vars < 4294967295
has-room types i t vars table at is =
    let long : length vars ≡ i = ap (λ (vs : List VarEntry). length vs) is ∙ length-vars_from 0 (take i types) ∙ length-front types i t at in
    let inside = slice_get_within types i t at in
    let few = table.few in
    omega (arith, long, inside, few)

-- ---- names

var_names-from : (n : ℕ) (ts : List TypeEntry) → var_names (vars_from n ts) ≡ type_names ts
var_names-from n [] = refl
var_names-from n (t ∷ ts) = ap (λ l. t.name ∷ l) (var_names-from (suc n) ts)

-- the name of a type isn't one of those before it
new-before : (types : List TypeEntry) (i : ℕ) (t : TypeEntry) → AreDistinct (type_names types) → slice_get types i ≡ Some t →
    place_of t.name (type_names (take i types)) ≡ None
new-before [] i t distinct at = absurd (cc)
new-before (s ∷ types) zero t distinct at = refl
new-before (s ∷ types) (suc i) t distinct at =
    position_none-from (bytes_eq t.name) s.name (type_names (take i types))
    (nat_list_eq_equiv.symm t.name s.name ∙ position_none-at (bytes_eq s.name) (type_names types) i t.name distinct.0 (named types i at))
    (new-before types i t distinct.1 at)
  where
    named : (ts : List TypeEntry) (k : ℕ) → slice_get ts k ≡ Some t → slice_get (type_names ts) k ≡ Some t.name
    named [] k at = absurd (cc)
    named (u ∷ ts) zero at = let same : u ≡ t = cc in ap (λ (x : TypeEntry). Some x.name) same
    named (u ∷ ts) (suc k) at = named ts k at

pub name-new : (types : List TypeEntry) (i : ℕ) (t : TypeEntry) (name : List ℕ) (vars : List VarEntry) → IsTypeTable types → slice_get types i ≡ Some t →
    name ≡ t.name → vars ≡ vars_from 0 (take i types) → var_named vars name ≡ None
name-new types i t name vars table at named is =
    ap (option_map (λ k. record { 0 = k }))
    ((λ k. place_of (named k) (var_names (is k)))
    ∙ ap (place_of t.name) (var_names-from 0 (take i types))
    ∙ new-before types i t table.names at)

-- ---- what the table is

vars_from-at : (n : ℕ) (ts : List TypeEntry) (i : ℕ) → i < length ts →
    IsSomeAnd (slice_get (vars_from n ts) i) (λ entry. entry.kind ≡ var.Data (record { 0 = n + i }))
vars_from-at n [] i inside = absurd (omega arith)
vars_from-at n (t ∷ ts) zero inside = let same : n ≡ n + 0 = omega arith in ap (λ m. var.Data (record { 0 = m })) same
vars_from-at n (t ∷ ts) (suc i) inside =
    let next : suc n + i ≡ n + suc i = omega arith in
    subst (λ m. IsSomeAnd (slice_get (vars_from (suc n) ts) i) (λ (entry : VarEntry). entry.kind ≡ var.Data (record { 0 = m }))) next
    (vars_from-at (suc n) ts i (omega arith))

pub one_each : (types : List TypeEntry) → IsOneEach types (type_vars types)
one_each types = record {
  count = length-vars_from 0 types;
  each = λ i inside.
      let same : 0 + i ≡ i = omega arith in
      subst (λ m. IsSomeAnd (slice_get (type_vars types) i) (λ (entry : VarEntry). entry.kind ≡ var.Data (record { 0 = m }))) same
      (vars_from-at 0 types i inside);
}

known-from : (types : List TypeEntry) (n : ℕ) (ts : List TypeEntry) → n + length ts ≤ length types →
    AllByRecursion (λ entry. KnowsVarKind types entry.kind) (vars_from n ts)
known-from types n [] few = tt
known-from types n (t ∷ ts) few = (omega arith, known-from types (suc n) ts (omega arith))

pub types-known : (types : List TypeEntry) → AllByRecursion (λ entry. KnowsVarKind types entry.kind) (type_vars types)
types-known types = known-from types 0 types (omega arith)
