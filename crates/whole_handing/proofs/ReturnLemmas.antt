-- The variables after a return.
use Rattle.std.proofs.Common.{◌≡◌, ◌+◌, ℕ, List, [], ◌∷◌, ◌++◌, length, map, ◌==◌, if◌then◌else◌, Option, Some, None, refl, sym, ap, ◌∙◌, arith}
use Rattle.std.specs.Prelude.{option_map}
use Rattle.std.specs.Option.{option_map_or}
use Rattle.std.specs.List.{find, zip, range_with_len}
use Rattle.std.proofs.lemmas.List.{map_push}
use Rattle.std.proofs.lemmas.List.FromFn.{map-range_with_len_more}
use Rattle.store_core.specs.declared.ids.VarId.{VarId}
use Rattle.store_core.specs.declared.value.Value.{Value}
use Rattle.store_core.specs.Tables.{VarEntry}
use Rattle.store_core.specs.Stores.{StoreMap}
use Rattle.store_logic.specs.Terms.{null}
use Rattle.store_exec.specs.Steps.{variable}
use Rattle.pale_typed.specs.declared.typed.CallParts.{CallParts}
use Rattle.hoare_split.specs.Picking.{class_at, is_spent, numbered}
use Rattle.whole_run.specs.Handing.{value_after}

-- ---- variables in order of the table

abbrev var_of : ℕ → VarId
var_of n = record { 0 = n }

-- one variable more
pub numbered_more : (f : VarId → Value) (i : ℕ) (now after : List Value) → now ≡ map f (numbered (range_with_len 0 i)) →
    after ≡ now ++ f (record { 0 = i }) ∷ [] → after ≡ map f (numbered (range_with_len 0 (i + 1)))
numbered_more f i now after so_far put =
    put ∙ ap (λ (l : List Value). l ++ f (record { 0 = i }) ∷ []) so_far
    ∙ sym (ap (map f) (map-range_with_len_more var_of 0 i i (omega arith)) ∙ map_push f (numbered (range_with_len 0 i)) (var_of i))

-- ---- a variable after a return

-- nothing stands beside nothing
pub no_own : (xs ys : List VarId) → length xs ≡ 0 → zip xs ys ≡ []
no_own [] ys none = refl
no_own (x ∷ xs) ys none = absurd (omega (arith, none))

pub no_other : (xs ys : List VarId) → length ys ≡ 0 → zip xs ys ≡ []
no_other [] ys none = refl
no_other (x ∷ xs) [] none = refl
no_other (x ∷ xs) (y ∷ ys) none = absurd (omega (arith, none))

mapped : (o : Option (VarId × VarId)) (r : Option VarId) (f : VarId → Value) (otherwise : Value) → r ≡ option_map (λ (p : VarId × VarId). p.1) o →
    option_map_or f r otherwise ≡ option_map_or (λ (p : VarId × VarId). f p.1) o otherwise
mapped None r f otherwise is = ap (λ (q : Option VarId). option_map_or f q otherwise) is
mapped (Some p) r f otherwise is = ap (λ (q : Option VarId). option_map_or f q otherwise) is

-- what is assigned where a result was found, and else what the variable is without one
pub value_is : (vars : List VarEntry) (call : CallParts) (results : List VarId) (rest t : StoreMap) (v : VarId) (awaited : List VarId) (r : Option VarId) →
    awaited ≡ call.results → r ≡ option_map (λ (p : VarId × VarId). p.1) (find (λ (p : VarId × VarId). p.0.0 == v.0) (zip awaited results)) →
    option_map_or (variable t) r (if is_spent call (class_at vars v) v then null else variable rest v) ≡ value_after vars call results rest t v
value_is vars call results rest t v awaited r same is =
    mapped (find (λ (p : VarId × VarId). p.0.0 == v.0) (zip call.results results)) r (variable t)
    (if is_spent call (class_at vars v) v then null else variable rest v)
    (is ∙ ap (λ (vs : List VarId). option_map (λ (p : VarId × VarId). p.1) (find (λ (p : VarId × VarId). p.0.0 == v.0) (zip vs results))) same)
