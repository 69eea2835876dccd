-- What lines add to what was said, step by step.
use Rattle.std.proofs.Common.{◌≡◌, ℕ, zero, suc, ◌+◌, ◌<◌, ◌==◌, ◌&&◌, ◌||◌, not, nat_lt, Bool, true, false, cond, List, [], ◌∷◌, ◌++◌, length, map}
use Rattle.std.proofs.Common.{take, drop, get_or, slice_get, Option, Some, None, Result, Ok, Err, IsSomeAnd, IsErrAnd, IfErr, refl, sym, ap, ◌∙◌}
use Rattle.std.proofs.Common.{subst, arith, append_assoc}
use Rattle.std.specs.Option.{option_map, option_and_then, option_map_or}
use Rattle.std.specs.List.{list_any, AllByRecursion}
use Rattle.std.specs.List.Sorted.{IsStrictlySortedBy}
use Rattle.std.specs.Ordering.{nat_cmp, is_eq}
use Rattle.std.specs.declared.cmp.Ordering.TheVariants.{Less}
use Rattle.std.specs.BTreeSet.{insert_key}
use Rattle.std.specs.FinMap.{insert, contains_key}
use Rattle.std.proofs.lemmas.Cmp.{ranked}
use Rattle.std.proofs.lemmas.Bool.Decides.{nat_tests}
use Rattle.std.proofs.lemmas.List.{append-nil, at_drop_more}
use Rattle.std.proofs.lemmas.Option.{slice_get_within, get_or_from_slice_get}
use Rattle.std.proofs.lemmas.Map.Keys.{sorted_head, sorted_tail}
use Rattle.store_core.specs.declared.ids.CellId.{CellId}
use Rattle.store_core.specs.declared.ids.VariantId.{VariantId}
use Rattle.store_core.specs.declared.ids.FieldId.{FieldId}
use Rattle.store_core.specs.declared.kind.FieldKind.{FieldKind}
use Rattle.store_core.specs.declared.value.Value.{Value}
use Rattle.store_text.specs.declared.fault.StoreKind.{StoreKind}
use Rattle.store_text.specs.declared.fault.StoreKind.TheVariants.{UnknownName, Repeated}
use Rattle.store_text.specs.declared.read.holds.Mention.{Mention}
use Rattle.store_core.specs.declared.ids.TypeId.{TypeId}
use Rattle.store_text.specs.declared.read.spelled.CellLine.{CellLine}
use Rattle.store_core.specs.declared.ids.VarId.{VarId}
use Rattle.store_core.specs.declared.kind.VarKind.{VarKind}
use Rattle.store_text.specs.declared.read.spelled.Given.{Given}
use Rattle.store_core.specs.Tables.{TypeEntry, FieldEntry, VarEntry, var_named, var_at, fields_of, type_named, variant_count, place_of, field_names}
use Rattle.store_core.specs.Tables.{has_field, is_had, KnowsVariant}
use Rattle.store_core.specs.CellLists.{AreRising}
use Rattle.store_core.specs.Stores.{CellEntry}
use Rattle.store_text.specs.Saying.{◌>>=◌, IsStop, or_fault, members_after, cells_numbered, field_had, field_holds, mentions_of, named_by, named_in}
use Rattle.store_text.specs.Saying.{named_at, variant_named, say_fields, cell_said, Said, say_cell, is_said, value_for, var_holds, say_var}
use Rattle.store_core.proofs.Adding.{at_known}

-- ---- faults

-- the fault handed on is the fault that was met
pub stop_of : {A X : Type 0} (r : Result A StoreKind) (e : StoreKind) (said : Result X StoreKind) → IsErrAnd r (λ k. k ≡ e) →
    IsStop said e → IfErr r (IsStop said)
stop_of (Ok x) e said is stop = tt
stop_of (Err k) e said is stop = λ n. stop (λ m. n (is ∙ m)) ∙ ap Err (sym is)

-- ---- members

same_number : (n m : ℕ) → is_eq (nat_cmp n m) ≡ (m == n)
same_number n m = grind (arith, nat_tests)

pub members-any : (n : ℕ) (ks : List ℕ) → list_any (λ k. is_eq (nat_cmp n k)) ks ≡ list_any (λ m. m == n) ks
members-any n [] = refl
members-any n (k ∷ ks) = λ i. same_number n k i || members-any n ks i

pub members_after-again : (so_far : List ℕ) (n : ℕ) (ns : List ℕ) → list_any (λ m. m == n) so_far ≡ true → members_after so_far (n ∷ ns) ≡ None
members_after-again so_far n ns is = ap (λ t. cond t None (members_after (insert_key nat_cmp so_far n) ns)) is

pub members_after-new : (so_far : List ℕ) (n : ℕ) (ns : List ℕ) → list_any (λ m. m == n) so_far ≡ false →
    members_after so_far (n ∷ ns) ≡ members_after (insert_key nat_cmp so_far n) ns
members_after-new so_far n ns is = ap (λ t. cond t None (members_after (insert_key nat_cmp so_far n) ns)) is

pub true_from_not : (b c : Bool) → b ≡ not c → b ≡ false → c ≡ true
true_from_not b true e f = refl
true_from_not b false e f = absurd (cc)

pub false_from_not : (b c : Bool) → b ≡ not c → b ≡ true → c ≡ false
false_from_not b true e f = absurd (cc)
false_from_not b false e f = refl

all_above : (k : ℕ) (ks : List ℕ) → AllByRecursion (λ y. nat_cmp k y ≡ Less) ks → AllByRecursion (λ d. k < d.0) (cells_numbered ks)
all_above k [] all = tt
all_above k (y ∷ ks) all = (ranked k y Less (sym all.0), all_above k ks all.1)

-- keys in order are cells in rising order
pub rising_keys : (ks : List ℕ) → IsStrictlySortedBy nat_cmp ks → AreRising (cells_numbered ks)
rising_keys [] sorted = tt
rising_keys (k ∷ ks) sorted = (all_above k ks (sorted_head nat_cmp k ks sorted), rising_keys ks (sorted_tail nat_cmp k ks sorted))

in_middle : (P : CellId → Type 0) (xs : List CellId) (c : CellId) (rest : List CellId) → AllByRecursion P (xs ++ c ∷ rest) → P c
in_middle P [] c rest all = all.0
in_middle P (x ∷ xs) c rest all = in_middle P xs c rest all.1

-- those before a cell are below it
pub below_middle : (xs : List CellId) (c : CellId) (rest : List CellId) → AreRising (xs ++ c ∷ rest) → AllByRecursion (λ d. d.0 < c.0) xs
below_middle [] c rest rising = tt
below_middle (x ∷ xs) c rest rising = (in_middle (λ d. x.0 < d.0) xs c rest rising.0, below_middle xs c rest rising.1)

-- ---- fields

-- something found at a place stands within the list
pub some_within : {A B : Type 0} (g : A → B) (xs : List A) (i : ℕ) (y : B) → Some y ≡ option_map g (slice_get xs i) → i < length xs
some_within {A = A} g xs i y is = by (slice_get xs i) refl is
  where
    by : (o : Option A) → slice_get xs i ≡ o → Some y ≡ option_map g o → i < length xs
    by None at e = absurd (cc)
    by (Some x) at e = slice_get_within xs i x at

-- the field is of the variant's type
pub field_had-ty : (types : List TypeEntry) (v : VariantId) (name : List ℕ) (f : FieldId) → Ok f ≡ field_had types v name → f.ty ≡ v.ty
unfolding field_had
field_had-ty types v name f is = by (place_of name (field_names (fields_of types v.ty))) is
  where
    last : (g : FieldId) (t : Bool) → g.ty ≡ v.ty → Ok f ≡ cond t (Ok g) (Err UnknownName) → f.ty ≡ v.ty
    last g true of e = let same : f ≡ g = cc in ap (λ (h : FieldId). h.ty) same ∙ of
    last g false of e = absurd (cc)

    by : (o : Option ℕ) → Ok f ≡ or_fault UnknownName (option_map (λ i. record { ty = v.ty; index = i }) o) >>=
        (λ g. cond (has_field types v g) (Ok g) (Err UnknownName)) → f.ty ≡ v.ty
    by None e = absurd (cc)
    by (Some i) e = last (record { ty = v.ty; index = i }) (has_field types v (record { ty = v.ty; index = i })) refl e

all_three : (a b c : Bool) → (a && (b && c)) ≡ true → c ≡ true
all_three true true c is = is
all_three true false c is = absurd (cc)
all_three false b c is = absurd (cc)

last_one : (a b c : Bool) → (a && (b && c)) ≡ false → a ≡ true → b ≡ true → c ≡ false
last_one a b c is first second = (λ i. sym first i && (sym second i && c)) ∙ is

-- a field that the variant has and that no value was given
pub named_at-lacks : (types : List TypeEntry) (v : VariantId) (line place : ℕ) (x : Option Value) → x ≡ None →
    true ≡ has_field types v (record { ty = v.ty; index = place })
    → named_at line v.index (fields_of types v.ty) place x ≡ None
named_at-lacks types v line place x none has =
    ap (named_at line v.index (fields_of types v.ty) place) none ∙ by (slice_get (fields_of types v.ty) place) (all_three _ _ _ (sym has))
  where
    by : (o : Option FieldEntry) → option_map_or (is_had v.index) o false ≡ true → option_and_then (λ f. named_by line v.index f None) o ≡ None
    by None had = refl
    by (Some f) had = ap (λ t. cond t None (Some [])) had

-- a field that the variant hasn't
pub named_at-other : (types : List TypeEntry) (v : VariantId) (line place : ℕ) (x : Option Value) (so_far : List Mention) →
    x ≡ None → false ≡ has_field types v (record { ty = v.ty; index = place })
    → KnowsVariant types v → place < length (fields_of types v.ty) →
    IsSomeAnd (named_at line v.index (fields_of types v.ty) place x) (λ more. so_far ≡ so_far ++ more)
named_at-other types v line place x so_far none hasnt known within =
    let field = at_known (fields_of types v.ty) place within in
    let there : nat_lt v.index (variant_count types v.ty) ≡ true = grind (arith, nat_tests) in
    let itself : (v.ty.0 == v.ty.0) ≡ true = grind (arith, nat_tests) in
    let not_had : is_had v.index field.0 ≡ false = ap (λ o. option_map_or (is_had v.index) o false) (sym field.1) ∙ last_one _ _ _ (sym hasnt) itself there in
    subst (λ o. IsSomeAnd o (λ more. so_far ≡ so_far ++ more))
    (sym (ap (named_at line v.index (fields_of types v.ty) place) none ∙
    ap (option_and_then (λ f. named_by line v.index f None)) field.1 ∙ ap (λ t. cond t None (Some [])) not_had))
    (sym (append-nil so_far))

-- a field with a value
pub named_at-given : (line index place : ℕ) (fs : List FieldEntry) (o : Option Value) (x : Value) (kind : FieldKind) (P : List Mention → Type 0) → o ≡ Some x
    → Some kind ≡ option_map (λ f. f.kind) (slice_get fs place) → P (mentions_of line (field_holds kind) x) → IsSomeAnd (named_at line index fs place o) P
named_at-given line index place fs o x kind P given at holds =
    subst (λ p. IsSomeAnd (named_at line index fs place p) P) (sym given) (by (slice_get fs place) at)
  where
    by : (f : Option FieldEntry) → Some kind ≡ option_map (λ e. e.kind) f → IsSomeAnd (option_and_then (λ e. named_by line index e (Some x)) f) P
    by None e = absurd (cc)
    by (Some f) e = let same : kind ≡ f.kind = cc in subst (λ k. P (mentions_of line (field_holds k) x)) same holds

-- a list from a place on, by the element there
from_place : {A : Type 0} (xs : List A) (i : ℕ) (x : A) → slice_get xs i ≡ Some x → drop i xs ≡ x ∷ drop (i + 1) xs
from_place xs i x at = at_drop_more (λ l. l) xs i x (slice_get_within xs i x at) ∙ ap (λ y. y ∷ drop (i + 1) xs) (get_or_from_slice_get xs i x x at)

pub from_index : {A : Type 0} (xs : List A) (i : ℕ) (x : A) → i < length xs → x ≡ get_or xs i x → drop i xs ≡ x ∷ drop (i + 1) xs
from_index xs i x within is = at_drop_more (λ l. l) xs i x within ∙ ap (λ y. y ∷ drop (i + 1) xs) (sym is)

module _ (line index : ℕ) (fs : List FieldEntry) (xs : List (Option Value)) (i : ℕ) (x : Option Value)
    (field_there : i < length fs) (there : i < length xs) (is : x ≡ get_or xs i x) where
  opened : (f : FieldEntry) → slice_get fs i ≡ Some f → named_in line index (drop i fs) (drop i xs) ≡ option_and_then
      (λ named. option_map (λ more. named ++ more) (named_in line index (drop (i + 1) fs) (drop (i + 1) xs))) (named_at line index fs i x)
  opened f at =
      (λ j. named_in line index (from_place fs i f at j) (from_index xs i x there is j))
      ∙ ap (option_and_then (λ named. option_map (λ more. named ++ more) (named_in line index (drop (i + 1) fs) (drop (i + 1) xs))))
      (ap (option_and_then (λ e. named_by line index e x)) (sym at))

  -- one field more
  pub named_in-more : (so_far new : List Mention) → IsSomeAnd (named_at line index fs i x) (λ more. new ≡ so_far ++ more)
      → option_map (λ more. new ++ more) (named_in line index (drop (i + 1) fs) (drop (i + 1) xs)) ≡ option_map
      (λ more. so_far ++ more) (named_in line index (drop i fs) (drop i xs))
  named_in-more so_far new named =
      let field = at_known fs i field_there in
      by (named_at line index fs i x) (named_in line index (drop (i + 1) fs) (drop (i + 1) xs)) named ∙
      ap (option_map (λ more. so_far ++ more)) (sym (opened field.0 field.1))
    where
      by : (o p : Option (List Mention)) → IsSomeAnd o (λ more. new ≡ so_far ++ more) →
          option_map (λ more. new ++ more) p ≡ option_map (λ more. so_far ++ more) (option_and_then (λ named. option_map (λ more. named ++ more) p) o)
      by None p some = absurd some
      by (Some ms) None some = refl
      by (Some ms) (Some rest) some = ap (λ l. Some (l ++ rest)) some ∙ ap Some (append_assoc so_far ms rest)

  -- one that lacks
  pub named_in-none : named_at line index fs i x ≡ None → named_in line index (drop i fs) (drop i xs) ≡ None
  named_in-none none =
      let field = at_known fs i field_there in
      opened field.0 field.1 ∙ ap (option_and_then (λ named. option_map (λ more. named ++ more) (named_in line index (drop (i + 1) fs) (drop (i + 1) xs)))) none

pub named_in-end : (line index : ℕ) (fs : List FieldEntry) (xs : List (Option Value)) (so_far : List Mention) → fs ≡ [] →
    option_map (λ more. so_far ++ more) (named_in line index fs xs) ≡ Some so_far
named_in-end line index fs xs so_far none = ap (λ l. option_map (λ more. so_far ++ more) (named_in line index l xs)) none ∙ ap Some (append-nil so_far)

-- nothing for one element more
pub none_more : {A B : Type 0} (xs : List A) (i : ℕ) → i < length xs → map {A = A} {B = Option B} (λ x. None)
    (take i xs) ++ None ∷ [] ≡ map {A = A} {B = Option B} (λ x. None) (take (suc i) xs)
none_more [] i within = absurd (omega arith)
none_more (x ∷ xs) zero within = refl
none_more (x ∷ xs) (suc i) within = ap (λ l. None ∷ l) (none_more xs i (omega arith))

-- a place within a list has an element
pub not_past : {A B : Type 0} (g : A → B) (xs : List A) (i : ℕ) → i < length xs → None ≡ option_map g (slice_get xs i) → ⊥
not_past {B = B} g xs i within none = let found = at_known xs i within in by (none ∙ ap (option_map g) found.1)
  where
    by : {y : B} → None ≡ Some y → ⊥
    by e = absurd (cc)

-- ---- a cell

-- the first fault among a cell's fields
pub cell_said-stop : (types : List TypeEntry) (line : ℕ) (cell : CellLine) (ty : TypeId) (v : VariantId) (kind : StoreKind) → type_named types cell.ty ≡ Some ty
    → variant_named types ty cell.variant ≡ Ok v → say_fields types v (map (λ f. None) (fields_of types v.ty)) cell.fields ≡ Err kind →
    cell_said types line cell ≡ Err kind
unfolding cell_said
cell_said-stop types line cell ty v kind typed variant fields = rw typed (rw variant (rw fields refl))

-- a cell's number again
pub say_cell-again : (types : List TypeEntry) (line : ℕ) (said : Said) (cell : CellLine) →
    contains_key said.cells cell.number ≡ true → say_cell types line said cell ≡ Err Repeated
unfolding say_cell
say_cell-again types line said cell again = rw again refl

-- the first fault of a line `cell` behind its number
pub say_cell-stop : (types : List TypeEntry) (line : ℕ) (said : Said) (cell : CellLine) (kind : StoreKind) →
    contains_key said.cells cell.number ≡ false → cell_said types line cell ≡ Err kind
    → say_cell types line said cell ≡ Err kind
unfolding say_cell
say_cell-stop types line said cell kind new stop = rw new (rw stop refl)

-- a new cell
pub say_cell-new : (types : List TypeEntry) (line : ℕ) (said : Said) (cell : CellLine) (new : CellEntry × List Mention) →
    contains_key said.cells cell.number ≡ false → cell_said types line cell ≡ Ok new
    → say_cell types line said cell ≡ Ok (record { cells = insert said.cells cell.number new.0; vars = said.vars; mentions = said.mentions ++ new.1 })
unfolding say_cell
say_cell-new types line said cell new absent fine = rw absent (rw fine refl)

-- ---- a variable

-- the fault of a variable's value
pub say_var-stop : (vars : List VarEntry) (line : ℕ) (said : Said) (given : Given) (v : VarId) (kind : VarKind) (stop : StoreKind) →
    var_named vars given.name ≡ Some v
    → option_map (λ entry. entry.kind) (var_at vars v) ≡ Some kind → is_said (slice_get said.vars v.0) ≡ false →
    value_for (var_holds kind) given.value ≡ Err stop → say_var vars line said given ≡ Err stop
unfolding say_var
say_var-stop vars line said given v kind stop named kinded new why = rw named (rw kinded (rw new (rw why refl)))
