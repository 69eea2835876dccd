-- The fields of paths, and what they lead to, the last one first.
use Rattle.std.proofs.Common.{◌≡◌, ◌⊎◌, inl, inr, Bool, true, false, cond, List, [], ◌∷◌, ◌++◌, reverse, unwrap_or, Option, Some, None, refl, sym, ap, ◌∙◌}
use Rattle.std.proofs.Common.{subst}
use Rattle.std.proofs.lemmas.Bool.{false≢true}
use Rattle.std.proofs.lemmas.List.{reverse-append}
use Rattle.std.specs.Prelude.{IsTrue, IsSomeAnd, is_some}
use Rattle.std.specs.List.{AllByRecursion}
use Rattle.store_core.specs.declared.ids.CellId.{CellId}
use Rattle.store_core.specs.declared.ids.TypeId.{TypeId}
use Rattle.store_core.specs.declared.ids.FieldId.{FieldId}
use Rattle.store_core.specs.declared.kind.FieldKind.{FieldKind}
use Rattle.store_core.specs.declared.kind.FieldKind.TheVariants as field
use Rattle.store_core.specs.declared.value.Value.{Value}
use Rattle.store_core.specs.declared.value.Value.TheVariants as value
use Rattle.store_core.specs.Tables.{TypeEntry, FieldEntry, field_at}
use Rattle.store_core.specs.Stores.{StoreMap, IsLive, cell_of, field_value}
use Rattle.store_core.proofs.Growing.{AllByRecursion-push}
use Rattle.routing_walks.specs.Walks.{DataAndPointers, IsFollowed}
use Rattle.store_logic.specs.Sorts.{Sort, Truth, Cell, Set, IsCellSort, field_sort, sort_along}
use Rattle.store_logic.specs.Terms.{null, field_of_value, value_along, live_value, cell_in, truth_in}
use Rattle.store_exec.proofs.SortLemmas.{first-field}
use Rattle.tree_store.proofs.SpotsLemmas.{of-some}
use Rattle.triple_meaning.proofs.claims.BoundLemmas.{some-same, none-some}

-- ---- from the last field on

-- what fields lead to, the last one first
abbrev pub back : StoreMap → Value → List FieldId → Value
back t x [] = x
back t x (f ∷ before) = field_of_value t (back t x before) f

back-end : (t : StoreMap) (x : Value) (fs : List FieldId) (f : FieldId) → back t x (fs ++ f ∷ []) ≡ back t (field_of_value t x f) fs
back-end t x [] f = refl
back-end t x (g ∷ fs) f = ap (λ y. field_of_value t y g) (back-end t x fs f)

pub back-reverse : (t : StoreMap) (x : Value) (fields : List FieldId) → back t x (reverse fields) ≡ value_along t x fields
back-reverse t x [] = refl
back-reverse t x (f ∷ fields) =
    ap (back t x) (reverse-append (f ∷ []) fields) ∙ back-end t x (reverse fields) f ∙ back-reverse t (field_of_value t x f) fields

pub along-end : (t : StoreMap) (x : Value) (fields : List FieldId) (f : FieldId) →
    value_along t x (fields ++ f ∷ []) ≡ field_of_value t (value_along t x fields) f
along-end t x [] f = refl
along-end t x (g ∷ fields) f = along-end t (field_of_value t x g) fields f

pub all-reverse : (P : FieldId → Type 0) (fields : List FieldId) → AllByRecursion P fields → AllByRecursion P (reverse fields)
all-reverse P [] all = tt
all-reverse P (f ∷ fields) all =
    subst (λ fs. AllByRecursion P fs) (sym (reverse-append (f ∷ []) fields)) (AllByRecursion-push P (reverse fields) f (all-reverse P fields all.1) all.0)

-- ---- the value of a field

-- a value that isn't null is that of a cell's field
pub field-from : (t : StoreMap) (x : Value) (f : FieldId) (w : Value) → (null ≡ w → ⊥) → field_of_value t x f ≡ w →
    (c : CellId) × (x ≡ value.Cell (Some c)) × (field_value t c f ≡ Some w)
field-from t (value.Bool k) f w other is = absurd (other is)
field-from t (value.Cells cells) f w other is = absurd (other is)
field-from t (value.Cell None) f w other is = absurd (other is)
field-from t (value.Cell (Some c)) f w other is = (c, refl, by (field_value t c f) is)
  where
    by : (o : Option Value) → unwrap_or o null ≡ w → o ≡ Some w
    by None e = absurd (other e)
    by (Some y) e = ap (λ z. Some z) e

pub null-cell : (c : CellId) → null ≡ value.Cell (Some c) → ⊥
null-cell c e = let no : ⊥ = cc in no

pub null-true : null ≡ value.Bool true → ⊥
null-true e = let no : ⊥ = cc in no

-- ---- live cells

pub live-cell : (t : StoreMap) (x : Value) (c : CellId) → cell_in (live_value t x) ≡ Some c → IsLive t c × (x ≡ value.Cell (Some c))
live-cell t (value.Bool k) c e = none-some c e
live-cell t (value.Cells cells) c e = none-some c e
live-cell t (value.Cell None) c e = none-some c e
live-cell t (value.Cell (Some d)) c e = by (is_some (cell_of t d)) refl e
  where
    by : (k : Bool) → is_some (cell_of t d) ≡ k → cell_in (cond k (value.Cell (Some d)) null) ≡ Some c → IsLive t c ×
        (value.Cell (Some d) ≡ value.Cell (Some c))
    by true live q = (let same : d ≡ c = some-same d c q in (subst (λ z. IsLive t z) same live, ap (λ z. value.Cell (Some z)) same))
    by false dead q = none-some c q

pub cell-live : (t : StoreMap) (x : Value) (c : CellId) → IsLive t c → x ≡ value.Cell (Some c) → cell_in (live_value t x) ≡ Some c
cell-live t x c live is = ap (λ y. cell_in (live_value t y)) is ∙ ap (λ k. cell_in (cond k (value.Cell (Some c)) null)) live

-- what is true is no cell
pub true-in : (t : StoreMap) (x : Value) → IsTrue (truth_in (live_value t x)) → x ≡ value.Bool true
true-in t (value.Bool k) e = ap (λ b. value.Bool b) e
true-in t (value.Cells cells) e = absurd (false≢true e)
true-in t (value.Cell None) e = absurd (false≢true e)
true-in t (value.Cell (Some d)) e = by (is_some (cell_of t d)) e
  where
    by : (k : Bool) → IsTrue (truth_in (cond k (value.Cell (Some d)) null)) → value.Cell (Some d) ≡ value.Bool true
    by true q = absurd (false≢true q)
    by false q = absurd (false≢true q)

pub in-true : (t : StoreMap) (x : Value) → x ≡ value.Bool true → IsTrue (truth_in (live_value t x))
in-true t x is = ap (λ y. truth_in (live_value t y)) is

-- ---- the sorts of paths

-- a data or pointer field of the table
abbrev pub IsCellField : List TypeEntry → FieldId → Type 0
IsCellField types f = IsSomeAnd (field_at types f) (λ entry. IsFollowed DataAndPointers entry.kind)

cell-followed : (kind : FieldKind) → IsCellSort (field_sort kind) → IsFollowed DataAndPointers kind
cell-followed field.Bool cell = absurd cell
cell-followed (field.Data target) cell = tt
cell-followed (field.Pointer target along) cell = tt

truth-bool : (kind : FieldKind) → field_sort kind ≡ Truth → kind ≡ field.Bool
truth-bool field.Bool e = refl
truth-bool (field.Data target) e = let no : ⊥ = cc in absurd no
truth-bool (field.Pointer target along) e = let no : ⊥ = cc in absurd no

-- fields lead on from cells alone
starts-cell : (types : List TypeEntry) (start : Sort) (f : FieldId) (fields : List FieldId) (end : Sort) → sort_along types start (f ∷ fields) ≡ Some end →
    IsCellSort start
starts-cell types Truth f fields end e = none-some end e
starts-cell types (Set ty) f fields end e = none-some end e
starts-cell types (Cell ty) f fields end e = tt

-- a path to a cell goes over cells
pub cells-along : (types : List TypeEntry) (fields : List FieldId) (start : Sort) (ty : TypeId) → sort_along types start fields ≡ Some (Cell ty) →
    IsCellSort start × AllByRecursion (IsCellField types) fields
cells-along types [] start ty e = (subst IsCellSort (sym (some-same start (Cell ty) e)) tt, tt)
cells-along types (f ∷ fields) start ty e =
    let one = first-field types start f fields (Cell ty) e in
    let rest = cells-along types fields (field_sort one.entry.kind) ty one.rest in (
      starts-cell types start f fields (Cell ty) e,
      (of-some (λ entry. IsFollowed DataAndPointers entry.kind) (field_at types f) one.entry one.known (cell-followed one.entry.kind rest.0), rest.1),
    )

-- a path to a truth value is the field of a cell behind a path over cells
pub record EndsInBool (types : List TypeEntry) (start : Sort) (fields : List FieldId) : Type 0 where
  pub before : List FieldId
  pub last : FieldId
  pub order : fields ≡ before ++ last ∷ []
  pub cell : IsCellSort start
  pub cells : AllByRecursion (IsCellField types) before
  pub entry : FieldEntry
  pub known : field_at types last ≡ Some entry
  pub is_bool : entry.kind ≡ field.Bool

pub truth-along : (types : List TypeEntry) (fields : List FieldId) (start : Sort) → sort_along types start fields ≡ Some Truth →
    ((start ≡ Truth) × (fields ≡ [])) ⊎ EndsInBool types start fields
truth-along types [] start e = inl (some-same start Truth e, refl)
truth-along types (f ∷ fields) start e =
    let one = first-field types start f fields Truth e in
    let cell = starts-cell types start f fields Truth e in
    elim (truth-along types fields (field_sort one.entry.kind) one.rest) as (λ _. ((start ≡ Truth) × (f ∷ fields ≡ [])) ⊎ EndsInBool types start (f ∷ fields)) [
      | inl end ↦ inr (record {
        before = [];
        last = f;
        order = ap (λ fs. f ∷ fs) end.1;
        cell = cell;
        cells = tt;
        entry = one.entry;
        known = one.known;
        is_bool = truth-bool one.entry.kind end.0;
      })
      | inr later ↦ inr (record {
        before = f ∷ later.before;
        last = later.last;
        order = ap (λ fs. f ∷ fs) later.order;
        cell = cell;
        cells = (
          of-some (λ entry. IsFollowed DataAndPointers entry.kind) (field_at types f) one.entry one.known
              (cell-followed one.entry.kind later.cell),
          later.cells,
        );
        entry = later.entry;
        known = later.known;
        is_bool = later.is_bool;
      })
    ]
