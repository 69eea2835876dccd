-- Values that fit one store fit another in which the cells that they name have kept their types.
use Rattle.std.proofs.Common.{ℕ, ◌<◌, List, [], ◌∷◌, Option, Some, None, IfSome}
use Rattle.std.specs.List.{AllByRecursion}
use Rattle.store_core.specs.declared.ids.TypeId.{TypeId}
use Rattle.store_core.specs.declared.ids.CellId.{CellId}
use Rattle.store_core.specs.declared.kind.FieldKind.{FieldKind}
use Rattle.store_core.specs.declared.kind.FieldKind.TheVariants as field
use Rattle.store_core.specs.declared.kind.VarKind.{VarKind}
use Rattle.store_core.specs.declared.kind.VarKind.TheVariants as var
use Rattle.store_core.specs.declared.value.Value.{Value}
use Rattle.store_core.specs.declared.value.Value.TheVariants as value
use Rattle.store_core.specs.Tables.{TypeEntry, FieldEntry, VarEntry, fields_of}
use Rattle.store_core.specs.Stores.{StoreMap, CellEntry, NamesType, NamesBelow, FieldFits, VarFits, SlotFits, SlotsFit, CellFits, VarsFit}

-- a value names such cells alone
abbrev pub NamesSuch : (CellId → Type 0) → Value → Type 0
NamesSuch Such (value.Bool b) = Unit {0}
NamesSuch Such (value.Cell c) = IfSome c Such
NamesSuch Such (value.Cells cells) = AllByRecursion Such cells

-- every value names some cells
pub NamesSuch-any : (x : Value) → NamesSuch (λ c. Unit {0}) x
NamesSuch-any (value.Bool b) = tt
NamesSuch-any (value.Cell None) = tt
NamesSuch-any (value.Cell (Some c)) = tt
NamesSuch-any (value.Cells cells) = all cells
  where
    all : (cells : List CellId) → AllByRecursion (λ c. Unit {0}) cells
    all [] = tt
    all (c ∷ cells) = (tt, all cells)

pub NamesSuch-below : (n : ℕ) (x : Value) → NamesBelow n x → NamesSuch (λ c. c.0 < n) x
NamesSuch-below n (value.Bool b) h = h
NamesSuch-below n (value.Cell c) h = h
NamesSuch-below n (value.Cells cells) h = h

-- the same of all values of a list, and of all slots of a cell
pub all-weaker : {X : Type 0} (P Q : X → Type 0) → ((x : X) → P x → Q x) → (o : Option X) → IfSome o P → IfSome o Q
all-weaker P Q step None h = tt
all-weaker P Q step (Some x) h = step x h

pub all-any : (xs : List Value) → AllByRecursion (NamesSuch (λ c. Unit {0})) xs
all-any [] = tt
all-any (x ∷ xs) = (NamesSuch-any x, all-any xs)

abbrev pub SlotNames : (CellId → Type 0) → Option Value → Type 0
SlotNames Such o = IfSome o (NamesSuch Such)

pub slots-any : (xs : List (Option Value)) → AllByRecursion (SlotNames (λ c. Unit {0})) xs
slots-any [] = tt
slots-any (None ∷ xs) = (tt, slots-any xs)
slots-any (Some x ∷ xs) = (NamesSuch-any x, slots-any xs)

-- s and t are the stores, and such a cell has in t the type that it has in s, if it is live in t
module _ (s t : StoreMap) (Such : CellId → Type 0) (kept : (target : TypeId) (c : CellId) → Such c → NamesType s target c → NamesType t target c) where
  reference_kept : (target : TypeId) (c : Option CellId) → IfSome c Such → IfSome c (NamesType s target) → IfSome c (NamesType t target)
  reference_kept target None such fit = tt
  reference_kept target (Some c) such fit = kept target c such fit

  set_kept : (target : TypeId) (cells : List CellId) → AllByRecursion Such cells → AllByRecursion (NamesType s target) cells →
      AllByRecursion (NamesType t target) cells
  set_kept target [] such fit = tt
  set_kept target (c ∷ cells) such fit = (kept target c such.0 fit.0, set_kept target cells such.1 fit.1)

  pub FieldFits-kept : (kind : FieldKind) (x : Value) → NamesSuch Such x → FieldFits s kind x → FieldFits t kind x
  FieldFits-kept field.Bool (value.Bool b) such fit = tt
  FieldFits-kept field.Bool (value.Cell c) such fit = absurd fit
  FieldFits-kept field.Bool (value.Cells cells) such fit = absurd fit
  FieldFits-kept (field.Data target) (value.Bool b) such fit = absurd fit
  FieldFits-kept (field.Data target) (value.Cell c) such fit = reference_kept target c such fit
  FieldFits-kept (field.Data target) (value.Cells cells) such fit = absurd fit
  FieldFits-kept (field.Pointer target along) (value.Bool b) such fit = absurd fit
  FieldFits-kept (field.Pointer target along) (value.Cell c) such fit = reference_kept target c such fit
  FieldFits-kept (field.Pointer target along) (value.Cells cells) such fit = absurd fit

  pub VarFits-kept : (kind : VarKind) (x : Value) → NamesSuch Such x → VarFits s kind x → VarFits t kind x
  VarFits-kept var.Bool (value.Bool b) such fit = tt
  VarFits-kept var.Bool (value.Cell c) such fit = absurd fit
  VarFits-kept var.Bool (value.Cells cells) such fit = absurd fit
  VarFits-kept (var.Data target) (value.Bool b) such fit = absurd fit
  VarFits-kept (var.Data target) (value.Cell c) such fit = reference_kept target c such fit
  VarFits-kept (var.Data target) (value.Cells cells) such fit = absurd fit
  VarFits-kept (var.Pointer target) (value.Bool b) such fit = absurd fit
  VarFits-kept (var.Pointer target) (value.Cell c) such fit = reference_kept target c such fit
  VarFits-kept (var.Pointer target) (value.Cells cells) such fit = absurd fit
  VarFits-kept (var.LogicSet target) (value.Bool b) such fit = absurd fit
  VarFits-kept (var.LogicSet target) (value.Cell c) such fit = absurd fit
  VarFits-kept (var.LogicSet target) (value.Cells cells) such fit = (fit.0, set_kept target cells such fit.1)
  VarFits-kept var.LogicBool (value.Bool b) such fit = tt
  VarFits-kept var.LogicBool (value.Cell c) such fit = absurd fit
  VarFits-kept var.LogicBool (value.Cells cells) such fit = absurd fit

  SlotFits-kept : (index : ℕ) (f : FieldEntry) (o : Option Value) → SlotNames Such o → SlotFits s index f o → SlotFits t index f o
  SlotFits-kept index f None such fit = fit
  SlotFits-kept index f (Some x) such fit = (fit.0, FieldFits-kept f.kind x such fit.1)

  pub SlotsFit-kept : (index : ℕ) (fs : List FieldEntry) (xs : List (Option Value)) → AllByRecursion (SlotNames Such) xs →
      SlotsFit s index fs xs → SlotsFit t index fs xs
  SlotsFit-kept index [] [] such fit = tt
  SlotsFit-kept index [] (x ∷ xs) such fit = absurd fit
  SlotsFit-kept index (f ∷ fs) [] such fit = absurd fit
  SlotsFit-kept index (f ∷ fs) (x ∷ xs) such fit = (SlotFits-kept index f x such.0 fit.0, SlotsFit-kept index fs xs such.1 fit.1)

  pub CellFits-kept : (types : List TypeEntry) (cell : CellEntry) → AllByRecursion (SlotNames Such) cell.values → CellFits types s cell → CellFits types t cell
  CellFits-kept types cell such fit = record {
    variant = fit.variant;
    values = SlotsFit-kept cell.variant.index (fields_of types cell.variant.ty) cell.values such fit.values;
  }

  pub VarsFit-kept : (vs : List VarEntry) (xs : List Value) → AllByRecursion (NamesSuch Such) xs → VarsFit s vs xs → VarsFit t vs xs
  VarsFit-kept [] [] such fit = tt
  VarsFit-kept [] (x ∷ xs) such fit = absurd fit
  VarsFit-kept (v ∷ vs) [] such fit = absurd fit
  VarsFit-kept (v ∷ vs) (x ∷ xs) such fit = (VarFits-kept v.kind x such.0 fit.0, VarsFit-kept vs xs such.1 fit.1)
