-- What steps of a run leave as it was: types of cells that stay live, dead cells, and logic variables but for dead cells.
use Rattle.std.proofs.Common.{◌≡◌, ◌<◌, ◌≤◌, ℕ, Bool, true, false, IsTrue, List, [], ◌∷◌, filter, Option, Some, None, IsSome, IsSomeAnd}
use Rattle.std.proofs.Common.{is_some, unwrap_or, if◌then◌else◌, Ok, refl, sym, ap, ◌∙◌, subst, arith}
use Rattle.std.specs.Prelude.{option_map}
use Rattle.std.specs.List.{AllByRecursion}
use Rattle.std.proofs.lemmas.Bool.{false≢true}
use Rattle.store_core.specs.declared.ids.TypeId.{TypeId}
use Rattle.store_core.specs.declared.ids.VarId.{VarId}
use Rattle.store_core.specs.declared.ids.CellId.{CellId}
use Rattle.store_core.specs.declared.kind.VarKind.{VarKind}
use Rattle.store_core.specs.declared.kind.VarKind.TheVariants as var
use Rattle.store_core.specs.declared.value.Value.{Value}
use Rattle.store_core.specs.declared.value.Value.TheVariants as value
use Rattle.store_core.specs.Tables.{TypeEntry, VarEntry, var_at}
use Rattle.store_core.specs.Stores.{StoreMap, CellEntry, IsLive, IsFresh, NamesBelow, cell_of, var_value}
use Rattle.store_core.proofs.Bodies.{AllByRecursion-at}
use Rattle.routing_walks.specs.Walks.{IsOfType}
use Rattle.store_logic.specs.declared.act.Act.{Act}
use Rattle.store_logic.specs.declared.act.Act.TheVariants as act
use Rattle.store_logic.specs.Sorts.{Sort}
use Rattle.store_logic.specs.FitsCode.{ActFits, code_sort}
use Rattle.store_logic.specs.Terms.{null}
use Rattle.store_exec.specs.Steps.{variable, Step}
use Rattle.store_exec.specs.Restricted.{live_part, restricted}
use Rattle.store_exec.specs.Frames.{WritesVar, Leave}
use Rattle.store_exec.proofs.KeepLemmas.{place-of}
use Rattle.store_exec.proofs.FrameSteps.{Alone, Step-goes}
use Rattle.pale_calls.specs.Classes.{class_of, is_logic}
use Rattle.pale_typed.specs.Fitting.{IsLogicVariable}
use Rattle.whole_run.specs.Leaving.{CameOf}
use Rattle.whole_run.proofs.HandedStart.{variable_now}

-- ---- values, but for dead cells

module _ {X : Type 0} (P : X → Type 0) (f g : X → Bool) (each : (x : X) → P x → f x ≡ true → g x ≡ true) where
  -- a second test that lets through what the first one does changes nothing
  filter_within : (xs : List X) → AllByRecursion P xs → filter f (filter g xs) ≡ filter f xs
  filter_within [] all = refl
  filter_within (x ∷ xs) all = by (filter_within xs all.1) (g x) refl (f x) refl
    where
      by : filter f (filter g xs) ≡ filter f xs → (b : Bool) → g x ≡ b → (a : Bool) → f x ≡ a →
          filter f (if b then x ∷ filter g xs else filter g xs) ≡ (if a then x ∷ filter f xs else filter f xs)
      by more true is a also = ap (λ (z : Bool). if z then x ∷ filter f (filter g xs) else filter f (filter g xs)) also
          ∙ ap (λ (l : List X). if a then x ∷ l else l) more
      by more false is true also = absurd (false≢true (sym is ∙ each x all.0 also))
      by more false is false also = more

any : {X : Type 0} (xs : List X) → AllByRecursion (λ x. Unit {0}) xs
any [] = tt
any (x ∷ xs) = (tt, any xs)

module _ (s t : StoreMap) where
  -- what lives of what lived
  pub part_within : (n : ℕ) (y : Value) → NamesBelow n y → ((c : CellId) → c.0 < n → IsLive t c → IsLive s c) → live_part t (live_part s y) ≡ live_part t y
  part_within n (value.Bool truth) below each = refl
  part_within n (value.Cell c) below each = refl
  part_within n (value.Cells cells) below each = ap (λ (l : List CellId). value.Cells l)
      (filter_within (λ (c : CellId). c.0 < n) (λ c. is_some (cell_of t c)) (λ c. is_some (cell_of s c)) (λ c less live. each c less live) cells below)

  pub part_all : ((c : CellId) → IsLive t c → IsLive s c) → (y : Value) → live_part t (live_part s y) ≡ live_part t y
  part_all each (value.Bool truth) = refl
  part_all each (value.Cell c) = refl
  part_all each (value.Cells cells) = ap (λ (l : List CellId). value.Cells l)
      (filter_within (λ (c : CellId). Unit {0}) (λ c. is_some (cell_of t c)) (λ c. is_some (cell_of s c)) (λ c such live. each c live) cells (any cells))

below_all : (n m : ℕ) → n ≤ m → (cells : List CellId) → AllByRecursion (λ (c : CellId). c.0 < n) cells → AllByRecursion (λ (c : CellId). c.0 < m) cells
below_all n m more [] all = tt
below_all n m more (c ∷ cells) all = let less = all.0 in (omega (arith, less, more), below_all n m more cells all.1)

pub below_more : (n m : ℕ) (y : Value) → n ≤ m → NamesBelow n y → NamesBelow m y
below_more n m (value.Bool truth) more below = tt
below_more n m (value.Cell None) more below = tt
below_more n m (value.Cell (Some c)) more below = omega (arith, below, more)
below_more n m (value.Cells cells) more below = below_all n m more cells below

pub variable_below : (s : StoreMap) → IsFresh s → (v : VarId) → NamesBelow s.next (variable s v)
variable_below s fresh v = by (var_value s v) refl
  where
    by : (o : Option Value) → var_value s v ≡ o → NamesBelow s.next (unwrap_or o null)
    by None is = tt
    by (Some x) is = AllByRecursion-at (NamesBelow s.next) s.vars v.0 x fresh.vars is

-- ---- what a run makes of a store

-- new cells have new numbers, cells keep their types, and logic variables what they held, but for dead cells
pub record Moves (vars : List VarEntry) (s t : StoreMap) : Type 0 where
  pub next : s.next ≤ t.next
  pub used : (c : CellId) → c.0 < s.next → IsLive t c → IsLive s c
  pub types : (c : CellId) (ty : TypeId) → IsLive t c → IsOfType s ty c → IsOfType t ty c
  pub logic : (v : VarId) → IsLogicVariable vars v → live_part t (variable t v) ≡ live_part t (variable s v)

live_typed : (o : Option CellEntry) (ty : TypeId) → IsSomeAnd o (λ (cell : CellEntry). cell.variant.ty ≡ ty) → IsSome o
live_typed None ty h = absurd h
live_typed (Some cell) ty h = refl

-- a cell of a type is live
pub type_live : (s : StoreMap) (c : CellId) (ty : TypeId) → IsOfType s ty c → IsLive s c
type_live s c ty h = live_typed (cell_of s c) ty h

-- ---- restricted stores

pub restricted_moves : (vars : List VarEntry) (s : StoreMap) → Moves vars s (restricted s)
restricted_moves vars s = record {
  next = omega arith;
  used = λ c less live. live;
  types = λ c ty live h. h;
  logic = λ v is. ap (live_part (restricted s)) (variable_now s v) ∙ part_all s (restricted s) (λ c live. live) (variable s v);
}

-- ---- acts

no_code : (kind : VarKind) (start : Sort) → code_sort kind ≡ Some start → IsTrue (is_logic (class_of kind)) → ⊥
no_code var.Bool start is h = false≢true h
no_code (var.Data ty) start is h = false≢true h
no_code (var.Pointer ty) start is h = false≢true h
no_code (var.LogicSet ty) start is h = absurd cc
no_code var.LogicBool start is h = absurd cc

same_type : (o p : Option CellEntry) (ty : TypeId) →
    option_map (λ (cell : CellEntry). cell.variant) p ≡ option_map (λ (cell : CellEntry). cell.variant) o → IsSome p →
    IsSomeAnd o (λ (cell : CellEntry). cell.variant.ty ≡ ty) → IsSomeAnd p (λ (cell : CellEntry). cell.variant.ty ≡ ty)
same_type None p ty same live h = absurd h
same_type (Some a) None ty same live h = absurd (false≢true live)
same_type (Some a) (Some b) ty same live h = let is : b.variant ≡ a.variant = cc in ap (λ v. v.ty) is ∙ h

module _ (types : List TypeEntry) (vars : List VarEntry) where
  -- code writes no logic variable
  no_logic : (a : Act) → ActFits types vars a → (v : VarId) → IsLogicVariable vars v → WritesVar a v → ⊥
  no_logic (act.Assign p x) fits v logic writes =
      let place = place-of types vars p.var p.fields fits.0 fits.1 in
      let known : var_at vars v ≡ Some place.entry = ap (var_at vars) (sym writes.0) ∙ place.known in
      no_code place.entry.kind place.start place.coded
      (subst (λ (o : Option VarEntry). IsSomeAnd (option_map (λ (e : VarEntry). e.kind) o) (λ kind. IsTrue (is_logic (class_of kind)))) known logic)
  no_logic (act.Free w) fits v logic writes = writes
  no_logic (act.Assert b) fits v logic writes = writes

  pub act_moves : (s t : StoreMap) (a : Act) → IsFresh s → ActFits types vars a → Step types s a (Ok t) → Moves vars s t
  act_moves s t a fresh fits step = record {
    next = leave.next;
    used = leave.used;
    types = λ c ty live h. same_type (cell_of s c) (cell_of t c) ty (leave.variants c (type_live s c ty h) live) live h;
    logic = λ v is. ap (λ o. live_part t (unwrap_or o null))
        (leave.vars v (λ u b same writes. no_logic a fits v is (subst (λ z. WritesVar z v) same.1 writes)));
  }
    where
      leave : Leave (Alone types s fresh.cells a) s t
      leave = (Step-goes types s fresh.cells a t step).leave

-- ---- what a callee keeps

-- the logic variable holds in x what it held in h, but for dead cells
abbrev pub IsKept : StoreMap → StoreMap → VarId → Type 0
IsKept h x v = NamesBelow x.next (variable h v) × (live_part x (variable x v) ≡ live_part x (variable h v))

pub kept_moves : (vars : List VarEntry) (h s t : StoreMap) (v : VarId) → Moves vars s t → IsFresh s → IsLogicVariable vars v → IsKept h s v → IsKept h t v
kept_moves vars h s t v moves fresh is kept = (
  below_more s.next t.next (variable h v) moves.next kept.0,
  moves.logic v is
      ∙ sym (part_within s t s.next (variable s v) (variable_below s fresh v) moves.used)
      ∙ ap (live_part t) kept.1
      ∙ part_within s t s.next (variable h v) kept.0 moves.used,
)

pub all_kept_moves : (vars : List VarEntry) (h s t : StoreMap) (vs : List VarId) → Moves vars s t → IsFresh s → AllByRecursion (IsLogicVariable vars) vs →
    AllByRecursion (IsKept h s) vs → AllByRecursion (IsKept h t) vs
all_kept_moves vars h s t [] moves fresh are kept = tt
all_kept_moves vars h s t (v ∷ vs) moves fresh are kept =
    (kept_moves vars h s t v moves fresh are.0 kept.0, all_kept_moves vars h s t vs moves fresh are.1 kept.1)

pub came_moves : (vars : List VarEntry) (r : StoreMap) (cells : List CellId) (s t : StoreMap) → Moves vars s t → CameOf r cells s → CameOf r cells t
came_moves vars r cells s t moves came = record {
  later = let one = came.later in let two = moves.next in omega (arith, one, two);
  handed = λ c live less. came.handed c (before c live less) less;
  kept = λ c ty live less h. moves.types c ty live (came.kept c ty (before c live less) less h);
}
  where
    before : (c : CellId) → IsLive t c → c.0 < r.next → IsLive s c
    before c live less = moves.used c (let one = came.later in omega (arith, one, less)) live
