-- What names stand for inside the quantifiers of an assertion: what is bound is on the tracks before the next one, the nearest on
-- the last. (Møller and Schwartzbach, PLDI 2001, "pointer assertion logic".)
use Rattle.std.specs.Prelude.{◌≡◌, ℕ, suc, ◌-◌, ◌≤◌, List, [], slice_get, Some}
use Rattle.gta_theory.specs.Assignments.{Position, Assignment}
use Rattle.ws2s_forms.specs.Forms.{track}
use Rattle.store_core.specs.declared.ids.CellId.{CellId}
use Rattle.store_core.specs.declared.value.Value.{Value}
use Rattle.store_core.specs.declared.value.Value.TheVariants as value
use Rattle.store_core.specs.Tables.{VarEntry}
use Rattle.store_core.specs.Stores.{StoreMap}
use Rattle.store_logic.specs.declared.term.Term.{Term}
use Rattle.store_logic.specs.Sorts.{Sort, Truth, Cell, Set, Scope}
use Rattle.store_logic.specs.Terms.{Environment, cell_at}
use Rattle.graph_view.specs.declared.view.Sym.TheVariants.{At}
use Rattle.graph_view.specs.After.{Standing, IsAt, StandsFor}

-- the variables, and what quantifiers around bind, the nearest first; no predicate and no parameter
abbrev pub scope_under : List VarEntry → List Sort → Scope
scope_under vars sorts = record { vars = vars; bound = sorts; params = []; preds = [] }

-- the value has the form of the sort: a truth value, null or a cell, a set of cells
abbrev pub HasForm : Sort → Value → Type 0
HasForm Truth (value.Bool truth) = Unit {0}
HasForm (Cell ty) (value.Cell c) = Unit {0}
HasForm (Set ty) (value.Cells cells) = Unit {0}
HasForm _ _ = ⊥

-- what the quantifier with this number binds, counted from the nearest, has the form of its sort and is on the track of the quantifier
pub record IsBoundAt (at : Standing) (b : Assignment) (next : ℕ) (xs : List Value) (k : ℕ) (sort : Sort) : Type 0 where
  pub held : Value
  pub there : slice_get xs k ≡ Some held
  pub form : HasForm sort held
  pub inside : suc k ≤ next
  pub stands : StandsFor b at (At (track (next - suc k))) held

-- each of these sorts, the nearest first
abbrev pub AreBound : Standing → Assignment → ℕ → List Sort → List Value → Type 0
AreBound at b next sorts xs = (k : ℕ) (sort : Sort) → slice_get sorts k ≡ Some sort → IsBoundAt at b next xs k sort

-- the term is the live cell that stands there
abbrev pub TermAt : StoreMap → Standing → Environment → Term → Position → Type 0
TermAt t at e term p = (c : CellId) × IsAt at c p × (cell_at t e term ≡ Some c)
