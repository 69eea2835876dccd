-- How many atoms stand in a code: acts and whole conditions, in all its parts. (How many `new` do, store_exec says.)
use Rattle.std.specs.Prelude.{ℕ, ◌+◌, sum_by}
use Rattle.store_exec.specs.declared.code.Item.{Item}
use Rattle.store_exec.specs.declared.code.Item.TheOpen.{Item-F}
use Rattle.store_exec.specs.declared.code.Item.TheFolds.{fold-Item}
use Rattle.store_exec.specs.declared.code.Tail.TheOpen.{Tail-F}
use Rattle.store_exec.specs.declared.code.Tail.TheFolds.{fold-Code}
use Rattle.store_exec.specs.declared.code.Code.{Code}

abbrev pub atoms_node : Item-F ℕ → ℕ
atoms_node (Item-F.Do line a) = 1
atoms_node (Item-F.If line c taken other) = 1 + (sum_by (λ n. n) taken + sum_by (λ n. n) other)

abbrev pub atoms_of_item : Item → ℕ
atoms_of_item = fold-Item ℕ atoms_node

abbrev pub atoms_of_tail : Tail-F ℕ ℕ → ℕ
atoms_of_tail (Tail-F.Cut place) = 0
atoms_of_tail (Tail-F.Branch line c taken other) = 1 + (taken + other)

abbrev pub atoms_of_code : Code → ℕ
atoms_of_code = fold-Code ℕ ℕ atoms_of_tail (λ x. sum_by atoms_of_item x.items + x.tail)
