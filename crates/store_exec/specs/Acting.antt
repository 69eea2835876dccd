-- The acts that stand in code.
use Rattle.std.specs.Prelude.{ℕ, ◌+◌, Bool, false, true, List, [], ◌∷◌, ◌++◌, flat_map}
use Rattle.std.specs.List.{list_any}
use Rattle.store_logic.specs.declared.act.Act.{Act}
use Rattle.store_logic.specs.declared.act.Act.TheVariants as act
use Rattle.store_exec.specs.declared.code.Item.{Item}
use Rattle.store_exec.specs.declared.code.Item.TheOpen.{Item-F}
use Rattle.store_exec.specs.declared.code.Item.TheFolds.{fold-Item}
use Rattle.store_exec.specs.declared.code.Tail.TheOpen.{Tail-F}
use Rattle.store_exec.specs.declared.code.Tail.TheFolds.{fold-Code}
use Rattle.store_exec.specs.declared.code.Code.{Code}

-- the acts of an item, by those of its parts
abbrev pub acts_node : Item-F (List Act) → List Act
acts_node (Item-F.Do line a) = a ∷ []
acts_node (Item-F.If line c taken other) = flat_map (λ acts. acts) taken ++ flat_map (λ acts. acts) other

abbrev pub acts_of_item : Item → List Act
acts_of_item = fold-Item (List Act) acts_node

abbrev pub acts_of_items : List Item → List Act
acts_of_items = flat_map acts_of_item

abbrev pub acts_of_tail : Tail-F (List Act) (List Act) → List Act
acts_of_tail (Tail-F.Cut place) = []
acts_of_tail (Tail-F.Branch line c taken other) = taken ++ other

-- the acts that stand in a code, in all its parts, from the left
abbrev pub acts_of : Code → List Act
acts_of = fold-Code (List Act) (List Act) acts_of_tail (λ x. acts_of_items x.items ++ x.tail)

-- an `assert`
abbrev pub is_assert : Act → Bool
is_assert (act.Assign p x) = false
is_assert (act.Free v) = false
is_assert (act.Assert a) = true

-- whether an `assert` stands among the acts
abbrev pub have_assert : List Act → Bool
have_assert = list_any is_assert

-- ---- how a code is looked through

abbrev pub count_of_tail : Tail-F ℕ ℕ → ℕ
count_of_tail (Tail-F.Cut place) = 0
count_of_tail (Tail-F.Branch line c taken other) = taken + other

-- how many codes stand in a code, itself among them
abbrev pub code_count : Code → ℕ
code_count = fold-Code ℕ ℕ count_of_tail (λ x. x.tail + 1)
