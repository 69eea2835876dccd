-- Conditions in postfix order: each form after its parts. (Reverse Polish notation.)
use Rattle.std.specs.Prelude.{ℕ, ◌+◌, List, [], ◌∷◌, ◌++◌, flat_map, Option, Some, None, sum_by}
use Rattle.std.specs.Option.{option_and_then}
use Rattle.store_logic.specs.declared.cond.Cond.{Cond, out-Cond, roll-Cond}
use Rattle.store_logic.specs.declared.cond.Cond.TheOpen.{Cond-F}
use Rattle.store_logic.specs.declared.cond.Cond.TheFolds.{fold-Cond, map-Cond}

-- a form of a condition, without its parts
abbrev pub Form : Type 0
Form = Cond-F (Unit {0})

-- the same of what has parts
abbrev pub without_parts : (Part : Type 0) → Cond-F Part → Form
without_parts Part node = map-Cond Part (Unit {0}) (λ part. tt) node

-- the form of a condition
abbrev pub form_of : Cond → Form
form_of c = without_parts Cond (out-Cond c)

-- the parts, from the left
abbrev pub parts_of : (Part : Type 0) → Cond-F Part → List Part
parts_of Part Cond-F.True = []
parts_of Part Cond-F.False = []
parts_of Part (Cond-F.Bool p) = []
parts_of Part (Cond-F.Is p v) = []
parts_of Part (Cond-F.Same p q) = []
parts_of Part (Cond-F.Not c) = c ∷ []
parts_of Part (Cond-F.And c d) = c ∷ d ∷ []
parts_of Part (Cond-F.Or c d) = c ∷ d ∷ []

abbrev pub postfix_of_node : Cond-F (List Form) → List Form
postfix_of_node node = flat_map (λ part. part) (parts_of (List Form) node) ++ without_parts (List Form) node ∷ []

-- the forms of the condition and of its parts, each after those of its own parts
abbrev pub postfix_of : Cond → List Form
postfix_of = fold-Cond (List Form) postfix_of_node

abbrev pub form_count_of_node : Cond-F ℕ → ℕ
form_count_of_node node = sum_by (λ part. part) (parts_of ℕ node) + 1

-- how many forms a condition is made of
abbrev pub form_count : Cond → ℕ
form_count = fold-Cond ℕ form_count_of_node

-- what a form of one part makes of the last condition, and those before it; the last one comes first
abbrev pub take_one : (Cond → Cond-F Cond) → List Cond → Option (List Cond)
take_one make [] = None
take_one make (c ∷ before) = Some (roll-Cond (make c) ∷ before)

-- the same of two parts
abbrev pub take_two : (Cond → Cond → Cond-F Cond) → List Cond → Option (List Cond)
take_two make [] = None
take_two make (d ∷ []) = None
take_two make (d ∷ c ∷ before) = Some (roll-Cond (make c d) ∷ before)

-- the conditions after a form took its parts and the condition of both came in their place, the last first
abbrev pub applied : Form → List Cond → Option (List Cond)
applied Cond-F.True before = Some (roll-Cond Cond-F.True ∷ before)
applied Cond-F.False before = Some (roll-Cond Cond-F.False ∷ before)
applied (Cond-F.Bool p) before = Some (roll-Cond (Cond-F.Bool p) ∷ before)
applied (Cond-F.Is p v) before = Some (roll-Cond (Cond-F.Is p v) ∷ before)
applied (Cond-F.Same p q) before = Some (roll-Cond (Cond-F.Same p q) ∷ before)
applied (Cond-F.Not c) before = take_one Cond-F.Not before
applied (Cond-F.And c d) before = take_two Cond-F.And before
applied (Cond-F.Or c d) before = take_two Cond-F.Or before

-- the conditions after all forms
abbrev pub run_on : List Form → List Cond → Option (List Cond)
run_on [] before = Some before
run_on (form ∷ forms) before = option_and_then (λ after. run_on forms after) (applied form before)
