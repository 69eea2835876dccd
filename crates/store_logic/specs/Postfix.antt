-- Assertions in postfix order: each form after its parts. (Reverse Polish notation.)
use Rattle.std.specs.Prelude.{Bool, ℕ, ◌+◌, nat_lt, List, [], ◌∷◌, ◌++◌, length, flat_map, Option, Some, None, sum_by}
use Rattle.std.specs.Option.{option_and_then}
use Rattle.store_logic.specs.declared.assertion.Assertion.{Assertion, out-Assertion, roll-Assertion}
use Rattle.store_logic.specs.declared.assertion.Assertion.TheOpen.{Assertion-F}
use Rattle.store_logic.specs.declared.assertion.Assertion.TheFolds.{fold-Assertion, map-Assertion}

-- a form of an assertion, without its parts
abbrev pub Form : Type 0
Form = Assertion-F (Unit {0})

-- the same of what has parts
abbrev pub without_parts : (Part : Type 0) → Assertion-F Part → Form
without_parts Part node = map-Assertion Part (Unit {0}) (λ part. tt) node

-- the form of an assertion
abbrev pub form_of : Assertion → Form
form_of a = without_parts Assertion (out-Assertion a)

-- the parts, from the left
abbrev pub parts_of : (Part : Type 0) → Assertion-F Part → List Part
parts_of Part Assertion-F.True = []
parts_of Part Assertion-F.False = []
parts_of Part (Assertion-F.Truth t) = []
parts_of Part (Assertion-F.Is t v) = []
parts_of Part (Assertion-F.Same t u) = []
parts_of Part (Assertion-F.Member t set) = []
parts_of Part (Assertion-F.Subset set other) = []
parts_of Part (Assertion-F.Walk t along u) = []
parts_of Part (Assertion-F.Pred k args) = []
parts_of Part (Assertion-F.Not a) = a ∷ []
parts_of Part (Assertion-F.And a b) = a ∷ b ∷ []
parts_of Part (Assertion-F.Or a b) = a ∷ b ∷ []
parts_of Part (Assertion-F.Imp a b) = a ∷ b ∷ []
parts_of Part (Assertion-F.Iff a b) = a ∷ b ∷ []
parts_of Part (Assertion-F.Ex ty a) = a ∷ []
parts_of Part (Assertion-F.All ty a) = a ∷ []
parts_of Part (Assertion-F.ExSet ty a) = a ∷ []
parts_of Part (Assertion-F.AllSet ty a) = a ∷ []

-- whether it has any
abbrev pub has_parts : Assertion → Bool
has_parts a = nat_lt 0 (length (parts_of Assertion (out-Assertion a)))

abbrev pub postfix_of_node : Assertion-F (List Form) → List Form
postfix_of_node node = flat_map (λ part. part) (parts_of (List Form) node) ++ without_parts (List Form) node ∷ []

-- the forms of the assertion and of its parts, each after those of its own parts
abbrev pub postfix_of : Assertion → List Form
postfix_of = fold-Assertion (List Form) postfix_of_node

abbrev pub form_count_of_node : Assertion-F ℕ → ℕ
form_count_of_node node = sum_by (λ part. part) (parts_of ℕ node) + 1

-- how many forms an assertion is made of
abbrev pub form_count : Assertion → ℕ
form_count = fold-Assertion ℕ form_count_of_node

-- what a form of one part makes of the last assertion, and those before it; the last one comes first
abbrev pub take_one : (Assertion → Assertion-F Assertion) → List Assertion → Option (List Assertion)
take_one make [] = None
take_one make (a ∷ before) = Some (roll-Assertion (make a) ∷ before)

-- the same of two parts
abbrev pub take_two : (Assertion → Assertion → Assertion-F Assertion) → List Assertion → Option (List Assertion)
take_two make [] = None
take_two make (b ∷ []) = None
take_two make (b ∷ a ∷ before) = Some (roll-Assertion (make a b) ∷ before)

-- the assertions after a form took its parts and the assertion of both came in their place, the last first
abbrev pub applied : Form → List Assertion → Option (List Assertion)
applied Assertion-F.True before = Some (roll-Assertion Assertion-F.True ∷ before)
applied Assertion-F.False before = Some (roll-Assertion Assertion-F.False ∷ before)
applied (Assertion-F.Truth t) before = Some (roll-Assertion (Assertion-F.Truth t) ∷ before)
applied (Assertion-F.Is t v) before = Some (roll-Assertion (Assertion-F.Is t v) ∷ before)
applied (Assertion-F.Same t u) before = Some (roll-Assertion (Assertion-F.Same t u) ∷ before)
applied (Assertion-F.Member t set) before = Some (roll-Assertion (Assertion-F.Member t set) ∷ before)
applied (Assertion-F.Subset set other) before = Some (roll-Assertion (Assertion-F.Subset set other) ∷ before)
applied (Assertion-F.Walk t along u) before = Some (roll-Assertion (Assertion-F.Walk t along u) ∷ before)
applied (Assertion-F.Pred k args) before = Some (roll-Assertion (Assertion-F.Pred k args) ∷ before)
applied (Assertion-F.Not a) before = take_one Assertion-F.Not before
applied (Assertion-F.And a b) before = take_two Assertion-F.And before
applied (Assertion-F.Or a b) before = take_two Assertion-F.Or before
applied (Assertion-F.Imp a b) before = take_two Assertion-F.Imp before
applied (Assertion-F.Iff a b) before = take_two Assertion-F.Iff before
applied (Assertion-F.Ex ty a) before = take_one (Assertion-F.Ex ty) before
applied (Assertion-F.All ty a) before = take_one (Assertion-F.All ty) before
applied (Assertion-F.ExSet ty a) before = take_one (Assertion-F.ExSet ty) before
applied (Assertion-F.AllSet ty a) before = take_one (Assertion-F.AllSet ty) before

-- the assertions after all forms
abbrev pub run_on : List Form → List Assertion → Option (List Assertion)
run_on [] before = Some before
run_on (form ∷ forms) before = option_and_then (λ after. run_on forms after) (applied form before)
