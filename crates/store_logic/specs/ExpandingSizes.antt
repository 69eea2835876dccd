-- How large an assertion becomes with its predicates put in, by how large their bodies become.
use Rattle.std.specs.Prelude.{ℕ, ◌*◌, min, List, slice_get, unwrap_or, sum_by}
use Rattle.store_logic.specs.declared.assertion.Assertion.{Assertion, out-Assertion}
use Rattle.store_logic.specs.declared.assertion.Assertion.TheOpen.{Assertion-F}
use Rattle.store_logic.specs.declared.assertion.Assertion.TheFolds.{fold-Assertion}
use Rattle.store_logic.specs.Sizes.{count_of_node}

-- a predicate's use is as large as its body
abbrev pub sized_node : List ℕ → Assertion-F ℕ → ℕ
sized_node sizes (Assertion-F.Pred k args) = unwrap_or (slice_get sizes k) 1
sized_node sizes other = count_of_node other

-- the number of nodes, where bodies of these sizes stand for the predicates
abbrev pub sized : List ℕ → Assertion → ℕ
sized sizes = fold-Assertion ℕ (sized_node sizes)

-- the number, or the least that is too large
abbrev pub capped : ℕ → ℕ
capped n = min n 65537

abbrev pub own_size_of_node : List ℕ → Assertion-F Assertion → ℕ
own_size_of_node sizes (Assertion-F.Pred k args) = unwrap_or (slice_get sizes k) 1
own_size_of_node sizes other = 1

-- how much the form itself adds
abbrev pub own_size : List ℕ → Assertion → ℕ
own_size sizes a = own_size_of_node sizes (out-Assertion a)

abbrev pub part_times_of_node : ℕ → Assertion-F Assertion → ℕ
part_times_of_node times (Assertion-F.Iff a b) = 2 * times
part_times_of_node times other = times

-- how often each part counts, where the assertion counts so often
abbrev pub part_times : ℕ → Assertion → ℕ
part_times times a = part_times_of_node times (out-Assertion a)

-- the size of assertions that count so often each
abbrev pub total_size : List ℕ → List (Assertion × ℕ) → ℕ
total_size sizes = sum_by (λ p. p.1 * sized sizes p.0)
