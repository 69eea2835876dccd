-- Sets of states, each as the list of its states in rising order.
use Rattle.std.specs.Prelude.{◌≡◌, ℕ, Bool, nat_lt, nat_eq, if◌then◌else◌, List, [], ◌∷◌}
use Rattle.std.specs.List.{list_any}

-- the set with a state put in
abbrev pub put : ℕ → List ℕ → List ℕ
put q [] = q ∷ []
put q (p ∷ ps) = if nat_lt q p then q ∷ p ∷ ps else (if nat_lt p q then p ∷ put q ps else p ∷ ps)

-- the set of the states of a list
abbrev pub set_of : List ℕ → List ℕ
set_of [] = []
set_of (q ∷ qs) = put q (set_of qs)

-- the list is a set: each state once, in rising order
abbrev pub IsSet : List ℕ → Type 0
IsSet states = set_of states ≡ states

-- whether the state is in the list
abbrev pub has_state : List ℕ → ℕ → Bool
has_state states q = list_any (nat_eq q) states
