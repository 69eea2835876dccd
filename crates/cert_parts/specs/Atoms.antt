-- The automaton of an atom, and its state after two states of its children. (Thatcher and Wright 1968.)
use Rattle.std.specs.Prelude.{ℕ, Bool, true, false, List, [], ◌∷◌, if◌then◌else◌}
use Rattle.labels.specs.Labels.{Label}
use Rattle.gta_theory.specs.Automata.{Automaton}
use Rattle.ws2s_core.specs.declared.node.Node.{Node}
use Rattle.ws2s_theory.specs.Atoms.{sub_step, single_step, root_step, succ_step}
use Rattle.cert_theory.specs.Atoms.{sub_number, sub_state, sub_numbers, single_number, single_state, single_numbers}
use Rattle.cert_theory.specs.Atoms.{root_number, root_state, root_numbers, succ_number, succ_state, succ0_numbers, succ1_numbers}
use Rattle.cert_parts.specs.declared.choice.Choice.{Choice}

-- the automaton of an atom; another form has one that accepts nothing
abbrev pub atom_automaton : Node → Automaton ℕ
atom_automaton (Node.Sub x y) = sub_numbers x.0 y.0
atom_automaton (Node.Single x) = single_numbers x.0
atom_automaton (Node.Succ0 x y) = succ0_numbers x.0 y.0
atom_automaton (Node.Succ1 x y) = succ1_numbers x.0 y.0
atom_automaton (Node.Root x) = root_numbers x.0
atom_automaton node = record { initial = λ s. 0; step = λ s p q label. 0; accepting = λ q. false }

-- its tracks, of which there may be one alone
abbrev pub first_track : Node → ℕ
first_track (Node.Sub x y) = x.0
first_track (Node.Single x) = x.0
first_track (Node.Succ0 x y) = x.0
first_track (Node.Succ1 x y) = x.0
first_track (Node.Root x) = x.0
first_track node = 0

abbrev pub second_track : Node → ℕ
second_track (Node.Sub x y) = y.0
second_track (Node.Single x) = x.0
second_track (Node.Succ0 x y) = y.0
second_track (Node.Succ1 x y) = y.0
second_track (Node.Root x) = x.0
second_track node = 0

-- its state after two states of its children, by whether each of its tracks is set
abbrev pub atom_state : Node → ℕ → ℕ → Bool → Bool → ℕ
atom_state (Node.Sub x y) p q a b = sub_number (sub_step (sub_state p) (sub_state q) a b)
atom_state (Node.Single x) p q a b = single_number (single_step (single_state p) (single_state q) a)
atom_state (Node.Succ0 x y) p q a b = succ_number (succ_step (succ_state p) (succ_state q) a b)
atom_state (Node.Succ1 x y) p q a b = succ_number (succ_step (succ_state q) (succ_state p) a b)
atom_state (Node.Root x) p q a b = root_number (root_step (root_state p) (root_state q) a)
atom_state node p q a b = 0

abbrev pub atom_function : Node → ℕ → ℕ → Label → ℕ
atom_function atom p q label = atom_state atom p q (label (first_track atom)) (label (second_track atom))

-- a state for each way to set two tracks
abbrev pub choice_by : (Bool → Bool → ℕ) → Choice
choice_by f = record { neither = f false false; second = f false true; first = f true false; both = f true true }

abbrev pub choice_of : Node → ℕ → ℕ → Choice
choice_of atom p q = choice_by (atom_state atom p q)

abbrev pub chosen : Choice → Bool → Bool → ℕ
chosen c a b = if a then (if b then c.both else c.first) else (if b then c.second else c.neither)

-- which of its states accept, up to the last one that does
abbrev pub accepting_of : Node → List Bool
accepting_of (Node.Sub x y) = true ∷ []
accepting_of (Node.Single x) = false ∷ true ∷ []
accepting_of (Node.Succ0 x y) = false ∷ false ∷ true ∷ []
accepting_of (Node.Succ1 x y) = false ∷ false ∷ true ∷ []
accepting_of (Node.Root x) = false ∷ true ∷ []
accepting_of node = []
