-- Worked sections, under the guide with one space: of "the set is one position, and it isn't one position", and of "for some
-- set of track 1, the set of track 0 isn't within itself".
use Rattle.std.specs.Prelude.{ℕ, zero, suc, false, List, [], ◌∷◌}
use Rattle.gta_theory.specs.Automata.{Automaton}
use Rattle.gta_theory.specs.Constructions.{complement}
use Rattle.ws2s_core.specs.declared.formula.Formula.{Formula}
use Rattle.ws2s_core.specs.declared.formula.Formula.TheVariants.{Sub, Single, And, Not, Ex2}
use Rattle.ws2s_core.specs.declared.node.Node.{Node}
use Rattle.ws2s_core.specs.Examples.{track}
use Rattle.cert_theory.specs.Atoms.{sub_numbers, single_numbers}
use Rattle.cert_theory.specs.Tables.{NamedPair, NamedSet}
use Rattle.cert_theory.specs.Sections.{Stage}

abbrev pub contradiction : Formula
contradiction = And (Single (track 0)) (Not (Single (track 0)))

-- its three parts, by number
abbrev pub contradiction_nodes : List Node
contradiction_nodes =
    Node.Single (track 0) ∷ Node.Not (record { 0 = 0 }) ∷ Node.And (record { 0 = 0 }) (record { 0 = 1 }) ∷ []

-- the automaton with the one state 0, which isn't accepting
abbrev pub never : Automaton ℕ
never = record { initial = λ s. 0; step = λ s p q label. 0; accepting = λ q. false }

-- each of the three states goes with itself to the state 0
abbrev pub same_states : List NamedPair
same_states =
    record { space = 0; first = 0; second = 0; state = 0 }
    ∷ record { space = 0; first = 1; second = 1; state = 0 }
    ∷ record { space = 0; first = 2; second = 2; state = 0 }
    ∷ []

abbrev pub contradiction_stages : ℕ → Stage
contradiction_stages zero = record { automaton = single_numbers 0; pairs = []; sets = [] }
contradiction_stages (suc zero) = record { automaton = complement (single_numbers 0); pairs = []; sets = [] }
contradiction_stages (suc (suc k)) = record { automaton = never; pairs = same_states; sets = [] }

-- never satisfied, whatever the dropped track is
abbrev pub quantified : Formula
quantified = Ex2 (track 1) (Not (Sub (track 0) (track 0)))

abbrev pub quantified_nodes : List Node
quantified_nodes =
    Node.Sub (track 0) (track 0) ∷ Node.Not (record { 0 = 0 }) ∷ Node.Ex2 (track 1) (record { 0 = 1 }) ∷ []

-- the dropped track settles nothing but the initial state, and that set goes to the state 0
abbrev pub one_set : List NamedSet
one_set = record { space = 0; members = 0 ∷ []; state = 0 } ∷ []

abbrev pub quantified_stages : ℕ → Stage
quantified_stages zero = record { automaton = sub_numbers 0 0; pairs = []; sets = [] }
quantified_stages (suc zero) = record { automaton = complement (sub_numbers 0 0); pairs = []; sets = [] }
quantified_stages (suc (suc k)) = record { automaton = never; pairs = []; sets = one_set }
