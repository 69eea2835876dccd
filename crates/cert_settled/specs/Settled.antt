-- Lines that tell the states that a dropped track starts with: which are right, and the first that isn't.
use Rattle.std.specs.Prelude.{◌≡◌, ◌⊎◌, ℕ, ◌<◌, ◌≤◌, List, ◌++◌, length, map, take, slice_get, Some}
use Rattle.gta_theory.specs.Guides.{Spaces, IsSpace}
use Rattle.gta_theory.specs.Automata.{Automaton}
use Rattle.cert_text.specs.declared.line.StartLine.{StartLine}
use Rattle.cert_text.specs.declared.line.SettleLine.{SettleLine}
use Rattle.cert_theory.specs.Tables.{PlacedState, Lists}
use Rattle.cert_settled.specs.declared.lines.SettleFault.{SettleFault}
use Rattle.cert_settled.specs.declared.lines.SettleFault.TheVariants as fault
use Rattle.cert_settled.specs.Settling.{Settles, IsClosedUnder}

abbrev pub start_state : StartLine → PlacedState
start_state line = record { space = line.space; state = line.state }

abbrev pub settle_state : SettleLine → PlacedState
settle_state line = record { space = line.space; state = line.state }

-- the states that the lines tell, in their order
abbrev pub told_states : List StartLine → List SettleLine → List PlacedState
told_states starts settles = map start_state starts ++ map settle_state settles

-- the line in place k of the start lines names space k and its initial state
pub record IsStart (g : Spaces) (A : Automaton ℕ) (k : ℕ) (line : StartLine) : Type 0 where
  pub in_space : IsSpace g k
  pub names : line.space ≡ k
  pub is_initial : line.state ≡ A.initial k

-- the first n start lines are right
abbrev pub AreStarts : Spaces → Automaton ℕ → List StartLine → ℕ → Type 0
AreStarts g A starts n = (k : ℕ) (line : StartLine) → k < n → slice_get starts k ≡ Some line → IsStart g A k line

-- each space has its start line
pub record HasStarts (g : Spaces) (A : Automaton ℕ) (starts : List StartLine) : Type 0 where
  pub all : length g ≤ length starts
  pub right : AreStarts g A starts (length starts)

-- the line settles a state that isn't there yet
pub record SettlesNew (g : Spaces) (A : Automaton ℕ) (t : ℕ) (list : List PlacedState) (line : SettleLine) : Type 0 where
  pub settles : Settles g A t list line
  pub is_new : Lists list line.space line.state → ⊥

-- the first n settle lines are right: each settles a state that the lines before it don't tell, by states that they do
abbrev pub AreSettles : Spaces → Automaton ℕ → ℕ → List PlacedState → List SettleLine → ℕ → Type 0
AreSettles g A t list settles n =
    (k : ℕ) (line : SettleLine) → k < n → slice_get settles k ≡ Some line → SettlesNew g A t (list ++ map settle_state (take k settles)) line

-- all lines are right, and no step leads out of the states that they tell
pub record AreSettling (g : Spaces) (A : Automaton ℕ) (t : ℕ) (starts : List StartLine) (settles : List SettleLine) : Type 0 where
  pub has_starts : HasStarts g A starts
  pub right : AreSettles g A t (map start_state starts) settles (length settles)
  pub closed : IsClosedUnder g A t (told_states starts settles)

-- a start line that is wrong stands in place k, or the start lines end there and spaces are left
abbrev pub IsNoStart : Spaces → Automaton ℕ → List StartLine → ℕ → Type 0
IsNoStart g A starts k =
    ((line : StartLine) × (slice_get starts k ≡ Some line) × (IsStart g A k line → ⊥)) ⊎ ((k ≡ length starts) × (length starts < length g))

-- a settle line that is wrong stands in place k
pub record IsNoSettle (g : Spaces) (A : Automaton ℕ) (t : ℕ) (list : List PlacedState) (settles : List SettleLine) (k : ℕ) : Type 0 where
  pub line : SettleLine
  pub at : slice_get settles k ≡ Some line
  pub wrong : SettlesNew g A t (list ++ map settle_state (take k settles)) line → ⊥

-- the first that is wrong, and what stands before it is right
abbrev pub IsFirstFault : Spaces → Automaton ℕ → ℕ → List StartLine → List SettleLine → SettleFault → Type 0
IsFirstFault g A t starts settles (fault.Start k) = AreStarts g A starts k × IsNoStart g A starts k
IsFirstFault g A t starts settles (fault.Settle k) =
    HasStarts g A starts × AreSettles g A t (map start_state starts) settles k × IsNoSettle g A t (map start_state starts) settles k
IsFirstFault g A t starts settles fault.Open =
    HasStarts g A starts × AreSettles g A t (map start_state starts) settles (length settles) × (IsClosedUnder g A t (told_states starts settles) → ⊥)
IsFirstFault g A t starts settles fault.NoMemory = Unit {0}

-- ---- of one form alone

-- a fault of start lines
abbrev pub IsStartFault : Spaces → Automaton ℕ → List StartLine → SettleFault → Type 0
IsStartFault g A starts (fault.Start k) = AreStarts g A starts k × IsNoStart g A starts k
IsStartFault g A starts (fault.Settle k) = ⊥
IsStartFault g A starts fault.Open = ⊥
IsStartFault g A starts fault.NoMemory = Unit {0}

-- a fault of settle lines behind these states
abbrev pub IsSettleFault : Spaces → Automaton ℕ → ℕ → List PlacedState → List SettleLine → SettleFault → Type 0
IsSettleFault g A t list settles (fault.Start k) = ⊥
IsSettleFault g A t list settles (fault.Settle k) = AreSettles g A t list settles k × IsNoSettle g A t list settles k
IsSettleFault g A t list settles fault.Open = ⊥
IsSettleFault g A t list settles fault.NoMemory = Unit {0}
