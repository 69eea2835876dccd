-- One step among the states that a dropped track starts with.
use Rattle.std.specs.Prelude.{◌≡◌, ℕ, Bool, List, Contains}
use Rattle.labels.specs.Labels.{Label, empty_label, with_track, HasAtMost}
use Rattle.gta_theory.specs.Guides.{Spaces, IsSpace, left, right}
use Rattle.gta_theory.specs.Automata.{Automaton}
use Rattle.cert_text.specs.declared.line.SettleLine.{SettleLine}
use Rattle.cert_theory.specs.Tables.{PlacedState, Lists}
use Rattle.cert_nodes.specs.declared.spots.Diagrams.{Diagrams}
use Rattle.cert_nodes.specs.Spots.{state_at}
use Rattle.cert_tables.specs.declared.table.Table.{Table}
use Rattle.cert_tables.specs.Automata.{class_in, spot_in}
use Rattle.cert_settled.specs.declared.states.Placed.{Placed}

abbrev pub placed : Placed → PlacedState
placed p = record { space = p.space; state = p.state }

-- no track is set, or this one alone
abbrev pub alone : ℕ → Bool → Label
alone t bit = with_track empty_label t bit

-- the line names a space and two states of its child spaces that are there, and the state that their step is
pub record Settles (g : Spaces) (A : Automaton ℕ) (t : ℕ) (list : List PlacedState) (line : SettleLine) : Type 0 where
  pub in_space : IsSpace g line.space
  pub has_left : Lists list (left g line.space) line.left
  pub has_right : Lists list (right g line.space) line.right
  pub is_step : A.step line.space line.left line.right (alone t line.has_bound) ≡ line.state

-- no step on a label with at most the track leads out of the list in the space
abbrev pub IsClosedIn : Spaces → Automaton ℕ → ℕ → List PlacedState → ℕ → Type 0
IsClosedIn g A t list s =
    (p q : ℕ) (label : Label) → HasAtMost t label → Lists list (left g s) p → Lists list (right g s) q →
    Lists list s (A.step s p q label)

-- nor in any space
abbrev pub IsClosedUnder : Spaces → Automaton ℕ → ℕ → List PlacedState → Type 0
IsClosedUnder g A t list = (s : ℕ) → IsSpace g s → IsClosedIn g A t list s

-- ---- by classes

-- a state of the child space in the list has this class on one side of s
pub record HasClass (is_right : Bool) (s child : ℕ) (a : Table) (list : List PlacedState) (k : ℕ) : Type 0 where
  pub state : ℕ
  pub listed : Lists list child state
  pub class : class_in a is_right s state ≡ k

-- what two classes lead to is there, without the track and with it
abbrev pub IsCellClosed : Diagrams → ℕ → Table → ℕ → List PlacedState → ℕ → ℕ → Type 0
IsCellClosed d s a t list l r = (bit : Bool) → Lists list s (state_at d 0 (alone t bit) (spot_in a s l r))

-- what a class leads to with each of these
abbrev pub IsRowClosed : Diagrams → ℕ → Table → ℕ → List PlacedState → List ℕ → ℕ → Type 0
IsRowClosed d s a t list rights l = (r : ℕ) → Contains rights r → IsCellClosed d s a t list l r

-- what each two classes lead to
abbrev pub AreCellsClosed : Diagrams → ℕ → Table → ℕ → List PlacedState → List ℕ → List ℕ → Type 0
AreCellsClosed d s a t list lefts rights = (l : ℕ) → Contains lefts l → IsRowClosed d s a t list rights l
