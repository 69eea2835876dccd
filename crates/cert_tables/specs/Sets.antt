-- How sets of states go along with the steps of two automata in one space, with a track dropped.
use Rattle.std.specs.Prelude.{◌≡◌, ◌↔◌, ℕ, Bool, true, false, List, [], ◌∷◌, ◌++◌, map, Contains, Some}
use Rattle.std.specs.List.{flat_map}
use Rattle.labels.specs.Labels.{Label}
use Rattle.gta_theory.specs.Guides.{Spaces, left, right}
use Rattle.gta_theory.specs.Automata.{Automaton}
use Rattle.gta_theory.specs.Constructions.{IsStepOf}
use Rattle.cert_text.specs.declared.line.SetLine.{SetLine}
use Rattle.cert_theory.specs.Tables.{NamedSet, SetGoesTo}
use Rattle.cert_nodes.specs.declared.spots.Spot.{Spot}
use Rattle.cert_tables.specs.declared.table.Table.{Table}
use Rattle.cert_tables.specs.declared.class_sets.SetClasses.{SetClasses}
use Rattle.cert_tables.specs.Automata.{space_in, class_in, cell_by, spot_in}

-- the state's class in the automaton, and the classes of the members in the part's
abbrev pub ClassKey : Type 0
ClassKey = ℕ × List ℕ

abbrev pub key_of : SetClasses → ClassKey
key_of k = (k.state, k.members.items)

-- the numbers are those of the second list, in another order
abbrev pub HasSame : List ℕ → List ℕ → Type 0
HasSame one other = (q : ℕ) → Contains one q ↔ Contains other q

-- the key has the classes of a set and of what it goes to, on one side of a space
pub record AreClassesOfSet (is_right : Bool) (s : ℕ) (a c : Table) (line : SetLine) (key : ClassKey) : Type 0 where
  pub state : key.0 ≡ class_in c is_right s line.state
  pub members : HasSame key.1 (map (class_in a is_right s) line.members)

-- a set of the child space has these classes
pub record HasSetClasses (is_right : Bool) (s child : ℕ) (a c : Table) (lines : List SetLine) (key : ClassKey) : Type 0 where
  pub line : SetLine
  pub listed : Contains lines line
  pub in_space : line.space ≡ child
  pub classes : AreClassesOfSet is_right s a c line key

-- a key for each set of the child space, and no others
pub record AreSetClasses (is_right : Bool) (s child : ℕ) (a c : Table) (lines : List SetLine) (keys : List ClassKey) : Type 0 where
  pub all : (line : SetLine) → Contains lines line → line.space ≡ child →
      (key : ClassKey) × Contains keys key × AreClassesOfSet is_right s a c line key
  pub only : (key : ClassKey) → Contains keys key → HasSetClasses is_right s child a c lines key

-- where two classes lead to with the dropped track fixed
abbrev pub fixed_spot : Table → ℕ → Bool → ℕ → ℕ → Spot
fixed_spot a s bit k m = record { in_atoms = a.in_atoms; target = cell_by (space_in a s) k m; fixed = Some bit }

abbrev pub row_spots : Table → ℕ → Bool → List ℕ → ℕ → List Spot
row_spots a s bit rights k = map (fixed_spot a s bit k) rights

abbrev pub cells_of : Table → ℕ → Bool → List ℕ → List ℕ → List Spot
cells_of a s bit lefts rights = flat_map (row_spots a s bit rights) lefts

-- where two keys lead to: in the automaton, and in the part's without the dropped track and with it
abbrev pub set_spots_of : ℕ → Table → Table → ClassKey → ClassKey → List Spot
set_spots_of s a c l r = spot_in c s l.0 r.0 ∷ (cells_of a s false l.1 r.1 ++ cells_of a s true l.1 r.1)

-- the set of the later states goes to the first one
abbrev pub SetGoes : List NamedSet → ℕ → List ℕ → Type 0
SetGoes table s [] = ⊥
SetGoes table s (z ∷ xs) = SetGoesTo table s (Contains xs) z

abbrev pub AllSetsGo : List NamedSet → ℕ → List (List ℕ) → Type 0
AllSetsGo table s lists = (list : List ℕ) → Contains lists list → SetGoes table s list

-- with two sets of the child spaces the set of all steps of members, with and without the track, goes to the step of the
-- states that the two go to
abbrev pub SetsGoAlong : Spaces → Automaton ℕ → ℕ → List NamedSet → Automaton ℕ → ℕ → Type 0
SetsGoAlong g A t table C s =
    (l r : NamedSet) (label : Label) → Contains table l → Contains table r → l.space ≡ left g s → r.space ≡ right g s →
    SetGoesTo table s (IsStepOf A t s (Contains l.members) (Contains r.members) label) (C.step s l.state r.state label)
