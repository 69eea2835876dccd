-- Where a procedure leads from a place of its text up to the next cuts, and the code of that.
use Rattle.std.specs.Prelude.{ℕ, ◌==◌, ◌&&◌, Bool, true, false, List, [], ◌∷◌, ◌++◌, map, if◌then◌else◌}
use Rattle.std.specs.List.{list_any, position_or_len}
use Rattle.store_logic.specs.declared.cond.Cond.{Cond}
use Rattle.store_exec.specs.declared.code.Item.{Item}
use Rattle.store_exec.specs.declared.code.Tail.TheVariants as tail
use Rattle.store_exec.specs.declared.code.Code.{Code, out-Code, roll-Code}
use Rattle.store_exec.specs.declared.triple.Cut.{Cut}
use Rattle.hoare_split.specs.declared.point.Point.{Point}
use Rattle.hoare_split.specs.declared.point.Point.TheVariants as point

-- ---- flows

-- a cut point at which code ends, and what is checked there
pub record Arrival : Type 0 where
  pub point : Point
  pub cut : Cut

-- a cut; an item, and what follows it; or a condition, with its line, and what follows in either case
pub data Flow : Type 0 where
  ends : Arrival → Flow
  does : Item → Flow → Flow
  branches : ℕ → Cond → Flow → Flow → Flow

-- items, and then what follows them
abbrev pub after_items : List Item → Flow → Flow
after_items [] rest = rest
after_items (i ∷ items) rest = does i (after_items items rest)

-- ---- the cuts

-- one cut point of the text is known by its place
abbrev pub is_point : Point → Point → Bool
is_point (point.At p) (point.At q) = (p.line == q.line) && (p.column == q.column)
is_point (point.At p) point.Exit = false
is_point point.Exit (point.At q) = false
is_point point.Exit point.Exit = true

abbrev pub is_among : Point → List Point → Bool
is_among p points = list_any (λ q. is_point q p) points

-- the cuts at which it ends, from the left
abbrev pub arrivals_of : Flow → List Arrival
arrivals_of (ends a) = a ∷ []
arrivals_of (does i rest) = arrivals_of rest
arrivals_of (branches line c taken other) = arrivals_of taken ++ arrivals_of other

-- those at points that aren't among these, each point once
abbrev pub first_of_each : List Point → List Arrival → List Arrival
first_of_each before [] = []
first_of_each before (a ∷ arrivals) =
    if is_among a.point before then first_of_each before arrivals else a ∷ first_of_each (before ++ a.point ∷ []) arrivals

-- the cuts that it reaches, in the order in which it first reaches them, each once
abbrev pub reached_by : Flow → List Arrival
reached_by flow = first_of_each [] (arrivals_of flow)

abbrev pub points_in : List Arrival → List Point
points_in arrivals = map (λ a. a.point) arrivals

abbrev pub cuts_in : List Arrival → List Cut
cuts_in arrivals = map (λ a. a.cut) arrivals

abbrev pub cuts_of : Flow → List Cut
cuts_of flow = cuts_in (reached_by flow)

-- ---- the code

-- the place of a point among those of the cuts, counted from 0
abbrev pub place_among : List Point → Point → ℕ
place_among points p = position_or_len (λ q. is_point q p) points

-- a code behind one item more
abbrev pub behind : Item → Code → Code
behind i code = roll-Code (record { items = i ∷ (out-Code code).items; tail = (out-Code code).tail })

-- the code, where the triple's cuts are at these points
abbrev pub code_in : List Point → Flow → Code
code_in points (ends a) = roll-Code (record { items = []; tail = tail.Cut (place_among points a.point) })
code_in points (does i rest) = behind i (code_in points rest)
code_in points (branches line c taken other) = roll-Code (record { items = []; tail = tail.Branch line c (code_in points taken) (code_in points other) })

abbrev pub code_of : Flow → Code
code_of flow = code_in (points_in (reached_by flow)) flow
