-- How far the walk over a code has come. (Møller and Schwartzbach, PLDI 2001: the store after code as formulas on the store before
-- it.)
use Rattle.std.specs.Prelude.{ℕ, ◌+◌, List, [], ◌∷◌, ◌++◌, length, slice_get, slice_set, unwrap_or, Option, None}
use Rattle.store_core.specs.declared.ids.VarId.{VarId}
use Rattle.store_core.specs.Tables.{TypeEntry, VarEntry}
use Rattle.store_exec.specs.declared.cause.Cause.{Cause}
use Rattle.ws2s_core.specs.declared.track.Track.{Track}
use Rattle.ws2s_core.specs.declared.formula.Formula.{Formula}
use Rattle.ws2s_core.specs.declared.formula.Formula.TheVariants.{And, Not, Root}
use Rattle.ws2s_forms.specs.Forms.{track, or, empty_at}
use Rattle.tree_encode.specs.Tracks.{track_count}
use Rattle.graph_view.specs.declared.view.Sym.{Sym}
use Rattle.graph_view.specs.declared.view.Sym.TheVariants.{Null, At}
use Rattle.graph_view.specs.declared.view.Event.{Event}
use Rattle.graph_view.specs.Sights.{var_slots}
use Rattle.graph_view.specs.Sights.{Sight}
use Rattle.graph_view.specs.Syms as syms

-- a formula by the first track that its quantifiers bind
abbrev pub Text : Type 0
Text = ℕ → Formula

-- a place where a cause can come: it comes where the place is reached and the condition holds there
pub record Check : Type 0 where
  pub cause : Cause
  pub line : ℕ
  pub reached : Text
  pub condition : Text

-- what the code before a place has led to
pub record State : Type 0 where
  -- where the statement is reached: always, or where the root is on this track
  pub guard : Option Track
  -- what stands for the variables, in order
  pub values : List Sym
  -- the changes of the heap, the last one first
  pub events : List Event
  -- how many `new` stand before, in all codes
  pub news : ℕ
  -- what defines each track that was made, in the order of making
  pub defined : List Text
  -- the places that were passed
  pub checks : List Check

-- ---- tracks that are made

-- the track that is made next: those of the layout stand before
abbrev pub next_track : List TypeEntry → List VarEntry → State → ℕ
next_track types vars s = track_count types vars + length s.defined

-- one track more, with what defines it
abbrev pub define : Text → State → State
define text s = record s { defined = s.defined ++ text ∷ [] }

-- a value, and how far the walk has come then
abbrev pub Got : Type 0
Got = Sym × State

-- a track more as a value, by what defines the track with a number
abbrev pub make : List TypeEntry → List VarEntry → (ℕ → Text) → State → Got
make types vars text s = (At (track (next_track types vars s)), define (text (next_track types vars s)) s)

-- the track is the root where this holds, and else it is empty
abbrev pub is_truth_of : Text → ℕ → Text
is_truth_of text h next = or (And (Root (track h)) (text next)) (And (empty_at next h) (Not (text next)))

-- ---- places

abbrev pub check : ℕ → Text → Cause → Text → State → State
check line reached why condition s =
    record s { checks = s.checks ++ record { cause = why; line = line; reached = reached; condition = condition } ∷ [] }

-- ---- guards

abbrev pub guard : State → Text
guard s next = syms.guard next s.guard

-- both hold
abbrev pub both : Text → Text → Text
both one other next = And (one next) (other next)

abbrev pub fails : Text → Text
fails text next = Not (text next)

-- ---- the store there

-- its cells, all of them
abbrev pub sight : List VarEntry → State → Sight
sight vars s = record { slots = var_slots vars; events = s.events; region = None }

-- what stands for a variable
abbrev pub value_of : List Sym → VarId → Sym
value_of values v = unwrap_or (slice_get values v.0) Null

abbrev pub with_value : VarId → Got → State
with_value v got = record (got.1) { values = slice_set (got.1).values v.0 (got.0) }

-- a change of the heap more
abbrev pub happens : Event → State → State
happens e s = record s { events = e ∷ s.events }
