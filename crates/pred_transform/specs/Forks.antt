-- What is kept while the ways of an `if` are walked over, and what is put in its place where a way begins.
use Rattle.std.specs.Prelude.{◌≡◌, ℕ, List, reverse, Option}
use Rattle.ws2s_core.specs.declared.track.Track.{Track}
use Rattle.ws2s_forms.specs.Forms.{track}
use Rattle.graph_view.specs.declared.view.Sym.{Sym}
use Rattle.graph_view.specs.declared.view.Event.{Event}
use Rattle.site_list.specs.States.{State}
use Rattle.symbolic_steps.specs.declared.walker.Walker.{Walker}
use Rattle.pred_transform.specs.declared.codes.Fork.{Fork}

-- the fork keeps what the state before both ways has, where h is the track of the first way
pub record IsFork (fork : Fork) (before : State) (h : ℕ) : Type 0 where
  pub way : fork.way ≡ track h
  pub guard : fork.guard ≡ before.guard
  pub values : fork.values ≡ before.values
  pub events : fork.events ≡ reverse before.events

-- another guard
abbrev pub with_guard : Option Track → Walker → Walker
with_guard guard w = record w { guard = guard }

-- other values of the variables
abbrev pub with_values : List Sym → Walker → Walker
with_values values w = record w { view = record w.view { vars = values } }

-- other changes of the heap before
abbrev pub with_events : List Event → Walker → Walker
with_events events w = record w { view = record w.view { events = events } }
