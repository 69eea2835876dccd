-- What follows a place of the text, as it is kept while code is made, and what has been made so far.
use Rattle.std.specs.Prelude.{◌≡◌, ◌≤◌, None, List, ◌++◌}
use Rattle.store_exec.specs.declared.code.Item.{Item}
use Rattle.hoare_split.specs.declared.caller.Caller.{Caller}
use Rattle.hoare_triples.specs.declared.codes.Ending.{Ending}
use Rattle.hoare_triples.specs.declared.codes.Ending.TheVariants as ending
use Rattle.hoare_triples.specs.declared.reached.Reached.{Reached}
use Rattle.hoare_triples.specs.declared.rest.Rest.{Rest, Exit, Again, Then'}
use Rattle.hoare_split.specs.Flows.{Arrival, Flow, ends, after_items, first_of_each, points_in, cuts_in}
use Rattle.hoare_split.specs.Cuts.{at_assertion}
use Rattle.hoare_split.specs.Callers.{vars_of, statement_in, block_in}
use Rattle.hoare_split.specs.Triples.{exit_of}
use Rattle.hoare_triples.specs.Weights.{weight_behind, ending_weight}

-- ---- what follows

-- where it leads
abbrev pub flow_of : Caller → Rest → Flow
flow_of caller Exit = exit_of (vars_of caller) caller.proc.now
flow_of caller (Again place invariant) = ends (at_assertion place invariant.now)
flow_of caller (Then' block p after) = (block_in caller block.now).flow (flow_of caller after)

-- ---- what was reached

-- these arrivals were added, as far as their points weren't there
pub record Reaches (old new : Reached) (arrivals : List Arrival) : Type 0 where
  pub points : new.points ≡ old.points ++ points_in (first_of_each old.points arrivals)
  pub cuts : new.cuts ≡ old.cuts ++ cuts_in (first_of_each old.points arrivals)

-- ---- where items end

abbrev pub ending_flow : Caller → Ending → Flow
ending_flow caller ending.Exit = exit_of (vars_of caller) caller.proc.now
ending_flow caller (ending.Again place invariant) = ends (at_assertion place invariant.now)
ending_flow caller (ending.At s rest) = (statement_in caller s.now).flow (flow_of caller rest)

-- the statement at the end, if any, is a cut point or has one inside
abbrev pub IsCutEnding : Ending → Type 0
IsCutEnding ending.Exit = Unit {0}
IsCutEnding (ending.Again place invariant) = Unit {0}
IsCutEnding (ending.At s rest) = (caller : Caller) → (statement_in caller s.now).items ≡ None

-- these items were added, and what followed goes on where they end: at the exit, at a `while` that is met again, or at a statement
-- that is a cut point or has one inside
pub record GoesOn (before after : List Item) (rest : Rest) (ending : Ending) : Type 0 where
  pub own : List Item
  pub items : after ≡ before ++ own
  pub flow : (caller : Caller) → flow_of caller rest ≡ after_items own (ending_flow caller ending)
  pub cut : IsCutEnding ending
  pub lighter : ending_weight ending ≤ weight_behind rest

-- the same as far as code has come: what followed leads through these items to what is left
pub record IsGone (before after : List Item) (rest left : Rest) : Type 0 where
  pub own : List Item
  pub items : after ≡ before ++ own
  pub flow : (caller : Caller) → flow_of caller rest ≡ after_items own (flow_of caller left)
  pub lighter : weight_behind left ≤ weight_behind rest
