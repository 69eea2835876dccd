-- What comes of a store in a triple. (Møller and Schwartzbach, PLDI 2001.)
use Rattle.std.specs.Prelude.{◌≡◌, ℕ, List, Some, None, slice_get}
use Rattle.store_core.specs.Tables.{TypeEntry, VarEntry}
use Rattle.store_core.specs.Stores.{StoreMap}
use Rattle.routing_walks.specs.declared.fault.WfFault.{WfFault}
use Rattle.routing_walks.specs.WellFormed.{IsWellFormed, IsFirstFault}
use Rattle.store_exec.specs.declared.cause.Cause.{Cause}
use Rattle.store_exec.specs.declared.outcome.Outcome.TheVariants as outcome
use Rattle.store_exec.specs.declared.triple.Cut.{Cut}
use Rattle.store_exec.specs.declared.triple.Triple.{Triple}
use Rattle.store_exec.specs.Runs.{RunsCode}
use Rattle.store_exec.specs.Cuts.{AtCut}
use Rattle.store_exec.specs.Failing.{StartHolds, Meets, Fails}
use Rattle.pale_replay.specs.declared.answer.Answer.{Answer}
use Rattle.pale_replay.specs.declared.answer.Answer.TheVariants as answer

-- the code ends at the cut with this line, and nothing is wrong there
pub record EndsAt (types : List TypeEntry) (vars : List VarEntry) (t : Triple) (s : StoreMap) (line : ℕ) : Type 0 where
  pub place : ℕ
  pub cut : Cut
  pub store : StoreMap
  pub ends : RunsCode types t.code s (outcome.End place store)
  pub there : slice_get t.cuts place ≡ Some cut
  pub sound : AtCut types vars cut store None
  pub at_line : cut.line ≡ line

-- the store isn't well-formed; it is and doesn't meet the triple's start; it meets the triple and fails; or it meets the triple and
-- ends at a cut
pub data Replays (types : List TypeEntry) (vars : List VarEntry) (t : Triple) (s : StoreMap) : Answer → Type 0 where
  not_well_formed : (wrong : WfFault) → IsFirstFault types vars s wrong → Replays types vars t s (answer.NotWellFormed wrong)
  start_false : IsWellFormed types vars s → (StartHolds types vars t.start s → ⊥) → Replays types vars t s answer.StartFalse
  fails : (why : Cause) (line : ℕ) → Meets types vars t s → Fails types vars t s why line → Replays types vars t s (answer.Fails why line)
  ends : (line : ℕ) → Meets types vars t s → EndsAt types vars t s line → Replays types vars t s (answer.Ends line)
