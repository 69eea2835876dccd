-- What comes of a store in the run of a procedure. (Møller and Schwartzbach, PLDI 2001.)
use Rattle.std.specs.Prelude.{ℕ}
use Rattle.store_core.specs.Stores.{StoreMap}
use Rattle.routing_walks.specs.declared.fault.WfFault.{WfFault}
use Rattle.routing_walks.specs.WellFormed.{IsWellFormed, IsFirstFault}
use Rattle.pale_typed.specs.declared.typed.ProcEntry.{ProcEntry}
use Rattle.pale_typed.specs.TypedPrograms.{TypedProgram}
use Rattle.whole_run.specs.Runs.{WholeRun}
use Rattle.whole_run.specs.Safety.{MeetsEntry}
use Rattle.whole_exec.specs.declared.answer.Answer as whole
use Rattle.whole_exec.specs.Answers.{answer_of}
use Rattle.pale_run.specs.declared.answer.Answer.{Answer}
use Rattle.pale_run.specs.declared.answer.Answer.TheVariants as answer

-- the store isn't well-formed; it is and doesn't meet the triple that starts at the procedure's entry; or it meets that, and the whole run
-- of the procedure, for so many steps at most, has this answer
pub data RunsFrom (program : TypedProgram) (number steps : ℕ) (e : ProcEntry) (s : StoreMap) : Answer → Type 0 where
  not_well_formed : (wrong : WfFault) → IsFirstFault program.types e.vars s wrong → RunsFrom program number steps e s (answer.NotWellFormed wrong)
  start_false : IsWellFormed program.types e.vars s → (MeetsEntry program number s → ⊥) → RunsFrom program number steps e s answer.StartFalse
  ran : (a : whole.Answer) → MeetsEntry program number s → WholeRun program number s steps (answer_of a) → RunsFrom program number steps e s (answer.Ran a)
