-- The text that is written of a run. Each line ends with LF.
use Rattle.std.specs.Prelude.{List, ℕ, ◌++◌, codes}
use Rattle.store_core.specs.Tables.{TypeEntry, VarEntry}
use Rattle.store_core.specs.Stores.{Fits}
use Rattle.store_text.specs.StoreText.{store_text_of}
use Rattle.whole_exec.specs.declared.answer.Answer as whole
use Rattle.whole_exec.specs.declared.answer.Answer.TheVariants as ran
use Rattle.pale_starts.specs.Lines.{store_refused_line, not_well_formed_line, start_false_line, fail_line}
use Rattle.pale_run.specs.declared.answer.Answer.{Answer}
use Rattle.pale_run.specs.declared.answer.Answer.TheVariants as answer

-- `running`; `fail CAUSE line M`; or `exit`, and then the store
abbrev pub ran_text : List TypeEntry → List VarEntry → whole.Answer → List ℕ
ran_text types vars ran.Running = codes "running\n"
ran_text types vars (ran.Fail why line) = fail_line why line
ran_text types vars (ran.Exit s) = codes "exit\n" ++ store_text_of types vars s

-- `store refused N KIND`, `not-well-formed FAULT`, `start condition false`, or what is written of the run's answer
abbrev pub text_of : List TypeEntry → List VarEntry → Answer → List ℕ
text_of types vars (answer.StoreRefused line kind) = store_refused_line line kind
text_of types vars (answer.NotWellFormed wrong) = not_well_formed_line types vars wrong
text_of types vars answer.StartFalse = start_false_line
text_of types vars (answer.Ran a) = ran_text types vars a

-- ---- what can be written

-- the store of an exit fits the tables
abbrev pub ExitFits : List TypeEntry → List VarEntry → whole.Answer → Type 0
ExitFits types vars ran.Running = Unit {0}
ExitFits types vars (ran.Fail why line) = Unit {0}
ExitFits types vars (ran.Exit s) = Fits types vars s

abbrev pub StoreFits : List TypeEntry → List VarEntry → Answer → Type 0
StoreFits types vars (answer.Ran a) = ExitFits types vars a
StoreFits types vars _ = Unit {0}
