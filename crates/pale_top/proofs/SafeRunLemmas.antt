-- Where no whole run of a program fails, `run` doesn't answer that one did.
use Rattle.std.proofs.Common.{◌≡◌, ℕ, List, Option, Some, None, subst}
use Rattle.std.specs.Prelude.{IfSome}
use Rattle.store_core.specs.Stores.{StoreMap}
use Rattle.store_exec.specs.declared.triple.Triple.{Triple}
use Rattle.store_text.specs.Lines.{lines_of}
use Rattle.pale_typed.specs.declared.typed.ProcEntry.{ProcEntry}
use Rattle.pale_typed.specs.TypedPrograms.{TypedProgram}
use Rattle.whole_program.specs.ProgramTexts.{IsReadAs}
use Rattle.whole_run.specs.Runs.{WholeRun}
use Rattle.whole_run.specs.Safety.{MeetsEntry}
use Rattle.whole_exec.specs.declared.answer.Answer as whole
use Rattle.whole_exec.specs.declared.answer.Answer.TheVariants as outcome
use Rattle.whole_exec.specs.Answers.{answer_of}
use Rattle.pale_parts.specs.Parts.{IsCutAs}
use Rattle.pale_run.specs.declared.answer.Answer.{Answer}
use Rattle.pale_run.specs.Runs.{RunsFrom, not_well_formed, start_false, ran}
use Rattle.pale_run.specs.Running.{SaysOf, refused, store, IsRunOf, uncut, cut}
use Rattle.pale_words.specs.declared.words.Mode.TheVariants.{Run}
use Rattle.pale_words.specs.Words.{AsksFor}
use Rattle.pale_status.specs.declared.status.Status.{Status}
use Rattle.pale_status.specs.declared.status.Status.TheVariants.{Bad}
use Rattle.pale_modes.specs.Running.{Runs, status_of, status_of_ran}
use Rattle.pale_modes.specs.Running as running
use Rattle.pale_modes.proofs.CutLemmas.{one_cut}
use Rattle.program_promises.specs.Safety.{RunsNeverFail, IsSafe}
use Rattle.pale_top.specs.Output.{CallOutput}
use Rattle.pale_top.proofs.CompletingLemmas.{call_of}

module _ (program : TypedProgram) (safe : RunsNeverFail program) where
  safe_answer : (number : ℕ) (s : StoreMap) (steps : ℕ) (a : whole.Answer) → MeetsEntry program number s → WholeRun program number s steps (answer_of a) →
      status_of_ran a ≡ Bad → ⊥
  safe_answer number s steps outcome.Running meets runs is = absurd (cc)
  safe_answer number s steps (outcome.Fail why line) meets runs is = safe number s steps why line meets runs
  safe_answer number s steps (outcome.Exit t) meets runs is = absurd (cc)

  safe_from : (number steps : ℕ) (e : ProcEntry) (s : StoreMap) (a : Answer) → RunsFrom program number steps e s a → status_of a ≡ Bad → ⊥
  safe_from number steps e s _ (not_well_formed wrong first) is = absurd (cc)
  safe_from number steps e s _ (start_false well other) is = absurd (cc)
  safe_from number steps e s _ (ran a meets runs) is = safe_answer number s steps a meets runs is

  safe_says : (lines : List (List ℕ)) (a : Answer) (written : List ℕ) → SaysOf program lines a written → status_of a ≡ Bad → ⊥
  safe_says _ _ _ (refused lines n kind wrong) is = absurd (cc)
  safe_says _ _ _ (store first lines number steps e s a names read comes) is = safe_from number steps e s a comes is

module _ (one : (text : List ℕ) (program other : TypedProgram) (triples others : List Triple) → IsReadAs text program triples →
    IsReadAs text other others → (program ≡ other) × (triples ≡ others)) (text part after : List ℕ) (at : IsCutAs text part after) (safe : IsSafe part) where
  safe_run : (a : Answer) (written : List ℕ) → IsRunOf text a written → status_of a ≡ Bad → ⊥
  safe_run _ _ (uncut program triples none read) is = absurd (cc)
  safe_run _ _ (cut front behind program triples a written again read says) is =
      let parts = one_cut text front part behind after again at in
      let here = subst (λ (p : List ℕ). IsReadAs p program triples) parts.0 read in
      let same = one part program safe.program triples safe.triples here safe.read in
      safe_says safe.program safe.safe (lines_of behind) a written (subst (λ (p : TypedProgram). SaysOf p (lines_of behind) a written) same.0 says) is

  safe_runs : (output : List ℕ) (status : Status) → Runs text output status → status ≡ Bad → ⊥
  safe_runs _ _ (running.too_long more) is = absurd (cc)
  safe_runs _ _ (running.refused refusal within stop) is = absurd (cc)
  safe_runs _ _ (running.run a written within says) is = safe_run a written says is

  pub safe_run_call : (words : List (List ℕ)) (output : List ℕ) (status : Status) → CallOutput words text output status → status ≡ Bad →
      AsksFor words Run → ⊥
  safe_run_call words output status out bad (settings, gives, asks) =
      safe_runs output status (call_of words text output status out settings gives Run asks) bad

pub told_safe_runs : (left : Option (List ℕ)) (text : List ℕ) → IfSome left (λ bytes. text ≡ bytes) →
    ((part after : List ℕ) → IsCutAs text part after → IsSafe part → ⊥) →
    IfSome left (λ bytes. (part after : List ℕ) → IsCutAs bytes part after → IsSafe part → ⊥)
told_safe_runs None text told safe = tt
told_safe_runs (Some bytes) text told safe = subst (λ (b : List ℕ). (part after : List ℕ) → IsCutAs b part after → IsSafe part → ⊥) told safe
