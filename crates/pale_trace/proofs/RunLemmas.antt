-- What is said of a store text in the run of a procedure.
use Rattle.std.proofs.Common.{◌≡◌, ◌∙◌, ◌+◌, ◌≤◌, ℕ, List, ◌∷◌, Some, Ok, Err, Result, option_map, sym, ap, subst}
use Rattle.std.specs.Prelude.{slice_get, IfOk}
use Rattle.store_core.specs.Tables.{TypeEntry, VarEntry}
use Rattle.store_core.specs.Stores.{StoreMap}
use Rattle.routing_walks.specs.declared.fault.WfFault.{WfFault}
use Rattle.routing_walks.specs.WellFormed.{IsWellFormed}
use Rattle.store_exec.specs.declared.triple.Triple.{Triple}
use Rattle.store_exec.specs.Failing.{StartHolds}
use Rattle.store_text.specs.declared.fault.StoreFault.{StoreFault}
use Rattle.store_text.specs.Lines.{lines_of}
use Rattle.store_text.specs.Reading.{read_text}
use Rattle.store_trace.specs.declared.event.Event.{Event}
use Rattle.pale_typed.specs.declared.typed.ProcEntry.{ProcEntry}
use Rattle.pale_typed.specs.TypedPrograms.{TypedProgram}
use Rattle.hoare_split.specs.Starts.{entry_start}
use Rattle.whole_run.specs.States.{Answer}
use Rattle.whole_trace.specs.Traces.{Stand, TracedRun}
use Rattle.whole_exec.specs.Starting.{CanStart}
use Rattle.pale_starts.specs.Lines.{store_refused_line, not_well_formed_line, start_false_line}
use Rattle.pale_starts.specs.declared.begun.Begun.{Begun}
use Rattle.pale_starts.specs.declared.begun.Begun.TheVariants as begun
use Rattle.pale_starts.specs.Begins.{Begins}
use Rattle.pale_starts.proofs.BegunLemmas.{is_refused, is_ill, is_false, is_met}
use Rattle.pale_starts.proofs.NumberLemmas.{read_small}
use Rattle.pale_run.specs.Running.{NamesRun}
use Rattle.pale_run.proofs.EntryLemmas.{meets_entry, entry_holds, can_start}
use Rattle.pale_trace.specs.declared.ending.Ending.{Ending}
use Rattle.pale_trace.specs.declared.ending.Ending.TheVariants as ending
use Rattle.pale_trace.specs.declared.ending.Trace.{Trace}
use Rattle.pale_trace.specs.Lines.{run_ending, run_text}
use Rattle.pale_trace.specs.Traces.{not_well_formed, start_false, RunSays, unmet, traced}
use Rattle.pale_trace.specs.Tracing.{of_run, no_store, SaysOf, refused, run}
use Rattle.pale_trace.proofs.TellingLemmas.{Says, by_words}

-- the text after the line that names the run, whatever that is
abbrev pub SaysOfText : TypedProgram → ℕ → ℕ → List ℕ → Trace → Type 0
SaysOfText program number steps text r = (triples : List Triple) (first : List ℕ) → (e : ProcEntry) → NamesRun program first number steps e →
    SaysOf program triples (first ∷ lines_of text) r.ending r.text

-- what came of a store text at the entry of a procedure
abbrev pub BeginsAt : TypedProgram → ℕ → List ℕ → Begun → Type 0
BeginsAt program number text b = (e : ProcEntry) → slice_get program.procs number ≡ Some e →
    Begins program.types e.vars (entry_start e.vars e.proc) (lines_of text) b

module _ (program : TypedProgram) (number steps : ℕ) (text : List ℕ) (b : Begun) (begun_so : BeginsAt program number text b) where
  -- the store that the text spells, and what is said of it
  record Told (e : ProcEntry) (how : Ending) (written : List ℕ) : Type 0 where
    of_store : StoreMap
    read : read_text program.types e.vars (lines_of text) ≡ Ok of_store
    says : RunSays program number steps e of_store how written

  says_store : {E : Type 0} (how : Ending) (written : List ℕ) → ((e : ProcEntry) → slice_get program.procs number ≡ Some e → Told e how written) →
      (r : Result Trace E) → IfOk r (Says how written) → IfOk r (SaysOfText program number steps text)
  says_store how written told (Err x) says = tt
  says_store how written told (Ok r) says = λ triples first e names.
      let c = told e names.entry in
      by_words (SaysOf program triples (first ∷ lines_of text)) how written r says
      (run first (lines_of text) number steps e c.of_store how written names c.read c.says)

  pub says_unread : {E : Type 0} (fault : StoreFault) → b ≡ begun.Refused fault → (n : ℕ) → n ≡ fault.line → (r : Result Trace E) →
      IfOk r (Says (ending.StoreRefused (n + 1) fault.kind) (store_refused_line (n + 1) fault.kind)) → IfOk r (SaysOfText program number steps text)
  says_unread fault is n same (Err x) says = tt
  says_unread fault is n same (Ok r) says = λ triples first e names.
      let read = is_refused program.types e.vars (entry_start e.vars e.proc) (lines_of text) b (begun_so e names.entry) fault is in
      by_words (SaysOf program triples (first ∷ lines_of text)) (ending.StoreRefused (n + 1) fault.kind) (store_refused_line (n + 1) fault.kind) r says
      (subst (λ (k : ℕ). SaysOf program triples (first ∷ lines_of text) (ending.StoreRefused (k + 1) fault.kind) (store_refused_line (k + 1) fault.kind))
      (sym same) (refused (first ∷ lines_of text) (fault.line + 1) fault.kind (no_store first (lines_of text) e fault (of_run number steps names) read)))

  pub says_false : {E : Type 0} → b ≡ begun.StartFalse → (r : Result Trace E) → IfOk r (Says ending.StartFalse start_false_line) →
      IfOk r (SaysOfText program number steps text)
  says_false is = says_store ending.StartFalse start_false_line (λ e there.
      let (s, read, well, other) = is_false program.types e.vars (entry_start e.vars e.proc) (lines_of text) b (begun_so e there) is in
      record {
        of_store = s;
        read = read;
        says = unmet ending.StartFalse start_false_line (start_false well (λ meets. other (entry_holds program number e there s meets)));
      })

  -- the types of the program, and the variables of the procedure
  module _ (types : List TypeEntry) (vars : List VarEntry) (types_are : types ≡ program.types)
      (vars_are : Some vars ≡ option_map (λ (e : ProcEntry). e.vars) (slice_get program.procs number)) where
    own : (e : ProcEntry) → slice_get program.procs number ≡ Some e → e.vars ≡ vars
    own e there = let same : Some vars ≡ Some e.vars = vars_are ∙ ap (option_map (λ (x : ProcEntry). x.vars)) there in cc

    line_is : (e : ProcEntry) → slice_get program.procs number ≡ Some e → (wrong : WfFault) →
        not_well_formed_line program.types e.vars wrong ≡ not_well_formed_line types vars wrong
    line_is e there wrong =
        ap (λ (vs : List VarEntry). not_well_formed_line program.types vs wrong) (own e there)
        ∙ ap (λ (ts : List TypeEntry). not_well_formed_line ts vars wrong) (sym types_are)

    pub says_ill : {E : Type 0} (wrong : WfFault) → b ≡ begun.NotWellFormed wrong → (r : Result Trace E) →
        IfOk r (Says (ending.NotWellFormed wrong) (not_well_formed_line types vars wrong)) → IfOk r (SaysOfText program number steps text)
    says_ill wrong is = says_store (ending.NotWellFormed wrong) (not_well_formed_line types vars wrong) (λ e there.
        let (s, read, first) = is_ill program.types e.vars (entry_start e.vars e.proc) (lines_of text) b (begun_so e there) wrong is in
        record {
          of_store = s;
          read = read;
          says = subst (RunSays program number steps e s (ending.NotWellFormed wrong)) (line_is e there wrong)
              (unmet (ending.NotWellFormed wrong) (not_well_formed_line program.types e.vars wrong) (not_well_formed wrong first));
        })

  -- the store that met the entry
  module _ (s : StoreMap) (is : b ≡ begun.Meets s) where
    met : (e : ProcEntry) → slice_get program.procs number ≡ Some e →
        (read_text program.types e.vars (lines_of text) ≡ Ok s) × IsWellFormed program.types e.vars s
        × StartHolds program.types e.vars (entry_start e.vars e.proc) s
    met e there = is_met program.types e.vars (entry_start e.vars e.proc) (lines_of text) b (begun_so e there) s is

    pub can_run : (e : ProcEntry) → slice_get program.procs number ≡ Some e → steps ≤ 100000 → CanStart program number s steps
    can_run e there few =
        let (read, well, holds) = met e there in
        can_start program number e there s steps well (read_small program.types e.vars (lines_of text) s read) few

    pub says_met : {E : Type 0} (shown : List Event) (stand : Stand) (a : Answer) → TracedRun program number s steps shown stand a → (r : Result Trace E) →
        IfOk r (Says (run_ending a) (run_text program number shown stand a)) → IfOk r (SaysOfText program number steps text)
    says_met shown stand a traces = says_store (run_ending a) (run_text program number shown stand a) (λ e there.
        let (read, well, holds) = met e there in
        record { of_store = s; read = read; says = traced shown stand a (meets_entry program number e there s well holds) traces })
