-- What is said of a store text in a triple.
use Rattle.std.proofs.Common.{◌≡◌, ◌∙◌, ◌+◌, ◌≤◌, ℕ, List, ◌∷◌, Option, Some, Ok, Err, Result, option_map, sym, ap, subst}
use Rattle.std.specs.Prelude.{slice_get, IfOk, IsSomeAnd}
use Rattle.store_core.specs.Tables.{TypeEntry, VarEntry}
use Rattle.store_core.specs.Stores.{StoreMap, Fits}
use Rattle.routing_walks.specs.declared.fault.WfFault.{WfFault}
use Rattle.routing_walks.specs.WellFormed.{IsWellFormed}
use Rattle.store_exec.specs.declared.fault.Fault.{Fault}
use Rattle.store_exec.specs.declared.triple.Triple.{Triple}
use Rattle.store_exec.specs.Failing.{StartHolds, Meets}
use Rattle.store_text.specs.declared.fault.StoreFault.{StoreFault}
use Rattle.store_text.specs.Lines.{lines_of}
use Rattle.store_text.specs.Reading.{read_text}
use Rattle.store_trace.specs.declared.event.Event.{Event}
use Rattle.store_trace.specs.Tracing.{TracesTriple}
use Rattle.pale_typed.specs.declared.typed.ProcEntry.{ProcEntry}
use Rattle.pale_typed.specs.TypedPrograms.{TypedProgram}
use Rattle.pale_starts.specs.Lines.{store_refused_line, not_well_formed_line, start_false_line}
use Rattle.pale_starts.specs.declared.begun.Begun.{Begun}
use Rattle.pale_starts.specs.declared.begun.Begun.TheVariants as begun
use Rattle.pale_starts.specs.Begins.{Begins}
use Rattle.pale_starts.proofs.BegunLemmas.{is_refused, is_ill, is_false, is_met}
use Rattle.pale_starts.proofs.NumberLemmas.{read_small}
use Rattle.pale_replay.specs.Replaying.{NamesTriple}
use Rattle.pale_trace.specs.declared.ending.Ending.{Ending}
use Rattle.pale_trace.specs.declared.ending.Ending.TheVariants as ending
use Rattle.pale_trace.specs.declared.ending.Trace.{Trace}
use Rattle.pale_trace.specs.Lines.{triple_ending, triple_text}
use Rattle.pale_trace.specs.Traces.{IsUnmet, not_well_formed, start_false, TripleSays, unmet, traced}
use Rattle.pale_trace.specs.Tracing.{of_triple, no_store, SaysOf, refused, triple}
use Rattle.pale_trace.proofs.TellingLemmas.{Says, by_words}

-- the text after the triple's line, whatever that is
abbrev pub SaysOfText : TypedProgram → List Triple → Triple → List ℕ → Trace → Type 0
SaysOfText program triples t text r = (first : List ℕ) → (e : ProcEntry) → NamesTriple program triples first t e →
    SaysOf program triples (first ∷ lines_of text) r.ending r.text

-- the types of the program, and the variables of the triple's procedure
module _ (program : TypedProgram) (t : Triple) (types : List TypeEntry) (vars : List VarEntry) (types_are : types ≡ program.types)
    (vars_are : Some vars ≡ option_map (λ (e : ProcEntry). e.vars) (slice_get program.procs t.proc)) where
  own : (e : ProcEntry) → slice_get program.procs t.proc ≡ Some e → e.vars ≡ vars
  own e there = let same : Some vars ≡ Some e.vars = vars_are ∙ ap (option_map (λ (x : ProcEntry). x.vars)) there in cc

  own_types : (e : ProcEntry) → slice_get program.procs t.proc ≡ Some e → (P : List TypeEntry → List VarEntry → Type 0) → P types vars →
      P program.types e.vars
  own_types e there P p = subst (λ (ts : List TypeEntry). P ts e.vars) types_are (subst (λ (vs : List VarEntry). P types vs) (sym (own e there)) p)

  -- the store where it stands is one of its procedure
  pub stands_fit : (at : StoreMap) → Fits types vars at → (e : ProcEntry) → slice_get program.procs t.proc ≡ Some e →
      IsSomeAnd (slice_get program.procs t.proc) (λ e. Fits program.types e.vars at)
  stands_fit at fits e there =
      subst (λ (o : Option ProcEntry). IsSomeAnd o (λ e. Fits program.types e.vars at)) (sym there) (own_types e there (λ ts vs. Fits ts vs at) fits)

  module _ (triples : List Triple) (text : List ℕ) where
    -- it spells a store, of which this is said
    says_store : {E : Type 0} (s : StoreMap) (how : Ending) (written : List ℕ) → read_text types vars (lines_of text) ≡ Ok s →
        ((e : ProcEntry) → slice_get program.procs t.proc ≡ Some e → TripleSays program t e s how written) → (r : Result Trace E) →
        IfOk r (Says how written) → IfOk r (SaysOfText program triples t text)
    says_store s how written read told (Err e) says = tt
    says_store s how written read told (Ok r) says = λ first e names.
        by_words (SaysOf program triples (first ∷ lines_of text)) how written r says
        (triple first (lines_of text) t e s how written names (own_types e names.entry (λ ts vs. read_text ts vs (lines_of text) ≡ Ok s) read)
        (told e names.entry))

    -- by what came of it at the triple's start
    module _ (b : Begun) (begun_so : Begins types vars t.start (lines_of text) b) where
      pub says_unread : {E : Type 0} (fault : StoreFault) → b ≡ begun.Refused fault → (n : ℕ) → n ≡ fault.line → (r : Result Trace E) →
          IfOk r (Says (ending.StoreRefused (n + 1) fault.kind) (store_refused_line (n + 1) fault.kind)) → IfOk r (SaysOfText program triples t text)
      says_unread fault is n same (Err e) says = tt
      says_unread fault is n same (Ok r) says = λ first e names.
          let read = own_types e names.entry (λ ts vs. read_text ts vs (lines_of text) ≡ Err fault)
          (is_refused types vars t.start (lines_of text) b begun_so fault is) in
          by_words (SaysOf program triples (first ∷ lines_of text)) (ending.StoreRefused (n + 1) fault.kind) (store_refused_line (n + 1) fault.kind) r says
          (subst (λ (k : ℕ). SaysOf program triples (first ∷ lines_of text) (ending.StoreRefused (k + 1) fault.kind) (store_refused_line (k + 1) fault.kind))
          (sym same) (refused (first ∷ lines_of text) (fault.line + 1) fault.kind (no_store first (lines_of text) e fault (of_triple t names) read)))

      unmet_so : (s : StoreMap) (how : Ending) (written : List ℕ) → IsUnmet types vars s (StartHolds types vars t.start s) how written → (e : ProcEntry) →
          slice_get program.procs t.proc ≡ Some e → TripleSays program t e s how written
      unmet_so s how written is e there =
          unmet how written (own_types e there (λ ts vs. IsUnmet ts vs s (StartHolds ts vs t.start s) how written) is)

      pub says_ill : {E : Type 0} (wrong : WfFault) → b ≡ begun.NotWellFormed wrong → (r : Result Trace E) →
          IfOk r (Says (ending.NotWellFormed wrong) (not_well_formed_line types vars wrong)) → IfOk r (SaysOfText program triples t text)
      says_ill wrong is =
          let (s, read, first) = is_ill types vars t.start (lines_of text) b begun_so wrong is in
          says_store s (ending.NotWellFormed wrong) (not_well_formed_line types vars wrong) read
          (unmet_so s (ending.NotWellFormed wrong) (not_well_formed_line types vars wrong) (not_well_formed wrong first))

      pub says_false : {E : Type 0} → b ≡ begun.StartFalse → (r : Result Trace E) → IfOk r (Says ending.StartFalse start_false_line) →
          IfOk r (SaysOfText program triples t text)
      says_false is =
          let (s, read, well, other) = is_false types vars t.start (lines_of text) b begun_so is in
          says_store s ending.StartFalse start_false_line read (unmet_so s ending.StartFalse start_false_line (start_false well other))

      -- the store that met it
      module _ (s : StoreMap) (is : b ≡ begun.Meets s) where
        met : (read_text types vars (lines_of text) ≡ Ok s) × IsWellFormed types vars s × StartHolds types vars t.start s
        met = is_met types vars t.start (lines_of text) b begun_so s is

        pub meets_so : Meets types vars t s
        meets_so = let (read, well, holds) = met in record { well_formed = well; start = holds }

        pub small_so : s.next ≤ 1000001
        small_so = read_small types vars (lines_of text) s met.0

        pub says_met : {E : Type 0} (shown : List Event) (at : StoreMap) (end : Result ℕ Fault) → TracesTriple types vars t s shown at end →
            (r : Result Trace E) → IfOk r (Says (triple_ending end) (triple_text program t shown at end)) → IfOk r (SaysOfText program triples t text)
        says_met shown at end traces = says_store s (triple_ending end) (triple_text program t shown at end) met.0 (λ e there.
            traced shown at end (own_types e there (λ ts vs. Meets ts vs t s) meets_so)
            (own_types e there (λ ts vs. TracesTriple ts vs t s shown at end) traces))
