-- What is said of a store text in a procedure's run.
use Rattle.std.proofs.Common.{◌≡◌, ◌∙◌, ◌+◌, ◌≤◌, ◌==◌, ℕ, true, List, ◌∷◌, length, Option, Some, None, Ok, Err, option_map, refl, sym, ap, subst}
use Rattle.std.proofs.Common.{Result, IfSome, IfNone}
use Rattle.std.specs.Prelude.{slice_get, IfOk, IsSomeAnd}
use Rattle.std.specs.Borrow.{Bor}
use Rattle.store_core.specs.Tables.{TypeEntry, VarEntry}
use Rattle.store_core.specs.Stores.{StoreMap, Fits}
use Rattle.routing_walks.specs.declared.fault.WfFault.{WfFault}
use Rattle.routing_walks.specs.WellFormed.{IsWellFormed}
use Rattle.store_exec.specs.declared.triple.Triple.{Triple}
use Rattle.store_exec.specs.Failing.{StartHolds}
use Rattle.store_text.specs.declared.fault.StoreFault.{StoreFault}
use Rattle.store_text.specs.declared.fault.StoreKind.{StoreKind}
use Rattle.store_text.specs.declared.fault.StoreKind.TheVariants.{Missing}
use Rattle.store_text.specs.Lines.{lines_of}
use Rattle.store_text.specs.Reading.{read_text}
use Rattle.pale_typed.specs.declared.typed.ProcEntry.{ProcEntry}
use Rattle.pale_typed.specs.TypedPrograms.{TypedProgram}
use Rattle.hoare_split.specs.Starts.{entry_start}
use Rattle.whole_program.specs.ProgramTexts.{IsReadAs}
use Rattle.whole_run.specs.Runs.{WholeRun}
use Rattle.whole_exec.specs.declared.answer.Answer as whole
use Rattle.whole_exec.specs.declared.answer.Answer.TheVariants as outcome
use Rattle.whole_exec.specs.Answers.{answer_of}
use Rattle.whole_exec.specs.Starting.{CanStart}
use Rattle.pale_parts.specs.Parts.{IsCutAs, HasNoCut}
use Rattle.pale_starts.specs.declared.begun.Begun.{Begun}
use Rattle.pale_starts.specs.declared.begun.Begun.TheVariants as begun
use Rattle.pale_starts.specs.Begins.{Begins}
use Rattle.pale_starts.specs.Lines.{store_refused_line}
use Rattle.pale_starts.proofs.BegunLemmas.{is_refused, is_ill, is_false, is_met}
use Rattle.pale_starts.proofs.NumberLemmas.{read_small}
use Rattle.pale_starts.proofs.PartLemmas.{no_lines}
use Rattle.pale_run.specs.declared.answer.Answer.{Answer}
use Rattle.pale_run.specs.declared.answer.Answer.TheVariants as answer
use Rattle.pale_run.specs.declared.answer.Run.{Run}
use Rattle.pale_run.specs.Lines.{text_of, ExitFits}
use Rattle.pale_run.specs.Runs.{RunsFrom, not_well_formed, start_false, ran}
use Rattle.pale_run.specs.Running.{NamesRun, NamesNoRun, IsRefusedAt, nothing, no_run, no_store, SaysOf, refused, store, IsRunOf, uncut, cut}
use Rattle.pale_run.proofs.EntryLemmas.{meets_entry, entry_holds, can_start}

-- a run says this answer in this text
abbrev pub Says : Answer → List ℕ → Run → Type 0
Says a written r = (r.answer ≡ a) × (r.text ≡ written)

-- what holds of an answer and its text holds of the run that says them
by_words : (P : Answer → List ℕ → Type 0) (a : Answer) (written : List ℕ) (r : Run) → Says a written r → P a written → P r.answer r.text
by_words P a written r says p = subst (λ (b : Answer). P b r.text) (sym says.0) (subst (P a) (sym says.1) p)

-- what is said of lines that are refused
pub says_refused : {E : Type 0} (program : TypedProgram) (lines : List (List ℕ)) (n : ℕ) (kind : StoreKind) → IsRefusedAt program lines n kind →
    (r : Result Run E) → IfOk r (Says (answer.StoreRefused n kind) (store_refused_line n kind)) → IfOk r (λ r. SaysOf program lines r.answer r.text)
says_refused program lines n kind wrong (Err e) says = tt
says_refused program lines n kind wrong (Ok r) says =
    by_words (SaysOf program lines) (answer.StoreRefused n kind) (store_refused_line n kind) r says (refused lines n kind wrong)

-- the text after the line that names the run, whatever that is
abbrev pub SaysOfText : TypedProgram → ℕ → ℕ → List ℕ → Run → Type 0
SaysOfText program number steps text r = (first : List ℕ) → (e : ProcEntry) → NamesRun program first number steps e →
    SaysOf program (first ∷ lines_of text) r.answer r.text

-- what came of a store text at the entry of a procedure
abbrev pub BeginsAt : TypedProgram → ℕ → List ℕ → Begun → Type 0
BeginsAt program number text b = (e : ProcEntry) → slice_get program.procs number ≡ Some e →
    Begins program.types e.vars (entry_start e.vars e.proc) (lines_of text) b

-- the types of the program, and the variables of the procedure
module _ (program : TypedProgram) (number steps : ℕ) (types : List TypeEntry) (vars : List VarEntry) (types_are : types ≡ program.types)
    (vars_are : Some vars ≡ option_map (λ (e : ProcEntry). e.vars) (slice_get program.procs number)) where
  own : (e : ProcEntry) → slice_get program.procs number ≡ Some e → e.vars ≡ vars
  own e there = let same : Some vars ≡ Some e.vars = vars_are ∙ ap (option_map (λ (x : ProcEntry). x.vars)) there in cc

  own_types : (e : ProcEntry) → slice_get program.procs number ≡ Some e → (P : List TypeEntry → List VarEntry → Type 0) → P types vars →
      P program.types e.vars
  own_types e there P p = subst (λ (ts : List TypeEntry). P ts e.vars) types_are (subst (λ (vs : List VarEntry). P types vs) (sym (own e there)) p)

  given_types : (e : ProcEntry) → slice_get program.procs number ≡ Some e → (P : List TypeEntry → List VarEntry → Type 0) → P program.types e.vars →
      P types vars
  given_types e there P p = subst (λ (vs : List VarEntry). P types vs) (own e there) (subst (λ (ts : List TypeEntry). P ts e.vars) (sym types_are) p)

  module _ (text : List ℕ) (b : Begun) (begun_so : BeginsAt program number text b) where
    -- the store that the text spells, and what comes of it
    record Comes (e : ProcEntry) (a : Answer) : Type 0 where
      of_store : StoreMap
      read : read_text program.types e.vars (lines_of text) ≡ Ok of_store
      comes : RunsFrom program number steps e of_store a

    says_begun : {E : Type 0} (a : Answer) → ((e : ProcEntry) → slice_get program.procs number ≡ Some e → Comes e a) → (r : Result Run E) →
        IfOk r (Says a (text_of types vars a)) → IfOk r (SaysOfText program number steps text)
    says_begun a comes (Err x) says = tt
    says_begun a comes (Ok r) says = λ first e names.
        let c = comes e names.entry in
        let written = own_types e names.entry (λ ts vs. r.text ≡ text_of ts vs a) says.1 in
        by_words (SaysOf program (first ∷ lines_of text)) a (text_of program.types e.vars a) r (says.0, written)
        (store first (lines_of text) number steps e c.of_store a names c.read c.comes)

    pub says_ill : {E : Type 0} (wrong : WfFault) → b ≡ begun.NotWellFormed wrong → (r : Result Run E) →
        IfOk r (Says (answer.NotWellFormed wrong) (text_of types vars (answer.NotWellFormed wrong))) → IfOk r (SaysOfText program number steps text)
    says_ill wrong is = says_begun (answer.NotWellFormed wrong) (λ e there.
        let (s, read, first) = is_ill program.types e.vars (entry_start e.vars e.proc) (lines_of text) b (begun_so e there) wrong is in
        record { of_store = s; read = read; comes = not_well_formed wrong first })

    pub says_false : {E : Type 0} → b ≡ begun.StartFalse → (r : Result Run E) →
        IfOk r (Says answer.StartFalse (text_of types vars answer.StartFalse)) → IfOk r (SaysOfText program number steps text)
    says_false is = says_begun answer.StartFalse (λ e there.
        let (s, read, well, other) = is_false program.types e.vars (entry_start e.vars e.proc) (lines_of text) b (begun_so e there) is in
        record { of_store = s; read = read; comes = start_false well (λ meets. other (entry_holds program number e there s meets)) })

    -- the store that met the entry
    module _ (s : StoreMap) (is : b ≡ begun.Meets s) where
      met : (e : ProcEntry) → slice_get program.procs number ≡ Some e →
          (read_text program.types e.vars (lines_of text) ≡ Ok s) × IsWellFormed program.types e.vars s
          × StartHolds program.types e.vars (entry_start e.vars e.proc) s
      met e there = is_met program.types e.vars (entry_start e.vars e.proc) (lines_of text) b (begun_so e there) s is

      pub can_run : (e : ProcEntry) → slice_get program.procs number ≡ Some e → steps ≤ 100000 → CanStart program number s steps
      can_run e there few =
          let (read, well, holds) = met e there in
          can_start program number e there s steps well (read_small program.types e.vars (lines_of text) s read) few

      pub says_met : {E : Type 0} (a : whole.Answer) → WholeRun program number s steps (answer_of a) → (r : Result Run E) →
          IfOk r (Says (answer.Ran a) (text_of types vars (answer.Ran a))) → IfOk r (SaysOfText program number steps text)
      says_met a runs = says_begun (answer.Ran a) (λ e there.
          let (read, well, holds) = met e there in
          record { of_store = s; read = read; comes = ran a (meets_entry program number e there s well holds) runs })

      -- and that of the exit fits
      pub exits_fit : (e : ProcEntry) → slice_get program.procs number ≡ Some e → (a : whole.Answer) → ((t : StoreMap) → a ≡ outcome.Exit t →
          IsSomeAnd (slice_get program.procs number) (λ e. Fits program.types e.vars t)) → ExitFits types vars a
      exits_fit e there outcome.Running fits = tt
      exits_fit e there (outcome.Fail why line) fits = tt
      exits_fit e there (outcome.Exit t) fits =
          given_types e there (λ ts vs. Fits ts vs t)
          (subst (λ (o : Option ProcEntry). IsSomeAnd o (λ e. Fits program.types e.vars t)) there (fits t refl))

    pub says_unread : {E : Type 0} (fault : StoreFault) → b ≡ begun.Refused fault → (n : ℕ) → n ≡ fault.line → (r : Result Run E) →
        IfOk r (Says (answer.StoreRefused (n + 1) fault.kind) (store_refused_line (n + 1) fault.kind)) → IfOk r (SaysOfText program number steps text)
    says_unread fault is n same (Err x) says = tt
    says_unread fault is n same (Ok r) says = λ first e names.
        by_words (SaysOf program (first ∷ lines_of text)) (answer.StoreRefused (n + 1) fault.kind) (store_refused_line (n + 1) fault.kind) r says
        (subst (λ (k : ℕ). SaysOf program (first ∷ lines_of text) (answer.StoreRefused (k + 1) fault.kind) (store_refused_line (k + 1) fault.kind))
        (sym same) (refused (first ∷ lines_of text) (fault.line + 1) fault.kind (no_store first (lines_of text) number steps e fault names
        (is_refused program.types e.vars (entry_start e.vars e.proc) (lines_of text) b (begun_so e names.entry) fault is))))

-- ---- the part after `---`

module _ (program : TypedProgram) (part : List ℕ) where
  pub empty_part : (length part == 0) ≡ true → IsRefusedAt program (lines_of part) 1 Missing
  empty_part none = subst (λ (ls : List (List ℕ)). IsRefusedAt program ls 1 Missing) (sym (no_lines part none)) nothing

  module _ (line text : List ℕ) (split : lines_of part ≡ line ∷ lines_of text) where
    pub unnamed : (kind : StoreKind) → NamesNoRun program line kind → IsRefusedAt program (lines_of part) 1 kind
    unnamed kind none = subst (λ (ls : List (List ℕ)). IsRefusedAt program ls 1 kind) (sym split) (no_run line (lines_of text) kind none)

    pub says_part : {E : Type 0} (number steps : ℕ) (e : ProcEntry) → NamesRun program line number steps e → (r : Result Run E) →
        IfOk r (SaysOfText program number steps text) → IfOk r (λ r. SaysOf program (lines_of part) r.answer r.text)
    says_part number steps e names (Err x) says = tt
    says_part number steps e names (Ok r) says =
        subst (λ (ls : List (List ℕ)). SaysOf program ls r.answer r.text) (sym split) (says line e names)

-- ---- the whole text

-- what is said of a text that is cut
pub cut_run : (text program : List ℕ) (part : Option (Bor (List ℕ))) (after : Bor (List ℕ)) → part ≡ Some after →
    IfSome part (λ after. IsCutAs text program after.now) → (typed : TypedProgram) (triples : List Triple) → IsReadAs program typed triples →
    (a : Answer) (written : List ℕ) → SaysOf typed (lines_of after.now) a written → IsRunOf text a written
cut_run text program part after is parts typed triples read a written says =
    cut program after.now typed triples a written
    (subst (λ (o : Option (Bor (List ℕ))). IfSome o (λ after. IsCutAs text program after.now)) is parts) read says

-- what is said of one that isn't
pub uncut_run : (text program : List ℕ) (part : Option (Bor (List ℕ))) → part ≡ None → IfNone part ((program ≡ text) × HasNoCut text) →
    (typed : TypedProgram) (triples : List Triple) → IsReadAs program typed triples → (r : Run) →
    Says (answer.StoreRefused 0 Missing) (store_refused_line 0 Missing) r → IsRunOf text r.answer r.text
uncut_run text program part is whole typed triples read r says =
    let uncut_is = subst (λ (o : Option (Bor (List ℕ))). IfNone o ((program ≡ text) × HasNoCut text)) is whole in
    by_words (IsRunOf text) (answer.StoreRefused 0 Missing) (store_refused_line 0 Missing) r says
    (uncut typed triples uncut_is.1 (subst (λ (l : List ℕ). IsReadAs l typed triples) uncut_is.0 read))
