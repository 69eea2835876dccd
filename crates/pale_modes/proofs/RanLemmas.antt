-- A text that spells a store in the run of a procedure is answered by what comes of that store.
use Rattle.std.proofs.Common.{◌≡◌, ◌∙◌, ◌≤◌, ℕ, List, ◌∷◌, length, Some, None, Ok, Err, slice_get, refl, sym, ap, subst, arith}
use Rattle.std.proofs.lemmas.Option.{same_Some}
use Rattle.pale_text.specs.declared.refusal.Refusal.{Refusal}
use Rattle.pale_text.specs.declared.refusal.TextStop.TheVariants as stop
use Rattle.store_core.specs.Stores.{StoreMap}
use Rattle.store_text.specs.declared.fault.StoreKind.{StoreKind}
use Rattle.store_text.specs.Lines.{lines_of}
use Rattle.store_text.specs.Reading.{read_text}
use Rattle.pale_typed.specs.declared.typed.ProcEntry.{ProcEntry}
use Rattle.pale_typed.specs.TypedPrograms.{TypedProgram}
use Rattle.whole_program.specs.ProgramTexts.{IsReadAs, IsRefusedAs}
use Rattle.pale_parts.proofs.RunLineLemmas.{one_run}
use Rattle.pale_starts.specs.Stops.{IsPartStop, uncut_stop, cut_stop}
use Rattle.pale_run.specs.declared.answer.Answer.{Answer}
use Rattle.pale_run.specs.Lines.{text_of}
use Rattle.pale_run.specs.Running.{proc_named, NamesRun, NamesNoRun, no_form, no_procedure, IsRefusedAt, nothing, no_run, no_store, SaysOf, IsRunOf, uncut, cut}
use Rattle.pale_run.specs.Running as saying
use Rattle.pale_status.specs.declared.status.Status.{Status}
use Rattle.pale_status.specs.Texts.{most_bytes}
use Rattle.pale_modes.specs.Running.{Runs, status_of, too_long, refused, run}
use Rattle.pale_modes.specs.Completing.{SpellsRun, TellsRun}
use Rattle.pale_modes.proofs.CutLemmas.{one_cut, cut_or_not}
use Rattle.pale_modes.proofs.ReplayedLemmas.{Laws}

module _ (program : TypedProgram) where
  -- a line names one run
  pub record Same (number steps : ℕ) (e : ProcEntry) (other more : ℕ) (d : ProcEntry) : Type 0 where
    pub numbers : number ≡ other
    pub counts : steps ≡ more
    pub entries : e ≡ d

  pub one_named : (line : List ℕ) (number steps other more : ℕ) (e d : ProcEntry) → NamesRun program line number steps e →
      NamesRun program line other more d → Same number steps e other more d
  one_named line number steps other more e d one two =
      let same = one_run line one.name two.name steps more one.spelled two.spelled in
      let numbers = same_Some number other (sym one.named ∙ ap (proc_named program.procs) same.0 ∙ two.named) in
      record {
        numbers = numbers;
        counts = same.1;
        entries = same_Some e d (sym one.entry ∙ ap (λ n. slice_get program.procs n) numbers ∙ two.entry);
      }

  module _ (first : List ℕ) (rest : List (List ℕ)) (number steps : ℕ) (e : ProcEntry) (s : StoreMap) (named : NamesRun program first number steps e)
      (reads : read_text program.types e.vars rest ≡ Ok s) where
    pub not-unnamed : (kind : StoreKind) → NamesNoRun program first kind → ⊥
    not-unnamed _ (no_form none) = none named.name steps named.spelled
    not-unnamed _ (no_procedure name many spelled none) =
        let same = one_run first name named.name many steps spelled named.spelled in
        let bad : None ≡ Some number = sym none ∙ ap (proc_named program.procs) same.0 ∙ named.named in
        absurd (cc)

    -- lines that spell a store aren't refused
    not-refused : (lines : List (List ℕ)) (n : ℕ) (kind : StoreKind) → IsRefusedAt program lines n kind → lines ≡ first ∷ rest → ⊥
    not-refused _ _ _ nothing is = absurd (cc)
    not-refused _ _ _ (no_run line lines kind none) is =
        let here : line ≡ first = cc in
        not-unnamed kind (subst (λ (l : List ℕ). NamesNoRun program l kind) here none)
    not-refused _ _ _ (no_store line lines other more d fault names fails) is =
        let here : line ≡ first = cc in
        let later : lines ≡ rest = cc in
        let same = one_named first other more number steps d e (subst (λ (l : List ℕ). NamesRun program l other more d) here names) named in
        let bad : Err fault ≡ Ok s = sym fails ∙ ap (λ (x : ProcEntry). read_text program.types x.vars lines) same.entries
        ∙ ap (read_text program.types e.vars) later ∙ reads in
        absurd (cc)

    said : (lines : List (List ℕ)) (a : Answer) (written : List ℕ) → SaysOf program lines a written → lines ≡ first ∷ rest →
        TellsRun program number steps e s written (status_of a)
    said _ _ _ (saying.refused lines n kind why) is = absurd (not-refused lines n kind why is)
    said _ _ _ (saying.store line lines other more d t a names ok comes) is =
        let here : line ≡ first = cc in
        let later : lines ≡ rest = cc in
        let same = one_named first other more number steps d e (subst (λ (l : List ℕ). NamesRun program l other more d) here names) named in
        let both : Ok t ≡ Ok s = sym ok ∙ ap (λ (x : ProcEntry). read_text program.types x.vars lines) same.entries
        ∙ ap (read_text program.types e.vars) later ∙ reads in
        let one : t ≡ s = cc in
        let told = text_of program.types d.vars a in
        let tells : TellsRun program other more d t told (status_of a) = record { answer = a; comes = comes; told = refl; ends = refl } in
        let of_number = subst (λ (n : ℕ). TellsRun program n more d t told (status_of a)) same.numbers tells in
        let of_steps = subst (λ (n : ℕ). TellsRun program number n d t told (status_of a)) same.counts of_number in
        let of_e = subst (λ (x : ProcEntry). TellsRun program number steps x t told (status_of a)) same.entries of_steps in
        subst (λ (x : StoreMap). TellsRun program number steps e x told (status_of a)) one of_e

-- ---- whole texts

module _ (laws : Laws) (text : List ℕ) (program : TypedProgram) (number steps : ℕ) (e : ProcEntry) (s : StoreMap)
    (spells : SpellsRun text program number steps e s) where
  -- its program's part isn't refused
  not-stopped : (r : Refusal) → IsPartStop text (stop.Refused r) → ⊥
  not-stopped r (uncut_stop none is) = cut_or_not text spells.part spells.after spells.cut none
  not-stopped r (cut_stop part after again is) =
      let same = one_cut text part spells.part after spells.after again spells.cut in
      laws.apart spells.part program spells.triples r spells.read (subst (λ (p : List ℕ). IsRefusedAs p r) same.0 is)

  answered : (a : Answer) (written : List ℕ) → IsRunOf text a written → TellsRun program number steps e s written (status_of a)
  answered _ _ (uncut other others none read) = absurd (cut_or_not text spells.part spells.after spells.cut none)
  answered _ _ (cut part after other others a written again read says) =
      let parts = one_cut text part spells.part after spells.after again spells.cut in
      let here = subst (λ (p : List ℕ). IsReadAs p other others) parts.0 read in
      let same = laws.one spells.part other program others spells.triples here spells.read in
      let of_program = subst (λ (p : TypedProgram). SaysOf p (lines_of after) a written) same.0 says in
      said program spells.first spells.lines number steps e s spells.named spells.store (lines_of after) a written of_program (parts.1 ∙ spells.begins)

  pub ran_so : (output : List ℕ) (status : Status) → length text ≤ most_bytes → Runs text output status → TellsRun program number steps e s output status
  ran_so _ _ short (too_long more) = absurd (omega (arith, more, short))
  ran_so _ _ short (refused r within stopped) = absurd (not-stopped r stopped)
  ran_so _ _ short (run a written within is) = answered a written is
