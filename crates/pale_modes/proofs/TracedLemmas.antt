-- A text that spells a store in a triple, or in the run of a procedure, is answered by the trace of that store.
use Rattle.std.proofs.Common.{◌≡◌, ◌∙◌, ◌≤◌, ℕ, suc, List, ◌∷◌, length, Some, None, Ok, Err, slice_get, refl, sym, ap, subst, arith}
use Rattle.std.proofs.lemmas.Option.{same_Some}
use Rattle.pale_text.specs.declared.refusal.Refusal.{Refusal}
use Rattle.pale_text.specs.declared.refusal.TextStop.TheVariants as stop
use Rattle.store_core.specs.Stores.{StoreMap}
use Rattle.store_exec.specs.declared.triple.Triple.{Triple}
use Rattle.store_text.specs.declared.fault.StoreKind.{StoreKind}
use Rattle.store_text.specs.Lines.{lines_of}
use Rattle.store_text.specs.Reading.{read_text}
use Rattle.pale_typed.specs.declared.typed.ProcEntry.{ProcEntry}
use Rattle.pale_typed.specs.TypedPrograms.{TypedProgram}
use Rattle.whole_program.specs.ProgramTexts.{IsReadAs, IsRefusedAs}
use Rattle.pale_parts.specs.Parts.{IsCutAs, IsTripleLine, IsRunLine}
use Rattle.pale_starts.specs.Stops.{IsPartStop, uncut_stop, cut_stop}
use Rattle.pale_replay.specs.Replaying.{NamesTriple}
use Rattle.pale_run.specs.Running.{NamesRun}
use Rattle.pale_trace.specs.declared.ending.Ending.{Ending}
use Rattle.pale_trace.specs.Traces.{TripleSays, RunSays}
use Rattle.pale_trace.specs.Tracing.{AsksIn, of_triple, of_run, AsksNothing, no_run, no_triple, IsRefusedAt, nothing, no_request, no_store}
use Rattle.pale_trace.specs.Tracing.{SaysOf, IsTraceOf, uncut, cut}
use Rattle.pale_trace.specs.Tracing as saying
use Rattle.pale_status.specs.declared.status.Status.{Status}
use Rattle.pale_status.specs.Texts.{most_bytes}
use Rattle.pale_modes.specs.Tracing.{Traces, status_of, too_long, refused, trace}
use Rattle.pale_modes.specs.Completing.{SpellsStore, SpellsRun, TellsTrace, TellsTriple, TellsRunTrace}
use Rattle.pale_modes.proofs.CutLemmas.{one_cut, cut_or_not}
use Rattle.pale_modes.proofs.ReplayedLemmas.{Laws, one-place, one-triple}
use Rattle.pale_modes.proofs.RanLemmas.{one_named, not-unnamed}

-- no line has both forms
forms_apart : (line : List ℕ) (number : ℕ) (name : List ℕ) (steps : ℕ) → IsTripleLine line number → IsRunLine line name steps → ⊥
forms_apart line number name steps one other =
    let heads : Some 116 ≡ Some 114 = ap (λ (l : List ℕ). slice_get l 0) (sym one.spelled ∙ other.spelled) in
    let same = same_Some 116 114 heads in
    absurd (omega (arith, same))

-- ---- lines that ask for something and spell a store

module _ (program : TypedProgram) (triples : List Triple) where
  -- a line asks for something in one procedure
  one_asked : (line : List ℕ) (e d : ProcEntry) → AsksIn program triples line e → AsksIn program triples line d → e ≡ d
  one_asked line e d (of_triple t one) (of_triple u other) = (one-triple program triples line t u e d one other).1
  one_asked line e d (of_triple t one) (of_run number steps other) =
      absurd (forms_apart line (suc one.place) other.name steps one.number other.spelled)
  one_asked line e d (of_run number steps one) (of_triple t other) =
      absurd (forms_apart line (suc other.place) one.name steps other.number one.spelled)
  one_asked line e d (of_run number steps one) (of_run other more two) = (one_named program line number steps other more e d one two).entries

  module _ (first : List ℕ) (rest : List (List ℕ)) (e : ProcEntry) (s : StoreMap) (reads : read_text program.types e.vars rest ≡ Ok s) where
    asks_something : (kind : StoreKind) → AsksIn program triples first e → AsksNothing program triples first kind → ⊥
    asks_something _ (of_triple t names) (no_run kind none unnamed) = none (suc names.place) names.number
    asks_something _ (of_run number steps names) (no_run kind none unnamed) =
        not-unnamed program first rest number steps e s names reads kind unnamed
    asks_something _ (of_triple t names) (no_triple place number none) =
        let same = one-place program triples first place names.place number names.number in
        let bad : None ≡ Some t = sym none ∙ ap (λ p. slice_get triples p) same ∙ names.there in
        absurd (cc)
    asks_something _ (of_run number steps names) (no_triple place spelled none) = forms_apart first (suc place) names.name steps spelled names.spelled

    -- they aren't refused
    unrefused : AsksIn program triples first e → (lines : List (List ℕ)) (n : ℕ) (kind : StoreKind) → IsRefusedAt program triples lines n kind →
        lines ≡ first ∷ rest → ⊥
    unrefused asked _ _ _ nothing is = absurd (cc)
    unrefused asked _ _ _ (no_request line lines kind none) is =
        let here : line ≡ first = cc in
        asks_something kind asked (subst (λ (l : List ℕ). AsksNothing program triples l kind) here none)
    unrefused asked _ _ _ (no_store line lines d fault asks fails) is =
        let here : line ≡ first = cc in
        let later : lines ≡ rest = cc in
        let same = one_asked first d e (subst (λ (l : List ℕ). AsksIn program triples l d) here asks) asked in
        let bad : Err fault ≡ Ok s = sym fails ∙ ap (λ (x : ProcEntry). read_text program.types x.vars lines) same
        ∙ ap (read_text program.types e.vars) later ∙ reads in
        absurd (cc)

    -- the store that they spell is this one
    one_store : (line : List ℕ) (lines : List (List ℕ)) (d : ProcEntry) (other : StoreMap) → lines ≡ rest → d ≡ e →
        read_text program.types d.vars lines ≡ Ok other → other ≡ s
    one_store line lines d other later same ok =
        let both : Ok other ≡ Ok s = sym ok ∙ ap (λ (x : ProcEntry). read_text program.types x.vars lines) same
        ∙ ap (read_text program.types e.vars) later ∙ reads in
        cc

    -- where they name a triple
    module _ (t : Triple) (named : NamesTriple program triples first t e) where
      in_triple : (lines : List (List ℕ)) (how : Ending) (written : List ℕ) → SaysOf program triples lines how written → lines ≡ first ∷ rest →
          TellsTriple program t e s written (status_of how)
      in_triple _ _ _ (saying.refused lines n kind why) is = absurd (unrefused (of_triple t named) lines n kind why is)
      in_triple _ _ _ (saying.triple line lines u d other how written names ok says) is =
          let here : line ≡ first = cc in
          let later : lines ≡ rest = cc in
          let same = one-triple program triples first u t d e (subst (λ (l : List ℕ). NamesTriple program triples l u d) here names) named in
          let one = one_store line lines d other later same.1 ok in
          let of_t = subst (λ (x : Triple). TripleSays program x d other how written) same.0 says in
          let of_e = subst (λ (x : ProcEntry). TripleSays program t x other how written) same.1 of_t in
          let of_s = subst (λ (x : StoreMap). TripleSays program t e x how written) one of_e in
          record { how = how; says = of_s; ends = refl }
      in_triple _ _ _ (saying.run line lines number steps d other how written names ok says) is =
          let here : line ≡ first = cc in
          let spelled = subst (λ (l : List ℕ). IsRunLine l names.name steps) here names.spelled in
          absurd (forms_apart first (suc named.place) names.name steps named.number spelled)

    -- where they name a run
    module _ (number steps : ℕ) (named : NamesRun program first number steps e) where
      in_run : (lines : List (List ℕ)) (how : Ending) (written : List ℕ) → SaysOf program triples lines how written → lines ≡ first ∷ rest →
          TellsRunTrace program number steps e s written (status_of how)
      in_run _ _ _ (saying.refused lines n kind why) is = absurd (unrefused (of_run number steps named) lines n kind why is)
      in_run _ _ _ (saying.triple line lines u d other how written names ok says) is =
          let here : line ≡ first = cc in
          let spelled = subst (λ (l : List ℕ). IsTripleLine l (suc names.place)) here names.number in
          absurd (forms_apart first (suc names.place) named.name steps spelled named.spelled)
      in_run _ _ _ (saying.run line lines place more d other how written names ok says) is =
          let here : line ≡ first = cc in
          let later : lines ≡ rest = cc in
          let same = one_named program first place more number steps d e (subst (λ (l : List ℕ). NamesRun program l place more d) here names) named in
          let one = one_store line lines d other later same.entries ok in
          let of_number = subst (λ (n : ℕ). RunSays program n more d other how written) same.numbers says in
          let of_steps = subst (λ (n : ℕ). RunSays program number n d other how written) same.counts of_number in
          let of_e = subst (λ (x : ProcEntry). RunSays program number steps x other how written) same.entries of_steps in
          let of_s = subst (λ (x : StoreMap). RunSays program number steps e x how written) one of_e in
          record { how = how; says = of_s; ends = refl }

-- ---- whole texts

module _ (laws : Laws) (text part after : List ℕ) (at : IsCutAs text part after) (program : TypedProgram) (triples : List Triple)
    (read : IsReadAs part program triples) (Says : Ending → List ℕ → Type 0) (tells : (how : Ending) (written : List ℕ) →
    SaysOf program triples (lines_of after) how written → TellsTrace Says written (status_of how)) where
  -- its program's part isn't refused
  unstopped : (r : Refusal) → IsPartStop text (stop.Refused r) → ⊥
  unstopped r (uncut_stop none is) = cut_or_not text part after at none
  unstopped r (cut_stop front behind again is) =
      let same = one_cut text front part behind after again at in
      laws.apart part program triples r read (subst (λ (p : List ℕ). IsRefusedAs p r) same.0 is)

  told : (how : Ending) (written : List ℕ) → IsTraceOf text how written → TellsTrace Says written (status_of how)
  told _ _ (uncut other others none again) = absurd (cut_or_not text part after at none)
  told _ _ (cut front behind other others how written again reads says) =
      let parts = one_cut text front part behind after again at in
      let here = subst (λ (p : List ℕ). IsReadAs p other others) parts.0 reads in
      let same = laws.one part other program others triples here read in
      let of_program = subst (λ (p : TypedProgram). SaysOf p others (lines_of behind) how written) same.0 says in
      let of_triples = subst (λ (ts : List Triple). SaysOf program ts (lines_of behind) how written) same.1 of_program in
      tells how written (subst (λ (ls : List (List ℕ)). SaysOf program triples ls how written) parts.1 of_triples)

  told_so : (output : List ℕ) (status : Status) → length text ≤ most_bytes → Traces text output status → TellsTrace Says output status
  told_so _ _ short (too_long more) = absurd (omega (arith, more, short))
  told_so _ _ short (refused r within stopped) = absurd (unstopped r stopped)
  told_so _ _ short (trace how written within is) = told how written is

pub traced_so : (laws : Laws) (text : List ℕ) (program : TypedProgram) (t : Triple) (e : ProcEntry) (s : StoreMap) →
    SpellsStore text program t e s → (output : List ℕ) (status : Status) → length text ≤ most_bytes → Traces text output status →
    TellsTriple program t e s output status
traced_so laws text program t e s spells =
    told_so laws text spells.part spells.after spells.cut program spells.triples spells.read (TripleSays program t e s)
    (λ how written says. in_triple program spells.triples spells.first spells.lines e s spells.store t spells.named (lines_of spells.after) how written says
    spells.begins)

pub run_traced_so : (laws : Laws) (text : List ℕ) (program : TypedProgram) (number steps : ℕ) (e : ProcEntry) (s : StoreMap) →
    SpellsRun text program number steps e s → (output : List ℕ) (status : Status) → length text ≤ most_bytes → Traces text output status →
    TellsRunTrace program number steps e s output status
run_traced_so laws text program number steps e s spells =
    told_so laws text spells.part spells.after spells.cut program spells.triples spells.read (RunSays program number steps e s)
    (λ how written says. in_run program spells.triples spells.first spells.lines e s spells.store number steps spells.named (lines_of spells.after) how
    written says spells.begins)
