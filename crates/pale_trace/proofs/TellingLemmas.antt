-- What is said of a text, and of the lines behind `---`.
use Rattle.std.proofs.Common.{◌≡◌, ◌-◌, ◌<◌, ◌==◌, ℕ, suc, true, List, ◌∷◌, length, Option, Some, None, Ok, Err, Result, IfSome, IfNone}
use Rattle.std.proofs.Common.{sym, subst}
use Rattle.std.specs.Prelude.{slice_get, IfOk}
use Rattle.std.specs.Borrow.{Bor}
use Rattle.store_exec.specs.declared.triple.Triple.{Triple}
use Rattle.store_text.specs.declared.fault.StoreKind.{StoreKind}
use Rattle.store_text.specs.declared.fault.StoreKind.TheVariants.{Missing, UnknownName}
use Rattle.store_text.specs.Lines.{lines_of}
use Rattle.pale_typed.specs.declared.typed.ProcEntry.{ProcEntry}
use Rattle.pale_typed.specs.TypedPrograms.{TypedProgram}
use Rattle.hoare_split.specs.Fitting.{FitsProgram}
use Rattle.whole_program.specs.ProgramTexts.{IsReadAs}
use Rattle.pale_parts.specs.Parts.{IsCutAs, HasNoCut, IsTripleLine}
use Rattle.pale_starts.specs.Lines.{store_refused_line}
use Rattle.pale_starts.proofs.PartLemmas.{no_lines, one_more}
use Rattle.pale_replay.specs.Replaying.{NamesTriple}
use Rattle.pale_run.specs.Running.{NamesRun, NamesNoRun}
use Rattle.pale_trace.specs.declared.ending.Ending.{Ending}
use Rattle.pale_trace.specs.declared.ending.Ending.TheVariants as ending
use Rattle.pale_trace.specs.declared.ending.Trace.{Trace}
use Rattle.pale_trace.specs.Tracing.{no_run, no_triple, IsRefusedAt, nothing, no_request, SaysOf, refused, IsTraceOf, uncut, cut}

-- a trace says this ending in this text
abbrev pub Says : Ending → List ℕ → Trace → Type 0
Says how written r = (r.ending ≡ how) × (r.text ≡ written)

-- what holds of an ending and its text holds of the trace that says them
pub by_words : (P : Ending → List ℕ → Type 0) (how : Ending) (written : List ℕ) (r : Trace) → Says how written r → P how written → P r.ending r.text
by_words P how written r says p = subst (λ (h : Ending). P h r.text) (sym says.0) (subst (P how) (sym says.1) p)

-- what is said of lines that are refused
pub says_refused : {E : Type 0} (program : TypedProgram) (triples : List Triple) (lines : List (List ℕ)) (n : ℕ) (kind : StoreKind) →
    IsRefusedAt program triples lines n kind → (r : Result Trace E) → IfOk r (Says (ending.StoreRefused n kind) (store_refused_line n kind)) →
    IfOk r (λ r. SaysOf program triples lines r.ending r.text)
says_refused program triples lines n kind wrong (Err e) says = tt
says_refused program triples lines n kind wrong (Ok r) says =
    by_words (SaysOf program triples lines) (ending.StoreRefused n kind) (store_refused_line n kind) r says (refused lines n kind wrong)

-- ---- the first line

module _ (program : TypedProgram) (triples : List Triple) (text : List ℕ) where
  -- what is said behind a line of which this is so, whatever that is
  abbrev pub SaysBehind : (List ℕ → Type 0) → Trace → Type 0
  SaysBehind Names r = (first : List ℕ) → Names first → SaysOf program triples (first ∷ lines_of text) r.ending r.text

  module _ (number : ℕ) (some : 0 < number) where
    placed : (first : List ℕ) → IsTripleLine first number → IsTripleLine first (suc (number - 1))
    placed first spelled = subst (IsTripleLine first) (sym (one_more number some)) spelled

    -- there is no triple of that number
    pub says_unknown : {E : Type 0} → slice_get triples (number - 1) ≡ None → (r : Result Trace E) →
        IfOk r (Says (ending.StoreRefused 1 UnknownName) (store_refused_line 1 UnknownName)) →
        IfOk r (SaysBehind (λ first. IsTripleLine first number))
    says_unknown none (Err e) says = tt
    says_unknown none (Ok r) says = λ first spelled.
        by_words (SaysOf program triples (first ∷ lines_of text)) (ending.StoreRefused 1 UnknownName) (store_refused_line 1 UnknownName) r says
        (refused (first ∷ lines_of text) 1 UnknownName (no_request first (lines_of text) UnknownName
        (no_triple (number - 1) (placed first spelled) none)))

    -- there is one
    pub says_numbered : {E : Type 0} (t : Triple) → slice_get triples (number - 1) ≡ Some t → FitsProgram program t → (r : Result Trace E) →
        IfOk r (λ r. (first : List ℕ) → (e : ProcEntry) → NamesTriple program triples first t e →
        SaysOf program triples (first ∷ lines_of text) r.ending r.text) → IfOk r (SaysBehind (λ first. IsTripleLine first number))
    says_numbered t there fits (Err e) says = tt
    says_numbered t there fits (Ok r) says = λ first spelled.
        says first fits.entry (record { place = number - 1; number = placed first spelled; there = there; entry = fits.there })

  -- it names a run
  pub says_named : {E : Type 0} (line : List ℕ) (number steps : ℕ) (e : ProcEntry) → NamesRun program line number steps e → (r : Result Trace E) →
      IfOk r (λ r. (ts : List Triple) (first : List ℕ) → (e : ProcEntry) → NamesRun program first number steps e →
      SaysOf program ts (first ∷ lines_of text) r.ending r.text) → IfOk r (λ r. SaysOf program triples (line ∷ lines_of text) r.ending r.text)
  says_named line number steps e names (Err x) says = tt
  says_named line number steps e names (Ok r) says = says triples line e names

  -- it names nothing
  pub unnamed : (line : List ℕ) (kind : StoreKind) → ((number : ℕ) → IsTripleLine line number → ⊥) → NamesNoRun program line kind →
      IsRefusedAt program triples (line ∷ lines_of text) 1 kind
  unnamed line kind other none = no_request line (lines_of text) kind (no_run kind other none)

-- ---- the part after `---`

module _ (program : TypedProgram) (triples : List Triple) (part : List ℕ) where
  pub empty_part : (length part == 0) ≡ true → IsRefusedAt program triples (lines_of part) 1 Missing
  empty_part none = subst (λ (ls : List (List ℕ)). IsRefusedAt program triples ls 1 Missing) (sym (no_lines part none)) nothing

  -- what is said of its lines
  pub says_lines : {E : Type 0} (line text : List ℕ) → lines_of part ≡ line ∷ lines_of text → (r : Result Trace E) →
      IfOk r (λ r. SaysOf program triples (line ∷ lines_of text) r.ending r.text) → IfOk r (λ r. SaysOf program triples (lines_of part) r.ending r.text)
  says_lines line text split (Err e) says = tt
  says_lines line text split (Ok r) says = subst (λ (ls : List (List ℕ)). SaysOf program triples ls r.ending r.text) (sym split) says

  pub says_spelled : {E : Type 0} (line text : List ℕ) (number : ℕ) → lines_of part ≡ line ∷ lines_of text → IsTripleLine line number →
      (r : Result Trace E) → IfOk r (SaysBehind program triples text (λ first. IsTripleLine first number)) →
      IfOk r (λ r. SaysOf program triples (lines_of part) r.ending r.text)
  says_spelled line text number split spelled (Err e) says = tt
  says_spelled line text number split spelled (Ok r) says =
      subst (λ (ls : List (List ℕ)). SaysOf program triples ls r.ending r.text) (sym split) (says line spelled)

-- ---- the whole text

-- what is said of a text that is cut
pub cut_trace : (text program : List ℕ) (part : Option (Bor (List ℕ))) (after : Bor (List ℕ)) → part ≡ Some after →
    IfSome part (λ after. IsCutAs text program after.now) → (typed : TypedProgram) (triples : List Triple) → IsReadAs program typed triples →
    (how : Ending) (written : List ℕ) → SaysOf typed triples (lines_of after.now) how written → IsTraceOf text how written
cut_trace text program part after is parts typed triples read how written says =
    cut program after.now typed triples how written
    (subst (λ (o : Option (Bor (List ℕ))). IfSome o (λ after. IsCutAs text program after.now)) is parts) read says

-- what is said of one that isn't
pub uncut_trace : (text program : List ℕ) (part : Option (Bor (List ℕ))) → part ≡ None → IfNone part ((program ≡ text) × HasNoCut text) →
    (typed : TypedProgram) (triples : List Triple) → IsReadAs program typed triples → (r : Trace) →
    Says (ending.StoreRefused 0 Missing) (store_refused_line 0 Missing) r → IsTraceOf text r.ending r.text
uncut_trace text program part is whole typed triples read r says =
    let uncut_is = subst (λ (o : Option (Bor (List ℕ))). IfNone o ((program ≡ text) × HasNoCut text)) is whole in
    by_words (IsTraceOf text) (ending.StoreRefused 0 Missing) (store_refused_line 0 Missing) r says
    (uncut typed triples uncut_is.1 (subst (λ (l : List ℕ). IsReadAs l typed triples) uncut_is.0 read))
