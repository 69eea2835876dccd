-- What is said of a store text in a triple.
use Rattle.std.proofs.Common.{◌≡◌, ◌+◌, ◌-◌, ◌<◌, ◌≤◌, ◌==◌, ℕ, suc, true, List, ◌∷◌, length, Option, Some, None, Ok, Err, option_map, sym, ap, ◌∙◌, subst}
use Rattle.std.proofs.Common.{Result, IfSome, IfNone, refl}
use Rattle.std.specs.Prelude.{slice_get, IfOk}
use Rattle.std.specs.Borrow.{Bor}
use Rattle.store_core.specs.Tables.{TypeEntry, VarEntry}
use Rattle.store_core.specs.Stores.{StoreMap}
use Rattle.store_text.specs.declared.fault.StoreFault.{StoreFault}
use Rattle.store_text.specs.declared.fault.StoreKind.TheVariants.{Missing, Syntax, UnknownName}
use Rattle.store_text.specs.declared.fault.StoreKind.{StoreKind}
use Rattle.store_text.specs.Lines.{lines_of}
use Rattle.store_text.specs.Reading.{read_text}
use Rattle.store_exec.specs.declared.triple.Triple.{Triple}
use Rattle.store_exec.specs.Fits.{TripleFits}
use Rattle.pale_typed.specs.declared.typed.ProcEntry.{ProcEntry}
use Rattle.pale_typed.specs.TypedPrograms.{TypedProgram}
use Rattle.hoare_split.specs.Fitting.{FitsProgram, IsShort}
use Rattle.whole_program.specs.ProgramTexts.{IsReadAs}
use Rattle.pale_replay.specs.declared.answer.Answer.{Answer}
use Rattle.pale_replay.specs.declared.answer.Replay.{Replay}
use Rattle.pale_replay.specs.declared.answer.Answer.TheVariants.{StoreRefused}
use Rattle.pale_replay.specs.declared.answer.Answer.TheVariants as answer
use Rattle.pale_starts.specs.Lines.{store_refused_line}
use Rattle.pale_starts.specs.declared.begun.Begun.{Begun}
use Rattle.pale_starts.specs.declared.begun.Begun.TheVariants as begun
use Rattle.pale_starts.specs.Begins.{Begins}
use Rattle.pale_starts.proofs.BegunLemmas.{is_refused, is_ill, is_false, is_met}
use Rattle.pale_starts.proofs.NumberLemmas.{read_small}
use Rattle.pale_starts.proofs.PartLemmas.{no_lines, one_more}
use Rattle.routing_walks.specs.declared.fault.WfFault.{WfFault}
use Rattle.routing_walks.specs.WellFormed.{IsWellFormed}
use Rattle.store_exec.specs.Failing.{StartHolds, Meets}
use Rattle.pale_replay.specs.Lines.{line_of}
use Rattle.pale_replay.specs.Replays.{Replays, not_well_formed, start_false}
use Rattle.pale_parts.specs.Parts.{IsCutAs, HasNoCut, IsTripleLine}
use Rattle.pale_replay.specs.Replaying.{NamesTriple, IsRefusedAt, nothing, no_triple_line, no_triple, no_store, SaysOf, refused, store}
use Rattle.pale_replay.specs.Replaying.{IsReplayOf, uncut, cut}
use Rattle.pale_replay.specs.Running.{CanBeRun}

-- a replay says this answer in this line
abbrev pub Says : Answer → List ℕ → Replay → Type 0
Says a line r = (r.answer ≡ a) × (r.line ≡ line)

-- what holds of an answer and its line holds of the replay that says them
by_words : (P : Answer → List ℕ → Type 0) (a : Answer) (line : List ℕ) (r : Replay) → Says a line r → P a line → P r.answer r.line
by_words P a line r says p = subst (λ (b : Answer). P b r.line) (sym says.0) (subst (P a) (sym says.1) p)

-- what is said of lines that are refused
pub says_refused : {E : Type 0} (program : TypedProgram) (triples : List Triple) (lines : List (List ℕ)) (n : ℕ) (kind : StoreKind) →
    IsRefusedAt program triples lines n kind → (r : Result Replay E) → IfOk r (Says (StoreRefused n kind) (store_refused_line n kind)) →
    IfOk r (λ r. SaysOf program triples lines r.answer r.line)
says_refused program triples lines n kind wrong (Err e) says = tt
says_refused program triples lines n kind wrong (Ok r) says =
    by_words (SaysOf program triples lines) (StoreRefused n kind) (store_refused_line n kind) r says (refused lines n kind wrong)

-- the text after the triple's line, whatever that is
abbrev pub SaysOfText : TypedProgram → List Triple → Triple → List ℕ → Replay → Type 0
SaysOfText program triples t text r = (first : List ℕ) → (e : ProcEntry) → NamesTriple program triples first t e →
    SaysOf program triples (first ∷ lines_of text) r.answer r.line

-- the types of the program, and the variables of the triple's procedure
module _ (program : TypedProgram) (t : Triple) (types : List TypeEntry) (vars : List VarEntry) (types_are : types ≡ program.types)
    (vars_are : Some vars ≡ option_map (λ (e : ProcEntry). e.vars) (slice_get program.procs t.proc)) where
  own : (e : ProcEntry) → slice_get program.procs t.proc ≡ Some e → e.vars ≡ vars
  own e there = let same : Some vars ≡ Some e.vars = vars_are ∙ ap (option_map (λ (x : ProcEntry). x.vars)) there in cc

  pub can_run : FitsProgram program t → IsShort t → CanBeRun types vars t
  can_run fits short = record {
    fits = subst (λ (vs : List VarEntry). TripleFits types vs t) (own fits.entry fits.there)
        (subst (λ (ts : List TypeEntry). TripleFits ts (fits.entry).vars t) (sym types_are) fits.fits);
    tails = fits.tails;
    news = short.news;
  }

  module _ (triples : List Triple) (first : List ℕ) (lines : List (List ℕ)) (e : ProcEntry) (names : NamesTriple program triples first t e) where
    own_types : (P : List TypeEntry → List VarEntry → Type 0) → P types vars → P program.types e.vars
    own_types P p = subst (λ (ts : List TypeEntry). P ts e.vars) types_are (subst (λ (vs : List VarEntry). P types vs) (sym (own e names.entry)) p)

    -- it is a store, of which this is said
    pub says_store : (s : StoreMap) (a : Answer) (line : List ℕ) → read_text types vars lines ≡ Ok s → Replays types vars t s a → line ≡ line_of types vars a →
        SaysOf program triples (first ∷ lines) a line
    says_store s a line read replays is =
        let spelled = own_types (λ ts vs. line ≡ line_of ts vs a) is in
        subst (λ (l : List ℕ). SaysOf program triples (first ∷ lines) a l) (sym spelled)
        (store first lines t e s a names (own_types (λ ts vs. read_text ts vs lines ≡ Ok s) read) (own_types (λ ts vs. Replays ts vs t s a) replays))

    -- it has a fault
    pub says_fault : (fault : StoreFault) → read_text types vars lines ≡ Err fault →
        SaysOf program triples (first ∷ lines) (StoreRefused (fault.line + 1) fault.kind) (store_refused_line (fault.line + 1) fault.kind)
    says_fault fault read =
        refused (first ∷ lines) (fault.line + 1) fault.kind (no_store first lines t e fault names (own_types (λ ts vs. read_text ts vs lines ≡ Err fault) read))

  -- by what came of it at the triple's start
  module _ (triples : List Triple) (text : List ℕ) (b : Begun) (begun_so : Begins types vars t.start (lines_of text) b) where
    says_begun : {E : Type 0} (s : StoreMap) (a : Answer) → read_text types vars (lines_of text) ≡ Ok s → Replays types vars t s a → (r : Result Replay E) →
        IfOk r (Says a (line_of types vars a)) → IfOk r (SaysOfText program triples t text)
    says_begun s a read replays (Err e) says = tt
    says_begun s a read replays (Ok r) says = λ first e names.
        by_words (SaysOf program triples (first ∷ lines_of text)) a (line_of types vars a) r says
        (says_store triples first (lines_of text) e names s a (line_of types vars a) read replays refl)

    pub says_ill : {E : Type 0} (wrong : WfFault) → b ≡ begun.NotWellFormed wrong → (r : Result Replay E) →
        IfOk r (Says (answer.NotWellFormed wrong) (line_of types vars (answer.NotWellFormed wrong))) → IfOk r (SaysOfText program triples t text)
    says_ill wrong is =
        let (s, read, first) = is_ill types vars t.start (lines_of text) b begun_so wrong is in
        says_begun s (answer.NotWellFormed wrong) read (not_well_formed wrong first)

    pub says_false : {E : Type 0} → b ≡ begun.StartFalse → (r : Result Replay E) →
        IfOk r (Says answer.StartFalse (line_of types vars answer.StartFalse)) → IfOk r (SaysOfText program triples t text)
    says_false is =
        let (s, read, well, other) = is_false types vars t.start (lines_of text) b begun_so is in
        says_begun s answer.StartFalse read (start_false well other)

    -- the store that met it
    module _ (s : StoreMap) (is : b ≡ begun.Meets s) where
      met : (read_text types vars (lines_of text) ≡ Ok s) × IsWellFormed types vars s × StartHolds types vars t.start s
      met = is_met types vars t.start (lines_of text) b begun_so s is

      pub meets_so : Meets types vars t s
      meets_so = let (read, well, holds) = met in record { well_formed = well; start = holds }

      pub small_so : s.next ≤ 1000001
      small_so = read_small types vars (lines_of text) s met.0

      pub says_met : {E : Type 0} (a : Answer) → Replays types vars t s a → (r : Result Replay E) → IfOk r (Says a (line_of types vars a)) →
          IfOk r (SaysOfText program triples t text)
      says_met a = says_begun s a met.0

    pub says_unread : {E : Type 0} (fault : StoreFault) → b ≡ begun.Refused fault → (n : ℕ) → n ≡ fault.line → (r : Result Replay E) →
        IfOk r (Says (StoreRefused (n + 1) fault.kind) (store_refused_line (n + 1) fault.kind)) → IfOk r (SaysOfText program triples t text)
    says_unread fault is n same (Err e) says = tt
    says_unread fault is n same (Ok r) says = λ first e names.
        by_words (SaysOf program triples (first ∷ lines_of text)) (StoreRefused (n + 1) fault.kind) (store_refused_line (n + 1) fault.kind) r says
        (subst (λ (k : ℕ). SaysOf program triples (first ∷ lines_of text) (StoreRefused (k + 1) fault.kind) (store_refused_line (k + 1) fault.kind))
        (sym same) (says_fault triples first (lines_of text) e names fault (is_refused types vars t.start (lines_of text) b begun_so fault is)))

-- ---- the part after `---`

module _ (program : TypedProgram) (triples : List Triple) (part : List ℕ) where
  pub empty_part : (length part == 0) ≡ true → IsRefusedAt program triples (lines_of part) 1 Missing
  empty_part none = subst (λ (ls : List (List ℕ)). IsRefusedAt program triples ls 1 Missing) (sym (no_lines part none)) nothing

  module _ (line text : List ℕ) (split : lines_of part ≡ line ∷ lines_of text) where
    pub unnumbered : ((number : ℕ) → IsTripleLine line number → ⊥) → IsRefusedAt program triples (lines_of part) 1 Syntax
    unnumbered none =
        subst (λ (ls : List (List ℕ)). IsRefusedAt program triples ls 1 Syntax) (sym split) (no_triple_line line (lines_of text) none)

    module _ (number : ℕ) (spelled : IsTripleLine line number × (0 < number)) where
      placed : IsTripleLine line (suc (number - 1))
      placed = subst (IsTripleLine line) (sym (one_more number spelled.1)) spelled.0

      pub unknown : slice_get triples (number - 1) ≡ None → IsRefusedAt program triples (lines_of part) 1 UnknownName
      unknown none = subst (λ (ls : List (List ℕ)). IsRefusedAt program triples ls 1 UnknownName) (sym split)
          (no_triple line (lines_of text) (number - 1) placed none)

      pub says_part : {E : Type 0} (t : Triple) → slice_get triples (number - 1) ≡ Some t → FitsProgram program t → (r : Result Replay E) →
          IfOk r (SaysOfText program triples t text) → IfOk r (λ r. SaysOf program triples (lines_of part) r.answer r.line)
      says_part t there fits (Err e) says = tt
      says_part t there fits (Ok r) says = subst (λ (ls : List (List ℕ)). SaysOf program triples ls r.answer r.line) (sym split)
          (says line fits.entry (record { place = number - 1; number = placed; there = there; entry = fits.there }))

-- ---- the whole text

-- what is said of a text that is cut
pub cut_replay : (text program : List ℕ) (part : Option (Bor (List ℕ))) (after : Bor (List ℕ)) → part ≡ Some after →
    IfSome part (λ after. IsCutAs text program after.now) → (typed : TypedProgram) (triples : List Triple) → IsReadAs program typed triples →
    (a : Answer) (line : List ℕ) → SaysOf typed triples (lines_of after.now) a line → IsReplayOf text a line
cut_replay text program part after is parts typed triples read a line says =
    cut program after.now typed triples a line
    (subst (λ (o : Option (Bor (List ℕ))). IfSome o (λ after. IsCutAs text program after.now)) is parts) read says

-- what is said of one that isn't
pub uncut_replay : (text program : List ℕ) (part : Option (Bor (List ℕ))) → part ≡ None → IfNone part ((program ≡ text) × HasNoCut text) →
    (typed : TypedProgram) (triples : List Triple) → IsReadAs program typed triples → (r : Replay) →
    Says (StoreRefused 0 Missing) (store_refused_line 0 Missing) r → IsReplayOf text r.answer r.line
uncut_replay text program part is whole typed triples read r says =
    let uncut_is = subst (λ (o : Option (Bor (List ℕ))). IfNone o ((program ≡ text) × HasNoCut text)) is whole in
    by_words (IsReplayOf text) (StoreRefused 0 Missing) (store_refused_line 0 Missing) r says
    (uncut typed triples uncut_is.1 (subst (λ (l : List ℕ). IsReadAs l typed triples) uncut_is.0 read))
