-- What is written of the starts of a program's triples, by the limit of decision nodes.
use Rattle.std.specs.Prelude.{◌≡◌, ◌⊎◌, ◌<◌, ◌≤◌, ℕ, suc, Bool, true, false, List, [], ◌∷◌, ◌++◌, codes, count_by, length, slice_get, Some}
use Rattle.std.specs.Fmt.{decimal}
use Rattle.store_core.specs.Stores.{StoreMap}
use Rattle.store_exec.specs.declared.triple.Triple.{Triple}
use Rattle.store_text.specs.StoreText.{store_text_of}
use Rattle.pale_typed.specs.declared.typed.ProcEntry.{ProcEntry}
use Rattle.pale_typed.specs.TypedPrograms.{TypedProgram}
use Rattle.program_judge.specs.Lines.{triple_head, limit_line}
use Rattle.program_judge.specs.declared.meet_way.MeetWay.{MeetWay}
use Rattle.program_judge.specs.declared.meet_way.MeetWay.TheVariants as way
use Rattle.program_judge.specs.Starts.{IsUnmet, IsLeastMeeting, HasStartPeak}

-- ---- lines

-- `triple K PROC line L met`
abbrev pub met_line : ℕ → List ℕ → ℕ → List ℕ
met_line k name line = triple_head k name line ++ codes " met\n"

-- `triple K PROC line L empty`
abbrev pub empty_line : ℕ → List ℕ → ℕ → List ℕ
empty_line k name line = triple_head k name line ++ codes " empty\n"

-- so many triples, of which these are met, these are met by no store, and these came to the limit
abbrev pub meet_totals : ℕ → ℕ → ℕ → ℕ → List ℕ
meet_totals triples met empty limit =
    codes "triples " ++ decimal triples ++ codes " met " ++ decimal met ++ codes " empty " ++ decimal empty
    ++ codes " limit " ++ decimal limit ++ codes "\n"

-- ---- triples

-- what is written of the start of the triple with this number, counted from 1, over the variables of its procedure: a least store that
-- meets it; that none does; or that it came to the limit, only where the Peak of its start exceeds it
pub data ReportsMeet (limit : ℕ) (program : TypedProgram) (k : ℕ) (t : Triple) : List ℕ → MeetWay → Type 0 where
  met : (e : ProcEntry) (s : StoreMap) → slice_get program.procs t.proc ≡ Some e → IsLeastMeeting program.types e.vars t s
      → ReportsMeet limit program k t (met_line k e.proc.name t.line ++ store_text_of program.types e.vars s) way.Met
  empty : (e : ProcEntry) → slice_get program.procs t.proc ≡ Some e → IsUnmet program.types e.vars t
      → ReportsMeet limit program k t (empty_line k e.proc.name t.line) way.Empty
  at_limit : (e : ProcEntry) → slice_get program.procs t.proc ≡ Some e → ((p : ℕ) → HasStartPeak program.types e.vars t p → limit < p)
      → ReportsMeet limit program k t (limit_line k e.proc.name t.line) way.Limit

-- of these triples, numbered from k on, one after the other
pub data ReportsMeets (limit : ℕ) (program : TypedProgram) : ℕ → List Triple → List ℕ → List MeetWay → Type 0 where
  no_triple : (k : ℕ) → ReportsMeets limit program k [] [] []
  next_triple : (k : ℕ) (t : Triple) (ts : List Triple) (how : MeetWay) (ways : List MeetWay) (lines others : List ℕ)
      → ReportsMeet limit program k t lines how → ReportsMeets limit program (suc k) ts others ways
      → ReportsMeets limit program k (t ∷ ts) (lines ++ others) (how ∷ ways)

-- ---- totals

abbrev pub is_met : MeetWay → Bool
is_met way.Met = true
is_met way.Empty = false
is_met way.Limit = false

abbrev pub is_empty : MeetWay → Bool
is_empty way.Met = false
is_empty way.Empty = true
is_empty way.Limit = false

abbrev pub is_at_limit : MeetWay → Bool
is_at_limit way.Met = false
is_at_limit way.Empty = false
is_at_limit way.Limit = true

abbrev pub totals_of : List MeetWay → List ℕ
totals_of ways = meet_totals (length ways) (count_by is_met ways) (count_by is_empty ways) (count_by is_at_limit ways)

-- ---- Peaks

-- the Peak of the triple's start, over the variables of its procedure, isn't above the limit
abbrev pub IsStartWithin : ℕ → TypedProgram → Triple → Type 0
IsStartWithin limit program t = (e : ProcEntry) (p : ℕ) → slice_get program.procs t.proc ≡ Some e → HasStartPeak program.types e.vars t p → p ≤ limit

-- each of the triples whose start is within its own Peak was told to be met, or to be met by no store
abbrev pub AreStartsDecided : ℕ → TypedProgram → List Triple → List MeetWay → Type 0
AreStartsDecided limit program triples ways = (i : ℕ) (t : Triple) → slice_get triples i ≡ Some t → IsStartWithin limit program t →
    (slice_get ways i ≡ Some way.Met) ⊎ (slice_get ways i ≡ Some way.Empty)
