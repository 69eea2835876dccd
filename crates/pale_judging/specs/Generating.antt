-- What `gen` writes for a seed and how it ends: what `check` reports on the generator's program of that seed, counted.
use Rattle.std.specs.Prelude.{◌≡◌, ◌<◌, ◌≤◌, ℕ, true, false, List, [], ◌++◌, codes, count_by, length}
use Rattle.std.specs.List.{list_all}
use Rattle.std.specs.Fmt.{decimal}
use Rattle.pale_text.specs.declared.refusal.Refusal.{Refusal}
use Rattle.store_exec.specs.declared.triple.Triple.{Triple}
use Rattle.pale_typed.specs.TypedPrograms.{TypedProgram}
use Rattle.pale_generator.specs.Generated.{program_text}
use Rattle.whole_program.specs.ProgramTexts.{IsReadAs, IsRefusedAs}
use Rattle.pale_status.specs.declared.status.Status.{Status}
use Rattle.pale_status.specs.declared.status.Status.TheVariants.{Text}
use Rattle.pale_status.specs.Report.{refused_line, too_long_line}
use Rattle.pale_status.specs.Texts.{most_bytes}
use Rattle.program_judge.specs.declared.ways.Ending.{Ending}
use Rattle.program_judge.specs.declared.ways.FieldWay.{FieldWay}
use Rattle.program_judge.specs.declared.ways.TripleWay.{TripleWay}
use Rattle.program_judge.specs.Reports.{pointer_fields, is_functional, is_valid, is_invalid, is_at_limit, stopped_ending, judged_ending}
use Rattle.program_judge.specs.Reports.{ReportsFields, ReportsTriples}
use Rattle.pale_judging.specs.Checking.{status_of}

-- ` procedures P triples T`
abbrev pub gen_sizes : ℕ → ℕ → List ℕ
gen_sizes procedures triples = codes " procedures " ++ decimal procedures ++ codes " triples " ++ decimal triples

-- `gen N procedures P triples T`
abbrev pub gen_head : ℕ → ℕ → ℕ → List ℕ
gen_head seed procedures triples = codes "gen " ++ decimal seed ++ gen_sizes procedures triples

-- ` valid V invalid I limit X`
abbrev pub gen_counts : List TripleWay → List ℕ
gen_counts ways =
    codes " valid " ++ decimal (count_by is_valid ways) ++ codes " invalid " ++ decimal (count_by is_invalid ways)
    ++ codes " limit " ++ decimal (count_by is_at_limit ways) ++ codes "\n"

-- the line of a seed
abbrev pub gen_line : ℕ → ℕ → ℕ → List TripleWay → List ℕ
gen_line seed procedures triples ways = gen_head seed procedures triples ++ gen_counts ways

-- how the triples are told to be judged where some lines report on them: none where some field isn't functional, and else each
pub data Counts (limit : ℕ) (program : TypedProgram) (triples : List Triple) : List TripleWay → Ending → Type 0 where
  stopped : (lines : List ℕ) (ways : List FieldWay) → ReportsFields limit program.types (pointer_fields program.types) lines ways
      → list_all is_functional ways ≡ false → Counts limit program triples [] (stopped_ending ways)
  judged : (lines : List ℕ) (ways : List FieldWay) (reports : List ℕ) (told : List TripleWay)
      → ReportsFields limit program.types (pointer_fields program.types) lines ways → list_all is_functional ways ≡ true
      → ReportsTriples limit program 1 triples reports told → Counts limit program triples told (judged_ending told)

-- what is written of a program and its triples, and the status
pub data Tells (limit seed : ℕ) (program : TypedProgram) (triples : List Triple) : List ℕ → Status → Type 0 where
  told : (ways : List TripleWay) (how : Ending) → Counts limit program triples ways how
      → Tells limit seed program triples (gen_line seed (length program.procs) (length triples) ways) (status_of how)

-- what is written for a seed, and the status: by what the seed's program is read as
pub data Gens (limit seed : ℕ) : List ℕ → Status → Type 0 where
  too_long : most_bytes < length (program_text seed) → Gens limit seed too_long_line Text
  refused : (refusal : Refusal) → length (program_text seed) ≤ most_bytes → IsRefusedAs (program_text seed) refusal
      → Gens limit seed (refused_line refusal) Text
  counted : (program : TypedProgram) (triples : List Triple) (output : List ℕ) (status : Status) → length (program_text seed) ≤ most_bytes
      → IsReadAs (program_text seed) program triples → Tells limit seed program triples output status → Gens limit seed output status
