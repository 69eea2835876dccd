-- The triples of a program, and what is refused. (Hoare 1969; Møller and Schwartzbach, PLDI 2001.)
use Rattle.std.specs.Prelude.{ℕ, ◌+◌, List, [], ◌∷◌, ◌++◌, map, nat_lt}
use Rattle.pale_text.specs.declared.place.Pos.{Pos}
use Rattle.pale_text.specs.declared.refusal.RefusalKind.TheVariants as kind
use Rattle.pale_tables.specs.Faults.{Fault, need, ◌>>◌, first_of}
use Rattle.pale_typed.specs.declared.typed.ProcEntry.{ProcEntry}
use Rattle.pale_typed.specs.declared.typed.TypedProc.{TypedProc}
use Rattle.pale_typed.specs.TypedPrograms.{TypedProgram}
use Rattle.store_core.specs.Tables.{VarEntry}
use Rattle.store_exec.specs.declared.triple.Triple.{Triple}
use Rattle.store_exec.specs.Fits.{news_of_code}
use Rattle.hoare_split.specs.Picking.{is_left}
use Rattle.hoare_split.specs.Settings.{settings}
use Rattle.hoare_split.specs.Flows.{Flow, ends, after_items, code_of, cuts_of}
use Rattle.hoare_split.specs.Cuts.{at_exit}
use Rattle.hoare_split.specs.Starts.{entry_start}
use Rattle.hoare_split.specs.Passages.{Started}
use Rattle.hoare_split.specs.Statements.{block_of}
use Rattle.hoare_split.specs.Counts.{atoms_of_code}

-- ---- procedures

-- the exit: every data and pointer variable that is no result is set to null
abbrev pub exit_of : List VarEntry → TypedProc → Flow
exit_of vars p = after_items (settings vars (is_left p) p.last) (ends (at_exit p.last p.post))

-- the cut points where triples start: the entry, and then those of the body in order of the text
abbrev pub starts_of : List ProcEntry → ProcEntry → List Started
starts_of procs e =
    record {
      place = e.proc.place;
      start = entry_start e.vars e.proc;
      flow = (block_of procs e.vars e.proc.body).flow (exit_of e.vars e.proc);
    } ∷ (block_of procs e.vars e.proc.body).starts (exit_of e.vars e.proc)

-- the triple that starts there, in the procedure of this number
abbrev pub triple_of : ℕ → Started → Triple
triple_of number s = record { proc = number; line = s.place.line; start = s.start; code = code_of s.flow; cuts = cuts_of s.flow }

-- ---- programs

-- those of procedures in order, the first of which has this number
abbrev pub triples_from : List ProcEntry → ℕ → List ProcEntry → List Triple
triples_from procs number [] = []
triples_from procs number (e ∷ entries) = map (triple_of number) (starts_of procs e) ++ triples_from procs (number + 1) entries

-- the triples of a program
unfoldable pub triples_of : TypedProgram → List Triple
triples_of program = triples_from program.procs 0 program.procs

-- ---- faults

-- a code of at most 128 atoms, and then of at most 64 `new`
abbrev pub count_fault : Pos → ℕ → ℕ → Fault
count_fault place atoms news = need (nat_lt atoms 129) kind.LongPart place >> need (nat_lt news 65) kind.ManyNew place

abbrev pub start_fault : Started → Fault
start_fault s = count_fault s.place (atoms_of_code (code_of s.flow)) (news_of_code (code_of s.flow))

abbrev pub procedure_fault : List ProcEntry → ProcEntry → Fault
procedure_fault procs e = first_of start_fault (starts_of procs e)

-- the first fault of the triples in order
unfoldable pub split_fault : TypedProgram → Fault
split_fault program = first_of (procedure_fault program.procs) program.procs
