-- The triples of a program that fits fit it, and they are short where nothing is refused.
use Rattle.std.proofs.Common.{◌≡◌, ◌+◌, ℕ, zero, suc, true, nat_lt, List, [], ◌∷◌, ◌++◌, length, map, slice_get, Some, None}
use Rattle.std.proofs.Common.{refl, sym, ap, ◌∙◌, arith, append_assoc}
use Rattle.std.specs.List.{AllByRecursion}
use Rattle.std.proofs.lemmas.List.{length_push}
use Rattle.store_core.specs.Tables.{TypeEntry}
use Rattle.store_logic.proofs.ExpandingLists.{all-append}
use Rattle.store_exec.specs.Fits.{news_of_code}
use Rattle.pale_tables.specs.Faults.{first_of}
use Rattle.pale_tables.proofs.KnownRoutes.{both, needed}
use Rattle.pale_typed.specs.declared.typed.ProcEntry.{ProcEntry}
use Rattle.pale_typed.specs.TypedPrograms.{TypedProgram}
use Rattle.pale_typed.specs.Fitting.{ProcFits, ProgramFits}
use Rattle.hoare_split.specs.Picking.{is_left}
use Rattle.hoare_split.specs.Settings.{settings}
use Rattle.hoare_split.specs.Flows.{ends, code_of}
use Rattle.hoare_split.specs.Cuts.{at_exit}
use Rattle.hoare_split.specs.Passages.{Started}
use Rattle.hoare_split.specs.Counts.{atoms_of_code}
use Rattle.hoare_split.specs.Triples.{exit_of, starts_of, triple_of, triples_from, triples_of, start_fault, procedure_fault, split_fault}
use Rattle.hoare_split.specs.Fitting.{FitsProgram, IsShort}
use Rattle.hoare_split.proofs.FittingCodeLemmas.{FlowFits, after-fits, flow-code-fits, flow-cuts-fit, tails-named}
use Rattle.hoare_split.proofs.FittingVariableLemmas.{left-program, settings-fit}
use Rattle.hoare_split.proofs.FittingClaimLemmas.{PutsFit, exit-arrival, entry-starts}
use Rattle.hoare_split.proofs.FittingStatementLemmas.{StartedFits, block-fits}

-- the one that stands behind so many
at-middle : (before entries : List ProcEntry) (e : ProcEntry) (number : ℕ) → number ≡ length before → slice_get (before ++ e ∷ entries) number ≡ Some e
at-middle [] entries e number is = ap (λ n. slice_get (e ∷ entries) n) is
at-middle (first ∷ before) entries e zero is = absurd cc
at-middle (first ∷ before) entries e (suc number) is = let less : number ≡ length before = cc in at-middle before entries e number less

-- ---- procedures

module _ (law : PutsFit) (program : TypedProgram) (fits : ProgramFits program) where
  abbrev types : List TypeEntry
  types = program.types

  abbrev procs : List ProcEntry
  procs = program.procs

  exit-fits : (e : ProcEntry) → ProcFits types procs e → FlowFits types e.vars (exit_of e.vars e.proc)
  exit-fits e fit =
      after-fits types e.vars (settings e.vars (is_left e.proc) e.proc.last) (ends (at_exit e.proc.last e.proc.post))
      (settings-fit types e.vars (is_left e.proc) e.proc.last (left-program e.vars e.proc))
      (exit-arrival types e.vars e.proc.last e.proc.post (fit.post).fits)

  starts-fit : (e : ProcEntry) → ProcFits types procs e → AllByRecursion (StartedFits types e.vars) (starts_of procs e)
  starts-fit e fit =
      let body = block-fits law types procs fits.procs e.vars e.proc.body fit.body in
      let exit = exit-fits e fit in (
        record { start = entry-starts types procs e fit; flow = body.flow (exit_of e.vars e.proc) exit },
        body.starts (exit_of e.vars e.proc) exit,
      )

  triple-fits : (number : ℕ) (e : ProcEntry) → slice_get procs number ≡ Some e → (s : Started) → StartedFits types e.vars s →
      FitsProgram program (triple_of number s)
  triple-fits number e there s fit =
      let cuts = flow-cuts-fit types e.vars s.flow fit.flow in
      record {
        entry = e;
        there = there;
        fits = record { start = (fit.start).fits; code = flow-code-fits types e.vars s.flow fit.flow; cuts = cuts.0 };
        tails = tails-named s.flow;
        start = (fit.start).regions;
        cuts = cuts.1;
      }

  each-fits : (number : ℕ) (e : ProcEntry) → slice_get procs number ≡ Some e → (starts : List Started) → AllByRecursion (StartedFits types e.vars) starts →
      AllByRecursion (FitsProgram program) (map (triple_of number) starts)
  each-fits number e there [] all = tt
  each-fits number e there (s ∷ starts) all = (triple-fits number e there s all.0, each-fits number e there starts all.1)

  from-fits : (before entries : List ProcEntry) (number : ℕ) → procs ≡ before ++ entries → number ≡ length before →
      AllByRecursion (ProcFits types procs) entries → AllByRecursion (FitsProgram program) (triples_from procs number entries)
  from-fits before [] number whole is all = tt
  from-fits before (e ∷ entries) number whole is all =
      all-append (FitsProgram program) (map (triple_of number) (starts_of procs e)) (triples_from procs (number + 1) entries)
      (each-fits number e (ap (λ (l : List ProcEntry). slice_get l number) whole ∙ at-middle before entries e number is) (starts_of procs e)
      (starts-fit e all.0))
      (from-fits (before ++ e ∷ []) entries (number + 1) (whole ∙ sym (append_assoc before (e ∷ []) entries))
      (ap (λ n. n + 1) is ∙ sym (length_push before e)) all.1)

  pub triples-fit : AllByRecursion (FitsProgram program) (triples_of program)
  unfolding triples_of
  triples-fit = from-fits [] procs 0 refl refl fits.procs

-- ---- counts

short-start : (number : ℕ) (s : Started) → start_fault s ≡ None → IsShort (triple_of number s)
short-start number s none =
    let parts = both _ _ none in
    let atoms : nat_lt (atoms_of_code (code_of s.flow)) 129 ≡ true = needed _ _ _ parts.0 in
    let news : nat_lt (news_of_code (code_of s.flow)) 65 ≡ true = needed _ _ _ parts.1 in
    record { atoms = grind arith; news = grind arith }

short-starts : (number : ℕ) (starts : List Started) → first_of start_fault starts ≡ None → AllByRecursion IsShort (map (triple_of number) starts)
short-starts number [] none = tt
short-starts number (s ∷ starts) none = let parts = both _ _ none in (short-start number s parts.0, short-starts number starts parts.1)

short-from : (all : List ProcEntry) (number : ℕ) (entries : List ProcEntry) → first_of (procedure_fault all) entries ≡ None →
    AllByRecursion IsShort (triples_from all number entries)
short-from all number [] none = tt
short-from all number (e ∷ entries) none =
    let parts = both _ _ none in
    all-append IsShort (map (triple_of number) (starts_of all e)) (triples_from all (number + 1) entries)
    (short-starts number (starts_of all e) parts.0) (short-from all (number + 1) entries parts.1)

pub triples-short : (program : TypedProgram) → split_fault program ≡ None → AllByRecursion IsShort (triples_of program)
unfolding split_fault triples_of
triples-short program none = short-from program.procs 0 program.procs none
