-- What is told of a triple, by the tables and the procedure that a call finds for it.
use Rattle.std.proofs.Common.{◌≡◌, ◌∙◌, ◌<◌, ◌++◌, ℕ, List, [], Some, option_map, slice_get, ap, ap₂, subst, sym}
use Rattle.store_core.specs.Tables.{TypeEntry, VarEntry}
use Rattle.store_core.specs.Stores.{StoreMap}
use Rattle.store_text.specs.StoreText.{store_text_of}
use Rattle.store_exec.specs.declared.cause.Cause.{Cause}
use Rattle.store_exec.specs.declared.triple.Triple.{Triple}
use Rattle.pale_typed.specs.declared.typed.ProcEntry.{ProcEntry}
use Rattle.pale_typed.specs.declared.typed.TypedProc.{TypedProc}
use Rattle.pale_typed.specs.TypedPrograms.{TypedProgram}
use Rattle.hoare_split.specs.Fitting.{FitsProgram}
use Rattle.triple_judge.specs.Judging.{IsValid, IsLeastFailing, HasTriplePeak}
use Rattle.program_judge.specs.declared.ways.TripleWay.TheVariants as way
use Rattle.program_judge.specs.Lines.{valid_line, invalid_line, limit_line}
use Rattle.program_judge.specs.Reports.{ReportsTriple, valid, invalid, triple_at_limit}
use Rattle.program_judge.proofs.StandingLemmas.{vars-same, proc-same}

module _ (limit : ℕ) (program : TypedProgram) (k : ℕ) (t : Triple) (own : FitsProgram program t) (types : List TypeEntry) (same : types ≡ program.types)
    (vars : List VarEntry) (vars-at : Some vars ≡ option_map (λ (e : ProcEntry). e.vars) (slice_get program.procs t.proc))
    (proc : TypedProc) (proc-at : Some proc ≡ option_map (λ (e : ProcEntry). e.proc) (slice_get program.procs t.proc))
    (name : List ℕ) (named : name ≡ proc.name) where
  variables : vars ≡ own.entry.vars
  variables = sym (vars-same program t own vars vars-at)

  name-is : name ≡ own.entry.proc.name
  name-is = named ∙ ap (λ (p : TypedProc). p.name) (sym (proc-same program t own proc proc-at))

  pub report-valid : (text lines : List ℕ) → text ≡ [] → lines ≡ text ++ valid_line k name t.line → IsValid types vars t →
      ReportsTriple limit program k t lines way.Valid
  report-valid text lines none written is =
      let here = subst (λ (ts : List TypeEntry). IsValid ts vars t) same is in
      let own-is = subst (λ (vs : List VarEntry). IsValid program.types vs t) variables here in
      let all : lines ≡ valid_line k own.entry.proc.name t.line =
      written ∙ ap₂ (λ (xs n : List ℕ). xs ++ valid_line k n t.line) none name-is in
      subst (λ (l : List ℕ). ReportsTriple limit program k t l way.Valid) (sym all) (valid own.entry own.there own-is)

  pub report-invalid : (text head told lines : List ℕ) (s : StoreMap) (why : Cause) (at : ℕ) → text ≡ [] →
      head ≡ text ++ invalid_line k name t.line why at → told ≡ store_text_of types vars s → lines ≡ head ++ told →
      IsLeastFailing types vars t s why at → ReportsTriple limit program k t lines way.Invalid
  report-invalid text head told lines s why at none written spelled joined is =
      let here = subst (λ (ts : List TypeEntry). IsLeastFailing ts vars t s why at) same is in
      let own-is = subst (λ (vs : List VarEntry). IsLeastFailing program.types vs t s why at) variables here in
      let line : head ≡ invalid_line k own.entry.proc.name t.line why at =
      written ∙ ap₂ (λ (xs n : List ℕ). xs ++ invalid_line k n t.line why at) none name-is in
      let store : told ≡ store_text_of program.types own.entry.vars s =
      spelled ∙ ap₂ (λ (ts : List TypeEntry) (vs : List VarEntry). store_text_of ts vs s) same variables in
      subst (λ (l : List ℕ). ReportsTriple limit program k t l way.Invalid)
      (sym (joined ∙ ap₂ (λ (xs ys : List ℕ). xs ++ ys) line store)) (invalid own.entry s why at own.there own-is)

  pub report-limit : (text lines : List ℕ) → text ≡ [] → lines ≡ text ++ limit_line k name t.line →
      ((p : ℕ) → HasTriplePeak types vars t p → limit < p) → ReportsTriple limit program k t lines way.Limit
  report-limit text lines none written over =
      let here = subst (λ (ts : List TypeEntry). (p : ℕ) → HasTriplePeak ts vars t p → limit < p) same over in
      let own-is = subst (λ (vs : List VarEntry). (p : ℕ) → HasTriplePeak program.types vs t p → limit < p) variables here in
      let all : lines ≡ limit_line k own.entry.proc.name t.line =
      written ∙ ap₂ (λ (xs n : List ℕ). xs ++ limit_line k n t.line) none name-is in
      subst (λ (l : List ℕ). ReportsTriple limit program k t l way.Limit) (sym all) (triple_at_limit own.entry own.there own-is)
