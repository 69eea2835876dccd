-- Where every triple is valid, no whole run fails.
use Rattle.std.proofs.Common.{◌≡◌, ◌∙◌, ℕ, List, ap, subst, sym, Some, None, slice_get}
use Rattle.std.specs.Prelude.{Contains}
use Rattle.ll1_reader.specs.Readings.{Step}
use Rattle.store_core.specs.Stores.{StoreMap}
use Rattle.routing_walks.proofs.GatheringLemmas.{place_in}
use Rattle.store_exec.specs.declared.cause.Cause.{Cause}
use Rattle.store_exec.specs.declared.triple.Triple.{Triple}
use Rattle.pale_syntax.specs.declared.grammar.act.Act.{Act}
use Rattle.pale_syntax.specs.declared.tree.declaration.Program.{Program}
use Rattle.pale_syntax.specs.ProgramReading.{IsProgram}
use Rattle.pale_text.specs.declared.token.TokenList.{TokenList}
use Rattle.pale_text.specs.Lexing.{IsLexed}
use Rattle.pale_types.specs.Programs.{program_fault, typed_program}
use Rattle.pale_typed.specs.declared.typed.ProcEntry.{ProcEntry}
use Rattle.pale_typed.specs.TypedPrograms.{TypedProgram}
use Rattle.hoare_split.specs.Triples.{triples_of}
use Rattle.whole_program.specs.ProgramTexts.{IsReadAs}
use Rattle.triple_judge.specs.Judging.{IsValid}
use Rattle.whole_run.specs.States.{Fail}
use Rattle.whole_run.specs.Runs.{WholeRun}
use Rattle.whole_run.specs.Safety.{NoTripleFails, MeetsEntry}
use Rattle.program_promises.specs.Safety.{RunsNeverFail}

abbrev pub AreValid : TypedProgram → List Triple → Type 0
AreValid program triples = (i : ℕ) (t : Triple) (e : ProcEntry) → slice_get triples i ≡ Some t → slice_get program.procs t.proc ≡ Some e →
    IsValid program.types e.vars t

abbrev pub NeverFail : Type 0
NeverFail = (text : List ℕ) (list : TokenList) (steps : List (Step Act)) (tree : Program) → IsLexed text list →
    IsProgram list.tokens steps tree → program_fault tree ≡ None → NoTripleFails (typed_program tree) → RunsNeverFail (typed_program tree)

none-fails : (program : TypedProgram) (triples : List Triple) → triples ≡ triples_of program → AreValid program triples → NoTripleFails program
none-fails program triples split all t entry s why line inside there meets fails =
    let (i, at) = place_in (triples_of program) t inside in
    all i t entry (ap (λ (ts : List Triple). slice_get ts i) split ∙ at) there s why line meets fails

pub runs-safe : NeverFail → (text : List ℕ) (program : TypedProgram) (triples : List Triple) → IsReadAs text program triples → AreValid program triples →
    RunsNeverFail program
runs-safe never text program triples read all =
    let tree = read.tree in
    let none = subst NoTripleFails read.typed (none-fails program triples read.split all) in
    let parsed = read.written.parsed in
    subst RunsNeverFail (sym read.typed)
    (never text read.written.list parsed.steps tree read.written.lexed parsed.sentence read.no_fault none)
