use Rattle.std.proofs.Common.{◌≡◌, ◌+◌, ◌<◌, ℕ, Some, None, Option, option_map, List, slice_get, refl, sym, subst, arith}
use Rattle.store_core.specs.Tables.{VarEntry}
use Rattle.store_core.specs.Stores.{StoreMap, Fits, IsFresh}
use Rattle.pale_typed.specs.declared.typed.ProcEntry.{ProcEntry}
use Rattle.pale_typed.specs.TypedPrograms.{TypedProgram}
use Rattle.whole_exec.specs.Starting.{CanStart}
use Rattle.whole_exec_tests.proofs.answers.started.Goals as goal

-- the procedure of which these are the variables
can_start : (program : TypedProgram) (number : ℕ) (vars : List VarEntry) (s : StoreMap) (steps : ℕ) (o : Option ProcEntry) →
    slice_get program.procs number ≡ o → Some vars ≡ option_map (λ (e : ProcEntry). e.vars) o → Fits program.types vars s → IsFresh s →
    s.next + steps < 4294967295 → CanStart program number s steps
can_start program number vars s steps None there is fits fresh room = absurd cc
can_start program number vars s steps (Some entry) there is fits fresh room =
    let same : vars ≡ entry.vars = cc in
    record { entry = entry; there = there; fits = subst (λ (vs : List VarEntry). Fits program.types vs s) same fits; fresh = fresh; room = room }

pub run_procedure-requires-clause-start : goal.run_procedure-requires-clause-start
run_procedure-requires-clause-start c =
    let program = c.args.program.now in
    let next = c.requires.next in
    let steps = c.requires.steps in
    can_start program c.args.number c.args.vars.now c.args.store c.args.steps (slice_get program.procs c.args.number) refl (sym c.requires.vars)
    c.requires.fits c.requires.fresh (omega (arith, next, steps))
