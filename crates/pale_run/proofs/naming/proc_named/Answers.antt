use Rattle.std.proofs.Common.{◌∙◌, ℕ, List, option_map, slice_get, sym, ap}
use Rattle.std.specs.Borrow.{Bor}
use Rattle.std.specs.Str.{bytes_eq}
use Rattle.pale_typed.specs.declared.typed.ProcEntry.{ProcEntry}
use Rattle.pale_typed.specs.declared.typed.TypedProc.{TypedProc}
use Rattle.pale_run.proofs.NamingLemmas.{found_at, found_none, entry_there, no_entry}
use Rattle.pale_run.proofs.naming.proc_named.Goals as goal

pub returns-then-is_named : goal.returns-then-is_named
returns-then-is_named c =
    let procs = c.args.program.now.procs in
    let name = c.args.name.now in
    let (e, there, same) = entry_there (slice_get procs c.loop-proc.number) c.in-Some.proc.now
    (sym (ap (option_map (λ (it : Bor TypedProc). it.now)) c.in-Some.is) ∙ c.proc.ensures) in
    sym (found_at (λ (e : ProcEntry). bytes_eq e.proc.name name) procs c.loop-proc.number e c.loop-proc.invariant there
    (ap (λ (p : TypedProc). bytes_eq p.name name) same ∙ ap (λ (l : List ℕ). bytes_eq l name) (sym c.as_slice.ensures)
    ∙ sym c.is_named.ensures ∙ c.if-is_named.true))

pub returns : goal.returns
returns c =
    let procs = c.args.program.now.procs in
    sym (found_none (λ (e : ProcEntry). bytes_eq e.proc.name c.args.name.now) procs c.loop-proc.number c.loop-proc.invariant
    (no_entry (slice_get procs c.loop-proc.number)
    (sym (ap (option_map (λ (it : Bor TypedProc). it.now)) c.in_default.is) ∙ c.proc.ensures)))
