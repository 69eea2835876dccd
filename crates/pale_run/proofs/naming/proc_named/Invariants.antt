use Rattle.std.proofs.Common.{◌-◌, ◌^◌}
use Rattle.std.specs.Str.{bytes_eq}
use Rattle.pale_typed.specs.declared.typed.ProcEntry.{ProcEntry}
use Rattle.pale_run.proofs.NamingLemmas.{NoneBefore}
use Rattle.pale_run.proofs.naming.proc_named.Given as goal

-- no procedure before this one has the name
abbrev pub invariant-loop-proc : goal.invariant-loop-proc
invariant-loop-proc l = NoneBefore (λ (e : ProcEntry). bytes_eq e.proc.name l.name) l.program.procs l.number

abbrev pub decreases-loop-proc : goal.decreases-loop-proc
decreases-loop-proc l = 2 ^ 32 - l.number
