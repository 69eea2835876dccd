use Rattle.std.proofs.Common.{◌≡◌, ◌++◌, Ok, drop}
use Rattle.ws2s_read.specs.Resolving.{resolved_arguments, ◌>>=◌}
use Rattle.ws2s_read.proofs.atoms.resolve_arguments.Given as goal

abbrev pub invariant-loop-place : goal.invariant-loop-place
invariant-loop-place l =
    (resolved_arguments l.names (drop l.place l.classes) (drop l.place l.terms) >>= λ rest. Ok (l.arguments ++ rest))
    ≡ resolved_arguments l.names l.classes l.terms
