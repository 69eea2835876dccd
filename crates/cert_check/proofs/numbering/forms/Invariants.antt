use Rattle.std.proofs.Common.{take}
use Rattle.cert_check.specs.Numbering.{AreForms}
use Rattle.cert_check.proofs.numbering.forms.Given as goal

abbrev pub invariant-loop-place : goal.invariant-loop-place
invariant-loop-place l = AreForms l.interner (take l.place l.ids) l.nodes
