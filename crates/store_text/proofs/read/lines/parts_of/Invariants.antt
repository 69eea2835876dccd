use Rattle.std.proofs.Common.{◌≡◌, ◌++◌, drop}
use Rattle.store_text.specs.Lines.{parts_from, parts_of}
use Rattle.store_text.proofs.LineLemmas.{before}
use Rattle.store_text.proofs.read.lines.parts_of.Given as goal

abbrev pub invariant-loop-byte : goal.invariant-loop-byte
invariant-loop-byte l = l.parts ++ before l.part (parts_from l.braced (drop l.byte-index l.line)) ≡ parts_of l.line
