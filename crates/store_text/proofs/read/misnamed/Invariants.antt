use Rattle.std.proofs.Common.{◌≡◌, drop}
use Rattle.std.specs.List.{find}
use Rattle.store_text.specs.Reading.{is_misnamed}
use Rattle.store_text.proofs.read.misnamed.Given as goal

abbrev pub invariant-loop-mention : goal.invariant-loop-mention
invariant-loop-mention l = find (is_misnamed l.store) (drop l.mention-index l.mentions) ≡ find (is_misnamed l.store) l.mentions
