-- What is settled is found.
use Rattle.std.proofs.Common.{◌≡◌, Some, None, ◌∙◌}
use Rattle.gta_witness.proofs.read.reason_of.Goals as goal

pub unreachable-requires : goal.unreachable-requires
unreachable-requires c =
    let settled = c.requires.1 in
    let both : None ≡ Some settled.entry = c.in_default.ensures ∙ settled.there in
    absurd cc
