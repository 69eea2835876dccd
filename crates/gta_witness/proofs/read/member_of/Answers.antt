-- A class has its weight by a state.
use Rattle.std.proofs.Common.{◌≡◌, Some, None, ◌∙◌}
use Rattle.gta_witness.proofs.read.member_of.Goals as goal

pub unreachable-requires : goal.unreachable-requires
unreachable-requires c =
    let has = c.requires.1 in
    let both : None ≡ Some has.entry = c.in_default.ensures ∙ has.there in
    absurd cc
