use Rattle.pale_modes.proofs.FormattingLemmas.{one_output}
use Rattle.pale_modes.proofs.laws.formatting_is_one.Goals as goal

pub returns : goal.returns
returns c =
    one_output (record {
      tokens = c.tokens_are_one.ensures;
      stray = c.stray_byte_is_one.ensures.place;
      apart = c.stray_byte_is_one.ensures.apart;
      tree = c.one_program.ensures.tree;
    })
