use Rattle.pale_modes.proofs.DecidedLemmas.{decided}
use Rattle.pale_modes.proofs.completing.texts_within_their_peaks_are_decided.Goals as goal

pub returns : goal.returns
returns c limit text output status tree short within decides =
    decided (record {
      tokens = c.tokens_are_one.ensures;
      apart = c.stray_byte_is_one.ensures.apart;
      source = c.one_source.ensures.tree;
      no_limit = c.limits_are_no_answers_within_the_peak.ensures;
    }) limit text tree within output status short decides
