use Rattle.std.proofs.Common.{map, refl}
use Rattle.ll1_reader.specs.Answers.{event_of}
use Rattle.pale_text.specs.Kinds.{kinds_by}
use Rattle.pale_text.specs.Making.{tree_by}
use Rattle.pale_text.proofs.laws.each_sentence_has_a_tree.Goals as goal

pub returns : goal.returns
returns g c tokens steps any =
    let counted = c.each_sentence_has_a_reading_that_counts.ensures.counts (kinds_by g.L.Language.kind_of tokens) steps any in (
      counted.0,
      tree_by g.L.Language.after g.L.Language.nothing g.L.Language.tree_of tokens (map event_of counted.0),
      record { reading = counted.1; made = refl },
    )
