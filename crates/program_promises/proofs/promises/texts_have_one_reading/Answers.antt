use Rattle.program_promises.proofs.ReadingLemmas.{one_reading, read_apart}
use Rattle.program_promises.proofs.promises.texts_have_one_reading.Goals as goal

pub returns-clause-one : goal.returns-clause-one
returns-clause-one c =
    one_reading (record { tokens = c.tokens_are_one.ensures; apart = c.stray_byte_is_one.ensures.apart; tree = c.one_program.ensures.tree })

pub returns-clause-apart : goal.returns-clause-apart
returns-clause-apart c =
    read_apart (record { tokens = c.tokens_are_one.ensures; apart = c.stray_byte_is_one.ensures.apart; tree = c.one_program.ensures.tree })
