use Rattle.whole_run.proofs.Programs.{texts_apart}
use Rattle.whole_run.proofs.texts.programs_of_texts_have_distinct_places.Goals as goal

pub returns : goal.returns
returns c = λ text list steps tree lexed is. texts_apart text list tree lexed (c.words_stand_at_their_places.ensures list.tokens steps tree is)
