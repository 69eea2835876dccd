use Rattle.pale_types.specs.Programs.{typed_program}
use Rattle.whole_run.proofs.texts.programs_of_texts_never_fail.Goals as goal

pub returns : goal.returns
returns c = λ text list steps tree lexed is none never number s n why line met run.
    c.whole_runs_never_fail.ensures (typed_program tree) (c.programs_without_fault_fit.ensures tree none)
    (c.programs_of_texts_have_distinct_places.ensures text list steps tree lexed is) never number s n why line met run
