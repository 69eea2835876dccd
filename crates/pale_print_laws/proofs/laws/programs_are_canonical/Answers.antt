use Rattle.pale_print_laws.proofs.FromPrograms.{canonical_from}
use Rattle.pale_print_laws.proofs.laws.programs_are_canonical.Goals as goal

pub returns : goal.returns
returns c = λ text list steps tree limit lexed program low. canonical_from limit text list steps tree lexed program low
