use Rattle.std.proofs.Common.{◌≡◌, ℕ, ◌+◌, subst, arith}
use Rattle.store_logic.specs.Filling.{args_for, filled, put_in}
use Rattle.store_logic.proofs.ExpandingTwice.{through, filled-twice}
use Rattle.store_logic.proofs.expanding_laws.arguments_go_into_arguments.Goals as goal

pub returns : goal.returns
returns c = λ args inner body depth h.
    subst (λ (n : ℕ). filled (args_for args) (put_in inner body) n ≡ put_in (through args depth inner) body)
    (let same : depth + 0 ≡ depth = omega arith in same) (filled-twice args depth inner body 0 h)
