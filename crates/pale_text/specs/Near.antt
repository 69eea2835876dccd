-- The tokens about the place that is read.
use Rattle.std.specs.Prelude.{Option}
use Rattle.std.specs.Option.{option_copied}
use Rattle.pale_text.specs.declared.near.Near.{Near as Held}
use Rattle.pale_text.specs.declared.token.Token.{Token}

-- the token read last, and the one that comes next
pub record Near : Type 0 where
  pub last : Option Token
  pub next : Option Token

-- the tokens that a reader holds
abbrev pub near_of : Held → Near
near_of near = record { last = option_copied near.last; next = option_copied near.next }
