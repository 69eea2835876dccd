-- Labels, and functions from labels to states. A track is a plain number.
use Rattle.std.specs.Prelude.{◌≡◌, ◌≢◌, ℕ, Bool, false, ◌==◌, nat_lt, if◌then◌else◌}

-- which tracks are set
abbrev pub Label : Type 0
Label = ℕ → Bool

-- no track is set
abbrev pub empty_label : Label
empty_label = λ t. false

-- the label with one track set or unset
abbrev pub with_track : Label → ℕ → Bool → Label
with_track label t bit = λ u. if u == t then bit else label u

-- the label with the tracks below t as they are fixed
abbrev pub with_below : ℕ → Label → Label → Label
with_below t fixed label = λ u. if nat_lt u t then fixed u else label u

-- the label has no track but t, at most
abbrev pub HasAtMost : ℕ → Label → Type 0
HasAtMost t label = (u : ℕ) → u ≢ t → label u ≡ false

-- a function from labels to states
abbrev pub Function : Type 0
Function = Label → ℕ

-- what the function becomes when the tracks below some number are fixed
pub record IsUnder (function part : Function) : Type 0 where
  pub below : ℕ
  pub fixed : Label
  pub states : (label : Label) → part label ≡ function (with_below below fixed label)
