-- What each reason for not reading says of the tokens.
use Rattle.std.specs.Prelude.{◌≡◌, ◌⊎◌, ℕ, List, Result, Ok, Err}
use Rattle.ll1_reader.specs.declared.stop.ReadStop.{ReadStop}
use Rattle.ll1_reader.specs.declared.stop.ReadStop.TheVariants as stop
use Rattle.ll1_reader.specs.Grammars.{Rules}
use Rattle.ll1_reader.specs.Answers.{IsWrongAt, IsDeepAt}

abbrev pub IsStop : {N P A K : Type 0} → Rules N P A K → ℕ → List K → ReadStop → Type 0
IsStop rules limit tokens (stop.Wrong place) = IsWrongAt rules limit tokens place
IsStop rules limit tokens (stop.Deep place) = IsDeepAt rules limit tokens place
IsStop rules limit tokens stop.NoMemory = Unit {0}

-- the result is this stop, or want of memory
abbrev pub IsStopUnless : {T : Type 0} → Result T ReadStop → ReadStop → Type 0
IsStopUnless (Ok value) why = ⊥
IsStopUnless (Err other) why = (other ≡ why) ⊎ (other ≡ stop.NoMemory)
