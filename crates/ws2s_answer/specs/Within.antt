-- Texts that can be decided within a limit of decision nodes.
use Rattle.std.specs.Prelude.{ℕ, ◌≤◌, max}
use Rattle.ws2s_theory.specs.Peaks.{HasPeak}
use Rattle.ws2s_syntax.specs.Checked.{Text}
use Rattle.ws2s_reduce.specs.Reducing.{holds_of, breaks_of}
use Rattle.ws2s_answer.specs.Answering.{plain}

-- the greater of the Peaks of the text's two formulas isn't above the limit
abbrev pub IsPeakWithin : ℕ → Text → Type 0
IsPeakWithin limit text = (p q : ℕ) → HasPeak plain (holds_of text) p → HasPeak plain (breaks_of text) q → max p q ≤ limit
