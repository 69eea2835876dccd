-- What a stop says of a text that has more than a program.
use Rattle.std.specs.Prelude.{ℕ, List}
use Rattle.pale_text.specs.declared.refusal.TextStop.{TextStop}
use Rattle.whole_program.specs.ProgramTexts.{IsStopOf}
use Rattle.pale_parts.specs.Parts.{IsCutAs, HasNoCut}

-- a refusal is that of the text's program's part, which is all of it where it has no line `---`
pub data IsPartStop (text : List ℕ) (stop : TextStop) : Type 0 where
  uncut_stop : HasNoCut text → IsStopOf text stop → IsPartStop text stop
  cut_stop : (part after : List ℕ) → IsCutAs text part after → IsStopOf part stop → IsPartStop text stop
