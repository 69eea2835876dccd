-- The lines that are written in every mode, as bytes. Each ends with LF.
use Rattle.std.specs.Prelude.{◌≡◌, ℕ, List, ◌++◌, codes}
use Rattle.std.specs.Fmt.{decimal}
use Rattle.pale_text.specs.declared.refusal.Refusal.{Refusal}
use Rattle.pale_text.specs.declared.refusal.TextStop.{TextStop}
use Rattle.pale_text.specs.declared.refusal.TextStop.TheVariants as stop
use Rattle.pale_text.specs.Refusals.{word_of}
use Rattle.pale_status.specs.declared.status.Status.{Status}
use Rattle.pale_status.specs.declared.status.Status.TheVariants.{Text}

-- the line for a text with too many bytes
abbrev pub too_long_line : List ℕ
too_long_line = codes "refused too-long\n"

-- `refused LINE:COLUMN KIND`
abbrev pub refused_line : Refusal → List ℕ
refused_line refusal =
    codes "refused " ++ decimal refusal.line ++ codes ":" ++ decimal refusal.column ++ codes " " ++ word_of refusal.kind ++ codes "\n"

-- what is written where reading a text stopped so, and the status: nothing for want of memory
pub data Refuses (why : TextStop) : List ℕ → Status → Type 0 where
  refused : (refusal : Refusal) → why ≡ stop.Refused refusal → Refuses why (refused_line refusal) Text
