-- What a call of the program writes and how it ends, by its words and by the text that its source had left.
-- The definitions speak of texts and of what they are read as, and of no step that the program makes.
use Rattle.std.specs.Prelude.{◌≡◌, ℕ, List, codes, Option, IfSome}
use Rattle.pale_words.specs.declared.words.Mode.TheVariants.{Check, Replay, Format, Ws2s, Judge, Meet, Run, Trace, Gen}
use Rattle.pale_words.specs.declared.words.Settings.{Settings}
use Rattle.pale_words.specs.Words.{Gives, IsRefused}
use Rattle.pale_status.specs.declared.status.Status.{Status}
use Rattle.pale_status.specs.declared.status.Status.TheVariants.{Words, Memory, ReadFault, WriteFault}
use Rattle.pale_modes.specs.Deciding.{Decides}
use Rattle.pale_modes.specs.Formatting.{Formats}
use Rattle.pale_modes.specs.Replaying.{Replays}
use Rattle.pale_modes.specs.Running.{Runs}
use Rattle.pale_modes.specs.Tracing.{Traces}
use Rattle.pale_status.specs.Written.{Wrote, WroteAtMost}
use Rattle.pale_judging.specs.Checking.{Checks}
use Rattle.pale_judging.specs.Generating.{Gens}
use Rattle.pale_judging.specs.Judging.{Judges}
use Rattle.pale_judging.specs.Meeting.{MeetsText}

-- ---- a call

-- the line for words that are refused
abbrev pub usage_line : List ℕ
usage_line = codes "usage: pale MODE [--limit N] [--seed N]\n"

-- what a call with these settings writes for a text, and its status, by the mode; `gen` has no text
pub data Output (settings : Settings) (text : List ℕ) : List ℕ → Status → Type 0 where
  check : settings.mode ≡ Check → (written : List ℕ) (status : Status) → Checks settings.limit text written status → Output settings text written status
  replay : settings.mode ≡ Replay → (written : List ℕ) (status : Status) → Replays text written status → Output settings text written status
  format : settings.mode ≡ Format → (written : List ℕ) (status : Status) → Formats text written status → Output settings text written status
  ws2s : settings.mode ≡ Ws2s → (written : List ℕ) (status : Status) → Decides settings.limit text written status → Output settings text written status
  judge : settings.mode ≡ Judge → (written : List ℕ) (status : Status) → Judges settings.limit text written status → Output settings text written status
  meet : settings.mode ≡ Meet → (written : List ℕ) (status : Status) → MeetsText settings.limit text written status → Output settings text written status
  run : settings.mode ≡ Run → (written : List ℕ) (status : Status) → Runs text written status → Output settings text written status
  trace : settings.mode ≡ Trace → (written : List ℕ) (status : Status) → Traces text written status → Output settings text written status
  generated : settings.mode ≡ Gen → (written : List ℕ) (status : Status) → Gens settings.limit settings.seed written status
      → Output settings text written status

-- what a call with these words writes for a text, and its status: the words are refused, or give settings
pub data CallOutput (words : List (List ℕ)) (text : List ℕ) : List ℕ → Status → Type 0 where
  refused : IsRefused words → CallOutput words text usage_line Words
  given : (settings : Settings) → Gives words settings → (written : List ℕ) (status : Status) → Output settings text written status
      → CallOutput words text written status

-- the status is an answer, and not a fault or want of memory
abbrev pub IsAnswer : Status → Type 0
IsAnswer Memory = ⊥
IsAnswer ReadFault = ⊥
IsAnswer WriteFault = ⊥
IsAnswer status = Unit {0}

-- the writing may have been cut short
abbrev pub IsCutShort : Status → Type 0
IsCutShort Memory = Unit {0}
IsCutShort WriteFault = Unit {0}
IsCutShort status = ⊥

-- the output that was written is allowed for a text, which is all that the source had left, where it told of that
pub record Answers (Allowed : List ℕ → List ℕ → Status → Type 0) (left before after : Option (List ℕ)) (status : Status)
    : Type 0 where
  pub text : List ℕ
  pub told : IfSome left (λ bytes. text ≡ bytes)
  pub wrote : Wrote (Allowed text) before after status

-- nothing was written, or a front of an output that is allowed for such a text
pub record Begins (Allowed : List ℕ → List ℕ → Status → Type 0) (left before after : Option (List ℕ)) : Type 0 where
  pub text : List ℕ
  pub told : IfSome left (λ bytes. text ≡ bytes)
  pub wrote : WroteAtMost (Allowed text) before after
