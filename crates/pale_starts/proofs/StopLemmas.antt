-- A stop of the program's part of a text, where the text is cut or isn't.
use Rattle.std.proofs.Common.{◌≡◌, ℕ, List, Option, Some, None, Result, Ok, Err, IfSome, IfNone, sym, subst}
use Rattle.std.specs.Prelude.{IfErr, IsErrAnd}
use Rattle.std.specs.Borrow.{Bor}
use Rattle.pale_text.specs.declared.refusal.TextStop.{TextStop}
use Rattle.whole_program.specs.ProgramTexts.{IsStopOf}
use Rattle.pale_parts.specs.Parts.{IsCutAs, HasNoCut}
use Rattle.pale_starts.specs.Stops.{IsPartStop, uncut_stop, cut_stop}

pub stop_of_parts : (text program : List ℕ) (part : Option (Bor (List ℕ))) → IfSome part (λ after. IsCutAs text program after.now) →
    IfNone part ((program ≡ text) × HasNoCut text) → (e : TextStop) → IsStopOf program e → IsPartStop text e
stop_of_parts text program None cut_so whole e is = uncut_stop whole.1 (subst (λ (l : List ℕ). IsStopOf l e) whole.0 is)
stop_of_parts text program (Some after) cut_so whole e is = cut_stop program after.now cut_so is

-- a `?` hands a stop on
pub handed_on : {X : Type 0} (text : List ℕ) (r : Result X TextStop) (e : TextStop) → IsErrAnd r (λ y. y ≡ e) → IsPartStop text e →
    IfErr r (IsPartStop text)
handed_on text (Ok x) e is said = absurd is
handed_on text (Err y) e is said = subst (IsPartStop text) (sym is) said
