-- Within the Peak of a text, no limit is true of it.
use Rattle.std.proofs.Common.{◌≡◌, ◌≤◌, ◌<◌, ℕ, subst, arith, max}
use Rattle.gta_theory.specs.Guides.{Spaces, IsGuide}
use Rattle.ws2s_core.specs.declared.formula.Formula.{Formula}
use Rattle.ws2s_theory.specs.Peaks.{HasPeak}
use Rattle.ws2s_theory.proofs.WorkedLemmas.{plain-guide}
use Rattle.ws2s_syntax.specs.Checked.{Text}
use Rattle.ws2s_reduce.specs.Reducing.{holds_of, breaks_of}
use Rattle.ws2s_answer.specs.declared.answer.Answer.{Answer}
use Rattle.ws2s_answer.specs.declared.answer.Answer.TheVariants as answered
use Rattle.ws2s_answer.specs.Answering.{IsAnswer, IsPeakAbove, plain}
use Rattle.ws2s_answer.specs.Within.{IsPeakWithin}

pub not_above : ((g : Spaces) (f : Formula) → IsGuide g → (n : ℕ) × HasPeak g f n) → (limit : ℕ) (text : Text) → IsPeakWithin limit text →
    IsPeakAbove limit text → ⊥
not_above peaks limit text within above =
    let (p, holds) = peaks plain (holds_of text) plain-guide in
    let (q, breaks) = peaks plain (breaks_of text) plain-guide in
    let over : limit < max p q = above p q holds breaks in
    let under : max p q ≤ limit = within p q holds breaks in
    absurd (omega (arith, over, under))

pub no_limit : ((g : Spaces) (f : Formula) → IsGuide g → (n : ℕ) × HasPeak g f n) → (limit : ℕ) (text : Text) (answer : Answer) →
    IsPeakWithin limit text → IsAnswer limit text answer → answer ≡ answered.Limit → ⊥
no_limit peaks limit text answer within is same = not_above peaks limit text within (subst (IsAnswer limit text) same is)
