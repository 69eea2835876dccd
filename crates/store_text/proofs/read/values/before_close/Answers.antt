use Rattle.std.proofs.Common.{◌≡◌, ◌==◌, true, false, cond, Some, None, ap, ◌∙◌, sym, arith}
use Rattle.std.proofs.lemmas.Bool.Decides.{nat_tests}
use Rattle.store_text.specs.Spelling.{before_close}
use Rattle.store_text.proofs.SpellingLemmas.{before_close-push, before_close-none}
use Rattle.store_text.proofs.read.values.before_close.Goals as goal

pub returns-in_default : goal.returns-in_default
returns-in_default c = sym (before_close-none c.args.word.now c.in_default.ensures.cases)

pub returns-then-last-eq125 : goal.returns-then-last-eq125
returns-then-last-eq125 c =
    let is : (c.in-Some.last.now == 125) ≡ true = grind (arith, nat_tests) in
    sym (ap before_close c.in-Some.ensures.cases.0 ∙ before_close-push c.in-Some.front.now c.in-Some.last.now ∙
    ap (λ t. cond t (Some c.in-Some.front.now) None) is)

pub returns-else-last-eq125 : goal.returns-else-last-eq125
returns-else-last-eq125 c =
    let is : (c.in-Some.last.now == 125) ≡ false = grind (arith, nat_tests) in
    sym (ap before_close c.in-Some.ensures.cases.0 ∙ before_close-push c.in-Some.front.now c.in-Some.last.now ∙
    ap (λ t. cond t (Some c.in-Some.front.now) None) is)
