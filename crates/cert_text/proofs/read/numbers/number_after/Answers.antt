use Rattle.std.proofs.Common.{◌≡◌, ◌+◌, ◌*◌, nat_le, true, false, cond, Some, None, get_or, drop, ap, ◌∙◌, sym, arith}
use Rattle.std.proofs.lemmas.List.{at_drop_more, drop_all}
use Rattle.std.proofs.lemmas.Bool.Decides.{nat_tests}
use Rattle.cert_text.specs.Reading.{number_after}
use Rattle.cert_text.proofs.NumbersLemmas.{number_after-digit, number_after-stray, number_after-great, number_after-end}
use Rattle.cert_text.proofs.read.numbers.number_after.Goals as goal
use Rattle.cert_text.proofs.read.numbers.number_after.Goals.{then-not-is_ascii_digit-via-then-not-is_ascii_digit}
use Rattle.cert_text.proofs.read.numbers.number_after.Goals.{then-not-is_ascii_digit-via-else-not-is_ascii_digit+then-number}

pub returns-then-not-is_ascii_digit : goal.returns-then-not-is_ascii_digit
returns-then-not-is_ascii_digit c =
    let digit = get_or c.args.digits.now c.loop-digit.digit-index 0 in
    let rest = drop (c.loop-digit.digit-index + 1) c.args.digits.now in
    let turned = at_drop_more (number_after c.loop-digit.number) c.args.digits.now c.loop-digit.digit-index 0 c.loop-digit-test.true in
    elim c.then-not-is_ascii_digit.branch [
      | then-not-is_ascii_digit-via-then-not-is_ascii_digit w ↦
          sym (number_after-stray c.loop-digit.number digit rest (sym w.if-not-is_ascii_digit.ensures.value)) ∙ sym turned ∙ c.loop-digit.invariant
      | then-not-is_ascii_digit-via-else-not-is_ascii_digit+then-number w ↦
          sym (number_after-great c.loop-digit.number digit rest (omega arith)) ∙ sym turned ∙ c.loop-digit.invariant
    ]

pub loop-digit-preserved : goal.loop-digit-preserved
loop-digit-preserved c =
    let digit = get_or c.args.digits.now c.loop-digit.digit-index 0 in
    let rest = drop (c.loop-digit.digit-index + 1) c.args.digits.now in
    let turned = at_drop_more (number_after c.loop-digit.number) c.args.digits.now c.loop-digit.digit-index 0 c.loop-digit-test.true in
    ap (λ v. number_after (c.loop-digit.number * 10 + v) rest) c.from.ensures
    ∙ sym (number_after-digit c.loop-digit.number digit rest (sym c.if-not-is_ascii_digit.ensures.value)) ∙ sym turned ∙ c.loop-digit.invariant

pub returns-then-number-gt-MOST : goal.returns-then-number-gt-MOST
returns-then-number-gt-MOST c =
    let over : nat_le c.loop-digit.number 4294967295 ≡ false = grind (arith, nat_tests) in
    sym (number_after-end c.loop-digit.number (drop c.loop-digit.digit-index c.args.digits.now)
    (drop_all c.loop-digit.digit-index c.args.digits.now (omega arith)) ∙ ap (λ t. cond t (Some c.loop-digit.number) None) over)
    ∙ c.loop-digit.invariant

pub returns-else-number-gt-MOST : goal.returns-else-number-gt-MOST
returns-else-number-gt-MOST c =
    let under : nat_le c.loop-digit.number 4294967295 ≡ true = grind (arith, nat_tests) in
    sym (number_after-end c.loop-digit.number (drop c.loop-digit.digit-index c.args.digits.now)
    (drop_all c.loop-digit.digit-index c.args.digits.now (omega arith)) ∙ ap (λ t. cond t (Some c.loop-digit.number) None) under)
    ∙ c.loop-digit.invariant
