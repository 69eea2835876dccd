use Rattle.std.proofs.Common.{◌≡◌, ◌+◌, ◌∷◌, [], ◌++◌, false, get_or, drop, ap, ◌∙◌, sym, arith}
use Rattle.std.proofs.lemmas.List.{at_drop_more, drop_all, append-nil}
use Rattle.store_text.specs.Lines.{parts_from}
use Rattle.store_text.proofs.LineLemmas.{before, before_nothing, parts_at_space, parts_past_byte}
use Rattle.store_text.proofs.read.lines.parts_of.Goals as goal
use Rattle.store_text.proofs.read.lines.parts_of.Goals.{then-is_cut+in_ok-push, else-is_cut+in_ok-push-2}

pub loop-byte-init : goal.loop-byte-init
loop-byte-init c = (λ i. c.new-parts.ensures i ++ before (c.new-part.ensures i) (parts_from false c.args.line.now)) ∙ before_nothing false c.args.line.now

-- the parts so far and what is left, the next byte taken off
turned : (c : goal.Joined-is_cut) → c.loop-byte.parts ++ before c.loop-byte.part (parts_from c.loop-byte.braced (drop c.loop-byte.byte-index c.args.line.now))
    ≡ c.loop-byte.parts ++ before c.loop-byte.part
    (parts_from c.loop-byte.braced (get_or c.args.line.now c.loop-byte.byte-index 0 ∷ drop (c.loop-byte.byte-index + 1) c.args.line.now))
turned c = at_drop_more (λ bytes. c.loop-byte.parts ++ before c.loop-byte.part (parts_from c.loop-byte.braced bytes))
    c.args.line.now c.loop-byte.byte-index 0 c.loop-byte-test.true

pub loop-byte-preserved : goal.loop-byte-preserved
loop-byte-preserved c = elim c.if-is_cut.branch [
  | then-is_cut+in_ok-push w ↦
      let rest = drop (c.loop-byte.byte-index + 1) c.args.line.now in
      let cut = parts_at_space c.loop-byte.parts c.loop-byte.part c.loop-byte.braced
      (get_or c.args.line.now c.loop-byte.byte-index 0) rest (sym c.is_cut.ensures ∙ w.if-is_cut.true) in
      (λ i. (w.parts-is ∙ w.in_ok-push.ensures.ok ∙ ap (λ p. c.loop-byte.parts ++ p ∷ []) w.replace.ensures.value) i ++ before
      ((w.part-is ∙ w.replace.ensures.after ∙ w.new.ensures) i) (parts_from (w.braced-is i) rest))
      ∙ sym cut ∙ sym (turned c) ∙ c.loop-byte.invariant
  | else-is_cut+in_ok-push-2 w ↦
      let rest = drop (c.loop-byte.byte-index + 1) c.args.line.now in
      let past = parts_past_byte c.loop-byte.parts c.loop-byte.part c.loop-byte.braced
      (get_or c.args.line.now c.loop-byte.byte-index 0) rest (sym c.is_cut.ensures ∙ w.if-is_cut.false) in
      (λ i. w.parts-is i ++ before ((w.part-is ∙ w.in_ok-push-2.ensures.ok) i) (parts_from ((w.braced-is ∙ w.braced_after-braced.ensures) i) rest))
      ∙ sym past ∙ sym (turned c) ∙ c.loop-byte.invariant
]

pub returns : goal.returns
returns c =
    c.in_ok-push-3.ensures.ok
    ∙ ap (λ p. c.loop-byte.parts ++ p ∷ []) (sym (append-nil c.loop-byte.part))
    ∙ ap (λ bytes. c.loop-byte.parts ++ before c.loop-byte.part (parts_from c.loop-byte.braced bytes))
    (sym (drop_all c.loop-byte.byte-index c.args.line.now (omega arith)))
    ∙ c.loop-byte.invariant
