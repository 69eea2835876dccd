use Rattle.std.proofs.Common.{◌≡◌, ◌≤◌, ◌∙◌, ℕ, max, arith, ap}
use Rattle.whole_handing.proofs.Merging.{all_kept, all_is}
use Rattle.whole_handing.proofs.beside.beside.Goals as goal

-- the greater of the two next numbers
greater : (one other next own theirs : ℕ) → own ≡ one → theirs ≡ other → next ≡ max own theirs → next ≡ max one other
greater one other next own theirs is is' e = e ∙ ap (λ (n : ℕ). max n theirs) is ∙ ap (λ (n : ℕ). max one n) is'

pub of-requires-clause-kept : goal.of-requires-clause-kept
of-requires-clause-kept c =
    let one = c.args.one.now in
    let other = c.args.other.now in
    let same = greater one.next other.next c.max-next.result c.next.result c.next-2.result c.next.ensures.value c.next-2.ensures.value c.max-next.ensures in
    let own : one.next ≤ c.max-next.result = omega (arith, same) in
    let theirs : other.next ≤ c.max-next.result = omega (arith, same) in
    all_kept one other c.in_ok-made.made.items c.in_ok-made.ensures c.next.ensures.above c.next-2.ensures.above c.max-next.result own theirs

pub of-requires-clause-live : goal.of-requires-clause-live
of-requires-clause-live c = c.in_ok-made.ensures.live

pub returns : goal.returns
returns c =
    c.of.ensures
    ∙ (λ i. record {
      cells = all_is c.args.one.now c.args.other.now c.in_ok-made.made.items c.in_ok-made.ensures i;
      vars = c.args.vars;
      next = greater (c.args.one.now).next (c.args.other.now).next c.max-next.result c.next.result c.next-2.result c.next.ensures.value
          c.next-2.ensures.value c.max-next.ensures i;
    })
