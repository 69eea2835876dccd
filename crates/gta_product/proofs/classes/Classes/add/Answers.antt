-- A pair more has its class.
use Rattle.std.proofs.Common.{ℕ, List, [], ◌∷◌, length, length-append, ap, arith}
use Rattle.gta_product.proofs.KeyedLemmas.{IsKeyed-more, Extends-notes}
use Rattle.gta_product.proofs.classes.Classes.add.Goals as goal

pub returns-clause-more : goal.returns-clause-more
returns-clause-more c =
    let all = ap (λ (xs : List ℕ). length xs) c.in_ok-push.ensures.ok in
    let both = length-append c.args.self.now.of (c.in_ok-class.class ∷ []) in
    omega arith

pub returns-clause-ones : goal.returns-clause-ones
returns-clause-ones c = Extends-notes c.in_ok-class.class c.args.pair c.args.self.now.ones c.note.new.ones c.in_ok-note.ensures

pub returns-clause-keyed : goal.returns-clause-keyed
returns-clause-keyed c = λ list next is.
    let e = c.in_ok-class.ensures in
    IsKeyed-more list c.args.left.now c.args.right.now c.args.self.now _ c.args.pair c.in_ok-class.class c.requires.0 c.requires.1 e.numbers
    e.value e.place e.grows c.in_ok-note.ensures c.in_ok-push.ensures.ok next is
