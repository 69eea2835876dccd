-- A pair that comes has the last place.
use Rattle.std.proofs.Common.{◌≡◌, ℕ, List, length, Option, Some, None, sym, ◌∙◌, ap, subst, arith}
use Rattle.gta_product.specs.Numbers.{number_in}
use Rattle.gta_product.specs.Indexed.{AreIndexed}
use Rattle.gta_product.proofs.NumbersLemmas.{number_in-last}
use Rattle.gta_product.proofs.IndexedLemmas.{AreIndexed-comes}
use Rattle.gta_product.proofs.numbering.Numbering.number.Goals as goal

pub invariant_of-self-2 : goal.invariant_of-self-2
invariant_of-self-2 c =
    let pairs = c.self.inside.pairs.items in
    let pair = c.args.pair in
    let at : c.len-place.result ≡ length pairs = (let v = c.self.inside.pairs.ok.0 in let l = c.len-place.ensures in omega arith) in
    let none : number_in pairs pair ≡ None = ap (λ (ps : List (ℕ × ℕ)). number_in ps pair) (sym c.deref.ensures.value) ∙ c.in_default.ensures.none in
    subst (λ (ps : List (ℕ × ℕ)). AreIndexed ps c.note.new.places) (sym c.in_ok-push.ensures.items)
    (AreIndexed-comes pairs c.note.new.places pair (c.note.ensures.kept pairs none c.self.invariant) none
    (let m = c.if-len-ge-MOST.false in let l = c.len.ensures in let v = c.self.inside.pairs.ok.0 in omega arith)
    (λ past. c.in_ok-note.ensures.noted (omega arith) ∙ ap (λ (n : ℕ). let o : Option ℕ = Some n in o) at))

pub returns-clause-value : goal.returns-clause-value
returns-clause-value c =
    let pairs = c.self.inside.pairs.items in
    let pair = c.args.pair in
    let at : c.len-place.result ≡ length pairs = (let v = c.self.inside.pairs.ok.0 in let l = c.len-place.ensures in omega arith) in
    let none : number_in pairs pair ≡ None = ap (λ (ps : List (ℕ × ℕ)). number_in ps pair) (sym c.deref.ensures.value) ∙ c.in_default.ensures.none in
    ap (λ (ps : List (ℕ × ℕ)). number_in ps pair) c.in_ok-push.ensures.items
    ∙ number_in-last pairs pair none
    ∙ ap (λ (n : ℕ). let o : Option ℕ = Some n in o) (sym at)

pub returns-clause-numbers : goal.returns-clause-numbers
returns-clause-numbers c =
    let pairs = c.self.inside.pairs.items in
    let pair = c.args.pair in
    let at : c.len-place.result ≡ length pairs = (let v = c.self.inside.pairs.ok.0 in let l = c.len-place.ensures in omega arith) in
    let none : number_in pairs pair ≡ None = ap (λ (ps : List (ℕ × ℕ)). number_in ps pair) (sym c.deref.ensures.value) ∙ c.in_default.ensures.none in
    (subst (λ (ps : List (ℕ × ℕ)). AreIndexed ps c.note.new.places) (sym c.in_ok-push.ensures.items)
    (AreIndexed-comes pairs c.note.new.places pair (c.note.ensures.kept pairs none c.self.invariant) none
    (let m = c.if-len-ge-MOST.false in let l = c.len.ensures in let v = c.self.inside.pairs.ok.0 in omega arith)
    (λ past. c.in_ok-note.ensures.noted (omega arith) ∙ ap (λ (n : ℕ). let o : Option ℕ = Some n in o) at))).numbers
