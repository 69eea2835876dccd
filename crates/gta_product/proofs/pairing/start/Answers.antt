use Rattle.std.proofs.Common.{◌<◌, ℕ, List, [], ◌∷◌, length, length-append, slice_get, sym, ◌∙◌, ap, subst, inl, inr, arith}
use Rattle.gta_theory.specs.Constructions.{pairs}
use Rattle.gta_core.specs.Auto.{initial_of, automaton_of}
use Rattle.gta_product.specs.Numbers.{Grows}
use Rattle.gta_product.specs.Building.{IsSpaceOf}
use Rattle.gta_product.proofs.NumbersLemmas.{get-snoc}
use Rattle.gta_product.proofs.StartLemmas.{IsSpaceOf-start}
use Rattle.gta_product.proofs.pairing.start.Goals as goal

pub loop-space-preserved : goal.loop-space-preserved
loop-space-preserved c =
    let s = c.loop-space.space in
    let e = c.in_ok-number.ensures in
    let old = c.loop-space.spaces.items in
    let new = c.number.new.self in
    let grows = subst (λ (ps : List (ℕ × ℕ)). Grows ps new (initial_of c.args.a.now s, initial_of c.args.b.now s)) c.in_ok-numbers.ensures
    (subst (λ (p : ℕ × ℕ). Grows c.in_ok-numbers.numbers new p)
    (ap (λ (n : ℕ). let p : ℕ × ℕ = (n, c.initial-in-loop-space.result) in p) c.initial.ensures
    ∙ ap (λ (n : ℕ). let p : ℕ × ℕ = (initial_of c.args.a.now s, n) in p) c.initial-in-loop-space.ensures) e.grows) in
    record {
      many =
          let a = ap (λ (ss : List (List (ℕ × ℕ))). length ss) c.in_ok-push.ensures.items in
          let b = length-append old (new ∷ []) in
          let m = c.loop-space.invariant.many in
          omega arith;
      each = λ shelf t numbers there. elim (get-snoc old new numbers t (ap (λ (ss : List (List (ℕ × ℕ))). slice_get ss t) (sym
          c.in_ok-push.ensures.items) ∙ there)) [
            | inl before ↦ c.loop-space.invariant.each shelf t numbers before
            | inr last ↦
                let is_space = let m = c.loop-space.invariant.many in let n = c.spaces-space-end.ensures.value in let r : s < length c.args.g.now =
                omega arith in r in
                let of = IsSpaceOf-start c.args.g.now s is_space shelf c.args.a.now c.args.b.now new c.in_ok-number.field-0 e.numbers grows e.place in
                subst (λ (n : ℕ). IsSpaceOf c.args.g.now (pairs (automaton_of shelf c.args.a.now) (automaton_of shelf c.args.b.now)) n numbers)
                (sym (last.0 ∙ c.loop-space.invariant.many))
                (subst (λ (ps : List (ℕ × ℕ)). IsSpaceOf c.args.g.now (pairs (automaton_of shelf c.args.a.now) (automaton_of shelf c.args.b.now)) s ps)
                (sym last.1) of)
          ];
    }

pub returns-clause-spaces : goal.returns-clause-spaces
returns-clause-spaces c = λ shelf. record {
  many = let m = c.loop-space.invariant.many in let e = c.spaces-space-end.ensures.value in omega arith;
  each = λ s numbers there. c.loop-space.invariant.each shelf s numbers there;
}
