use Rattle.std.proofs.Common.{ℕ, List, [], ◌∷◌, length, length-append, slice_get, sym, ◌∙◌, ap, subst, inl, inr, arith}
use Rattle.gta_core.specs.Auto.{automaton_of}
use Rattle.gta_subsets.specs.Closing.{IsNext}
use Rattle.gta_subsets.proofs.NumbersLemmas.{get-snoc}
use Rattle.gta_subsets.proofs.closing.next_sets.Goals as goal

pub loop-space-preserved : goal.loop-space-preserved
loop-space-preserved c =
    let old = c.loop-space.next in
    let set = c.in_ok-next_set.field-0 in
    record {
      many =
          let a = ap (λ (ss : List (List ℕ)). length ss) c.in_ok-push.ensures.ok in
          let b = length-append old (set ∷ []) in
          let m = c.loop-space.invariant.many in
          omega arith;
      each = λ s states there. elim (get-snoc old set states s (ap (λ (ss : List (List ℕ)). slice_get ss s) (sym c.in_ok-push.ensures.ok) ∙ there)) [
        | inl before ↦ c.loop-space.invariant.each s states before
        | inr last ↦
            subst (λ (n : ℕ). IsNext c.args.g.now (automaton_of c.args.shelf.now c.args.a.now) c.args.track c.args.sets.now n states)
            (sym (last.0 ∙ c.loop-space.invariant.many))
            (subst (λ (x : List ℕ). IsNext c.args.g.now (automaton_of c.args.shelf.now c.args.a.now) c.args.track c.args.sets.now c.loop-space.space x)
            (sym last.1) c.in_ok-next_set.ensures)
      ];
    }
