use Rattle.std.proofs.Common.{◌≡◌, ◌<◌, ℕ, List, [], ◌∷◌, length, length-append, Option, Some, slice_get, sym, ◌∙◌, ap, subst, inl, inr, arith}
use Rattle.std.proofs.lemmas.Option.{slice_get-get_or}
use Rattle.bdd_walk.specs.Sets.{IsSet}
use Rattle.gta_subsets.specs.Numbers.{Grows}
use Rattle.gta_subsets.specs.Subsets.{subsets}
use Rattle.gta_project.specs.Building.{IsSpaceOf}
use Rattle.gta_subsets.proofs.NumbersLemmas.{get-snoc}
use Rattle.gta_project.proofs.StartLemmas.{IsSpaceOf-start}
use Rattle.gta_project.proofs.projecting.start.Goals as goal

pub number-requires : goal.number-requires
number-requires c =
    let s = c.loop-space.space in
    let initials = c.args.initials.now in
    let set = c.index-initials-space.result in
    let at : slice_get initials s ≡ Some set = slice_get-get_or initials s set (omega (arith, c.requires.many, c.spaces-space-end.ensures.value))
    ∙ ap (λ (x : List ℕ). let o : Option (List ℕ) = Some x in o) (sym c.index-initials-space.is) in
    subst (λ (x : List ℕ). IsSet x) (sym (c.in_ok-from_slice.ensures.items ∙ c.as_slice.ensures)) (c.requires.sets s set at)

pub loop-space-preserved : goal.loop-space-preserved
loop-space-preserved c =
    let s = c.loop-space.space in
    let initials = c.args.initials.now in
    let set = c.index-initials-space.result in
    let at : slice_get initials s ≡ Some set = slice_get-get_or initials s set (omega (arith, c.requires.many, c.spaces-space-end.ensures.value))
    ∙ ap (λ (x : List ℕ). let o : Option (List ℕ) = Some x in o) (sym c.index-initials-space.is) in
    let e = c.in_ok-number.ensures in
    let old = c.loop-space.spaces.items in
    let new = c.number.new.self in
    let grows = subst (λ (ps : List (List ℕ)). Grows ps new set) c.new-numbers.ensures
    (subst (λ (x : List ℕ). Grows c.new-numbers.result new x) (c.in_ok-from_slice.ensures.items ∙ c.as_slice.ensures) e.grows) in
    record {
      many =
          let a = ap (λ (ss : List (List (List ℕ))). length ss) c.in_ok-push.ensures.items in
          let b = length-append old (new ∷ []) in
          let m = c.loop-space.invariant.many in
          omega arith;
      each = λ A track t numbers there. elim (get-snoc old new numbers t (ap (λ (ss : List (List (List ℕ))). slice_get ss t) (sym
          c.in_ok-push.ensures.items) ∙ there)) [
            | inl before ↦ c.loop-space.invariant.each A track t numbers before
            | inr last ↦
                let is_space = let m = c.loop-space.invariant.many in let n = c.spaces-space-end.ensures.value in let r : s < length c.args.g.now =
                omega arith in r in
                let of = IsSpaceOf-start c.args.g.now A track initials s is_space set at new c.in_ok-number.field-0 e.numbers grows e.place in
                subst (λ (n : ℕ). IsSpaceOf c.args.g.now (subsets A track initials) n numbers) (sym (last.0 ∙ c.loop-space.invariant.many))
                (subst (λ (ps : List (List ℕ)). IsSpaceOf c.args.g.now (subsets A track initials) s ps) (sym last.1) of)
          ];
    }

pub returns-clause-spaces : goal.returns-clause-spaces
returns-clause-spaces c = λ A track. record {
  many = let m = c.loop-space.invariant.many in let e = c.spaces-space-end.ensures.value in omega arith;
  each = λ s numbers there. c.loop-space.invariant.each A track s numbers there;
}
