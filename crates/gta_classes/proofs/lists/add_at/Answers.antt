-- One number more.
use Rattle.std.proofs.Common.{◌≡◌, ◌<◌, List, [], ◌∷◌, ◌++◌, length, ℕ, slice_set, sym, ◌∙◌, ap, subst, arith}
use Rattle.std.proofs.lemmas.List.{get_or_default}
use Rattle.gta_classes.specs.Lists.{list_at, IsAdded}
use Rattle.gta_classes.proofs.ListsLemmas.{IsAdded-set}
use Rattle.gta_classes.proofs.lists.add_at.Goals as goal

pub returns-in_ok-push : goal.returns-in_ok-push
returns-in_ok-push c =
    let lists : List (List ℕ) = c.args.lists.now.items in
    let inside : c.args.place < length lists = (let t = c.if-place-len.true in let e = c.len.ensures in omega arith) in
    let was : c.index_mut.result.now ≡ list_at lists c.args.place =
    c.index_mut.ensures.value ∙ sym (get_or_default lists c.args.place [] c.index_mut.result.now inside) in
    subst (λ (xs : List ℕ). IsAdded lists c.args.place c.args.number (slice_set lists c.args.place xs))
    (sym (c.in_ok-push.ensures.ok ∙ ap (λ (xs : List ℕ). xs ++ c.args.number ∷ []) was))
    (IsAdded-set lists c.args.place c.args.number inside)
