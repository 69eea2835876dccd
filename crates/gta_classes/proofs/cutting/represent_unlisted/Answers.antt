-- The list of the class has its states.
use Rattle.std.proofs.Common.{◌≡◌, ◌<◌, ℕ, List, [], length, sym, ◌∙◌, subst, arith}
use Rattle.std.specs.Prelude.{Contains}
use Rattle.std.proofs.lemmas.List.{get_or_default}
use Rattle.gta_classes.specs.Lists.{list_at}
use Rattle.gta_classes.proofs.MembersLemmas.{Covers-members}
use Rattle.gta_classes.proofs.cutting.represent_unlisted.Goals as goal

pub returns-clause-covers : goal.returns-clause-covers
returns-clause-covers c =
    let lists = c.args.lists.now.items in
    let class = c.args.class in
    let inside : class < length lists = (let t = c.if-class-len.false in let e = c.len.ensures in let o = c.args.lists.now.ok in omega arith) in
    let was : c.index_mut.result.now ≡ list_at lists class =
    c.index_mut.ensures.value ∙ sym (get_or_default lists class [] c.index_mut.result.now inside) in
    Covers-members c.args.part.now lists class c.unlisted.new.members inside
    (λ q is there. c.in_ok-other.ensures q is (subst (λ (xs : List ℕ). Contains xs q) (sym was) there)) c.requires.covers

pub returns-in_default-clause-covers : goal.returns-in_default-clause-covers
returns-in_default-clause-covers c =
    let lists = c.args.lists.now.items in
    let class = c.args.class in
    let inside : class < length lists = (let t = c.if-class-len.false in let e = c.len.ensures in let o = c.args.lists.now.ok in omega arith) in
    let was : c.index_mut.result.now ≡ list_at lists class =
    c.index_mut.ensures.value ∙ sym (get_or_default lists class [] c.index_mut.result.now inside) in
    Covers-members c.args.part.now lists class c.unlisted.new.members inside
    (λ q is there. c.in_ok-other.ensures q is (subst (λ (xs : List ℕ). Contains xs q) (sym was) there)) c.requires.covers
