-- The classes of a space.
use Rattle.std.proofs.Common.{◌≡◌, ℕ, List, length, sym, ◌∙◌, ap, subst, arith}
use Rattle.std.specs.Prelude.{All, IsSome}
use Rattle.gta_theory.specs.Guides.{left, right}
use Rattle.gta_core.specs.Auto.{states_of, guide_of}
use Rattle.gta_merge.specs.declared.lines.Side.TheVariants.{Left, Right}
use Rattle.gta_merge.specs.Lines.{root_beside}
use Rattle.gta_merge.specs.Classes.{AreFirsts, HaveLikeRoots, AreToldApart, AreClassed}
use Rattle.gta_merge.proofs.PartLemmas.{lefts-are, rights-are, many-rows, many-columns, like-rows, like-columns, firsts-known, firsts-tell, ones-known}
use Rattle.gta_merge.proofs.PartLemmas.{ones-tell}
use Rattle.gta_merge.proofs.merged.classes_in.Goals as goal

pub firsts-requires : goal.firsts-requires
firsts-requires c =
    let shelf = c.args.shelf.now in
    let a = c.args.a.now in
    let s = c.args.space in
    let own = c.part_at-own.result.now in
    let auto = c.requires.auto in
    let whole = c.part_at-own.ensures.whole in
    let there = c.part_at-own.ensures.part in
    let rights_is : c.states_in-rights.result ≡ states_of a (right (guide_of a) s) =
    c.states_in-rights.ensures ∙ rights-are shelf a auto whole s own there in
    let m = many-columns shelf a auto whole s own there in
    let l = ap (λ (xs : List ℕ). length xs) c.as_slice-had_columns.ensures in
    omega arith

pub classify-requires-clause-many : goal.classify-requires-clause-many
classify-requires-clause-many c =
    let shelf = c.args.shelf.now in
    let a = c.args.a.now in
    let s = c.args.space in
    let own = c.part_at-own.result.now in
    let auto = c.requires.auto in
    let whole = c.part_at-own.ensures.whole in
    let there = c.part_at-own.ensures.part in
    let lefts_is : c.states_in-lefts.result ≡ states_of a (left (guide_of a) s) =
    c.states_in-lefts.ensures ∙ lefts-are shelf a auto whole s own there in
    let m = many-rows shelf a auto whole s own there in
    let l = ap (λ (xs : List ℕ). length xs) c.as_slice-had_rows.ensures in
    omega arith

pub classify-requires-clause-known : goal.classify-requires-clause-known
classify-requires-clause-known c =
    let shelf = c.args.shelf.now in
    let a = c.args.a.now in
    let s = c.args.space in
    let own = c.part_at-own.result.now in
    let auto = c.requires.auto in
    let whole = c.part_at-own.ensures.whole in
    let there = c.part_at-own.ensures.part in
    let lefts_is : c.states_in-lefts.result ≡ states_of a (left (guide_of a) s) =
    c.states_in-lefts.ensures ∙ lefts-are shelf a auto whole s own there in
    let rights_is : c.states_in-rights.result ≡ states_of a (right (guide_of a) s) =
    c.states_in-rights.ensures ∙ rights-are shelf a auto whole s own there in
    let some = c.in_ok-some.some in
    let are : AreFirsts own.columns (states_of a (right (guide_of a) s)) some =
    subst (λ (xs : List ℕ). AreFirsts xs (states_of a (right (guide_of a) s)) some) c.as_slice-had_columns.ensures
    (subst (λ (n : ℕ). AreFirsts c.as_slice-had_columns.result.now n some) rights_is c.in_ok-some.ensures) in
    λ q q_in. subst (λ (xs : List ℕ). All (λ other. IsSome (root_beside shelf a s Left q other)) xs) (sym c.as_slice-beside.ensures)
    (firsts-known shelf a auto whole s own there some are q (omega arith))

pub classify-requires-clause-like : goal.classify-requires-clause-like
classify-requires-clause-like c =
    let shelf = c.args.shelf.now in
    let a = c.args.a.now in
    let s = c.args.space in
    let own = c.part_at-own.result.now in
    let auto = c.requires.auto in
    let whole = c.part_at-own.ensures.whole in
    let there = c.part_at-own.ensures.part in
    subst (λ (xs : List ℕ). HaveLikeRoots (root_beside shelf a s Left) xs) (sym c.as_slice-had_rows.ensures) (like-rows shelf a auto whole s own there)

pub classify-requires-clause-told : goal.classify-requires-clause-told
classify-requires-clause-told c =
    let shelf = c.args.shelf.now in
    let a = c.args.a.now in
    let s = c.args.space in
    let own = c.part_at-own.result.now in
    let auto = c.requires.auto in
    let whole = c.part_at-own.ensures.whole in
    let there = c.part_at-own.ensures.part in
    let lefts_is : c.states_in-lefts.result ≡ states_of a (left (guide_of a) s) =
    c.states_in-lefts.ensures ∙ lefts-are shelf a auto whole s own there in
    let rights_is : c.states_in-rights.result ≡ states_of a (right (guide_of a) s) =
    c.states_in-rights.ensures ∙ rights-are shelf a auto whole s own there in
    let some = c.in_ok-some.some in
    let are : AreFirsts own.columns (states_of a (right (guide_of a) s)) some =
    subst (λ (xs : List ℕ). AreFirsts xs (states_of a (right (guide_of a) s)) some) c.as_slice-had_columns.ensures
    (subst (λ (n : ℕ). AreFirsts c.as_slice-had_columns.result.now n some) rights_is c.in_ok-some.ensures) in
    subst (λ (n : ℕ). AreToldApart (root_beside shelf a s Left) n c.as_slice-beside.result.now) (sym lefts_is)
    (subst (λ (xs : List ℕ). AreToldApart (root_beside shelf a s Left) (states_of a (left (guide_of a) s)) xs) (sym c.as_slice-beside.ensures)
    (firsts-tell shelf a auto whole s own there some are))

pub classify-requires-2-clause-many : goal.classify-requires-2-clause-many
classify-requires-2-clause-many c =
    let shelf = c.args.shelf.now in
    let a = c.args.a.now in
    let s = c.args.space in
    let own = c.part_at-own.result.now in
    let auto = c.requires.auto in
    let whole = c.part_at-own.ensures.whole in
    let there = c.part_at-own.ensures.part in
    let rights_is : c.states_in-rights.result ≡ states_of a (right (guide_of a) s) =
    c.states_in-rights.ensures ∙ rights-are shelf a auto whole s own there in
    let m = many-columns shelf a auto whole s own there in
    let l = ap (λ (xs : List ℕ). length xs) c.as_slice-had_columns.ensures in
    omega arith

pub classify-requires-2-clause-known : goal.classify-requires-2-clause-known
classify-requires-2-clause-known c =
    let shelf = c.args.shelf.now in
    let a = c.args.a.now in
    let s = c.args.space in
    let own = c.part_at-own.result.now in
    let auto = c.requires.auto in
    let whole = c.part_at-own.ensures.whole in
    let there = c.part_at-own.ensures.part in
    let lefts_is : c.states_in-lefts.result ≡ states_of a (left (guide_of a) s) =
    c.states_in-lefts.ensures ∙ lefts-are shelf a auto whole s own there in
    let rights_is : c.states_in-rights.result ≡ states_of a (right (guide_of a) s) =
    c.states_in-rights.ensures ∙ rights-are shelf a auto whole s own there in
    let rows = c.in_ok-rows.rows in
    let rows_are : AreClassed (root_beside shelf a s Left) (states_of a (left (guide_of a) s)) rows =
    subst (λ (n : ℕ). AreClassed (root_beside shelf a s Left) n rows) lefts_is c.in_ok-rows.ensures in
    λ q q_in. subst (λ (xs : List ℕ). All (λ other. IsSome (root_beside shelf a s Right q other)) xs) (sym c.as_slice-ones.ensures)
    (ones-known shelf a auto whole s own there rows rows_are q (omega arith))

pub classify-requires-2-clause-like : goal.classify-requires-2-clause-like
classify-requires-2-clause-like c =
    let shelf = c.args.shelf.now in
    let a = c.args.a.now in
    let s = c.args.space in
    let own = c.part_at-own.result.now in
    let auto = c.requires.auto in
    let whole = c.part_at-own.ensures.whole in
    let there = c.part_at-own.ensures.part in
    subst (λ (xs : List ℕ). HaveLikeRoots (root_beside shelf a s Right) xs) (sym c.as_slice-had_columns.ensures)
    (like-columns shelf a auto whole s own there)

pub classify-requires-2-clause-told : goal.classify-requires-2-clause-told
classify-requires-2-clause-told c =
    let shelf = c.args.shelf.now in
    let a = c.args.a.now in
    let s = c.args.space in
    let own = c.part_at-own.result.now in
    let auto = c.requires.auto in
    let whole = c.part_at-own.ensures.whole in
    let there = c.part_at-own.ensures.part in
    let lefts_is : c.states_in-lefts.result ≡ states_of a (left (guide_of a) s) =
    c.states_in-lefts.ensures ∙ lefts-are shelf a auto whole s own there in
    let rights_is : c.states_in-rights.result ≡ states_of a (right (guide_of a) s) =
    c.states_in-rights.ensures ∙ rights-are shelf a auto whole s own there in
    let rows = c.in_ok-rows.rows in
    let rows_are : AreClassed (root_beside shelf a s Left) (states_of a (left (guide_of a) s)) rows =
    subst (λ (n : ℕ). AreClassed (root_beside shelf a s Left) n rows) lefts_is c.in_ok-rows.ensures in
    subst (λ (n : ℕ). AreToldApart (root_beside shelf a s Right) n c.as_slice-ones.result.now) (sym rights_is)
    (subst (λ (xs : List ℕ). AreToldApart (root_beside shelf a s Right) (states_of a (right (guide_of a) s)) xs) (sym c.as_slice-ones.ensures)
    (ones-tell shelf a auto whole s own there rows rows_are))

pub returns-clause-rows : goal.returns-clause-rows
returns-clause-rows c =
    let shelf = c.args.shelf.now in
    let a = c.args.a.now in
    let s = c.args.space in
    let own = c.part_at-own.result.now in
    let auto = c.requires.auto in
    let whole = c.part_at-own.ensures.whole in
    let there = c.part_at-own.ensures.part in
    let lefts_is : c.states_in-lefts.result ≡ states_of a (left (guide_of a) s) =
    c.states_in-lefts.ensures ∙ lefts-are shelf a auto whole s own there in
    subst (λ (n : ℕ). AreClassed (root_beside shelf a s Left) n c.in_ok-rows.rows) lefts_is c.in_ok-rows.ensures

pub returns-clause-columns : goal.returns-clause-columns
returns-clause-columns c =
    let shelf = c.args.shelf.now in
    let a = c.args.a.now in
    let s = c.args.space in
    let own = c.part_at-own.result.now in
    let auto = c.requires.auto in
    let whole = c.part_at-own.ensures.whole in
    let there = c.part_at-own.ensures.part in
    let rights_is : c.states_in-rights.result ≡ states_of a (right (guide_of a) s) =
    c.states_in-rights.ensures ∙ rights-are shelf a auto whole s own there in
    subst (λ (n : ℕ). AreClassed (root_beside shelf a s Right) n c.in_ok-columns.columns) rights_is c.in_ok-columns.ensures
