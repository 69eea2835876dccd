-- The lines of a space.
use Rattle.std.proofs.Common.{◌≡◌, ℕ, List, length, sym, ◌∙◌, ap, subst, arith}
use Rattle.gta_theory.specs.Guides.{left, right}
use Rattle.gta_core.specs.Auto.{states_of, guide_of}
use Rattle.gta_merge.specs.Classes.{AreFirsts}
use Rattle.gta_merge.proofs.PartLemmas.{lefts-are, rights-are, many-rows, many-columns, beside-left, beside-right, no-equal}
use Rattle.gta_merge.proofs.told.is_space_told.Goals as goal

pub firsts-requires : goal.firsts-requires
firsts-requires c =
    let shelf = c.args.shelf.now in
    let a = c.args.a.now in
    let s = c.args.space in
    let own = c.part_at-own.result.now in
    let auto = c.requires.auto in
    let whole = c.part_at-own.ensures.whole in
    let there = c.part_at-own.ensures.part in
    let lefts_is : c.states_in.result ≡ states_of a (left (guide_of a) s) =
    c.states_in.ensures ∙ lefts-are shelf a auto whole s own there in
    let m = many-rows shelf a auto whole s own there in
    let l = ap (λ (xs : List ℕ). length xs) c.as_slice-had_rows.ensures in
    omega arith

pub firsts-requires-2 : goal.firsts-requires-2
firsts-requires-2 c =
    let shelf = c.args.shelf.now in
    let a = c.args.a.now in
    let s = c.args.space in
    let own = c.part_at-own.result.now in
    let auto = c.requires.auto in
    let whole = c.part_at-own.ensures.whole in
    let there = c.part_at-own.ensures.part in
    let rights_is : c.states_in-2.result ≡ states_of a (right (guide_of a) s) =
    c.states_in-2.ensures ∙ rights-are shelf a auto whole s own there in
    let m = many-columns shelf a auto whole s own there in
    let l = ap (λ (xs : List ℕ). length xs) c.as_slice-had_columns.ensures in
    omega arith

pub is_side_told-requires : goal.is_side_told-requires
is_side_told-requires c =
    let shelf = c.args.shelf.now in
    let a = c.args.a.now in
    let s = c.args.space in
    let own = c.part_at-own.result.now in
    let auto = c.requires.auto in
    let whole = c.part_at-own.ensures.whole in
    let there = c.part_at-own.ensures.part in
    let lefts_is : c.states_in.result ≡ states_of a (left (guide_of a) s) =
    c.states_in.ensures ∙ lefts-are shelf a auto whole s own there in
    let rights_is : c.states_in-2.result ≡ states_of a (right (guide_of a) s) =
    c.states_in-2.ensures ∙ rights-are shelf a auto whole s own there in
    let ls = c.as_slice-rows.result.now in
    let rs = c.as_slice-columns.result.now in
    let ls_are : AreFirsts own.rows (states_of a (left (guide_of a) s)) ls =
    subst (λ (xs : List ℕ). AreFirsts own.rows (states_of a (left (guide_of a) s)) xs) (sym c.as_slice-rows.ensures)
    (subst (λ (xs : List ℕ). AreFirsts xs (states_of a (left (guide_of a) s)) c.in_ok-lefts.lefts) c.as_slice-had_rows.ensures
    (subst (λ (n : ℕ). AreFirsts c.as_slice-had_rows.result.now n c.in_ok-lefts.lefts) lefts_is c.in_ok-lefts.ensures)) in
    let rs_are : AreFirsts own.columns (states_of a (right (guide_of a) s)) rs =
    subst (λ (xs : List ℕ). AreFirsts own.columns (states_of a (right (guide_of a) s)) xs) (sym c.as_slice-columns.ensures)
    (subst (λ (xs : List ℕ). AreFirsts xs (states_of a (right (guide_of a) s)) c.in_ok-rights.rights) c.as_slice-had_columns.ensures
    (subst (λ (n : ℕ). AreFirsts c.as_slice-had_columns.result.now n c.in_ok-rights.rights) rights_is c.in_ok-rights.ensures)) in
    beside-left shelf a auto whole s own there ls rs ls_are rs_are

pub is_side_told-requires-2 : goal.is_side_told-requires-2
is_side_told-requires-2 c =
    let shelf = c.args.shelf.now in
    let a = c.args.a.now in
    let s = c.args.space in
    let own = c.part_at-own.result.now in
    let auto = c.requires.auto in
    let whole = c.part_at-own.ensures.whole in
    let there = c.part_at-own.ensures.part in
    let lefts_is : c.states_in.result ≡ states_of a (left (guide_of a) s) =
    c.states_in.ensures ∙ lefts-are shelf a auto whole s own there in
    let rights_is : c.states_in-2.result ≡ states_of a (right (guide_of a) s) =
    c.states_in-2.ensures ∙ rights-are shelf a auto whole s own there in
    let ls = c.as_slice-rows.result.now in
    let rs = c.as_slice-columns.result.now in
    let ls_are : AreFirsts own.rows (states_of a (left (guide_of a) s)) ls =
    subst (λ (xs : List ℕ). AreFirsts own.rows (states_of a (left (guide_of a) s)) xs) (sym c.as_slice-rows.ensures)
    (subst (λ (xs : List ℕ). AreFirsts xs (states_of a (left (guide_of a) s)) c.in_ok-lefts.lefts) c.as_slice-had_rows.ensures
    (subst (λ (n : ℕ). AreFirsts c.as_slice-had_rows.result.now n c.in_ok-lefts.lefts) lefts_is c.in_ok-lefts.ensures)) in
    let rs_are : AreFirsts own.columns (states_of a (right (guide_of a) s)) rs =
    subst (λ (xs : List ℕ). AreFirsts own.columns (states_of a (right (guide_of a) s)) xs) (sym c.as_slice-columns.ensures)
    (subst (λ (xs : List ℕ). AreFirsts xs (states_of a (right (guide_of a) s)) c.in_ok-rights.rights) c.as_slice-had_columns.ensures
    (subst (λ (n : ℕ). AreFirsts c.as_slice-had_columns.result.now n c.in_ok-rights.rights) rights_is c.in_ok-rights.ensures)) in
    beside-right shelf a auto whole s own there ls rs ls_are rs_are

pub returns : goal.returns
returns c =
    let shelf = c.args.shelf.now in
    let a = c.args.a.now in
    let s = c.args.space in
    let own = c.part_at-own.result.now in
    let auto = c.requires.auto in
    let whole = c.part_at-own.ensures.whole in
    let there = c.part_at-own.ensures.part in
    let lefts_is : c.states_in.result ≡ states_of a (left (guide_of a) s) =
    c.states_in.ensures ∙ lefts-are shelf a auto whole s own there in
    let rights_is : c.states_in-2.result ≡ states_of a (right (guide_of a) s) =
    c.states_in-2.ensures ∙ rights-are shelf a auto whole s own there in
    let ls = c.as_slice-rows.result.now in
    let rs = c.as_slice-columns.result.now in
    let ls_are : AreFirsts own.rows (states_of a (left (guide_of a) s)) ls =
    subst (λ (xs : List ℕ). AreFirsts own.rows (states_of a (left (guide_of a) s)) xs) (sym c.as_slice-rows.ensures)
    (subst (λ (xs : List ℕ). AreFirsts xs (states_of a (left (guide_of a) s)) c.in_ok-lefts.lefts) c.as_slice-had_rows.ensures
    (subst (λ (n : ℕ). AreFirsts c.as_slice-had_rows.result.now n c.in_ok-lefts.lefts) lefts_is c.in_ok-lefts.ensures)) in
    let rs_are : AreFirsts own.columns (states_of a (right (guide_of a) s)) rs =
    subst (λ (xs : List ℕ). AreFirsts own.columns (states_of a (right (guide_of a) s)) xs) (sym c.as_slice-columns.ensures)
    (subst (λ (xs : List ℕ). AreFirsts xs (states_of a (right (guide_of a) s)) c.in_ok-rights.rights) c.as_slice-had_columns.ensures
    (subst (λ (n : ℕ). AreFirsts c.as_slice-had_columns.result.now n c.in_ok-rights.rights) rights_is c.in_ok-rights.ensures)) in
    λ told. no-equal shelf a auto whole s own there ls rs ls_are rs_are (c.in_ok-rows_told.ensures c.if-not-rows_told.false)
    (c.in_ok-columns_told.ensures told)
