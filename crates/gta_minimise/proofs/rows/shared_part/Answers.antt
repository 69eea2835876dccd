-- The part of a space by the rows that classes share.
use Rattle.std.proofs.Common.{◌≡◌, ◌<◌, ◌≤◌, ◌*◌, ℕ, List, length, Some, refl, sym, ◌∙◌, ap, subst, arith}
use Rattle.std.specs.Prelude.{slice_get, slice_index}
use Rattle.std.specs.List.{range_with_len}
use Rattle.std.proofs.lemmas.Option.{slice_get_read}
use Rattle.std.proofs.Math.Nat.{mul-le-mul}
use Rattle.gta_reach.specs.declared.form.FormSpace.{FormSpace}
use Rattle.gta_classes.specs.declared.part.SpaceClasses.{SpaceClasses}
use Rattle.gta_refine.specs.Refined.{part_at}
use Rattle.gta_reach.proofs.ReachLemmas.{initial-form, initial-at}
use Rattle.gta_minimise.specs.Rows.{AreSharedRows}
use Rattle.gta_minimise.proofs.QuotientLemmas.{spaces-there, few-classes, initial-classed, left-space, right-space, rows-there, columns-there}
use Rattle.gta_minimise.proofs.QuotientLemmas.{space-inside, IsSharedPart-made}
use Rattle.gta_minimise.proofs.rows.shared_part.Goals as goal

pub classes_of-requires : goal.classes_of-requires
classes_of-requires c =
    let f = c.args.form.now in
    let classes = c.args.classes.now in
    let s = c.args.space in
    let r = c.requires in
    let space = c.index-as_slice-space.result in
    let at : slice_get f.spaces s ≡ Some space = subst (λ (xs : List FormSpace). slice_get xs s ≡ Some space) c.as_slice.ensures
    (slice_get_read c.as_slice.result.now (length c.as_slice.result.now) s space refl
    (space-inside f s c.as_slice.result.now c.as_slice.ensures r.inside) c.index-as_slice-space.is) in
    spaces-there f classes r.form r.refined space.children.0 (left-space f classes r.form r.refined s r.inside space at)

pub classes_of-requires-2 : goal.classes_of-requires-2
classes_of-requires-2 c =
    let f = c.args.form.now in
    let classes = c.args.classes.now in
    let s = c.args.space in
    let r = c.requires in
    let space = c.index-as_slice-space.result in
    let at : slice_get f.spaces s ≡ Some space = subst (λ (xs : List FormSpace). slice_get xs s ≡ Some space) c.as_slice.ensures
    (slice_get_read c.as_slice.result.now (length c.as_slice.result.now) s space refl
    (space-inside f s c.as_slice.result.now c.as_slice.ensures r.inside) c.index-as_slice-space.is) in
    spaces-there f classes r.form r.refined space.children.1 (right-space f classes r.form r.refined s r.inside space at)

pub share_rows-requires-clause-inside : goal.share_rows-requires-clause-inside
share_rows-requires-clause-inside c =
    let f = c.args.form.now in
    let classes = c.args.classes.now in
    let s = c.args.space in
    let r = c.requires in
    let space = c.index-as_slice-space.result in
    let at : slice_get f.spaces s ≡ Some space = subst (λ (xs : List FormSpace). slice_get xs s ≡ Some space) c.as_slice.ensures
    (slice_get_read c.as_slice.result.now (length c.as_slice.result.now) s space refl
    (space-inside f s c.as_slice.result.now c.as_slice.ensures r.inside) c.index-as_slice-space.is) in
    let lefts : c.as_slice-lefts.result.now ≡ (part_at classes space.children.0).representatives = c.as_slice-lefts.ensures
    ∙ ap (λ (p : SpaceClasses). p.representatives) c.classes_of.ensures in
    subst (λ (xs : List ℕ). (x : ℕ) → x < length xs → slice_index xs x < length c.as_slice-2.result.now) (sym lefts)
    (λ x x_in. let b = rows-there f classes r.form r.refined s r.inside space at x x_in in let e = ap (λ (xs : List ℕ). length xs) c.as_slice-2.ensures in
    omega arith)

pub share_rows-requires-2-clause-inside : goal.share_rows-requires-2-clause-inside
share_rows-requires-2-clause-inside c =
    let f = c.args.form.now in
    let classes = c.args.classes.now in
    let s = c.args.space in
    let r = c.requires in
    let space = c.index-as_slice-space.result in
    let at : slice_get f.spaces s ≡ Some space = subst (λ (xs : List FormSpace). slice_get xs s ≡ Some space) c.as_slice.ensures
    (slice_get_read c.as_slice.result.now (length c.as_slice.result.now) s space refl
    (space-inside f s c.as_slice.result.now c.as_slice.ensures r.inside) c.index-as_slice-space.is) in
    let rights : c.as_slice-rights.result.now ≡ (part_at classes space.children.1).representatives = c.as_slice-rights.ensures
    ∙ ap (λ (p : SpaceClasses). p.representatives) c.classes_of-2.ensures in
    subst (λ (xs : List ℕ). (x : ℕ) → x < length xs → slice_index xs x < length c.as_slice-3.result.now) (sym rights)
    (λ x x_in. let b = columns-there f classes r.form r.refined s r.inside space at x x_in in let e = ap (λ (xs : List ℕ). length xs) c.as_slice-3.ensures in
    omega arith)

pub share_rows-requires-2-clause-few : goal.share_rows-requires-2-clause-few
share_rows-requires-2-clause-few c =
    let f = c.args.form.now in
    let classes = c.args.classes.now in
    let s = c.args.space in
    let r = c.requires in
    let space = c.index-as_slice-space.result in
    let at : slice_get f.spaces s ≡ Some space = subst (λ (xs : List FormSpace). slice_get xs s ≡ Some space) c.as_slice.ensures
    (slice_get_read c.as_slice.result.now (length c.as_slice.result.now) s space refl
    (space-inside f s c.as_slice.result.now c.as_slice.ensures r.inside) c.index-as_slice-space.is) in
    let rights : c.as_slice-rights.result.now ≡ (part_at classes space.children.1).representatives = c.as_slice-rights.ensures
    ∙ ap (λ (p : SpaceClasses). p.representatives) c.classes_of-2.ensures in
    let few = few-classes f classes r.form r.refined space.children.1 (right-space f classes r.form r.refined s r.inside space at) in
    let e = ap (λ (xs : List ℕ). length xs) rights in
    omega arith

pub overflow_mul-len : goal.overflow_mul-len
overflow_mul-len c =
    let f = c.args.form.now in
    let classes = c.args.classes.now in
    let s = c.args.space in
    let r = c.requires in
    let space = c.index-as_slice-space.result in
    let at : slice_get f.spaces s ≡ Some space = subst (λ (xs : List FormSpace). slice_get xs s ≡ Some space) c.as_slice.ensures
    (slice_get_read c.as_slice.result.now (length c.as_slice.result.now) s space refl
    (space-inside f s c.as_slice.result.now c.as_slice.ensures r.inside) c.index-as_slice-space.is) in
    let lefts : c.as_slice-lefts.result.now ≡ (part_at classes space.children.0).representatives = c.as_slice-lefts.ensures
    ∙ ap (λ (p : SpaceClasses). p.representatives) c.classes_of.ensures in
    let few_lefts = few-classes f classes r.form r.refined space.children.0 (left-space f classes r.form r.refined s r.inside space at) in
    let d = ap (λ (xs : List ℕ). length xs) lefts in
    let row_few = (c.in_ok-rows.ensures).few in
    let rights : c.as_slice-rights.result.now ≡ (part_at classes space.children.1).representatives = c.as_slice-rights.ensures
    ∙ ap (λ (p : SpaceClasses). p.representatives) c.classes_of-2.ensures in
    let few_rights = few-classes f classes r.form r.refined space.children.1 (right-space f classes r.form r.refined s r.inside space at) in
    let e = ap (λ (xs : List ℕ). length xs) rights in
    let column_few = (c.in_ok-columns.ensures).few in
    let one : c.len.result ≤ 2147483648 = (let l = c.len.ensures in omega arith) in
    let two : c.len-2.result ≤ 2147483648 = (let l = c.len-2.ensures in omega arith) in
    let product = mul-le-mul one two in
    omega arith

pub bounds-as_slice-own : goal.bounds-as_slice-own
bounds-as_slice-own c =
    let f = c.args.form.now in
    let classes = c.args.classes.now in
    let s = c.args.space in
    let r = c.requires in
    let space = c.index-as_slice-space.result in
    let at : slice_get f.spaces s ≡ Some space = subst (λ (xs : List FormSpace). slice_get xs s ≡ Some space) c.as_slice.ensures
    (slice_get_read c.as_slice.result.now (length c.as_slice.result.now) s space refl
    (space-inside f s c.as_slice.result.now c.as_slice.ensures r.inside) c.index-as_slice-space.is) in
    let within = initial-classed f classes r.form r.refined s r.inside in
    let is = initial-form f s ∙ initial-at f s space at in
    let e = ap (λ (xs : List ℕ). length xs) c.as_slice-4.ensures in
    let h = ap (λ (p : SpaceClasses). length p.classes) c.classes_of-here.ensures in
    omega arith

pub overflow_cast-part-3 : goal.overflow_cast-part-3
overflow_cast-part-3 c =
    let f = c.args.form.now in
    let classes = c.args.classes.now in
    let s = c.args.space in
    let r = c.requires in
    let space = c.index-as_slice-space.result in
    let at : slice_get f.spaces s ≡ Some space = subst (λ (xs : List FormSpace). slice_get xs s ≡ Some space) c.as_slice.ensures
    (slice_get_read c.as_slice.result.now (length c.as_slice.result.now) s space refl
    (space-inside f s c.as_slice.result.now c.as_slice.ensures r.inside) c.index-as_slice-space.is) in
    let rights : c.as_slice-rights.result.now ≡ (part_at classes space.children.1).representatives = c.as_slice-rights.ensures
    ∙ ap (λ (p : SpaceClasses). p.representatives) c.classes_of-2.ensures in
    let few_rights = few-classes f classes r.form r.refined space.children.1 (right-space f classes r.form r.refined s r.inside space at) in
    let e = ap (λ (xs : List ℕ). length xs) rights in
    let column_few = (c.in_ok-columns.ensures).few in
    let l = c.len-4.ensures in
    omega arith

pub returns : goal.returns
returns c =
    let f = c.args.form.now in
    let classes = c.args.classes.now in
    let s = c.args.space in
    let r = c.requires in
    let space = c.index-as_slice-space.result in
    let at : slice_get f.spaces s ≡ Some space = subst (λ (xs : List FormSpace). slice_get xs s ≡ Some space) c.as_slice.ensures
    (slice_get_read c.as_slice.result.now (length c.as_slice.result.now) s space refl
    (space-inside f s c.as_slice.result.now c.as_slice.ensures r.inside) c.index-as_slice-space.is) in
    let lefts : c.as_slice-lefts.result.now ≡ (part_at classes space.children.0).representatives = c.as_slice-lefts.ensures
    ∙ ap (λ (p : SpaceClasses). p.representatives) c.classes_of.ensures in
    let rights : c.as_slice-rights.result.now ≡ (part_at classes space.children.1).representatives = c.as_slice-rights.ensures
    ∙ ap (λ (p : SpaceClasses). p.representatives) c.classes_of-2.ensures in
    let here = c.classes_of-here.ensures in
    IsSharedPart-made f classes s space at c.in_ok-rows.rows.numbers c.in_ok-columns.columns.numbers c.in_ok-rows.rows.states c.in_ok-columns.columns.states
    c.in_ok-cells.cells c.len-3.result (slice_index c.as_slice-4.result.now space.initial) c.len-4.result
    (c.len-3.ensures ∙ ap (λ (p : SpaceClasses). length p.representatives) here)
    (ap (λ (xs : List ℕ). slice_index xs space.initial) (c.as_slice-4.ensures ∙ ap (λ (p : SpaceClasses). p.classes) here))
    c.len-4.ensures
    (c.in_ok-cells.ensures ∙ ap (λ (n : ℕ). range_with_len 0 (n * c.len-2.result)) c.len.ensures
    ∙ ap (λ (n : ℕ). range_with_len 0 (length c.in_ok-rows.rows.states * n)) c.len-2.ensures)
    (subst (λ (xs : List ℕ). AreSharedRows xs (part_at classes space.children.0).representatives c.in_ok-rows.rows.numbers c.in_ok-rows.rows.states)
    c.as_slice-2.ensures
    (subst (λ (xs : List ℕ). AreSharedRows c.as_slice-2.result.now xs c.in_ok-rows.rows.numbers c.in_ok-rows.rows.states) lefts c.in_ok-rows.ensures))
    (subst (λ (xs : List ℕ). AreSharedRows xs (part_at classes space.children.1).representatives c.in_ok-columns.columns.numbers
    c.in_ok-columns.columns.states) c.as_slice-3.ensures
    (subst (λ (xs : List ℕ). AreSharedRows c.as_slice-3.result.now xs c.in_ok-columns.columns.numbers c.in_ok-columns.columns.states) rights
    c.in_ok-columns.ensures))
