-- One class in each space.
use Rattle.std.proofs.Common.{◌≡◌, ℕ, ◌+◌, ◌<◌, List, [], Bool, true, Some, length, refl, sym, ◌∙◌, ap, subst, arith}
use Rattle.std.specs.Prelude.{slice_get, slice_index_or}
use Rattle.std.proofs.lemmas.List.{get_or_read}
use Rattle.std.proofs.lemmas.Option.{slice_get_read}
use Rattle.gta_theory.specs.Guides.{IsSpace}
use Rattle.gta_reach.specs.declared.form.FormSpace.{FormSpace}
use Rattle.gta_classes.specs.declared.part.SpaceClasses.{SpaceClasses}
use Rattle.gta_reach.specs.Form.{guide_of, initial_of}
use Rattle.gta_classes.specs.Chosen.{is_marked}
use Rattle.gta_reach.proofs.ReachLemmas.{initial-at, many_spaces}
use Rattle.gta_refine.proofs.RefineLemmas.{SinglesBelow, SinglesBelow-push, AreSingle-all, initial-reached}
use Rattle.gta_refine.proofs.rounds.one_class_each.Goals as goal

pub one_class-requires : goal.one_class-requires
one_class-requires c =
    let form = c.args.form.now in
    let reached = c.in_ok-reached.reached.items in
    let s = c.loop-s.s in
    let space = c.index-as_slice-s.result in
    let below = c.loop-s-test.true in
    let len = c.len-s-end.ensures in
    let at : slice_get form.spaces s ≡ Some space = ap (λ (xs : List FormSpace). slice_get xs s) (sym c.as_slice-in-loop-s.ensures)
    ∙ slice_get_read c.as_slice-in-loop-s.result.now (length c.as_slice-in-loop-s.result.now) s space refl
    (let e = ap length c.as_slice-in-loop-s.ensures in omega arith) c.index-as_slice-s.is in
    let inside : s < length reached = (let e = c.in_ok-reached.ensures.spaces in omega arith) in
    let there : IsSpace (guide_of form) s = (let m = many_spaces form in omega arith) in
    let marks : c.in_ok-marks.marks ≡ slice_index_or reached s [] =
    c.in_ok-marks.ensures ∙ c.as_slice.ensures ∙ get_or_read reached s c.index.result.now inside c.index.ensures [] in
    subst (λ (q : ℕ). is_marked c.in_ok-marks.marks q ≡ true) (initial-at form s space at ∙ ap (λ (p : FormSpace). p.initial) c.index-as_slice-s.is)
    (ap (λ (xs : List Bool). is_marked xs (initial_of form s)) marks ∙ initial-reached form reached c.requires c.in_ok-reached.ensures s there)

pub loop-s-preserved : goal.loop-s-preserved
loop-s-preserved c =
    let form = c.args.form.now in
    let reached = c.in_ok-reached.reached.items in
    let s = c.loop-s.s in
    let below = c.loop-s-test.true in
    let len = c.len-s-end.ensures in
    let part : SpaceClasses = c.in_ok-one_class.field-0 in
    let inside : s < length reached = (let e = c.in_ok-reached.ensures.spaces in omega arith) in
    let marks : c.in_ok-marks.marks ≡ slice_index_or reached s [] =
    c.in_ok-marks.ensures ∙ c.as_slice.ensures ∙ get_or_read reached s c.index.result.now inside c.index.ensures [] in
    subst (λ (xs : List SpaceClasses). SinglesBelow reached xs (s + 1)) (sym c.in_ok-push.ensures.items)
    (SinglesBelow-push reached c.loop-s.spaces.items s part c.loop-s.invariant (c.in_ok-one_class.ensures.reached ∙ marks)
    c.in_ok-one_class.ensures.classes c.in_ok-one_class.ensures.one)

pub returns : goal.returns
returns c =
    let all : c.loop-s.s ≡ length c.args.form.now.spaces = (let a = c.loop-s-test.false in let b = c.loop-s.auto.s-end in let e = c.len-s-end.ensures in omega
    arith) in
    AreSingle-all c.args.form.now c.in_ok-reached.reached.items c.loop-s.spaces.items c.in_ok-reached.ensures
    (subst (SinglesBelow c.in_ok-reached.reached.items c.loop-s.spaces.items) all c.loop-s.invariant)
