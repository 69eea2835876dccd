use Rattle.std.proofs.Common.{◌≡◌, ℕ, suc, ◌-◌, ◌<◌, Bool, Some, slice_get, get_or, length, ap, subst, ◌∙◌, arith}
use Rattle.std.proofs.lemmas.Option.{slice_get-get_or}
use Rattle.labels.specs.Labels.{Label}
use Rattle.bdd_nodes.specs.Shelf.{state_of}
use Rattle.ws2s_theory.specs.Trees.{label_of}
use Rattle.gta_pinned.specs.Making.{where_same}
use Rattle.gta_pinned.proofs.MakingLemmas.{Makes-refl, Makes-trans}
use Rattle.gta_pinned.proofs.TellsLemmas.{TellsFrom, TellsFrom-end, TellsFrom-more, side-more, Tells-all}
use Rattle.gta_pinned.proofs.telling.telling.Goals as goal

pub loop-k-init : goal.loop-k-init
loop-k-init c = record {
  told = TellsFrom-end c.args.shelf.now c.args.rising.now (length c.args.rising.now) (label_of c.args.known.now) c.leaf-test.result
      (omega arith) c.leaf-test.ensures;
  makes = Makes-refl c.args.shelf.now c.requires.shelf;
}

pub one_more-requires : goal.one_more-requires
one_more-requires c =
    let rising = c.args.rising.now in
    let k = c.loop-k.k - 1 in
    let here : c.loop-k.k ≡ suc k = omega arith in
    let inside : k < length rising = omega arith in
    let at : slice_get rising k ≡ Some (get_or rising k 0) = slice_get-get_or rising k 0 inside in
    let known = label_of c.args.known.now in
    side-more c.loop-k.shelf c.loop-k.shelf rising c.requires.rises k (get_or rising k 0) at known c.loop-k.test c.loop-k.test
    (subst (λ (n : ℕ). TellsFrom c.loop-k.shelf rising n known c.loop-k.test) here c.loop-k.invariant.told)

pub loop-k-preserved : goal.loop-k-preserved
loop-k-preserved c =
    let rising = c.args.rising.now in
    let k = c.loop-k.k - 1 in
    let here : c.loop-k.k ≡ suc k = omega arith in
    let inside : k < length rising = omega arith in
    let t = get_or rising k 0 in
    let at : slice_get rising k ≡ Some t = slice_get-get_or rising k 0 inside in
    let known = label_of c.args.known.now in
    let old = c.loop-k.shelf in
    let new = c.one_more.new.shelf in
    let told = subst (λ (n : ℕ). TellsFrom old rising n known c.loop-k.test) here c.loop-k.invariant.told in
    let value : (label : Label) → state_of new c.in_ok-test.test label ≡ where_same (label t) (known t) (state_of old c.loop-k.test label) =
    λ label. c.in_ok-test.ensures.value label
    ∙ ap (λ (b : Bool). where_same (label t) b (state_of old c.loop-k.test label)) c.has_track.ensures in
    record {
      told = TellsFrom-more old new rising c.requires.rises k t at known c.loop-k.test c.in_ok-test.test told value c.in_ok-test.ensures.valid
          c.in_ok-test.ensures.later;
      makes = Makes-trans c.args.shelf.now old new c.loop-k.invariant.makes c.one_more.ensures.makes;
    }

pub returns-clause-tells : goal.returns-clause-tells
returns-clause-tells c =
    let end : c.loop-k.k ≡ 0 = omega arith in
    let known = label_of c.args.known.now in
    Tells-all c.loop-k.shelf c.args.rising.now known c.loop-k.test
    (subst (λ (n : ℕ). TellsFrom c.loop-k.shelf c.args.rising.now n known c.loop-k.test) end c.loop-k.invariant.told)
