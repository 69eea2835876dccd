use Rattle.std.proofs.Common.{◌≡◌, ◌-◌, length, take, [], ap, sym, subst, ◌∙◌}
use Rattle.lru.specs.LruCache.{LruCache}
use Rattle.gta_core.specs.Auto.{AutoView}
use Rattle.ws2s_core.specs.declared.node.FormulaId.{FormulaId}
use Rattle.gta_keep.specs.Holding.{Passes}
use Rattle.gta_keep.proofs.PassesLemmas.{Entries, Passes-both}
use Rattle.gta_keep.proofs.KeptLemmas.{none-popped, popped-registered, popped-passes, popped-held}
use Rattle.gta_keep.proofs.kept.Kept.release_all.Goals as goal

pub release-requires : goal.release-requires
release-requires c =
    popped-registered c.loop-auto.invariant.held.0 c.loop-auto.shelf _ c.loop-auto.invariant.held.1 _ c.in-Some.ensures.value

pub loop-auto-preserved : goal.loop-auto-preserved
loop-auto-preserved c =
    let h = c.loop-auto.invariant.held.0 in
    let was = c.loop-auto.self-inside.automata.entries in
    let now = c.pop_lru.new.self.entries in
    let are : now ≡ take (length was - 1) was = ap (λ (x : LruCache FormulaId AutoView). x.entries) c.in-Some.ensures.entries in
    let held = c.loop-auto.invariant.held.1 in
    record {
      passes = λ g. Passes-both g c.args.shelf.now c.loop-auto.shelf c.release.new.shelf [] [] [] _ was now (c.loop-auto.invariant.passes g)
          (popped-passes h c.loop-auto.shelf c.release.new.shelf was now held _ c.in-Some.ensures.value are c.release.ensures.shelf
          c.release.ensures.dropped g);
      held = (
        h,
        popped-held h c.loop-auto.shelf c.release.new.shelf was now held _ c.in-Some.ensures.value are c.release.ensures.shelf
            c.release.ensures.dropped,
      );
    }

pub returns-clause-passes : goal.returns-clause-passes
returns-clause-passes c = λ g.
    let was = c.loop-auto.self-inside.automata.entries in
    let now = c.pop_lru.new.self.entries in
    let first = c.self.inside.automata.entries in
    let are : now ≡ take (length was - 1) was = ap (λ (x : LruCache FormulaId AutoView). x.entries) c.in_default.ensures.entries in
    let none = none-popped was now c.in_default.ensures.value are in
    let begins : first ≡ c.args.self.now = cc in
    let ends : was ≡ now = none.0 ∙ sym none.1 in
    subst (λ (es : Entries). Passes g c.args.shelf.now c.loop-auto.shelf [] [] es now) begins
    (subst (λ (es : Entries). Passes g c.args.shelf.now c.loop-auto.shelf [] [] first es) ends (c.loop-auto.invariant.passes g))

pub returns-clause-empty : goal.returns-clause-empty
returns-clause-empty c =
    (none-popped c.loop-auto.self-inside.automata.entries c.pop_lru.new.self.entries c.in_default.ensures.value
    (ap (λ (x : LruCache FormulaId AutoView). x.entries) c.in_default.ensures.entries)).1
