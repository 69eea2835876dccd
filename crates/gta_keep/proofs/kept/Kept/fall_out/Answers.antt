use Rattle.std.proofs.Common.{◌≡◌, ◌-◌, eqb, eq-eqb, true, [], ◌∷◌, length, take, Contains, sym, ◌∙◌, ap, subst}
use Rattle.std.proofs.lemmas.Bool.{false≢true}
use Rattle.lru.specs.LruCache.{LruCache, last_entry}
use Rattle.gta_core.specs.Auto.{AutoView}
use Rattle.ws2s_core.specs.declared.node.FormulaId.{FormulaId}
use Rattle.gta_keep.specs.Holding.{Passes}
use Rattle.gta_keep.proofs.PassesLemmas.{Entries}
use Rattle.gta_keep.proofs.KeptLemmas.{Passes-popped, same-key, stays-popped}
use Rattle.gta_keep.proofs.kept.Kept.fall_out.Goals as goal

pub returns-clause-passes : goal.returns-clause-passes
returns-clause-passes c = λ g shelf.
    let was = c.self.inside.automata.entries in
    let now = c.pop_lru.new.self.entries in
    let out = c.in_ok-out.out in
    let are : now ≡ take (length was - 1) was = ap (λ (x : LruCache FormulaId AutoView). x.entries) c.in_ok-out.ensures.entries in
    let first : was ≡ c.args.self.now = cc in
    subst (λ (es : Entries). Passes g shelf shelf [] (out ∷ []) es now) first
    (subst (λ (es : Entries). Passes g shelf shelf [] (out ∷ []) was es) (sym are)
    (Passes-popped g shelf was (c.in_ok-out.field-0-0, out) (sym c.in_ok-out.ensures.value)))

pub returns-clause-stays : goal.returns-clause-stays
returns-clause-stays c = λ auto there.
    let was = c.self.inside.automata.entries in
    let now = c.pop_lru.new.self.entries in
    let out = c.in_ok-out.out in
    let are : now ≡ take (length was - 1) was = ap (λ (x : LruCache FormulaId AutoView). x.entries) c.in_ok-out.ensures.entries in
    let first : was ≡ c.args.self.now = cc in
    let oldest = c.in_ok-oldest.ensures in
    let last = c.in_ok-out.ensures.value in
    let key : c.in_ok-oldest.oldest.now ≡ c.in_ok-out.field-0-0 =
    same-key (last_entry was) (c.in_ok-oldest.oldest.now, c.in_ok-oldest.field-0-1.now) (c.in_ok-out.field-0-0, out) oldest last in
    let other : c.in_ok-out.field-0-0 ≡ c.args.id → ⊥ = λ same.
    (let equal : eqb c.in_ok-oldest.oldest.now.0 c.args.id.0 ≡ true =
    eq-eqb c.in_ok-oldest.oldest.now.0 c.args.id.0 (ap (λ (x : FormulaId). x.0) (key ∙ same)) in
    false≢true (sym c.if-eq.false ∙ c.eq.ensures ∙ equal)) in
    subst (λ (es : Entries). Contains es (c.args.id, auto)) (sym are)
    (stays-popped was (c.in_ok-out.field-0-0, out) c.args.id (sym last) other auto
    (subst (λ (es : Entries). Contains es (c.args.id, auto)) (sym first) there))
