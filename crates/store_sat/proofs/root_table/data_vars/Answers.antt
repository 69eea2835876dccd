use Rattle.std.proofs.Common.{◌≡◌, ◌++◌, ◌∷◌, ℕ, List, [], length, ap, sym, subst, ◌∙◌, arith}
use Rattle.std.proofs.lemmas.List.{length_push}
use Rattle.store_core.specs.declared.kind.VarKind.TheVariants as kind
use Rattle.store_core.specs.Tables.{VarEntry}
use Rattle.store_sat.proofs.NameLemmas.{IsGrowing, var_named-longer, grown}
use Rattle.store_sat.proofs.root_table.data_vars.Goals as goal

pub loop-name-init : goal.loop-name-init
loop-name-init c =
    subst (λ (t : List VarEntry). IsGrowing c.args.count t c.new-name.result.items) (sym c.new-table.ensures)
    (subst (λ (n : List ℕ). IsGrowing c.args.count [] n) (sym c.new-name.ensures.items)
    (record { few = omega arith; named = omega arith; each = tt; shorter = tt }))

pub add-requires-clause-new : goal.add-requires-clause-new
add-requires-clause-new c =
    let e : length c.deref.result.now ≡ length (c.loop-name.name.items ++ 118 ∷ []) = ap length (c.deref.ensures.value ∙ c.in_ok-push.ensures.items) in
    var_named-longer c.loop-name.table c.deref.result.now (length c.loop-name.name.items)
    (omega (arith, e, length_push c.loop-name.name.items 118)) c.loop-name.invariant.shorter

pub add-requires-clause-room : goal.add-requires-clause-room
add-requires-clause-room c = omega (arith, c.loop-name-test.true, c.vars.ensures.value)

pub loop-name-preserved : goal.loop-name-preserved
loop-name-preserved c =
    subst (λ (n : List ℕ). IsGrowing c.args.count c.add.new.self n) (sym c.in_ok-push.ensures.items)
    (subst (λ (t : List VarEntry). IsGrowing c.args.count t (c.loop-name.name.items ++ 118 ∷ [])) (sym c.in_ok-add.ensures.added)
    (grown c.args.count c.loop-name.table c.loop-name.name.items 118 (record { name = c.deref.result.now; kind = kind.Data (record { 0 = 0 }) })
    (c.deref.ensures.value ∙ c.in_ok-push.ensures.items) tt (omega (arith, c.loop-name-test.true, c.vars.ensures.value)) c.loop-name.invariant))

pub returns : goal.returns
returns c = record {
  length_is = omega (arith, c.loop-name-test.false, c.vars.ensures.value, c.loop-name.invariant.few);
  each = c.loop-name.invariant.each;
}
