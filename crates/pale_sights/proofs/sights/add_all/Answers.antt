use Rattle.std.proofs.Common.{◌≡◌, ◌+◌, ◌++◌, ◌∷◌, ℕ, List, None, drop, ap, sym, subst}
use Rattle.std.specs.Option.{option_map}
use Rattle.store_core.specs.Tables.{VarEntry, AreDistinct, var_names, var_named}
use Rattle.store_core.specs.declared.ids.VarId.{VarId}
use Rattle.pale_tables.proofs.StageLemmas.{item-next, distinct-before}
use Rattle.pale_sights.proofs.sights.add_all.Goals as goal

-- the next variable has a name of its own
pub add-requires-clause-new : goal.add-requires-clause-new
add-requires-clause-new c =
    let vars = c.args.variables.now in
    let i = c.loop-variable.variable-index in
    let v : VarEntry = c.variable-item.result in
    let table = c.loop-variable.vars in
    let next : drop i vars ≡ v ∷ drop (i + 1) vars = item-next vars i v c.loop-variable-test.true c.variable-item.is in
    subst (λ name. var_named table name ≡ None) (sym c.name.ensures)
    (ap (option_map (λ (n : ℕ). let id : VarId = record { 0 = n } in id))
    (distinct-before (var_names table) (var_names (drop (i + 1) vars)) v.name
    (subst (λ (l : List VarEntry). AreDistinct (var_names table ++ var_names l)) next c.loop-variable.invariant.new)))
