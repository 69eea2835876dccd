use Rattle.std.proofs.Common.{◌≡◌, ◌+◌, ◌++◌, ◌∷◌, List, None, drop, sym, subst}
use Rattle.store_core.specs.Tables.{VarEntry, AreDistinct, place_of, var_names}
use Rattle.pale_tables.proofs.StageLemmas.{item-next, distinct-before}
use Rattle.pale_terms.specs.Scopes.{visible_names}
use Rattle.pale_sights.proofs.sights.show.Goals as goal

-- the next variable has a name of its own
pub add-requires : goal.add-requires
add-requires c =
    let vars = c.args.variables.now in
    let i = c.loop-variable.variable-index in
    let v : VarEntry = c.variable-item.result in
    let names = visible_names c.loop-variable.scope in
    let next : drop i vars ≡ v ∷ drop (i + 1) vars = item-next vars i v c.loop-variable-test.true c.variable-item.is in
    subst (λ name. place_of name names ≡ None) (sym c.name.ensures)
    (distinct-before names (var_names (drop (i + 1) vars)) v.name
    (subst (λ (l : List VarEntry). AreDistinct (names ++ var_names l)) next c.loop-variable.invariant.new))
