use Rattle.std.proofs.Common.{◌≡◌, ◌++◌, ◌∷◌, [], None, ap, ◌∙◌, sym, refl, subst, length, arith}
use Rattle.std.proofs.lemmas.List.{length_push, map_push}
use Rattle.store_core.specs.Tables.{IsVarTable, AreDistinct, var_named, var_names, place_of, add_var}
use Rattle.store_core.specs.VarBodies.{vars_of, var_entry}
use Rattle.store_core.proofs.Names.{none_found, position-keys, AreDistinct-push}
use Rattle.store_core.proofs.Bodies.{map-insert_entry}
use Rattle.store_core.proofs.vars.VarTable.add.Goals as goal

-- the name is not among those that were there
new : (c : goal.In_ok-insert) → place_of c.args.name.now (var_names (vars_of c.self.inside.vars.entries)) ≡ None
new c = none_found (λ i. record { 0 = i }) _ (ap (λ t. var_named t c.args.name.now) c.self.view_is ∙ c.requires.new)

grown : (c : goal.In_ok-insert) → vars_of c.insert.new.self.entries ≡ add_var (vars_of c.self.inside.vars.entries) c.args.name.now c.args.kind
grown c =
    let es = c.self.inside.vars.entries in
    ap vars_of c.in_ok-insert.ensures.entries
    ∙ map-insert_entry var_entry c.in_ok-key.key c.args.kind es
    (position-keys c.in_ok-key.key.items var_entry (λ v. v.name) (λ e. refl) es ∙
    ap (λ n. place_of n (var_names (vars_of es))) c.in_ok-key.ensures.items ∙ new c)
    ∙ ap (λ n. vars_of es ++ record { name = n; kind = c.args.kind } ∷ []) c.in_ok-key.ensures.items

pub invariant_of-self-2 : goal.invariant_of-self-2
invariant_of-self-2 c =
    let vars = vars_of c.self.inside.vars.entries in
    subst IsVarTable (sym (grown c)) (record {
      few = omega (arith, length_push vars (record { name = c.args.name.now; kind = c.args.kind }), ap length c.self.view_is, c.requires.room);
      names = subst AreDistinct (sym (map_push (λ v. v.name) vars (record { name = c.args.name.now; kind = c.args.kind })))
          (AreDistinct-push (var_names vars) c.args.name.now c.self.invariant.names (new c));
    })

pub returns-clause-added : goal.returns-clause-added
returns-clause-added c = grown c ∙ ap (λ t. add_var t c.args.name.now c.args.kind) c.self.view_is
