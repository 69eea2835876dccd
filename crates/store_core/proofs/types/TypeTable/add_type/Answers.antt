use Rattle.std.proofs.Common.{◌≡◌, ap, ◌∙◌, sym, subst}
use Rattle.store_core.specs.Tables.{IsTypeTable, type_named, add_type}
use Rattle.store_core.specs.TypeBodies.{entries_of}
use Rattle.store_core.proofs.Names.{none_found}
use Rattle.store_core.proofs.Adding.{IsTypeTable-add_type}
use Rattle.store_core.proofs.Bodies.{entries_of-insert}
use Rattle.store_core.proofs.types.TypeTable.add_type.Goals as goal

-- the name was new, so what is kept now are the types with that one more
grown : (c : goal.Joined-branch-3) → entries_of c.insert.new.self.entries ≡ add_type (entries_of c.self.inside.types.entries) c.args.name.now
grown c =
    ap entries_of c.in_ok-insert.ensures.entries
    ∙ entries_of-insert c.self.inside.types.entries c.in_ok-key.key _ c.args.name.now c.in_ok-key.ensures.items c.new.ensures.empty c.new-2.ensures.empty
    (none_found (λ i. record { 0 = i }) _ (ap (λ t. type_named t c.args.name.now) c.self.view_is ∙ c.requires.new))

pub invariant_of-self-2 : goal.invariant_of-self-2
unfolding grown
invariant_of-self-2 c =
    let types = entries_of c.self.inside.types.entries in
    subst IsTypeTable (sym (grown c)) (IsTypeTable-add_type types c.args.name.now c.self.invariant
    (rw c.self.view_is c.requires.room)
    (none_found (λ i. record { 0 = i }) _ (ap (λ t. type_named t c.args.name.now) c.self.view_is ∙ c.requires.new)))

pub returns-clause-added : goal.returns-clause-added
returns-clause-added c = grown c ∙ ap (λ t. add_type t c.args.name.now) c.self.view_is
