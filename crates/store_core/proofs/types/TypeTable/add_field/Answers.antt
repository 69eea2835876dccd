use Rattle.std.proofs.Common.{◌≡◌, [], ◌∷◌, ◌++◌, ap, ◌∙◌, sym, refl, subst, length, map, arith}
use Rattle.std.proofs.lemmas.List.{length-map}
use Rattle.indexmap.specs.Layout.{set_value_at}
use Rattle.store_core.specs.Tables.{IsTypeTable, place_of, fields_of, field_names, owner_type, owner_only, with_type, add_field, FieldEntry}
use Rattle.store_core.specs.TypeBodies.{entries_of, field_entry, IsBodyOf}
use Rattle.store_core.proofs.Names.{position-keys, always_OnErr}
use Rattle.store_core.proofs.Adding.{IsTypeTable-add_field}
use Rattle.store_core.proofs.Bodies.{entries_of-set, entries_of-same, IsBodyOf-value, fields_of-body, map-insert_entry}
use Rattle.store_core.proofs.types.TypeTable.add_field.Goals as goal

-- a write of the same entries changes nothing
unchanged : (c : goal.After-from_residual-in_err-insert) →
    entries_of (set_value_at c.self.inside.types.entries c.type_of-ty.result.0
    (record { variants = c.in-Some.body.now.variants; fields = c.insert.new.self })) ≡ entries_of c.self.inside.types.entries
unchanged c = entries_of-same c.self.inside.types.entries c.type_of-ty.result.0 c.in-Some.body.now _
    (sym c.in-Some.ensures.value) refl c.in_err-insert.ensures.err

pub invariant_of-self : goal.invariant_of-self
invariant_of-self c = subst IsTypeTable (sym (unchanged c)) c.self.invariant

pub returns-in_err-insert-clause-err : goal.returns-in_err-insert-clause-err
returns-in_err-insert-clause-err c = always_OnErr _ (unchanged c ∙ c.self.view_is)

body_of : (c : goal.Joined-branch-3) → IsBodyOf c.args.self.now c.type_of-ty.result c.in-Some.body.now
body_of c = IsBodyOf-value c.self.inside.types.entries c.args.self.now c.type_of-ty.result c.in-Some.body.now c.self.view_is
    c.self.invariant (sym c.in-Some.ensures.value)

-- the fields of the owner's type are those of its body
fields_are : (c : goal.Joined-branch-3) → fields_of c.args.self.now (owner_type c.args.owner) ≡ map field_entry c.in-Some.body.now.fields.entries
fields_are c = ap (fields_of c.args.self.now) (sym c.type_of-ty.ensures) ∙ fields_of-body c.args.self.now c.type_of-ty.result c.in-Some.body.now (body_of c)

new_field : (c : goal.Joined-branch-3) → FieldEntry
new_field c = record { name = c.args.name.now; only = owner_only c.args.owner; kind = c.args.kind }

added : (c : goal.Joined-branch-3) → map field_entry c.insert.new.self.entries ≡ map field_entry c.in-Some.body.now.fields.entries ++ new_field c ∷ []
unfolding new_field
added c =
    let named = c.in_ok-key.ensures.items in
    let es = c.in-Some.body.now.fields.entries in
    ap (map field_entry) c.in_ok-insert.ensures.entries
    ∙ map-insert_entry field_entry c.in_ok-key.key (record { only = c.variant_of-only.result; kind = c.args.kind }) es
    (position-keys c.in_ok-key.key.items field_entry (λ f. f.name) (λ e. refl) es
    ∙ ap (λ n. place_of n (field_names (map field_entry es))) named
    ∙ ap (λ fields. place_of c.args.name.now (field_names fields)) (sym (fields_are c)) ∙ c.requires.new)
    ∙ (λ i. map field_entry es ++ record { name = named i; only = c.variant_of-only.ensures i; kind = c.args.kind } ∷ [])

changed : (c : goal.Joined-branch-3) → entries_of
    (set_value_at c.self.inside.types.entries c.type_of-ty.result.0 (record { variants = c.in-Some.body.now.variants; fields = c.insert.new.self }))
    ≡ add_field (entries_of c.self.inside.types.entries) c.args.owner c.args.name.now c.args.kind
unfolding new_field
changed c =
    entries_of-set c.self.inside.types.entries c.type_of-ty.result c.in-Some.body.now _
    (λ t. record t { fields = t.fields ++ new_field c ∷ [] }) (sym c.in-Some.ensures.value)
    (λ k i. record { name = k; variants = map (λ v. v.0.items) c.in-Some.body.now.variants.entries; fields = added c i })
    ∙ ap (λ ty. with_type (entries_of c.self.inside.types.entries) ty (λ t. record t { fields = t.fields ++ new_field c ∷ [] })) c.type_of-ty.ensures

pub overflow_cast-result : goal.overflow_cast-result
overflow_cast-result c = omega (arith, c.len-index.ensures.len, (body_of c).few_fields)

pub invariant_of-self-2 : goal.invariant_of-self-2
invariant_of-self-2 c =
    let types = entries_of c.self.inside.types.entries in
    subst IsTypeTable (sym (changed c)) (IsTypeTable-add_field types c.args.owner c.args.name.now c.args.kind c.self.invariant
    (rw c.self.view_is c.requires.owner) (rw c.self.view_is c.requires.kind) (rw c.self.view_is c.requires.new) (rw c.self.view_is c.requires.room))

pub returns-clause-value : goal.returns-clause-value
returns-clause-value c =
    λ i. record {
      ty = c.type_of-ty.ensures i;
      index = (c.len-index.ensures.len ∙ sym (ap length (fields_are c) ∙ length-map c.in-Some.body.now.fields.entries field_entry)) i;
    }

pub returns-clause-added : goal.returns-clause-added
returns-clause-added c = changed c ∙ ap (λ t. add_field t c.args.owner c.args.name.now c.args.kind) c.self.view_is
