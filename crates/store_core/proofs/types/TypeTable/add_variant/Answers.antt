use Rattle.std.proofs.Common.{◌≡◌, ℕ, [], ◌∷◌, ◌++◌, ap, ◌∙◌, sym, refl, subst, length, map, arith}
use Rattle.std.proofs.lemmas.List.{length-map}
use Rattle.indexmap.specs.Layout.{set_value_at}
use Rattle.store_core.specs.Tables.{IsTypeTable, place_of, variants_of, add_variant}
use Rattle.store_core.specs.TypeBodies.{entries_of, field_entry, IsBodyOf}
use Rattle.store_core.proofs.Names.{no_key, always_OnErr}
use Rattle.store_core.proofs.Adding.{IsTypeTable-add_variant}
use Rattle.store_core.proofs.Bodies.{entries_of-set, entries_of-same, IsBodyOf-value, variants_of-body, map-insert_entry}
use Rattle.store_core.proofs.types.TypeTable.add_variant.Goals as goal

-- a write of the same entries changes nothing
unchanged : (c : goal.After-from_residual-in_err-insert) →
    entries_of (set_value_at c.self.inside.types.entries c.args.ty.0
    (record { variants = c.insert.new.self; fields = c.in-Some.body.now.fields })) ≡ entries_of c.self.inside.types.entries
unchanged c = entries_of-same c.self.inside.types.entries c.args.ty.0 c.in-Some.body.now _ (sym c.in-Some.ensures.value) c.in_err-insert.ensures.err refl

pub invariant_of-self : goal.invariant_of-self
invariant_of-self c = subst IsTypeTable (sym (unchanged c)) c.self.invariant

pub returns-in_err-insert-clause-err : goal.returns-in_err-insert-clause-err
returns-in_err-insert-clause-err c = always_OnErr _ (unchanged c ∙ c.self.view_is)

body_of : (c : goal.In_ok-insert) → IsBodyOf c.args.self.now c.args.ty c.in-Some.body.now
body_of c = IsBodyOf-value c.self.inside.types.entries c.args.self.now c.args.ty c.in-Some.body.now c.self.view_is c.self.invariant
    (sym c.in-Some.ensures.value)

variants_are : (c : goal.In_ok-insert) → variants_of c.args.self.now c.args.ty ≡ map (λ v. v.0.items) c.in-Some.body.now.variants.entries
variants_are c = variants_of-body c.args.self.now c.args.ty c.in-Some.body.now (body_of c)

added : (c : goal.In_ok-insert) → map (λ v. v.0.items) c.insert.new.self.entries ≡ map
    (λ v. v.0.items) c.in-Some.body.now.variants.entries ++ c.args.name.now ∷ []
added c =
    let named = c.in_ok-key.ensures.items in
    ap (map (λ v. v.0.items)) c.in_ok-insert.ensures.entries
    ∙ map-insert_entry (λ v. v.0.items) c.in_ok-key.key tt c.in-Some.body.now.variants.entries
    (no_key c.in_ok-key.key.items c.in-Some.body.now.variants.entries
    (ap (λ n. place_of n (map (λ v. v.0.items) c.in-Some.body.now.variants.entries)) named ∙ ap (place_of c.args.name.now)
    (sym (variants_are c)) ∙ c.requires.new))
    ∙ ap (λ n. map (λ v. v.0.items) c.in-Some.body.now.variants.entries ++ n ∷ []) named

changed : (c : goal.In_ok-insert) → entries_of
    (set_value_at c.self.inside.types.entries c.args.ty.0 (record { variants = c.insert.new.self; fields = c.in-Some.body.now.fields }))
    ≡ add_variant (entries_of c.self.inside.types.entries) c.args.ty c.args.name.now
changed c =
    entries_of-set c.self.inside.types.entries c.args.ty c.in-Some.body.now _
    (λ t. record t { variants = t.variants ++ c.args.name.now ∷ [] }) (sym c.in-Some.ensures.value)
    (λ k i. record { name = k; variants = added c i; fields = map field_entry c.in-Some.body.now.fields.entries })

pub overflow_cast-result : goal.overflow_cast-result
overflow_cast-result c = omega (arith, c.len-index.ensures.len, (body_of c).few_variants)

pub invariant_of-self-2 : goal.invariant_of-self-2
invariant_of-self-2 c =
    let types = entries_of c.self.inside.types.entries in
    subst IsTypeTable (sym (changed c)) (IsTypeTable-add_variant types c.args.ty c.args.name.now c.self.invariant
    (rw c.self.view_is c.requires.known) (rw c.self.view_is c.requires.new) (rw c.self.view_is c.requires.room))

pub returns-clause-value : goal.returns-clause-value
returns-clause-value c =
    ap (λ (n : ℕ). record { ty = c.args.ty; index = n })
    (c.len-index.ensures.len ∙ sym (ap length (variants_are c) ∙ length-map c.in-Some.body.now.variants.entries (λ v. v.0.items)))

pub returns-clause-added : goal.returns-clause-added
returns-clause-added c = changed c ∙ ap (λ t. add_variant t c.args.ty c.args.name.now) c.self.view_is
