use Rattle.std.proofs.Common.{◌≡◌, ℕ, ◌∙◌, refl, sym, ap, arith, inl, inr, Some, None, length, Option}
use Rattle.std.specs.Prelude.{option_map}
use Rattle.std.specs.FinMap.{keys}
use Rattle.std.proofs.lemmas.Option.{slice_get-get_or}
use Rattle.store_core.specs.declared.ids.CellId.{CellId}
use Rattle.routing_expr.proofs.PlaceLemmas.{listing_alike, vars_all, cells_step, before_cell, places_all}
use Rattle.routing_expr.proofs.places.list_places.Goals as goal

abbrev cell_id : ℕ → CellId
cell_id n = record { 0 = n }

key_is : (o : Option ℕ) (c : CellId) → option_map cell_id o ≡ Some c → o ≡ Some c.0
key_is None c e = cc
key_is (Some n) c e = let same : cell_id n ≡ c = cc in ap (λ (d : CellId). Some d.0) same

no_key : (o : Option ℕ) (n : ℕ) → option_map cell_id o ≡ None → o ≡ Some n → ⊥
no_key None n e h = cc
no_key (Some m) n e h = cc

pub loop-place-init : goal.loop-place-init
loop-place-init c = listing_alike _ _ _ (vars_all c.args.store.now c.args.vars.now (length c.args.vars.now) c.requires.values refl) c.in_ok-places.ensures

pub unreachable-requires : goal.unreachable-requires
unreachable-requires c =
    no_key _ _ (sym c.cell_at.ensures ∙ c.in_default.is)
    (slice_get-get_or (keys c.args.store.now.cells) c.loop-place.place 0 (omega (arith, c.cells-place-end.ensures)))

pub add_fields-requires-clause-before : goal.add_fields-requires-clause-before
add_fields-requires-clause-before c = λ p m.
    before_cell c.args.store.now c.loop-place.place c.in-Some.cell (key_is _ _ (sym c.in-Some.ensures)) p ((c.loop-place.invariant.members p).0 m).0

pub loop-place-preserved : goal.loop-place-preserved
loop-place-preserved c =
    listing_alike _ _ _
    (λ p. let old = c.loop-place.invariant.members p in let step = cells_step c.args.store.now c.loop-place.place c.in-Some.cell
    (key_is _ _ (sym c.in-Some.ensures)) p in (
      λ h. step.0 (elim h [ inl m ↦ inl (old.0 m) | inr new ↦ inr new ]),
      λ h. elim (step.1 h) [ inl m ↦ inl (old.1 m) | inr new ↦ inr new ],
    ))
    c.in_ok-add_fields.ensures

pub returns : goal.returns
returns c = places_all c.args.store.now c.loop-place.places.items c.loop-place.place (omega (arith, c.cells-place-end.ensures)) c.loop-place.invariant
