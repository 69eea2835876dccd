use Rattle.std.proofs.Common.{sym, arith, inl, inr}
use Rattle.std.specs.Prelude.{Contains}
use Rattle.routing_expr.proofs.PlaceLemmas.{listing_alike, fields_step, fields_all, before_field}
use Rattle.routing_expr.proofs.places.add_fields.Goals as goal

pub add_field-requires-clause-before : goal.add_field-requires-clause-before
add_field-requires-clause-before c = λ p m.
    before_field c.args.cell _ p (elim ((c.loop-index.invariant.members p).0 m) [ inl old ↦ inl (c.requires.before p old) | inr new ↦ inr new.0 ])

pub loop-index-preserved : goal.loop-index-preserved
loop-index-preserved c =
    listing_alike _ _ _
    (λ p. let old = c.loop-index.invariant.members p in
    let step = fields_step c.args.store.now c.args.cell c.in-Some.ty c.loop-index.index (λ q. Contains c.args.places.now.items q)
    (sym c.in-Some.ensures) p in (
      λ h. step.0 (elim h [ inl m ↦ inl (old.0 m) | inr new ↦ inr new ]),
      λ h. elim (step.1 h) [ inl m ↦ inl (old.1 m) | inr new ↦ inr new ],
    ))
    c.in_ok-add_field.ensures

pub returns : goal.returns
returns c =
    listing_alike _ _ _ (fields_all c.args.types.now c.args.store.now c.args.cell c.in-Some.ty c.loop-index.index
    (λ p. Contains c.args.places.now.items p) (c.requires.fits c.args.cell) (sym c.in-Some.ensures) (omega arith)) c.loop-index.invariant
