use Rattle.std.proofs.Common.{◌≡◌, Option, Some, None, is_some, true, sym, subst, refl, arith}
use Rattle.std.proofs.lemmas.Bool.{false≢true}
use Rattle.store_core.specs.declared.ids.CellId.{CellId}
use Rattle.store_core.specs.Stores.{CellEntry, cell_of}
use Rattle.routing_walks.specs.Walks.{Leads, DataAlone}
use Rattle.routing_expr.proofs.IndexLemmas.{Leads-field, live-mapped}
use Rattle.routing_expr.proofs.search.Search.is_leaf.Goals as goal

some_child : (o : Option CellId) → is_some o ≡ true → ((d : CellId) → o ≡ Some d → ⊥) → ⊥
some_child None e f = false≢true e
some_child (Some d) e f = f d refl

pub returns-then-is_some : goal.returns-then-is_some
returns-then-is_some c = (
  λ e. absurd (false≢true e),
  λ leaf. absurd (some_child c.child_at.result (sym c.if-is_some.ensures)
      (λ d is. leaf.alone d (record { field = record { ty = c.in-Some.ty; index = c.loop-index.index }; leads = (c.child_at.ensures d).0 is }))),
)

pub returns : goal.returns
returns c = (
  λ _. record {
    live = live-mapped (cell_of c.args.self.now.store.now c.args.cell) (λ (cell : CellEntry). cell.variant.ty) c.in-Some.ty c.in-Some.ensures;
    alone = λ d h.
        let of_type = Leads-field c.args.self.now.types.now c.args.self.now.store.now DataAlone h.field c.args.cell d c.in-Some.ty c.in-Some.ensures h.leads in
        c.loop-index.invariant h.field.index d (let inside = of_type.1 in omega (arith, c.loop-index-test.false, c.fields-index-end.ensures))
        (subst (λ f. Leads c.args.self.now.types.now c.args.self.now.store.now DataAlone f c.args.cell d) of_type.0 h.leads);
  },
  λ _. refl,
)
