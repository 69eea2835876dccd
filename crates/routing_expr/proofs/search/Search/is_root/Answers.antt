use Rattle.std.proofs.Common.{◌≡◌, Option, Some, None, IsSome, is_some, true, sym, ap, ◌∙◌, subst, refl, get_or, inl, inr}
use Rattle.std.specs.Option.{option_map}
use Rattle.std.proofs.lemmas.Bool.{false≢true}
use Rattle.std.proofs.lemmas.Option.{slice_get-get_or}
use Rattle.store_core.specs.Stores.{CellEntry, cell_of}
use Rattle.routing_walks.proofs.GatheringLemmas.{below_suc}
use Rattle.routing_expr.specs.Searches.{fields_in}
use Rattle.routing_expr.proofs.StepLemmas.{LinkOf, LinkOf-parent, LinkOf-parents, LinkOf-not, IsData, no_link}
use Rattle.routing_expr.proofs.search.Search.is_root.Goals as goal

pub returns-then-is_data : goal.returns-then-is_data
returns-then-is_data c = (
  λ e. absurd (false≢true e),
  λ root.
      let links = c.to-link-items.result.now in
      let link = get_or links c.loop-link.link-index no_link in
      absurd (root.alone link.parent
      (LinkOf-parent c.args.self.now.types.now c.args.self.now.store.now
      (fields_in c.args.self.now.followed) c.args.self.now.links.links.items links c.args.cell
      c.requires c.to-link-items.ensures c.loop-link.link-index link.parent
      (record {
        link = link;
        at = slice_get-get_or links c.loop-link.link-index no_link c.loop-link-test.true;
        passes = c.if-is_data.ensures.0 refl;
        is = refl;
      }))),
)

pub loop-link-preserved : goal.loop-link-preserved
loop-link-preserved c a h =
    let links = c.to-link-items.result.now in
    elim (below_suc h.place c.loop-link.link-index h.before) [
      | inl below ↦ c.loop-link.invariant a (record { place = h.place; before = below; at = h.at })
      | inr same ↦
          LinkOf-not links (IsData c.args.self.now.types.now) c.loop-link.link-index (get_or links c.loop-link.link-index no_link)
          (slice_get-get_or links c.loop-link.link-index no_link c.loop-link-test.true) (λ p. false≢true (c.if-is_data.ensures.1 p)) a
          (subst (λ i. LinkOf links (IsData c.args.self.now.types.now) i a) same h.at)
    ]

alive : {X Y : Type 0} (o : Option X) (f : X → Y) → is_some (option_map f o) ≡ true → IsSome o
alive None f e = e
alive (Some x) f e = refl

pub returns : goal.returns
returns c = (
  λ _. record {
    live = alive (cell_of c.args.self.now.store.now c.args.cell) (λ (cell : CellEntry). cell.variant.ty)
        (ap is_some (sym c.type_of.ensures) ∙ c.if-is_none.ensures);
    alone = λ a h. c.loop-link.invariant a
        ((LinkOf-parents c.args.self.now.types.now c.args.self.now.store.now
        (fields_in c.args.self.now.followed) c.args.self.now.links.links.items c.to-link-items.result.now c.args.cell
        c.requires c.to-link-items.ensures c.loop-link.link-index c.loop-link-test.false a).1 h);
  },
  λ _. refl,
)
