use Rattle.std.proofs.Common.{sym, subst, refl}
use Rattle.std.proofs.lemmas.Option.{same_Some}
use Rattle.routing_walks.specs.Walks.{Leads}
use Rattle.routing_expr.specs.Searches.{fields_in}
use Rattle.routing_expr.proofs.IndexLemmas.{field-type}
use Rattle.routing_expr.proofs.search.Search.child.Goals as goal

pub returns : goal.returns
returns c d =
    let types = c.args.self.now.types.now in
    let s = c.args.self.now.store.now in
    let fields = fields_in c.args.self.now.followed in (
      λ e. record { field = c.in_ok-field.field; named = ((c.in_ok-field.ensures c.in_ok-field.field).0 refl).1; leads = (c.child_at.ensures d).0 e },
      λ h.
          let of_type = field-type s c.args.from h.field c.in_ok-ty.ty _ c.in_ok-ty.ensures h.leads.value in
          let same = same_Some c.in_ok-field.field h.field ((c.in_ok-field.ensures h.field).1 (of_type, h.named)) in
          (c.child_at.ensures d).1 (subst (λ f. Leads types s fields f c.args.from d) (sym same) h.leads),
    )
