use Rattle.std.proofs.Common.{◌≡◌, IsSomeAnd, ap, ◌∙◌, sym, subst}
use Rattle.std.specs.FinMap.{from_sorted}
use Rattle.store_text.specs.Spelling.{all_of}
use Rattle.store_text.specs.Reading.{next_after, store_said}
use Rattle.store_text.specs.Saying.{Said}
use Rattle.store_text.proofs.DraftLemmas.{kept_said, keys-said}
use Rattle.store_text.proofs.read.draft.Draft.into_store.Goals as goal

pub of-requires-clause-kept : goal.of-requires-clause-kept
of-requires-clause-kept c = kept_said c.in_ok-bodies.bodies.items c.self.inside.cells.entries c.self.inside.next c.in_ok-bodies.ensures.cells
    c.in_ok-bodies.ensures.rising c.self.invariant

pub returns-clause-store : goal.returns-clause-store
returns-clause-store c =
    let made = c.of.ensures
    ∙ (λ i. record {
      cells = from_sorted (c.in_ok-bodies.ensures.cells i);
      vars = c.in_ok-values.values;
      next = (c.self.invariant.next ∙ sym (ap next_after (keys-said c.self.inside.cells.entries c.self.invariant.rising))) i;
    })
    ∙ ap (λ said. store_said said c.in_ok-values.values) c.self.view_is in (
      ap (λ (s : Said). s.mentions) c.self.view_is,
      subst (λ o. IsSomeAnd o (λ values. c.of.result ≡ store_said c.args.self values))
          (sym (ap (λ (s : Said). all_of (λ x. x) s.vars) (sym c.self.view_is) ∙ c.in_ok-values.ensures.values)) made,
    )
