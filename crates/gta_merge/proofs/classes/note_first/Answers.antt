-- The class was seen, or the state is its first one.
use Rattle.std.proofs.Common.{ℕ, List, sym, ◌∙◌, subst}
use Rattle.gta_merge.specs.Classes.{IsFirstStep, was_seen, is_first}
use Rattle.gta_merge.proofs.classes.note_first.Goals as goal

pub returns-then-contains : goal.returns-then-contains
returns-then-contains c = was_seen (sym c.contains.ensures ∙ c.if-contains.true)

pub returns : goal.returns
returns c =
    subst (λ (xs : List ℕ). IsFirstStep c.args.had c.args.state c.args.seen.now c.args.firsts.now c.insert.new.self xs)
    (sym c.in_ok-push.ensures.ok) (is_first c.insert.new.self c.in_ok-insert.ensures.updates)
