-- The class was seen, or it is new, or there is none.
use Rattle.std.proofs.Common.{◌≡◌, ℕ, List, [], ◌∷◌, ◌++◌, sym, ◌∙◌, subst}
use Rattle.std.specs.Prelude.{slice_get}
use Rattle.gta_subsets.specs.Shorts.{IsShortStep, was_seen, is_first, has_none}
use Rattle.gta_subsets.proofs.ShortsLemmas.{on-ok}
use Rattle.gta_subsets.proofs.shorts.note_state.Goals as goal

pub returns-then-contains : goal.returns-then-contains
returns-then-contains c = was_seen c.in-Some.class.now (sym c.in-Some.ensures) (sym c.contains.ensures ∙ c.if-contains.true)

pub returns : goal.returns
returns c =
    let class = slice_get c.args.classes.now c.args.state in
    let short = c.args.short.now in
    on-ok c.push-2.result (λ (is : c.push-2.new.self ≡ short ++ c.args.state ∷ []).
    subst (λ (xs : List ℕ). IsShortStep class c.args.state c.args.seen.now short c.insert.new.self xs) (sym is)
    (is_first c.in-Some.class.now c.insert.new.self (sym c.in-Some.ensures) c.in_ok-insert.ensures.updates)) c.push-2.ensures.ok

pub returns-in_default : goal.returns-in_default
returns-in_default c =
    let class = slice_get c.args.classes.now c.args.state in
    let short = c.args.short.now in
    on-ok c.push.result (λ (is : c.push.new.self ≡ short ++ c.args.state ∷ []).
    subst (λ (xs : List ℕ). IsShortStep class c.args.state c.args.seen.now short c.args.seen.now xs) (sym is)
    (has_none (sym c.in_default.ensures))) c.push.ensures.ok
