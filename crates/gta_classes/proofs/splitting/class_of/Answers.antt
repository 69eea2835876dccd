-- The state stays, or goes to a class that was made, or one is made for it.
use Rattle.std.proofs.Common.{ℕ, List, sym, ◌∙◌, ap, subst}
use Rattle.std.specs.Prelude.{slice_index}
use Rattle.gta_classes.specs.Splitting.{IsStep, stays, known, makes}
use Rattle.gta_classes.proofs.splitting.class_of.Goals as goal

pub returns-then-id-ids : goal.returns-then-id-ids
returns-then-id-ids c =
    stays (c.if-id-ids.true ∙ ap (λ (xs : List ℕ). slice_index c.args.ids.now (slice_index xs c.args.class)) c.as_slice.ensures)

pub returns-in-Some : goal.returns-in-Some
returns-in-Some c =
    known c.in-Some.other.now
    (λ e. c.if-id-ids.false (e ∙ sym (ap (λ (xs : List ℕ). slice_index c.args.ids.now (slice_index xs c.args.class)) c.as_slice.ensures)))
    (sym c.in-Some.ensures.value)

pub returns : goal.returns
returns c =
    let ids = c.args.ids.now in
    subst (λ (xs : List ℕ). IsStep ids c.args.state c.args.class c.args.made.now c.args.representatives.now c.insert.new.self xs c.in_ok-other.other)
    (sym c.in_ok-push.ensures.ok)
    (makes c.insert.new.self c.in_ok-other.other
    (λ e. c.if-id-ids.false (e ∙ sym (ap (λ (xs : List ℕ). slice_index ids (slice_index xs c.args.class)) c.as_slice.ensures)))
    (sym c.in_default.ensures.value) c.in_ok-other.ensures.class c.in_ok-other.ensures.small c.in_ok-insert.ensures.updates)
