use Rattle.std.proofs.Common.{◌-◌, Some, sym, ap, ◌∙◌}
use Rattle.pale_terms.specs.Scopes.{sight_of}
use Rattle.pale_terms.proofs.ScopeLemmas.{sight-missing, sight-kept}
use Rattle.pale_terms.proofs.scope.Scope.sight.Goals as goal

pub returns-in_err-place : goal.returns-in_err-place
returns-in_err-place c =
    c.from_residual.ensures ∙ sym (sight-missing c.args.name.now c.self.inside.visible.entries (sym c.in_err-place.ensures.index))
    ∙ ap (λ s. sight_of s c.args.name.now) c.self.view_is

pub returns : goal.returns
returns c =
    let es = c.self.inside.visible.entries in
    ap (λ n. Some (c.in_ok-place.visible.now, n - 1 - c.in_ok-place.place)) c.len.ensures.len
    ∙ sym (sight-kept c.args.name.now es c.in_ok-place.place _ c.in_ok-place.visible.now (sym c.in_ok-place.ensures.index) c.in_ok-place.ensures.entry)
    ∙ ap (λ s. sight_of s c.args.name.now) c.self.view_is
