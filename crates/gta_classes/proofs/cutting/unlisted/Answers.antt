-- What was moved is put back.
use Rattle.std.proofs.Common.{List, ℕ, inl, inr, sym, subst}
use Rattle.std.specs.Prelude.{Contains}
use Rattle.std.proofs.lemmas.List.Elements.{Contains-append_left, Contains-append_right}
use Rattle.gta_classes.proofs.cutting.unlisted.Goals as goal

pub returns : goal.returns
returns c = λ q is there.
    let members = c.move_members.new.members in
    let moved = c.move_members.new.moved in
    subst (λ (xs : List ℕ). Contains xs q) (sym c.in_ok-append.ensures.ok)
    (elim (c.in_ok-found.ensures q is there) [
      | inl still ↦ Contains-append_left members moved q still
      | inr taken ↦ Contains-append_right members moved q taken
    ])
