-- The kind has a row, or one is made.
use Rattle.std.proofs.Common.{◌≡◌, ℕ, suc, ◌+◌, ◌-◌, List, [], ◌∷◌, ◌++◌, sym, ◌∙◌, ap, subst, arith}
use Rattle.std.specs.Prelude.{slice_index, slice_set}
use Rattle.std.proofs.lemmas.List.{get_or_read}
use Rattle.gta_minimise.specs.Rows.{IsRowStep, known, makes}
use Rattle.gta_minimise.proofs.rows.row_of.Goals as goal

pub returns-then-link-gt0 : goal.returns-then-link-gt0
returns-then-link-gt0 c =
    let links = c.args.links.now.items in
    let link = c.index-link.result.now in
    let row : ℕ = link - 1 in
    let is = get_or_read links c.args.kind link c.requires.inside c.index-link.ensures 0 in
    let there : slice_index links c.args.kind ≡ suc row = (let t = c.if-link-gt0.true in omega arith) in
    known row there

pub returns : goal.returns
returns c =
    let kind = c.args.kind in
    let state = c.args.state in
    let links = c.args.links.now.items in
    let states = c.args.states.now in
    let row = c.len-row.result in
    let next : row + 1 ≡ suc row = omega arith in
    let put : c.set_at.new.numbers.items ≡ slice_set links kind (suc row) = c.set_at.ensures ∙ ap (λ (n : ℕ). slice_set links kind n) next in
    subst (λ (xs : List ℕ). IsRowStep kind state links states c.set_at.new.numbers.items xs row) (sym c.in_ok-push.ensures.ok)
    (subst (λ (xs : List ℕ). IsRowStep kind state links states xs (states ++ state ∷ []) row) (sym put) (makes row c.len-row.ensures))
