use Rattle.std.proofs.Common.{◌+◌, ◌∙◌, ◌++◌, List, ℕ, max, length, take, map, ap}
use Rattle.std.proofs.Math.Seq.{take-length}
use Rattle.store_core.specs.declared.ids.TypeId.{TypeId}
use Rattle.tree_encode.specs.declared.index.First.{First}
use Rattle.tree_encode.specs.Spaces.{row, spaces_in, first_space}
use Rattle.tree_encode.proofs.StepsLemmas.{guide-made}
use Rattle.tree_encode.proofs.spaces.space_list.Goals as goal

pub returns : goal.returns
returns c =
    let types = c.args.types.now in
    let start = c.max-start.result in
    let rest = c.in_ok-rest.rest in
    guide-made types c.args.vars.now c.args.spares.now start rest c.deref-2.result.now c.push_row.new.spaces.items c.push_rows.new.spaces.items
    c.push.new.self.items
    (c.max-start.ensures ∙ ap (λ n. max n 1)
    (c.in_ok-number_of.ensures ∙ c.len.ensures ∙ c.in_ok-slots.slots.ok.0 ∙ ap (λ (targets : List TypeId). length targets) c.in_ok-slots.ensures))
    (c.in_ok-rest.ensures ∙ ap (λ n. start + n)
    (ap (λ (f : First). f.spaces) c.first_of-all.ensures ∙ ap (λ n. spaces_in (take n types)) c.types.ensures.value
    ∙ ap (λ ts. spaces_in ts) (take-length types)))
    (c.deref-2.ensures.value ∙ c.in_ok-children.ensures
    ∙ ap (λ (targets : List TypeId). map (first_space types start) targets) (c.deref.ensures.value ∙ c.in_ok-slots.ensures))
    (c.in_ok-push_row.ensures ∙ ap (λ (s : List (ℕ × ℕ)). s ++ row (length s) rest c.deref-2.result.now) c.new-spaces.ensures.items)
    c.in_ok-push_rows.ensures
    c.in_ok-push.ensures.items
