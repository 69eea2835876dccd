use Rattle.std.proofs.Common.{◌+◌, max, take, sym, ap, ◌∙◌}
use Rattle.std.specs.Prelude.{count_by}
use Rattle.store_core.specs.Tables.{fields_of}
use Rattle.tree_encode.specs.declared.index.First.{First}
use Rattle.tree_encode.specs.declared.counting.Counted.TheVariants.{Bools, Children}
use Rattle.tree_encode.specs.Counting.{is_counted, variants_in, bools_in}
use Rattle.tree_encode.specs.Spaces.{spaces_in}
use Rattle.tree_encode.proofs.IndexLemmas.{first_of, first-behind}
use Rattle.tree_encode.proofs.index.behind.Goals as goal

pub returns : goal.returns
returns c =
    let types = c.args.types.now in
    let ty = c.args.ty in
    let fields = fields_of types ty in
    first_of _ _ _ _ _ _
    (c.in_ok-sum.ensures ∙ ap (λ n. n + c.variants.result) (ap (λ (f : First). f.variants) c.requires.before)
    ∙ ap (λ n. variants_in (take ty.0 types) + n) c.variants.ensures)
    (c.in_ok-sum-2.ensures ∙ ap (λ n. n + c.counted_before-bools.result) (ap (λ (f : First). f.bools) c.requires.before)
    ∙ ap (λ n. bools_in (take ty.0 types) + n)
    (c.counted_before-bools.ensures.value ∙ ap (λ n. count_by (is_counted Bools) (take n fields)) c.fields.ensures))
    (c.in_ok-sum-3.ensures ∙ ap (λ n. n + c.max.result) (ap (λ (f : First). f.spaces) c.requires.before)
    ∙ ap (λ n. spaces_in (take ty.0 types) + n)
    (c.max.ensures ∙ ap (λ n. max n 1)
    (c.counted_before-children.ensures.value ∙ ap (λ n. count_by (is_counted Children) (take n fields)) c.fields-2.ensures)))
    ∙ sym (first-behind types ty c.requires.known)
