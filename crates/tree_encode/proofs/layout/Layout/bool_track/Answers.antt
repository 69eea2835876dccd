use Rattle.std.proofs.Common.{◌≡◌, take, sym, ap, ◌∙◌, arith}
use Rattle.std.proofs.Math.Seq.{take-length}
use Rattle.store_core.specs.Tables.{fields_of}
use Rattle.tree_encode.specs.declared.index.First.{First}
use Rattle.tree_encode.specs.declared.counting.Counted.TheVariants.{Bools}
use Rattle.tree_encode.specs.Counting.{is_counted, variants_in}
use Rattle.tree_encode.proofs.IndexLemmas.{counted-inside, bools-room}
use Rattle.tree_encode.proofs.layout.Layout.bool_track.Goals as goal

pub counted_before-rank-requires : goal.counted_before-rank-requires
counted_before-rank-requires c =
    let inside = counted-inside (is_counted Bools) (fields_of c.self.inside.types.now c.args.f.ty) c.args.f.index
    (sym c.is_counted.ensures ∙ c.if-not-is_counted.false) in
    omega (arith, inside)

pub overflow_add-result : goal.overflow_add-result
overflow_add-result c =
    let inside = counted-inside (is_counted Bools) (fields_of c.self.inside.types.now c.args.f.ty) c.args.f.index
    (sym c.is_counted.ensures ∙ c.if-not-is_counted.false) in
    let room = bools-room c.self.inside.types.now c.args.f.ty c.args.f.index inside in
    let before = ap (λ (f : First). f.bools) c.first_of-first.ensures in
    omega (arith, room, before, c.counted_before-rank.ensures.value, c.self.invariant.1.few)

pub overflow_add-result-2 : goal.overflow_add-result-2
overflow_add-result-2 c =
    let types = c.self.inside.types.now in
    let inside = counted-inside (is_counted Bools) (fields_of types c.args.f.ty) c.args.f.index (sym c.is_counted.ensures ∙ c.if-not-is_counted.false) in
    let room = bools-room types c.args.f.ty c.args.f.index inside in
    let before = ap (λ (f : First). f.bools) c.first_of-first.ensures in
    let all : c.first_of-all.result.variants ≡ variants_in types =
    ap (λ (f : First). f.variants) c.first_of-all.ensures ∙ ap (λ n. variants_in (take n types)) c.types.ensures.value
    ∙ ap (λ ts. variants_in ts) (take-length types) in
    omega (arith, room, before, all, c.counted_before-rank.ensures.value, c.self.invariant.1.few)
