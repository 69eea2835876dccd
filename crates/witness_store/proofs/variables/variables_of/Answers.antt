use Rattle.std.proofs.Common.{◌≡◌, ◌<◌, length, slice_get, option_map, ap, ◌∙◌, arith}
use Rattle.std.proofs.lemmas.Option.{same_Some}
use Rattle.ws2s_core.specs.LabelTrees.{assignment_of}
use Rattle.store_core.specs.Tables.{VarEntry}
use Rattle.tree_encode.specs.Tracks.{var_track}
use Rattle.tree_store.specs.Decoded.{var_in}
use Rattle.witness_store.proofs.ListedLemmas.{vars-next}
use Rattle.witness_store.proofs.ListsLemmas.{present}
use Rattle.witness_store.proofs.variables.variables_of.Goals as goal

pub loop-index-preserved : goal.loop-index-preserved
loop-index-preserved c = λ standing found_as.
    let types = c.args.l.now.types in
    let vars = c.args.l.now.vars in
    let a = assignment_of c.args.nodes.now in
    let i = c.loop-index.index in
    let count : c.vars-index-end.result ≡ length vars = c.vars-index-end.ensures.value ∙ ap (λ vs. length vs) c.vars.ensures.value in
    let within : i < length vars = omega (arith, c.loop-index-test.true, count) in
    let (v, at) = present vars i within in
    let kind : c.in-Some.kind.now ≡ v.kind =
    same_Some c.in-Some.kind.now v.kind (c.in-Some.ensures ∙ ap (λ vs. option_map (λ (entry : VarEntry). entry.kind) (slice_get vs i))
    c.vars-in-loop-index.ensures.value
    ∙ ap (option_map (λ (entry : VarEntry). entry.kind)) at) in
    c.in_ok-push.ensures.ok
    ∙ vars-next types vars a standing i v c.loop-index.values c.in_ok-value_of.field-0 at (c.loop-index.invariant standing found_as)
    (c.in_ok-value_of.ensures standing found_as ∙ ap (var_in a standing (var_track types vars (record { 0 = i }))) kind)
