use Rattle.std.proofs.Common.{◌≡◌, ◌<◌, ◌≤◌, length, slice_get, Some, ap, ◌∙◌, subst, arith}
use Rattle.std.proofs.lemmas.List.{take_all}
use Rattle.ws2s_core.specs.LabelTrees.{assignment_of}
use Rattle.store_core.specs.declared.ids.FieldId.{FieldId}
use Rattle.store_core.specs.Tables.{fields_of}
use Rattle.tree_store.specs.Decoded.{slots_in}
use Rattle.witness_store.proofs.FieldsLemmas.{slots-next}
use Rattle.witness_store.proofs.ListsLemmas.{present}
use Rattle.witness_store.proofs.fields.values_of.Goals as goal

pub loop-index-preserved : goal.loop-index-preserved
loop-index-preserved c =
    let types = c.args.l.now.types in
    let ty = c.args.cell.variant.ty in
    let i = c.loop-index.index in
    let f : FieldId = record { ty = ty; index = i } in
    let count : c.fields-index-end.result ≡ length (fields_of types ty) =
    c.fields-index-end.ensures ∙ ap (λ ts. length (fields_of ts ty)) c.types.ensures.value in
    let within : i < length (fields_of types ty) = omega (arith, c.loop-index-test.true, count) in
    record {
      values = λ cells x are found known.
          let same : ty ≡ x.variant.ty = ap (λ v. v.ty) found.variant in
          let (entry, there) = present (fields_of types ty) i within in
          slots-next types (assignment_of c.args.nodes.now) cells x i f entry c.loop-index.values c.push.new.self c.slot_of.result
          (subst (λ t. slice_get (fields_of types t) i ≡ Some entry) same there) same (λ k. i)
          (c.loop-index.invariant.values cells x are found known)
          (c.slot_of.ensures cells x entry are found known same there (c.loop-index.invariant.place x.at are.tree found.node))
          c.in_ok-push.ensures.ok;
      place = λ p tree above. c.place_behind-place.ensures p tree within (c.loop-index.invariant.place p tree above);
    }

pub returns : goal.returns
returns c = λ cells x are found known.
    let types = c.args.l.now.types in
    let same = ap (λ v. v.ty) found.variant in
    let count = c.fields-index-end.ensures ∙ ap (λ ts. length (fields_of ts c.args.cell.variant.ty)) c.types.ensures.value in
    let all : length (fields_of types x.variant.ty) ≤ c.loop-index.index =
    subst (λ t. length (fields_of types t) ≤ c.loop-index.index) same (omega (arith, c.loop-index-test.false, count)) in
    c.loop-index.invariant.values cells x are found known
    ∙ ap (slots_in types (assignment_of c.args.nodes.now) cells x 0) (take_all c.loop-index.index (fields_of types x.variant.ty) all)
