use Rattle.std.proofs.Common.{◌≡◌, inl, inr, length, slice_get, sym, ap, ◌∙◌, []}
use Rattle.ws2s_core.specs.LabelTrees.{assignment_of}
use Rattle.ws2s_theory.specs.Trees.{last_place}
use Rattle.store_core.specs.declared.value.Value.TheVariants as value
use Rattle.tree_encode.specs.Tracks.{var_track}
use Rattle.tree_store.specs.Decoded as decoded
use Rattle.tree_store.specs.Decoded.{first_where, var_in}
use Rattle.witness_store.specs.Reading.{has_track}
use Rattle.witness_store.proofs.ListedLemmas.{first-of-all}
use Rattle.witness_store.proofs.PlacesLemmas.{on-node, root-node}
use Rattle.witness_store.proofs.variables.value_of.Goals as goal

pub returns-in-Bool : goal.returns-in-Bool
returns-in-Bool c = λ standing found_as.
    let nodes = c.args.nodes.now in
    let a = assignment_of nodes in
    let track = var_track c.args.l.now.types c.args.l.now.vars c.args.var in
    let on : c.is_on.result ≡ decoded.is_on a track [] =
    c.is_on.ensures ∙ (λ i. has_track nodes (c.root_place-root.ensures i) (c.var_track-track.ensures i))
    ∙ on-node nodes c.requires.tree [] (last_place 0 (length nodes)) track (root-node nodes) in
    elim c.in-Bool.is [
      | inl kind ↦ ap (λ b. value.Bool b) on ∙ ap (var_in a standing track) (sym kind)
      | inr kind ↦ ap (λ b. value.Bool b) on ∙ ap (var_in a standing track) (sym kind)
    ]

pub returns-in_ok-named-in-Data : goal.returns-in_ok-named-in-Data
returns-in_ok-named-in-Data c = λ standing found_as.
    let nodes = c.args.nodes.now in
    let a = assignment_of nodes in
    let track = var_track c.args.l.now.types c.args.l.now.vars c.args.var in
    let first : c.get.result ≡ first_where (decoded.is_on a track) 1 standing =
    c.get.ensures ∙ ap (λ l. slice_get l 0) (c.in_ok-named-in-Data.ensures standing c.requires.tree found_as)
    ∙ first-of-all (decoded.is_on a c.var_track-track.result) 1 standing
    ∙ ap (λ o. first_where (decoded.is_on a o) 1 standing) c.var_track-track.ensures in
    elim c.in-Data.is [
      | inl kind ↦ ap (λ o. value.Cell o) first ∙ ap (var_in a standing track) (sym kind.1)
      | inr kind ↦ ap (λ o. value.Cell o) first ∙ ap (var_in a standing track) (sym kind.1)
    ]
