use Rattle.std.proofs.Common.{◌≡◌, ℕ, ◌+◌, ◌*◌, List, length, Option, Some, refl, sym, ◌∙◌, ap, subst, arith}
use Rattle.std.specs.Prelude.{slice_get, unwrap_or}
use Rattle.std.specs.List.{range_with_len}
use Rattle.std.proofs.lemmas.Option.{slice_get_read}
use Rattle.bdd_nodes.specs.declared.node_ref.NodeRef.{NodeRef}
use Rattle.gta_theory.specs.Guides.{left, right}
use Rattle.gta_core.specs.declared.part.Part.{Part}
use Rattle.gta_core.specs.Given.{given_states}
use Rattle.gta_core.specs.Placing.{Shares, IsPlaced, HasPlace}
use Rattle.gta_core.proofs.PlacingLemmas.{made, unwrap-inside, IsPlaced-made, HasPlace-made}
use Rattle.gta_core.proofs.build.part_of.Goals as goal
use Rattle.gta_core.proofs.build.part_of.Goals.{In_ok-share}

there : (c : In_ok-share) → slice_get c.args.spaces.now c.args.space ≡ Some c.index-spaces-space.result
there c =
    slice_get_read c.args.spaces.now (length c.args.spaces.now) c.args.space c.index-spaces-space.result refl
    (omega (arith, c.requires.spaces, c.requires.inside)) c.index-spaces-space.is

abbrev pair : (c : In_ok-share) → ℕ × ℕ
pair c = unwrap_or (slice_get c.args.g.now c.args.space) (0, 0)

children : (c : In_ok-share) → c.unwrap_or-children.result ≡ pair c
children c = c.unwrap_or-children.ensures ∙ ap (λ (o : Option (ℕ × ℕ)). unwrap_or o (0, 0)) c.children.ensures.value

at_space : (c : In_ok-share) → slice_get c.args.g.now c.args.space ≡ Some (pair c)
at_space c = unwrap-inside c.args.g.now c.args.space (0, 0) c.requires.inside

shares : (c : In_ok-share) → Shares c.index-spaces-space.result.roots c.args.roots.now c.in_ok-share.field-0 c.share.new.roots
shares c = subst (λ (xs : List NodeRef). Shares xs c.args.roots.now c.in_ok-share.field-0 c.share.new.roots) c.as_slice.ensures c.in_ok-share.ensures

many : (c : In_ok-share) → length c.index-spaces-space.result.roots
    ≡ given_states c.args.spaces.now (left c.args.g.now c.args.space) * given_states c.args.spaces.now (right c.args.g.now c.args.space)
many c = c.requires.complete c.index-spaces-space.result (there c)

rows : (c : In_ok-share) → c.in_ok-count_up.field-0 ≡ range_with_len 0 (given_states c.args.spaces.now (pair c).0)
rows c =
    c.in_ok-count_up.ensures ∙ ap (range_with_len 0) c.states_in.ensures
    ∙ ap (λ (p : ℕ × ℕ). range_with_len 0 (given_states c.args.spaces.now p.0)) (children c)

width : (c : In_ok-share) → c.states_in-width.result ≡ given_states c.args.spaces.now (pair c).1
width c = c.states_in-width.ensures ∙ ap (λ (p : ℕ × ℕ). given_states c.args.spaces.now p.1) (children c)

columns : (c : In_ok-share) → c.in_ok-count_up-2.field-0 ≡ range_with_len 0 (given_states c.args.spaces.now (pair c).1)
columns c = c.in_ok-count_up-2.ensures ∙ ap (range_with_len 0) (width c)

abbrev answer : (c : In_ok-share) → Part
answer c = record {
  states = c.index-spaces-space.result.states;
  initial = c.index-spaces-space.result.initial;
  children = c.unwrap_or-children.result;
  first = c.len-first.result;
  rows = c.in_ok-count_up.field-0;
  columns = c.in_ok-count_up-2.field-0;
  width = c.states_in-width.result;
  cells = c.in_ok-share.field-0;
}

abbrev as_made : (c : In_ok-share) → Part
as_made c =
    made c.args.g.now c.args.spaces.now c.args.space c.index-spaces-space.result (there c) (pair c) (at_space c) c.args.roots.now c.share.new.roots
    c.in_ok-share.field-0 (many c) (shares c)

is_made : (c : In_ok-share) → answer c ≡ as_made c
is_made c = λ i. record {
  states = c.index-spaces-space.result.states;
  initial = c.index-spaces-space.result.initial;
  children = children c i;
  first = c.len-first.ensures i;
  rows = rows c i;
  columns = columns c i;
  width = width c i;
  cells = c.in_ok-share.field-0;
}

pub returns-clause-placed : goal.returns-clause-placed
returns-clause-placed c =
    subst (IsPlaced c.args.g.now c.args.spaces.now c.share.new.roots c.args.space) (sym (is_made c))
    (IsPlaced-made c.args.g.now c.args.spaces.now c.args.space c.index-spaces-space.result (there c) (pair c) (at_space c) c.args.roots.now c.share.new.roots
    c.in_ok-share.field-0 (many c) (shares c) (let f = c.if-given-gt-MOST_STATES.false in omega arith))

pub returns-clause-used : goal.returns-clause-used
returns-clause-used c = λ more inside.
    subst (λ (part : Part). HasPlace part (length c.args.roots.now + more)) (sym (is_made c))
    (HasPlace-made c.args.g.now c.args.spaces.now c.args.space c.index-spaces-space.result (there c) (pair c) (at_space c) c.args.roots.now c.share.new.roots
    c.in_ok-share.field-0 (many c) (shares c) more inside)
