use Rattle.std.proofs.Common.{◌≡◌, ◌<◌, ℕ, false, true, Some, vec_len}
use Rattle.std.specs.Prelude.{slice_get, slice_index_or, slice_set, replicate, []}
use Rattle.gta_reach.specs.declared.form.FormSpace.{FormSpace}
use Rattle.gta_reach.proofs.reached.initial_states.Given as goal

abbrev pub invariant-loop-space : goal.invariant-loop-space
invariant-loop-space l = record {
  many : vec_len l.reached ≡ l.space-index;
  marks : (s : ℕ) (space : FormSpace) → s < l.space-index → slice_get l.form.spaces s ≡ Some space →
      slice_index_or l.reached.items s [] ≡ slice_set (replicate space.states false) space.initial true;
}
