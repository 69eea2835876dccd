use Rattle.std.proofs.Common.{◌≡◌, ℕ, Some, vec_len}
use Rattle.std.specs.Prelude.{slice_get}
use Rattle.gta_reach.specs.declared.form.FormSpace.{FormSpace}
use Rattle.gta_refine.specs.declared.uses.SpaceUses.{SpaceUses}
use Rattle.gta_refine.specs.Uses.{IsUses}
use Rattle.gta_refine.proofs.uses.uses_of.Given as goal

abbrev pub invariant-loop-s : goal.invariant-loop-s
invariant-loop-s l = record {
  many : vec_len l.uses ≡ l.s;
  each : (s : ℕ) (space : FormSpace) (one : SpaceUses) → slice_get l.form.spaces s ≡ Some space → slice_get l.uses.items s ≡ Some one →
      IsUses l.form s space one;
}
