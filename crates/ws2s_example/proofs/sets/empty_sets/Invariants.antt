use Rattle.std.proofs.Common.{◌≡◌, ℕ, [], length, slice_get, Some}
use Rattle.ws2s_example.specs.Texts.{Texts, texts_of}
use Rattle.ws2s_example.proofs.sets.empty_sets.Given as goal

abbrev pub invariant-loop : goal.invariant-loop
invariant-loop l = (length l.sets.items ≡ l.counter)
    × ((i : ℕ) (set : Texts) → slice_get l.sets.items i ≡ Some set → texts_of set ≡ [])
