-- A formula's steps taken from the whole down: what comes to the symbols, and what waits then. Symbols are read from the
-- last one to the first.
use Rattle.std.specs.Prelude.{◌≡◌, ℕ, true, false, List, [], ◌∷◌, ◌++◌}
use Rattle.std.specs.List.{AllByRecursion}
use Rattle.ws2s_core.specs.declared.postfix.Symbol.{Symbol}
use Rattle.ws2s_narrow.specs.declared.pending.Waiting.{Waiting}
use Rattle.ws2s_narrow.specs.declared.pending.Pending.{Pending}
use Rattle.ws2s_narrow.specs.declared.sharing.Sharing.{Sharing}
use Rattle.ws2s_narrow.specs.declared.steps.Step.{Step}
use Rattle.ws2s_narrow.specs.Pending.{IsSound, IsAmong, BeginsAmong, Goes, Stays}
use Rattle.ws2s_narrow.specs.Waiting.{Woven}

-- the symbols of the quantifiers
abbrev pub quantifiers : List (ℕ × Waiting) → List Symbol
quantifiers [] = []
quantifiers (next ∷ waiting) = Symbol.Ex2 next.1.track ∷ quantifiers waiting

-- some quantifiers stay before a conjunction, and each of the others goes into one side
pub data Divides (shares : Sharing) (top : Pending) (old new : List Pending) (before after : List Symbol) : Type 0 where
  into_left : (within staying : List (ℕ × Waiting)) (left right : Pending) → top.waiting.entries ≡ within ++ staying
      → AllByRecursion (λ next. IsAmong shares.both.items next → ⊥) within → BeginsAmong shares.both.items staying
      → shares.is_left ≡ true → Woven within right.waiting.entries left.waiting.entries
      → AllByRecursion (Goes shares) left.waiting.entries → AllByRecursion (Stays shares) right.waiting.entries
      → IsSound left → IsSound right → new ≡ old ++ left ∷ [] ++ right ∷ []
      → after ≡ Symbol.And ∷ (quantifiers staying ++ before) → Divides shares top old new before after
  into_right : (within staying : List (ℕ × Waiting)) (left right : Pending) → top.waiting.entries ≡ within ++ staying
      → AllByRecursion (λ next. IsAmong shares.both.items next → ⊥) within → BeginsAmong shares.both.items staying
      → shares.is_left ≡ false → Woven within left.waiting.entries right.waiting.entries
      → AllByRecursion (Goes shares) right.waiting.entries → AllByRecursion (Stays shares) left.waiting.entries
      → IsSound left → IsSound right → new ≡ old ++ left ∷ [] ++ right ∷ []
      → after ≡ Symbol.And ∷ (quantifiers staying ++ before) → Divides shares top old new before after

-- what a step makes of the quantifiers that wait before it
pub data Takes (number : ℕ) (step : Step) (top : Pending) (old new : List Pending) (before after : List Symbol) : Type 0 where
  takes_atom : (symbol : Symbol) → step ≡ Step.Atom symbol → new ≡ old → after ≡ symbol ∷ (quantifiers top.waiting.entries ++ before)
      → Takes number step top old new before after
  takes_and : (shares : Sharing) → step ≡ Step.And shares → Divides shares top old new before after
      → Takes number step top old new before after
  takes_not : (inner : Pending) → step ≡ Step.Not → inner.waiting.entries ≡ [] → IsSound inner → new ≡ old ++ inner ∷ []
      → after ≡ Symbol.Not ∷ (quantifiers top.waiting.entries ++ before) → Takes number step top old new before after
  takes_ex2 : (next : Waiting) (inner : Pending) → step ≡ Step.Ex2 next → inner.waiting.entries ≡ (number, next) ∷ top.waiting.entries
      → IsSound inner → new ≡ old ++ inner ∷ [] → after ≡ before → Takes number step top old new before after
