use Rattle.std.proofs.Common.{ℕ, List}
use Rattle.ws2s_facts.specs.Conjuncts.{formula_of}
use Rattle.ws2s_context.specs.Opening.{AreOf, IsOpened, IsSpine, spined}
use Rattle.ws2s_context.proofs.opening.spine_of.Given as goal

abbrev pub invariant-steps : goal.invariant-steps
invariant-steps l = record {
  there : IsSpine l.interner l.spine;
  opened : (tracks : List ℕ) → AreOf l.fn.weigh tracks → IsOpened tracks (formula_of l.interner l.fn.id) (spined l.interner l.spine);
}
