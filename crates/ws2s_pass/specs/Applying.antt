-- Passes that run one after the other.
use Rattle.std.specs.Prelude.{◌≡◌, List, [], ◌∷◌}
use Rattle.ws2s_core.specs.declared.formula.Formula.{Formula}

-- the second formula is what comes out where the first one is put through all of these, each after the one before it;
-- `Makes` says what one of them makes of a formula
abbrev pub LeadsTo : {Step : Type 0} → (Step → Formula → Formula → Type 0) → List Step → Formula → Formula → Type 0
LeadsTo Makes [] f g = f ≡ g
LeadsTo Makes (step ∷ steps) f g = (h : Formula) × Makes step f h × LeadsTo Makes steps h g
