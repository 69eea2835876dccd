-- Places of a walk over code, and which causes come at them at an assignment. Quantifiers bind tracks from `next` on.
use Rattle.std.specs.Prelude.{◌≡◌, ℕ, List, ◌∷◌, ◌++◌, All, IfOk, Result, Ok, Err}
use Rattle.gta_theory.specs.Assignments.{Assignment}
use Rattle.ws2s_core.specs.Satisfaction.{WSat}
use Rattle.store_exec.specs.declared.cause.Cause.{Cause}
use Rattle.site_list.specs.States.{Check}

-- the cause comes at the place: it is reached, and its condition holds
abbrev pub Comes : ℕ → Assignment → Check → Type 0
Comes next a c = WSat (c.reached next) a × WSat (c.condition next) a

abbrev pub NoneComes : ℕ → Assignment → List Check → Type 0
NoneComes next a checks = All (λ (c : Check). Comes next a c → ⊥) checks

-- the first place at which one comes has this cause and line
pub record ComesFirst (next : ℕ) (a : Assignment) (checks : List Check) (why : Cause) (line : ℕ) : Type 0 where
  pub before : List Check
  pub check : Check
  pub after : List Check
  pub order : checks ≡ before ++ check ∷ after
  pub none : NoneComes next a before
  pub comes : Comes next a check
  pub is : check.cause ≡ why
  pub at_line : check.line ≡ line

-- no cause comes where there is an answer, and else the first that comes is the one that stops it, at the line
abbrev pub StopsAs : {X : Type 0} → ℕ → Assignment → List Check → ℕ → Result X Cause → Type 0
StopsAs next a checks line (Ok x) = NoneComes next a checks
StopsAs next a checks line (Err why) = ComesFirst next a checks why line

-- and this is so of the answer
abbrev pub Answers : {X : Type 0} → ℕ → Assignment → List Check → ℕ → Result X Cause → (X → Type 0) → Type 0
Answers next a checks line r IsSo = StopsAs next a checks line r × IfOk r IsSo
