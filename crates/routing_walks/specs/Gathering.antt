-- Lists that grow by what belongs in them.
use Rattle.std.specs.Prelude.{◌≡◌, ◌↔◌, ◌⊎◌, ◌<◌, ◌++◌, ℕ, List, Contains}

-- the new list has what the old one has, and what is new
abbrev pub Gathers : {X : Type 0} → List X → List X → (X → Type 0) → Type 0
Gathers {X} old new New = (x : X) → Contains new x ↔ (Contains old x ⊎ New x)

-- the list has what belongs, and nothing else
abbrev pub HasAll : {X : Type 0} → List X → (X → Type 0) → Type 0
HasAll {X} xs Belongs = (x : X) → Contains xs x ↔ Belongs x

-- it belongs at some place before this one
pub record Before {X : Type 0} (At : ℕ → X → Type 0) (n : ℕ) (x : X) : Type 0 where
  pub place : ℕ
  pub before : place < n
  pub at : At place x

-- what is new goes to the end
pub record Grows {X : Type 0} (old new : List X) (New : X → Type 0) : Type 0 where
  pub more : List X
  pub end : new ≡ old ++ more
  pub members : Gathers old new New
