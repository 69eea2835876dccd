-- What a reader answers of tokens, under a limit on levels.
use Rattle.std.specs.Prelude.{◌≡◌, ℕ, ◌+◌, ◌≤◌, List, [], ◌∷◌, ◌++◌, map, length, take, drop, slice_get, Some}
use Rattle.ll1_reader.specs.declared.symbol.Event.{Event}
use Rattle.ll1_reader.specs.declared.symbol.Event.TheVariants as event
use Rattle.ll1_reader.specs.Grammars.{Rules}
use Rattle.ll1_reader.specs.Readings.{Step, Took, Did, IsAnyReading, IsReading}

-- how many levels are open at each token of a reading, the one that it opens among them
abbrev pub levels : {A : Type 0} → List (Step A) → List ℕ
levels [] = []
levels (Took depth ∷ steps) = depth ∷ levels steps
levels (Did _ ∷ steps) = levels steps

abbrev pub event_of : {A : Type 0} → Step A → Event A
event_of (Took _) = event.Token
event_of (Did a) = event.Act a

abbrev pub AreLow : ℕ → List ℕ → Type 0
AreLow limit [] = Unit {0}
AreLow limit (depth ∷ depths) = (depth ≤ limit) × AreLow limit depths

module _ {N P A K : Type 0} (rules : Rules N P A K) (limit : ℕ) where
  -- The tokens have a reading that counts and that opens no level above the limit; this happens in it, and no other
  -- reading of them counts.
  pub record IsParsed (tokens : List K) (events : List (Event A)) : Type 0 where
    pub steps : List (Step A)
    pub reading : IsReading rules tokens steps
    pub low : AreLow limit (levels steps)
    pub happens : events ≡ map event_of steps
    pub only : (other : List (Step A)) → IsReading rules tokens other → other ≡ steps

  -- no sentence begins with `before` and then the first of these tokens; where there is none, `before` is no sentence
  abbrev pub NoneGoesOn : List K → List K → Type 0
  NoneGoesOn before [] = (steps : List (Step A)) → IsAnyReading rules before steps → ⊥
  NoneGoesOn before (k ∷ _) = (after : List K) (steps : List (Step A)) → IsAnyReading rules (before ++ k ∷ after) steps → ⊥

  -- The tokens before this place begin a sentence, and open no level above the limit there. No sentence begins with
  -- them and the token at the place; or the tokens end there, and are no sentence.
  pub record IsWrongAt (tokens : List K) (place : ℕ) : Type 0 where
    pub inside : place ≤ length tokens
    pub after : List K
    pub steps : List (Step A)
    pub reading : IsReading rules (take place tokens ++ after) steps
    pub low : AreLow limit (take place (levels steps))
    pub wrong : NoneGoesOn (take place tokens) (drop place tokens)

  -- in this reading the token at the place is the first that opens a level above the limit
  pub record GoesTooDeep (place : ℕ) (steps : List (Step A)) : Type 0 where
    pub before : AreLow limit (take place (levels steps))
    pub there : slice_get (levels steps) place ≡ Some (limit + 1)

  -- The tokens up to this one begin a sentence, and in each such sentence, by the reading that counts, this one is the
  -- first that opens a level above the limit.
  pub record IsDeepAt (tokens : List K) (place : ℕ) : Type 0 where
    pub kind : K
    pub here : slice_get tokens place ≡ Some kind
    pub after : List K
    pub steps : List (Step A)
    pub reading : IsReading rules (take place tokens ++ kind ∷ after) steps
    pub deep : (rest : List K) (other : List (Step A)) → IsReading rules (take place tokens ++ kind ∷ rest) other → GoesTooDeep place other
