-- What one step of the reader does to what is still to be read, and to what happened.
use Rattle.std.specs.Prelude.{◌≡◌, ℕ, Bool, true, false, List, [], ◌∷◌, ◌++◌, map, Option, None, Some}
use Rattle.ll1_reader.specs.declared.symbol.Symbol.{Symbol}
use Rattle.ll1_reader.specs.declared.work.Work.{Work}
use Rattle.ll1_reader.specs.declared.step.Advance.{Advance}
use Rattle.ll1_reader.specs.declared.step.Advance.TheVariants as advance
use Rattle.ll1_reader.specs.declared.step.Fed.{Fed}
use Rattle.ll1_reader.specs.declared.step.Fed.TheVariants as fed
use Rattle.ll1_reader.specs.Grammars.{Rules}
use Rattle.ll1_reader.specs.Predicting.{Table}
use Rattle.ll1_reader.specs.Readings.{Stack, Bottom, Row, Step}
use Rattle.ll1_reader.specs.Answers.{event_of}
use Rattle.ll1_reader.specs.Moves.{IsMove, AreMoves, IsTake, IsTooDeep, IsStuck, IsReady}
use Rattle.ll1_reader.specs.Frames.{stack_of}

module _ {N P A K : Type 0} (rules : Rules N P A K) (table : Table N P K) where
  -- one move was made from the stack to the new one, and what it did is at the end of the events
  pub record MovesOnce (next : Option K) (s : Stack N A K) (old new : Work N A K) : Type 0 where
    pub done : List (Step A)
    pub moved : IsMove rules table next s (stack_of new) done
    pub happened : new.events ≡ old.events ++ map event_of done

  -- nothing was done: a token stands on top
  pub record StaysReady (s : Stack N A K) (old new : Work N A K) : Type 0 where
    pub same : stack_of new ≡ s
    pub ready : IsReady s
    pub happened : new.events ≡ old.events

  -- what a step with this row on top did
  abbrev pub Advances : Option K → List (Symbol N A K) → ℕ → Work N A K → Work N A K → Advance → Type 0
  Advances next row depth old new advance.Moved = MovesOnce next (Row row depth (stack_of old)) old new
  Advances next row depth old new advance.Ready = StaysReady (Row row depth (stack_of old)) old new
  Advances next row depth old new advance.Stuck = IsStuck rules table next (Row row depth (stack_of old))

  -- the token on top was read
  pub record Takes (limit : ℕ) (k : K) (s : Stack N A K) (old new : Work N A K) : Type 0 where
    pub step : Step A
    pub taken : IsTake limit k s (stack_of new) step
    pub happened : new.events ≡ old.events ++ event_of step ∷ []

  -- what became of the token where this row stands on top
  abbrev pub TakesToken : ℕ → K → List (Symbol N A K) → ℕ → Work N A K → Work N A K → Fed → Type 0
  TakesToken limit k row depth old new fed.Read = Takes limit k (Row row depth (stack_of old)) old new
  TakesToken limit k row depth old new fed.Wrong = IsStuck rules table (Some k) (Row row depth (stack_of old))
  TakesToken limit k row depth old new fed.Deep = IsTooDeep limit k (Row row depth (stack_of old))

  -- moves lead to a stack on which a token stands on top, or nothing is left
  pub record Exposed (next : Option K) (old new : Work N A K) : Type 0 where
    pub done : List (Step A)
    pub moved : AreMoves rules table next (stack_of old) (stack_of new) done
    pub ready : IsReady (stack_of new)
    pub happened : new.events ≡ old.events ++ map event_of done

  -- moves lead to a stack that doesn't begin with what comes next
  pub record Sticks (next : Option K) (s : Stack N A K) : Type 0 where
    pub there : Stack N A K
    pub done : List (Step A)
    pub moved : AreMoves rules table next s there done
    pub stuck : IsStuck rules table next there

  abbrev pub Exposes : Option K → Work N A K → Work N A K → Bool → Type 0
  Exposes next old new true = Exposed next old new
  Exposes next old new false = Sticks next (stack_of old)

  -- moves, and then the token is read
  pub record Feeds (limit : ℕ) (k : K) (old new : Work N A K) : Type 0 where
    pub there : Stack N A K
    pub done : List (Step A)
    pub step : Step A
    pub moved : AreMoves rules table (Some k) (stack_of old) there done
    pub taken : IsTake limit k there (stack_of new) step
    pub happened : new.events ≡ old.events ++ map event_of (done ++ step ∷ [])

  -- moves lead to where the token opens a level above the limit
  pub record Overflows (limit : ℕ) (k : K) (s : Stack N A K) : Type 0 where
    pub there : Stack N A K
    pub done : List (Step A)
    pub moved : AreMoves rules table (Some k) s there done
    pub deep : IsTooDeep limit k there

  abbrev pub IsFed : ℕ → K → Work N A K → Work N A K → Fed → Type 0
  IsFed limit k old new fed.Read = Feeds limit k old new
  IsFed limit k old new fed.Wrong = Sticks (Some k) (stack_of old)
  IsFed limit k old new fed.Deep = Overflows limit k (stack_of old)

  -- nothing is left where the tokens end
  pub record Finishes (old new : Work N A K) : Type 0 where
    pub done : List (Step A)
    pub moved : AreMoves rules table None (stack_of old) Bottom done
    pub happened : new.events ≡ old.events ++ map event_of done

  abbrev pub IsFinished : Work N A K → Work N A K → Bool → Type 0
  IsFinished old new true = Finishes old new
  IsFinished old new false = Sticks None (stack_of old)
