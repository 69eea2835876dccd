-- What a rule has answered: lists of states, each with the state that it was given for good.
use Rattle.std.specs.Prelude.{◌≡◌, ℕ, List, Option, Some, None}

-- the answers so far
abbrev pub Answers : Type 0
Answers = List ℕ → Option ℕ

-- every answer that was given stays
abbrev pub KeepsAnswers : Answers → Answers → Type 0
KeepsAnswers old new = (states : List ℕ) (answer : ℕ) → old states ≡ Some answer → new states ≡ Some answer

-- an answer is new only where its list was asked
abbrev pub AnswersOnly : (List ℕ → Type 0) → Answers → Answers → Type 0
AnswersOnly IsAsked old new = (states : List ℕ) (answer : ℕ) → new states ≡ Some answer → old states ≡ None → IsAsked states

-- a way of giving numbers to all lists, as the answers have it where they are
abbrev pub Completes : Answers → (List ℕ → ℕ) → Type 0
Completes answers given = (states : List ℕ) (answer : ℕ) → answers states ≡ Some answer → given states ≡ answer
