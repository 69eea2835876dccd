-- What is kept on the way: the keys that wait for a result, and those that have one.
use Rattle.std.specs.Prelude.{◌≡◌, ◌+◌, ◌*◌, ◌^◌, ℕ, Bool, true, List, [], ◌∷◌, Some, IsTrue, reverse}
use Rattle.std.specs.declared.hash.FoldHasher.{FoldHasher}
use Rattle.std.specs.declared.hash.BuildHasherDefault.{BuildHasherDefault}
use Rattle.std.specs.HashMap.{get, HashMap}
use Rattle.bdd_nodes.specs.declared.node_ref.NodeRef.{NodeRef}
use Rattle.bdd_nodes.specs.Shelf.{Contents, IsSideFor}
use Rattle.bdd_walk.specs.declared.walk.Frame.{Frame}
use Rattle.bdd_walk.specs.declared.walk.Frame.TheVariants.{Low, High, Skip}
use Rattle.bdd_walk.specs.declared.walk.Turn.{Turn}
use Rattle.bdd_walk.specs.declared.walk.Turn.TheVariants.{Visit, Done}
use Rattle.bdd_walk.specs.Answers.{Answers}
use Rattle.bdd_walk.specs.Stands.{Asking, Stands, AsksSame, IsPart}
use Rattle.bdd_walk.specs.Steps.{IsSplitBy}

-- the results so far, by key
abbrev pub Memo : Type 0 → Type 0
Memo K = HashMap K NodeRef (BuildHasherDefault FoldHasher)

-- equal keys ask the same, and are in together
pub record Respects {K : Type 0} (eq : K → K → Bool) (asked : K → Asking) (is_in : K → Bool) : Type 0 where
  pub asks : (a b : K) → eq a b ≡ true → AsksSame (asked a) (asked b)
  pub inside : (a b : K) → eq a b ≡ true → IsTrue (is_in a) → IsTrue (is_in b)

-- a key that stands for valid references, and a reference that stands for what it asks
pub record IsResult {K : Type 0} (asked : K → Asking) (is_in : K → Bool) (shelf : Contents) (answers : Answers)
    (key : K) (r : NodeRef) : Type 0 where
  pub inside : IsTrue (is_in key)
  pub stands : Stands shelf answers (asked key) r

-- each result is that of its key
unfoldable pub IsMemo : {K : Type 0} → (K → K → Bool) → (K → Asking) → (K → Bool) → Contents → Answers → Memo K → Type 0
IsMemo {K} eq asked is_in shelf answers memo =
    (key : K) (r : NodeRef) → get eq memo key ≡ Some r → IsResult asked is_in shelf answers key r

module _ {K : Type 0} where
  -- the key that waits
  abbrev pub key_of : Frame K → K
  key_of (Low key track high) = key
  key_of (High key track low) = key
  key_of (Skip key) = key

  module _ (asked : K → Asking) (is_in : K → Bool) (shelf : Contents) (answers : Answers) (whole : Asking) where
    -- the key is visited for a part of the whole
    pub record IsDue (key : K) : Type 0 where
      pub inside : IsTrue (is_in key)
      pub part : IsPart whole (asked key)

    -- its low side is worked on, and its high side is still due
    pub record WaitsLow (key : K) (track : ℕ) (high : K) (focus : Asking) : Type 0 where
      pub inside : IsTrue (is_in key)
      pub part : IsPart whole (asked key)
      pub due : IsDue high
      pub split : IsSplitBy track (asked key) focus (asked high)

    -- its low side has a result, and its high side is worked on
    pub record WaitsHigh (key : K) (track : ℕ) (low : NodeRef) (focus : Asking) : Type 0 where
      pub inside : IsTrue (is_in key)
      pub part : IsPart whole (asked key)
      pub side : Asking
      pub stands : Stands shelf answers side low
      pub split : IsSplitBy track (asked key) side focus

    -- what is worked on has its result
    pub record WaitsPast (key : K) (focus : Asking) : Type 0 where
      pub inside : IsTrue (is_in key)
      pub same : AsksSame (asked key) focus

    -- it has the result of what is worked on
    abbrev pub WaitsFor : Frame K → Asking → Type 0
    WaitsFor (Low key track high) focus = WaitsLow key track high focus
    WaitsFor (High key track low) focus = WaitsHigh key track low focus
    WaitsFor (Skip key) focus = WaitsPast key focus

    -- each key waits for the one above it, and the lowest is the whole; the top of the stack comes first
    unfoldable pub AllWait : List (Frame K) → Asking → Type 0
    AllWait [] focus = AsksSame whole focus
    AllWait (frame ∷ frames) focus = WaitsFor frame focus × AllWait frames (asked (key_of frame))

    -- the reference is the result that the stack waits for
    pub record IsAwaited (stack : List (Frame K)) (r : NodeRef) : Type 0 where
      pub focus : Asking
      pub result : Stands shelf answers focus r
      pub waits : AllWait (reverse stack) focus

    -- the stack waits for what is worked on
    abbrev pub IsUnderway : List (Frame K) → Turn K → Type 0
    IsUnderway stack (Visit key) = IsDue key × AllWait (reverse stack) (asked key)
    IsUnderway stack (Done r) = IsAwaited stack r

  -- a result for the high side can be joined with that of the low side
  abbrev pub FitsFrame : Contents → Frame K → NodeRef → Type 0
  FitsFrame shelf (Low key track high) made = Unit {0}
  FitsFrame shelf (High key track low) made = IsSideFor shelf track low × IsSideFor shelf track made
  FitsFrame shelf (Skip key) made = Unit {0}

  module _ (weight : K → ℕ) where
    -- how many turns a key may take, with room to spare
    abbrev pub visit_cost : K → ℕ
    visit_cost key = 2 ^ (2 * weight key + 2)

    -- how many turns are left for a key that waits
    abbrev pub frame_cost : Frame K → ℕ
    frame_cost (Low key track high) = visit_cost high + 2
    frame_cost (High key track low) = 1
    frame_cost (Skip key) = 1

    abbrev pub stack_cost : List (Frame K) → ℕ
    stack_cost [] = 0
    stack_cost (frame ∷ frames) = frame_cost frame + stack_cost frames

    abbrev pub turn_cost : Turn K → ℕ
    turn_cost (Visit key) = visit_cost key
    turn_cost (Done r) = 0
