-- What the acts of a reading make, one after the other.
use Rattle.std.specs.Prelude.{List, [], ◌∷◌, Option, None}
use Rattle.ll1_reader.specs.declared.symbol.Event.{Event}
use Rattle.ll1_reader.specs.declared.symbol.Event.TheVariants as event
use Rattle.plain_data.specs.Stacks.{rest}
use Rattle.pale_text.specs.declared.token.Token.{Token}
use Rattle.pale_text.specs.Near.{Near}
use Rattle.pale_text.specs.Tokens.{first_of}

-- where `after` says what an act makes of what was made before it, between these tokens
module _ {A M : Type 0} (after : A → Near → M → M) where
  -- what these events make of what was made before them, where `last` was read last and the tokens `left` are still to be
  -- read
  abbrev pub run : List (Event A) → Option Token → List Token → M → M
  run [] last left made = made
  run (event.Token ∷ events) last left made = run events (first_of left) (rest left) made
  run (event.Act act ∷ events) last left made = run events last left (after act (record { last = last; next = first_of left }) made)

  -- the tree of a text by its tokens and what happens in their reading, where nothing is made before
  abbrev pub tree_by : {T : Type 0} → M → (M → T) → List Token → List (Event A) → T
  tree_by nothing tree_of tokens events = tree_of (run events None tokens nothing)
