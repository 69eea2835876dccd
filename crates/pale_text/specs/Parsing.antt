-- Which tokens are a text of a language, which tree it has, and where tokens stop being one.
use Rattle.std.specs.Prelude.{◌≡◌, ℕ, List, map}
use Rattle.ll1_reader.specs.declared.symbol.Event.{Event}
use Rattle.ll1_reader.specs.Grammars.{Rules}
use Rattle.ll1_reader.specs.Readings.{Step, IsReading}
use Rattle.ll1_reader.specs.Answers.{levels, event_of, AreLow}
use Rattle.pale_text.specs.declared.refusal.TextStop.{TextStop}
use Rattle.pale_text.specs.declared.token.Token.{Token}
use Rattle.pale_text.specs.declared.token.TokenKind.{TokenKind}
use Rattle.pale_text.specs.declared.token.TokenList.{TokenList}
use Rattle.pale_text.specs.Kinds.{kinds_by}
use Rattle.pale_text.specs.TextStops.{IsTextStop}

-- how many levels a text may open at once
abbrev pub max_levels : ℕ
max_levels = 200

-- the reading opens no level above the limit
abbrev pub IsShallow : {A : Type 0} → List (Step A) → Type 0
IsShallow steps = AreLow max_levels (levels steps)

module _ {N P A K : Type 0} (rules : Rules N P A K) (kind_of : TokenKind → K) where
  -- what a stop says of tokens that are no text, or that open too many levels
  abbrev pub IsParseStop : TokenList → TextStop → Type 0
  IsParseStop list = IsTextStop rules max_levels (kinds_by kind_of list.tokens) list

-- where `tree_of` makes the tree of a text's tokens and of what happens in their reading
module _ {N P A K T : Type 0} (rules : Rules N P A K) (kind_of : TokenKind → K) (tree_of : List Token → List (Event A) → T) where
  -- the tokens are a text: these are the steps of the reading that counts, and this is the tree that is made by them
  pub record IsSentence (tokens : List Token) (steps : List (Step A)) (tree : T) : Type 0 where
    pub reading : IsReading rules (kinds_by kind_of tokens) steps
    pub made : tree ≡ tree_of tokens (map event_of steps)

  -- the tokens are a text with this tree, and no level in it is above the limit
  pub record IsParsedAs (tokens : List Token) (tree : T) : Type 0 where
    pub steps : List (Step A)
    pub sentence : IsSentence tokens steps tree
    pub shallow : IsShallow steps
