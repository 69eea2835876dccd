-- Places that occur in order among the names of words, and so among those of tokens.
use Rattle.std.proofs.Common.{◌≡◌, ℕ, List, [], ◌∷◌, ◌++◌, Option, Some, None, refl, sym, ap, ◌∙◌, subst}
use Rattle.std.specs.List.{AllByRecursion}
use Rattle.pale_text.specs.declared.place.Pos.{Pos}
use Rattle.pale_text.specs.declared.token.Mark.{Mark}
use Rattle.pale_text.specs.declared.token.Token.{Token}
use Rattle.pale_text.specs.declared.token.TokenKind.{TokenKind}
use Rattle.pale_text.specs.declared.token.TokenKind.TheVariants as kind
use Rattle.pale_print_laws.specs.Words.{Word, Words, AreWords, no_words, parenthesis, word, IsAt, each, each_behind, separated}
use Rattle.whole_run.proofs.Rising.{IsBefore, Rises, name_at, name_places}

-- ---- among places

-- in their order, with others between them
pub data IsPicked : List Pos → List Pos → Type 0 where
  none : (places : List Pos) → IsPicked [] places
  skip : (picked places : List Pos) (p : Pos) → IsPicked picked places → IsPicked picked (p ∷ places)
  take : (picked places : List Pos) (p : Pos) → IsPicked picked places → IsPicked (p ∷ picked) (p ∷ places)

all_picked : (P : Pos → Type 0) (picked places : List Pos) → IsPicked picked places → AllByRecursion P places → AllByRecursion P picked
all_picked P picked places (none others) all = tt
all_picked P picked places (skip own others p more) all = all_picked P own others more all.1
all_picked P picked places (take own others p more) all = (all.0, all_picked P own others more all.1)

pub picked_rises : (picked places : List Pos) → IsPicked picked places → Rises places → Rises picked
picked_rises picked places (none others) rises = tt
picked_rises picked places (skip own others p more) rises = picked_rises own others more rises.1
picked_rises picked places (take own others p more) rises =
    (all_picked (IsBefore p) own others more rises.0, picked_rises own others more rises.1)

-- ---- among words

-- they stand in this order at names among the words, with others between them
pub data Occur : List Pos → List Word → Type 0 where
  no_more : (words : List Word) → Occur [] words
  past : (places : List Pos) (words : List Word) (w : Word) → Occur places words → Occur places (w ∷ words)
  here : (places : List Pos) (words : List Word) (w : Word) (bytes : List ℕ) (p : Pos) → w.kind ≡ kind.Name bytes → w.place ≡ Some p → Occur places words →
      Occur (p ∷ places) (w ∷ words)

-- a token that is passed over, and a name that is taken
skip_token : (one : Token) (tokens : List Token) (picked : List Pos) → IsPicked picked (name_places tokens) → IsPicked picked (name_places (one ∷ tokens))
skip_token one tokens picked more = by one.kind
  where
    by : (k : TokenKind) → IsPicked picked (name_at k one.span.start ++ name_places tokens)
    by (kind.Name bytes) = skip picked (name_places tokens) one.span.start more
    by (kind.Number digits) = more
    by (kind.Mark mark) = more

take_token : (one : Token) (tokens : List Token) (picked : List Pos) (bytes : List ℕ) → one.kind ≡ kind.Name bytes → IsPicked picked (name_places tokens) →
    IsPicked (one.span.start ∷ picked) (name_places (one ∷ tokens))
take_token one tokens picked bytes is more =
    subst (λ (k : TokenKind). IsPicked (one.span.start ∷ picked) (name_at k one.span.start ++ name_places tokens)) (sym is)
    (take picked (name_places tokens) one.span.start more)

-- the first word stands for the first place, or is passed over
data First (places : List Pos) (first : Word) (words : List Word) : Type 0 where
  is_none : places ≡ [] → First places first words
  is_past : Occur places words → First places first words
  is_here : (p : Pos) (rest : List Pos) (bytes : List ℕ) → places ≡ p ∷ rest → first.kind ≡ kind.Name bytes → first.place ≡ Some p → Occur rest words →
      First places first words

first_word : (places : List Pos) (all : List Word) → Occur places all → (first : Word) (words : List Word) → all ≡ first ∷ words → First places first words
first_word places all (no_more every) first words is = is_none refl
first_word places all (past chosen own w more) first words is =
    let same : own ≡ words = cc in is_past (subst (Occur chosen) same more)
first_word places all (here rest own w bytes p named at more) first words is =
    let same : own ≡ words = cc in
    let one : w ≡ first = cc in
    is_here p rest bytes refl (ap (λ (z : Word). z.kind) (sym one) ∙ named) (ap (λ (z : Word). z.place) (sym one) ∙ at) (subst (Occur rest) same more)

none_left : (places : List Pos) (words : List Word) → Occur places words → words ≡ [] → places ≡ []
none_left places words (no_more every) is = refl
none_left places words (past chosen own w more) is = absurd cc
none_left places words (here rest own w bytes p named at more) is = absurd cc

-- so they stand among the names of the tokens
pub occur_picked : (tokens : List Token) (words : List Word) → AreWords tokens words → (places : List Pos) → Occur places words →
    IsPicked places (name_places tokens)
occur_picked tokens words no_words places occur = subst (λ (l : List Pos). IsPicked l []) (sym (none_left places [] occur refl)) (none [])
occur_picked tokens words (parenthesis one rest every is more) places occur = skip_token one rest places (occur_picked rest every more places occur)
occur_picked tokens words (word one rest first own same at next more) places occur =
    by (first_word places (first ∷ own) occur first own refl) (λ picked later. occur_picked rest own more picked later)
  where
    by : First places first own → ((picked : List Pos) → Occur picked own → IsPicked picked (name_places rest)) → IsPicked places (name_places (one ∷ rest))
    by (is_none e) each = subst (λ (l : List Pos). IsPicked l (name_places (one ∷ rest))) (sym e) (none (name_places (one ∷ rest)))
    by (is_past later) each = skip_token one rest places (each places later)
    by (is_here p picked bytes e named is later) each =
        let stands : one.span.start ≡ p = subst (λ (o : Option Pos). IsAt o (Some one)) is at in
        subst (λ (l : List Pos). IsPicked l (name_places (one ∷ rest))) (sym (e ∙ ap (λ (q : Pos). q ∷ picked) (sym stands)))
        (take_token one rest picked bytes (same ∙ named) (each picked later))

-- ---- words that are passed over

-- what occurs behind them occurs in all
abbrev pub ArePassed : Words → Type 0
ArePassed words = (places : List Pos) (after : List Word) → Occur places after → Occur places (words after)

pub one_passed : (w : Word) → ArePassed (λ after. w ∷ after)
one_passed w places after occur = past places after w occur

module _ {X : Type 0} (words_of : X → Words) (passed : (x : X) → ArePassed (words_of x)) where
  pub each_passed : (xs : List X) → ArePassed (each words_of xs)
  each_passed [] places after occur = occur
  each_passed (x ∷ xs) places after occur = passed x places (each words_of xs after) (each_passed xs places after occur)

  pub behind_passed : (mark : Mark) (xs : List X) → ArePassed (each_behind mark words_of xs)
  behind_passed mark [] places after occur = occur
  behind_passed mark (x ∷ xs) places after occur =
      past places (words_of x (each_behind mark words_of xs after)) (record { kind = kind.Mark mark; place = None; next = None })
      (passed x places (each_behind mark words_of xs after) (behind_passed mark xs places after occur))

  pub separated_passed : (mark : Mark) (xs : List X) → ArePassed (separated mark words_of xs)
  separated_passed mark [] places after occur = occur
  separated_passed mark (x ∷ xs) places after occur =
      passed x places (each_behind mark words_of xs after) (behind_passed mark xs places after occur)
