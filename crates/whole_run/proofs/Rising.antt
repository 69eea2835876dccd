-- The places of a text's names rise.
use Rattle.std.proofs.Common.{◌≡◌, ◌≢◌, ◌⊎◌, inl, inr, ℕ, zero, suc, ◌+◌, ◌<◌, Bool, true, false, List, [], ◌∷◌, ◌++◌, if◌then◌else◌}
use Rattle.std.proofs.Common.{refl, sym, ap, ◌∙◌, subst, arith, append-nil}
use Rattle.std.specs.Prelude.{◌==◌}
use Rattle.std.specs.List.{AllByRecursion, AllPairs}
use Rattle.std.proofs.lemmas.List.Elements.{All-from_recursion}
use Rattle.store_logic.proofs.ExpandingLists.{all-append}
use Rattle.pale_text.specs.declared.place.Pos.{Pos}
use Rattle.pale_text.specs.declared.token.Token.{Token}
use Rattle.pale_text.specs.declared.token.TokenKind.{TokenKind}
use Rattle.pale_text.specs.declared.token.TokenKind.TheVariants as kind
use Rattle.pale_text.specs.declared.token.TokenList.{TokenList}
use Rattle.pale_text.specs.Places.{place_after, place_past}
use Rattle.pale_text.specs.Spelling.{Spells}
use Rattle.pale_text.specs.Lexing.{Reaches, at_start, past_gap, past_comment, past_token, IsLexed, token_at}

-- ---- places one before the other

abbrev pub IsBefore : Pos → Pos → Type 0
IsBefore p q = (p.line < q.line) ⊎ ((p.line ≡ q.line) × (p.column < q.column))

before_then : (p q r : Pos) → IsBefore p q → IsBefore q r → IsBefore p r
before_then p q r (inl h) (inl k) = inl (omega (arith, h, k))
before_then p q r (inl h) (inr k) = let same = k.0 in inl (omega (arith, h, same))
before_then p q r (inr h) (inl k) = let same = h.0 in inl (omega (arith, k, same))
before_then p q r (inr h) (inr k) = let one = h.1 in let two = k.1 in inr (h.0 ∙ k.0, omega (arith, one, two))

pub before_apart : (p q : Pos) → IsBefore p q → p ≢ q
before_apart p q (inl h) same = let line = ap (λ (z : Pos). z.line) same in omega (arith, h, line)
before_apart p q (inr h) same = let column = ap (λ (z : Pos). z.column) same in let less = h.1 in omega (arith, less, column)

after_one : (p : Pos) (byte : ℕ) → IsBefore p (place_after p byte)
after_one p byte = by (byte == 10)
  where
    by : (b : Bool) → IsBefore p (if b then record { line = p.line + 1; column = 1 } else record { line = p.line; column = p.column + 1 })
    by true = inl (omega arith)
    by false = inr (refl, omega arith)

past_all : (p q : Pos) (bytes : List ℕ) → IsBefore p q → IsBefore p (place_past q bytes)
past_all p q [] before = before
past_all p q (byte ∷ bytes) before = past_all p (place_after q byte) bytes (before_then p q (place_after q byte) before (after_one q byte))

-- ---- rising lists

abbrev pub Rises : List Pos → Type 0
Rises [] = Unit {0}
Rises (p ∷ places) = AllByRecursion (IsBefore p) places × Rises places

abbrev AreBefore : Pos → List Pos → Type 0
AreBefore q places = AllByRecursion (λ (p : Pos). IsBefore p q) places

all_then : (q r : Pos) (places : List Pos) → ((p : Pos) → IsBefore p q → IsBefore p r) → AreBefore q places → AreBefore r places
all_then q r [] each all = tt
all_then q r (p ∷ places) each all = (each p all.0, all_then q r places each all.1)

rises_more : (places : List Pos) (q : Pos) → Rises places → AreBefore q places → Rises (places ++ q ∷ [])
rises_more [] q rises before = (tt, tt)
rises_more (p ∷ places) q rises before =
    (all-append (IsBefore p) places (q ∷ []) rises.0 (before.0, tt), rises_more places q rises.1 before.1)

pub rises_apart : (places : List Pos) → Rises places → AllPairs (λ (p q : Pos). p ≢ q) places
rises_apart [] rises i j d less inside = absurd (omega (arith, inside))
rises_apart (p ∷ places) rises zero zero d less inside = absurd (omega (arith, less))
rises_apart (p ∷ places) rises zero (suc j) d less inside =
    before_apart p _ (All-from_recursion (IsBefore p) places rises.0 j d (omega (arith, inside)))
rises_apart (p ∷ places) rises (suc i) zero d less inside = absurd (omega (arith, less))
rises_apart (p ∷ places) rises (suc i) (suc j) d less inside = rises_apart places rises.1 i j d (omega (arith, less)) (omega (arith, inside))

-- ---- the names of a text

abbrev pub name_at : TokenKind → Pos → List Pos
name_at (kind.Name bytes) place = place ∷ []
name_at (kind.Number digits) place = []
name_at (kind.Mark mark) place = []

-- the places of the names among the tokens
abbrev pub name_places : List Token → List Pos
name_places [] = []
name_places (one ∷ tokens) = name_at one.kind one.span.start ++ name_places tokens

places_more : (tokens : List Token) (one : Token) → name_places (tokens ++ one ∷ []) ≡ name_places tokens ++ name_at one.kind one.span.start
places_more [] one = append-nil (name_at one.kind one.span.start)
places_more (first ∷ tokens) one = by first.kind (places_more tokens one)
  where
    by : (k : TokenKind) → name_places (tokens ++ one ∷ []) ≡ name_places tokens ++ name_at one.kind one.span.start →
        name_at k first.span.start ++ name_places (tokens ++ one ∷ [])
        ≡ (name_at k first.span.start ++ name_places tokens) ++ name_at one.kind one.span.start
    by (kind.Name bytes) more = ap (λ (l : List Pos). first.span.start ∷ l) more
    by (kind.Number digits) more = more
    by (kind.Mark mark) more = more

abbrev AreSoFar : List Token → Pos → Type 0
AreSoFar tokens place = Rises (name_places tokens) × AreBefore place (name_places tokens)

-- one token more
one_more : (tokens : List Token) (place : Pos) (k : TokenKind) (piece : List ℕ) → Spells k piece → AreSoFar tokens place →
    Rises (name_places tokens ++ name_at k place) × AreBefore (place_past place piece) (name_places tokens ++ name_at k place)
one_more tokens place (kind.Name bytes) [] spells so_far = absurd spells.1
one_more tokens place (kind.Name bytes) (byte ∷ piece) spells so_far = (
  rises_more (name_places tokens) place so_far.0 so_far.1,
  all-append (λ (p : Pos). IsBefore p (place_past place (byte ∷ piece))) (name_places tokens) (place ∷ [])
      (all_then place (place_past place (byte ∷ piece)) (name_places tokens) (λ p before. past_all p place (byte ∷ piece) before) so_far.1)
      (past_all place (place_after place byte) piece (after_one place byte), tt),
)
one_more tokens place (kind.Number digits) piece spells so_far = (
  subst Rises (sym (append-nil (name_places tokens))) so_far.0,
  subst (AreBefore (place_past place piece)) (sym (append-nil (name_places tokens)))
      (all_then place (place_past place piece) (name_places tokens) (λ p before. past_all p place piece before) so_far.1),
)
one_more tokens place (kind.Mark mark) piece spells so_far = (
  subst Rises (sym (append-nil (name_places tokens))) so_far.0,
  subst (AreBefore (place_past place piece)) (sym (append-nil (name_places tokens)))
      (all_then place (place_past place piece) (name_places tokens) (λ p before. past_all p place piece before) so_far.1),
)

so_far : (text : List ℕ) (tokens : List Token) (place : Pos) (left : List ℕ) → Reaches text tokens place left → AreSoFar tokens place
so_far text tokens place left at_start = (tt, tt)
so_far text tokens place left (past_gap earlier before byte rest reached gap) =
    let h = so_far text earlier before (byte ∷ rest) reached in (
      h.0,
      all_then before (place_after before byte) (name_places earlier)
          (λ p less. before_then p before (place_after before byte) less (after_one before byte)) h.1,
    )
so_far text tokens place left (past_comment earlier before comment rest reached is ends) =
    let h = so_far text earlier before (comment ++ rest) reached in
    (h.0, all_then before (place_past before comment) (name_places earlier) (λ p less. past_all p before comment less) h.1)
so_far text tokens place left (past_token earlier before k piece rest reached longest) =
    let h = so_far text earlier before (piece ++ rest) reached in
    let more = one_more earlier before k piece longest.spells h in
    let are = sym (places_more earlier (token_at before k piece)) in
    (subst Rises are more.0, subst (AreBefore (place_past before piece)) are more.1)

pub names_rise : (text : List ℕ) (list : TokenList) → IsLexed text list → Rises (name_places list.tokens)
names_rise text list lexed = (so_far text list.tokens list.end [] lexed).0
