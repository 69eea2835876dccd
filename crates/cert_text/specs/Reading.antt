-- Which line a text begins with, found from the left. `Spelling` says the same the other way round: the laws of this crate
-- show that what is read is spelled so, and that what is spelled so is read.
use Rattle.std.specs.Prelude.{ℕ, ◌+◌, ◌==◌, ◌&&◌, not, nat_le, true, false, Bool, List, [], ◌∷◌, zero, suc, length, take, drop, Option, Some, None, option_map}
use Rattle.std.specs.Prelude.{position, if◌then◌else◌, codes}
use Rattle.std.specs.List.{list_all}
use Rattle.std.specs.Char.{is_ascii_digit}
use Rattle.std.specs.Str.{bytes_eq}
use Rattle.std.specs.Str.Parse.{digits_value_after}
use Rattle.cert_text.specs.declared.line.Way.{Way}
use Rattle.cert_text.specs.declared.line.Way.TheVariants as way
use Rattle.cert_text.specs.declared.line.Target.{Target}
use Rattle.cert_text.specs.declared.line.Target.TheVariants as target
use Rattle.cert_text.specs.declared.line.Line.{Line}
use Rattle.cert_text.specs.declared.line.Line.TheVariants as line

infixl 10 ◌>>=◌
abbrev pub ◌>>=◌ : {A B : Type 0} → Option A → (A → Option B) → Option B
None >>= f = None
(Some x) >>= f = f x

-- ---- words

-- the bytes up to the first space (32), and those from it on
abbrev pub cut_word : List ℕ → List ℕ × List ℕ
cut_word [] = ([], [])
cut_word (b ∷ bs) = if b == 32 then ([], b ∷ bs) else (b ∷ (cut_word bs).0, (cut_word bs).1)

-- a space and the word behind it, and what follows that
unfoldable pub next_word : List ℕ → Option (List ℕ × List ℕ)
next_word [] = None
next_word (b ∷ bs) = if b == 32 then Some (cut_word bs) else None

-- the number that digits stand for where they follow those of `front`, if it is below 4,294,967,296
unfoldable pub number_after : ℕ → List ℕ → Option ℕ
number_after front digits =
    if list_all is_ascii_digit digits && nat_le (digits_value_after 10 front digits) 4294967295 then Some (digits_value_after 10 front digits) else None

-- the number that a word spells: digits, without a leading `0` (48) but for the number 0
unfoldable pub number_of : List ℕ → Option ℕ
number_of [] = None
number_of (first ∷ others) = if (first == 48) && not (length others == 0) then None else number_after 0 (first ∷ others)

unfoldable pub way_of : List ℕ → Option Way
way_of word = if bytes_eq word (codes "easier") then Some way.Easier else (if bytes_eq word (codes "whole") then Some way.Whole else None)

-- `=` (61) and a state, or a node
unfoldable pub target_of : List ℕ → Option Target
target_of [] = None
target_of (first ∷ others) =
    if first == 61 then option_map target.State (number_of others) else option_map target.Node (number_of (first ∷ others))

unfoldable pub bit_of : List ℕ → Option Bool
bit_of word = if bytes_eq word (codes "1") then Some true else (if bytes_eq word (codes "0") then Some false else None)

-- ---- fields, each with what follows it

unfoldable pub number_next : List ℕ → Option (ℕ × List ℕ)
number_next bytes = do
  w ← next_word bytes
  n ← number_of w.0
  Some (n, w.1)

unfoldable pub way_next : List ℕ → Option (Way × List ℕ)
way_next bytes = do
  w ← next_word bytes
  way ← way_of w.0
  Some (way, w.1)

unfoldable pub target_next : List ℕ → Option (Target × List ℕ)
target_next bytes = do
  w ← next_word bytes
  t ← target_of w.0
  Some (t, w.1)

unfoldable pub bit_next : List ℕ → Option (Bool × List ℕ)
bit_next bytes = do
  w ← next_word bytes
  b ← bit_of w.0
  Some (b, w.1)

-- the numbers that are left, at most so many
abbrev pub numbers_in : ℕ → List ℕ → Option (List ℕ)
numbers_in k [] = Some []
numbers_in zero (b ∷ bs) = None
numbers_in (suc k) (b ∷ bs) = number_next (b ∷ bs) >>= (λ n. option_map (λ ns. n.0 ∷ ns) (numbers_in k n.1))

unfoldable pub numbers_of : List ℕ → Option (List ℕ)
numbers_of bytes = numbers_in (length bytes) bytes

-- ---- lines

-- a line, where nothing is left
abbrev pub ended : List ℕ → Line → Option Line
ended [] l = Some l
ended (b ∷ bs) l = None

unfoldable pub certificate_line : List ℕ → Option Line
certificate_line bytes = if bytes_eq bytes (codes " 1") then Some line.Certificate else None

unfoldable pub triple_line : List ℕ → Option Line
triple_line bytes = number_next bytes >>= (λ k. ended k.1 (line.Triple k.0))

unfoldable pub section_line : List ℕ → Option Line
section_line bytes = do
  w ← way_next bytes
  n ← number_next w.1
  ended n.1 (line.Section (record { way = w.0; parts = n.0 }))

unfoldable pub and_line : List ℕ → Option Line
and_line bytes = number_next bytes >>= (λ k. ended k.1 (line.And k.0))

unfoldable pub ex_line : List ℕ → Option Line
ex_line bytes = number_next bytes >>= (λ k. ended k.1 (line.Ex k.0))

unfoldable pub space_line : List ℕ → Option Line
space_line bytes = do
  s ← number_next bytes
  n ← number_next s.1
  q ← number_next n.1
  ended q.1 (line.Space (record { space = s.0; states = n.0; initial = q.0 }))

unfoldable pub left_line : List ℕ → Option Line
left_line bytes = do
  s ← number_next bytes
  cs ← numbers_of s.1
  Some (line.Left (record { space = s.0; classes = cs }))

unfoldable pub right_line : List ℕ → Option Line
right_line bytes = do
  s ← number_next bytes
  cs ← numbers_of s.1
  Some (line.Right (record { space = s.0; classes = cs }))

unfoldable pub node_line : List ℕ → Option Line
node_line bytes = do
  n ← number_next bytes
  t ← number_next n.1
  low ← target_next t.1
  high ← target_next low.1
  ended high.1 (line.Node (record { node = n.0; track = t.0; low = low.0; high = high.0 }))

unfoldable pub root_line : List ℕ → Option Line
root_line bytes = do
  s ← number_next bytes
  l ← number_next s.1
  r ← number_next l.1
  t ← target_next r.1
  ended t.1 (line.Root (record { space = s.0; left = l.0; right = r.0; target = t.0 }))

unfoldable pub accept_line : List ℕ → Option Line
accept_line bytes = option_map line.Accept (numbers_of bytes)

unfoldable pub pair_line : List ℕ → Option Line
pair_line bytes = do
  s ← number_next bytes
  p ← number_next s.1
  q ← number_next p.1
  x ← number_next q.1
  ended x.1 (line.Pair (record { space = s.0; first = p.0; second = q.0; state = x.0 }))

unfoldable pub start_line : List ℕ → Option Line
start_line bytes = do
  s ← number_next bytes
  q ← number_next s.1
  ended q.1 (line.Start (record { space = s.0; state = q.0 }))

unfoldable pub settle_line : List ℕ → Option Line
settle_line bytes = do
  s ← number_next bytes
  q ← number_next s.1
  l ← number_next q.1
  r ← number_next l.1
  b ← bit_next r.1
  ended b.1 (line.Settle (record { space = s.0; state = q.0; left = l.0; right = r.0; has_bound = b.0 }))

unfoldable pub set_line : List ℕ → Option Line
set_line bytes = do
  s ← number_next bytes
  q ← number_next s.1
  ps ← numbers_of q.1
  Some (line.Set (record { space = s.0; state = q.0; members = ps }))

-- the words of a certificate and a section, and of a table, and what follows each
unfoldable pub heading_line : List ℕ → List ℕ → Option Line
heading_line word bytes =
    if bytes_eq word (codes "pale-certificate") then certificate_line bytes
    else (if bytes_eq word (codes "triple") then triple_line bytes
    else (if bytes_eq word (codes "program") then ended bytes line.Program
    else (if bytes_eq word (codes "section") then section_line bytes
    else (if bytes_eq word (codes "end") then ended bytes line.End
    else None))))

unfoldable pub step_line : List ℕ → List ℕ → Option Line
step_line word bytes =
    if bytes_eq word (codes "and") then and_line bytes
    else (if bytes_eq word (codes "ex") then ex_line bytes
    else (if bytes_eq word (codes "space") then space_line bytes
    else (if bytes_eq word (codes "init") then start_line bytes
    else (if bytes_eq word (codes "settle") then settle_line bytes
    else heading_line word bytes))))

unfoldable pub table_line : List ℕ → List ℕ → Option Line
table_line word bytes =
    if bytes_eq word (codes "pair") then pair_line bytes
    else (if bytes_eq word (codes "node") then node_line bytes
    else (if bytes_eq word (codes "root") then root_line bytes
    else step_line word bytes))

-- the lines with lists first
unfoldable pub listing_line : List ℕ → List ℕ → Option Line
listing_line word bytes =
    if bytes_eq word (codes "set") then set_line bytes
    else (if bytes_eq word (codes "left") then left_line bytes
    else (if bytes_eq word (codes "right") then right_line bytes
    else (if bytes_eq word (codes "accept") then accept_line bytes
    else table_line word bytes)))

-- the line that these bytes spell, without its LF
unfoldable pub line_of : List ℕ → Option Line
line_of bytes = listing_line (cut_word bytes).0 (cut_word bytes).1

-- what stands before and after the first LF (10)
abbrev pub cut_line : List ℕ → Option (List ℕ × List ℕ)
cut_line text = option_map (λ i. (take i text, drop (i + 1) text)) (position (λ b. b == 10) text)

-- the line that a text begins with, and what follows it
unfoldable pub line_at : List ℕ → Option (Line × List ℕ)
line_at text = do
  cut ← cut_line text
  l ← line_of cut.0
  Some (l, cut.1)
