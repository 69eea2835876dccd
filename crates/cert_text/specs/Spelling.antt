-- How the lines of a certificate are spelled: a word and fields, with one space before each field, and an LF at the end.
-- Numbers are decimal, without leading zeros. (The spelling is this project's.)
use Rattle.std.specs.Prelude.{ℕ, ◌<◌, Bool, List, [], ◌∷◌, ◌++◌, map, codes, if◌then◌else◌}
use Rattle.std.specs.List.{AllByRecursion, flat_map}
use Rattle.std.specs.Fmt.{decimal}
use Rattle.cert_text.specs.declared.line.Way.{Way}
use Rattle.cert_text.specs.declared.line.Way.TheVariants as way
use Rattle.cert_text.specs.declared.line.Target.{Target}
use Rattle.cert_text.specs.declared.line.Target.TheVariants as target
use Rattle.cert_text.specs.declared.line.Line.{Line}
use Rattle.cert_text.specs.declared.line.Line.TheVariants as line

-- ---- fields, each with the space before it

abbrev pub number_text : ℕ → List ℕ
number_text n = codes " " ++ decimal n

abbrev pub numbers_texts : List ℕ → List (List ℕ)
numbers_texts ns = map number_text ns

-- `easier` or `whole`
abbrev pub way_text : Way → List ℕ
way_text way.Easier = codes " easier"
way_text way.Whole = codes " whole"

-- a state with `=` before it, or a node
abbrev pub target_text : Target → List ℕ
target_text (target.State q) = codes " =" ++ decimal q
target_text (target.Node n) = number_text n

-- whether the bound track is set
abbrev pub bit_text : Bool → List ℕ
bit_text bit = if bit then codes " 1" else codes " 0"

-- ---- lines

-- the word that a line begins with
abbrev pub word_of : Line → List ℕ
word_of line.Certificate = codes "pale-certificate"
word_of (line.Triple k) = codes "triple"
word_of line.Program = codes "program"
word_of (line.Section l) = codes "section"
word_of (line.And k) = codes "and"
word_of (line.Ex k) = codes "ex"
word_of (line.Space l) = codes "space"
word_of (line.Left l) = codes "left"
word_of (line.Right l) = codes "right"
word_of (line.Node l) = codes "node"
word_of (line.Root l) = codes "root"
word_of (line.Accept qs) = codes "accept"
word_of (line.Pair l) = codes "pair"
word_of (line.Start l) = codes "init"
word_of (line.Settle l) = codes "settle"
word_of (line.Set l) = codes "set"
word_of line.End = codes "end"

-- its fields, in order
abbrev pub fields_of : Line → List (List ℕ)
fields_of line.Certificate = codes " 1" ∷ []
fields_of (line.Triple k) = number_text k ∷ []
fields_of line.Program = []
fields_of (line.Section l) = way_text l.way ∷ number_text l.parts ∷ []
fields_of (line.And k) = number_text k ∷ []
fields_of (line.Ex k) = number_text k ∷ []
fields_of (line.Space l) = number_text l.space ∷ number_text l.states ∷ number_text l.initial ∷ []
fields_of (line.Left l) = number_text l.space ∷ numbers_texts l.classes
fields_of (line.Right l) = number_text l.space ∷ numbers_texts l.classes
fields_of (line.Node l) = number_text l.node ∷ number_text l.track ∷ target_text l.low ∷ target_text l.high ∷ []
fields_of (line.Root l) = number_text l.space ∷ number_text l.left ∷ number_text l.right ∷ target_text l.target ∷ []
fields_of (line.Accept qs) = numbers_texts qs
fields_of (line.Pair l) = number_text l.space ∷ number_text l.first ∷ number_text l.second ∷ number_text l.state ∷ []
fields_of (line.Start l) = number_text l.space ∷ number_text l.state ∷ []
fields_of (line.Settle l) =
    number_text l.space ∷ number_text l.state ∷ number_text l.left ∷ number_text l.right ∷ bit_text l.has_bound ∷ []
fields_of (line.Set l) = number_text l.space ∷ number_text l.state ∷ numbers_texts l.members
fields_of line.End = []

-- texts, one after the other
abbrev pub joined : List (List ℕ) → List ℕ
joined [] = []
joined (text ∷ texts) = text ++ joined texts

abbrev pub line_text : Line → List ℕ
line_text l = word_of l ++ joined (fields_of l) ++ codes "\n"

-- the lines of a text, one after the other
abbrev pub lines_text : List Line → List ℕ
lines_text lines = flat_map line_text lines

-- ---- what has a spelling

-- a number below 4,294,967,296
abbrev pub IsNumber : ℕ → Type 0
IsNumber n = n < 4294967296

abbrev pub AreNumbers : List ℕ → Type 0
AreNumbers ns = AllByRecursion IsNumber ns

abbrev pub IsTarget : Target → Type 0
IsTarget (target.State q) = IsNumber q
IsTarget (target.Node n) = IsNumber n

-- all numbers of the line are such
abbrev pub IsLine : Line → Type 0
IsLine line.Certificate = Unit {0}
IsLine (line.Triple k) = IsNumber k
IsLine line.Program = Unit {0}
IsLine (line.Section l) = IsNumber l.parts
IsLine (line.And k) = IsNumber k
IsLine (line.Ex k) = IsNumber k
IsLine (line.Space l) = IsNumber l.space × IsNumber l.states × IsNumber l.initial
IsLine (line.Left l) = IsNumber l.space × AreNumbers l.classes
IsLine (line.Right l) = IsNumber l.space × AreNumbers l.classes
IsLine (line.Node l) = IsNumber l.node × IsNumber l.track × IsTarget l.low × IsTarget l.high
IsLine (line.Root l) = IsNumber l.space × IsNumber l.left × IsNumber l.right × IsTarget l.target
IsLine (line.Accept qs) = AreNumbers qs
IsLine (line.Pair l) = IsNumber l.space × IsNumber l.first × IsNumber l.second × IsNumber l.state
IsLine (line.Start l) = IsNumber l.space × IsNumber l.state
IsLine (line.Settle l) = IsNumber l.space × IsNumber l.state × IsNumber l.left × IsNumber l.right
IsLine (line.Set l) = IsNumber l.space × IsNumber l.state × AreNumbers l.members
IsLine line.End = Unit {0}
