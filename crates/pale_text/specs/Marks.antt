-- A number for each mark.
use Rattle.std.specs.Prelude.{ℕ, List, [], ◌∷◌}
use Rattle.pale_text.specs.declared.token.Mark.{Mark}
use Rattle.pale_text.specs.declared.token.Mark.TheVariants as mark

-- all marks; the number of a mark is its place among them, counted from 0
unfoldable pub all_marks : List Mark
all_marks = mark.Equivalent ∷ mark.SameAs ∷ mark.Implies ∷ mark.NotSame ∷ mark.NotEqual ∷ mark.AndAlso ∷ mark.OrElse ∷ mark.Equals ∷
    mark.Bang ∷ mark.Tilde ∷ mark.Ampersand ∷ mark.Bar ∷ mark.Less ∷ mark.Greater ∷ mark.LeftParen ∷ mark.RightParen ∷
    mark.LeftBracket ∷ mark.RightBracket ∷ mark.LeftBrace ∷ mark.RightBrace ∷ mark.Colon ∷ mark.Semicolon ∷ mark.Comma ∷ mark.Dot ∷
    mark.Star ∷ mark.Plus ∷ mark.Caret ∷ mark.Dollar ∷ mark.At ∷ mark.Question ∷ []

unfoldable pub mark_number : Mark → ℕ
mark_number mark.Equivalent = 0
mark_number mark.SameAs = 1
mark_number mark.Implies = 2
mark_number mark.NotSame = 3
mark_number mark.NotEqual = 4
mark_number mark.AndAlso = 5
mark_number mark.OrElse = 6
mark_number mark.Equals = 7
mark_number mark.Bang = 8
mark_number mark.Tilde = 9
mark_number mark.Ampersand = 10
mark_number mark.Bar = 11
mark_number mark.Less = 12
mark_number mark.Greater = 13
mark_number mark.LeftParen = 14
mark_number mark.RightParen = 15
mark_number mark.LeftBracket = 16
mark_number mark.RightBracket = 17
mark_number mark.LeftBrace = 18
mark_number mark.RightBrace = 19
mark_number mark.Colon = 20
mark_number mark.Semicolon = 21
mark_number mark.Comma = 22
mark_number mark.Dot = 23
mark_number mark.Star = 24
mark_number mark.Plus = 25
mark_number mark.Caret = 26
mark_number mark.Dollar = 27
mark_number mark.At = 28
mark_number mark.Question = 29
