-- A mark's number is its place.
use Rattle.std.proofs.Common.{◌≡◌, List, ◌++◌, map, Some, slice_get, refl}
use Rattle.pale_text.specs.declared.token.Mark.{Mark}
use Rattle.pale_text.specs.declared.token.Mark.TheVariants as mark
use Rattle.pale_text.specs.Marks.{all_marks, mark_number}

-- a language's marks stand at their numbers in a list that begins with all of them
pub mark_back : {K : Type 0} (kind : Mark → K) (words : List K) (sign : Mark) →
    slice_get (map kind all_marks ++ words) (mark_number sign) ≡ Some (kind sign)
unfolding all_marks mark_number
mark_back kind words mark.Equivalent = refl
mark_back kind words mark.SameAs = refl
mark_back kind words mark.Implies = refl
mark_back kind words mark.NotSame = refl
mark_back kind words mark.NotEqual = refl
mark_back kind words mark.AndAlso = refl
mark_back kind words mark.OrElse = refl
mark_back kind words mark.Equals = refl
mark_back kind words mark.Bang = refl
mark_back kind words mark.Tilde = refl
mark_back kind words mark.Ampersand = refl
mark_back kind words mark.Bar = refl
mark_back kind words mark.Less = refl
mark_back kind words mark.Greater = refl
mark_back kind words mark.LeftParen = refl
mark_back kind words mark.RightParen = refl
mark_back kind words mark.LeftBracket = refl
mark_back kind words mark.RightBracket = refl
mark_back kind words mark.LeftBrace = refl
mark_back kind words mark.RightBrace = refl
mark_back kind words mark.Colon = refl
mark_back kind words mark.Semicolon = refl
mark_back kind words mark.Comma = refl
mark_back kind words mark.Dot = refl
mark_back kind words mark.Star = refl
mark_back kind words mark.Plus = refl
mark_back kind words mark.Caret = refl
mark_back kind words mark.Dollar = refl
mark_back kind words mark.At = refl
mark_back kind words mark.Question = refl
