-- The spelling of a tree is its shortest text, from which no parentheses can go.
use Rattle.std.proofs.Common.{◌≡◌, suc, List, [], ◌∷◌, ◌++◌, length, ap, arith, length-append}
use Rattle.pale_text.specs.declared.token.Mark.TheVariants as mark
use Rattle.pale_text.specs.declared.token.Token.{Token}
use Rattle.pale_text.specs.declared.token.TokenKind.{TokenKind}
use Rattle.pale_text.specs.declared.token.TokenKind.TheVariants as token
use Rattle.pale_syntax.specs.declared.tree.declaration.Program.{Program}
use Rattle.pale_text.specs.Spelled.{kinds_of}
use Rattle.pale_print_laws.specs.Shortest.{IsShortest, NeedsItsParentheses}
use Rattle.pale_print_laws.proofs.FromPrograms.{short_from}
use Rattle.pale_print_laws.proofs.PlacelessProgramSizes.{same_length}

pub shortest : (tree : Program) → IsShortest tree
shortest tree = λ text list steps other lexed program same.
    let e = same_length tree other same in
    let l = short_from text list steps other lexed program in
    omega arith

kinds_length : (tokens : List Token) → length (kinds_of tokens) ≡ length tokens
kinds_length [] = omega arith
kinds_length (one ∷ tokens) = let e = kinds_length tokens in omega arith

two_less : (front inner behind : List TokenKind) →
    length (front ++ token.Mark mark.LeftParen ∷ (inner ++ token.Mark mark.RightParen ∷ behind)) ≡ suc (suc (length (front ++ (inner ++ behind))))
two_less front inner behind =
    let a = length-append front (token.Mark mark.LeftParen ∷ (inner ++ token.Mark mark.RightParen ∷ behind)) in
    let b = length-append inner (token.Mark mark.RightParen ∷ behind) in
    let c = length-append front (inner ++ behind) in
    let d = length-append inner behind in
    omega arith

pub parentheses_needed : (tree : Program) → NeedsItsParentheses tree
parentheses_needed tree = λ front inner behind is text list steps other lexed kinds program same.
    let l = shortest tree text list steps other lexed program same in
    let e = ap length is in
    let f = ap length kinds in
    let g = kinds_length list.tokens in
    let h = two_less front inner behind in
    omega arith
