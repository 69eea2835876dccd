-- How many tokens lists have.
use Rattle.std.proofs.Common.{◌≡◌, ℕ, suc, ◌+◌, ◌≤◌, List, [], ◌∷◌, ◌++◌, length, arith}
use Rattle.pale_text.specs.declared.token.Mark.{Mark}
use Rattle.pale_text.specs.declared.token.TokenKind.{TokenKind}
use Rattle.pale_print.specs.Tokens.{Tokens, each, each_behind, separated}
use Rattle.pale_print_laws.proofs.RouteSizes.{Takes}

abbrev pub each_size : {X : Type 0} → (X → ℕ) → List X → ℕ
each_size size [] = 0
each_size size (x ∷ xs) = size x + each_size size xs

-- each behind a mark
abbrev pub behind_size : {X : Type 0} → (X → ℕ) → List X → ℕ
behind_size size [] = 0
behind_size size (x ∷ xs) = suc (size x + behind_size size xs)

-- with a mark between them
abbrev pub separated_size : {X : Type 0} → (X → ℕ) → List X → ℕ
separated_size size [] = 0
separated_size size (x ∷ xs) = size x + behind_size size xs

module _ {X : Type 0} (tokens_of : X → Tokens) (size : X → ℕ) (each_takes_so_many : (x : X) → Takes (tokens_of x) (size x)) where
  pub each_takes : (xs : List X) (after : List TokenKind) → length (each tokens_of xs after) ≡ each_size size xs + length after
  each_takes [] after = omega arith
  each_takes (x ∷ xs) after =
      let e = (each_takes_so_many x).takes (each tokens_of xs after) in
      let more = each_takes xs after in
      omega arith

  pub behind_takes : (m : Mark) (xs : List X) (after : List TokenKind) → length (each_behind m tokens_of xs after) ≡ behind_size size xs + length after
  behind_takes m [] after = omega arith
  behind_takes m (x ∷ xs) after =
      let e = (each_takes_so_many x).takes (each_behind m tokens_of xs after) in
      let more = behind_takes m xs after in
      omega arith

  pub separated_takes : (m : Mark) (xs : List X) (after : List TokenKind) → length (separated m tokens_of xs after) ≡ separated_size size xs + length after
  separated_takes m [] after = omega arith
  separated_takes m (x ∷ xs) after =
      let e = (each_takes_so_many x).takes (each_behind m tokens_of xs after) in
      let more = behind_takes m xs after in
      omega arith

module _ {X : Type 0} (size : X → ℕ) where
  pub each_last : (xs : List X) (x : X) → each_size size (xs ++ x ∷ []) ≡ each_size size xs + size x
  each_last [] x = omega arith
  each_last (y ∷ xs) x = let e = each_last xs x in omega arith

  pub behind_last : (xs : List X) (x : X) → behind_size size (xs ++ x ∷ []) ≡ behind_size size xs + suc (size x)
  behind_last [] x = omega arith
  behind_last (y ∷ xs) x = let e = behind_last xs x in omega arith

  pub separated_last : (xs : List X) (x : X) → separated_size size (xs ++ x ∷ []) ≤ separated_size size xs + suc (size x)
  separated_last [] x = omega arith
  separated_last (y ∷ xs) x = let e = behind_last xs x in omega arith
