-- What a reading of a stack says, by what stands on top.
use Rattle.std.proofs.Common.{◌≡◌, ℕ, suc, List, [], ◌∷◌, ◌⊎◌, inl, inr, refl}
use Rattle.ll1_reader.specs.declared.symbol.Symbol.{Symbol}
use Rattle.ll1_reader.specs.declared.symbol.Symbol.TheVariants.{Read, Open, Once, Maybe, Many, Act}
use Rattle.ll1_reader.specs.Grammars.{Rules, IsOneOf}
use Rattle.ll1_reader.specs.Readings.{Stack, Bottom, Row, Step, Took, Did, Reads, over, row_over, read, opened, acted, once, taken, left_out, again, ended}

module _ {N P A K : Type 0} (rules : Rules N P A K) (M : N → List K → Type 0) where
  pub un_bottom : {ks : List K} {steps : List (Step A)} → Reads rules M Bottom ks steps → (ks ≡ []) × (steps ≡ [])
  un_bottom over = (refl, refl)

  pub un_row : {d : ℕ} {below : Stack N A K} {ks : List K} {steps : List (Step A)} → Reads rules M (Row [] d below) ks steps → Reads rules M below ks steps
  un_row (row_over d below ks steps r) = r

  pub un_read : {k : K} {row : List (Symbol N A K)} {d : ℕ} {below : Stack N A K} {ks : List K} {steps : List (Step A)} →
      Reads rules M (Row (Read k ∷ row) d below) ks steps →
      (rest : List K) × (more : List (Step A)) × (ks ≡ k ∷ rest) × (steps ≡ Took d ∷ more) × Reads rules M (Row row d below) rest more
  un_read (read k row d below ks steps r) = (ks, steps, refl, refl, r)

  pub un_open : {k : K} {row : List (Symbol N A K)} {d : ℕ} {below : Stack N A K} {ks : List K} {steps : List (Step A)} →
      Reads rules M (Row (Open k ∷ row) d below) ks steps →
      (rest : List K) × (more : List (Step A)) × (ks ≡ k ∷ rest) × (steps ≡ Took (suc d) ∷ more) × Reads rules M (Row row (suc d) below) rest more
  un_open (opened k row d below ks steps r) = (ks, steps, refl, refl, r)

  pub un_act : {a : A} {row : List (Symbol N A K)} {d : ℕ} {below : Stack N A K} {ks : List K} {steps : List (Step A)} →
      Reads rules M (Row (Act a ∷ row) d below) ks steps →
      (more : List (Step A)) × (steps ≡ Did a ∷ more) × Reads rules M (Row row d below) ks more
  un_act (acted a row d below ks steps r) = (steps, refl, r)

  pub un_once : {n : N} {row : List (Symbol N A K)} {d : ℕ} {below : Stack N A K} {ks : List K} {steps : List (Step A)} →
      Reads rules M (Row (Once n ∷ row) d below) ks steps →
      (p : P) × IsOneOf p (rules.productions n) × Reads rules M (Row (rules.row p) d (Row row d below)) ks steps
  un_once (once n p row d below ks steps i r) = (p, i, r)

  pub un_maybe : {n : N} {row : List (Symbol N A K)} {d : ℕ} {below : Stack N A K} {ks : List K} {steps : List (Step A)} →
      Reads rules M (Row (Maybe n ∷ row) d below) ks steps →
      ((p : P) × IsOneOf p (rules.productions n) × Reads rules M (Row (rules.row p) d (Row row d below)) ks steps)
      ⊎ (M n ks × Reads rules M (Row row d below) ks steps)
  un_maybe (taken n p row d below ks steps i r) = inl (p, i, r)
  un_maybe (left_out n row d below ks steps m r) = inr (m, r)

  pub un_many : {n : N} {row : List (Symbol N A K)} {d : ℕ} {below : Stack N A K} {ks : List K} {steps : List (Step A)} →
      Reads rules M (Row (Many n ∷ row) d below) ks steps →
      ((p : P) × IsOneOf p (rules.productions n) × Reads rules M (Row (rules.row p) d (Row (Many n ∷ row) d below)) ks steps)
      ⊎ (M n ks × Reads rules M (Row row d below) ks steps)
  un_many (again n p row d below ks steps i r) = inl (p, i, r)
  un_many (ended n row d below ks steps m r) = inr (m, r)
