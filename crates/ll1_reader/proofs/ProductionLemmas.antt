-- Going over the productions of a nonterminal.
use Rattle.std.proofs.Common.{◌≡◌, ℕ, zero, suc, ◌+◌, ◌<◌, ◌≤◌, ◌==◌, ◌||◌, Bool, true, false, List, [], ◌∷◌, ◌++◌, length}
use Rattle.std.proofs.Common.{get_or, drop, drop-cons, add-one, inl, inr, sym, ◌∙◌, ap, subst, refl, arith}
use Rattle.std.proofs.lemmas.List.{drop_all}
use Rattle.std.specs.List.{flat_map}
use Rattle.ll1_reader.specs.Grammars.{Rules, IsOneOf}
use Rattle.ll1_reader.specs.Predicting.{Table, among}

-- what stands at a place of a list is one of it
pub one_of_at : {X : Type 0} (xs : List X) (i : ℕ) (x : X) → i < length xs → x ≡ get_or xs i x → IsOneOf x xs
one_of_at [] i x h e = absurd (omega (arith, h))
one_of_at (y ∷ xs) zero x h e = inl e
one_of_at (y ∷ xs) (suc i) x h e = inr (one_of_at xs i x (omega (arith, h)) e)

module _ {N P A K : Type 0} (rules : Rules N P A K) (table : Table N P K) where
  among-append_none : (k : K) (xs ys : List K) → among rules table k xs ≡ false → among rules table k (xs ++ ys) ≡ among rules table k ys
  among-append_none k [] ys h = refl
  among-append_none k (x ∷ xs) ys h = by (table.number k == table.number x) refl h (among-append_none k xs ys)
    where
      by : (b : Bool) → (table.number k == table.number x) ≡ b → (b || among rules table k xs) ≡ false →
          (among rules table k xs ≡ false → among rules table k (xs ++ ys) ≡ among rules table k ys) →
          (b || among rules table k (xs ++ ys)) ≡ among rules table k ys
      by true e f more = absurd (cc f)
      by false e f more = more f

  -- behind a production that begins otherwise
  pub past_production : (k : K) (ps : List P) (i : ℕ) (p : P) → i < length ps → p ≡ get_or ps i p → among rules table k (table.first p) ≡ false →
      among rules table k (flat_map table.first (drop (i + 1) ps)) ≡ among rules table k (flat_map table.first (drop i ps))
  past_production k ps i p h e f =
      rw (add-one) (
      let whole = ap (λ (xs : List P). among rules table k (flat_map table.first xs)) (drop-cons ps i p h) in
      let here : among rules table k (table.first (get_or ps i p)) ≡ false = subst (λ (x : P). among rules table k (table.first x) ≡ false) e f in
      sym (whole ∙ among-append_none k (table.first (get_or ps i p)) (flat_map table.first (drop (suc i) ps)) here))

  pub no_production_left : (k : K) (ps : List P) (i : ℕ) → length ps ≤ i → among rules table k (flat_map table.first (drop i ps)) ≡ false
  no_production_left k ps i h = ap (λ (xs : List P). among rules table k (flat_map table.first xs)) (drop_all i ps h)
