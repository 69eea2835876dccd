-- On the room that collecting leaves: the nodes of automata that are held are no more than the sum of their Sizes.
use Rattle.std.proofs.Common.{◌≡◌, ◌≢◌, ℕ, suc, ◌≤◌, ◌==◌, ◌⊎◌, inl, inr, true, false, List, [], ◌∷◌, map, IsSome, refl, sym, subst, arith}
use Rattle.std.proofs.lemmas.Bool.Decides.{eqb_tells}
use Rattle.bdd_nodes.specs.Shelf.{Contents, roots_of}
use Rattle.bdd_nodes.specs.Changes.{CountsHeld}
use Rattle.gta_theory.specs.Guides.{Spaces}
use Rattle.gta_core.specs.Auto.{AutoView}
use Rattle.gta_core.specs.Sizes.{IsTableOf}
use Rattle.gta_core.proofs.SizeLemmas.{held-le}
use Rattle.gta_keep.specs.Holding.{times, Holds, HaveSum}
use Rattle.gta_keep.proofs.HoldingLemmas.{times-other, registered-some}

-- a table that one of them has is that of one of them
times-table : (sized : List (AutoView × ℕ)) (t : ℕ) → 1 ≤ times (map (λ auto. auto.0) sized) t → IsTableOf sized t
times-table [] t le = absurd (let none : ⊥ = omega (arith, le) in none)
times-table (x ∷ sized) t le = pick (eqb_tells (x.0).table t) (times-table sized t) where
  later : IsTableOf sized t → IsTableOf (x ∷ sized) t
  later found = record {
    auto = found.auto;
    there = (suc found.there.0, (let lt = found.there.1 in omega (arith, lt)), found.there.2);
    has = found.has;
  }

  pick : ((((x.0).table == t) ≡ true) × ((x.0).table ≡ t)) ⊎ ((((x.0).table == t) ≡ false) × ((x.0).table ≢ t)) →
      (1 ≤ times (map (λ auto. auto.0) sized) t → IsTableOf sized t) → IsTableOf (x ∷ sized) t
  pick (inl (equal, is)) rest = record { auto = x; there = (0, omega arith, refl); has = is }
  pick (inr (unequal, isnt)) rest =
      later (rest (let e = times-other x.0 (map (λ auto. auto.0) sized) t isnt in omega (arith, le, e)))

module _ (g : Spaces) (shelf : Contents) where
  held-table : (sized : List (AutoView × ℕ)) → Holds g shelf (map (λ auto. auto.0) sized) → (t : ℕ) → IsSome (roots_of shelf t) → IsTableOf sized t
  held-table sized holds t some =
      times-table sized t (let e = holds.tables t in let one = registered-some shelf t some in omega (arith, e, one))

  pub room-sum : (autos : List AutoView) (sum count : ℕ) → Holds g shelf autos → HaveSum g shelf autos sum → CountsHeld shelf count → count ≤ sum
  room-sum autos sum count holds have counts =
      let of_sized : Holds g shelf (map (λ auto. auto.0) have.sized) = subst (Holds g shelf) (sym have.are) holds in
      let le = held-le g shelf of_sized.is_shelf have.sized have.each (held-table have.sized of_sized) count counts in
      subst (λ (n : ℕ). count ≤ n) have.is_sum le
