-- Tokens have one stop at most.
use Rattle.std.proofs.Common.{◌≡◌, ℕ, zero, suc, ◌+◌, ◌<◌, ◌≤◌, List, [], ◌∷◌, ◌++◌, length, take, drop, Some, Ok, Err, Result}
use Rattle.std.proofs.Common.{sym, ◌∙◌, ap, subst, refl, arith, inl, inr}
use Rattle.std.proofs.Math.Nat.{eq-or-lt_of_le}
use Rattle.std.proofs.lemmas.Bool.{cases_lt}
use Rattle.std.proofs.lemmas.Option.{slice_get_within}
use Rattle.std.specs.Prelude.{slice_get, MatchResult}
use Rattle.ll1_reader.specs.declared.symbol.Event.{Event}
use Rattle.ll1_reader.specs.declared.stop.ReadStop.{ReadStop}
use Rattle.ll1_reader.specs.declared.stop.ReadStop.TheVariants as stop
use Rattle.ll1_reader.specs.Grammars.{Rules}
use Rattle.ll1_reader.specs.Readings.{Step, IsAnyReading, IsReading}
use Rattle.ll1_reader.specs.Answers.{levels, AreLow, NoneGoesOn, IsParsed, IsWrongAt, IsDeepAt}
use Rattle.ll1_reader.specs.Stops.{IsStop, IsStopUnless}
use Rattle.ll1_reader.proofs.CompleteLemmas.{weaker, not_wrong, not_deep, rest_at}

-- tokens that begin as those before a place, and go on with the token at the place
record Longer {X : Type 0} (p : ℕ) (xs longer : List X) : Type 0 where
  next : X
  more : List X
  after : List X
  here : drop p xs ≡ next ∷ more
  whole : longer ≡ take p xs ++ next ∷ after

longer : {X : Type 0} (p q : ℕ) (xs rest : List X) → p < q → q ≤ length xs → Longer p xs (take q xs ++ rest)
longer p zero xs rest below inside = absurd (omega (arith, below))
longer p (suc q) [] rest below inside = absurd (omega (arith, inside))
longer zero (suc q) (x ∷ xs) rest below inside = record { next = x; more = xs; after = take q xs ++ rest; here = refl; whole = refl }
longer (suc p) (suc q) (x ∷ xs) rest below inside =
    let deeper = longer p q xs rest (omega (arith, below)) (omega (arith, inside)) in
    record { next = deeper.next; more = deeper.more; after = deeper.after; here = deeper.here; whole = ap (λ l. x ∷ l) deeper.whole }

low_before : (limit : ℕ) (xs : List ℕ) (p q d : ℕ) → AreLow limit (take q xs) → p < q → slice_get xs p ≡ Some d → d ≤ limit
low_before limit xs p zero d low below there = absurd (omega (arith, below))
low_before limit [] p (suc q) d low below there = absurd (cc there)
low_before limit (x ∷ xs) zero (suc q) d low below there = let same : x ≡ d = cc in subst (λ y. y ≤ limit) same low.0
low_before limit (x ∷ xs) (suc p) (suc q) d low below there = low_before limit xs p q d low.1 (omega (arith, below)) there

module _ {N P A K : Type 0} (rules : Rules N P A K) (limit : ℕ) (tokens : List K) where
  -- no sentence begins with tokens that go on past a wrong one
  none_longer : (p : ℕ) (w : IsWrongAt rules limit tokens p) (more : List K) → Longer p tokens more → (steps : List (Step A)) →
      IsAnyReading rules more steps → ⊥
  none_longer p w more l steps r =
      let none = subst (λ x. NoneGoesOn rules limit (take p tokens) x) l.here w.wrong in
      none l.after steps (subst (λ (x : List K). IsAnyReading rules x steps) l.whole r)

  wrong_first : (p q : ℕ) → IsWrongAt rules limit tokens p → IsWrongAt rules limit tokens q → p < q → ⊥
  wrong_first p q w v below = none_longer p w (take q tokens ++ v.after) (longer p q tokens v.after below v.inside) v.steps (weaker rules v.reading)

  pub one_wrong : (p q : ℕ) → IsWrongAt rules limit tokens p → IsWrongAt rules limit tokens q → p ≡ q
  one_wrong p q w v =
      elim (cases_lt p q) [
        | inl below ↦ absurd (wrong_first p q w v below)
        | inr up ↦ elim (cases_lt q p) [
          | inl below ↦ absurd (wrong_first q p v w below)
          | inr down ↦ omega (arith, up, down)
        ]
      ]

  -- in a reading that counts of tokens that go on past one that is too deep, this one opens a level above the limit
  too_deep : (p : ℕ) (d : IsDeepAt rules limit tokens p) (more : List K) → Longer p tokens more → (steps : List (Step A)) →
      IsReading rules more steps → slice_get (levels steps) p ≡ Some (limit + 1)
  too_deep p d more l steps r =
      let same : l.next ≡ d.kind = cc (sym l.here ∙ rest_at p tokens d.kind d.here) in
      let there = l.whole ∙ ap (λ k. take p tokens ++ k ∷ l.after) same in
      (d.deep l.after steps (subst (λ (x : List K). IsReading rules x steps) there r)).there

  low_or_deep : (p q : ℕ) (d : IsDeepAt rules limit tokens p) (rest : List K) (steps : List (Step A)) →
      IsReading rules (take q tokens ++ rest) steps → AreLow limit (take q (levels steps)) → q ≤ length tokens → p < q → ⊥
  low_or_deep p q d rest steps r low inside below =
      let there = too_deep p d (take q tokens ++ rest) (longer p q tokens rest below inside) steps r in
      absurd (omega (arith, low_before limit (levels steps) p q (limit + 1) low below there))

  deep_first : (p q : ℕ) → IsDeepAt rules limit tokens p → IsDeepAt rules limit tokens q → p < q → ⊥
  deep_first p q d e below =
      let inside = slice_get_within tokens q e.kind e.here in
      low_or_deep p q d (e.kind ∷ e.after) e.steps e.reading (e.deep e.after e.steps e.reading).before (omega (arith, inside)) below

  pub one_deep : (p q : ℕ) → IsDeepAt rules limit tokens p → IsDeepAt rules limit tokens q → p ≡ q
  one_deep p q d e =
      elim (cases_lt p q) [
        | inl below ↦ absurd (deep_first p q d e below)
        | inr up ↦ elim (cases_lt q p) [
          | inl below ↦ absurd (deep_first q p e d below)
          | inr down ↦ omega (arith, up, down)
        ]
      ]

  pub wrong_or_deep : (p q : ℕ) → IsWrongAt rules limit tokens p → IsDeepAt rules limit tokens q → ⊥
  wrong_or_deep p q w d =
      elim (cases_lt q p) [
        | inl below ↦ low_or_deep q p d w.after w.steps w.reading w.low w.inside below
        | inr up ↦ elim (eq-or-lt_of_le up) [
          | inl same ↦
              let here = rest_at q tokens d.kind d.here in
              none_longer p w (take q tokens ++ d.kind ∷ d.after) (record {
                next = d.kind;
                more = drop (suc q) tokens;
                after = d.after;
                here = ap (λ n. drop n tokens) same ∙ here;
                whole = ap
                    (λ n. take n tokens ++ d.kind ∷ d.after) (sym same);
              }) d.steps (weaker rules d.reading)
          | inr below ↦
              let inside = slice_get_within tokens q d.kind d.here in
              none_longer p w (take q tokens ++ d.kind ∷ d.after)
              (longer p q tokens (d.kind ∷ d.after) below (omega (arith, inside))) d.steps (weaker rules d.reading)
        ]
      ]

  pub stops_at_wrong : (r : Result (List (Event A)) ReadStop) →
      MatchResult r (IsParsed rules limit tokens) (IsStop rules limit tokens) → (place : ℕ) → IsWrongAt rules limit tokens place →
      IsStopUnless r (stop.Wrong place)
  stops_at_wrong (Ok events) p place w = absurd (not_wrong rules limit tokens place p.steps p.reading w)
  stops_at_wrong (Err (stop.Wrong other)) p place w = inl (ap (λ n. stop.Wrong n) (one_wrong other place p w))
  stops_at_wrong (Err (stop.Deep other)) p place w = absurd (wrong_or_deep place other w p)
  stops_at_wrong (Err stop.NoMemory) p place w = inr refl

  pub stops_at_deep : (r : Result (List (Event A)) ReadStop) →
      MatchResult r (IsParsed rules limit tokens) (IsStop rules limit tokens) → (place : ℕ) → IsDeepAt rules limit tokens place →
      IsStopUnless r (stop.Deep place)
  stops_at_deep (Ok events) p place d = absurd (not_deep rules limit tokens place p.steps p.reading p.low d)
  stops_at_deep (Err (stop.Wrong other)) p place d = absurd (wrong_or_deep other place p d)
  stops_at_deep (Err (stop.Deep other)) p place d = inl (ap (λ n. stop.Deep n) (one_deep other place p d))
  stops_at_deep (Err stop.NoMemory) p place d = inr refl
