-- The elements of one key in a list by rising key.
use Rattle.std.proofs.Common.{◌≡◌, inl, inr, ◌<◌, ◌≤◌, ◌+◌, ◌-◌, ◌∷◌, [], ℕ, true, false, List, length, get_or, take, drop, sym, ap, ◌∙◌, arith}
use Rattle.std.proofs.Common.{Contains, ltb, leb}
use Rattle.std.specs.List.Sorted.{IsPartitionPoint}
use Rattle.std.proofs.lemmas.List.{get_or-take, get_or-drop, length-take, length-drop}
use Rattle.std.proofs.lemmas.Bool.{cases_lt}
use Rattle.std.proofs.lemmas.Bool.Decides.{nat_tests}
use Rattle.routing_walks.specs.Gathering.{HasAll}

not_below : (a b : ℕ) → ltb a b ≡ false → b ≤ a
not_below a b test = grind (arith, nat_tests)

below : (a b : ℕ) → ltb a b ≡ true → a < b
below a b test = grind (arith, nat_tests)

up_to : (a b : ℕ) → leb a b ≡ true → a ≤ b
up_to a b test = grind (arith, nat_tests)

not_up_to : (a b : ℕ) → leb a b ≡ false → b < a
not_up_to a b test = grind (arith, nat_tests)

some_element : {X : Type 0} (xs : List X) → 0 < length xs → X
some_element [] h = absurd (omega arith)
some_element (x ∷ xs) h = x

module _ {X : Type 0} (key : X → ℕ) (xs : List X) (wanted start end : ℕ)
    (low : IsPartitionPoint (λ y. ltb (key y) wanted ≡ true) (λ y. ltb (key y) wanted ≡ false) xs start)
    (high : IsPartitionPoint (λ y. leb (key y) wanted ≡ true) (λ y. leb (key y) wanted ≡ false) xs end)
    (start_in : start ≤ length xs) (end_in : end ≤ length xs) where
  pub start-le-end : start ≤ end
  start-le-end = elim (cases_lt end start) [
    | inl lt ↦
        let d : X = some_element xs (omega arith) in
        let less = below (key (get_or xs end d)) wanted (low.0 end d (omega arith) lt) in
        let more = not_up_to (key (get_or xs end d)) wanted (high.1 end d (omega arith) (omega arith)) in
        absurd (omega arith)
    | inr ge ↦ ge
  ]

  at_place : (k : ℕ) (x : X) → k < end - start → get_or (take (end - start) (drop start xs)) k x ≡ get_or xs (start + k) x
  at_place k x h = get_or-take (end - start) (drop start xs) k x h ∙ get_or-drop start xs k x

  part_length : length (take (end - start) (drop start xs)) ≡ end - start
  part_length = let le = start-le-end in omega (arith, length-take (end - start) (drop start xs), length-drop start xs)

  pub of_key : HasAll (take (end - start) (drop start xs)) (λ x. Contains xs x × (key x ≡ wanted))
  of_key x = (there, back)
    where
      there : Contains (take (end - start) (drop start xs)) x → Contains xs x × (key x ≡ wanted)
      there h =
          let len = part_length in
          let inside : h.0 < end - start = let within = h.1 in omega arith in
          let same : get_or xs (start + h.0) x ≡ x = sym (at_place h.0 x inside) ∙ h.2 in
          let more = not_below (key (get_or xs (start + h.0) x)) wanted (low.1 (start + h.0) x (omega arith) (omega arith)) in
          let less = up_to (key (get_or xs (start + h.0) x)) wanted (high.0 (start + h.0) x (omega arith) (omega arith)) in
          ((start + h.0, omega arith, same), let is : key (get_or xs (start + h.0) x) ≡ wanted = omega arith in sym (ap key same) ∙ is)

      back : Contains xs x × (key x ≡ wanted) → Contains (take (end - start) (drop start xs)) x
      back h =
          let k = h.0.0 in
          let within = h.0.1 in
          let is : key (get_or xs k x) ≡ wanted = ap key h.0.2 ∙ h.1 in
          let from_start : start ≤ k = elim (cases_lt k start) [
            | inl lt ↦ let less = below (key (get_or xs k x)) wanted (low.0 k x (omega arith) lt) in absurd (omega arith)
            | inr ge ↦ ge
          ] in
          let to_end : k < end = elim (cases_lt k end) [
            | inl lt ↦ lt
            | inr ge ↦ let more = not_up_to (key (get_or xs k x)) wanted (high.1 k x ge within) in absurd (omega arith)
          ] in
          let len = part_length in
          let place : start + (k - start) ≡ k = omega arith in
          (k - start, omega arith, at_place (k - start) x (omega arith) ∙ ap (λ i. get_or xs i x) place ∙ h.0.2)
