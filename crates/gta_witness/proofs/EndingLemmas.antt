-- With each turn fewer goals are left to settle, or as many, and fewer wait.
use Rattle.std.proofs.Common.{◌≡◌, ℕ, zero, suc, ◌+◌, ◌*◌, ◌^◌, ◌<◌, ◌≤◌, Bool, true, false, Option, Some, None, Result, Ok, Err, IfOk, inl, inr, if◌then◌else◌}
use Rattle.std.proofs.Common.{refl, sym, ap, ◌∙◌, arith}
use Rattle.std.specs.BinaryHeap.{heap_len}
use Rattle.std.proofs.Math.Nat.{mul-le-mul_left}
use Rattle.std.proofs.lemmas.Bool.{false≢true, cases_eq}
use Rattle.gta_witness.specs.declared.goal.Goal.{Goal}
use Rattle.gta_witness.specs.declared.goal.Goal.TheVariants.{State, Node, Row, Column}
use Rattle.gta_witness.specs.declared.goal.Found.{Found}
use Rattle.gta_witness.specs.declared.goal.Weight.{Weight}
use Rattle.gta_witness.specs.declared.relax.Search.{Search}
use Rattle.gta_witness.specs.declared.search.Turn.{Turn}
use Rattle.gta_witness.specs.declared.search.Turn.TheVariants.{More, Over, Accepting}
use Rattle.gta_witness.specs.Searching.{Findings, found_by, IsSettled, Improves}
use Rattle.gta_witness.specs.Ending.{is_settled_in, failing, failing_pairs, unsettled_of, unsettled, turns_left, IsNearer, HasBits}

-- what passed a test still passes
bit-fewer : (a b : Bool) → (a ≡ true → b ≡ true) → (if b then 0 else 1) ≤ (if a then 0 else 1)
bit-fewer true true kept = omega arith
bit-fewer true false kept = absurd (false≢true (kept refl))
bit-fewer false true kept = omega arith
bit-fewer false false kept = omega arith

bit-less : (a b : Bool) → a ≡ false → b ≡ true → (if b then 0 else 1) < (if a then 0 else 1)
bit-less true b was now = absurd (false≢true (sym was))
bit-less false true was now = omega arith
bit-less false false was now = absurd (false≢true now)

module _ (old new : ℕ → Bool) (kept : (i : ℕ) → old i ≡ true → new i ≡ true) where
  failing-fewer : (n : ℕ) → failing new n ≤ failing old n
  unfolding failing
  failing-fewer zero = omega arith
  failing-fewer (suc n) = let here = bit-fewer (old n) (new n) (kept n) in let others = failing-fewer n in omega arith

  failing-less : (n i : ℕ) → i < n → old i ≡ false → new i ≡ true → failing new n < failing old n
  unfolding failing
  failing-less zero i below was now = absurd (omega arith)
  failing-less (suc n) i below was now = elim (cases_eq i n) [
    | inl same ↦
        let here = bit-less (old n) (new n) (ap old (sym same) ∙ was) (ap new (sym same) ∙ now) in
        let others = failing-fewer n in
        omega arith
    | inr other ↦
        let here = bit-fewer (old n) (new n) (kept n) in
        let others = failing-less n i (omega arith) was now in
        omega arith
  ]

module _ (old new : ℕ → ℕ → Bool) (kept : (s i : ℕ) → old s i ≡ true → new s i ≡ true) (bound : ℕ) where
  pairs-fewer : (n : ℕ) → failing_pairs new bound n ≤ failing_pairs old bound n
  unfolding failing_pairs
  pairs-fewer zero = omega arith
  pairs-fewer (suc n) = let here = failing-fewer (old n) (new n) (kept n) bound in let others = pairs-fewer n in omega arith

  pairs-less : (n s i : ℕ) → s < n → i < bound → old s i ≡ false → new s i ≡ true → failing_pairs new bound n < failing_pairs old bound n
  unfolding failing_pairs
  pairs-less zero s i below small was now = absurd (omega arith)
  pairs-less (suc n) s i below small was now = elim (cases_eq s n) [
    | inl same ↦
        let here = failing-less (old n) (new n) (kept n) bound i small (ap (λ k. old k i) (sym same) ∙ was) (ap (λ k. new k i) (sym same) ∙ now) in
        let others = pairs-fewer n in
        omega arith
    | inr other ↦
        let here = failing-fewer (old n) (new n) (kept n) bound in
        let others = pairs-less n s i (omega arith) small was now in
        omega arith
  ]

-- goals stay settled
module _ (old new : Findings) (kept : (goal : Goal) → is_settled_in (old goal) ≡ true → is_settled_in (new goal) ≡ true) where
  of-fewer : (kind : ℕ → ℕ → Goal) → unsettled_of new kind ≤ unsettled_of old kind
  unfolding unsettled_of
  of-fewer kind = pairs-fewer (λ s i. is_settled_in (old (kind s i))) (λ s i. is_settled_in (new (kind s i))) (λ s i. kept (kind s i)) (2 ^ 32) (2 ^ 32)

  of-less : (kind : ℕ → ℕ → Goal) (s i : ℕ) → s < 2 ^ 32 → i < 2 ^ 32 → is_settled_in (old (kind s i)) ≡ false → is_settled_in (new (kind s i)) ≡ true →
      unsettled_of new kind < unsettled_of old kind
  unfolding unsettled_of
  of-less kind s i s_small i_small was now =
      pairs-less (λ s i. is_settled_in (old (kind s i))) (λ s i. is_settled_in (new (kind s i))) (λ s i. kept (kind s i)) (2 ^ 32) (2 ^ 32) s i
      s_small i_small was now

  unsettled-fewer : unsettled new ≤ unsettled old
  unfolding unsettled
  unsettled-fewer =
      let a = of-fewer State in let b = of-fewer Node in let c = of-fewer Row in let d = of-fewer Column in omega arith

  unsettled-less : (goal : Goal) → HasBits goal → is_settled_in (old goal) ≡ false → is_settled_in (new goal) ≡ true → unsettled new < unsettled old
  unfolding unsettled
  unsettled-less (State s q) bits was now =
      let a = of-less State s q bits.0 bits.1 was now in let b = of-fewer Node in let c = of-fewer Row in let d = of-fewer Column in omega arith
  unsettled-less (Node s i) bits was now =
      let a = of-fewer State in let b = of-less Node s i bits.0 bits.1 was now in let c = of-fewer Row in let d = of-fewer Column in omega arith
  unsettled-less (Row s class) bits was now =
      let a = of-fewer State in let b = of-fewer Node in let c = of-less Row s class bits.0 bits.1 was now in let d = of-fewer Column in omega arith
  unsettled-less (Column s class) bits was now =
      let a = of-fewer State in let b = of-fewer Node in let c = of-fewer Row in let d = of-less Column s class bits.0 bits.1 was now in omega arith

is-settled : (found : Findings) (goal : Goal) (w : Weight) → IsSettled found goal w → is_settled_in (found goal) ≡ true
is-settled found goal w settled = ap is_settled_in settled.there ∙ settled.settled

settled-there : (found : Findings) (goal : Goal) (o : Option Found) → found goal ≡ o → is_settled_in o ≡ true → (w : Weight) × IsSettled found goal w
settled-there found goal None there is = absurd (false≢true is)
settled-there found goal (Some entry) there is = (entry.weight, record { entry = entry; there = there; settled = is; weighs = refl })

-- one goal is settled, and others stay so: fewer are left, whatever waits
pub turns-settled : (old mid new : Search) (goal : Goal) (w : Weight) → HasBits goal → is_settled_in (found_by old goal) ≡ false →
    ((g : Goal) (v : Weight) → IsSettled (found_by old) g v → IsSettled (found_by mid) g v) → IsSettled (found_by mid) goal w →
    Improves (found_by mid) (found_by new) → turns_left new < turns_left old
turns-settled old mid new goal w bits was kept now improves =
    let still : (g : Goal) → is_settled_in (found_by old g) ≡ true → is_settled_in (found_by new g) ≡ true = λ g is.
    let settled = settled-there (found_by old) g (found_by old g) refl is in
    is-settled (found_by new) g settled.0 (improves.settled g settled.0 (kept g settled.0 settled.1)) in
    let less = unsettled-less (found_by old) (found_by new) still goal bits was (is-settled (found_by new) goal w (improves.settled goal w now)) in
    let room : heap_len new.queue < 2 ^ 63 = (let o = new.queue.data.ok.1 in let s = new.queue.data.small in omega arith) in
    let more : (2 ^ 63) * (unsettled (found_by new) + 1) ≤ (2 ^ 63) * unsettled (found_by old) = mul-le-mul_left (2 ^ 63) (omega arith) in
    omega arith

-- nothing else changes, and fewer wait
pub turns-fewer : (old new : Search) → new.found ≡ old.found → heap_len new.queue + 1 ≡ heap_len old.queue → turns_left new < turns_left old
turns-fewer old new same fewer =
    let e : unsettled (found_by new) ≡ unsettled (found_by old) = λ i. unsettled (found_by (record { found = same i; queue = old.queue })) in
    omega arith

-- where fewer turns are left before the last part of a turn, and after it, fewer are left after the turn
pub nearer : {E : Type 0} (result : Result Turn E) (before between after : ℕ) → IfOk result (λ turn. after < between) → between < before →
    IfOk result (IsNearer before after)
nearer (Ok More) before between after fewer first = omega arith
nearer (Ok Over) before between after fewer first = tt
nearer (Ok (Accepting state weight)) before between after fewer first = tt
nearer (Err e) before between after fewer first = fewer
