-- Lines that tell settled states have one first fault, and right ones none.
use Rattle.std.proofs.Common.{◌≡◌, inl, inr, ℕ, ◌<◌, List, length, map, refl, ap, arith}
use Rattle.std.proofs.lemmas.Bool.{cases_lt}
use Rattle.std.proofs.lemmas.Option.{slice_get_within}
use Rattle.gta_theory.specs.Guides.{Spaces}
use Rattle.gta_theory.specs.Automata.{Automaton}
use Rattle.cert_text.specs.declared.line.StartLine.{StartLine}
use Rattle.cert_text.specs.declared.line.SettleLine.{SettleLine}
use Rattle.cert_theory.specs.Tables.{PlacedState}
use Rattle.cert_settled.specs.declared.lines.SettleFault.{SettleFault}
use Rattle.cert_settled.specs.declared.lines.SettleFault.TheVariants as fault
use Rattle.cert_settled.specs.Settled.{start_state, AreStarts, HasStarts, AreSettles, AreSettling, IsNoStart, IsNoSettle, IsFirstFault}

-- two numbers of which neither is below the other
equal : (k m : ℕ) → (k < m → ⊥) → (m < k → ⊥) → k ≡ m
equal k m not_below not_above = elim (cases_lt k m) as (λ _. k ≡ m) [
  | inl below ↦ absurd (not_below below)
  | inr from ↦ elim (cases_lt m k) as (λ _. k ≡ m) [
    | inl above ↦ absurd (not_above above)
    | inr to ↦ omega (arith, from, to)
  ]
]

module _ (g : Spaces) (A : Automaton ℕ) (starts : List StartLine) where
  -- no start fault stands before right lines, and none past the end
  start-below : (k m : ℕ) → IsNoStart g A starts k → AreStarts g A starts m → IsNoStart g A starts m → k < m → ⊥
  start-below k m (inl wrong) right is below = wrong.2 (right k wrong.0 below wrong.1)
  start-below k m (inr ends) right (inl wrong) below =
      let inside = slice_get_within starts m wrong.0 wrong.1 in
      let at = ends.0 in
      omega (arith, inside, at, below)
  start-below k m (inr ends) right (inr others) below =
      let at = ends.0 in
      let other = others.0 in
      omega (arith, at, other, below)

  start-at : (k m : ℕ) → AreStarts g A starts k × IsNoStart g A starts k → AreStarts g A starts m × IsNoStart g A starts m → k ≡ m
  start-at k m one other = equal k m (start-below k m one.1 other.0 other.1) (start-below m k other.1 one.0 one.1)

  has-no-start : (k : ℕ) → HasStarts g A starts → IsNoStart g A starts k → ⊥
  has-no-start k has (inl wrong) = wrong.2 (has.right k wrong.0 (slice_get_within starts k wrong.0 wrong.1) wrong.1)
  has-no-start k has (inr ends) =
      let all = has.all in
      let fewer = ends.1 in
      omega (arith, all, fewer)

module _ (g : Spaces) (A : Automaton ℕ) (t : ℕ) (list : List PlacedState) (settles : List SettleLine) where
  settle-below : (k m : ℕ) → IsNoSettle g A t list settles k → AreSettles g A t list settles m → k < m → ⊥
  settle-below k m is right below = is.wrong (right k is.line below is.at)

  settle-at : (k m : ℕ) → AreSettles g A t list settles k → IsNoSettle g A t list settles k → AreSettles g A t list settles m →
      IsNoSettle g A t list settles m → k ≡ m
  settle-at k m right is other_right other = equal k m (settle-below k m is other_right) (settle-below m k other right)

  has-no-settle : (k : ℕ) → AreSettles g A t list settles (length settles) → IsNoSettle g A t list settles k → ⊥
  has-no-settle k right is = settle-below k (length settles) is right (slice_get_within settles k is.line is.at)

module _ (g : Spaces) (A : Automaton ℕ) (t : ℕ) (starts : List StartLine) (settles : List SettleLine) where
  pub one-fault : (e f : SettleFault) → (e ≡ fault.NoMemory → ⊥) → (f ≡ fault.NoMemory → ⊥) → IsFirstFault g A t starts settles e →
      IsFirstFault g A t starts settles f → e ≡ f
  one-fault fault.NoMemory f not_e not_f is other = absurd (not_e refl)
  one-fault (fault.Start k) fault.NoMemory not_e not_f is other = absurd (not_f refl)
  one-fault (fault.Start k) (fault.Start m) not_e not_f is other = ap (λ (n : ℕ). fault.Start n) (start-at g A starts k m is other)
  one-fault (fault.Start k) (fault.Settle m) not_e not_f is other = absurd (has-no-start g A starts k other.0 is.1)
  one-fault (fault.Start k) fault.Open not_e not_f is other = absurd (has-no-start g A starts k other.0 is.1)
  one-fault (fault.Settle k) fault.NoMemory not_e not_f is other = absurd (not_f refl)
  one-fault (fault.Settle k) (fault.Start m) not_e not_f is other = absurd (has-no-start g A starts m is.0 other.1)
  one-fault (fault.Settle k) (fault.Settle m) not_e not_f is other =
      ap (λ (n : ℕ). fault.Settle n) (settle-at g A t (map start_state starts) settles k m is.1 is.2 other.1 other.2)
  one-fault (fault.Settle k) fault.Open not_e not_f is other = absurd (has-no-settle g A t (map start_state starts) settles k other.1 is.2)
  one-fault fault.Open fault.NoMemory not_e not_f is other = absurd (not_f refl)
  one-fault fault.Open (fault.Start m) not_e not_f is other = absurd (has-no-start g A starts m is.0 other.1)
  one-fault fault.Open (fault.Settle m) not_e not_f is other = absurd (has-no-settle g A t (map start_state starts) settles m is.1 other.2)
  one-fault fault.Open fault.Open not_e not_f is other = refl

  pub right-no-fault : (f : SettleFault) → AreSettling g A t starts settles → IsFirstFault g A t starts settles f → f ≡ fault.NoMemory
  right-no-fault fault.NoMemory are is = refl
  right-no-fault (fault.Start k) are is = absurd (has-no-start g A starts k are.has_starts is.1)
  right-no-fault (fault.Settle k) are is = absurd (has-no-settle g A t (map start_state starts) settles k are.right is.2)
  right-no-fault fault.Open are is = absurd (is.2 are.closed)
