-- What is told of a cut.
use Rattle.std.proofs.Common.{◌≡◌, ◌↔◌, inl, inr, ℕ, zero, suc, ◌<◌, ◌≤◌, ◌+◌, Bool, true, false, not, IsTrue, List, [], ◌∷◌, length}
use Rattle.std.proofs.Common.{slice_get, Option, Some, None, IsSomeAnd, Contains, refl, sym, ◌∙◌, subst, arith}
use mathlib.Core.Bool.{beq}
use Rattle.std.proofs.lemmas.Bool.{cases_eq, false≢true}
use Rattle.store_core.specs.declared.ids.VarId.{VarId}
use Rattle.store_core.specs.declared.ids.CellId.{CellId}
use Rattle.store_core.specs.Tables.{TypeEntry, VarEntry}
use Rattle.store_core.specs.Stores.{StoreMap, Fits}
use Rattle.routing_walks.specs.Regions.{IsPart}
use Rattle.routing_walks.specs.declared.fault.CutFault.{CutFault}
use Rattle.routing_walks.specs.declared.fault.CutFault.TheVariants as fault
use Rattle.routing_walks.specs.CutFaults.{HasDanglingReference, HasShared, HasLeaked, HasWrongField, IsFirstCutFault, IsSound}
use Rattle.routing_walks.specs.Shown.{at_reference, at_shared, at_leak, at_field}
use Rattle.routing_walks.proofs.DecidedStores.{no_cause}
use Rattle.store_exec.specs.declared.cause.Cause.{Cause}
use Rattle.store_exec.specs.declared.cause.Cause.TheVariants as cause
use Rattle.store_exec.specs.declared.triple.Cut.{Cut}
use Rattle.store_exec.specs.Cuts.{IsPointerVar, PointsTo, Escapes, EscapesAt, AreMet, IsWrong, IsFirstCause, AtCut, number_of}
use Rattle.store_exec.specs.Telling.{IsAstray, cause_of_fault}

module _ (vars : List VarEntry) (s : StoreMap) (cells : List CellId) (inside : List VarId) (v : VarId) where
  -- no cell is named
  pub not-astray : (o : Option CellId) → ((c : CellId) → (o ≡ Some c) ↔ PointsTo vars s v c) → o ≡ None → IsAstray vars s cells inside v → ⊥
  not-astray o points none astray = let is : None ≡ Some astray.0 = sym none ∙ (points astray.0).1 astray.1 in absurd cc

  one-cell : (o : Option CellId) → ((c : CellId) → (o ≡ Some c) ↔ PointsTo vars s v c) → (c d : CellId) → o ≡ Some c → PointsTo vars s v d → d ≡ c
  one-cell o points c d is p = let both : Some d ≡ Some c = sym ((points d).1 p) ∙ is in cc

  -- the cell that is named, by whether the variable is listed and whether the cell is one of these
  pub astray-by : (o : Option CellId) → ((c : CellId) → (o ≡ Some c) ↔ PointsTo vars s v c) → (c : CellId) → o ≡ Some c → (a h : Bool) →
      IsTrue a ↔ Contains inside v → IsTrue h ↔ Contains cells c → IsTrue (not (beq a h)) ↔ IsAstray vars s cells inside v
  astray-by o points c is true true listed has = (
    (λ e. absurd (false≢true e)),
    (λ astray. let same = one-cell o points c astray.0 is astray.1 in elim (astray.2) [
      | inl out ↦ absurd (out.1 (subst (Contains cells) (sym same) (has.0 refl)))
      | inr in_it ↦ absurd (in_it.0 (listed.0 refl))
    ]),
  )
  astray-by o points c is true false listed has = ((λ e. (c, (points c).0 is, inl (listed.0 refl, λ g. false≢true (has.1 g)))), (λ astray. refl))
  astray-by o points c is false true listed has = ((λ e. (c, (points c).0 is, inr ((λ g. false≢true (listed.1 g)), has.0 refl))), (λ astray. refl))
  astray-by o points c is false false listed has = (
    (λ e. absurd (false≢true e)),
    (λ astray. let same = one-cell o points c astray.0 is astray.1 in elim (astray.2) [
      | inl out ↦ absurd (false≢true (listed.1 out.0))
      | inr in_it ↦ absurd (false≢true (has.1 (subst (Contains cells) same in_it.1)))
    ]),
  )

-- a variable that points to a cell is one of the table
known : {X : Type 0} (P : X → Type 0) (xs : List X) (i : ℕ) → IsSomeAnd (slice_get xs i) P → i < length xs
known P [] i h = absurd h
known P (x ∷ xs) zero h = omega arith
known P (x ∷ xs) (suc i) h = let rest = known P xs i h in omega (arith, rest)

pub astray-known : (vars : List VarEntry) (s : StoreMap) (cells : List CellId) (inside : List VarId) (v : VarId) → IsAstray vars s cells inside v → v.0 <
    length vars
astray-known vars s cells inside v astray = known (λ entry. IsPointerVar entry.kind) vars v.0 (astray.1).pointer

-- one number more
pub none-next : (P : ℕ → Type 0) (i : ℕ) → ((n : ℕ) → n < i → P n → ⊥) → (P i → ⊥) → (n : ℕ) → n < i + 1 → P n → ⊥
none-next P i below here n less p = elim (cases_eq n i) [
  | inl same ↦ here (subst P same p)
  | inr apart ↦ below n (omega (arith, apart)) p
]

-- variables that are astray of a part escape, and no others do
pub escapes-by : (types : List TypeEntry) (vars : List VarEntry) (s : StoreMap) (part inside : List VarId) (cells : List CellId) → IsPart types vars s part
    cells →
    ((v : VarId) × IsAstray vars s cells inside v) ↔ Escapes types vars s part inside
escapes-by types vars s part inside cells is_part = (
  (λ h. record {
    var = h.0;
    cell = (h.1).0;
    points = (h.1).1;
    wrong_side = elim ((h.1).2) [
      | inl out ↦ inl (out.0, λ g. out.1 ((is_part.members (h.1).0).1 g))
      | inr in_it ↦ inr (in_it.0, (is_part.members (h.1).0).0 in_it.1)
    ];
  }),
  (λ e. (
    e.var,
    (
      e.cell,
      e.points,
      elim e.wrong_side [
        | inl out ↦ inl (out.0, λ g. out.1 ((is_part.members e.cell).0 g))
        | inr in_it ↦ inr (in_it.0, (is_part.members e.cell).1 in_it.1)
      ],
    ),
  )),
)

-- ---- the first cause of a cut

module _ (types : List TypeEntry) (vars : List VarEntry) (cut : Cut) (s : StoreMap) where
  -- a cause is the first where nothing of a lower number is wrong
  first-cause : (why : Cause) → number_of why ≤ 9 → IsWrong types vars cut s why → (4 < number_of why → HasDanglingReference s → ⊥) →
      (5 < number_of why → HasShared types vars s → ⊥) → (6 < number_of why → HasLeaked types vars s → ⊥) → (7 < number_of why → HasWrongField types s → ⊥) →
      (8 < number_of why → EscapesAt types vars s cut → ⊥) → IsFirstCause types vars cut s why
  first-cause why most here no_reference no_shared no_leak no_field no_escape = record { here = here; before = before }
    where
      before : (other : Cause) → number_of other < number_of why → IsWrong types vars cut s other → ⊥
      before cause.Null less w = w
      before cause.Dangling less w = w
      before cause.DoubleFree less w = w
      before cause.DanglingRef less w = no_reference less w
      before cause.Shared less w = no_shared less w
      before cause.Leak less w = no_leak less w
      before cause.Field less w = no_field less w
      before cause.Escape less w = no_escape less w
      before cause.Post less w = absurd (omega arith)
      before cause.Assert less w = w
      before cause.Variant less w = w

  none : {n m : ℕ} {A : Type 0} → m ≤ n → n < m → A → ⊥
  none most less a = absurd (omega arith)

  -- a condition of the store that comes first
  pub at-fault : (fault : CutFault) → IsFirstCutFault types vars s fault → AtCut types vars cut s (Some (cause_of_fault fault))
  at-fault fault.DanglingReference h = first-cause cause.DanglingRef (omega arith) h (none (omega arith)) (none (omega arith)) (none (omega arith))
      (none (omega arith)) (none (omega arith))
  at-fault fault.Shared h = first-cause cause.Shared (omega arith) h.1 (λ l. h.0) (none (omega arith)) (none (omega arith)) (none (omega arith))
      (none (omega arith))
  at-fault fault.Leak h = first-cause cause.Leak (omega arith) h.2 (λ l. h.0) (λ l. h.1) (none (omega arith)) (none (omega arith)) (none (omega arith))
  at-fault fault.Field h = first-cause cause.Field (omega arith) h.3 (λ l. h.0) (λ l. h.1) (λ l. h.2) (none (omega arith)) (none (omega arith))

  module _ (fits : Fits types vars s) (sound : IsSound types vars s) where
    no-reference : HasDanglingReference s → ⊥
    no-reference h = no_cause types vars s fits sound (at_reference h.place h.dangling)

    no-shared : HasShared types vars s → ⊥
    no-shared h = no_cause types vars s fits sound (at_shared h.cell h.shared)

    no-leak : HasLeaked types vars s → ⊥
    no-leak h = no_cause types vars s fits sound (at_leak h.cell h.leaked)

    no-field : HasWrongField types s → ⊥
    no-field h = no_cause types vars s fits sound (at_field h.cell h.field h.wrong)

    -- a sound store whose pointers are on the wrong side
    pub at-escape : EscapesAt types vars s cut → AtCut types vars cut s (Some cause.Escape)
    at-escape h = first-cause cause.Escape (omega arith) h (λ l. no-reference) (λ l. no-shared) (λ l. no-leak) (λ l. no-field) (none (omega arith))

    -- .. on the right side, where a claim isn't met
    pub at-post : (EscapesAt types vars s cut → ⊥) → (AreMet types vars s cut.asserts → ⊥) → AtCut types vars cut s (Some cause.Post)
    at-post no_escape h = first-cause cause.Post (omega arith) h (λ l. no-reference) (λ l. no-shared) (λ l. no-leak) (λ l. no-field) (λ l. no_escape)

    -- .. and where all are
    pub at-none : (EscapesAt types vars s cut → ⊥) → AreMet types vars s cut.asserts → AtCut types vars cut s None
    at-none no_escape met cause.Null w = w
    at-none no_escape met cause.Dangling w = w
    at-none no_escape met cause.DoubleFree w = w
    at-none no_escape met cause.DanglingRef w = no-reference w
    at-none no_escape met cause.Shared w = no-shared w
    at-none no_escape met cause.Leak w = no-leak w
    at-none no_escape met cause.Field w = no-field w
    at-none no_escape met cause.Escape w = no_escape w
    at-none no_escape met cause.Post w = w met
    at-none no_escape met cause.Assert w = w
    at-none no_escape met cause.Variant w = w
