-- Where the places of a procedure's cut points are distinct, a triple that never fails has a flow that is safe.
use Rattle.std.proofs.Common.{◌≡◌, ◌≢◌, ◌==◌, ◌⊎◌, inl, inr, ℕ, zero, suc, ◌+◌, ◌<◌, Bool}
use Rattle.std.proofs.Common.{true, false, cond, not, ◌&&◌, ◌||◌, List, [], ◌∷◌, ◌++◌, flat_map}
use Rattle.std.proofs.Common.{Some, None, Result, Ok, Err, slice_get, refl, sym, ap, ap₂, ◌∙◌, subst, arith}
use Rattle.std.specs.Prelude.{option_map}
use Rattle.std.specs.List.{AllByRecursion, AllPairs}
use Rattle.std.proofs.lemmas.Bool.{false≢true}
use Rattle.std.proofs.lemmas.Option.{slice_get_within, get_or_from_slice_get, slice_get-map}
use Rattle.store_core.specs.Tables.{TypeEntry, VarEntry}
use Rattle.store_core.specs.Stores.{StoreMap}
use Rattle.store_core.proofs.FreshLemmas.{AllByRecursion-from}
use Rattle.store_core.proofs.Bodies.{AllByRecursion-at}
use Rattle.store_logic.proofs.ExpandingLists.{all-first, all-second}
use Rattle.store_exec.specs.declared.cause.Cause.{Cause}
use Rattle.store_exec.specs.declared.outcome.Outcome.TheVariants as outcome
use Rattle.store_exec.specs.declared.triple.Cut.{Cut}
use Rattle.store_exec.specs.Steps.{truth_of}
use Rattle.store_exec.specs.Cuts.{IsWrong, number_of, IsFirstCause, AtCut}
use Rattle.store_exec.specs.Failing.{Fails}
use Rattle.pale_text.specs.declared.place.Pos.{Pos}
use Rattle.pale_typed.specs.declared.typed.ProcEntry.{ProcEntry}
use Rattle.hoare_split.specs.declared.point.Point.{Point}
use Rattle.hoare_split.specs.declared.point.Point.TheVariants as point
use Rattle.hoare_split.specs.Picking.{is_left}
use Rattle.hoare_split.specs.Settings.{settings}
use Rattle.hoare_split.specs.Flows.{Arrival, Flow, ends, does, branches, is_point, is_among}
use Rattle.hoare_split.specs.Flows.{arrivals_of, first_of_each, reached_by, points_in, cuts_in, cuts_of, place_among}
use Rattle.hoare_split.specs.Cuts.{at_exit}
use Rattle.hoare_split.specs.Passages.{Started}
use Rattle.hoare_split.specs.Triples.{exit_of, starts_of, triple_of}
use Rattle.hoare_split.proofs.FlowLemmas.{AreAmong, AreAmong-first_of_each, arrivals_of-after_items}
use Rattle.whole_run.proofs.Zips.{zip_get}
use Rattle.whole_run.specs.FlowRuns.{Leading, arrives, stops, Chosen, RunsFlow}
use Rattle.whole_run.proofs.FlowLemmas.{code_back}
use Rattle.whole_run.specs.Places.{cut_places}
use Rattle.whole_run.proofs.SafeFlows.{IsSafe}
use Rattle.whole_run.proofs.Arrivals.{cut_arrivals, IsAt, all_paired, all_lead}

-- ---- a place is one of a list's places

some_same : {X : Type 0} (x y : X) → Some x ≡ Some y → x ≡ y
some_same x y e = cc

again : {X : Type 0} (x : X) (xs : List X) (j : ℕ) (y : X) → AllPairs (λ (u w : X). u ≢ w) (x ∷ xs) → Some x ≡ Some y → slice_get xs j ≡ Some y → ⊥
again x xs j y once one other =
    once 0 (suc j) y (omega arith) (let low = slice_get_within xs j y other in omega (arith, low))
    (some_same x y one ∙ sym (get_or_from_slice_get xs j y y other))

one_place : {X : Type 0} (xs : List X) (k j : ℕ) (y : X) → AllPairs (λ (u w : X). u ≢ w) xs → slice_get xs k ≡ Some y → slice_get xs j ≡ Some y → k ≡ j
one_place [] k j y once one other = absurd cc
one_place (x ∷ xs) zero zero y once one other = refl
one_place (x ∷ xs) zero (suc j) y once one other = absurd (again x xs j y once one other)
one_place (x ∷ xs) (suc k) zero y once one other = absurd (again x xs k y once other one)
one_place (x ∷ xs) (suc k) (suc j) y once one other =
    ap suc (one_place xs k j y (λ m n d low high. once (suc m) (suc n) d (omega (arith, low)) (omega (arith, high))) one other)

-- ---- points

and_both : (a b : Bool) → (a && b) ≡ true → (a ≡ true) × (b ≡ true)
and_both true b is = (refl, is)
and_both false b is = absurd (false≢true is)

same_number : (m n : ℕ) → (m == n) ≡ true → m ≡ n
same_number m n is = grind arith

same_point : (p q : Point) → is_point p q ≡ true → p ≡ q
same_point (point.At p) (point.At q) is =
    let both = and_both (p.line == q.line) (p.column == q.column) is in
    ap₂ (λ (line column : ℕ). point.At (record { line = line; column = column })) (same_number p.line q.line both.0)
    (same_number p.column q.column both.1)
same_point (point.At p) point.Exit is = absurd (false≢true is)
same_point point.Exit (point.At q) is = absurd (false≢true is)
same_point point.Exit point.Exit is = refl

-- the first arrival at a point that is among theirs
first_at : (arrivals : List Arrival) (p : Point) → is_among p (points_in arrivals) ≡ true →
    (b : Arrival) × (slice_get arrivals (place_among (points_in arrivals) p) ≡ Some b) × (is_point b.point p ≡ true)
first_at [] p is = absurd (false≢true is)
first_at (a ∷ arrivals) p is = by (first_at arrivals p) (is_point a.point p) refl is
  where
    by : (is_among p (points_in arrivals) ≡ true →
        (b : Arrival) × (slice_get arrivals (place_among (points_in arrivals) p) ≡ Some b) × (is_point b.point p ≡ true)) →
        (z : Bool) → is_point a.point p ≡ z → (z || is_among p (points_in arrivals)) ≡ true →
        (b : Arrival) × (slice_get (a ∷ arrivals) (place_among (points_in (a ∷ arrivals)) p) ≡ Some b) × (is_point b.point p ≡ true)
    by later true here among = (
      a,
      ap (λ (z : Bool). slice_get (a ∷ arrivals) (cond (not z) (1 + place_among (points_in arrivals) p) 0)) here,
      here,
    )
    by later false apart among =
        let more = later among in
        let next : 1 + place_among (points_in arrivals) p ≡ suc (place_among (points_in arrivals) p) = omega arith in (
          more.0,
          ap (λ (z : Bool). slice_get (a ∷ arrivals) (cond (not z) (1 + place_among (points_in arrivals) p) 0)) apart
              ∙ ap (slice_get (a ∷ arrivals)) next ∙ more.1,
          more.2,
        )

firsts : (P : Arrival → Type 0) (before : List Point) (arrivals : List Arrival) → AllByRecursion P arrivals → AllByRecursion P (first_of_each before arrivals)
firsts P before [] all = tt
firsts P before (a ∷ arrivals) all =
    elim (is_among a.point before) as
    (λ b. AllByRecursion P (cond b (first_of_each before arrivals) (a ∷ first_of_each (before ++ a.point ∷ []) arrivals)))
    [ true ↦ firsts P before arrivals all.1 | false ↦ (all.0, firsts P (before ++ a.point ∷ []) arrivals all.1) ]

-- ---- a flow whose arrivals at one point are one

-- two of these at one point are one
abbrev pub AreOne : (Arrival → Type 0) → Type 0
AreOne P = (a b : Arrival) → P a → P b → a.point ≡ b.point → a ≡ b

module _ (P : Arrival → Type 0) (one : AreOne P) (flow : Flow) (all : AllByRecursion P (arrivals_of flow)) where
  -- the cut of each arrival is that of its place
  own_cut : (arrivals : List Arrival) (a : Arrival) → P a → is_among a.point (points_in arrivals) ≡ true → AllByRecursion P arrivals →
      slice_get (cuts_in arrivals) (place_among (points_in arrivals) a.point) ≡ Some a.cut
  own_cut arrivals a own among each =
      let b = first_at arrivals a.point among in
      let theirs = AllByRecursion-at P arrivals (place_among (points_in arrivals) a.point) b.0 each b.1 in
      slice_get-map (λ (z : Arrival). z.cut) arrivals (place_among (points_in arrivals) a.point)
      ∙ ap (option_map (λ (z : Arrival). z.cut)) b.1
      ∙ ap (λ (z : Arrival). Some z.cut) (one b.0 a theirs own (same_point (b.0).point a.point b.2))

  all_own : (arrivals : List Arrival) → AllByRecursion P arrivals → AreAmong (points_in (reached_by flow)) arrivals →
      AllByRecursion (λ (a : Arrival). slice_get (cuts_of flow) (place_among (points_in (reached_by flow)) a.point) ≡ Some a.cut) arrivals
  all_own [] each among = tt
  all_own (a ∷ arrivals) each among =
      (own_cut (reached_by flow) a each.0 among.0 (firsts P [] (arrivals_of flow) all), all_own arrivals each.1 among.1)

  -- what leads to an arrival leads to one of the flow's
  arrival_of : (types : List TypeEntry) (Q : Arrival → Type 0) (f : Flow) → AllByRecursion Q (arrivals_of f) → (s : StoreMap) (a : Arrival) (t : StoreMap)
      (lead : Leading) → lead ≡ arrives a t → RunsFlow types f s lead → Q a
  arrival_of types Q (ends b) each s a t lead is runs = subst Q (same b a (sym runs ∙ is)) each.0
    where
      same : (b a : Arrival) → arrives b s ≡ arrives a t → b ≡ a
      same b a e = cc
  arrival_of types Q (does i rest) each s a t lead is (inl (u, ran, more)) = arrival_of types Q rest each u a t lead is more
  arrival_of types Q (does i rest) each s a t lead is (inr (fault, ran, e)) = absurd (never (sym e ∙ is))
    where
      never : stops fault.cause fault.line ≡ arrives a t → ⊥
      never e = cc
  arrival_of types Q (branches line c taken other) each s a t lead is runs =
      by (truth_of s c) (λ h. arrival_of types Q taken (all-first Q (arrivals_of taken) (arrivals_of other) each) s a t lead is h)
      (λ h. arrival_of types Q other (all-second Q (arrivals_of taken) (arrivals_of other) each) s a t lead is h) runs
    where
      by : (r : Result Bool Cause) → (RunsFlow types taken s lead → Q a) → (RunsFlow types other s lead → Q a) →
          Chosen line r (RunsFlow types taken s) (RunsFlow types other s) lead → Q a
      by (Ok true) one two h = one h
      by (Ok false) one two h = two h
      by (Err why) one two h = absurd (never (sym h ∙ is))
        where
          never : stops why line ≡ arrives a t → ⊥
          never e = cc

-- where no cause is the first, there is none
no_cause : (types : List TypeEntry) (vars : List VarEntry) (cut : Cut) (s : StoreMap) → ((why : Cause) → IsFirstCause types vars cut s why → ⊥) →
    AtCut types vars cut s None
no_cause types vars cut s none why wrong = below (suc (number_of why)) why (omega arith) wrong
  where
    below : (n : ℕ) (why : Cause) → number_of why < n → IsWrong types vars cut s why → ⊥
    below zero why less wrong = absurd (omega (arith, less))
    below (suc n) why less wrong = none why (record { here = wrong; before = λ other lower. below n other (omega (arith, less, lower)) })

module _ (types : List TypeEntry) (vars : List VarEntry) (P : Arrival → Type 0) (one : AreOne P) where
  -- a triple that never fails has a safe flow
  pub safe_of : (number : ℕ) (at : Started) → AllByRecursion P (arrivals_of at.flow) → (s : StoreMap) →
      ((why : Cause) (line : ℕ) → Fails types vars (triple_of number at) s why line → ⊥) → IsSafe types vars at.flow s
  safe_of number at all s never (stops why line) runs =
      never why line (inl (code_back types (points_in (reached_by at.flow)) at.flow s (outcome.Fail why line) (stops why line, runs, refl)))
  safe_of number at all s never (arrives a t) runs = no_cause types vars a.cut t (λ why first. never why a.cut.line (inr (record {
    place = place_among (points_in (reached_by at.flow)) a.point;
    cut = a.cut;
    store = t;
    ends = code_back types (points_in (reached_by at.flow)) at.flow s
        (outcome.End (place_among (points_in (reached_by at.flow)) a.point) t) (arrives a t, runs, refl);
    there = arrival_of P one at.flow all types
        (λ b. slice_get (cuts_of at.flow) (place_among (points_in (reached_by at.flow)) b.point) ≡ Some b.cut) at.flow
        (all_own P one at.flow all (arrivals_of at.flow) all (AreAmong-first_of_each [] (arrivals_of at.flow))) s a t (arrives a t) refl runs;
    first = first;
    at_line = refl;
  })))

-- ---- a procedure whose cut points stand at distinct places

module _ (procs : List ProcEntry) (e : ProcEntry) (distinct : AllPairs (λ (p q : Pos). p ≢ q) (flat_map cut_places e.proc.body)) where
  abbrev own_arrivals : List Arrival
  own_arrivals = flat_map (cut_arrivals procs e.vars) e.proc.body

  abbrev own_places : List Pos
  own_places = flat_map cut_places e.proc.body

  -- the arrival at its exit
  abbrev last : Arrival
  last = at_exit e.proc.last e.proc.post

  -- an arrival at a cut point of its text
  pub record IsInText (a : Arrival) : Type 0 where
    pub index : ℕ
    pub place : Pos
    pub there : slice_get own_arrivals index ≡ Some a
    pub its_place : slice_get own_places index ≡ Some place
    pub at : a.point ≡ point.At place

  abbrev pub IsOwn : Arrival → Type 0
  IsOwn a = IsInText a ⊎ (a ≡ last)

  never_exit : (p : Pos) (q : Point) → q ≡ point.At p → q ≡ point.Exit → ⊥
  never_exit p q is isnt = apart (sym is ∙ isnt)
    where
      apart : point.At p ≡ point.Exit → ⊥
      apart e = cc

  at_same : (p q : Pos) → point.At p ≡ point.At q → p ≡ q
  at_same p q e = cc

  pub own_are_one : AreOne IsOwn
  own_are_one a b (inl h) (inl k) same =
      let places : h.place ≡ k.place = at_same h.place k.place (sym h.at ∙ same ∙ k.at) in
      let index = one_place own_places h.index k.index k.place distinct (h.its_place ∙ ap (λ p. Some p) places) k.its_place in
      some_same a b (sym h.there ∙ ap (slice_get own_arrivals) index ∙ k.there)
  own_are_one a b (inl h) (inr k) same = absurd (never_exit h.place a.point h.at (same ∙ ap (λ (z : Arrival). z.point) k))
  own_are_one a b (inr h) (inl k) same = absurd (never_exit k.place b.point k.at (sym same ∙ ap (λ (z : Arrival). z.point) h))
  own_are_one a b (inr h) (inr k) same = h ∙ sym k

  in_text : AllByRecursion IsOwn own_arrivals
  in_text = AllByRecursion-from IsOwn own_arrivals (λ i a at.
      let got = zip_get (IsAt procs e.vars) own_arrivals own_places i a (all_paired procs e.vars (λ z. Unit {0}) e.proc.body) at in
      inl (record { index = i; place = got.0; there = at; its_place = got.1; at = got.2 }))

  at_last : AllByRecursion IsOwn (arrivals_of (exit_of e.vars e.proc))
  at_last = subst (AllByRecursion IsOwn) (sym (arrivals_of-after_items (settings e.vars (is_left e.proc) e.proc.last) (ends last))) (inr refl, tt)

  -- the flows of its triples arrive at them alone
  pub starts_own : AllByRecursion (λ (at : Started). AllByRecursion IsOwn (arrivals_of at.flow)) (starts_of procs e)
  starts_own =
      let leads = all_lead procs e.vars IsOwn e.proc.body in_text in
      (leads.flow (exit_of e.vars e.proc) at_last, leads.starts (exit_of e.vars e.proc) at_last)
