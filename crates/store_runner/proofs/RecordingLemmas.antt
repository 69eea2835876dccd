-- What is recorded, one thing after another.
use Rattle.std.proofs.Common.{◌≡◌, ◌+◌, ◌<◌, ◌≤◌, ℕ, Bool, true, false, List, [], ◌∷◌, ◌++◌, length, flat_map, Option, is_some, if◌then◌else◌}
use Rattle.std.proofs.Common.{Result, Ok, Err, refl, sym, ap, ap₂, ◌∙◌, subst, arith}
use Rattle.std.specs.Borrow.{Bor}
use Rattle.std.proofs.lemmas.List.{append_assoc}
use Rattle.std.proofs.lemmas.List.Sums.{sum_by-cons}
use Rattle.store_core.specs.Tables.{TypeEntry}
use Rattle.store_core.specs.Stores.{StoreMap}
use Rattle.store_logic.specs.declared.act.Act.{Act}
use Rattle.store_logic.specs.declared.cond.Cond.{Cond}
use Rattle.store_exec.specs.declared.fault.Fault.{Fault}
use Rattle.store_exec.specs.declared.code.Item.{Item}
use Rattle.store_exec.specs.declared.code.Item.TheVariants as item
use Rattle.store_exec.specs.Steps.{truth_of, Step}
use Rattle.store_exec.specs.Going.{CanRun, left_over, weight_of_items, weight_left}
use Rattle.store_exec.proofs.GoingLemmas.{CanRun-Do, CanRun-If, weight-Do, weight-If}
use Rattle.store_trace.specs.declared.event.Event.{Event}
use Rattle.store_trace.specs.declared.event.Event.TheVariants as event
use Rattle.store_trace.specs.Recording.{recorded}
use Rattle.store_trace.specs.Showing.{events_of}
use Rattle.store_trace.specs.Tracing.{Tracing, Does, TracesItems}
use Rattle.store_trace.proofs.RecordedLemmas.{recorded-none, recorded-then, recorded-off}
use Rattle.store_trace.proofs.TraceLemmas.{Do-goes, Do-stops, If-true, If-false, If-stops}
use Rattle.store_runner.specs.Recordings.{DoesWell, Records, Chooses, GoesOn, ItemsGoOn, Enters}

-- ---- what is left

-- all is left at the start
pub goes-start : {X : Type 0} (Whole : Tracing X) (s : StoreMap) (before : Option (List Event)) → GoesOn X Whole Whole s before s before
goes-start Whole s before = record { shown = []; kept = sym (recorded-none before); goes = λ later u end h. h }

pub goes-then : {X : Type 0} (Whole Mid Rest : Tracing X) (s t u : StoreMap) (before here now : Option (List Event)) →
    GoesOn X Whole Mid s before t here → GoesOn X Mid Rest t here u now → GoesOn X Whole Rest s before u now
goes-then Whole Mid Rest s t u before here now one two = record {
  shown = one.shown ++ two.shown;
  kept = two.kept ∙ ap (λ (o : Option (List Event)). recorded o two.shown) one.kept ∙ recorded-then before one.shown two.shown;
  goes = λ later w end h. subst (λ (l : List Event). Whole s l w end) (sym (append_assoc one.shown two.shown later))
      (one.goes (two.shown ++ later) w end (two.goes later w end h));
}

-- where the rest is traced, so is the whole
pub goes-end : {X : Type 0} (Whole Rest : Tracing X) (s t u : StoreMap) (before here now : Option (List Event)) (later : List Event)
    (end : Result X Fault) → GoesOn X Whole Rest s before t here → Rest t later u end → now ≡ recorded here later →
    (shown : List Event) × Whole s shown u end × (now ≡ recorded before shown)
goes-end Whole Rest s t u before here now later end one h is = (
  one.shown ++ later,
  one.goes later u end h,
  is ∙ ap (λ (o : Option (List Event)). recorded o later) one.kept ∙ recorded-then before one.shown later,
)

no-items : (rest : List Item) → length rest ≡ 0 → rest ≡ []
no-items [] none = refl
no-items (i ∷ rest) none = absurd (omega (arith, none))

-- where nothing is left all is done
pub items-done : (types : List TypeEntry) (items rest : List Item) (waiting : List (Bor (List Item))) (s t : StoreMap) (before now : Option (List Event)) →
    ItemsGoOn types items s before (left_over rest waiting) t now → length rest ≡ 0 → waiting ≡ [] →
    (shown : List Event) × TracesItems types items s shown t (Ok tt) × (now ≡ recorded before shown)
items-done types items rest waiting s t before now one none no_more =
    let left : left_over rest waiting ≡ [] = ap₂ (λ (xs : List Item) (ws : List (Bor (List Item))). left_over xs ws) (no-items rest none) no_more in
    goes-end (TracesItems types items) (TracesItems types []) s t t before now now [] (Ok tt)
    (subst (λ (xs : List Item). ItemsGoOn types items s before xs t now) left one) (refl, refl, refl) (sym (recorded-none now))

-- a recorder that is asked and is off
pub off-by : (is_on : Bool) (kept : Option (List Event)) → is_on ≡ is_some kept → is_on ≡ false → is_some kept ≡ false
off-by is_on kept told off = sym told ∙ off

-- ---- acts

module _ (types : List TypeEntry) (line : ℕ) (a : Act) (s t : StoreMap) where
  -- nothing is recorded
  pub silent : {E : Type 0} (before : Option (List Event)) (r : Result (Result (Unit {0}) Fault) E) → is_some before ≡ false →
      DoesWell types line a s t r → Records (Does types line a) s t before before r
  silent before (Ok (Ok x)) off h = (events_of types line s a, (h, refl), recorded-off before (events_of types line s a) off)
  silent before (Ok (Err fault)) off h = ([], (h.0, h.1, h.2, refl), sym (recorded-none before))
  silent before (Err e) off h = tt

  -- what was shown is
  pub loud : (before now : Option (List Event)) (shown : List Event) → Step types s a (Ok t) → shown ≡ events_of types line s a →
      now ≡ recorded before shown → (l : List Event) × Does types line a s l t (Ok tt) × (now ≡ recorded before l)
  loud before now shown step is kept = (shown, (step, is), kept)

  pub loud-fault : (before : Option (List Event)) (fault : Fault) → Step types s a (Err fault.cause) × (fault.line ≡ line) × (t ≡ s) →
      (l : List Event) × Does types line a s l t (Err fault) × (before ≡ recorded before l)
  loud-fault before fault h = ([], (h.0, h.1, h.2, refl), sym (recorded-none before))

-- ---- entering an item

module _ (types : List TypeEntry) (s : StoreMap) (more : List Item) (waiting : List (Bor (List Item))) (i : Item)
    (can : CanRun types s (i ∷ left_over more waiting)) (before now : Option (List Event)) where
  abbrev rest : List Item
  rest = left_over more waiting

  ready : (line : ℕ) (a : Act) → i ≡ item.Do line a → CanRun types s (item.Do line a ∷ rest)
  ready line a is = subst (λ (j : Item). CanRun types s (j ∷ rest)) is can

  pub Do-next : {E : Type 0} (line : ℕ) (a : Act) → i ≡ item.Do line a → (t : StoreMap) (r : Result (Result (Unit {0}) Fault) E) →
      Records (Does types line a) s t before now r → (x : Unit {0}) → r ≡ Ok (Ok x) →
      ItemsGoOn types (i ∷ rest) s before rest t now × CanRun types t rest × (weight_left more waiting < weight_left (i ∷ more) waiting)
  Do-next line a is t r done x ends =
      let it = subst (Records (Does types line a) s t before now) ends done in
      let own = weight-Do line a more in let same = ap (λ (j : Item). weight_of_items (j ∷ more)) is in (
        record {
          shown = events_of types line s a;
          kept = it.2 ∙ ap (λ (l : List Event). recorded before l) it.1.1;
          goes = λ later u end h. subst (λ (j : Item). TracesItems types (j ∷ rest) s (events_of types line s a ++ later) u end) (sym is)
              (Do-goes types line a rest s t it.1.0 later u end h);
        },
        CanRun-Do types s line a rest t (ready line a is) it.1.0,
        omega (arith, own, same),
      )

  pub Do-fault : {E : Type 0} (line : ℕ) (a : Act) → i ≡ item.Do line a → (t : StoreMap) (r : Result (Result (Unit {0}) Fault) E) →
      Records (Does types line a) s t before now r → (fault : Fault) → r ≡ Ok (Err fault) →
      (shown : List Event) × TracesItems types (i ∷ rest) s shown t (Err fault) × (now ≡ recorded before shown)
  Do-fault line a is t r done fault ends =
      let it = subst (Records (Does types line a) s t before now) ends done in (
        [],
        subst (λ (j : Item). TracesItems types (j ∷ rest) s [] t (Err fault)) (sym is)
            (subst (λ (u : StoreMap). TracesItems types (item.Do line a ∷ rest) s [] u (Err fault)) (sym it.1.2)
            (Do-stops types line a rest s fault it.1.0 it.1.1)),
        it.2 ∙ ap (λ (l : List Event). recorded before l) it.1.3,
      )

  pub If-entered : {E : Type 0} (line : ℕ) (c : Cond) (taken other : List Item) → i ≡ item.If line c taken other → (behind : Bor (List Item)) →
      behind.now ≡ more → (stack : List (Bor (List Item))) → stack ≡ behind ∷ waiting → (r : Result (Result (Bor (List Item)) Fault) E) →
      Chooses s line c taken other before now r → Enters types (i ∷ rest) s before (weight_left (i ∷ more) waiting) s stack now r
  If-entered line c taken other is behind same stack pushed (Err e) chosen = tt
  If-entered line c taken other is behind same stack pushed (Ok (Err fault)) chosen = (
    [],
    subst (λ (j : Item). TracesItems types (j ∷ rest) s [] s (Err fault)) (sym is)
        (If-stops types line c taken other rest s fault chosen.0 chosen.1),
    chosen.2 ∙ sym (recorded-none before),
  )
  If-entered line c taken other is behind same stack pushed (Ok (Ok next)) chosen = by chosen.0 chosen.1 chosen.2 chosen.3
    where
      can_if : CanRun types s (taken ++ rest) × CanRun types s (other ++ rest)
      can_if = CanRun-If types s line c taken other rest (subst (λ (j : Item). CanRun types s (j ∷ rest)) is can)

      -- what is left, by the chosen list
      left : (list : List Item) → next.now ≡ list → list ++ rest ≡ left_over next.now stack
      left list e = ap (λ (xs : List Item). list ++ (xs ++ flat_map (λ (w : Bor (List Item)). w.now) waiting)) (sym same)
          ∙ ap₂ (λ (xs : List Item) (ws : List (Bor (List Item))). left_over xs ws) (sym e) (sym pushed)

      lighter : (list : List Item) → next.now ≡ list → weight_of_items list ≤ weight_of_items taken + weight_of_items other →
          weight_left next.now stack < weight_left (i ∷ more) waiting
      lighter list e light =
          let here : weight_left next.now stack ≡ weight_left list (behind ∷ waiting) =
          ap₂ (λ (xs : List Item) (ws : List (Bor (List Item))). weight_left xs ws) e pushed in
          let back : weight_of_items behind.now ≡ weight_of_items more = ap weight_of_items same in
          let own : weight_of_items (i ∷ more) ≡ (weight_of_items taken + weight_of_items other + 2) + weight_of_items more =
          ap (λ (j : Item). weight_of_items (j ∷ more)) is ∙ weight-If line c taken other more in
          let behind_counts = sum_by-cons (λ (w : Bor (List Item)). weight_of_items w.now + 1) behind waiting in
          let list_is : weight_of_items next.now ≡ weight_of_items list = ap weight_of_items e in
          omega (arith, light, here, back, own, behind_counts, list_is)

      entered : (truth : Bool) (list : List Item) → next.now ≡ list → now ≡ recorded before (event.Truth line truth ∷ []) →
          ((later : List Event) (u : StoreMap) (end : Result (Unit {0}) Fault) → TracesItems types (list ++ rest) s later u end →
          TracesItems types (item.If line c taken other ∷ rest) s (event.Truth line truth ∷ later) u end) →
          CanRun types s (list ++ rest) → weight_of_items list ≤ weight_of_items taken + weight_of_items other →
          ItemsGoOn types (i ∷ rest) s before (left_over next.now stack) s now × CanRun types s (left_over next.now stack)
          × (weight_left next.now stack < weight_left (i ∷ more) waiting)
      entered truth list e kept goes can_run light = (
        record {
          shown = event.Truth line truth ∷ [];
          kept = kept;
          goes = λ later u end h. subst (λ (j : Item). TracesItems types (j ∷ rest) s (event.Truth line truth ∷ later) u end) (sym is)
              (goes later u end (subst (λ (xs : List Item). TracesItems types xs s later u end) (sym (left list e)) h));
        },
        subst (CanRun types s) (left list e) can_run,
        lighter list e light,
      )

      by : (truth : Bool) → truth_of s c ≡ Ok truth → next.now ≡ (if truth then taken else other) → now ≡ recorded before (event.Truth line truth ∷ []) →
          ItemsGoOn types (i ∷ rest) s before (left_over next.now stack) s now × CanRun types s (left_over next.now stack)
          × (weight_left next.now stack < weight_left (i ∷ more) waiting)
      by true told e kept = entered true taken e kept (If-true types line c taken other rest s told) can_if.0 (omega arith)
      by false told e kept = entered false other e kept (If-false types line c taken other rest s told) can_if.1 (omega arith)
