-- What can be run goes on, item by item.
use Rattle.std.proofs.Common.{◌≡◌, ℕ, ◌+◌, ◌<◌, ◌≤◌, Bool, true, false, cond, if◌then◌else◌, is_some, List, [], ◌∷◌, ◌++◌, map, sum_by, flat_map}
use Rattle.std.proofs.Common.{Some, None, Result, Ok, Err, refl, sym, ap, ap₂, ◌∙◌, subst, arith}
use mathlib.Core.Path.{transport}
use Rattle.std.specs.Borrow.{Bor}
use Rattle.std.specs.List.{AllByRecursion}
use Rattle.std.proofs.lemmas.List.Sums.{sum_by-cons, sum_by-append}
use Rattle.store_core.specs.declared.ids.FieldId.{FieldId}
use Rattle.store_core.specs.declared.ids.VarId.{VarId}
use Rattle.store_core.specs.declared.ids.CellId.{CellId}
use Rattle.store_core.specs.declared.value.Value.{Value}
use Rattle.store_core.specs.declared.value.Value.TheVariants as value
use Rattle.store_core.specs.Tables.{TypeEntry, VarEntry}
use Rattle.store_core.specs.Stores.{StoreMap, cell_of, field_value, put_cell, set_field, set_var, remove_cell}
use Rattle.store_logic.specs.declared.act.Rhs.{Rhs}
use Rattle.store_logic.specs.declared.act.Rhs.TheVariants as rhs
use Rattle.store_logic.specs.declared.act.Act.{Act}
use Rattle.store_logic.specs.declared.act.Act.TheVariants as act
use Rattle.store_logic.specs.declared.cond.Cond.{Cond}
use Rattle.store_logic.specs.FitsCode.{CondFits, ActFits, RhsFits}
use Rattle.store_logic.specs.Sorts.{Sort}
use Rattle.store_exec.specs.declared.cause.Cause.{Cause}
use Rattle.store_exec.specs.declared.cause.Cause.TheVariants as cause
use Rattle.store_exec.specs.declared.fault.Fault.{Fault}
use Rattle.store_exec.specs.declared.code.Item.{Item, roll-Item}
use Rattle.store_exec.specs.declared.code.Item.TheVariants as item
use Rattle.store_exec.specs.declared.code.Item.TheVariants.{rolls-Do, rolls-If}
use Rattle.store_exec.specs.declared.code.Item.TheOpen.{Item-F}
use Rattle.store_exec.specs.declared.code.Item.TheFolds.{rec-roll-Item, fold-roll-Item, fold-Item, map-Item}
use Rattle.store_exec.specs.Steps.{and_then, made_of, cell_through, operand_value, truth_of, evaluated, written, field_written, last_step, variable}
use Rattle.store_exec.specs.Steps.{assigned, freed, Step}
use Rattle.store_exec.specs.Ready.{IsKnownRhs, IsReady}
use Rattle.store_exec.specs.Fits.{ItemFitsNode, ItemFits, ItemsFit, news_of_rhs, news_of_act, news_node, news_of_item, news_of}
use Rattle.store_exec.specs.Runs.{Ending, ByTruth, RunsItems}
use Rattle.store_exec.specs.Going.{CanRun, GoesOn, IsDone, IsChosen, Enters, left_over, weight_node, weight_of_items, weight_left}
use Rattle.store_exec.proofs.RunLemmas.{If-goes, If-stops, Do-goes, Do-stops}
use Rattle.store_exec.proofs.SortLemmas.{ok-one, err-ok}
use Rattle.store_exec.proofs.KeepLemmas.{place-takes, Step-keeps}

-- ---- items that fit

all-map : {Part X : Type 0} (whole : Part → X) (P : X → Type 0) (parts : List Part) → AllByRecursion (λ p. P (whole p)) parts ≡ AllByRecursion P
    (map whole parts)
all-map whole P [] = refl
all-map whole P (part ∷ parts) = ap (λ (M : Type 0). P (whole part) × M) (all-map whole P parts)

module _ (types : List TypeEntry) (vars : List VarEntry) where
  natural : (Part : Type 0) (whole : Part → Item) (fits : Item → Type 0) (x : Item-F Part) →
      ItemFitsNode types vars Part whole (λ p. fits (whole p)) x ≡ ItemFitsNode types vars Item (λ i. i) fits (map-Item Part Item whole x)
  natural Part whole fits (Item-F.Do line a) = refl
  natural Part whole fits (Item-F.If line c taken other) =
      ap₂ (λ (M N : Type 0). CondFits types vars c × M × N) (all-map whole fits taken) (all-map whole fits other)

  ItemFits-roll : (x : Item-F Item) → ItemFits types vars (roll-Item x) ≡ ItemFitsNode types vars Item (λ i. i) (ItemFits types vars) x
  ItemFits-roll = rec-roll-Item (Type 0) (ItemFitsNode types vars) natural

  pub ItemFits-Do : (line : ℕ) (a : Act) → ItemFits types vars (item.Do line a) → ActFits types vars a
  ItemFits-Do line a = transport (λ i. (ap (ItemFits types vars) (sym (rolls-Do line a)) ∙ ItemFits-roll (Item-F.Do line a)) i)

  pub ItemFits-If : (line : ℕ) (c : Cond) (taken other : List Item) → ItemFits types vars (item.If line c taken other) →
      CondFits types vars c × ItemsFit types vars taken × ItemsFit types vars other
  ItemFits-If line c taken other =
      transport (λ i. (ap (ItemFits types vars) (sym (rolls-If line c taken other)) ∙ ItemFits-roll (Item-F.If line c taken other)) i)

all-append : {X : Type 0} (P : X → Type 0) (xs ys : List X) → AllByRecursion P xs → AllByRecursion P ys → AllByRecursion P (xs ++ ys)
all-append P [] ys h g = g
all-append P (x ∷ xs) ys h g = (h.0, all-append P xs ys h.1 g)

-- ---- counts

sum-each : {X : Type 0} (f : X → ℕ) (xs : List X) → sum_by (λ n. n) (map f xs) ≡ sum_by f xs
sum-each f [] = refl
sum-each f (x ∷ xs) = sum_by-cons (λ n. n) (f x) (map f xs) ∙ ap (λ (n : ℕ). f x + n) (sum-each f xs) ∙ sym (sum_by-cons f x xs)

pub news-Do : (line : ℕ) (a : Act) → news_of_item (item.Do line a) ≡ news_of_act a
news-Do line a = ap news_of_item (sym (rolls-Do line a)) ∙ fold-roll-Item ℕ news_node (Item-F.Do line a)

pub news-If : (line : ℕ) (c : Cond) (taken other : List Item) → news_of_item (item.If line c taken other) ≡ news_of taken + news_of other
news-If line c taken other = ap news_of_item (sym (rolls-If line c taken other)) ∙ fold-roll-Item ℕ news_node (Item-F.If line c taken other)
    ∙ ap₂ (λ (m n : ℕ). m + n) (sum-each news_of_item taken) (sum-each news_of_item other)

pub weight_of_item : Item → ℕ
weight_of_item = fold-Item ℕ weight_node

pub weight-Do : (line : ℕ) (a : Act) (rest : List Item) → weight_of_items (item.Do line a ∷ rest) ≡ 1 + weight_of_items rest
weight-Do line a rest = sum_by-cons (fold-Item ℕ weight_node) (item.Do line a) rest ∙ ap (λ (n : ℕ). n + weight_of_items rest)
    (ap (fold-Item ℕ weight_node) (sym (rolls-Do line a)) ∙ fold-roll-Item ℕ weight_node (Item-F.Do line a))

pub weight-If : (line : ℕ) (c : Cond) (taken other rest : List Item) →
    weight_of_items (item.If line c taken other ∷ rest) ≡ (weight_of_items taken + weight_of_items other + 2) + weight_of_items rest
weight-If line c taken other rest = sum_by-cons (fold-Item ℕ weight_node) (item.If line c taken other) rest ∙ ap (λ (n : ℕ). n + weight_of_items rest)
    (ap (fold-Item ℕ weight_node) (sym (rolls-If line c taken other)) ∙ fold-roll-Item ℕ weight_node (Item-F.If line c taken other)
    ∙ ap₂ (λ (m n : ℕ). m + n + 2) (sum-each (fold-Item ℕ weight_node) taken) (sum-each (fold-Item ℕ weight_node) other))

-- ---- the next number

module _ (types : List TypeEntry) (s : StoreMap) where
  evaluated-next : (x : Rhs) (t : StoreMap) (y : Value) → evaluated types s x ≡ Ok (t, y) → t.next ≤ s.next + news_of_rhs x
  evaluated-next (rhs.Cell p) t y e = by (operand_value s p) e
    where
      by : (r : Result Value Cause) → made_of {Y = StoreMap × Value} (λ z. (s, z)) r ≡ Ok (t, y) → t.next ≤ s.next + 0
      by (Err why) g = err-ok why g
      by (Ok z) g = let is : s.next ≡ t.next = ap (λ (got : StoreMap × Value). (got.0).next) (ok-one (s, z) (t, y) g) in omega (arith, is)
  evaluated-next (rhs.New v) t y e =
      let is : s.next + 1 ≡ t.next = ap (λ (got : StoreMap × Value). (got.0).next)
      (ok-one (put_cell s types v, value.Cell (Some (record { 0 = s.next }))) (t, y) e) in omega (arith, is)
  evaluated-next (rhs.Truth c) t y e = by (truth_of s c) e
    where
      by : (r : Result Bool Cause) → made_of {Y = StoreMap × Value} (λ truth. (s, value.Bool truth)) r ≡ Ok (t, y) → t.next ≤ s.next + 0
      by (Err why) g = err-ok why g
      by (Ok truth) g = let is : s.next ≡ t.next = ap (λ (got : StoreMap × Value). (got.0).next) (ok-one (s, value.Bool truth) (t, y) g) in omega (arith, is)

  written-next : (u t : StoreMap) (x : Value) (f : FieldId) (y : Value) → written u x f y ≡ Ok t → t.next ≡ u.next
  written-next u t x f y e = by (cell_through u x) e
    where
      at : (c : CellId) (b : Bool) → cond b (Ok (set_field u c f y)) (Err cause.Variant) ≡ Ok t → t.next ≡ u.next
      at c false g = err-ok cause.Variant g
      at c true g = sym (ap (λ (v : StoreMap). v.next) (ok-one (set_field u c f y) t g))

      by : (r : Result CellId Cause) → and_then (field_written u f y) r ≡ Ok t → t.next ≡ u.next
      by (Err why) g = err-ok why g
      by (Ok c) g = at c (is_some (field_value u c f)) g

  assigned-next : (v : VarId) (fields : List FieldId) (x : Rhs) (t : StoreMap) → assigned types s v fields x ≡ Ok t → t.next ≤ s.next + news_of_rhs x
  assigned-next v [] x t e = by (evaluated types s x) refl e
    where
      by : (r : Result (StoreMap × Value) Cause) → evaluated types s x ≡ r → made_of (λ got. set_var got.0 v got.1) r ≡ Ok t → t.next ≤ s.next + news_of_rhs x
      by (Err why) is g = err-ok why g
      by (Ok got) is g = let before = evaluated-next x got.0 got.1 is in
          let same : (got.0).next ≡ t.next = ap (λ (u : StoreMap). u.next) (ok-one (set_var got.0 v got.1) t g) in omega (arith, before, same)
  assigned-next v (f ∷ fields) x t e = by_step (last_step s (variable s v) f fields) e
    where
      by : (step : Value × FieldId) (r : Result (StoreMap × Value) Cause) → evaluated types s x ≡ r → and_then (λ got. written got.0 step.0 step.1 got.1) r ≡ Ok
          t →
          t.next ≤ s.next + news_of_rhs x
      by step (Err why) is g = err-ok why g
      by step (Ok got) is g = let before = evaluated-next x got.0 got.1 is in
          let same = written-next got.0 t step.0 step.1 got.1 g in omega (arith, before, same)

      by_step : (r : Result (Value × FieldId) Cause) → and_then (λ step. and_then (λ got. written got.0 step.0 step.1 got.1) (evaluated types s x)) r ≡ Ok t →
          t.next ≤ s.next + news_of_rhs x
      by_step (Err why) g = err-ok why g
      by_step (Ok step) g = by step (evaluated types s x) refl g

  pub Step-next : (a : Act) (t : StoreMap) → Step types s a (Ok t) → t.next ≤ s.next + news_of_act a
  Step-next (act.Assign p x) t e = assigned-next p.var p.fields x t e
  Step-next (act.Free v) t e = by (variable s v) e
    where
      at : (c : CellId) (b : Bool) → cond b (Ok (remove_cell s c)) (Err cause.DoubleFree) ≡ Ok t → t.next ≤ s.next + 0
      at c false g = err-ok cause.DoubleFree g
      at c true g = let same : s.next ≡ t.next = ap (λ (u : StoreMap). u.next) (ok-one (remove_cell s c) t g) in omega (arith, same)

      by : (y : Value) → freed s y ≡ Ok t → t.next ≤ s.next + 0
      by (value.Bool truth) g = err-ok cause.Null g
      by (value.Cell None) g = err-ok cause.Null g
      by (value.Cell (Some c)) g = at c (is_some (cell_of s c)) g
      by (value.Cells cells) g = err-ok cause.Null g
  Step-next (act.Assert a) t e = let same : t.next ≡ s.next = ap (λ (u : StoreMap). u.next) e.0 in omega (arith, same)

-- ---- what can be run

module _ (types : List TypeEntry) (s : StoreMap) where
  pub CanRun-ready : (line : ℕ) (a : Act) (rest : List Item) → CanRun types s (item.Do line a ∷ rest) → IsReady types s a
  CanRun-ready line (act.Assign p x) rest can = let fit = ItemFits-Do types can.vars line (act.Assign p x) can.items_fit.0 in
      (known x fit.0 fit.2 room, place-takes types can.vars s can.fits can.fresh p fit.0 x fit.1 fit.2)
    where
      room : s.next + news_of_rhs x < 4294967295
      room = let all = can.room in let own = news-Do line (act.Assign p x) in let whole = sum_by-cons news_of_item (item.Do line (act.Assign p x)) rest in omega
          (arith, all, own, whole)

      known : (y : Rhs) (sort : Sort) → RhsFits types can.vars y sort → s.next + news_of_rhs y < 4294967295 → IsKnownRhs types s y
      known (rhs.Cell q) sort h r = tt
      known (rhs.New v) sort h r = (h.0, omega (arith, r))
      known (rhs.Truth c) sort h r = tt
  CanRun-ready line (act.Free v) rest can = tt
  CanRun-ready line (act.Assert a) rest can = tt

  pub CanRun-Do : (line : ℕ) (a : Act) (rest : List Item) (t : StoreMap) → CanRun types s (item.Do line a ∷ rest) → Step types s a (Ok t) → CanRun types t rest
  CanRun-Do line a rest t can step = let well = Step-keeps types can.vars s can.fits can.fresh a t (ItemFits-Do types can.vars line a can.items_fit.0) step in
      record {
        vars = can.vars;
        fits = well.fits;
        fresh = well.fresh;
        items_fit = can.items_fit.1;
        room = let all = can.room in let own = news-Do line a in let next = Step-next types s a t step in let whole = sum_by-cons news_of_item (item.Do line a)
            rest in omega (arith, all, own, next, whole);
      }

  pub CanRun-If : (line : ℕ) (c : Cond) (taken other rest : List Item) → CanRun types s (item.If line c taken other ∷ rest) →
      CanRun types s (taken ++ rest) × CanRun types s (other ++ rest)
  CanRun-If line c taken other rest can = let fit = ItemFits-If types can.vars line c taken other can.items_fit.0 in (
    record {
      vars = can.vars;
      fits = can.fits;
      fresh = can.fresh;
      items_fit = all-append (ItemFits types can.vars) taken rest fit.1 can.items_fit.1;
      room = let all = can.room in let own = news-If line c taken other in let both = sum_by-append news_of_item taken rest in let whole = sum_by-cons
          news_of_item (item.If line c taken other) rest in omega (arith, all, own, both, whole);
    },
    record {
      vars = can.vars;
      fits = can.fits;
      fresh = can.fresh;
      items_fit = all-append (ItemFits types can.vars) other rest fit.2 can.items_fit.1;
      room = let all = can.room in let own = news-If line c taken other in let both = sum_by-append news_of_item other rest in let whole = sum_by-cons
          news_of_item (item.If line c taken other) rest in omega (arith, all, own, both, whole);
    },
  )

-- ---- entering an item

module _ (types : List TypeEntry) (s : StoreMap) (more : List Item) (waiting : List (Bor (List Item))) (i : Item)
    (can : CanRun types s (i ∷ left_over more waiting)) where
  ready : (line : ℕ) (a : Act) → i ≡ item.Do line a → CanRun types s (item.Do line a ∷ left_over more waiting)
  ready line a is = subst (λ (j : Item). CanRun types s (j ∷ left_over more waiting)) is can

  pub Do-ready : (line : ℕ) (a : Act) → i ≡ item.Do line a → IsReady types s a
  Do-ready line a is = CanRun-ready types s line a (left_over more waiting) (ready line a is)

  pub Do-next : {E : Type 0} (line : ℕ) (a : Act) → i ≡ item.Do line a → (t : StoreMap) (r : Result (Result (Unit {0}) Fault) E) → IsDone types s line a t r →
      (x : Unit {0}) → r ≡ Ok (Ok x) →
      GoesOn types (i ∷ left_over more waiting) s (left_over more waiting) t × CanRun types t (left_over more waiting)
      × (weight_left more waiting < weight_left (i ∷ more) waiting)
  Do-next line a is t r done x ends = let step = subst (IsDone types s line a t) ends done in
      let own = weight-Do line a more in let same = ap (λ (j : Item). weight_of_items (j ∷ more)) is in (
        (λ end h. subst (λ (j : Item). RunsItems types (j ∷ left_over more waiting) s end) (sym is)
            (Do-goes types line a (left_over more waiting) s t step end h)),
        CanRun-Do types s line a (left_over more waiting) t (ready line a is) step,
        omega (arith, own, same),
      )

  pub Do-fault : {E : Type 0} (line : ℕ) (a : Act) → i ≡ item.Do line a → (t : StoreMap) (r : Result (Result (Unit {0}) Fault) E) → IsDone types s line a t r →
      (fault : Fault) → r ≡ Ok (Err fault) → RunsItems types (i ∷ left_over more waiting) s (Err fault)
  Do-fault line a is t r done fault ends = let stopped = subst (IsDone types s line a t) ends done in
      subst (λ (j : Item). RunsItems types (j ∷ left_over more waiting) s (Err fault)) (sym is)
      (Do-stops types line a (left_over more waiting) s fault stopped.0 stopped.1)

  pub If-entered : {E : Type 0} (line : ℕ) (c : Cond) (taken other : List Item) → i ≡ item.If line c taken other → (behind : Bor (List Item)) → behind.now ≡
      more →
      (stack : List (Bor (List Item))) → stack ≡ behind ∷ waiting → (r : Result (Result (Bor (List Item)) Fault) E) → IsChosen s line c taken other r →
      Enters types (i ∷ left_over more waiting) s (weight_left (i ∷ more) waiting) s stack r
  If-entered line c taken other is behind same stack pushed (Err e) chosen = tt
  If-entered line c taken other is behind same stack pushed (Ok (Err fault)) chosen =
      subst (λ (j : Item). RunsItems types (j ∷ left_over more waiting) s (Err fault)) (sym is)
      (If-stops types line c taken other (left_over more waiting) s fault chosen.0 chosen.1)
  If-entered line c taken other is behind same stack pushed (Ok (Ok next)) chosen = by chosen.0 chosen.1 chosen.2
    where
      can_if : CanRun types s (taken ++ left_over more waiting) × CanRun types s (other ++ left_over more waiting)
      can_if = CanRun-If types s line c taken other (left_over more waiting) (subst (λ (j : Item). CanRun types s (j ∷ left_over more waiting)) is can)

      -- what is left, by the chosen list
      left : (chosen : List Item) → next.now ≡ chosen → chosen ++ left_over more waiting ≡ left_over next.now stack
      left chosen e = ap (λ (xs : List Item). chosen ++ (xs ++ flat_map (λ (w : Bor (List Item)). w.now) waiting)) (sym same)
          ∙ ap₂ (λ (xs : List Item) (ws : List (Bor (List Item))). left_over xs ws) (sym e) (sym pushed)

      lighter : (chosen : List Item) → next.now ≡ chosen → weight_of_items chosen ≤ weight_of_items taken + weight_of_items other →
          weight_left next.now stack < weight_left (i ∷ more) waiting
      lighter chosen e light =
          let now : weight_left next.now stack ≡ weight_left chosen (behind ∷ waiting) =
          ap₂ (λ (xs : List Item) (ws : List (Bor (List Item))). weight_left xs ws) e pushed in
          let back : weight_of_items behind.now ≡ weight_of_items more = ap weight_of_items same in
          let own : weight_of_items (i ∷ more) ≡ (weight_of_items taken + weight_of_items other + 2) + weight_of_items more =
          ap (λ (j : Item). weight_of_items (j ∷ more)) is ∙ weight-If line c taken other more in
          let behind_counts = sum_by-cons (λ (w : Bor (List Item)). weight_of_items w.now + 1) behind waiting in
          let chosen_is : weight_of_items next.now ≡ weight_of_items chosen = ap weight_of_items e in
          omega (arith, light, now, back, own, behind_counts, chosen_is)

      entered : (truth : Bool) (chosen : List Item) → truth_of s c ≡ Ok truth → next.now ≡ chosen →
          ((end : Ending) → RunsItems types chosen s end → ByTruth line (Ok truth) (RunsItems types taken s) (RunsItems types other s) end) →
          CanRun types s (chosen ++ left_over more waiting) → weight_of_items chosen ≤ weight_of_items taken + weight_of_items other →
          GoesOn types (i ∷ left_over more waiting) s (left_over next.now stack) s × CanRun types s (left_over next.now stack)
          × (weight_left next.now stack < weight_left (i ∷ more) waiting)
      entered truth chosen told e goes can_run light = (
        (λ end h. subst (λ (j : Item). RunsItems types (j ∷ left_over more waiting) s end) (sym is)
            (If-goes types line c taken other (left_over more waiting) s truth chosen told goes end
            (subst (λ (xs : List Item). RunsItems types xs s end) (sym (left chosen e)) h))),
        subst (CanRun types s) (left chosen e) can_run,
        lighter chosen e light,
      )

      by : (truth : Bool) → truth_of s c ≡ Ok truth → next.now ≡ (if truth then taken else other) →
          GoesOn types (i ∷ left_over more waiting) s (left_over next.now stack) s × CanRun types s (left_over next.now stack)
          × (weight_left next.now stack < weight_left (i ∷ more) waiting)
      by true told e = entered true taken told e (λ end h. h) can_if.0 (omega arith)
      by false told e = entered false other told e (λ end h. h) can_if.1 (omega arith)
