-- A goal is taken from the queue and settled.
use Rattle.std.proofs.Common.{◌≡◌, ℕ, ◌+◌, ◌≤◌, Bool, true, false, List, [], ◌∷◌, Option, Some, None, inl, inr, ◌⊎◌}
use Rattle.std.proofs.Common.{refl, sym, ap, subst, ◌∙◌, arith, Contains, slice_get, length, cond, eqb}
use Rattle.std.specs.Prelude.{nat_lt}
use Rattle.std.specs.Ordering.{is_lt}
use Rattle.std.specs.declared.cmp.Ordering.TheVariants.{Less, Equal, Greater}
use Rattle.std.specs.Ordering.{on, nat_cmp}
use Rattle.std.specs.BinaryHeap.{heap_items, IsHeap, IsUpperBound}
use Rattle.std.specs.List.Sorted.{IsPermutation}
use Rattle.std.specs.HashMap.{Updates}
use Rattle.std.proofs.lemmas.Bool.{false≢true, cases_lt, lt-ltb}
use Rattle.std.proofs.lemmas.List.Elements.{All-contains, All-from_recursion}
use Rattle.std.proofs.lemmas.List.Sorted.{Contains-permutation, IsPermutation-sym}
use Rattle.gta_theory.proofs.ListsLemmas.{Contains-first, Contains-later, Contains-cases, Contains-none}
use Rattle.gta_reach.specs.declared.form.FormSpace.{FormSpace}
use Rattle.gta_reach.specs.declared.form.Form.{Form}
use Rattle.gta_witness.specs.declared.goal.Goal.{Goal}
use Rattle.gta_witness.specs.declared.goal.Goal.TheVariants.{State, Node, Row, Column}
use Rattle.gta_witness.specs.declared.goal.Reason.{Reason}
use Rattle.gta_witness.specs.declared.goal.Reason.TheVariants.{Initial}
use Rattle.gta_witness.specs.declared.goal.Weight.{Weight}
use Rattle.gta_witness.specs.declared.goal.Found.{Found}
use Rattle.gta_witness.specs.declared.goal.Waiting.{Waiting}
use Rattle.gta_witness.specs.declared.relax.Search.{Search}
use Rattle.gta_witness.specs.declared.expand.Lines.{Lines}
use Rattle.gta_witness.specs.Rules.{initial, row, column, cell, low, high, key, nothing, together}
use Rattle.gta_witness.specs.Deriving.{Derives, no_goals, by_rule, IsDerived}
use Rattle.gta_witness.specs.Searching.{same_goal, Findings, found_by, IsSettled, IsCovered, Totals, IsJustified, IsClosed, IsExpanded, Waits, IsSearch, GoesOn}
use Rattle.gta_witness.specs.Searching.{AreListed, NoneLighter, Running, IsOver, IsAcceptingAt, IsTaken, AddsLine, AcceptsAt, IsStart}
use Rattle.gta_witness.proofs.SearchLemmas.{same_goal-refl, same-or, settled-entry, settled-once, IsJustified-kept}

some-same : (o : Option Found) (a b : Found) → o ≡ Some a → o ≡ Some b → a ≡ b
some-same o a b one other = let e : Some a ≡ Some b = sym one ∙ other in cc

-- what is justified by what comes by the rules comes by them
totals-derive : (form : Form) (weighs : ℕ → Bool) (found : Findings) → ((g : Goal) (w : Weight) → IsSettled found g w → IsDerived form weighs g w) →
    (goals : List Goal) (w : Weight) → Totals found goals w → Derives form weighs goals w
totals-derive form weighs found derived [] w totals = subst (Derives form weighs []) totals no_goals
totals-derive form weighs found derived (goal ∷ goals) w totals =
    let d = derived goal totals.0 totals.2 in
    let others = totals-derive form weighs found derived goals totals.1 totals.3 in
    let sum : together (d.cost d.total) totals.1 ≡ w = ap (λ (x : Weight). together x totals.1) d.weighs_so ∙ totals.4 in
    subst (Derives form weighs (goal ∷ goals)) sum (by_rule d.premises goals d.cost goal d.reason d.total totals.1 d.rule d.derives others)

justified-derived : (form : Form) (weighs : ℕ → Bool) (found : Findings) → ((g : Goal) (w : Weight) → IsSettled found g w → IsDerived form weighs g w) →
    (goal : Goal) (reason : Reason) (w : Weight) → IsJustified form weighs found goal reason w → IsDerived form weighs goal w
justified-derived form weighs found derived goal reason w j = record {
  premises = j.premises;
  cost = j.cost;
  reason = reason;
  total = j.total;
  rule = j.rule;
  derives = totals-derive form weighs found derived j.premises j.total j.totals;
  weighs_so = j.weighs_so;
}

-- the goal is settled
module _ (form : Form) (weighs : ℕ → Bool) (lines : Lines) (old mid : Search) (goal : Goal) (entry : Found)
    (taken : IsTaken form weighs lines old goal entry)
    (updates : Updates same_goal old.found mid.found goal (Some (record { weight = entry.weight; reason = entry.reason; is_settled = true })))
    (queue : mid.queue ≡ old.queue) where
  done : Found
  done = record { weight = entry.weight; reason = entry.reason; is_settled = true }

  at-goal : found_by mid goal ≡ Some done
  unfolding done
  at-goal = updates.1

  at-other : (g : Goal) → same_goal goal g ≡ false → found_by mid g ≡ found_by old g
  at-other g apart = updates.2 g apart

  pub settled-now : IsSettled (found_by mid) goal entry.weight
  unfolding done
  settled-now = record { entry = done; there = at-goal; settled = refl; weighs = refl }

  was-unsettled : (w : Weight) → IsSettled (found_by old) goal w → ⊥
  was-unsettled w settled = false≢true (sym taken.unsettled ∙ (settled-entry (found_by old) goal w entry settled taken.there).0)

  pub settled-kept : (g : Goal) (w : Weight) → IsSettled (found_by old) g w → IsSettled (found_by mid) g w
  settled-kept g w settled = elim (same-or goal g) [
    | inl same ↦ absurd (was-unsettled w (subst (λ (x : Goal). IsSettled (found_by old) x w) (sym same) settled))
    | inr apart ↦ record { entry = settled.entry; there = at-other g apart ∙ settled.there; settled = settled.settled; weighs = settled.weighs }
  ]

  pub settled-back : (g : Goal) (w : Weight) → IsSettled (found_by mid) g w → ((goal ≡ g) × (entry.weight ≡ w)) ⊎ IsSettled (found_by old) g w
  settled-back g w settled = elim (same-or goal g) [
    | inl same ↦ inl (
      same,
      settled-once (found_by mid) g entry.weight w
          (subst (λ (x : Goal). IsSettled (found_by mid) x entry.weight) same settled-now) settled,
    )
    | inr apart ↦ inr (record { entry = settled.entry; there = sym (at-other g apart) ∙ settled.there; settled = settled.settled; weighs = settled.weighs })
  ]

  covered-kept : (g : Goal) (w : Weight) → IsCovered (found_by old) g w → IsCovered (found_by mid) g w
  unfolding done
  covered-kept g w covered = elim (same-or goal g) [
    | inl same ↦
        let is : covered.entry ≡ entry = some-same (found_by old goal) covered.entry entry (ap (found_by old) same ∙ covered.there) taken.there in
        record {
          entry = done;
          there = sym (ap (found_by mid) same) ∙ at-goal;
          no_higher = subst (λ (x : Found). key x.weight ≤ key w) is covered.no_higher;
        }
    | inr apart ↦ record { entry = covered.entry; there = at-other g apart ∙ covered.there; no_higher = covered.no_higher }
  ]

  pub settled-search : IsSearch form weighs (key entry.weight) mid
  unfolding done
  settled-search = record {
    sound = record {
      justified = λ g e there. elim (same-or goal g) [
        | inl same ↦
            let is : done ≡ e = some-same (found_by mid g) done e (sym (ap (found_by mid) same) ∙ at-goal) there in
            let j = IsJustified-kept form weighs (found_by old) (found_by mid) settled-kept goal entry.reason entry.weight
            (taken.justified goal entry taken.there) in
            subst (λ (x : Goal). IsJustified form weighs (found_by mid) x e.reason e.weight) same
            (subst (λ (x : Found). IsJustified form weighs (found_by mid) goal x.reason x.weight) is j)
        | inr apart ↦ IsJustified-kept form weighs (found_by old) (found_by mid) settled-kept g e.reason e.weight
            (taken.justified g e (sym (at-other g apart) ∙ there))
      ];
      derived = λ g w settled. elim (settled-back g w settled) [
        | inl here ↦ subst (λ (x : Goal). IsDerived form weighs x w) here.0 (subst (IsDerived form weighs goal) here.1
            (justified-derived form weighs (found_by old) taken.derived goal entry.reason entry.weight (taken.justified goal entry taken.there)))
        | inr before ↦ taken.derived g w before
      ];
      passed = λ g w settled. elim (settled-back g w settled) [
        | inl here ↦ let e = ap key here.1 in omega arith
        | inr before ↦ taken.passed g w before
      ];
      waits = λ g e there unsettled. elim (same-or goal g) [
        | inl same ↦
            let is : done ≡ e = some-same (found_by mid g) done e (sym (ap (found_by mid) same) ∙ at-goal) there in
            absurd (false≢true (sym unsettled ∙ sym (ap (λ (x : Found). x.is_settled) is)))
        | inr apart ↦
            let waits = taken.waits g e (sym (at-other g apart) ∙ there) unsettled apart in
            record {
              waiting = waits.waiting;
              there = subst (λ (xs : List Waiting). Contains xs waits.waiting) (sym (ap heap_items queue)) waits.there;
              is_goal = waits.is_goal;
              near = waits.near;
            }
      ];
      ahead = λ x there. taken.ahead x (subst (λ (xs : List Waiting). Contains xs x) (ap heap_items queue) there);
    };
    heap = subst (λ (xs : List Waiting). IsHeap (on (λ (w : Waiting). w.nearness) nat_cmp) xs) (sym (ap heap_items queue)) taken.heap;
  }

  module _ (after : Lines) (adds : AddsLine lines after goal) where
    pub settled-listed : AreListed (found_by mid) after.rows.items after.columns.items
    settled-listed = record {
      row = λ t class w settled. elim (settled-back (Row t class) w settled) [
        | inl here ↦ adds.row t class here.0
        | inr before ↦ adds.kept_row t class (taken.listed.row t class w before)
      ];
      column = λ t class w settled. elim (settled-back (Column t class) w settled) [
        | inl here ↦ adds.column t class here.0
        | inr before ↦ adds.kept_column t class (taken.listed.column t class w before)
      ];
    }

    -- and expanded
    module _ (new : Search) (on_now : GoesOn form weighs (key entry.weight) mid new) (expanded : IsExpanded form weighs (found_by new) goal) where
      premises-cases : (premises : List Goal) → Contains premises goal ⊎
          ((total : Weight) → Totals (found_by new) premises total → Totals (found_by old) premises total)
      premises-cases [] = inr (λ total totals. totals)
      premises-cases (g ∷ gs) = elim (same-or goal g) [
        | inl same ↦ inl (subst (λ (x : Goal). Contains (x ∷ gs) goal) same (Contains-first goal gs))
        | inr apart ↦ elim (premises-cases gs) [
          | inl there ↦ inl (Contains-later g goal gs there)
          | inr back ↦ inr (λ total totals.
              let settled = on_now.improves.no_more g totals.0 totals.2 in
              let before : IsSettled (found_by old) g totals.0 =
              record { entry = settled.entry; there = sym (at-other g apart) ∙ settled.there; settled = settled.settled; weighs = settled.weighs } in
              (totals.0, totals.1, before, back totals.1 totals.3, totals.4))
        ]
      ]

      pub closed-now : IsClosed form weighs (found_by new)
      closed-now premises cost g reason rule total totals = elim (premises-cases premises) [
        | inl there ↦ expanded premises cost g reason rule there total totals
        | inr back ↦ on_now.improves.covered g (cost total)
            (covered-kept g (cost total) (taken.closed premises cost g reason rule total (back total totals)))
      ]

      listed-now : AreListed (found_by new) after.rows.items after.columns.items
      listed-now = record {
        row = λ t class w settled. settled-listed.row t class w (on_now.improves.no_more (Row t class) w settled);
        column = λ t class w settled. settled-listed.column t class w (on_now.improves.no_more (Column t class) w settled);
      }

      pub running-now : AcceptsAt form goal None → Running form weighs (key entry.weight) after new
      running-now none = record {
        is_search = on_now.is_search;
        closed = closed-now;
        listed = listed-now;
        none = λ q w accepting settled. elim (settled-back (State 0 q) w (on_now.improves.no_more (State 0 q) w settled)) [
          | inl here ↦ absurd (false≢true (sym (none q here.0) ∙ accepting))
          | inr before ↦ taken.none q w accepting before
        ];
      }

      pub over-now : IsOver form weighs (found_by new) (Some (key entry.weight))
      over-now = record {
        justified = on_now.is_search.sound.justified;
        derived = on_now.is_search.sound.derived;
        closed = closed-now;
        others = λ g e there unsettled.
            let waits = on_now.is_search.sound.waits g e there unsettled in
            let ahead = on_now.is_search.sound.ahead waits.waiting waits.there in
            let near = waits.near in
            omega arith;
        none = λ q w accepting settled. elim (settled-back (State 0 q) w (on_now.improves.no_more (State 0 q) w settled)) [
          | inl here ↦ let e = ap key here.1 in omega arith
          | inr before ↦ absurd (taken.none q w accepting before)
        ];
      }

      pub accepting-now : (q : ℕ) → AcceptsAt form goal (Some q) → IsAcceptingAt form (found_by new) q entry.weight
      accepting-now q accepts = record {
        accepting = accepts.1;
        settled = on_now.improves.settled (State 0 q) entry.weight
            (subst (λ (g : Goal). IsSettled (found_by mid) g entry.weight) accepts.0 settled-now);
      }

-- what waits first is taken from the queue
module _ (form : Form) (weighs : ℕ → Bool) (now : ℕ) (lines : Lines) (old new : Search) (first : Waiting)
    (running : Running form weighs now lines old) (same : new.found ≡ old.found)
    (popped : IsPermutation (heap_items old.queue) (first ∷ heap_items new.queue))
    (heap : IsHeap (on (λ (w : Waiting). w.nearness) nat_cmp) (heap_items new.queue)) where
  is : IsSearch form weighs now old
  is = running.is_search

  same_found : found_by new ≡ found_by old
  same_found = λ i g. found_by (record { found = same i; queue = old.queue }) g

  among : (w : Waiting) → Contains (heap_items new.queue) w → Contains (heap_items old.queue) w
  among w there = Contains-permutation (first ∷ heap_items new.queue) (heap_items old.queue) w
      (IsPermutation-sym (heap_items old.queue) (first ∷ heap_items new.queue) popped) (Contains-later first w (heap_items new.queue) there)

  pub first-ahead : now + first.nearness ≤ 340282366920938463463374607431768211455
  unfolding is
  first-ahead = is.sound.ahead first (Contains-permutation (first ∷ heap_items new.queue) (heap_items old.queue) first
      (IsPermutation-sym (heap_items old.queue) (first ∷ heap_items new.queue) popped) (Contains-first first (heap_items new.queue)))

  waits-still : (g : Goal) (e : Found) → Waits (heap_items old.queue) g e.weight →
      ((first.goal ≡ g) × (first.nearness + key e.weight ≡ 340282366920938463463374607431768211455)) ⊎ Waits (heap_items new.queue) g e.weight
  waits-still g e waits = elim (Contains-cases first waits.waiting (heap_items new.queue)
      (Contains-permutation (heap_items old.queue) (first ∷ heap_items new.queue) waits.waiting popped waits.there)) [
        | inl one ↦ inl (
          ap (λ (w : Waiting). w.goal) one ∙ waits.is_goal,
          ap (λ (w : Waiting). w.nearness + key e.weight) one ∙ waits.near,
        )
        | inr there ↦ inr (record { waiting = waits.waiting; there = there; is_goal = waits.is_goal; near = waits.near })
      ]

  -- nothing changes where that was no longer so
  pub stale-running : ((e : Found) → found_by old first.goal ≡ Some e → e.is_settled ≡ false →
      first.nearness + key e.weight ≡ 340282366920938463463374607431768211455 → ⊥) →
      Running form weighs now lines new
  unfolding is
  stale-running stale = record {
    is_search = record {
      sound = record {
        justified = subst (λ (found : Findings). (g : Goal) (e : Found) → found g ≡ Some e → IsJustified form weighs found g e.reason e.weight)
            (sym same_found) is.sound.justified;
        derived = subst (λ (found : Findings). (g : Goal) (w : Weight) → IsSettled found g w → IsDerived form weighs g w) (sym same_found)
            is.sound.derived;
        passed = subst (λ (found : Findings). (g : Goal) (w : Weight) → IsSettled found g w → key w ≤ now) (sym same_found) is.sound.passed;
        waits = λ g e there unsettled.
            let before : found_by old g ≡ Some e = (sym (λ i. same_found i g)) ∙ there in
            elim (waits-still g e (is.sound.waits g e before unsettled)) [
              | inl gone ↦ absurd (stale e (ap (found_by old) gone.0 ∙ before) unsettled gone.1)
              | inr still ↦ still
            ];
        ahead = λ w there. is.sound.ahead w (among w there);
      };
      heap = heap;
    };
    closed = subst (IsClosed form weighs) (sym same_found) running.closed;
    listed = subst (λ (found : Findings). AreListed found lines.rows.items lines.columns.items) (sym same_found) running.listed;
    none = subst (λ (found : Findings). NoneLighter form found None) (sym same_found) running.none;
  }

  -- or the goal is to be settled
  pub first-taken : (entry : Found) → found_by old first.goal ≡ Some entry → entry.is_settled ≡ false →
      first.nearness + key entry.weight ≡ 340282366920938463463374607431768211455 →
      ((w : Waiting) → Contains (heap_items new.queue) w → w.nearness ≤ first.nearness) → IsTaken form weighs lines new first.goal entry
  unfolding is
  first-taken entry there unsettled near below = record {
    there = (λ i. same_found i first.goal) ∙ there;
    unsettled = unsettled;
    justified = subst (λ (found : Findings). (g : Goal) (e : Found) → found g ≡ Some e → IsJustified form weighs found g e.reason e.weight)
        (sym same_found) is.sound.justified;
    derived = subst (λ (found : Findings). (g : Goal) (w : Weight) → IsSettled found g w → IsDerived form weighs g w) (sym same_found) is.sound.derived;
    passed = subst (λ (found : Findings). (g : Goal) (w : Weight) → IsSettled found g w → key w ≤ key entry.weight) (sym same_found)
        (λ g w settled. let p = is.sound.passed g w settled in let a = first-ahead in omega arith);
    waits = λ g e at unsettled_g apart.
        let before : found_by old g ≡ Some e = (sym (λ i. same_found i g)) ∙ at in
        elim (waits-still g e (is.sound.waits g e before unsettled_g)) [
          | inl gone ↦ absurd (false≢true (sym apart ∙ ap (same_goal first.goal) (sym gone.0) ∙ same_goal-refl first.goal))
          | inr still ↦ still
        ];
    ahead = λ w at. let b = below w at in omega arith;
    heap = heap;
    closed = subst (IsClosed form weighs) (sym same_found) running.closed;
    listed = subst (λ (found : Findings). AreListed found lines.rows.items lines.columns.items) (sym same_found) running.listed;
    none = subst (λ (found : Findings). NoneLighter form found None) (sym same_found) running.none;
  }

-- nothing waits any more
pub over-none : (form : Form) (weighs : ℕ → Bool) (now : ℕ) (lines : Lines) (search : Search) → Running form weighs now lines search →
    heap_items search.queue ≡ [] → IsOver form weighs (found_by search) None
over-none form weighs now lines search running empty = record {
  justified = running.is_search.sound.justified;
  derived = running.is_search.sound.derived;
  closed = running.closed;
  others = λ g e there unsettled.
      let waits = running.is_search.sound.waits g e there unsettled in
      Contains-none waits.waiting (subst (λ (xs : List Waiting). Contains xs waits.waiting) empty waits.there);
  none = running.none;
}

pub no-elements : {X : Type 0} (xs : List X) → length xs ≡ 0 → xs ≡ []
no-elements [] e = refl
no-elements (x ∷ xs) e = absurd (omega arith)

-- none that waits is nearer than the first
nearer : (x y : ℕ) → is_lt (nat_cmp x y) ≡ false → y ≤ x
nearer x y e = elim (cases_lt x y) [
  | inl below ↦
      let is : nat_lt x y ≡ true = lt-ltb x y below in
      absurd (false≢true (sym e ∙ ap (λ (b : Bool). is_lt (cond b Less (cond (eqb x y) Equal Greater))) is))
  | inr not_below ↦ not_below
]

pub none-nearer : (first : Waiting) (waiting : List Waiting) → IsUpperBound (on (λ (w : Waiting). w.nearness) nat_cmp) first waiting →
    (w : Waiting) → Contains waiting w → w.nearness ≤ first.nearness
none-nearer first waiting bound w there =
    nearer first.nearness w.nearness (All-contains (λ (y : Waiting). is_lt (nat_cmp first.nearness y.nearness) ≡ false) waiting w
    (All-from_recursion (λ (y : Waiting). is_lt (nat_cmp first.nearness y.nearness) ≡ false) waiting bound) there)

-- the search begins
pub running-first : (form : Form) (weighs : ℕ → Bool) (lines : Lines) (search : Search) → IsStart form weighs search →
    Running form weighs 0 lines search
running-first form weighs lines search start = record {
  is_search = start.is_search;
  closed = closed;
  listed = record {
    row = λ t class w settled. absurd (start.none (Row t class) w settled);
    column = λ t class w settled. absurd (start.none (Column t class) w settled);
  };
  none = λ q w accepting settled. start.none (State 0 q) w settled;
}
  where
    closed : IsClosed form weighs (found_by search)
    closed _ _ _ _ (initial s space at) total totals = subst (IsCovered (found_by search) (State s space.initial)) totals (start.initial s space at)
    closed _ _ _ _ (row t q class space at at_class) total totals = absurd (start.none (State space.children.0 q) totals.0 totals.2)
    closed _ _ _ _ (column t q class space at at_class) total totals = absurd (start.none (State space.children.1 q) totals.0 totals.2)
    closed _ _ _ _ (cell t r c at space listed at_space at_cell at_root) total totals = absurd (start.none (Row t r) totals.0 totals.2)
    closed _ _ _ _ (low t i space node at_space at) total totals = absurd (start.none (Node t i) totals.0 totals.2)
    closed _ _ _ _ (high t i space node at_space at) total totals = absurd (start.none (Node t i) totals.0 totals.2)

pub initial-justified : (form : Form) (weighs : ℕ → Bool) (found : Findings) (s : ℕ) (space : FormSpace) → slice_get form.spaces s ≡ Some space →
    IsJustified form weighs found (State s space.initial) Initial nothing
initial-justified form weighs found s space at = record {
  premises = [];
  cost = λ w. w;
  total = nothing;
  rule = initial s space at;
  totals = refl;
  weighs_so = refl;
}
