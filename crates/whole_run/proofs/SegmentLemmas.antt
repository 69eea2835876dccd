-- A whole run between two cuts goes where the flow of what is left does.
use Rattle.std.proofs.Common.{◌≡◌, ◌⊎◌, inl, inr, ℕ, zero, suc, Bool, true, false, List, [], ◌∷◌, ◌++◌, map, Option, Some, None, IfSome, Result, Ok, Err}
use Rattle.std.proofs.Common.{if◌then◌else◌, refl, sym, ap, ap₂, ◌∙◌, subst}
use Rattle.store_core.specs.Tables.{TypeEntry, VarEntry}
use Rattle.store_core.specs.Stores.{StoreMap}
use Rattle.store_logic.specs.declared.act.Act.{Act}
use Rattle.store_logic.specs.declared.cond.Cond.{Cond}
use Rattle.store_exec.specs.declared.cause.Cause.{Cause}
use Rattle.store_exec.specs.declared.fault.Fault.{Fault}
use Rattle.store_exec.specs.declared.code.Item.{Item}
use Rattle.store_exec.specs.declared.code.Item.TheVariants as item
use Rattle.store_exec.specs.declared.triple.Cut.{Cut}
use Rattle.store_exec.specs.Steps.{truth_of}
use Rattle.store_exec.specs.Runs.{Ending, Does, ByTruth, RunsItem, RunsItems}
use Rattle.store_exec.specs.Restricted.{restricted}
use Rattle.store_exec.proofs.RunLemmas.{RunsItem-Do, RunsItem-If}
use Rattle.pale_typed.specs.declared.typed.ProcEntry.{ProcEntry}
use Rattle.pale_typed.specs.declared.typed.Stmt.{Stmt, out-Stmt, roll-out-Stmt}
use Rattle.pale_typed.specs.declared.typed.Stmt.TheOpen.{Stmt-F}
use Rattle.pale_typed.specs.declared.typed.Stmt.TheFolds.{map-Stmt}
use Rattle.pale_typed.specs.TypedPrograms.{TypedProgram}
use Rattle.hoare_split.specs.Picking.{is_awaited, is_left}
use Rattle.hoare_split.specs.Settings.{settings}
use Rattle.hoare_split.specs.Flows.{Arrival, Flow, ends, does, branches, after_items}
use Rattle.hoare_split.specs.Cuts.{plain_cut, call_cut, at_assertion, at_call, at_exit}
use Rattle.hoare_split.specs.Passages.{Passage, in_order, choice, choice_of}
use Rattle.hoare_split.specs.Statements.{rules, passage_of, block_of}
use Rattle.hoare_split.specs.Triples.{exit_of}
use Rattle.hoare_split.proofs.PlainLemmas.{IsPlain, plain-block}
use Rattle.hoare_split.proofs.StatementLemmas.{passage-form}
use Rattle.whole_run.specs.States.{Waiting, State, runs, exited, Turn, goes, fails, Answer, Running, Fail}
use Rattle.whole_run.specs.Turns.{from_ending, from_truth, on_with, Arrives, AfterSettings, Begins, TakesForm, Takes, Exits, behind_cut}
use Rattle.whole_run.specs.Runs.{EndsBy, Ends}
use Rattle.whole_run.proofs.OneAnswer.{does_one, items_end_one}
use Rattle.whole_run.specs.FlowRuns.{Leading, arrives, stops, Chosen, RunsFlow}
use Rattle.whole_run.specs.Segments.{flow_left, Passes, EndsLead}

module _ (types : List TypeEntry) where
  -- items, and then what follows
  abbrev Follow : List Item → Flow → StoreMap → Leading → Type 0
  Follow items rest s lead = ((t : StoreMap) × RunsItems types items s (Ok t) × RunsFlow types rest t lead)
      ⊎ ((fault : Fault) × RunsItems types items s (Err fault) × (lead ≡ stops fault.cause fault.line))

  after_forth : (items : List Item) (rest : Flow) (s : StoreMap) (lead : Leading) → RunsFlow types (after_items items rest) s lead → Follow items rest s lead
  after_forth [] rest s lead h = inl (s, refl, h)
  after_forth (i ∷ items) rest s lead (inl (t, ran, more)) = of (after_forth items rest t lead more)
    where
      of : Follow items rest t lead → Follow (i ∷ items) rest s lead
      of (inl (u, first, end)) = inl (u, inl (t, ran, first), end)
      of (inr (fault, first, e)) = inr (fault, inl (t, ran, first), e)
  after_forth (i ∷ items) rest s lead (inr (fault, ran, e)) = inr (fault, inr (fault, ran, refl), e)

  after_back : (items : List Item) (rest : Flow) (s : StoreMap) (lead : Leading) → Follow items rest s lead → RunsFlow types (after_items items rest) s lead
  after_back [] rest s lead (inl (t, e, h)) = subst (λ u. RunsFlow types rest u lead) (same e) h
    where
      same : ◌≡◌ {A = Ending} (Ok t) (Ok s) → t ≡ s
      same e = cc
  after_back [] rest s lead (inr (fault, e, h)) = absurd (never e)
    where
      never : ◌≡◌ {A = Ending} (Err fault) (Ok s) → ⊥
      never e = cc
  after_back (i ∷ items) rest s lead (inl (t, inl (u, ran, first), h)) = inl (u, ran, after_back items rest u lead (inl (t, first, h)))
  after_back (i ∷ items) rest s lead (inl (t, inr (fault, ran, e), h)) = absurd (never e)
    where
      never : ◌≡◌ {A = Ending} (Ok t) (Err fault) → ⊥
      never e = cc
  after_back (i ∷ items) rest s lead (inr (fault, inl (u, ran, first), h)) = inl (u, ran, after_back items rest u lead (inr (fault, first, h)))
  after_back (i ∷ items) rest s lead (inr (fault, inr (other, ran, e), h)) =
      inr (other, ran, h ∙ ap (λ (f : Fault). stops f.cause f.line) (same e))
    where
      same : ◌≡◌ {A = Ending} (Err fault) (Err other) → fault ≡ other
      same e = cc

module _ (program : TypedProgram) (entry : ProcEntry) (waiting : List Waiting) where
  abbrev types : List TypeEntry
  types = program.types

  abbrev vars : List VarEntry
  vars = entry.vars

  abbrev exit : Flow
  exit = exit_of entry.vars entry.proc

  abbrev F : List Stmt → Flow
  F left = flow_left program entry left

  abbrev passage : Stmt → Passage
  passage = passage_of program.procs vars

  -- statements in front
  in_front : (block left : List Stmt) → F (block ++ left) ≡ (block_of program.procs vars block).flow (F left)
  in_front [] left = refl
  in_front (s ∷ block) left = ap (passage s).flow (in_front block left)

  -- after one step, what is left leads where all did, or the step ends it
  abbrev After : Leading → Turn → Type 0
  After lead turn = ((left : List Stmt) × (t : StoreMap) × (turn ≡ goes (on_with entry waiting left t)) × RunsFlow types (F left) t lead)
      ⊎ EndsLead types vars lead turn

  passes : (s : StoreMap) (cut : Cut) (Next : StoreMap → Turn → Type 0) → ((t : StoreMap) (turn : Turn) → Next t turn → (next : State) × (turn ≡ goes next)) →
      (turn : Turn) → Arrives types vars s cut Next turn → Passes types vars s cut turn
  passes s cut Next each turn (inl h) = inl (h.0, each (restricted s) turn h.1)
  passes s cut Next each turn (inr h) = inr h

  at_end : (s : StoreMap) (a : Arrival) (lead : Leading) (turn : Turn) → lead ≡ arrives a s → Passes types vars s a.cut turn → After lead turn
  at_end s a lead turn is h = subst (λ l. After l turn) (sym is) (inr h)

  at_stop : (why : Cause) (line : ℕ) (lead : Leading) (turn : Turn) → lead ≡ stops why line → turn ≡ fails why line → After lead turn
  at_stop why line lead turn is h = subst (λ l. After l turn) (sym is) (inr h)

  -- settings, and then a cut
  to_cut : (items : List Item) (a : Arrival) (s : StoreMap) (lead : Leading) (turn : Turn) (Next : StoreMap → Turn → Type 0) →
      ((t : StoreMap) (turn : Turn) → Next t turn → (next : State) × (turn ≡ goes next)) → RunsFlow types (after_items items (ends a)) s lead →
      AfterSettings types items s (λ u. Arrives types vars u a.cut Next turn) → After lead turn
  to_cut items a s lead turn Next each h k = of (after_forth types items (ends a) s lead h)
    where
      of : Follow types items (ends a) s lead → After lead turn
      of (inl (t, ran, is)) =
          let same : t ≡ k.0 = ok_same (items_end_one types items s (Ok t) (Ok k.0) ran k.1) in
          at_end t a lead turn is (subst (λ u. Passes types vars u a.cut turn) (sym same) (passes k.0 a.cut Next each turn k.2))
        where
          ok_same : {x y : StoreMap} → ◌≡◌ {A = Ending} (Ok x) (Ok y) → x ≡ y
          ok_same e = cc
      of (inr (fault, ran, is)) = absurd (never (items_end_one types items s (Ok k.0) (Err fault) k.1 ran))
        where
          never : ◌≡◌ {A = Ending} (Ok k.0) (Err fault) → ⊥
          never e = cc

  -- an act
  act_after : (line : ℕ) (a : Act) (left : List Stmt) (s : StoreMap) (lead : Leading) (turn : Turn) (end : Ending) →
      RunsFlow types (does (item.Do line a) (F left)) s lead → Does types line s a end → turn ≡ from_ending (on_with entry waiting left) end → After lead turn
  act_after line a left s lead turn end (inl (t, ran, more)) did is =
      let same = does_one types line s a end (Ok t) did ((RunsItem-Do types line a s (Ok t)).0 ran) in
      inl (left, t, is ∙ ap (from_ending (on_with entry waiting left)) same, more)
  act_after line a left s lead turn end (inr (fault, ran, e)) did is =
      let same = does_one types line s a end (Err fault) did ((RunsItem-Do types line a s (Err fault)).0 ran) in
      at_stop fault.cause fault.line lead turn e (is ∙ ap (from_ending (on_with entry waiting left)) same)

  -- a condition
  by_truth : (line : ℕ) (first other left : List Stmt) (s : StoreMap) (lead : Leading) (turn : Turn) (truth : Result Bool Cause) →
      turn ≡ from_truth line (λ z. on_with entry waiting ((if z then first else other) ++ left) s) truth →
      Chosen line truth (RunsFlow types (F (first ++ left)) s) (RunsFlow types (F (other ++ left)) s) lead → After lead turn
  by_truth line first other left s lead turn (Ok true) is h = inl (first ++ left, s, is, h)
  by_truth line first other left s lead turn (Ok false) is h = inl (other ++ left, s, is, h)
  by_truth line first other left s lead turn (Err why) is h = at_stop why line lead turn h is

  -- an `if` with no cut inside is one item
  item_chosen : (line : ℕ) (ones others : List Item) (rest : Flow) (s : StoreMap) (lead : Leading) (truth : Result Bool Cause) →
      (((t : StoreMap) × ByTruth line truth (RunsItems types ones s) (RunsItems types others s) (Ok t) × RunsFlow types rest t lead)
      ⊎ ((fault : Fault) × ByTruth line truth (RunsItems types ones s) (RunsItems types others s) (Err fault) × (lead ≡ stops fault.cause fault.line))) →
      Chosen line truth (RunsFlow types (after_items ones rest) s) (RunsFlow types (after_items others rest) s) lead
  item_chosen line ones others rest s lead (Ok true) h = after_back types ones rest s lead h
  item_chosen line ones others rest s lead (Ok false) h = after_back types others rest s lead h
  item_chosen line ones others rest s lead (Err why) (inl (t, e, more)) = absurd (never e)
    where
      never : ◌≡◌ {A = Ending} (Ok t) (Err (record { cause = why; line = line })) → ⊥
      never e = cc
  item_chosen line ones others rest s lead (Err why) (inr (fault, e, is)) =
      is ∙ ap (λ (f : Fault). stops f.cause f.line) (same e)
    where
      same : ◌≡◌ {A = Ending} (Err fault) (Err (record { cause = why; line = line })) → fault ≡ record { cause = why; line = line }
      same e = cc

  chosen_as : (line : ℕ) (truth : Result Bool Cause) (one two flow_one flow_two : Flow) (s : StoreMap) (lead : Leading) → one ≡ flow_one → two ≡ flow_two →
      Chosen line truth (RunsFlow types one s) (RunsFlow types two s) lead → Chosen line truth (RunsFlow types flow_one s) (RunsFlow types flow_two s) lead
  chosen_as line truth one two flow_one flow_two s lead e f h =
      subst (λ x. Chosen line truth (RunsFlow types flow_one s) (RunsFlow types x s) lead) f
      (subst (λ x. Chosen line truth (RunsFlow types x s) (RunsFlow types two s) lead) e h)

  if_chosen : (line : ℕ) (c : Cond) (first other left : List Stmt) (s : StoreMap) (lead : Leading) (ones others : Option (List Item)) →
      (block_of program.procs vars first).items ≡ ones → (block_of program.procs vars other).items ≡ others →
      RunsFlow types ((choice_of line c (block_of program.procs vars first) (block_of program.procs vars other) ones others).flow (F left)) s lead →
      Chosen line (truth_of s c) (RunsFlow types ((block_of program.procs vars first).flow (F left)) s)
      (RunsFlow types ((block_of program.procs vars other).flow (F left)) s) lead
  if_chosen line c first other left s lead (Some ones) (Some others) is also h =
      chosen_as line (truth_of s c) (after_items ones (F left)) (after_items others (F left)) _ _ s lead
      (sym ((plain-block program.procs vars first ones is).flow (F left))) (sym ((plain-block program.procs vars other others also).flow (F left)))
      (item_chosen line ones others (F left) s lead (truth_of s c) (of h))
    where
      of : RunsFlow types (does (item.If line c ones others) (F left)) s lead →
          (((t : StoreMap) × ByTruth line (truth_of s c) (RunsItems types ones s) (RunsItems types others s) (Ok t) × RunsFlow types (F left) t lead)
          ⊎ ((fault : Fault) × ByTruth line (truth_of s c) (RunsItems types ones s) (RunsItems types others s) (Err fault)
          × (lead ≡ stops fault.cause fault.line)))
      of (inl (t, ran, more)) = inl (t, (RunsItem-If types line c ones others s (Ok t)).0 ran, more)
      of (inr (fault, ran, e)) = inr (fault, (RunsItem-If types line c ones others s (Err fault)).0 ran, e)
  if_chosen line c first other left s lead (Some ones) None is also h = h
  if_chosen line c first other left s lead None others is also h = h

  goes_on : (next : State) (turn : Turn) → turn ≡ goes next → (state : State) × (turn ≡ goes state)
  goes_on next turn is = (next, is)

  form_after : (y : Stmt-F Stmt) (left : List Stmt) (s : StoreMap) (lead : Leading) (Later : Turn → Type 0) (turn : Turn) →
      (RunsFlow types (F left) s lead → Later turn → After lead turn) →
      RunsFlow types ((rules program.procs vars (map-Stmt Stmt Passage passage y)).flow (F left)) s lead →
      TakesForm program entry waiting s left Later y turn → After lead turn
  form_after Stmt-F.Skip left s lead Later turn later h k = later h k
  form_after (Stmt-F.Do line a) left s lead Later turn later h k = act_after line a left s lead turn k.0 h k.1 k.2
  form_after (Stmt-F.If line c first other) left s lead Later turn later h k =
      by_truth line first other left s lead turn (truth_of s c) k
      (chosen_as line (truth_of s c) _ _ (F (first ++ left)) (F (other ++ left)) s lead (sym (in_front first left)) (sym (in_front other left))
      (if_chosen line c first other left s lead _ _ refl refl h))
  form_after (Stmt-F.While place c invariant body) left s lead Later turn later h k =
      at_end s (at_assertion place invariant) lead turn h
      (passes s (plain_cut place.line invariant) (λ t next. next ≡ goes (on_with entry waiting (behind_cut place c invariant body ∷ left) t))
      (λ t next is. goes_on (on_with entry waiting (behind_cut place c invariant body ∷ left) t) next is) turn k)
  form_after (Stmt-F.Split place a) left s lead Later turn later h k =
      at_end s (at_assertion place a) lead turn h
      (passes s (plain_cut place.line a) (λ t next. next ≡ goes (on_with entry waiting left t))
      (λ t next is. goes_on (on_with entry waiting left t) next is) turn k)
  form_after (Stmt-F.Call place call) left s lead Later turn later h k =
      to_cut (settings vars (is_awaited call) place.line) (at_call program.procs vars place call) s lead turn
      (λ t next. Begins program call (record { entry = entry; store = t; left = left }) waiting next)
      (λ t next begins. (_, begins.4)) h k

  takes_after : (left : List Stmt) (s : StoreMap) (lead : Leading) (turn : Turn) → RunsFlow types (F left) s lead →
      Takes program entry waiting s left turn → After lead turn
  takes_after [] s lead turn h k =
      to_cut (settings vars (is_left entry.proc) entry.proc.last) (at_exit entry.proc.last entry.proc.post) s lead turn
      (λ t next. next ≡ goes (exited t waiting)) (λ t next is. goes_on (exited t waiting) next is) h k
  takes_after (x ∷ left) s lead turn h k =
      form_after (out-Stmt x) left s lead (Takes program entry waiting s left) turn (takes_after left s lead turn)
      (subst (λ (p : Passage). RunsFlow types (p.flow (F left)) s lead) (passage-form program.procs vars x (out-Stmt x) (sym (roll-out-Stmt x))) h) k

  -- up to the next cut a run goes where the flow leads
  pub segment : (n : ℕ) (left : List Stmt) (s : StoreMap) (lead : Leading) (answer : Answer) → RunsFlow types (F left) s lead →
      Ends program n (on_with entry waiting left s) answer →
      (answer ≡ Running) ⊎ ((m : ℕ) × (turn : Turn) × EndsLead types vars lead turn × EndsBy (Ends program m) turn answer)
  segment zero left s lead answer h k = inl k
  segment (suc n) left s lead answer h k = of (takes_after left s lead k.0 h k.1) (segment n)
    where
      of : After lead k.0 → ((left : List Stmt) (s : StoreMap) (lead : Leading) (answer : Answer) → RunsFlow types (F left) s lead →
          Ends program n (on_with entry waiting left s) answer →
          (answer ≡ Running) ⊎ ((m : ℕ) × (turn : Turn) × EndsLead types vars lead turn × EndsBy (Ends program m) turn answer)) →
          (answer ≡ Running) ⊎ ((m : ℕ) × (turn : Turn) × EndsLead types vars lead turn × EndsBy (Ends program m) turn answer)
      of (inl (more, t, is, leads)) later = later more t lead answer leads (subst (λ turn. EndsBy (Ends program n) turn answer) is k.2)
      of (inr ended) later = inr (n, k.0, ended, k.2)
