-- Steps by the form of the next statement.
use Rattle.std.proofs.Common.{◌≡◌, inl, inr, ℕ, zero, suc, Bool, List, [], ◌∷◌, ◌++◌, Option, Result, Ok, Err, IfOk, IfErr, refl, sym, ap, ap₂, ◌∙◌, subst}
use Rattle.std.specs.List.{AllByRecursion}
use Rattle.std.proofs.lemmas.Result.{IfOk-weaker}
use Rattle.store_core.specs.Tables.{TypeEntry, VarEntry}
use Rattle.store_core.specs.Stores.{StoreMap}
use Rattle.store_logic.specs.declared.assertion.Assertion.{Assertion}
use Rattle.store_logic.specs.declared.cond.Cond.{Cond}
use Rattle.store_logic.specs.Fits.{AssertionFits}
use Rattle.store_exec.specs.declared.cause.Cause.{Cause}
use Rattle.store_exec.specs.declared.fault.Fault.{Fault}
use Rattle.store_exec.specs.declared.code.Item.{Item}
use Rattle.store_exec.specs.declared.triple.Cut.{Cut}
use Rattle.store_exec.specs.Runs.{RunsItems}
use Rattle.store_exec.specs.Steps.{truth_of}
use Rattle.store_exec.specs.Fits.{CutFits}
use Rattle.pale_typed.specs.declared.typed.ProcEntry.{ProcEntry}
use Rattle.pale_typed.specs.declared.typed.Stmt.{Stmt, roll-Stmt, out-Stmt, out-roll-Stmt}
use Rattle.pale_typed.specs.declared.typed.Stmt.TheVariants as stmt
use Rattle.pale_typed.specs.declared.typed.Stmt.TheOpen.{Stmt-F}
use Rattle.pale_typed.specs.TypedPrograms.{TypedProgram}
use Rattle.pale_typed.specs.Fitting.{StatementFits}
use Rattle.hoare_split.specs.Cuts.{plain_cut}
use Rattle.whole_run.specs.States.{Waiting, State, Turn, goes, fails}
use Rattle.whole_run.specs.Turns.{from_truth, on_with, Arrives, TakesForm, Takes, Exits}
use Rattle.whole_run.proofs.Blocks.{form_fits}
use Rattle.store_trace.specs.declared.event.Event.{Event}
use Rattle.store_trace.specs.declared.event.Event.TheVariants as event
use Rattle.store_trace.specs.Recording.{recorded}
use Rattle.whole_trace.specs.Shown.{form_shows, left_shows}
use Rattle.whole_trace.specs.Stopping.{FormStops, LeftStops}
use Rattle.whole_turns.specs.declared.activation.Activation.{Activation}
use Rattle.whole_turns.specs.declared.activation.At.{At}
use Rattle.whole_turns.specs.declared.halted.Halted.{Halted}
use Rattle.whole_turns.specs.declared.pieces.Next.{Next}
use Rattle.whole_turns.specs.declared.pieces.Next.TheVariants as next
use Rattle.whole_turns.specs.Standings.{form_of, entry_of}
use Rattle.whole_turns.specs.Turning.{after_skips, Skips, FormFits, ArrivesAs, SetsAs, GoesAs, HaltsAs, ShowsAs, turn_of}

-- ---- skips

skip-is : out-Stmt stmt.Skip ≡ Stmt-F.Skip
skip-is = ap out-Stmt (sym stmt.rolls-Skip) ∙ out-roll-Stmt Stmt-F.Skip

module _ (program : TypedProgram) (entry : ProcEntry) (waiting : List Waiting) (s : StoreMap) where
  abbrev T : List Stmt → Turn → Type 0
  T = Takes program entry waiting s

  skipped : (left : List Stmt) (turn : Turn) → T left turn → T (stmt.Skip ∷ left) turn
  skipped left turn k = subst (λ (y : Stmt-F Stmt). TakesForm program entry waiting s left (T left) y turn) (sym skip-is) k

  past : (n : ℕ) (left : List Stmt) (turn : Turn) → T left turn → T (after_skips n left) turn
  past zero left turn k = k
  past (suc n) left turn k = skipped (after_skips n left) turn (past n left turn k)

  -- a `skip` takes no step
  pub takes_past : (xs ys : List Stmt) (turn : Turn) → Skips xs ys → T ys turn → T xs turn
  takes_past xs ys turn skips k = subst (λ (l : List Stmt). T l turn) (sym skips.1) (past skips.0 ys turn k)

  -- a form that is no `skip` needs nothing of what comes later
  later_on : (y : Stmt-F Stmt) (left : List Stmt) (Later : Turn → Type 0) (turn : Turn) → TakesForm program entry waiting s left (λ other. ⊥) y turn →
      TakesForm program entry waiting s left Later y turn
  later_on Stmt-F.Skip left Later turn k = absurd k
  later_on (Stmt-F.Do line a) left Later turn k = k
  later_on (Stmt-F.If line c first other) left Later turn k = k
  later_on (Stmt-F.While place c invariant body) left Later turn k = k
  later_on (Stmt-F.Split place a) left Later turn k = k
  later_on (Stmt-F.Call place call) left Later turn k = k

  -- a step by the form of the statement that was found
  pub takes_by : (y : Stmt-F Stmt) (xs left : List Stmt) (turn : Turn) → Skips xs (roll-Stmt y ∷ left) →
      TakesForm program entry waiting s left (λ other. ⊥) y turn → T xs turn
  takes_by y xs left turn skips k = takes_past xs (roll-Stmt y ∷ left) turn skips
      (subst (λ (z : Stmt-F Stmt). TakesForm program entry waiting s left (T left) z turn) (sym (out-roll-Stmt y)) (later_on y left (T left) turn k))

  -- the exit, where nothing else is left
  pub takes_exit : (xs left : List Stmt) (turn : Turn) → Skips xs left → left ≡ [] → Exits program entry waiting s turn → T xs turn
  takes_exit xs left turn skips is k = takes_past xs left turn skips (subst (λ (l : List Stmt). T l turn) (sym is) k)

-- the store where a step would stop
module _ (program : TypedProgram) (entry : ProcEntry) (s : StoreMap) where
  abbrev S : List Stmt → StoreMap → Type 0
  S = LeftStops program entry s

  stopped-skip : (left : List Stmt) (at : StoreMap) → S left at → S (stmt.Skip ∷ left) at
  stopped-skip left at k = subst (λ (y : Stmt-F Stmt). FormStops program entry s (S left) y at) (sym skip-is) k

  stopped-past : (n : ℕ) (left : List Stmt) (at : StoreMap) → S left at → S (after_skips n left) at
  stopped-past zero left at k = k
  stopped-past (suc n) left at k = stopped-skip (after_skips n left) at (stopped-past n left at k)

  stops-past : (xs ys : List Stmt) (at : StoreMap) → Skips xs ys → S ys at → S xs at
  stops-past xs ys at skips k = subst (λ (l : List Stmt). S l at) (sym skips.1) (stopped-past skips.0 ys at k)

  later-stops : (y : Stmt-F Stmt) (Later : StoreMap → Type 0) (at : StoreMap) → FormStops program entry s (λ t. ⊥) y at →
      FormStops program entry s Later y at
  later-stops Stmt-F.Skip Later at k = absurd k
  later-stops (Stmt-F.Do line a) Later at k = k
  later-stops (Stmt-F.If line c first other) Later at k = k
  later-stops (Stmt-F.While place c invariant body) Later at k = k
  later-stops (Stmt-F.Split place a) Later at k = k
  later-stops (Stmt-F.Call place call) Later at k = k

  pub stops_by : (y : Stmt-F Stmt) (xs left : List Stmt) (at : StoreMap) → Skips xs (roll-Stmt y ∷ left) → FormStops program entry s (λ t. ⊥) y at → S xs at
  stops_by y xs left at skips k = stops-past xs (roll-Stmt y ∷ left) at skips
      (subst (λ (z : Stmt-F Stmt). FormStops program entry s (S left) z at) (sym (out-roll-Stmt y)) (later-stops y (S left) at k))

  pub stops_exit : (xs left : List Stmt) (at : StoreMap) → Skips xs left → left ≡ [] → S [] at → S xs at
  stops_exit xs left at skips is k = stops-past xs left at skips (subst (λ (l : List Stmt). S l at) (sym is) k)

-- what it shows
module _ (types : List TypeEntry) (last : ℕ) (s : StoreMap) where
  abbrev W : List Stmt → List Event
  W = left_shows types last s

  shown-past : (n : ℕ) (left : List Stmt) → W (after_skips n left) ≡ W left
  shown-past zero left = refl
  shown-past (suc n) left = ap (λ (y : Stmt-F Stmt). form_shows types s (W (after_skips n left)) y) skip-is ∙ shown-past n left

  later-shows : (n : Next) (later : List Event) → form_shows types s later (form_of n) ≡ form_shows types s [] (form_of n)
  later-shows (next.Do line a) later = refl
  later-shows (next.If line c first other) later = refl
  later-shows (next.While l) later = refl
  later-shows (next.Behind l) later = refl
  later-shows (next.Split place a) later = refl
  later-shows (next.Call place call) later = refl

  pub shows_by : (n : Next) (xs left : List Stmt) → Skips xs (roll-Stmt (form_of n) ∷ left) → W xs ≡ form_shows types s [] (form_of n)
  shows_by n xs left skips = ap W skips.1 ∙ shown-past skips.0 (roll-Stmt (form_of n) ∷ left)
      ∙ ap (λ (y : Stmt-F Stmt). form_shows types s (W left) y) (out-roll-Stmt (form_of n)) ∙ later-shows n (W left)

  pub shows_exit : (xs left : List Stmt) → Skips xs left → left ≡ [] → W xs ≡ event.Cut last ∷ []
  shows_exit xs left skips is = ap W skips.1 ∙ shown-past skips.0 left ∙ ap W is

-- what is left behind skips fits
all_past : (P : Stmt → Type 0) (n : ℕ) (left : List Stmt) → AllByRecursion P (after_skips n left) → AllByRecursion P left
all_past P zero left all = all
all_past P (suc n) left all = all_past P n left all.1

pub fits_past : (P : Stmt → Type 0) (xs ys : List Stmt) → Skips xs ys → AllByRecursion P xs → AllByRecursion P ys
fits_past P xs ys skips all = all_past P skips.0 ys (subst (AllByRecursion P) skips.1 all)

-- and so does the form that was found
pub form_found : (program : TypedProgram) (vars : List VarEntry) (y : Stmt-F Stmt) (xs left : List Stmt) → Skips xs (roll-Stmt y ∷ left) →
    AllByRecursion (StatementFits program.types program.procs vars) xs → FormFits program vars y
form_found program vars y xs left skips all =
    let here = fits_past (StatementFits program.types program.procs vars) xs (roll-Stmt y ∷ left) skips all in
    subst (FormFits program vars) (out-roll-Stmt y) (form_fits program.types program.procs vars (roll-Stmt y) here.0)

-- ---- conditions

-- on as a condition is true or false
pub told_turn : (line : ℕ) (next : Bool → State) (r : Result Bool Cause) (truth : Bool) → r ≡ Ok truth → goes (next truth) ≡ from_truth line next r
told_turn line next r truth is = ap (from_truth line next) (sym is)

pub untold_turn : (line : ℕ) (next : Bool → State) (r : Result Bool Cause) (fault : Fault) → r ≡ Err fault.cause → fault.line ≡ line →
    fails fault.cause fault.line ≡ from_truth line next r
untold_turn line next r fault is at_line = ap (λ (n : ℕ). fails fault.cause n) at_line ∙ ap (from_truth line next) (sym is)

-- on with the statements that the truth of a condition chooses
pub chosen_turn : (entry : ProcEntry) (waiting : List Waiting) (line : ℕ) (s after : StoreMap) (c : Cond) (truth : Bool) (stmts : Bool → List Stmt)
    (left new : List Stmt) → truth_of s c ≡ Ok truth → after ≡ s → new ≡ stmts truth ++ left →
    goes (on_with entry waiting new after) ≡ from_truth line (λ t. on_with entry waiting (stmts t ++ left) s) (truth_of s c)
chosen_turn entry waiting line s after c truth stmts left new told same put =
    ap₂ (λ (l : List Stmt) (z : StoreMap). goes (on_with entry waiting l z)) put same
    ∙ told_turn line (λ t. on_with entry waiting (stmts t ++ left) s) (truth_of s c) truth told

-- ---- cuts

pub plain_fits : (types : List TypeEntry) (vars : List VarEntry) (line : ℕ) (a : Assertion) → AssertionFits types vars a →
    CutFits types vars (plain_cut line a)
plain_fits types vars line a fits = record { handed = tt; inside = tt; asserts = (record { region = tt; assertion = fits }, tt) }

module _ (types : List TypeEntry) (vars : List VarEntry) (s : StoreMap) (cut : Cut) (Next : StoreMap → Turn → Type 0) where
  -- the store that arrived goes on
  pub arrived_on : (t : StoreMap) (turn : Turn) → ArrivesAs types vars cut s (Ok t) → Next t turn → Arrives types vars s cut Next turn
  arrived_on t turn at_cut next = inl (at_cut.0, subst (λ (z : StoreMap). Next z turn) at_cut.1 next)

  -- or a cause ends the run
  pub arrived_fault : (fault : Halted) → ArrivesAs types vars cut s (Err fault) → Arrives types vars s cut Next (fails fault.cause fault.line)
  arrived_fault fault at_cut = inr (fault.cause, at_cut.0, ap (λ (n : ℕ). fails fault.cause n) at_cut.1)

-- a run that stops at a cut behind settings stands at the store after them
pub halted_set : (types : List TypeEntry) (vars : List VarEntry) (items : List Item) (cut : Cut) (s : StoreMap) (halted : Halted) →
    SetsAs types vars items cut s (Err halted) → RunsItems types items s (Ok halted.at)
halted_set types vars items cut s halted (u, ran, arrives) = subst (λ (t : StoreMap). RunsItems types items s (Ok t)) (sym arrives.2) ran

-- ---- what was found

-- a form that leads so whatever calls wait
pub by_form : {E : Type 0} (program : TypedProgram) (a : Activation) (s : StoreMap) (found n : Next) (waiting : List Waiting)
    (r : Result (Result At Halted) E) → found ≡ n → IfOk r (λ end. (w : List Waiting) → GoesAs program a s (form_of n) w (turn_of w end)) →
    IfOk r (λ end. GoesAs program a s (form_of found) waiting (turn_of waiting end))
by_form program a s found n waiting r is h = subst (λ (x : Next). IfOk r (λ end. GoesAs program a s (form_of x) waiting (turn_of waiting end))) (sym is)
    (IfOk-weaker r (λ end. (w : List Waiting) → GoesAs program a s (form_of n) w (turn_of w end))
    (λ end. GoesAs program a s (form_of n) waiting (turn_of waiting end))
    (λ end each. each waiting) h)

pub by_halt : {E : Type 0} (program : TypedProgram) (a : Activation) (s : StoreMap) (found n : Next) (r : Result (Result At Halted) E) →
    found ≡ n → IfOk r (HaltsAs program a s (form_of n)) → IfOk r (HaltsAs program a s (form_of found))
by_halt program a s found n r is h = subst (λ (x : Next). IfOk r (HaltsAs program a s (form_of x))) (sym is) h

-- where it stops, by the form that was found and by what is left
pub halts_by : (program : TypedProgram) (a : Activation) (s : StoreMap) (y : Stmt-F Stmt) (xs left : List Stmt) (end : Result At Halted) →
    Skips xs (roll-Stmt y ∷ left) → HaltsAs program a s y end → IfErr end (λ halted. LeftStops program (entry_of a) s xs halted.at)
halts_by program a s y xs left (Ok after) skips h = tt
halts_by program a s y xs left (Err halted) skips h = stops_by program (entry_of a) s y xs left halted.at skips h

pub halts_exit : (program : TypedProgram) (entry : ProcEntry) (s : StoreMap) (xs left : List Stmt) (end : Result At Halted) → Skips xs left → left ≡ [] →
    IfErr end (λ halted. LeftStops program entry s [] halted.at) → IfErr end (λ halted. LeftStops program entry s xs halted.at)
halts_exit program entry s xs left (Ok after) skips is h = tt
halts_exit program entry s xs left (Err halted) skips is h = stops_exit program entry s xs left halted.at skips is h

-- what is shown, by what it is recorded as
pub shows_as : (before now : Option (List Event)) (shown other : List Event) (end : Result At Halted) → recorded before shown ≡ recorded before other →
    ShowsAs before now shown end → ShowsAs before now other end
shows_as before now shown other (Ok after) same is = is ∙ same
shows_as before now shown other (Err halted) same is = is
