-- Whole runs, step by step.
use Rattle.std.proofs.Common.{◌≡◌, ◌+◌, ◌<◌, ◌≤◌, ℕ, zero, suc, List, [], ◌∷◌, ◌++◌, Option, Some, refl, sym, ap, ◌∙◌, subst, arith}
use Rattle.std.specs.List.{AllByRecursion}
use Rattle.std.proofs.lemmas.List.{append_assoc, append-nil}
use Rattle.store_core.specs.Stores.{StoreMap, Fits}
use Rattle.pale_typed.specs.declared.typed.ProcEntry.{ProcEntry}
use Rattle.pale_typed.specs.declared.typed.Stmt.{Stmt}
use Rattle.pale_typed.specs.TypedPrograms.{TypedProgram}
use Rattle.pale_typed.specs.Fitting.{ProcFits, StatementFits, ProgramFits}
use Rattle.hoare_split.proofs.FittingVariableLemmas.{all-at}
use Rattle.whole_run.specs.States.{State, runs, exited, Turn, goes, Answer}
use Rattle.store_trace.specs.declared.event.Event.{Event}
use Rattle.store_trace.specs.Recording.{recorded}
use Rattle.store_trace.proofs.RecordedLemmas.{recorded-none, recorded-then}
use Rattle.whole_trace.specs.Shown.{state_shows}
use Rattle.whole_trace.specs.Traces.{Stand, Leads, Traces, TracedRun}
use Rattle.whole_turns.specs.declared.activation.Activation.{Activation}
use Rattle.whole_exec.specs.Starting.{CanStart}
use Rattle.whole_turns.specs.Standings.{entry_of, frame_of}
use Rattle.whole_turns.specs.Turning.{IsEntered}
use Rattle.whole_run.proofs.AnswerLaws.{Laws}
use Rattle.whole_run.proofs.AnswerStanding.{Holds, next_of, OnTurn}
use Rattle.whole_run.proofs.AnswerSteps.{takes_on}
use Rattle.whole_run.proofs.AnswerReturning.{returns_on}
use Rattle.whole_exec.proofs.Naming.{IsNamed, leads-on}

some_same : {X : Type 0} (x y : X) → Some x ≡ Some y → x ≡ y
some_same x y e = cc

-- the run stands here with these steps left, and these were recorded: what it shows from here comes after what it has shown
pub record IsGoing (program : TypedProgram) (number : ℕ) (s : StoreMap) (steps : ℕ) (before now : Option (List Event)) (state : State) (left : ℕ) :
    Type 0 where
  pub holds : Holds program state
  pub named : IsNamed program number state
  pub room : next_of state + left < 4294967295
  pub shown : List Event
  pub kept : now ≡ recorded before shown
  pub goes : (later : List Event) (stand : Stand) (answer : Answer) → Traces program number left state later stand answer →
      TracedRun program number s steps (shown ++ later) stand answer

-- a step, and then the rest
pub traces_on : (program : TypedProgram) (first n : ℕ) (now next : State) (later : List Event) (stand : Stand) (answer : Answer) →
    Leads program now (goes next) → Traces program first n next later stand answer →
    Traces program first (suc n) now (state_shows program now ++ later) stand answer
traces_on program first n (runs f waiting) next later stand answer leads traces = (goes next, leads, (later, refl, traces))
traces_on program first n (exited t []) next later stand answer leads traces = absurd leads
traces_on program first n (exited t (w ∷ waiting)) next later stand answer leads traces = (goes next, leads, (later, refl, traces))

-- where the run stands in the loop, with so many steps done
abbrev pub Stage : TypedProgram → ℕ → StoreMap → ℕ → Option (List Event) → Option (List Event) → State → ℕ → Type 0
Stage program number s steps before now state did = (left : ℕ) × (left + did ≡ steps) × IsGoing program number s steps before now state left

-- what a run showed was recorded
abbrev pub IsRecorded : TypedProgram → ℕ → StoreMap → ℕ → Option (List Event) → Option (List Event) → Stand → Answer → Type 0
IsRecorded program number s steps before now stand answer =
    (shown : List Event) × TracedRun program number s steps shown stand answer × (now ≡ recorded before shown)

-- it ends here, and shows nothing more
pub ends_here : (program : TypedProgram) (number : ℕ) (s : StoreMap) (steps : ℕ) (before now : Option (List Event)) (state : State) (left : ℕ)
    (stand : Stand) (answer : Answer) → IsGoing program number s steps before now state left → Traces program number left state [] stand answer →
    IsRecorded program number s steps before now stand answer
ends_here program number s steps before now state left stand answer going traces =
    (going.shown ++ [], going.goes [] stand answer traces, going.kept ∙ ap (λ (l : List Event). recorded before l) (sym (append-nil going.shown)))

-- while steps are to be done one is left
pub one_left : {P : Type 0} (program : TypedProgram) (number : ℕ) (s : StoreMap) (steps : ℕ) (before now : Option (List Event)) (state : State) (did : ℕ) →
    Stage program number s steps before now state did → did < steps →
    ((left : ℕ) → left + (did + 1) ≡ steps → IsGoing program number s steps before now state (suc left) → P) → P
one_left program number s steps before now state did (zero, is, going) less k = absurd (omega (arith, is, less))
one_left program number s steps before now state did (suc left, is, going) less k = k left (omega (arith, is)) going

-- so there is room for a new cell
pub one_room : (n left did steps : ℕ) → left + did ≡ steps → did < steps → n + left < 4294967295 → n + 1 < 4294967295
one_room n left did steps is less room = omega (arith, is, less, room)

-- and then none is
pub done : (program : TypedProgram) (number : ℕ) (s : StoreMap) (steps : ℕ) (before now : Option (List Event)) (state : State) (did : ℕ) →
    Stage program number s steps before now state did → steps ≤ did → (stand : Stand) (answer : Answer) →
    Traces program number 0 state [] stand answer → IsRecorded program number s steps before now stand answer
done program number s steps before now state did (zero, is, going) all stand answer traces =
    ends_here program number s steps before now state 0 stand answer going traces
done program number s steps before now state did (suc left, is, going) all stand answer traces = absurd (omega (arith, is, all))

module _ (law : Laws) (program : TypedProgram) (fits : ProgramFits program) where
  pub turns_on : (now : State) (turn : Turn) → Holds program now → Leads program now turn → OnTurn program (next_of now + 1) turn
  turns_on (runs f waiting) turn holds leads = takes_on law program fits f.entry waiting f.left f.store turn holds leads
  turns_on (exited t []) turn holds leads = absurd leads
  turns_on (exited t (w ∷ waiting)) turn holds leads = returns_on law program fits t w waiting turn holds leads

  module _ (number : ℕ) (s : StoreMap) (steps : ℕ) (before : Option (List Event)) where
    -- a step further, and what it showed was recorded
    pub goes_on : (now after : Option (List Event)) (state next : State) (left : ℕ) → IsGoing program number s steps before now state (suc left) →
        Leads program state (goes next) → after ≡ recorded now (state_shows program state) → IsGoing program number s steps before after next left
    goes_on now after state next left going leads put =
        let on = turns_on state (goes next) going.holds leads in
        record {
          holds = on.0;
          named = leads-on program number state (goes next) going.holds going.named leads;
          room = let more = on.1 in let all = going.room in omega (arith, more, all);
          shown = going.shown ++ state_shows program state;
          kept = put ∙ ap (λ (o : Option (List Event)). recorded o (state_shows program state)) going.kept
              ∙ recorded-then before going.shown (state_shows program state);
          goes = λ later stand answer traces. subst (λ (l : List Event). TracedRun program number s steps l stand answer)
              (sym (append_assoc going.shown (state_shows program state) later))
              (going.goes (state_shows program state ++ later) stand answer (traces_on program number left state next later stand answer leads traces));
        }

    -- at the entry
    pub starts : (a : Activation) → IsEntered program number a → CanStart program number s steps →
        IsGoing program number s steps before before (runs (frame_of a s) []) steps
    starts a entered can = record {
      holds = record {
        fitting = record {
          proc = proc;
          statements = subst (AllByRecursion (StatementFits program.types program.procs entry.vars)) (sym entered.body) proc.body;
        };
        well = record { fits = subst (λ (e : ProcEntry). Fits program.types e.vars s) same can.fits; fresh = can.fresh };
        stands = tt;
      };
      named = (entered.there, tt);
      room = can.room;
      shown = [];
      kept = sym (recorded-none before);
      goes = λ later stand answer traces. (
        entry,
        entered.there,
        subst (λ (left : List Stmt). Traces program number steps (runs (record { entry = entry; store = s; left = left }) []) later stand answer)
            entered.body traces,
      );
    }
      where
        entry : ProcEntry
        entry = entry_of a

        proc : ProcFits program.types program.procs entry
        proc = all-at (ProcFits program.types program.procs) program.procs number entry fits.procs entered.there

        same : can.entry ≡ entry
        same = some_same can.entry entry (sym can.there ∙ entered.there)
