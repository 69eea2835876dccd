-- What is measured of each form of statement, and of blocks from their ends.
use Rattle.std.proofs.Common.{◌≡◌, ℕ, min, true, false, not, is_some, Option, Some, None, List, [], ◌∷◌, ◌++◌, length}
use Rattle.std.proofs.Common.{refl, sym, ap, ap₂, ◌∙◌, subst, append_assoc, append-nil}
use Rattle.pale_text.specs.declared.place.Pos.{Pos}
use Rattle.pale_tables.specs.Faults.{Fault}
use Rattle.store_core.specs.Tables.{VarEntry}
use Rattle.store_logic.specs.declared.act.Act.{Act}
use Rattle.store_logic.specs.declared.assertion.Assertion.{Assertion}
use Rattle.store_logic.specs.declared.assertion.Assertion.TheVariants as assertion
use Rattle.store_logic.specs.declared.cond.Cond.{Cond}
use Rattle.store_exec.specs.declared.code.Item.{Item}
use Rattle.store_exec.specs.Fits.{news_of_act}
use Rattle.pale_typed.specs.declared.typed.CallParts.{CallParts}
use Rattle.pale_typed.specs.declared.typed.ProcEntry.{ProcEntry}
use Rattle.pale_typed.specs.declared.typed.TypedProc.{TypedProc}
use Rattle.pale_typed.specs.declared.typed.Stmt.{Stmt}
use Rattle.pale_typed.specs.declared.typed.Stmt.TheVariants as stmt
use Rattle.hoare_split.specs.declared.counts.Count.{Count}
use Rattle.hoare_split.specs.Picking.{those, is_awaited, is_left}
use Rattle.hoare_split.specs.Flows.{Arrival, Flow, ends, branches}
use Rattle.hoare_split.specs.Cuts.{at_assertion, at_call, at_exit}
use Rattle.hoare_split.specs.Starts.{plain_start, call_start, entry_start}
use Rattle.hoare_split.specs.Passages.{Started, Passage, plain, choice, choice_of, branch}
use Rattle.hoare_split.specs.Statements.{passage_of, block_of}
use Rattle.hoare_split.specs.Triples.{count_fault, start_fault, exit_of, procedure_fault}
use Rattle.hoare_split.specs.Measures.{count_of, or_later, first_fault}
use Rattle.hoare_split.proofs.StatementLemmas.{passage-Skip, passage-Do, passage-If, passage-While, passage-Split, passage-Call}
use Rattle.hoare_split.proofs.PlainLemmas.{plain-block}
use Rattle.hoare_split.proofs.MeasuresFlowLemmas.{together, count-ends, count-does, count-branches, count-If, count-settings, start-fault}
use Rattle.hoare_split.proofs.MeasuresFlowLemmas.{first_fault-cons, first_fault-append, then-none}

abbrev pub zero_count : Count
zero_count = record { atoms = 0; news = 0 }

-- that of a condition and of what follows in either case
abbrev pub choice_count : Count → Count → Count
choice_count taken other = together (together (record { atoms = min 129 1; news = 0 }) taken) other

-- ---- what is measured of a passage

-- from the count of what follows it and the first fault there, those from its head on
pub record Measured (p : Passage) (rest made : Count) (old new : Fault) : Type 0 where
  pub count : (flow : Flow) → rest ≡ count_of flow → made ≡ count_of (p.flow flow)
  pub found : (flow : Flow) → rest ≡ count_of flow → new ≡ first_fault (p.starts flow) old

-- the triple of a flow with this count comes before those that were looked at
pub looked : (s : Started) (starts : List Started) (count : Count) (old mid new : Fault) → count ≡ count_of s.flow →
    mid ≡ first_fault starts old → new ≡ or_later (count_fault s.place count.atoms count.news) mid → new ≡ first_fault (s ∷ starts) old
looked s starts count old mid new is before looks = looks
    ∙ ap (λ (k : Count). or_later (count_fault s.place k.atoms k.news) mid) is
    ∙ ap (λ (fault : Fault). or_later fault mid) (start-fault s)
    ∙ ap (or_later (start_fault s)) before
    ∙ sym (first_fault-cons s starts old)

-- ---- choices

choice-cut : (line : ℕ) (c : Cond) (first other : Passage) → not (is_some (choice line c first other).items) ≡ true →
    choice line c first other ≡ branch line c first other
choice-cut line c first other = by first.items other.items
  where
    by : (ones others : Option (List Item)) → not (is_some (choice_of line c first other ones others).items) ≡ true →
        choice_of line c first other ones others ≡ branch line c first other
    by None others cut = refl
    by (Some x) None cut = refl
    by (Some x) (Some y) cut = absurd cc

-- where it has no cut inside, its blocks have none
record ArePlain (line : ℕ) (c : Cond) (first other : Passage) : Type 0 where
  ones : List Item
  others : List Item
  taken : first.items ≡ Some ones
  untaken : other.items ≡ Some others
  whole : choice line c first other ≡ choice_of line c first other (Some ones) (Some others)

choice-plain : (line : ℕ) (c : Cond) (first other : Passage) → not (is_some (choice line c first other).items) ≡ false → ArePlain line c first other
choice-plain line c first other = by first.items other.items refl refl
  where
    by : (ones others : Option (List Item)) → first.items ≡ ones → other.items ≡ others →
        not (is_some (choice_of line c first other ones others).items) ≡ false → ArePlain line c first other
    by None others e1 e2 plain = absurd cc
    by (Some x) None e1 e2 plain = absurd cc
    by (Some x) (Some y) e1 e2 plain = record {
      ones = x;
      others = y;
      taken = e1;
      untaken = e2;
      whole = ap₂ (choice_of line c first other) e1 e2;
    }

-- some arrival
any : Arrival
any = at_exit 0 assertion.True

module _ (procs : List ProcEntry) (vars : List VarEntry) where
  module _ (s : Stmt) where
    pub measured-Skip : s ≡ stmt.Skip → (rest : Count) (found : Fault) → Measured (passage_of procs vars s) rest rest found found
    measured-Skip is rest found = subst (λ p. Measured p rest rest found found) (sym (ap (passage_of procs vars) is ∙ passage-Skip procs vars))
        (record { count = λ flow is. is; found = λ flow is. refl })

    pub measured-Do : (line : ℕ) (a : Act) → s ≡ stmt.Do line a → (rest made : Count) (found : Fault) →
        made ≡ together (record { atoms = 1; news = news_of_act a }) rest → Measured (passage_of procs vars s) rest made found found
    measured-Do line a is rest made found counted = subst (λ p. Measured p rest made found found)
        (sym (ap (passage_of procs vars) is ∙ passage-Do procs vars line a))
        (record {
          count = λ flow here. counted ∙ ap (together (record { atoms = 1; news = news_of_act a })) here ∙ count-does line a flow;
          found = λ flow here. refl;
        })

    module _ (line : ℕ) (c : Cond) (xs ys : List Stmt) (is : s ≡ stmt.If line c xs ys) (rest inside taken other : Count) (old mid new : Fault)
        (one : Measured (block_of procs vars ys) inside other old mid) (two : Measured (block_of procs vars xs) inside taken mid new) where
      chosen : passage_of procs vars s ≡ choice line c (block_of procs vars xs) (block_of procs vars ys)
      chosen = ap (passage_of procs vars) is ∙ passage-If procs vars line c xs ys

      counted : (flow : Flow) → inside ≡ count_of flow →
          choice_count taken other ≡ count_of (branches line c ((block_of procs vars xs).flow flow) ((block_of procs vars ys).flow flow))
      counted flow within = ap₂ choice_count (two.count flow within) (one.count flow within)
          ∙ count-branches line c ((block_of procs vars xs).flow flow) ((block_of procs vars ys).flow flow)

      finds : (flow : Flow) → inside ≡ count_of flow →
          new ≡ first_fault ((block_of procs vars xs).starts flow ++ (block_of procs vars ys).starts flow) old
      finds flow within = two.found flow within ∙ ap (first_fault ((block_of procs vars xs).starts flow)) (one.found flow within)
          ∙ sym (first_fault-append ((block_of procs vars xs).starts flow) ((block_of procs vars ys).starts flow) old)

      -- with a cut inside
      pub measured-branch : not (is_some (passage_of procs vars s).items) ≡ true → inside ≡ rest →
          (made : Count) → made ≡ choice_count taken other → Measured (passage_of procs vars s) rest made old new
      measured-branch cut same made makes =
          let cut_there : not (is_some (choice line c (block_of procs vars xs) (block_of procs vars ys)).items) ≡ true
          = ap (λ p. not (is_some p.items)) (sym chosen) ∙ cut in
          subst (λ p. Measured p rest made old new) (sym (chosen ∙ choice-cut line c (block_of procs vars xs) (block_of procs vars ys) cut_there))
          (record {
            count = λ flow here. makes ∙ counted flow (same ∙ here);
            found = λ flow here. finds flow (same ∙ here);
          })

      -- with none: the count of both before some cut, and no fault there
      pub measured-plain : not (is_some (passage_of procs vars s).items) ≡ false → inside ≡ zero_count →
          (made : Count) → made ≡ together (choice_count taken other) rest → Measured (passage_of procs vars s) rest made old new
      measured-plain none same made makes =
          let none_there : not (is_some (choice line c (block_of procs vars xs) (block_of procs vars ys)).items) ≡ false
          = ap (λ p. not (is_some p.items)) (sym chosen) ∙ none in
          let are = choice-plain line c (block_of procs vars xs) (block_of procs vars ys) none_there in
          let first = plain-block procs vars xs are.ones are.taken in
          let last = plain-block procs vars ys are.others are.untaken in
          let here = same ∙ sym (count-ends any) in
          subst (λ p. Measured p rest made old new) (sym (chosen ∙ are.whole))
          (record {
            count = λ flow behind. makes ∙ ap₂ together (counted (ends any) here
                ∙ ap₂ (λ one two. count_of (branches line c one two)) (first.flow (ends any)) (last.flow (ends any))) behind
                ∙ count-If line c are.ones are.others any any flow;
            found = λ flow behind. finds (ends any) here
                ∙ ap₂ (λ one two. first_fault (one ++ two) old) (first.starts (ends any)) (last.starts (ends any));
          })

    pub measured-While : (place : Pos) (c : Cond) (invariant : Assertion) (body : List Stmt) → s ≡ stmt.While place c invariant body →
        (again rest whole : Count) (old mid new : Fault) → Measured (block_of procs vars body) zero_count again old mid →
        whole ≡ choice_count again rest → new ≡ or_later (count_fault place whole.atoms whole.news) mid →
        Measured (passage_of procs vars s) rest zero_count old new
    measured-While place c invariant body is again rest whole old mid new inner makes looks =
        let arrives = at_assertion place invariant in
        let none = sym (count-ends arrives) in
        subst (λ p. Measured p rest zero_count old new) (sym (ap (passage_of procs vars) is ∙ passage-While procs vars place c invariant body))
        (record {
          count = λ flow here. none;
          found = λ flow here. looked
              (record {
                place = place;
                start = plain_start invariant;
                flow = branches place.line c ((block_of procs vars body).flow (ends arrives)) flow;
              })
              ((block_of procs vars body).starts (ends arrives)) whole old mid new
              (makes ∙ ap₂ choice_count (inner.count (ends arrives) none) here
              ∙ count-branches place.line c ((block_of procs vars body).flow (ends arrives)) flow)
              (inner.found (ends arrives) none) looks;
        })

    pub measured-Split : (place : Pos) (a : Assertion) → s ≡ stmt.Split place a → (rest : Count) (old new : Fault) →
        new ≡ or_later (count_fault place rest.atoms rest.news) old → Measured (passage_of procs vars s) rest zero_count old new
    measured-Split place a is rest old new looks =
        subst (λ p. Measured p rest zero_count old new) (sym (ap (passage_of procs vars) is ∙ passage-Split procs vars place a))
        (record {
          count = λ flow is. sym (count-ends (at_assertion place a));
          found = λ flow is. looked (record { place = place; start = plain_start a; flow = flow }) [] rest old old new is refl looks;
        })

    pub measured-Call : (place : Pos) (call : CallParts) → s ≡ stmt.Call place call → (rest made : Count) (old new : Fault) →
        made ≡ record { atoms = min 129 (length (those (is_awaited call) vars)); news = 0 } →
        new ≡ or_later (count_fault place rest.atoms rest.news) old → Measured (passage_of procs vars s) rest made old new
    measured-Call place call is rest made old new counted looks =
        subst (λ p. Measured p rest made old new) (sym (ap (passage_of procs vars) is ∙ passage-Call procs vars place call))
        (record {
          count = λ flow is. counted ∙ sym (count-settings vars place.line (at_call procs vars place call) (is_awaited call));
          found = λ flow is. looked (record { place = place; start = call_start procs vars call; flow = flow }) [] rest old old new is refl looks;
        })

  -- ---- blocks from their ends

  -- the last statements of a block were measured, and these are left
  pub record Passed (block left : List Stmt) (rest made : Count) (old new : Fault) : Type 0 where
    pub last : List Stmt
    pub all : block ≡ left ++ last
    pub measured : Measured (block_of procs vars last) rest made old new

  pub passed-none : (block : List Stmt) (rest : Count) (found : Fault) → Passed block block rest rest found found
  passed-none block rest found = record {
    last = [];
    all = sym (append-nil block);
    measured = record { count = λ flow is. is; found = λ flow is. refl };
  }

  pub passed-one : (block left before : List Stmt) (s : Stmt) (rest mid made : Count) (old found new : Fault) → left ≡ before ++ s ∷ [] →
      Passed block left rest mid old found → Measured (passage_of procs vars s) mid made found new → Passed block before rest made old new
  passed-one block left before s rest mid made old found new is passed one = record {
    last = s ∷ passed.last;
    all = passed.all ∙ ap (λ xs. xs ++ passed.last) is ∙ append_assoc before (s ∷ []) passed.last;
    measured = record {
      count = λ flow is. one.count ((block_of procs vars passed.last).flow flow) (passed.measured.count flow is);
      found = λ flow is. one.found ((block_of procs vars passed.last).flow flow) (passed.measured.count flow is)
          ∙ ap (first_fault ((passage_of procs vars s).starts ((block_of procs vars passed.last).flow flow))) (passed.measured.found flow is)
          ∙ sym (first_fault-append ((passage_of procs vars s).starts ((block_of procs vars passed.last).flow flow))
          ((block_of procs vars passed.last).starts flow) old);
    };
  }

  pub passed-all : (block left : List Stmt) (rest made : Count) (old new : Fault) → left ≡ [] →
      Passed block left rest made old new → Measured (block_of procs vars block) rest made old new
  passed-all block left rest made old new none passed =
      subst (λ all. Measured (block_of procs vars all) rest made old new) (sym (passed.all ∙ ap (λ xs. xs ++ passed.last) none)) passed.measured

  -- ---- procedures

  pub measured-procedure : (p : TypedProc) (exit body : Count) (mid new : Fault) →
      exit ≡ record { atoms = min 129 (length (those (is_left p) vars)); news = 0 } → Measured (block_of procs vars p.body) exit body None mid →
      new ≡ or_later (count_fault p.place body.atoms body.news) mid → new ≡ procedure_fault procs (record { vars = vars; proc = p })
  measured-procedure p exit body mid new makes measured looks =
      let here = makes ∙ sym (count-settings vars p.last (at_exit p.last p.post) (is_left p)) in
      looked (record { place = p.place; start = entry_start vars p; flow = (block_of procs vars p.body).flow (exit_of vars p) })
      ((block_of procs vars p.body).starts (exit_of vars p)) body None mid new
      (measured.count (exit_of vars p) here) (measured.found (exit_of vars p) here) looks
      ∙ then-none (procedure_fault procs (record { vars = vars; proc = p }))
