-- Code on two stores that are the same but for the names of their cells leads to the same cut or to the same cause.
use Rattle.std.proofs.Common.{◌≡◌, inl, inr, ℕ, Bool, true, false, List, ◌∷◌, Result, Ok, Err, refl, sym, ap, subst}
use Rattle.store_core.specs.declared.ids.CellId.{CellId}
use Rattle.store_core.specs.Tables.{TypeEntry}
use Rattle.store_core.specs.Stores.{StoreMap}
use Rattle.routing_walks.specs.Pairing.{IsPair}
use Rattle.store_logic.specs.declared.act.Act.{Act}
use Rattle.store_logic.specs.declared.cond.Cond.{Cond}
use Rattle.store_exec.specs.declared.cause.Cause.{Cause}
use Rattle.store_exec.specs.declared.fault.Fault.{Fault}
use Rattle.store_exec.specs.declared.code.Item.{Item}
use Rattle.store_exec.specs.declared.code.Item.TheVariants as item
use Rattle.store_exec.specs.Steps.{truth_of, Step}
use Rattle.store_exec.specs.declared.code.Code.{Code}
use Rattle.store_exec.specs.declared.code.Tail.{Tail}
use Rattle.store_exec.specs.declared.code.Tail.TheVariants as tail
use Rattle.store_exec.specs.declared.outcome.Outcome.{Outcome}
use Rattle.store_exec.specs.declared.outcome.Outcome.TheVariants as outcome
use Rattle.store_exec.specs.Runs.{Ending, Does, ByTruth, RunsItem, RunsItems, Branches, RunsCode}
use Rattle.store_exec.specs.Renamed.{AreRenamed, with_new, StayRenamed, Alike, EndAlike}
use Rattle.store_exec.proofs.RunLemmas.{RunsItem-Do, RunsItem-If}
use Rattle.store_exec.proofs.CodeLemmas.{RunsTail, RunsCode-is, RunsTail-Cut, RunsTail-Branch, items-stop, items-cut, branch-true, branch-false, branch-stop}
use Rattle.store_exec.proofs.InductionLemmas.{items-induction, codes-induction}
use Rattle.store_exec.proofs.RenamedReads.{truth-same}
use Rattle.store_exec.proofs.RenamedChanges.{stay-same, stay-then}
use Rattle.store_exec.proofs.RenamedSteps.{Step-renamed}

-- two ends of items: stores that are the same but for the names of their cells, or the same fault
abbrev pub EndsAlike : List (CellId × CellId) → StoreMap → StoreMap → Ending → Ending → Type 0
EndsAlike pairs s t (Ok next) (Ok other) = StayRenamed pairs s t next other
EndsAlike pairs s t (Err fault) (Err other) = fault ≡ other
EndsAlike pairs s t _ _ = ⊥

module _ (types : List TypeEntry) where
  -- where the items end from t, with an end that is like the one from s
  abbrev pub OtherEnd : List (CellId × CellId) → StoreMap → StoreMap → List Item → Ending → Type 0
  OtherEnd pairs s t xs end = (other : Ending) × RunsItems types xs t other × EndsAlike pairs s t end other

  abbrev Renames : List Item → Type 0
  Renames xs = (pairs : List (CellId × CellId)) (s t : StoreMap) → AreRenamed pairs s t → (end : Ending) → RunsItems types xs s end →
      OtherEnd pairs s t xs end

  -- a later end, from stores in between
  later : (pairs : List (CellId × CellId)) (s t u w : StoreMap) (stay : StayRenamed pairs s t u w) (end other : Ending) →
      EndsAlike (with_new pairs s.next t.next stay.made) u w end other → EndsAlike pairs s t end other
  later pairs s t u w stay (Ok next) (Ok other) k = stay-then pairs s t u w next other stay k
  later pairs s t u w stay (Err fault) (Err other) k = k
  later pairs s t u w stay (Ok next) (Err other) k = absurd k
  later pairs s t u w stay (Err fault) (Ok other) k = absurd k

  -- one item, and then the rest
  first-then : (i : Item) (rest : List Item) → Renames rest → (pairs : List (CellId × CellId)) (s t u : StoreMap) (end first : Ending) →
      RunsItem types i t first → EndsAlike pairs s t (Ok u) first → RunsItems types rest u end → OtherEnd pairs s t (i ∷ rest) end
  first-then i rest more pairs s t u end (Ok w) runs stay after =
      let k = more (with_new pairs s.next t.next stay.made) u w stay.renamed end after in
      (k.0, inl (w, runs, k.1), later pairs s t u w stay end k.0 k.2)
  first-then i rest more pairs s t u end (Err fault) runs stay after = absurd stay

  first-stops : (i : Item) (rest : List Item) (pairs : List (CellId × CellId)) (s t : StoreMap) (fault : Fault) (first : Ending) →
      RunsItem types i t first → EndsAlike pairs s t (Err fault) first → OtherEnd pairs s t (i ∷ rest) (Err fault)
  first-stops i rest pairs s t fault (Ok w) runs k = absurd k
  first-stops i rest pairs s t fault (Err other) runs k = (Err other, inr (other, runs, refl), k)

  -- an item in front of the rest, by where it ends alone
  item-renames : (i : Item) (rest : List Item) → ((pairs : List (CellId × CellId)) (s t : StoreMap) → AreRenamed pairs s t → (end : Ending) →
      RunsItem types i s end → (other : Ending) × RunsItem types i t other × EndsAlike pairs s t end other) → Renames rest → Renames (i ∷ rest)
  item-renames i rest one more pairs s t h end (inl (u, first, after)) =
      let k = one pairs s t h (Ok u) first in first-then i rest more pairs s t u end k.0 k.1 k.2 after
  item-renames i rest one more pairs s t h end (inr (fault, first, is)) =
      let k = one pairs s t h (Err fault) first in
      subst (OtherEnd pairs s t (i ∷ rest)) (sym is) (first-stops i rest pairs s t fault k.0 k.1 k.2)

  does-renames : (line : ℕ) (a : Act) (pairs : List (CellId × CellId)) (s t : StoreMap) → AreRenamed pairs s t → (end : Ending) →
      Does types line s a end → (other : Ending) × Does types line t a other × EndsAlike pairs s t end other
  does-renames line a pairs s t h (Ok next) k = by (Step-renamed types pairs s t h a (Ok next) k)
    where
      by : (q : Result StoreMap Cause) × Step types t a q × Alike (StayRenamed pairs s t) (Ok next) q →
          (other : Ending) × Does types line t a other × EndsAlike pairs s t (Ok next) other
      by (Ok other, step, stay) = (Ok other, step, stay)
      by (Err why, step, stay) = absurd stay
  does-renames line a pairs s t h (Err fault) k = by (Step-renamed types pairs s t h a (Err fault.cause) k.0)
    where
      by : (q : Result StoreMap Cause) × Step types t a q × Alike (StayRenamed pairs s t) (Err fault.cause) q →
          (other : Ending) × Does types line t a other × EndsAlike pairs s t (Err fault) other
      by (Ok other, step, stay) = absurd stay
      by (Err why, step, same) = (Err fault, (subst (λ w. Step types t a (Err w)) (sym same) step, k.1), refl)

  chosen-renames : (line : ℕ) (taken other : List Item) → Renames taken → Renames other → (pairs : List (CellId × CellId)) (s t : StoreMap) →
      AreRenamed pairs s t → (r : Result Bool Cause) (end : Ending) → ByTruth line r (RunsItems types taken s) (RunsItems types other s) end →
      (also : Ending) × ByTruth line r (RunsItems types taken t) (RunsItems types other t) also × EndsAlike pairs s t end also
  chosen-renames line taken other one two pairs s t h (Ok true) end k = one pairs s t h end k
  chosen-renames line taken other one two pairs s t h (Ok false) end k = two pairs s t h end k
  chosen-renames line taken other one two pairs s t h (Err why) end k =
      (Err (record { cause = why; line = line }), refl, subst (λ e. EndsAlike pairs s t e (Err (record { cause = why; line = line }))) (sym k) refl)

  pub items-renamed : (xs : List Item) → Renames xs
  items-renamed = items-induction Renames
      (λ pairs s t h end k. (Ok t, refl, subst (λ e. EndsAlike pairs s t e (Ok t)) (sym k) (stay-same pairs s t h)))
      (λ line a rest more. item-renames (item.Do line a) rest (λ pairs s t h end k.
      let e = does-renames line a pairs s t h end ((RunsItem-Do types line a s end).0 k) in
      (e.0, (RunsItem-Do types line a t e.0).1 e.1, e.2)) more)
      (λ line c taken other rest one two more. item-renames (item.If line c taken other) rest (λ pairs s t h end k.
      let e = chosen-renames line taken other one two pairs s t h (truth_of s c) end ((RunsItem-If types line c taken other s end).0 k) in (
        e.0,
        (RunsItem-If types line c taken other t e.0).1 (subst (λ r. ByTruth line r (RunsItems types taken t) (RunsItems types other t) e.0)
            (truth-same (IsPair pairs) s t h.paired c) e.1),
        e.2,
      )) more)

-- ---- code

module _ (types : List TypeEntry) where
  -- where the code leads from t, with an outcome that is like the one from s
  abbrev pub OtherOutcome : List (CellId × CellId) → StoreMap → StoreMap → Code → Outcome → Type 0
  OtherOutcome pairs s t c out = (other : Outcome) × RunsCode types c t other × EndAlike pairs s t out other

  abbrev RenamesCode : Code → Type 0
  RenamesCode c = (pairs : List (CellId × CellId)) (s t : StoreMap) → AreRenamed pairs s t → (out : Outcome) → RunsCode types c s out →
      OtherOutcome pairs s t c out

  -- a later outcome, from stores in between
  later-outcome : (pairs : List (CellId × CellId)) (s t u w : StoreMap) (stay : StayRenamed pairs s t u w) (out other : Outcome) →
      EndAlike (with_new pairs s.next t.next stay.made) u w out other → EndAlike pairs s t out other
  later-outcome pairs s t u w stay (outcome.End place next) (outcome.End there other) k = (k.0, stay-then pairs s t u w next other stay k.1)
  later-outcome pairs s t u w stay (outcome.Fail why line) (outcome.Fail other at) k = k
  later-outcome pairs s t u w stay (outcome.End place next) (outcome.Fail other at) k = absurd k
  later-outcome pairs s t u w stay (outcome.Fail why line) (outcome.End there other) k = absurd k

  -- a fault of the items
  items-fault : (c : Code) (pairs : List (CellId × CellId)) (s t : StoreMap) (fault : Fault) → OtherEnd types pairs s t c.items (Err fault) →
      OtherOutcome pairs s t c (outcome.Fail fault.cause fault.line)
  items-fault c pairs s t fault (Ok w, runs, k) = absurd k
  items-fault c pairs s t fault (Err other, runs, k) = (
    outcome.Fail other.cause other.line,
    items-stop types c t other runs,
    (ap (λ (f : Fault). f.cause) k, ap (λ (f : Fault). f.line) k),
  )

  module _ (c : Code) where
    -- the items, and then what follows them
    after-items : ((pairs : List (CellId × CellId)) (s t u w : StoreMap) (stay : StayRenamed pairs s t u w) → RunsItems types c.items t (Ok w) →
        (out : Outcome) → RunsTail types c.tail u out → OtherOutcome pairs s t c out) → RenamesCode c
    after-items next pairs s t h out runs = elim ((RunsCode-is types c s out).0 runs) [
      | inl (u, items, after) ↦ by u after (items-renamed types c.items pairs s t h (Ok u) items)
      | inr (fault, items, is) ↦ subst (OtherOutcome pairs s t c) (sym is)
          (items-fault c pairs s t fault (items-renamed types c.items pairs s t h (Err fault) items))
    ]
      where
        by : (u : StoreMap) → RunsTail types c.tail u out → OtherEnd types pairs s t c.items (Ok u) → OtherOutcome pairs s t c out
        by u after (Ok w, items, stay) = next pairs s t u w stay items out after
        by u after (Err fault, items, stay) = absurd stay

    cut-renames : (place : ℕ) → c.tail ≡ tail.Cut place → RenamesCode c
    cut-renames place is = after-items (λ pairs s t u w stay items out after. (
      outcome.End place w,
      items-cut types c t w place is items,
      subst (λ o. EndAlike pairs s t o (outcome.End place w))
          (sym ((RunsTail-Cut types place u out).0 (subst (λ (x : Tail). RunsTail types x u out) is after))) (refl, stay),
    ))

    module _ (line : ℕ) (b : Cond) (taken other : Code) (is : c.tail ≡ tail.Branch line b taken other) (one : RenamesCode taken)
        (two : RenamesCode other) (pairs : List (CellId × CellId)) (s t u w : StoreMap) (stay : StayRenamed pairs s t u w)
        (items : RunsItems types c.items t (Ok w)) where
      branches-rename : (r : Result Bool Cause) → truth_of w b ≡ r → (out : Outcome) →
          Branches line r (RunsCode types taken u) (RunsCode types other u) out → OtherOutcome pairs s t c out
      branches-rename (Ok true) told out h =
          let k = one (with_new pairs s.next t.next stay.made) u w stay.renamed out h in
          (k.0, branch-true types c t w line b taken other is items told k.0 k.1, later-outcome pairs s t u w stay out k.0 k.2)
      branches-rename (Ok false) told out h =
          let k = two (with_new pairs s.next t.next stay.made) u w stay.renamed out h in
          (k.0, branch-false types c t w line b taken other is items told k.0 k.1, later-outcome pairs s t u w stay out k.0 k.2)
      branches-rename (Err why) told out h = (
        outcome.Fail why line,
        branch-stop types c t w line b taken other is items (record { cause = why; line = line }) told refl,
        subst (λ o. EndAlike pairs s t o (outcome.Fail why line)) (sym h) (refl, refl),
      )

      branch-after : (out : Outcome) → RunsTail types c.tail u out → OtherOutcome pairs s t c out
      branch-after out after = branches-rename (truth_of w b) refl out
          (subst (λ r. Branches line r (RunsCode types taken u) (RunsCode types other u) out)
          (truth-same (IsPair (with_new pairs s.next t.next stay.made)) u w stay.renamed.paired b)
          ((RunsTail-Branch types line b taken other u out).0 (subst (λ (x : Tail). RunsTail types x u out) is after)))

    branch-renames : (line : ℕ) (b : Cond) (taken other : Code) → c.tail ≡ tail.Branch line b taken other → RenamesCode taken → RenamesCode other →
        RenamesCode c
    branch-renames line b taken other is one two = after-items (λ pairs s t u w stay items.
        branch-after line b taken other is one two pairs s t u w stay items)

  pub code-renamed : (c : Code) → RenamesCode c
  code-renamed = codes-induction RenamesCode cut-renames branch-renames
