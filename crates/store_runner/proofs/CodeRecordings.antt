-- What is recorded of code.
use Rattle.std.proofs.Common.{◌≡◌, ℕ, Bool, true, false, List, [], ◌∷◌, ◌++◌, Option, Result, Ok, Err, sym, ap, ◌∙◌, subst}
use Rattle.std.proofs.lemmas.List.{append_assoc, append-nil}
use Rattle.store_core.specs.Tables.{TypeEntry}
use Rattle.store_core.specs.Stores.{StoreMap}
use Rattle.store_logic.specs.declared.cond.Cond.{Cond}
use Rattle.store_exec.specs.declared.fault.Fault.{Fault}
use Rattle.store_exec.specs.declared.code.Item.{Item}
use Rattle.store_exec.specs.declared.code.Code.{Code}
use Rattle.store_exec.specs.declared.code.Tail.TheVariants as tail
use Rattle.store_exec.specs.Steps.{truth_of}
use Rattle.store_trace.specs.declared.event.Event.{Event}
use Rattle.store_trace.specs.declared.event.Event.TheVariants as event
use Rattle.store_trace.specs.Recording.{recorded}
use Rattle.store_trace.specs.Tracing.{TracesItems, TracesCode}
use Rattle.store_trace.proofs.CodeTraces.{items-cut, branch-true, branch-false, branch-stop}
use Rattle.store_runner.specs.Recordings.{Records, GoesOn}
use Rattle.store_trace.proofs.RecordedLemmas.{recorded-then}

-- what is said of items, lent as a slice
pub items-ended : {E : Type 0} (types : List TypeEntry) (xs ys : List Item) (s t : StoreMap) (before now : Option (List Event))
    (r : Result (Result (Unit {0}) Fault) E) → ys ≡ xs → Records (TracesItems types ys) s t before now r → r ≡ Ok (Ok tt) →
    (shown : List Event) × TracesItems types xs s shown t (Ok tt) × (now ≡ recorded before shown)
items-ended types xs ys s t before now r same h is =
    subst (λ (zs : List Item). (shown : List Event) × TracesItems types zs s shown t (Ok tt) × (now ≡ recorded before shown)) same
    (subst (Records (TracesItems types ys) s t before now) is h)

pub items-stopped : {E : Type 0} (types : List TypeEntry) (xs ys : List Item) (s t : StoreMap) (before now : Option (List Event))
    (r : Result (Result (Unit {0}) Fault) E) (fault : Fault) → ys ≡ xs → Records (TracesItems types ys) s t before now r → r ≡ Ok (Err fault) →
    (shown : List Event) × TracesItems types xs s shown t (Err fault) × (now ≡ recorded before shown)
items-stopped types xs ys s t before now r fault same h is =
    subst (λ (zs : List Item). (shown : List Event) × TracesItems types zs s shown t (Err fault) × (now ≡ recorded before shown)) same
    (subst (Records (TracesItems types ys) s t before now) is h)

-- the items of a code ended, and what they showed was recorded
module _ (types : List TypeEntry) (c : Code) (s u : StoreMap) (before mid : Option (List Event)) (first : List Event)
    (items : TracesItems types c.items s first u (Ok tt)) (kept : mid ≡ recorded before first) where
  pub cut-end : (place : ℕ) → c.tail ≡ tail.Cut place →
      (later : List Event) × TracesCode types c s later u (Ok place) × (mid ≡ recorded before later)
  cut-end place is = (
    first ++ [],
    items-cut types c s u place first is items,
    kept ∙ ap (λ (l : List Event). recorded before l) (sym (append-nil first)),
  )

  module _ (line : ℕ) (b : Cond) (taken other : Code) (is : c.tail ≡ tail.Branch line b taken other) (now : Option (List Event)) where
    abbrev With : Bool → List Event
    With truth = first ++ event.Truth line truth ∷ []

    told : (truth : Bool) → now ≡ recorded mid (event.Truth line truth ∷ []) → now ≡ recorded before (With truth)
    told truth put = put ∙ ap (λ (o : Option (List Event)). recorded o (event.Truth line truth ∷ [])) kept
        ∙ recorded-then before first (event.Truth line truth ∷ [])

    pub true-goes : truth_of u b ≡ Ok true → now ≡ recorded mid (event.Truth line true ∷ []) →
        GoesOn ℕ (TracesCode types c) (TracesCode types taken) s before u now
    true-goes truth put = record {
      shown = With true;
      kept = told true put;
      goes = λ later t end h. subst (λ (l : List Event). TracesCode types c s l t end) (sym (append_assoc first (event.Truth line true ∷ []) later))
          (branch-true types c s u line b taken other first is items truth later t end h);
    }

    pub false-goes : truth_of u b ≡ Ok false → now ≡ recorded mid (event.Truth line false ∷ []) →
        GoesOn ℕ (TracesCode types c) (TracesCode types other) s before u now
    false-goes truth put = record {
      shown = With false;
      kept = told false put;
      goes = λ later t end h. subst (λ (l : List Event). TracesCode types c s l t end) (sym (append_assoc first (event.Truth line false ∷ []) later))
          (branch-false types c s u line b taken other first is items truth later t end h);
    }

    pub stop-end : (fault : Fault) → truth_of u b ≡ Err fault.cause → fault.line ≡ line → now ≡ mid →
        (later : List Event) × TracesCode types c s later u (Err fault) × (now ≡ recorded before later)
    stop-end fault truth at same = (
      first ++ [],
      branch-stop types c s u line b taken other first is items fault truth at,
      same ∙ kept ∙ ap (λ (l : List Event). recorded before l) (sym (append-nil first)),
    )
