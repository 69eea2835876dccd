-- Items and acts as codes.
use Rattle.std.proofs.Common.{◌≡◌, ◌+◌, inl, inr, ℕ, Bool, List, [], ◌∷◌, Ok, Err, refl, sym, ap, ◌∙◌, subst, arith}
use mathlib.Core.Path.{transport}
use Rattle.std.proofs.lemmas.List.Sums.{sum_by-cons}
use Rattle.store_core.specs.declared.ids.VarId.{VarId}
use Rattle.store_core.specs.Tables.{TypeEntry, VarEntry}
use Rattle.store_core.specs.Stores.{StoreMap}
use Rattle.store_logic.specs.declared.act.Act.{Act}
use Rattle.store_logic.specs.FitsCode.{ActFits}
use Rattle.store_exec.specs.declared.cause.Cause.{Cause}
use Rattle.store_exec.specs.declared.fault.Fault.{Fault}
use Rattle.store_exec.specs.declared.outcome.Outcome.{Outcome}
use Rattle.store_exec.specs.declared.outcome.Outcome.TheVariants as outcome
use Rattle.store_exec.specs.declared.code.Item.{Item}
use Rattle.store_exec.specs.declared.code.Item.TheVariants as item
use Rattle.store_exec.specs.declared.code.Code.{Code, roll-Code, out-roll-Code}
use Rattle.store_exec.specs.declared.code.Tail.{Tail}
use Rattle.store_exec.specs.declared.code.Tail.TheVariants as tail
use Rattle.store_exec.specs.declared.code.Tail.TheOpen.{Tail-F, Code-F}
use Rattle.store_exec.specs.declared.code.Tail.TheFolds.{rec-roll-Tail, rec-roll-Code, fold-roll-Tail, fold-roll-Code, map-Tail, map-Code}
use Rattle.store_exec.specs.Runs.{RunsItems, Follows, RunsCode}
use Rattle.store_exec.specs.Fits.{ItemsFit, TailFitsNode, CodeFitsNode, CodeFits, news_of_item, news_of, news_of_tail, news_of_code, CanRunCode}
use Rattle.store_exec.specs.Going.{CanRun}
use Rattle.store_exec.proofs.CanRunLemmas.{TailFits, news_behind}
use Rattle.store_exec.proofs.CodeLemmas.{code-cut}
use Rattle.store_exec.proofs.GoingLemmas.{news-Do}
use Rattle.hoare_split.specs.Settings.{settings}
use Rattle.hoare_split.proofs.FittingCodeLemmas.{Do-fits}
use Rattle.pale_calls.specs.declared.class.VarClass.{VarClass}
use Rattle.pale_typed.specs.declared.typed.ProcEntry.{ProcEntry}
use Rattle.pale_typed.specs.TypedPrograms.{TypedProgram}
use Rattle.whole_turns.specs.Turning.{IsReady, CanSet}
use Rattle.whole_run.proofs.AnswerSettings.{settings_none}
use Rattle.whole_run.proofs.AnswerSteps.{one_new}

-- ---- codes that fit

abbrev pub ending_code : List Item → ℕ → Code
ending_code items place = roll-Code (record { items = items; tail = tail.Cut place })

module _ (types : List TypeEntry) (vars : List VarEntry) where
  natural-tail : (T C : Type 0) (v : T → Tail) (w : C → Code) (k : Tail → Type 0) (l : Code → Type 0) (x : Tail-F T C) →
      TailFitsNode types vars T C v w (λ p. k (v p)) (λ p. l (w p)) x ≡ TailFitsNode types vars Tail Code (λ y. y) (λ y. y) k l (map-Tail T C Tail Code v w x)
  natural-tail T C v w k l (Tail-F.Cut place) = refl
  natural-tail T C v w k l (Tail-F.Branch line c taken other) = refl

  natural-code : (T C : Type 0) (v : T → Tail) (w : C → Code) (k : Tail → Type 0) (l : Code → Type 0) (x : Code-F T C) →
      CodeFitsNode types vars T C v w (λ p. k (v p)) (λ p. l (w p)) x ≡ CodeFitsNode types vars Tail Code (λ y. y) (λ y. y) k l (map-Code T C Tail Code v w x)
  natural-code T C v w k l x = refl

  Cut-fits : (place : ℕ) → TailFits types vars (tail.Cut place)
  Cut-fits place = transport (λ i. sym (ap (TailFits types vars) (sym (tail.rolls-Cut place))
      ∙ rec-roll-Tail (Type 0) (Type 0) (TailFitsNode types vars) (CodeFitsNode types vars) natural-tail (Tail-F.Cut place)) i) tt

  made-fits : (x : Code-F Tail Code) → ItemsFit types vars x.items → TailFits types vars x.tail → CodeFits types vars (roll-Code x)
  made-fits x h g =
      transport (λ i. sym (rec-roll-Code (Type 0) (Type 0) (TailFitsNode types vars) (CodeFitsNode types vars) natural-code x) i) (h, g)

  ending-fits : (items : List Item) (place : ℕ) → ItemsFit types vars items → CodeFits types vars (ending_code items place)
  ending-fits items place fit = made-fits (record { items = items; tail = tail.Cut place }) fit (Cut-fits place)

-- ---- how many cells they make

count-roll : (items : List Item) (t : Tail) → news_of_code (roll-Code (record { items = items; tail = t })) ≡ news_of items + news_behind t
count-roll items t = fold-roll-Code ℕ ℕ news_of_tail (λ x. news_of x.items + x.tail) (record { items = items; tail = t })

news-ending : (items : List Item) (place : ℕ) → news_of_code (ending_code items place) ≡ news_of items
news-ending items place =
    let whole = count-roll items (tail.Cut place) in
    let own : news_behind (tail.Cut place) ≡ 0 = ap news_behind (sym (tail.rolls-Cut place))
    ∙ fold-roll-Tail ℕ ℕ news_of_tail (λ x. news_of x.items + x.tail) (Tail-F.Cut place) in
    omega (arith, whole, own)

-- ---- what can be run

pub items_can : (types : List TypeEntry) (s : StoreMap) (items : List Item) (place : ℕ) → CanRun types s items → CanRunCode types s (ending_code items place)
items_can types s items place can = record {
  vars = can.vars;
  fits = can.fits;
  fresh = can.fresh;
  code_fits = ending-fits types can.vars items place can.items_fit;
  room = let less = can.room in let own = news-ending items place in omega (arith, less, own);
}

-- one act of a procedure that is ready
pub act_can : (program : TypedProgram) (entry : ProcEntry) (s : StoreMap) (line : ℕ) (a : Act) → IsReady program entry s →
    ActFits program.types entry.vars a → CanRun program.types s (item.Do line a ∷ [])
act_can program entry s line a ready fits = record {
  vars = entry.vars;
  fits = ready.fits;
  fresh = ready.fresh;
  items_fit = (Do-fits program.types entry.vars line a fits, tt);
  room =
      let all = ready.room in
      let whole : news_of (item.Do line a ∷ []) ≡ news_of_item (item.Do line a) + 0 = sum_by-cons news_of_item (item.Do line a) [] in
      let own = news-Do line a in
      let few = one_new a in
      omega (arith, all, whole, own, few);
}

-- settings can be executed, which make no cell
pub settings_can : (program : TypedProgram) (vars : List VarEntry) (test : VarClass → VarId → Bool) (line : ℕ) (s : StoreMap) →
    CanSet program vars (settings vars test line) s → CanRun program.types s (settings vars test line)
settings_can program vars test line s can = record {
  vars = vars;
  fits = can.fits;
  fresh = can.fresh;
  items_fit = can.items_fit;
  room = let less = can.room in let none = settings_none vars test line in omega (arith, less, none);
}

-- ---- where they lead

module _ (types : List TypeEntry) where
  -- items end where their code does
  follow_end : (items : List Item) (s t : StoreMap) (at place : ℕ) →
      Follows (RunsItems types items s) (λ u o. o ≡ outcome.End at u) (outcome.End place t) → RunsItems types items s (Ok t) × (at ≡ place)
  follow_end items s t at place (inl (u, ran, is)) =
      let same : t ≡ u = cc in let here : at ≡ place = cc in (subst (λ (z : StoreMap). RunsItems types items s (Ok z)) (sym same) ran, here)
  follow_end items s t at place (inr (fault, ran, is)) = absurd cc

  follow_fail : (items : List Item) (s : StoreMap) (at : ℕ) (why : Cause) (line : ℕ) →
      Follows (RunsItems types items s) (λ u o. o ≡ outcome.End at u) (outcome.Fail why line) →
      RunsItems types items s (Err (record { cause = why; line = line }))
  follow_fail items s at why line (inl (u, ran, is)) = absurd cc
  follow_fail items s at why line (inr (fault, ran, is)) =
      let same : fault.cause ≡ why = cc in let here : fault.line ≡ line = cc in
      subst (λ (f : Fault). RunsItems types items s (Err f)) (λ i. record { cause = same i; line = here i }) ran

  code_runs : (items : List Item) (place : ℕ) (s : StoreMap) (out : Outcome) → RunsCode types (ending_code items place) s out →
      Follows (RunsItems types items s) (λ u o. o ≡ outcome.End place u) out
  code_runs items place s out ran =
      let z : Code-F Tail Code = record { items = items; tail = tail.Cut place } in
      let ends : (ending_code items place).tail ≡ tail.Cut place = ap (λ (x : Code-F Tail Code). x.tail) (out-roll-Code z) in
      let own : (ending_code items place).items ≡ items = ap (λ (x : Code-F Tail Code). x.items) (out-roll-Code z) in
      subst (λ (xs : List Item). Follows (RunsItems types xs s) (λ u o. o ≡ outcome.End place u) out) own
      ((code-cut types (ending_code items place) place ends s out).0 ran)

  pub ran_to : (items : List Item) (place : ℕ) (s t : StoreMap) (there : ℕ) → RunsCode types (ending_code items place) s (outcome.End there t) →
      RunsItems types items s (Ok t)
  ran_to items place s t there ran = (follow_end items s t place there (code_runs items place s (outcome.End there t) ran)).0

  pub ran_into : (items : List Item) (place : ℕ) (s : StoreMap) (why : Cause) (line : ℕ) →
      RunsCode types (ending_code items place) s (outcome.Fail why line) → RunsItems types items s (Err (record { cause = why; line = line }))
  ran_into items place s why line ran = follow_fail items s place why line (code_runs items place s (outcome.Fail why line) ran)
