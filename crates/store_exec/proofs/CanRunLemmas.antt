-- Code that can be run goes on.
use Rattle.std.proofs.Common.{◌≡◌, ℕ, ◌+◌, ◌≤◌, List, Ok, refl, sym, ap, ◌∙◌, subst, arith}
use mathlib.Core.Path.{transport}
use Rattle.store_core.specs.Tables.{TypeEntry, VarEntry}
use Rattle.store_core.specs.Stores.{StoreMap}
use Rattle.store_logic.specs.declared.cond.Cond.{Cond}
use Rattle.store_logic.specs.FitsCode.{CondFits}
use Rattle.store_exec.specs.declared.code.Code.{Code, roll-out-Code, out-Code}
use Rattle.store_exec.specs.declared.code.Tail.{Tail}
use Rattle.store_exec.specs.declared.code.Tail.TheVariants as tail
use Rattle.store_exec.specs.declared.code.Tail.TheVariants.{rolls-Branch}
use Rattle.store_exec.specs.declared.code.Tail.TheOpen.{Tail-F, Code-F}
use Rattle.store_exec.specs.declared.code.Tail.TheFolds.{rec-Tail, rec-roll-Tail, rec-roll-Code, fold-Tail, fold-roll-Tail}
use Rattle.store_exec.specs.declared.code.Tail.TheFolds.{fold-roll-Code, map-Tail, map-Code}
use Rattle.store_exec.specs.Runs.{RunsItems}
use Rattle.store_exec.specs.Fits.{ItemsFit, news_of, TailFitsNode, CodeFitsNode, CodeFits, news_of_tail, news_of_code, CanRunCode}
use Rattle.store_exec.specs.Going.{CanRun}
use Rattle.store_exec.proofs.ItemsKeepLemmas.{IsWellAfter, items-keep}

module _ (types : List TypeEntry) (vars : List VarEntry) where
  abbrev pub TailFits : Tail → Type 0
  TailFits = rec-Tail (Type 0) (Type 0) (TailFitsNode types vars) (CodeFitsNode types vars)

  natural-tail : (T C : Type 0) (v : T → Tail) (w : C → Code) (k : Tail → Type 0) (l : Code → Type 0) (x : Tail-F T C) →
      TailFitsNode types vars T C v w (λ p. k (v p)) (λ p. l (w p)) x ≡ TailFitsNode types vars Tail Code (λ y. y) (λ y. y) k l (map-Tail T C Tail Code v w x)
  natural-tail T C v w k l (Tail-F.Cut place) = refl
  natural-tail T C v w k l (Tail-F.Branch line c taken other) = refl

  natural-code : (T C : Type 0) (v : T → Tail) (w : C → Code) (k : Tail → Type 0) (l : Code → Type 0) (x : Code-F T C) →
      CodeFitsNode types vars T C v w (λ p. k (v p)) (λ p. l (w p)) x ≡ CodeFitsNode types vars Tail Code (λ y. y) (λ y. y) k l (map-Code T C Tail Code v w x)
  natural-code T C v w k l x = refl

  pub code-fits : (c : Code) → CodeFits types vars c → ItemsFit types vars c.items × TailFits c.tail
  code-fits c = transport (λ i. (ap (CodeFits types vars) (sym (roll-out-Code c))
      ∙ rec-roll-Code (Type 0) (Type 0) (TailFitsNode types vars) (CodeFitsNode types vars) natural-code (out-Code c)) i)

  pub branch-fits : (line : ℕ) (b : Cond) (taken other : Code) → TailFits (tail.Branch line b taken other) →
      CondFits types vars b × CodeFits types vars taken × CodeFits types vars other
  branch-fits line b taken other = transport (λ i. (ap TailFits (sym (rolls-Branch line b taken other))
      ∙ rec-roll-Tail (Type 0) (Type 0) (TailFitsNode types vars) (CodeFitsNode types vars) natural-tail (Tail-F.Branch line b taken other)) i)

abbrev pub news_behind : Tail → ℕ
news_behind = fold-Tail ℕ ℕ news_of_tail (λ x. news_of x.items + x.tail)

pub news-code : (c : Code) → news_of_code c ≡ news_of c.items + news_behind c.tail
news-code c = ap news_of_code (sym (roll-out-Code c)) ∙ fold-roll-Code ℕ ℕ news_of_tail (λ x. news_of x.items + x.tail) (out-Code c)

pub news-branch : (line : ℕ) (b : Cond) (taken other : Code) → news_behind (tail.Branch line b taken other) ≡ news_of_code taken + news_of_code other
news-branch line b taken other = ap news_behind (sym (rolls-Branch line b taken other))
    ∙ fold-roll-Tail ℕ ℕ news_of_tail (λ x. news_of x.items + x.tail) (Tail-F.Branch line b taken other)

module _ (types : List TypeEntry) (s : StoreMap) (c : Code) (can : CanRunCode types s c) where
  -- its items can be run
  pub items-can : CanRun types s c.items
  items-can = record {
    vars = can.vars;
    fits = can.fits;
    fresh = can.fresh;
    items_fit = (code-fits types can.vars c can.code_fits).0;
    room = let all = can.room in let own = news-code c in omega (arith, all, own);
  }

  -- and where they end, each code of its branch can
  pub branch-can : (t : StoreMap) (line : ℕ) (b : Cond) (taken other : Code) → c.tail ≡ tail.Branch line b taken other → RunsItems types c.items s (Ok t) →
      CanRunCode types t taken × CanRunCode types t other
  branch-can t line b taken other is runs = (
    record {
      vars = can.vars;
      fits = (after.well).fits;
      fresh = (after.well).fresh;
      code_fits = both.1;
      room = let all = can.room in let own = news-code c in omega (arith, all, own, bound, behind);
    },
    record {
      vars = can.vars;
      fits = (after.well).fits;
      fresh = (after.well).fresh;
      code_fits = both.2;
      room = let all = can.room in let own = news-code c in omega (arith, all, own, bound, behind);
    },
  )
    where
      after : IsWellAfter types can.vars s (news_of c.items) t
      after = items-keep types can.vars c.items s t (record { fits = can.fits; fresh = can.fresh }) (code-fits types can.vars c can.code_fits).0 runs

      bound : t.next ≤ s.next + news_of c.items
      bound = after.next

      both : CondFits types can.vars b × CodeFits types can.vars taken × CodeFits types can.vars other
      both = branch-fits types can.vars line b taken other (subst (TailFits types can.vars) is (code-fits types can.vars c can.code_fits).1)

      behind : news_behind c.tail ≡ news_of_code taken + news_of_code other
      behind = ap news_behind is ∙ news-branch line b taken other
