-- Items keep a store fitting its tables and fresh, and make no more cells than they have `new`.
use Rattle.std.proofs.Common.{◌≡◌, inl, inr, ℕ, ◌+◌, ◌≤◌, Bool, true, false, List, [], ◌∷◌, map, Result, Ok, Err, sym, subst, arith}
use Rattle.std.proofs.lemmas.List.Sums.{sum_by-cons}
use Rattle.store_core.specs.Tables.{TypeEntry, VarEntry}
use Rattle.store_core.specs.Stores.{StoreMap}
use Rattle.store_logic.specs.FitsCode.{CondFits}
use Rattle.store_exec.specs.declared.cause.Cause.{Cause}
use Rattle.store_exec.specs.declared.code.Item.{Item, roll-Item}
use Rattle.store_exec.specs.declared.code.Item.TheVariants as item
use Rattle.store_exec.specs.declared.code.Item.TheVariants.{rolls-Do, rolls-If}
use Rattle.store_exec.specs.declared.code.Item.TheOpen.{Item-F}
use Rattle.store_exec.specs.declared.code.Item.TheFolds.{ind-Item, map-Item}
use Rattle.store_exec.specs.Steps.{truth_of}
use Rattle.store_exec.specs.Runs.{ByTruth, RunsItem, RunsItems}
use Rattle.store_exec.specs.Fits.{ItemFits, ItemsFit, news_of_item, news_of}
use Rattle.store_exec.proofs.KeepLemmas.{IsWell, Step-keeps}
use Rattle.store_exec.proofs.RunLemmas.{RunsItem-Do, RunsItem-If}
use Rattle.store_exec.proofs.GoingLemmas.{ItemFits-Do, ItemFits-If, news-Do, news-If, Step-next}

-- a store after so many new cells at most
pub record IsWellAfter (types : List TypeEntry) (vars : List VarEntry) (s : StoreMap) (news : ℕ) (t : StoreMap) : Type 0 where
  pub well : IsWell types vars t
  pub next : t.next ≤ s.next + news

module _ (types : List TypeEntry) (vars : List VarEntry) where
  abbrev Keeps : Item → Type 0
  Keeps i = (s t : StoreMap) → IsWell types vars s → ItemFits types vars i → RunsItem types i s (Ok t) → IsWellAfter types vars s (news_of_item i) t

  -- the same of items in order
  in_order : (xs : List ((i : Item) × Keeps i)) (s t : StoreMap) → IsWell types vars s → ItemsFit types vars (map (λ x. x.0) xs) →
      RunsItems types (map (λ x. x.0) xs) s (Ok t) → IsWellAfter types vars s (news_of (map (λ x. x.0) xs)) t
  in_order [] s t well fits is = let same : t ≡ s = cc in subst (IsWellAfter types vars s 0) (sym same) (record { well = well; next = omega arith })
  in_order (x ∷ xs) s t well fits (inl (u, first, rest)) =
      let one = x.1 s u well fits.0 first in
      let more = in_order xs u t one.well fits.1 rest in
      let whole = sum_by-cons news_of_item x.0 (map (λ (y : (i : Item) × Keeps i). y.0) xs) in
      let before = one.next in let after = more.next in
      record { well = more.well; next = omega (arith, whole, before, after) }
  in_order (x ∷ xs) s t well fits (inr (fault, first, is)) = absurd cc

  made : (y : Item-F ((i : Item) × Keeps i)) → Keeps (roll-Item (map-Item ((i : Item) × Keeps i) Item (λ x. x.0) y))
  made (Item-F.Do line a) = subst Keeps (sym (rolls-Do line a)) (λ s t well fits runs.
      let step = (RunsItem-Do types line a s (Ok t)).0 runs in
      let bound = Step-next types s a t step in let own = news-Do line a in
      record { well = Step-keeps types vars s well.fits well.fresh a t (ItemFits-Do types vars line a fits) step; next = omega (arith, bound, own) })
  made (Item-F.If line c taken other) = subst Keeps (sym (rolls-If line c ones others))
      (λ s t well fits runs. by s t well (ItemFits-If types vars line c ones others fits)
      (truth_of s c) ((RunsItem-If types line c ones others s (Ok t)).0 runs))
    where
      ones : List Item
      ones = map (λ (x : (i : Item) × Keeps i). x.0) taken

      others : List Item
      others = map (λ (x : (i : Item) × Keeps i). x.0) other

      own : news_of_item (item.If line c ones others) ≡ news_of ones + news_of others
      own = news-If line c ones others

      by : (s t : StoreMap) → IsWell types vars s → CondFits types vars c × ItemsFit types vars ones × ItemsFit types vars others → (r : Result Bool Cause) →
          ByTruth line r (RunsItems types ones s) (RunsItems types others s) (Ok t) →
          IsWellAfter types vars s (news_of_item (item.If line c ones others)) t
      by s t well fits (Ok true) h = let it = in_order taken s t well fits.1 h in let next = it.next in
          record { well = it.well; next = omega (arith, own, next) }
      by s t well fits (Ok false) h = let it = in_order other s t well fits.2 h in let next = it.next in
          record { well = it.well; next = omega (arith, own, next) }
      by s t well fits (Err why) h = absurd cc

  item-keeps : (i : Item) → Keeps i
  item-keeps = ind-Item Keeps (λ x y e. subst (λ z. Keeps (roll-Item z)) e (made y))

  -- items keep the store so
  pub items-keep : (xs : List Item) (s t : StoreMap) → IsWell types vars s → ItemsFit types vars xs → RunsItems types xs s (Ok t) →
      IsWellAfter types vars s (news_of xs) t
  items-keep [] s t well fits is = let same : t ≡ s = cc in subst (IsWellAfter types vars s 0) (sym same) (record { well = well; next = omega arith })
  items-keep (x ∷ xs) s t well fits (inl (u, first, rest)) =
      let one = item-keeps x s u well fits.0 first in
      let more = items-keep xs u t one.well fits.1 rest in
      let whole = sum_by-cons news_of_item x xs in
      let before = one.next in let after = more.next in
      record { well = more.well; next = omega (arith, whole, before, after) }
  items-keep (x ∷ xs) s t well fits (inr (fault, first, is)) = absurd cc
