-- Items one after the other.
use Rattle.std.proofs.Common.{◌≡◌, ℕ, List, [], ◌∷◌, map, refl, sym, ap, ◌∙◌, subst}
use Rattle.store_core.specs.Tables.{TypeEntry, VarEntry}
use Rattle.store_logic.specs.declared.act.Act.{Act}
use Rattle.store_logic.specs.declared.act.Act.TheVariants as act
use Rattle.store_logic.specs.declared.cond.Cond.{Cond}
use Rattle.store_logic.specs.FitsCode.{ActFits}
use Rattle.store_exec.specs.declared.code.Item.{Item}
use Rattle.store_exec.specs.declared.code.Item.TheVariants as item
use Rattle.store_exec.specs.declared.code.Item.TheVariants.{rolls-Do, rolls-If}
use Rattle.store_exec.specs.declared.code.Item.TheOpen.{Item-F}
use Rattle.store_exec.specs.declared.code.Item.TheFolds.{fold-roll-Item}
use Rattle.store_exec.specs.Fits.{ItemsFit}
use Rattle.store_exec.specs.Steps.{truth_of}
use Rattle.store_exec.specs.Runs.{Does, ByTruth, RunsItem, RunsItems}
use Rattle.store_exec.proofs.InductionLemmas.{items-induction}
use Rattle.store_exec.proofs.RunLemmas.{RunsItem-Do, RunsItem-If}
use Rattle.store_exec.proofs.GoingLemmas.{ItemFits-Do, ItemFits-If}
use Rattle.site_list.specs.States.{State, guard}
use Rattle.site_list.specs.Reading.{Told}
use Rattle.site_list.specs.Conditions.{condition}
use Rattle.site_list.specs.Acts.{act_rule}
use Rattle.site_list.specs.Codes.{Going, in_order, plain_if, item_rule, items}
use Rattle.site_list.specs.Codes as codes
use Rattle.triple_meaning.specs.Sites.Doing.{Leads, AreAssertionsMeant}
use Rattle.triple_meaning.proofs.sites.ConditionsLemmas.{condition-means}
use Rattle.triple_meaning.proofs.sites.ActsLemmas.{leads-by, assignment-leads, freeing-leads}
use Rattle.triple_meaning.proofs.sites.AssertingLemmas.{assert-leads}
use Rattle.triple_meaning.proofs.sites.GrowingLemmas.{leads-none, leads-then}
use Rattle.triple_meaning.proofs.sites.IfsLemmas.{if-leads}

module _ (types : List TypeEntry) (vars : List VarEntry) (meant : AreAssertionsMeant types vars) where
  -- an act means its step
  pub act-leads : (line : ℕ) (s : State) (a : Act) → ActFits types vars a →
      Leads types vars s (act_rule types vars line a s) (λ t end. Does types line t a end)
  act-leads line s (act.Assign p x) fits = assignment-leads types vars line s p x fits
  act-leads line s (act.Free v) fits = freeing-leads types vars line s v fits
  act-leads line s (act.Assert claim) fits = assert-leads types vars meant line s claim fits

  -- ---- one item

  item-Do : (line : ℕ) (a : Act) (s : State) → codes.item types vars (item.Do line a) s ≡ act_rule types vars line a s
  item-Do line a s = ap (λ (i : Item). codes.item types vars i s) (sym (rolls-Do line a))
      ∙ ap (λ (go : Going). go s) (fold-roll-Item Going (item_rule types vars) (Item-F.Do line a))

  in_order-items : (xs : List Item) (s : State) → in_order (map (codes.item types vars) xs) s ≡ items types vars xs s
  in_order-items [] s = refl
  in_order-items (x ∷ xs) s = in_order-items xs (codes.item types vars x s)

  item-If : (line : ℕ) (c : Cond) (taken other : List Item) (s : State) →
      codes.item types vars (item.If line c taken other) s
      ≡ plain_if types vars (in_order (map (codes.item types vars) taken)) (in_order (map (codes.item types vars) other))
      (condition types vars line c (guard s) s)
  item-If line c taken other s = ap (λ (i : Item). codes.item types vars i s) (sym (rolls-If line c taken other))
      ∙ ap (λ (go : Going). go s) (fold-roll-Item Going (item_rule types vars) (Item-F.If line c taken other))

  -- ---- all items

  abbrev AreMeant : List Item → Type 0
  AreMeant xs = ItemsFit types vars xs → (s : State) → Leads types vars s (items types vars xs s) (λ t end. RunsItems types xs t end)

  -- an item in front
  in-front : (i : Item) (rest : List Item) (s mid : State) → codes.item types vars i s ≡ mid → Leads types vars s mid (λ t end. RunsItem types i t end) →
      ((z : State) → Leads types vars z (items types vars rest z) (λ t end. RunsItems types rest t end)) →
      Leads types vars s (items types vars (i ∷ rest) s) (λ t end. RunsItems types (i ∷ rest) t end)
  in-front i rest s mid is one others =
      leads-then types vars s (codes.item types vars i s) (items types vars (i ∷ rest) s) (λ t end. RunsItem types i t end)
      (λ t end. RunsItems types rest t end)
      (subst (λ z. Leads types vars s z (λ t end. RunsItem types i t end)) (sym is) one) (others (codes.item types vars i s))

  act-meant : (line : ℕ) (a : Act) (rest : List Item) → AreMeant rest → AreMeant (item.Do line a ∷ rest)
  act-meant line a rest later fits s =
      in-front (item.Do line a) rest s (act_rule types vars line a s) (item-Do line a s)
      (leads-by types vars s (act_rule types vars line a s) (λ t end. Does types line t a end) (λ t end. RunsItem types (item.Do line a) t end)
      (λ t end. (RunsItem-Do types line a t end).0) (act-leads line s a (ItemFits-Do types vars line a fits.0))) (later fits.1)

  way-meant : (xs : List Item) → AreMeant xs → ItemsFit types vars xs → (s : State) →
      Leads types vars s (in_order (map (codes.item types vars) xs) s) (λ t end. RunsItems types xs t end)
  way-meant xs are fits s = subst (λ z. Leads types vars s z (λ t end. RunsItems types xs t end)) (sym (in_order-items xs s)) (are fits s)

  if-meant : (line : ℕ) (c : Cond) (taken other rest : List Item) → AreMeant taken → AreMeant other → AreMeant rest →
      AreMeant (item.If line c taken other ∷ rest)
  if-meant line c taken other rest one two later fits s =
      let parts = ItemFits-If types vars line c taken other fits.0 in
      let told : Told = condition types vars line c (guard s) s in
      let go : Going = in_order (map (codes.item types vars) taken) in
      let go_other : Going = in_order (map (codes.item types vars) other) in
      in-front (item.If line c taken other) rest s (plain_if types vars go go_other told) (item-If line c taken other s)
      (leads-by types vars s (plain_if types vars go go_other told)
      (λ t end. ByTruth line (truth_of t c) (RunsItems types taken t) (RunsItems types other t) end)
      (λ t end. RunsItem types (item.If line c taken other) t end) (λ t end. (RunsItem-If types line c taken other t end).0)
      (if-leads types vars line s told (λ t. truth_of t c) (condition-means types vars line c parts.0 (guard s) s) go go_other
      (λ t end. RunsItems types taken t end) (λ t end. RunsItems types other t end) (way-meant taken one parts.1) (way-meant other two parts.2)))
      (later fits.1)

  pub items-meant : (xs : List Item) → ItemsFit types vars xs → (s : State) →
      Leads types vars s (items types vars xs s) (λ t end. RunsItems types xs t end)
  items-meant = items-induction AreMeant (λ fits s. leads-none types vars s) act-meant if-meant
