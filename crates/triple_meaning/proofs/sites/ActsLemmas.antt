-- Acts, by the steps that they mean.
use Rattle.std.proofs.Common.{ℕ, List, Ok, Err}
use Rattle.store_core.specs.declared.ids.VarId.{VarId}
use Rattle.store_core.specs.Tables.{TypeEntry, VarEntry, var_at}
use Rattle.store_core.specs.Stores.{StoreMap}
use Rattle.store_core.proofs.FittingLemmas.{IsSomeAnd-at}
use Rattle.store_logic.specs.declared.path.Path.{Path}
use Rattle.store_logic.specs.declared.act.Rhs.{Rhs}
use Rattle.store_logic.specs.declared.act.Act.TheVariants as act
use Rattle.store_logic.specs.FitsCode.{HoldsCell, ActFits}
use Rattle.store_exec.specs.Runs.{Ending, Does}
use Rattle.store_exec.specs.Steps.{variable}
use Rattle.store_exec.specs.Steps as exec
use Rattle.site_list.specs.States.{State}
use Rattle.site_list.specs.Acts.{act_rule}
use Rattle.triple_meaning.specs.Sites.Doing.{Leads}
use Rattle.triple_meaning.proofs.sites.AssigningLemmas.{EndsBy, assign-leads}
use Rattle.triple_meaning.proofs.sites.FreeingLemmas.{free-leads}

-- the same walk, by endings that come to these
pub leads-by : (types : List TypeEntry) (vars : List VarEntry) (s after : State) (One Other : StoreMap → Ending → Type 0) →
    ((t : StoreMap) (end : Ending) → Other t end → One t end) → Leads types vars s after One → Leads types vars s after Other
leads-by types vars s after One Other from leads = record {
  made = leads.made;
  defined = leads.defined;
  added = leads.added;
  checks = leads.checks;
  guard = leads.guard;
  count = leads.count;
  news = leads.news;
  below = leads.below;
  reached = λ next a first t at end sees room defined taken ends. leads.reached next a first t at end sees room defined taken (from t end ends);
  idle = leads.idle;
}

module _ (types : List TypeEntry) (vars : List VarEntry) (line : ℕ) (s : State) where
  pub assignment-leads : (p : Path) (x : Rhs) → ActFits types vars (act.Assign p x) →
      Leads types vars s (act_rule types vars line (act.Assign p x) s) (λ t end. Does types line t (act.Assign p x) end)
  assignment-leads p x fits =
      leads-by types vars s (act_rule types vars line (act.Assign p x) s) (λ t end. EndsBy line (exec.assigned types t p.var p.fields x) end)
      (λ t end. Does types line t (act.Assign p x) end) by (assign-leads types vars line s p.var p.fields x fits.0 fits.1 fits.2)
    where
      by : (t : StoreMap) (end : Ending) → Does types line t (act.Assign p x) end → EndsBy line (exec.assigned types t p.var p.fields x) end
      by t (Ok u) e = e
      by t (Err fault) e = e

  pub freeing-leads : (v : VarId) → ActFits types vars (act.Free v) →
      Leads types vars s (act_rule types vars line (act.Free v) s) (λ t end. Does types line t (act.Free v) end)
  freeing-leads v fits =
      let (entry, there, holds) = IsSomeAnd-at (var_at vars v) (λ (e : VarEntry). HoldsCell e.kind) fits in
      leads-by types vars s (act_rule types vars line (act.Free v) s) (λ t end. EndsBy line (exec.freed t (variable t v)) end)
      (λ t end. Does types line t (act.Free v) end) by (free-leads types vars line s v entry there holds)
    where
      by : (t : StoreMap) (end : Ending) → Does types line t (act.Free v) end → EndsBy line (exec.freed t (variable t v)) end
      by t (Ok u) e = e
      by t (Err fault) e = e
