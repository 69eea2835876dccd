-- Settings to null or false make no cell and never fail.
use Rattle.std.proofs.Common.{◌≡◌, ◌+◌, inl, inr, ℕ, Bool, true, false, List, [], ◌∷◌, map, if◌then◌else◌, Result, Ok, Err}
use Rattle.std.proofs.Common.{refl, sym, ap, ◌∙◌, arith}
use Rattle.std.proofs.lemmas.List.Sums.{sum_by-cons}
use Rattle.store_core.specs.declared.ids.VarId.{VarId}
use Rattle.store_core.specs.declared.value.Value.{Value}
use Rattle.store_core.specs.declared.value.Value.TheVariants as value
use Rattle.store_core.specs.Tables.{TypeEntry, VarEntry}
use Rattle.store_core.specs.Stores.{StoreMap, set_var}
use Rattle.store_logic.specs.declared.path.Operand.TheVariants as operand
use Rattle.store_logic.specs.declared.cond.Cond.TheVariants as condition
use Rattle.store_logic.specs.declared.cond.Cond.TheOpen.{Cond-F}
use Rattle.store_logic.specs.declared.cond.Cond.TheFolds.{fold-roll-Cond}
use Rattle.store_logic.specs.declared.act.Act.{Act}
use Rattle.store_logic.specs.declared.act.Act.TheVariants as act
use Rattle.store_logic.specs.declared.act.Rhs.TheVariants as rhs
use Rattle.store_exec.specs.declared.cause.Cause.{Cause}
use Rattle.store_exec.specs.declared.fault.Fault.{Fault}
use Rattle.store_exec.specs.Steps.{made_of, truth_node, truth_of, assigned}
use Rattle.store_exec.specs.Runs.{RunsItem, RunsItems}
use Rattle.store_exec.specs.Fits.{news_of_act, news_of_rhs, news_of_item, news_of}
use Rattle.store_exec.proofs.RunLemmas.{RunsItem-Do}
use Rattle.store_exec.proofs.GoingLemmas.{news-Do}
use Rattle.pale_calls.specs.declared.class.VarClass.{VarClass}
use Rattle.pale_calls.specs.Classes.{holds_cell}
use Rattle.hoare_split.specs.Picking.{class_at, those}
use Rattle.hoare_split.specs.Settings.{blank, setting, settings}

-- ---- they make no cell

no_new : (b : Bool) → news_of_rhs (if b then rhs.Cell operand.Null else rhs.Truth condition.False) ≡ 0
no_new true = refl
no_new false = refl

pub news_none : (vars : List VarEntry) (line : ℕ) (vs : List VarId) → news_of (map (setting vars line) vs) ≡ 0
news_none vars line [] = refl
news_none vars line (v ∷ vs) =
    let a : Act = act.Assign (record { var = v; fields = [] }) (blank (class_at vars v)) in
    let whole : news_of (map (setting vars line) (v ∷ vs)) ≡ news_of_item (setting vars line v) + news_of (map (setting vars line) vs)
    = sum_by-cons news_of_item (setting vars line v) (map (setting vars line) vs) in
    let first : news_of_item (setting vars line v) ≡ news_of_act a = news-Do line a in
    let own : news_of_act a ≡ 0 = no_new (holds_cell (class_at vars v)) in
    let more = news_none vars line vs in
    omega (arith, whole, first, own, more)

pub settings_none : (vars : List VarEntry) (test : VarClass → VarId → Bool) (line : ℕ) → news_of (settings vars test line) ≡ 0
settings_none vars test line = news_none vars line (those test vars)

-- ---- they never fail

false_is : (s : StoreMap) → truth_of s condition.False ≡ Ok false
false_is s = ap (truth_of s) (sym condition.rolls-False) ∙ fold-roll-Cond (Result Bool Cause) (truth_node s) Cond-F.False

module _ (types : List TypeEntry) (vars : List VarEntry) (line : ℕ) where
  blank_ends : (s : StoreMap) (v : VarId) (why : Cause) (b : Bool) →
      assigned types s v [] (if b then rhs.Cell operand.Null else rhs.Truth condition.False) ≡ Err why → ⊥
  blank_ends s v why true e = absurd cc
  blank_ends s v why false e =
      let made : made_of {Y = StoreMap} (λ (got : StoreMap × Value). set_var got.0 v got.1) (made_of (λ truth. (s, value.Bool truth)) (Ok false)) ≡ Err why =
      ap (λ (r : Result Bool Cause). made_of {Y = StoreMap} (λ (got : StoreMap × Value). set_var got.0 v got.1)
      (made_of (λ truth. (s, value.Bool truth)) r)) (sym (false_is s))
      ∙ e in
      absurd cc

  one_ends : (v : VarId) (s : StoreMap) (fault : Fault) → RunsItem types (setting vars line v) s (Err fault) → ⊥
  one_ends v s fault ran =
      let a : Act = act.Assign (record { var = v; fields = [] }) (blank (class_at vars v)) in
      blank_ends s v fault.cause (holds_cell (class_at vars v)) ((RunsItem-Do types line a s (Err fault)).0 ran).0

  pub all_end : (vs : List VarId) (s : StoreMap) (fault : Fault) → RunsItems types (map (setting vars line) vs) s (Err fault) → ⊥
  all_end [] s fault is = absurd cc
  all_end (v ∷ vs) s fault (inl (t, ran, more)) = all_end vs t fault more
  all_end (v ∷ vs) s fault (inr (stop, ran, is)) = one_ends v s stop ran
