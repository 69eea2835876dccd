-- Settings to null or false: the variables are so afterwards.
use Rattle.std.proofs.Common.{◌≡◌, inl, inr, ℕ, Bool, true, false, List}
use Rattle.std.proofs.Common.{[], ◌∷◌, map, IsSome, IsSomeAnd, if◌then◌else◌, is_some}
use Rattle.std.proofs.Common.{Result, Ok, refl, sym, ap, ◌∙◌, subst}
use Rattle.std.specs.List.{AllByRecursion}
use Rattle.std.proofs.lemmas.Bool.{cases_eq}
use Rattle.store_core.specs.declared.ids.VarId.{VarId}
use Rattle.store_core.specs.declared.value.Value.{Value}
use Rattle.store_core.specs.declared.value.Value.TheVariants as value
use Rattle.store_core.specs.Tables.{TypeEntry, VarEntry}
use Rattle.store_core.specs.Stores.{StoreMap, IsFresh, var_value, set_var}
use Rattle.store_laws.specs.Changed.{IsVarSet}
use Rattle.store_laws.proofs.ChangeLemmas.{IsVarSet-set_var}
use Rattle.store_logic.specs.declared.path.Operand.TheVariants as operand
use Rattle.store_logic.specs.declared.cond.Cond.TheVariants as condition
use Rattle.store_logic.specs.declared.cond.Cond.TheOpen.{Cond-F}
use Rattle.store_logic.specs.declared.cond.Cond.TheFolds.{fold-roll-Cond}
use Rattle.store_logic.specs.declared.act.Act.{Act}
use Rattle.store_logic.specs.declared.act.Act.TheVariants as act
use Rattle.store_logic.specs.declared.act.Rhs.TheVariants as rhs
use Rattle.store_logic.specs.FitsCode.{ActFits}
use Rattle.store_logic.specs.Terms.{null}
use Rattle.store_exec.specs.declared.cause.Cause.{Cause}
use Rattle.store_exec.specs.Steps.{made_of, truth_node, truth_of, assigned, Step}
use Rattle.store_exec.specs.Runs.{RunsItem, RunsItems}
use Rattle.store_exec.specs.Failing.{IsBlank}
use Rattle.store_exec.specs.Fits.{ItemFits, ItemsFit}
use Rattle.store_exec.proofs.KeepLemmas.{IsWell, Step-keeps, place-of}
use Rattle.store_exec.proofs.SortLemmas.{ok-one}
use Rattle.store_exec.proofs.RunLemmas.{RunsItem-Do}
use Rattle.store_exec.proofs.GoingLemmas.{ItemFits-Do}
use Rattle.pale_calls.specs.Classes.{holds_cell}
use Rattle.hoare_split.specs.Picking.{class_at}
use Rattle.hoare_split.specs.Settings.{blank, setting}
use Rattle.whole_run.proofs.Handed.{value_there}
use Rattle.whole_run.proofs.Moving.{Moves, act_moves}

false_is : (s : StoreMap) → truth_of s condition.False ≡ Ok false
false_is s = ap (truth_of s) (sym condition.rolls-False) ∙ fold-roll-Cond (Result Bool Cause) (truth_node s) Cond-F.False

module _ (types : List TypeEntry) (vars : List VarEntry) where
  -- the variable is null or false
  abbrev pub IsBlankIn : StoreMap → VarId → Type 0
  IsBlankIn s v = IsSomeAnd (var_value s v) IsBlank

  -- it is set to this, which is null or false
  record IsBlankSet (s t : StoreMap) (v : VarId) : Type 0 where
    held : Value
    blank : IsBlank held
    is : t ≡ set_var s v held

  blank_set : (s t : StoreMap) (v : VarId) (b : Bool) → assigned types s v [] (if b then rhs.Cell operand.Null else rhs.Truth condition.False) ≡ Ok t →
      IsBlankSet s t v
  blank_set s t v true e = record { held = null; blank = refl; is = sym (ok-one (set_var s v null) t e) }
  blank_set s t v false e =
      let made : made_of {Y = StoreMap} (λ (got : StoreMap × Value). set_var got.0 v got.1) (made_of (λ truth. (s, value.Bool truth)) (Ok false)) ≡ Ok t =
      ap (λ (r : Result Bool Cause). made_of {Y = StoreMap} (λ (got : StoreMap × Value). set_var got.0 v got.1) (made_of (λ truth. (s, value.Bool truth)) r))
      (sym (false_is s)) ∙ e in
      record { held = value.Bool false; blank = refl; is = sym (ok-one (set_var s v (value.Bool false)) t made) }

  -- the store afterwards: it is good to go on with, the variable is null or false, and those that were stay so
  pub record IsSet (s t : StoreMap) (v : VarId) : Type 0 where
    pub well : IsWell types vars t
    pub moves : Moves vars s t
    pub own : IsBlankIn t v
    pub others : (u : VarId) → IsBlankIn s u → IsBlankIn t u

  set_one : (line : ℕ) (v : VarId) (s t : StoreMap) → IsWell types vars s → ItemFits types vars (setting vars line v) →
      RunsItem types (setting vars line v) s (Ok t) → IsSet s t v
  set_one line v s t well fit ran = record {
    well = Step-keeps types vars s well.fits well.fresh a t fits step;
    moves = act_moves types vars s t a well.fresh fits step;
    own = own;
    others = λ u before. elim (cases_eq u.0 v.0) [
      | inl same ↦ subst (IsBlankIn t) (ap (λ (n : ℕ). record { 0 = n }) (sym same)) own
      | inr apart ↦ subst (λ o. IsSomeAnd o IsBlank) (sym (ap (λ (z : StoreMap). var_value z u) set.is ∙ changed.other_vars u
          (λ e. apart (ap (λ (x : VarId). x.0) e)))) before
    ];
  }
    where
      a : Act
      a = act.Assign (record { var = v; fields = [] }) (blank (class_at vars v))

      fits : ActFits types vars a
      fits = ItemFits-Do types vars line a fit

      step : Step types s a (Ok t)
      step = (RunsItem-Do types line a s (Ok t)).0 ran

      set : IsBlankSet s t v
      set = blank_set s t v (holds_cell (class_at vars v)) step

      there : IsSome (var_value s v)
      there = let place = place-of types vars v [] fits.0 fits.1 in
          let old = value_there s vars s.vars v.0 place.entry (well.fits).values place.known in ap is_some old.1

      changed : IsVarSet v set.held s (set_var s v set.held)
      changed = IsVarSet-set_var s v set.held there

      own : IsBlankIn t v
      own = subst (λ o. IsSomeAnd o IsBlank) (sym (ap (λ (z : StoreMap). var_value z v) set.is ∙ changed.value)) set.blank

  -- the same of settings in order; and what each step keeps is kept
  pub record AreSet (Kept : StoreMap → Type 0) (s t : StoreMap) (vs : List VarId) : Type 0 where
    pub well : IsWell types vars t
    pub own : AllByRecursion (IsBlankIn t) vs
    pub others : (u : VarId) → IsBlankIn s u → IsBlankIn t u
    pub kept : Kept t

  pub set_all : (Kept : StoreMap → Type 0) → ((s t : StoreMap) → IsFresh s → Moves vars s t → Kept s → Kept t) → (line : ℕ) (vs : List VarId)
      (s t : StoreMap) → IsWell types vars s → ItemsFit types vars (map (setting vars line) vs) → RunsItems types (map (setting vars line) vs) s (Ok t) →
      Kept s → AreSet Kept s t vs
  set_all Kept each line [] s t well fit is kept =
      let same : s ≡ t = cc in
      subst (λ z. AreSet Kept s z []) same (record { well = well; own = tt; others = λ u before. before; kept = kept })
  set_all Kept each line (v ∷ vs) s t well fit (inl (u, ran, more)) kept =
      let one = set_one line v s u well fit.0 ran in
      let rest = set_all Kept each line vs u t one.well fit.1 more (each s u well.fresh one.moves kept) in
      record {
        well = rest.well;
        own = (rest.others v one.own, rest.own);
        others = λ w before. rest.others w (one.others w before);
        kept = rest.kept;
      }
  set_all Kept each line (v ∷ vs) s t well fit (inr (fault, ran, is)) kept = absurd cc
