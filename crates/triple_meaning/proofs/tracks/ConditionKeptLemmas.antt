-- Conditions keep the made tracks defined one after the other, and look at tracks that are there.
use Rattle.std.proofs.Common.{◌≡◌, ℕ, List, refl, sym, subst, arith}
use mathlib.Core.Path.{transport}
use Rattle.ws2s_forms.specs.Forms.{true_at, false_at, or}
use Rattle.store_core.specs.Tables.{TypeEntry, VarEntry}
use Rattle.store_logic.specs.declared.cond.Cond.{Cond, roll-Cond}
use Rattle.store_logic.specs.declared.cond.Cond.TheOpen.{Cond-F}
use Rattle.store_logic.specs.declared.cond.Cond.TheFolds.{ind-Cond, map-Cond, fold-roll-Cond, rec-roll-Cond}
use Rattle.store_logic.specs.Sorts.{Truth, Cell}
use Rattle.store_logic.specs.FitsCode.{CondFitsNode, CondFits}
use Rattle.graph_view.specs.Syms.{is_same}
use Rattle.site_list.specs.States.{Text, State, Got, next_track, both, fails}
use Rattle.site_list.specs.Reading.{Told, path_value, operand_value}
use Rattle.site_list.specs.Conditions.{Telling, cond_rule, condition}
use Rattle.triple_meaning.proofs.tracks.ClearLemmas.{clear-true, clear-false, clear-or}
use Rattle.triple_meaning.proofs.tracks.SightClearLemmas.{clear-is_same}
use Rattle.triple_meaning.proofs.tracks.BelowLemmas.{sym-later}
use Rattle.triple_meaning.proofs.tracks.ValuesLemmas.{IsSteady, steady-more}
use Rattle.triple_meaning.proofs.tracks.KeptLemmas.{IsKept, KeepsGot, KeepsTold, keeps-itself, keeps-then, next-later, kept-check_cell, both-steady}
use Rattle.triple_meaning.proofs.tracks.KeptLemmas.{fails-steady}
use Rattle.triple_meaning.proofs.tracks.ReadKeptLemmas.{path-track, path-kept, path_truth-kept, variant-steady, operand-kept}

module _ (types : List TypeEntry) (vars : List VarEntry) (line : ℕ) where
  -- however it is reached, and from each state that is kept
  abbrev pub TellsKept : Telling → Type 0
  TellsKept tell = (reached : Text) (s : State) → IsKept types vars s → KeepsTold types vars s (tell reached s)

  at-once : (s : State) (text : Text) → IsKept types vars s → IsSteady (next_track types vars s) text → KeepsTold types vars s (text, s)
  at-once s text kept steady = record { keeps = keeps-itself types vars s kept; steady = steady }

  -- two truths, one after the other
  then-kept : (s : State) (left right : Told) (text : Text) → KeepsTold types vars s left → KeepsTold types vars (left.1) right →
      (IsSteady (next_track types vars (right.1)) (left.0) → IsSteady (next_track types vars (right.1)) (right.0) → IsSteady
      (next_track types vars (right.1)) text) →
      KeepsTold types vars s (text, right.1)
  then-kept s left right text one other join = record {
    keeps = keeps-then types vars s (left.1) (right.1) one.keeps other.keeps;
    steady = join
        (steady-more (next_track types vars (left.1)) (next_track types vars (right.1)) (left.0) (next-later types vars (left.1) (right.1) other.keeps.longer)
        one.steady) other.steady;
  }

  same-kept : (reached : Text) (s : State) (one other : Got) → KeepsGot types vars s one → KeepsGot types vars (one.1) other →
      KeepsTold types vars s (λ next. is_same next (one.0) (other.0), other.1)
  same-kept reached s one other first second =
      let more = next-later types vars (one.1) (other.1) second.keeps.longer in
      let n : ℕ = next_track types vars (other.1) in
      record {
        keeps = keeps-then types vars s (one.1) (other.1) first.keeps second.keeps;
        steady = λ next t from less.
            clear-is_same t next (one.0) (other.0) less (sym-later (next_track types vars (one.1)) t (one.0) (omega (arith, more, from)) first.value)
            (sym-later n t (other.0) from second.value);
      }

  -- ---- all forms

  abbrev told_of : Cond → Telling
  told_of = condition types vars line

  abbrev Fit : Cond → Type 0
  Fit = CondFits types vars

  abbrev IsToldKept : Cond → Type 0
  IsToldKept c = Fit c → TellsKept (told_of c)

  abbrev rolled : Cond-F ((c : Cond) × IsToldKept c) → Cond-F Cond
  rolled y = map-Cond ((c : Cond) × IsToldKept c) Cond (λ e. e.0) y

  natural : (Part : Type 0) (whole : Part → Cond) (fits : Cond → Type 0) (x : Cond-F Part) →
      CondFitsNode types vars Part whole (λ p. fits (whole p)) x ≡ CondFitsNode types vars Cond (λ c. c) fits (map-Cond Part Cond whole x)
  natural Part whole fits Cond-F.True = refl
  natural Part whole fits Cond-F.False = refl
  natural Part whole fits (Cond-F.Bool p) = refl
  natural Part whole fits (Cond-F.Is p v) = refl
  natural Part whole fits (Cond-F.Same p q) = refl
  natural Part whole fits (Cond-F.Not c) = refl
  natural Part whole fits (Cond-F.And c d) = refl
  natural Part whole fits (Cond-F.Or c d) = refl

  form-fits : (x : Cond-F Cond) → Fit (roll-Cond x) → CondFitsNode types vars Cond (λ c. c) Fit x
  form-fits x = transport (λ i. rec-roll-Cond (Type 0) (CondFitsNode types vars) natural x i)

  form-kept : (y : Cond-F ((c : Cond) × IsToldKept c)) → CondFitsNode types vars Cond (λ c. c) Fit (rolled y) →
      TellsKept (cond_rule types vars line (map-Cond Cond Telling told_of (rolled y)))
  form-kept Cond-F.True fits reached s kept = at-once s true_at kept (λ next t from less. clear-true t next less)
  form-kept Cond-F.False fits reached s kept = at-once s false_at kept (λ next t from less. clear-false t next less)
  form-kept (Cond-F.Bool p) fits reached s kept = path_truth-kept types vars line reached (path-track types vars p Truth fits) p s kept
  form-kept (Cond-F.Is p v) fits reached s kept =
      let there = path-track types vars p (Cell v.ty) fits.path in
      let got : Got = path_value types vars line reached p s in
      let come = path-kept types vars line reached there p s kept in
      record {
        keeps = record { kept = kept-check_cell types vars line reached (got.0) (got.1) come.keeps.kept; longer = come.keeps.longer };
        steady = variant-steady types vars line reached there v (got.0) (got.1) come.keeps.kept come.value;
      }
  form-kept (Cond-F.Same p q) fits reached s kept =
      let one : Got = operand_value types vars line reached p s in
      let first = operand-kept types vars line reached p (Cell fits.ty) s fits.left kept in
      same-kept reached s one (operand_value types vars line reached q (one.1)) first
      (operand-kept types vars line reached q (Cell fits.ty) (one.1) fits.right first.keeps.kept)
  form-kept (Cond-F.Not u) fits reached s kept =
      let told : Told = told_of u.0 reached s in
      let one = u.1 fits reached s kept in
      record { keeps = one.keeps; steady = fails-steady (next_track types vars (told.1)) (told.0) one.steady }
  form-kept (Cond-F.And u v) fits reached s kept =
      let left : Told = told_of u.0 reached s in
      let right : Told = told_of v.0 (both reached (left.0)) (left.1) in
      let one = u.1 fits.0 reached s kept in
      then-kept s left right (both (left.0) (right.0)) one (v.1 fits.1 (both reached (left.0)) (left.1) one.keeps.kept)
      (both-steady (next_track types vars (right.1)) (left.0) (right.0))
  form-kept (Cond-F.Or u v) fits reached s kept =
      let left : Told = told_of u.0 reached s in
      let right : Told = told_of v.0 (both reached (fails (left.0))) (left.1) in
      let one = u.1 fits.0 reached s kept in
      then-kept s left right (λ next. or ((left.0) next) ((right.0) next)) one (v.1 fits.1 (both reached (fails (left.0))) (left.1) one.keeps.kept)
      (λ first second next t from less.
      clear-or t ((left.0) next) ((right.0) next) (first next t from less) (second next t from less))

  made-kept : (y : Cond-F ((c : Cond) × IsToldKept c)) → IsToldKept (roll-Cond (rolled y))
  made-kept y fits =
      subst (λ (tell : Telling). TellsKept tell) (sym (fold-roll-Cond Telling (cond_rule types vars line) (rolled y)))
      (form-kept y (form-fits (rolled y) fits))

  -- a condition that fits
  pub condition-kept : (c : Cond) → CondFits types vars c → TellsKept (condition types vars line c)
  condition-kept = ind-Cond IsToldKept (λ x y e. subst (λ z. IsToldKept (roll-Cond z)) e (made-kept y))
