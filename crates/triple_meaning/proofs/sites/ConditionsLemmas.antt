-- Conditions, form by form.
use Rattle.std.proofs.Common.{◌≡◌, ◌↔◌, inl, inr, ℕ, Bool, true, false, not, cond, IsTrue, List, Result, Ok, refl, sym, ap, ◌∙◌, subst}
use mathlib.Core.Path.{transport}
use Rattle.std.proofs.lemmas.Bool.{false≢true}
use Rattle.gta_theory.specs.Assignments.{Assignment}
use Rattle.ws2s_core.specs.Satisfaction.{WSat}
use Rattle.ws2s_core.proofs.SatisfactionLemmas.{WSat-And, WSat-Not}
use Rattle.ws2s_forms.specs.Forms.{true_at, false_at, or}
use Rattle.ws2s_forms.proofs.ConnectivesLemmas.{WSat-false, WSat-true}
use Rattle.ws2s_forms.proofs.LawsLemmas.{law-or}
use Rattle.store_core.specs.Tables.{TypeEntry, VarEntry}
use Rattle.store_core.specs.declared.ids.TypeId.{TypeId}
use Rattle.store_core.specs.declared.value.Value.{Value}
use Rattle.store_core.specs.Stores.{StoreMap}
use Rattle.store_logic.specs.declared.cond.Cond.{Cond, roll-Cond}
use Rattle.store_logic.specs.declared.cond.Cond.TheOpen.{Cond-F}
use Rattle.store_logic.specs.declared.cond.Cond.TheFolds.{ind-Cond, map-Cond, fold-roll-Cond, rec-roll-Cond}
use Rattle.store_logic.specs.Terms.{cell_in}
use Rattle.store_logic.specs.FitsCode.{CondFitsNode, CondFits}
use Rattle.store_exec.specs.declared.cause.Cause.{Cause}
use Rattle.store_exec.specs.Steps.{and_then, made_of, truth_node, truth_of}
use Rattle.store_exec.specs.Steps as exec
use Rattle.graph_view.specs.Syms.{is_same}
use Rattle.graph_view.specs.After.{Standing, StandsFor}
use Rattle.site_list.specs.States.{Text, State, Got, both, fails}
use Rattle.site_list.specs.Reading.{Told, operand_value, path_value}
use Rattle.site_list.specs.Conditions.{Telling, told_not, cond_rule, condition}
use Rattle.triple_meaning.specs.Sites.Places.{Answers}
use Rattle.triple_meaning.specs.Sites.Seeing.{HasRoom, AreDefined, Sees}
use Rattle.triple_meaning.specs.Sites.Answering.{Tells, MeansTruth}
use Rattle.triple_meaning.proofs.sites.PlacesLemmas.{answers-made, answers-weaker}
use Rattle.triple_meaning.proofs.sites.StatesLemmas.{Goes, means-at_once, means-then, means-made, below-after}
use Rattle.triple_meaning.proofs.sites.LookingLemmas.{sees-sits}
use Rattle.triple_meaning.proofs.sites.ReadingLemmas.{cell-of_sort, IsCome, come-path, come-operand}
use Rattle.triple_meaning.proofs.sites.TruthsLemmas.{IsToldAs, tells-path, tells-variant, same-told}

module _ (types : List TypeEntry) (vars : List VarEntry) (line : ℕ) where
  abbrev Tell : Text → State → Told → (StoreMap → Result Bool Cause) → Type 0
  Tell reached s told truth = Tells types vars line reached s told truth

  -- ---- truth values

  true-means : (reached : Text) (s : State) → Tell reached s (true_at, s) (λ t. Ok true)
  true-means reached s =
      means-at_once types vars line reached s (IsToldAs true_at) (λ t. true) (λ next a first t at sees. ((λ h. refl), (λ h. WSat-true next a)))

  false-means : (reached : Text) (s : State) → Tell reached s (false_at, s) (λ t. Ok false)
  false-means reached s =
      means-at_once types vars line reached s (IsToldAs false_at) (λ t. false)
      (λ next a first t at sees. ((λ h. absurd (WSat-false next a h)), (λ h. absurd (false≢true h))))

  -- ---- comparisons

  same-goes : (reached : Text) (s : State) (one other : Got) (ty : TypeId) (value also : StoreMap → Result Value Cause) →
      IsCome types vars line reached s one ty value → IsCome types vars line reached (one.1) other ty also →
      Goes types vars line reached (one.1) (other.1) (λ next a at x. StandsFor a at (one.0) x) value (IsToldAs (λ next. is_same next (one.0) (other.0)))
      (λ t x. made_of (λ y. exec.is_same (cell_in x) (cell_in y)) (also t))
  same-goes reached s one other ty value also come further = record {
    made = further.reads.means.made;
    added = further.reads.means.added;
    is = further.reads.means.is;
    idle = further.reads.means.idle;
    told = λ next a first t at x is stands sees room defined here.
        answers-made next a further.reads.means.added line (also t) (λ y. exec.is_same (cell_in x) (cell_in y)) (λ y. StandsFor a at (other.0) y)
        (IsToldAs (λ next. is_same next (one.0) (other.0)) next a at) (λ y y_is stands_y.
        let (o, x_cell, typed) = cell-of_sort t ty x (come.of_type t sees.seen.fits x is) in
        let (q, y_cell, also_typed) = cell-of_sort t ty y (further.of_type t sees.seen.fits y y_is) in
        let under = come.reads.below next sees.below in
        let below = below-after types vars line reached (one.1) (other.1) (λ next a at x. StandsFor a at (other.0) x) also next further.reads.means sees.below
        room in
        let under_too = further.reads.below next below in
        let told = same-told types vars next a at t (sees-sits types vars next a first (one.1) t at sees) (one.0) (other.0) o q under under_too
        (subst (λ w. StandsFor a at (one.0) w) x_cell stands) (subst (λ w. StandsFor a at (other.0) w) y_cell stands_y) in
        let same : exec.is_same (cell_in x) (cell_in y) ≡ exec.is_same o q =
        ap (λ w. exec.is_same (cell_in w) (cell_in y)) x_cell ∙ ap (λ w. exec.is_same o (cell_in w)) y_cell in (
          (λ h. same ∙ told.0 h),
          (λ h. told.1 (sym same ∙ h)),
        )) (further.reads.means.told next a first t at sees room defined here);
  }

  same-means : (reached : Text) (s : State) (one other : Got) (ty : TypeId) (value also : StoreMap → Result Value Cause) →
      IsCome types vars line reached s one ty value → IsCome types vars line reached (one.1) other ty also →
      Tell reached s (λ next. is_same next (one.0) (other.0), other.1)
      (λ t. and_then (λ x. made_of (λ y. exec.is_same (cell_in x) (cell_in y)) (also t)) (value t))
  same-means reached s one other ty value also come further =
      means-then types vars line reached s (one.1) (other.1) (λ next a at x. StandsFor a at (one.0) x) value
      (IsToldAs (λ next. is_same next (one.0) (other.0))) (λ t x. made_of (λ y. exec.is_same (cell_in x) (cell_in y)) (also t)) come.reads.means
      (same-goes reached s one other ty value also come further)

  -- ---- connectives

  module _ (reached : Text) (s : State) (left : Told) (truth : StoreMap → Result Bool Cause) (means : Tell reached s left truth) where
    not-means : Tell reached s (told_not left) (λ t. made_of not (truth t))
    not-means =
        means-made types vars line reached s (left.1) (IsToldAs (left.0)) truth (IsToldAs (fails (left.0))) (λ t. not) means
        (λ next a first t at b sees is room told. by next a b told)
      where
        by : (next : ℕ) (a : Assignment) (b : Bool) → WSat ((left.0) next) a ↔ IsTrue b → WSat (fails (left.0) next) a ↔ IsTrue (not b)
        by next a true told = ((λ h. absurd ((WSat-Not ((left.0) next) a).0 h (told.1 refl))), (λ h. absurd (false≢true h)))
        by next a false told = ((λ h. refl), (λ h. (WSat-Not ((left.0) next) a).1 (λ k. false≢true (told.0 k))))

    -- the right side is reached where the left one is true
    module _ (right : Told) (also : StoreMap → Result Bool Cause) (means_too : Tell (both reached (left.0)) (left.1) right also) where
      and-goes : Goes types vars line reached (left.1) (right.1) (IsToldAs (left.0)) truth (IsToldAs (both (left.0) (right.0)))
          (λ t b. cond b (also t) (Ok false))
      and-goes = record {
        made = means_too.made;
        added = means_too.added;
        is = means_too.is;
        idle = λ next a out. means_too.idle next a (λ h. out ((WSat-And (reached next) ((left.0) next) a).0 h).0);
        told = λ next a first t at b is told sees room defined here. by next a first t at sees room defined here b told;
      }
        where
          by : (next : ℕ) (a : Assignment) (first t : StoreMap) (at : Standing) → Sees types vars next a first (left.1) t at →
              HasRoom types vars next (right.1) → AreDefined next a (right.1) → WSat (reached next) a → (b : Bool) → WSat ((left.0) next) a ↔ IsTrue b →
              Answers next a means_too.added line (cond b (also t) (Ok false)) (IsToldAs (both (left.0) (right.0)) next a at)
          by next a first t at sees room defined here true told =
              let holds = told.1 refl in
              answers-weaker next a means_too.added line (also t) (IsToldAs (right.0) next a at) (IsToldAs (both (left.0) (right.0)) next a at)
              (λ c told_too. (
                (λ h. told_too.0 ((WSat-And ((left.0) next) ((right.0) next) a).0 h).1),
                (λ h. (WSat-And ((left.0) next) ((right.0) next) a).1 (holds, told_too.1 h)),
              ))
              (means_too.told next a first t at sees room defined ((WSat-And (reached next) ((left.0) next) a).1 (here, holds)))
          by next a first t at sees room defined here false told = (
            means_too.idle next a (λ h. false≢true (told.0 ((WSat-And (reached next) ((left.0) next) a).0 h).1)),
            (
              (λ h. absurd (false≢true (told.0 ((WSat-And ((left.0) next) ((right.0) next) a).0 h).0))),
              (λ h. absurd (false≢true h)),
            ),
          )

      and-means : Tell reached s (both (left.0) (right.0), right.1) (λ t. and_then (λ b. cond b (also t) (Ok false)) (truth t))
      and-means =
          means-then types vars line reached s (left.1) (right.1) (IsToldAs (left.0)) truth (IsToldAs (both (left.0) (right.0)))
          (λ t b. cond b (also t) (Ok false)) means and-goes

    -- the right side is reached where the left one is false
    module _ (right : Told) (also : StoreMap → Result Bool Cause) (means_too : Tell (both reached (fails (left.0))) (left.1) right also) where
      abbrev either : Text
      either next = or ((left.0) next) ((right.0) next)

      or-goes : Goes types vars line reached (left.1) (right.1) (IsToldAs (left.0)) truth (IsToldAs either) (λ t b. cond b (Ok true) (also t))
      or-goes = record {
        made = means_too.made;
        added = means_too.added;
        is = means_too.is;
        idle = λ next a out. means_too.idle next a (λ h. out ((WSat-And (reached next) (fails (left.0) next) a).0 h).0);
        told = λ next a first t at b is told sees room defined here. by next a first t at sees room defined here b told;
      }
        where
          by : (next : ℕ) (a : Assignment) (first t : StoreMap) (at : Standing) → Sees types vars next a first (left.1) t at →
              HasRoom types vars next (right.1) → AreDefined next a (right.1) → WSat (reached next) a → (b : Bool) → WSat ((left.0) next) a ↔ IsTrue b →
              Answers next a means_too.added line (cond b (Ok true) (also t)) (IsToldAs either next a at)
          by next a first t at sees room defined here true told =
              let holds = told.1 refl in (
                means_too.idle next a (λ h. (WSat-Not ((left.0) next) a).0 ((WSat-And (reached next) (fails (left.0) next) a).0 h).1 holds),
                ((λ h. refl), (λ h. (law-or ((left.0) next) ((right.0) next) a sees.over.finite).1 (inl holds))),
              )
          by next a first t at sees room defined here false told =
              let fails_left : WSat ((left.0) next) a → ⊥ = λ h. false≢true (told.0 h) in
              answers-weaker next a means_too.added line (also t) (IsToldAs (right.0) next a at) (IsToldAs either next a at)
              (λ c told_too. (
                (λ h. elim ((law-or ((left.0) next) ((right.0) next) a sees.over.finite).0 h) as (λ _. IsTrue c) [
                  | inl one ↦ absurd (fails_left one)
                  | inr other ↦ told_too.0 other
                ]),
                (λ h. (law-or ((left.0) next) ((right.0) next) a sees.over.finite).1 (inr (told_too.1 h))),
              ))
              (means_too.told next a first t at sees room defined
              ((WSat-And (reached next) (fails (left.0) next) a).1 (here, (WSat-Not ((left.0) next) a).1 fails_left)))

      or-means : Tell reached s (either, right.1) (λ t. and_then (λ b. cond b (Ok true) (also t)) (truth t))
      or-means =
          means-then types vars line reached s (left.1) (right.1) (IsToldAs (left.0)) truth (IsToldAs either) (λ t b. cond b (Ok true) (also t)) means or-goes

  -- ---- all forms

  abbrev told_of : Cond → Telling
  told_of = condition types vars line

  abbrev Fit : Cond → Type 0
  Fit = CondFits types vars

  abbrev IsMeant : Cond → Type 0
  IsMeant c = Fit c → MeansTruth types vars line (told_of c) (λ t. truth_of t c)

  abbrev rolled : Cond-F ((c : Cond) × IsMeant c) → Cond-F Cond
  rolled y = map-Cond ((c : Cond) × IsMeant c) Cond (λ e. e.0) y

  natural : (Part : Type 0) (whole : Part → Cond) (fits : Cond → Type 0) (x : Cond-F Part) →
      CondFitsNode types vars Part whole (λ p. fits (whole p)) x ≡ CondFitsNode types vars Cond (λ c. c) fits (map-Cond Part Cond whole x)
  natural Part whole fits Cond-F.True = refl
  natural Part whole fits Cond-F.False = refl
  natural Part whole fits (Cond-F.Bool p) = refl
  natural Part whole fits (Cond-F.Is p v) = refl
  natural Part whole fits (Cond-F.Same p q) = refl
  natural Part whole fits (Cond-F.Not c) = refl
  natural Part whole fits (Cond-F.And c d) = refl
  natural Part whole fits (Cond-F.Or c d) = refl

  form-fits : (x : Cond-F Cond) → Fit (roll-Cond x) → CondFitsNode types vars Cond (λ c. c) Fit x
  form-fits x = transport (λ i. rec-roll-Cond (Type 0) (CondFitsNode types vars) natural x i)

  form-means : (y : Cond-F ((c : Cond) × IsMeant c)) → CondFitsNode types vars Cond (λ c. c) Fit (rolled y) →
      MeansTruth types vars line (cond_rule types vars line (map-Cond Cond Telling told_of (rolled y)))
      (λ t. truth_node t (map-Cond Cond (Result Bool Cause) (truth_of t) (rolled y)))
  form-means Cond-F.True fits reached s = true-means reached s
  form-means Cond-F.False fits reached s = false-means reached s
  form-means (Cond-F.Bool p) fits reached s = tells-path types vars line reached s p fits
  form-means (Cond-F.Is p v) fits reached s =
      tells-variant types vars line reached s v (path_value types vars line reached p s) (λ t. exec.path_value t p) fits.variant
      (come-path types vars line reached s p v.ty fits.path)
  form-means (Cond-F.Same p q) fits reached s =
      let one : Got = operand_value types vars line reached p s in
      same-means reached s one (operand_value types vars line reached q (one.1)) fits.ty (λ t. exec.operand_value t p) (λ t. exec.operand_value t q)
      (come-operand types vars line reached s p fits.ty fits.left) (come-operand types vars line reached (one.1) q fits.ty fits.right)
  form-means (Cond-F.Not u) fits reached s = not-means reached s (told_of u.0 reached s) (λ t. truth_of t u.0) (u.1 fits reached s)
  form-means (Cond-F.And u v) fits reached s =
      let left : Told = told_of u.0 reached s in
      and-means reached s left (λ t. truth_of t u.0) (u.1 fits.0 reached s) (told_of v.0 (both reached (left.0)) (left.1)) (λ t. truth_of t v.0)
      (v.1 fits.1 (both reached (left.0)) (left.1))
  form-means (Cond-F.Or u v) fits reached s =
      let left : Told = told_of u.0 reached s in
      or-means reached s left (λ t. truth_of t u.0) (u.1 fits.0 reached s) (told_of v.0 (both reached (fails (left.0))) (left.1)) (λ t. truth_of t v.0)
      (v.1 fits.1 (both reached (fails (left.0))) (left.1))

  made-means : (y : Cond-F ((c : Cond) × IsMeant c)) → IsMeant (roll-Cond (rolled y))
  made-means y fits =
      subst (λ (tell : Telling). MeansTruth types vars line tell (λ t. truth_of t (roll-Cond (rolled y))))
      (sym (fold-roll-Cond Telling (cond_rule types vars line) (rolled y)))
      (subst (λ (truth : StoreMap → Result Bool Cause).
      MeansTruth types vars line (cond_rule types vars line (map-Cond Cond Telling told_of (rolled y))) truth)
      (λ i t. sym (fold-roll-Cond (Result Bool Cause) (truth_node t) (rolled y)) i) (form-means y (form-fits (rolled y) fits)))

  -- a condition means its truth
  pub condition-means : (c : Cond) → CondFits types vars c → MeansTruth types vars line (condition types vars line c) (λ t. truth_of t c)
  condition-means = ind-Cond IsMeant (λ x y e. subst (λ z. IsMeant (roll-Cond z)) e (made-means y))
