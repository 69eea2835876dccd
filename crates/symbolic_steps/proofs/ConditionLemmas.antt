-- Conditions, part by part.
use Rattle.std.proofs.Common.{◌≡◌, ℕ, List, sym, ap, ap₂, ◌∙◌, subst}
use Rattle.store_core.specs.declared.ids.VariantId.{VariantId}
use Rattle.store_core.specs.Tables.{TypeEntry, VarEntry}
use Rattle.store_logic.specs.declared.path.Path.{Path}
use Rattle.store_logic.specs.declared.path.Operand.{Operand}
use Rattle.store_logic.specs.declared.cond.Cond.{Cond, roll-Cond}
use Rattle.store_logic.specs.declared.cond.Cond.TheVariants as cond_is
use Rattle.store_logic.specs.declared.cond.Cond.TheVariants.{rolls-True, rolls-False, rolls-Bool, rolls-Is, rolls-Same, rolls-Not, rolls-And, rolls-Or}
use Rattle.store_logic.specs.declared.cond.Cond.TheOpen.{Cond-F}
use Rattle.store_logic.specs.declared.cond.Cond.TheFolds.{map-Cond, fold-roll-Cond}
use Rattle.ws2s_core.specs.declared.formula.Formula.{Formula}
use Rattle.ws2s_core.specs.declared.formula.Formula.TheVariants.{And, Not}
use Rattle.ws2s_forms.specs.Forms.{or, false_at, true_at}
use Rattle.graph_view.specs.declared.view.Sym.{Sym}
use Rattle.graph_view.specs.Sights.{sight_of}
use Rattle.graph_view.specs.Syms.{is_same}
use Rattle.site_list.specs.States.{Text, State, Got, both, fails, sight}
use Rattle.site_list.specs.Reading.{check_cell, path_value, operand_value, path_truth, is_of_variant}
use Rattle.site_list.specs.Conditions.{Telling, told_variant, then_same, told_not, then_and, then_or, cond_rule, condition}
use Rattle.symbolic_steps.specs.declared.walker.Walker.{Walker}
use Rattle.symbolic_steps.specs.Shown.{shown, Tells}
use Rattle.symbolic_steps.proofs.ShownLemmas.{seen-shown}

module _ (types : List TypeEntry) (vars : List VarEntry) (line next wanted : ℕ) (text : Text) (s : State) where
  pub variant-told : (got : Got) (w1 w2 : Walker) (v : VariantId) (cell : Sym) (formula : Formula) → cell ≡ got.0 → w1 ≡ shown next wanted (got.1) →
      formula ≡ is_of_variant types (sight_of vars w1.view) v cell w1.view.next →
      w2 ≡ shown next wanted (check_cell types vars line text cell (got.1)) →
      (formula ≡ ((told_variant types vars line text v got).0) next) × (w2 ≡ shown next wanted ((told_variant types vars line text v got).1))
  variant-told got w1 w2 v cell formula found is made checks = (
    made ∙ seen-shown vars next wanted (got.1) w1 (λ seen n. is_of_variant types seen v cell n) is
        ∙ ap (λ (u : Sym). is_of_variant types (sight vars (got.1)) v u next) found,
    checks ∙ ap (λ (u : Sym). shown next wanted (check_cell types vars line text u (got.1))) found,
  )

  pub same-told : (q : Operand) (got : Got) (w2 : Walker) (left right : Sym) (formula : Formula) → left ≡ got.0 →
      (right ≡ (operand_value types vars line text q (got.1)).0) × (w2 ≡ shown next wanted ((operand_value types vars line text q (got.1)).1)) →
      formula ≡ is_same w2.view.next left right →
      (formula ≡ ((then_same types vars line text q got).0) next) × (w2 ≡ shown next wanted ((then_same types vars line text q got).1))
  same-told q got w2 left right formula one other made =
      (made ∙ ap (λ (w : Walker). is_same w.view.next left right) other.1 ∙ ap₂ (is_same next) one other.0, other.1)

-- ---- forms with parts

pub not-told : (reached formula inner : Formula) (w0 w1 : Walker) (go : Telling) → Tells reached w0 w1 inner go → formula ≡ Not inner →
    Tells reached w0 w1 formula (λ text s. told_not (go text s))
not-told reached formula inner w0 w1 go one made next wanted text s reaches is =
    let told = one next wanted text s reaches is in (made ∙ ap Not told.0, told.1)

pub and-told : (reached there first second formula : Formula) (w0 w1 w2 : Walker) (left right : Telling) → Tells reached w0 w1 first left →
    there ≡ And reached first → Tells there w1 w2 second right → formula ≡ And first second →
    Tells reached w0 w2 formula (λ text s. then_and text right (left text s))
and-told reached there first second formula w0 w1 w2 left right one joined two made next wanted text s reaches is =
    let told = one next wanted text s reaches is in
    let then = two next wanted (both text (left text s).0) ((left text s).1) (joined ∙ ap₂ And reaches told.0) told.1 in
    (made ∙ ap₂ And told.0 then.0, then.1)

pub or-told : (reached there first second formula : Formula) (w0 w1 w2 : Walker) (left right : Telling) → Tells reached w0 w1 first left →
    there ≡ And reached (Not first) → Tells there w1 w2 second right → formula ≡ or first second →
    Tells reached w0 w2 formula (λ text s. then_or text right (left text s))
or-told reached there first second formula w0 w1 w2 left right one joined two made next wanted text s reaches is =
    let told = one next wanted text s reaches is in
    let then = two next wanted (both text (fails (left text s).0)) ((left text s).1) (joined ∙ ap₂ (λ (r f : Formula). And r (Not f)) reaches told.0) told.1 in
    (made ∙ ap₂ or told.0 then.0, then.1)

-- ---- a condition by its form

module _ (types : List TypeEntry) (vars : List VarEntry) (line : ℕ) where
  -- what the form is told as
  abbrev pub by_form : Cond-F Cond → Telling
  by_form x = cond_rule types vars line (map-Cond Cond Telling (condition types vars line) x)

  pub condition-is : (x : Cond-F Cond) (c d : Cond) → c ≡ d → roll-Cond x ≡ d → condition types vars line c ≡ by_form x
  condition-is x c d is rolls =
      ap (condition types vars line) (is ∙ sym rolls) ∙ fold-roll-Cond Telling (cond_rule types vars line) x

  pub as-form : (x : Cond-F Cond) (c d : Cond) (reached formula : Formula) (w0 w1 : Walker) → c ≡ d → roll-Cond x ≡ d →
      Tells reached w0 w1 formula (by_form x) → Tells reached w0 w1 formula (condition types vars line c)
  as-form x c d reached formula w0 w1 is rolls told = subst (Tells reached w0 w1 formula) (sym (condition-is x c d is rolls)) told

-- ---- each form

module _ (types : List TypeEntry) (vars : List VarEntry) where
  -- at any line the condition is told so
  abbrev pub Told_as : Formula → Walker → Walker → Formula → Cond → Type 0
  Told_as reached w0 w1 formula c = (line : ℕ) → Tells reached w0 w1 formula (condition types vars line c)

  pub tells-True : (c : Cond) (reached formula : Formula) (w : Walker) → c ≡ cond_is.True → formula ≡ true_at w.view.next → Told_as reached w w formula c
  tells-True c reached formula w is made line =
      as-form types vars line Cond-F.True c cond_is.True reached formula w w is rolls-True
      (λ next wanted text s reaches at. (made ∙ ap (λ (v : Walker). true_at v.view.next) at, at))

  pub tells-False : (c : Cond) (reached formula : Formula) (w : Walker) → c ≡ cond_is.False → formula ≡ false_at w.view.next → Told_as reached w w formula c
  tells-False c reached formula w is made line =
      as-form types vars line Cond-F.False c cond_is.False reached formula w w is rolls-False
      (λ next wanted text s reaches at. (made ∙ ap (λ (v : Walker). false_at v.view.next) at, at))

  pub tells-Bool : (c : Cond) (p : Path) (reached formula : Formula) (w0 w1 : Walker) → c ≡ cond_is.Bool p →
      ((line : ℕ) → Tells reached w0 w1 formula (λ text s. path_truth types vars line text p s)) → Told_as reached w0 w1 formula c
  tells-Bool c p reached formula w0 w1 is told line =
      as-form types vars line (Cond-F.Bool p) c (cond_is.Bool p) reached formula w0 w1 is (rolls-Bool p) (told line)

  pub tells-Is : (c : Cond) (p : Path) (v : VariantId) (reached formula : Formula) (w0 w1 : Walker) → c ≡ cond_is.Is p v →
      ((line : ℕ) → Tells reached w0 w1 formula (λ text s. told_variant types vars line text v (path_value types vars line text p s))) →
      Told_as reached w0 w1 formula c
  tells-Is c p v reached formula w0 w1 is told line =
      as-form types vars line (Cond-F.Is p v) c (cond_is.Is p v) reached formula w0 w1 is (rolls-Is p v) (told line)

  pub tells-Same : (c : Cond) (p q : Operand) (reached formula : Formula) (w0 w1 : Walker) → c ≡ cond_is.Same p q →
      ((line : ℕ) → Tells reached w0 w1 formula (λ text s. then_same types vars line text q (operand_value types vars line text p s))) →
      Told_as reached w0 w1 formula c
  tells-Same c p q reached formula w0 w1 is told line =
      as-form types vars line (Cond-F.Same p q) c (cond_is.Same p q) reached formula w0 w1 is (rolls-Same p q) (told line)

  -- the parts stand in boxes, x and y
  pub tells-Not : (c part x : Cond) (reached formula inner : Formula) (w0 w1 : Walker) → c ≡ cond_is.Not part → x ≡ part →
      Told_as reached w0 w1 inner x → formula ≡ Not inner → Told_as reached w0 w1 formula c
  tells-Not c part x reached formula inner w0 w1 is x_is one made line =
      as-form types vars line (Cond-F.Not x) c (cond_is.Not x) reached formula w0 w1 (is ∙ ap cond_is.Not (sym x_is)) (rolls-Not x)
      (not-told reached formula inner w0 w1 (condition types vars line x) (one line) made)

  pub tells-And : (c left right x y : Cond) (reached there first second formula : Formula) (w0 w1 w2 : Walker) → c ≡ cond_is.And left right →
      x ≡ left → y ≡ right → Told_as reached w0 w1 first x → there ≡ And reached first → Told_as there w1 w2 second y →
      formula ≡ And first second → Told_as reached w0 w2 formula c
  tells-And c left right x y reached there first second formula w0 w1 w2 is x_is y_is one joined two made line =
      as-form types vars line (Cond-F.And x y) c (cond_is.And x y) reached formula w0 w2 (is ∙ ap₂ cond_is.And (sym x_is) (sym y_is)) (rolls-And x y)
      (and-told reached there first second formula w0 w1 w2 (condition types vars line x) (condition types vars line y) (one line) joined (two line) made)

  pub tells-Or : (c left right x y : Cond) (reached there first second formula : Formula) (w0 w1 w2 : Walker) → c ≡ cond_is.Or left right →
      x ≡ left → y ≡ right → Told_as reached w0 w1 first x → there ≡ And reached (Not first) → Told_as there w1 w2 second y →
      formula ≡ or first second → Told_as reached w0 w2 formula c
  tells-Or c left right x y reached there first second formula w0 w1 w2 is x_is y_is one joined two made line =
      as-form types vars line (Cond-F.Or x y) c (cond_is.Or x y) reached formula w0 w2 (is ∙ ap₂ cond_is.Or (sym x_is) (sym y_is)) (rolls-Or x y)
      (or-told reached there first second formula w0 w1 w2 (condition types vars line x) (condition types vars line y) (one line) joined (two line) made)
