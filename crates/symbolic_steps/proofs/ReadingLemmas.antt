-- Fields that are read.
use Rattle.std.proofs.Common.{◌≡◌, ℕ, ◌+◌, ◌<◌, ◌≤◌, List, [], ◌∷◌, ◌++◌, length, take, get_or, refl, sym, ap, ap₂, ◌∙◌, subst, arith}
use Rattle.std.proofs.lemmas.List.{take_more, take_all}
use Rattle.store_core.specs.declared.ids.FieldId.{FieldId}
use Rattle.store_core.specs.Tables.{TypeEntry, VarEntry}
use Rattle.store_logic.specs.declared.path.Path.{Path}
use Rattle.store_logic.specs.declared.path.Operand.{Operand}
use Rattle.store_logic.specs.declared.path.Operand.TheVariants as operand_is
use Rattle.ws2s_core.specs.declared.track.Track.{Track}
use Rattle.ws2s_core.specs.declared.formula.Formula.{Formula}
use Rattle.ws2s_forms.specs.Forms.{track}
use Rattle.tree_encode.specs.Tracks.{track_count}
use Rattle.graph_view.specs.declared.view.Sym.{Sym}
use Rattle.graph_view.specs.declared.view.Sym.TheVariants.{Null, At}
use Rattle.graph_view.specs.Syms as syms
use Rattle.graph_view.specs.Sights.{sight_of}
use Rattle.store_core.specs.declared.ids.VarId.{VarId}
use Rattle.site_list.specs.States.{Text, State, Got, sight, value_of}
use Rattle.site_list.specs.Reading.{check_access, is_read, read, read_along, path_value, operand_value, truth_along, truth_at, Told}
use Rattle.symbolic_steps.specs.declared.walker.Walker.{Walker}
use Rattle.symbolic_steps.specs.Shown.{shown, defining}
use Rattle.symbolic_steps.proofs.ShownLemmas.{seen-shown, make-made}
use Rattle.symbolic_steps.proofs.PlaceLemmas.{access-keeps}

module _ (types : List TypeEntry) (vars : List VarEntry) (line next wanted : ℕ) (text : Text) where
  -- a field more is read
  pub read-made : (s : State) (w1 w2 : Walker) (field : FieldId) (cell : Sym) (own : Track) (definition : Formula) →
      w1 ≡ shown next wanted (check_access types vars line text field cell s) → own ≡ track (track_count types vars + length w1.defined) →
      definition ≡ is_read types (sight_of vars w1.view) field cell own.0 w1.view.next → w2 ≡ defining definition w1 →
      (At own ≡ (read types vars line text field (cell, s)).0) × (w2 ≡ shown next wanted ((read types vars line text field (cell, s)).1))
  read-made s w1 w2 field cell own definition is owned defines made =
      make-made types vars next wanted (check_access types vars line text field cell s) w1 w2 (is_read types (sight vars s) field cell) own definition is owned
      (defines
      ∙ seen-shown vars next wanted (check_access types vars line text field cell s) w1 (λ seen n. is_read types seen field cell own.0 n) is
      ∙ ap (λ (t : State). is_read types (sight vars t) field cell own.0 next) (access-keeps types vars line text field cell s))
      made

  read_along-last : (fields : List FieldId) (field : FieldId) (got : Got) →
      read_along types vars line text (fields ++ field ∷ []) got ≡ read types vars line text field (read_along types vars line text fields got)
  read_along-last [] field got = refl
  read_along-last (f ∷ fields) field got = read_along-last fields field (read types vars line text f got)

  -- one step of the loop over fields
  pub read-step : (s : State) (w1 w2 : Walker) (fields : List FieldId) (i : ℕ) (field d : FieldId) (cell value found : Sym) →
      field ≡ get_or fields i d → i < length fields →
      (value ≡ (read_along types vars line text (take i fields) (cell, s)).0)
      × (w1 ≡ shown next wanted ((read_along types vars line text (take i fields) (cell, s)).1)) →
      ((t : State) → w1 ≡ shown next wanted t → (found ≡ (read types vars line text field (value, t)).0)
      × (w2 ≡ shown next wanted ((read types vars line text field (value, t)).1))) →
      (found ≡ (read_along types vars line text (take (i + 1) fields) (cell, s)).0)
      × (w2 ≡ shown next wanted ((read_along types vars line text (take (i + 1) fields) (cell, s)).1))
  read-step s w1 w2 fields i field d cell value found is inside before after =
      let got : Got = read_along types vars line text (take i fields) (cell, s) in
      let one : (found ≡ (read types vars line text field (value, got.1)).0) × (w2 ≡ shown next wanted ((read types vars line text field (value, got.1)).1)) =
      after (got.1) before.1 in
      let same : read types vars line text field (value, got.1) ≡ read_along types vars line text (take (i + 1) fields) (cell, s) =
      ap (λ (u : Sym). read types vars line text field (u, got.1)) before.0
      ∙ ap (λ (f : FieldId). read types vars line text f got) is
      ∙ sym (ap (λ fs. read_along types vars line text fs (cell, s)) (take_more fields i d inside)
      ∙ read_along-last (take i fields) (get_or fields i d) (cell, s)) in
      (one.0 ∙ ap (λ (g : Got). g.0) same, one.1 ∙ ap (λ (g : Got). shown next wanted (g.1)) same)

  -- all fields are read
  pub read-end : (s : State) (w1 : Walker) (fields : List FieldId) (i : ℕ) (cell value : Sym) → length fields ≤ i →
      (value ≡ (read_along types vars line text (take i fields) (cell, s)).0)
      × (w1 ≡ shown next wanted ((read_along types vars line text (take i fields) (cell, s)).1)) →
      (value ≡ (read_along types vars line text fields (cell, s)).0) × (w1 ≡ shown next wanted ((read_along types vars line text fields (cell, s)).1))
  read-end s w1 fields i cell value all got =
      subst (λ (fs : List FieldId).
      (value ≡ (read_along types vars line text fs (cell, s)).0) × (w1 ≡ shown next wanted ((read_along types vars line text fs (cell, s)).1)))
      (take_all i fields all) got

  -- a bool field is read behind cell fields
  pub truth-last : (before : List FieldId) (field : FieldId) (got : Got) →
      truth_at types vars line text (before ++ field ∷ []) got ≡ truth_along types vars line text field [] (read_along types vars line text before got)
  truth-last [] field got = refl
  truth-last (f ∷ before) field got = behind f before field got
    where
      behind : (f : FieldId) (before : List FieldId) (field : FieldId) (got : Got) →
          truth_along types vars line text f (before ++ field ∷ []) got
          ≡ truth_along types vars line text field [] (read_along types vars line text before (read types vars line text f got))
      behind f [] field got = refl
      behind f (g ∷ before) field got = behind g before field (read types vars line text f got)

  -- fields are read along from a variable
  pub along-path : (s : State) (w0 w1 : Walker) (v : VarId) (read fields : List FieldId) (value found : Sym) → w0 ≡ shown next wanted s →
      value ≡ value_of w0.view.vars v → read ≡ fields →
      (found ≡ (read_along types vars line text read (value, s)).0) × (w1 ≡ shown next wanted ((read_along types vars line text read (value, s)).1)) →
      (found ≡ (read_along types vars line text fields (value_of s.values v, s)).0)
      × (w1 ≡ shown next wanted ((read_along types vars line text fields (value_of s.values v, s)).1))
  along-path s w0 w1 v read fields value found is valued same got =
      let all : read_along types vars line text read (value, s) ≡ read_along types vars line text fields (value_of s.values v, s) =
      ap (λ (u : Sym). read_along types vars line text read (u, s)) (valued ∙ ap (λ (w : Walker). value_of w.view.vars v) is)
      ∙ ap (λ (fs : List FieldId). read_along types vars line text fs (value_of s.values v, s)) same in
      (got.0 ∙ ap (λ (g : Got). g.0) all, got.1 ∙ ap (λ (g : Got). shown next wanted (g.1)) all)

  -- a bool field is read behind the last cell field
  pub path-told : (s : State) (w0 w1 w2 : Walker) (v : VarId) (fields before : List FieldId) (f : FieldId) (value cell : Sym) (formula : Formula) →
      w0 ≡ shown next wanted s → value ≡ value_of w0.view.vars v → fields ≡ before ++ f ∷ [] →
      (cell ≡ (read_along types vars line text before (value, s)).0) × (w1 ≡ shown next wanted ((read_along types vars line text before (value, s)).1)) →
      ((t : State) → w1 ≡ shown next wanted t → (formula ≡ ((truth_along types vars line text f [] (cell, t)).0) next)
      × (w2 ≡ shown next wanted ((truth_along types vars line text f [] (cell, t)).1))) →
      (formula ≡ ((truth_at types vars line text fields (value_of s.values v, s)).0) next)
      × (w2 ≡ shown next wanted ((truth_at types vars line text fields (value_of s.values v, s)).1))
  path-told s w0 w1 w2 v fields before f value cell formula is valued last got tells =
      let g : Got = read_along types vars line text before (value, s) in
      let told = tells (g.1) got.1 in
      let all : truth_along types vars line text f [] (cell, g.1) ≡ truth_at types vars line text fields (value_of s.values v, s) =
      ap (λ (u : Sym). truth_along types vars line text f [] (u, g.1)) got.0
      ∙ ap (λ (u : Sym). truth_along types vars line text f [] (read_along types vars line text before (u, s)))
      (valued ∙ ap (λ (w : Walker). value_of w.view.vars v) is)
      ∙ sym (ap (λ (fs : List FieldId). truth_at types vars line text fs (value_of s.values v, s)) last
      ∙ truth-last before f (value_of s.values v, s)) in
      (told.0 ∙ ap (λ (t : Told). (t.0) next) all, told.1 ∙ ap (λ (t : Told). shown next wanted (t.1)) all)

  -- a variable holds a truth value
  pub variable-told : (s : State) (w : Walker) (v : VarId) (fields : List FieldId) (value : Sym) (formula : Formula) → w ≡ shown next wanted s →
      value ≡ value_of w.view.vars v → length fields ≡ 0 → formula ≡ syms.truth w.view.next value →
      (formula ≡ ((truth_at types vars line text fields (value_of s.values v, s)).0) next)
      × (w ≡ shown next wanted ((truth_at types vars line text fields (value_of s.values v, s)).1))
  variable-told s w v [] value formula is valued none made =
      (made ∙ ap₂ syms.truth (ap (λ (x : Walker). x.view.next) is) (valued ∙ ap (λ (x : Walker). value_of x.view.vars v) is), is)
  variable-told s w v (f ∷ fields) value formula is valued none made = absurd (omega arith)

  -- ---- operands

  pub null-valued : (s : State) (w : Walker) (p : Operand) → p ≡ operand_is.Null → w ≡ shown next wanted s →
      (Null ≡ (operand_value types vars line text p s).0) × (w ≡ shown next wanted ((operand_value types vars line text p s).1))
  null-valued s w p form is =
      subst (λ (q : Operand). (Null ≡ (operand_value types vars line text q s).0) × (w ≡ shown next wanted ((operand_value types vars line text q s).1)))
      (sym form) (refl, is)

  pub path-valued : (s : State) (w : Walker) (p : Operand) (path : Path) (found : Sym) → p ≡ operand_is.Path path →
      (found ≡ (path_value types vars line text path s).0) × (w ≡ shown next wanted ((path_value types vars line text path s).1)) →
      (found ≡ (operand_value types vars line text p s).0) × (w ≡ shown next wanted ((operand_value types vars line text p s).1))
  path-valued s w p path found form got =
      subst (λ (q : Operand). (found ≡ (operand_value types vars line text q s).0) × (w ≡ shown next wanted ((operand_value types vars line text q s).1)))
      (sym form) got
