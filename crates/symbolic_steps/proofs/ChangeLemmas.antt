-- Assignments and `free`, step by step.
use Rattle.std.proofs.Common.{◌≡◌, ℕ, suc, ◌+◌, List, [], ◌∷◌, ◌++◌, length}
use Rattle.std.proofs.Common.{refl, sym, ap, ap₂, ◌∙◌, subst, add-one}
use Rattle.store_core.specs.declared.ids.FieldId.{FieldId}
use Rattle.store_core.specs.declared.ids.VariantId.{VariantId}
use Rattle.store_core.specs.declared.ids.VarId.{VarId}
use Rattle.store_core.specs.Tables.{TypeEntry, VarEntry}
use Rattle.store_logic.specs.declared.act.Rhs.{Rhs}
use Rattle.store_exec.specs.declared.cause.Cause.TheVariants as cause
use Rattle.ws2s_core.specs.declared.track.Track.{Track}
use Rattle.ws2s_core.specs.declared.formula.Formula.{Formula}
use Rattle.ws2s_core.specs.declared.formula.Formula.TheVariants.{And, Not, Root}
use Rattle.ws2s_forms.specs.Forms.{track, or, empty_at, slot}
use Rattle.tree_encode.specs.Tracks.{track_count}
use Rattle.graph_view.specs.declared.view.Sym.{Sym}
use Rattle.graph_view.specs.declared.view.Sym.TheVariants.{At}
use Rattle.graph_view.specs.declared.view.Event.TheVariants as event
use Rattle.graph_view.specs.Sights.{sight_of, var_slots}
use Rattle.graph_view.specs.Syms as syms
use Rattle.graph_view.specs.Live.{is_dead}
use Rattle.site_list.specs.States.{Text, State, Got, guard, check, sight, value_of, with_value, happens, is_truth_of}
use Rattle.site_list.specs.Reading.{check_access, read, read_along}
use Rattle.site_list.specs.Acts.{made_truth, made_cell, evaluated, write_field, write_along, assigned, freed}
use Rattle.symbolic_steps.specs.declared.walker.Walker.{Walker}
use Rattle.symbolic_steps.specs.Shown.{shown, checked, defining, happening, valued}
use Rattle.symbolic_steps.proofs.ShownLemmas.{step-checked, make-made, happening-shown}
use Rattle.symbolic_steps.proofs.PlaceLemmas.{access-keeps}

module _ (types : List TypeEntry) (vars : List VarEntry) (next wanted : ℕ) where
  -- a truth value on a track
  pub truth-made : (text : Text) (s : State) (w0 w1 : Walker) (holds definition : Formula) (own : Track) → holds ≡ text next → w0 ≡ shown next wanted s →
      own ≡ track (track_count types vars + length w0.defined) →
      definition ≡ or (And (Root own) holds) (And (empty_at w0.view.next own.0) (Not holds)) → w1 ≡ defining definition w0 →
      (At own ≡ (made_truth types vars (text, s)).0) × (w1 ≡ shown next wanted ((made_truth types vars (text, s)).1))
  truth-made text s w0 w1 holds definition own reaches is owned defines made =
      make-made types vars next wanted s w0 w1 (is_truth_of text) own definition is owned
      (defines
      ∙ ap₂ (λ (n : ℕ) (f : Formula). or (And (Root own) f) (And (empty_at n own.0) (Not f))) (ap (λ (w : Walker). w.view.next) is) reaches)
      made

  -- a new cell
  pub cell-made : (v : VariantId) (s : State) (w0 w1 w2 : Walker) (definition : Formula) (own : Track) (more number : ℕ) → w0 ≡ shown next wanted s →
      own ≡ track (track_count types vars + length w0.defined) → number ≡ var_slots vars + w0.news →
      definition ≡ slot w0.view.next number own.0 →
      w1 ≡ happening (event.New w0.guard w0.news v) w0 → more ≡ w1.news + 1 → w2 ≡ defining definition (record w1 { news = more }) →
      (At own ≡ (made_cell types vars v s).0) × (w2 ≡ shown next wanted ((made_cell types vars v s).1))
  cell-made v s w0 w1 w2 definition own more number is owned counted defines happened counts made =
      let event-is : event.New w0.guard w0.news v ≡ event.New s.guard s.news v = ap (λ (w : Walker). event.New w.guard w.news v) is in
      let one : w1 ≡ shown next wanted (happens (event.New s.guard s.news v) s) =
      happening-shown next wanted s w0 w1 (event.New s.guard s.news v) is (happened ∙ ap (λ e. happening e w0) event-is) in
      let two : record w1 { news = more } ≡ shown next wanted (record (happens (event.New s.guard s.news v) s) { news = suc s.news }) =
      ap (λ (n : ℕ). record w1 { news = n }) (counts ∙ ap (λ (w : Walker). w.news + 1) one ∙ add-one s.news)
      ∙ ap (λ (w : Walker). record w { news = suc s.news }) one in
      make-made types vars next wanted (record (happens (event.New s.guard s.news v) s) { news = suc s.news }) (record w1 { news = more }) w2
      (λ t n. slot n (var_slots vars + s.news) t) own definition two
      (owned ∙ ap (λ (w : Walker). track (track_count types vars + length w.defined)) is
      ∙ sym (ap (λ (w : Walker). track (track_count types vars + length w.defined)) two))
      (defines ∙ ap₂ (λ (n k : ℕ). slot n k own.0) (ap (λ (w : Walker). w.view.next) is)
      (counted ∙ ap (λ (w : Walker). var_slots vars + w.news) is))
      made

  -- what is assigned, by its form
  pub evaluated-by : (line : ℕ) (x form : Rhs) (s : State) (w1 : Walker) (found : Sym) → x ≡ form →
      (found ≡ (evaluated types vars line form s).0) × (w1 ≡ shown next wanted ((evaluated types vars line form s).1)) →
      (found ≡ (evaluated types vars line x s).0) × (w1 ≡ shown next wanted ((evaluated types vars line x s).1))
  evaluated-by line x form s w1 found is got =
      subst (λ (y : Rhs). (found ≡ (evaluated types vars line y s).0) × (w1 ≡ shown next wanted ((evaluated types vars line y s).1))) (sym is) got

  -- a field is written
  pub field-written : (line : ℕ) (s : State) (w0 w1 w2 : Walker) (u value : Sym) (f : FieldId) → w0 ≡ shown next wanted s →
      w1 ≡ shown next wanted (check_access types vars line (guard s) f u s) → w2 ≡ happening (event.Write w1.guard u f value) w1 →
      w2 ≡ shown next wanted (write_field types vars line u f (value, s))
  field-written line s w0 w1 w2 u value f is checks happened =
      happening-shown next wanted (check_access types vars line (guard s) f u s) w1 w2 (event.Write s.guard u f value) checks
      (happened ∙ ap (λ (w : Walker). happening (event.Write w.guard u f value) w1) checks
      ∙ ap (λ (t : State). happening (event.Write t.guard u f value) w1) (access-keeps types vars line (guard s) f u s))

  -- a variable is assigned
  pub var-assigned : (line : ℕ) (s : State) (got : Got) (w1 w2 : Walker) (v : VarId) (found : Sym) → found ≡ got.0 → w1 ≡ shown next wanted (got.1) →
      w2 ≡ valued v found w1 → w2 ≡ shown next wanted (with_value v got)
  var-assigned line s got w1 w2 v found same is made = made ∙ ap₂ (λ (u : Sym) (w : Walker). valued v u w) same is

  -- ---- reading keeps the guard

  read-guard : (line : ℕ) (text : Text) (f : FieldId) (got : Got) → ((read types vars line text f got).1).guard ≡ (got.1).guard
  read-guard line text f got = ap (λ (t : State). t.guard) (access-keeps types vars line text f (got.0) (got.1))

  -- fields before the last one are read where the statement is reached
  written-last : (line : ℕ) (g : FieldId) (before : List FieldId) (f : FieldId) (x : Rhs) (text : Text) (got : Got) → text ≡ guard (got.1) →
      write_along types vars line g (before ++ f ∷ []) x got
      ≡ write_along types vars line f [] x (read_along types vars line text (g ∷ before) got)
  written-last line g [] f x text got same =
      ap (λ (t : Text). write_along types vars line f [] x (read types vars line t g got)) (sym same)
  written-last line g (h ∷ before) f x text got same =
      written-last line h before f x text (read types vars line (guard (got.1)) g got)
      (same ∙ ap (λ o n. syms.guard n o) (sym (read-guard line (guard (got.1)) g got)))
      ∙ ap (λ (t : Text). write_along types vars line f [] x (read_along types vars line text (h ∷ before) (read types vars line t g got))) (sym same)

  pub assigned-last : (line : ℕ) (v : VarId) (before : List FieldId) (f : FieldId) (x : Rhs) (s : State) →
      assigned types vars line v (before ++ f ∷ []) x s
      ≡ write_along types vars line f [] x (read_along types vars line (guard s) before (value_of s.values v, s))
  assigned-last line v [] f x s = refl
  assigned-last line v (g ∷ before) f x s = written-last line g before f x (guard s) (value_of s.values v, s) refl

  -- ---- `free`

  pub cell-freed : (line : ℕ) (s : State) (w0 w1 w2 w3 : Walker) (u : Sym) (reached : Formula) → reached ≡ guard s next → w0 ≡ shown next wanted s →
      w1 ≡ checked reached (syms.is_null w0.view.next u) w0 →
      w2 ≡ checked reached (is_dead types (sight_of vars w1.view) w1.view.next u) w1 → w3 ≡ happening (event.Free w2.guard u) w2 →
      w3 ≡ shown next wanted (freed types vars line u s)
  cell-freed line s w0 w1 w2 w3 u reached reaches is one two three =
      let first : w1 ≡ shown next wanted (check line (guard s) cause.Null (λ n. syms.is_null n u) s) =
      step-checked vars next wanted line cause.Null (guard s) s w0 w1 reached (λ seen values n. syms.is_null n u) reaches is one in
      let second : w2 ≡ shown next wanted (check line (guard s) cause.DoubleFree (λ n. is_dead types (sight vars s) n u)
      (check line (guard s) cause.Null (λ n. syms.is_null n u) s)) =
      step-checked vars next wanted line cause.DoubleFree (guard s) (check line (guard s) cause.Null (λ n. syms.is_null n u) s) w1 w2 reached
      (λ seen values n. is_dead types seen n u) reaches first two in
      happening-shown next wanted (check line (guard s) cause.DoubleFree (λ n. is_dead types (sight vars s) n u)
      (check line (guard s) cause.Null (λ n. syms.is_null n u) s)) w2 w3 (event.Free s.guard u) second
      (three ∙ ap (λ (w : Walker). happening (event.Free w.guard u) w2) second)

  -- the last field of a place gets what is evaluated
  pub field-assigned : (line : ℕ) (v : VarId) (before : List FieldId) (f : FieldId) (x : Rhs) (s : State) (w0 w1 w2 w3 : Walker) (first cell found : Sym) →
      w0 ≡ shown next wanted s → first ≡ value_of w0.view.vars v →
      (cell ≡ (read_along types vars line (guard s) before (first, s)).0)
      × (w1 ≡ shown next wanted ((read_along types vars line (guard s) before (first, s)).1)) →
      ((t : State) → w1 ≡ shown next wanted t → (found ≡ (evaluated types vars line x t).0) × (w2 ≡ shown next wanted ((evaluated types vars line x t).1))) →
      ((t : State) → w2 ≡ shown next wanted t → w3 ≡ shown next wanted (write_field types vars line cell f (found, t))) →
      w3 ≡ shown next wanted (assigned types vars line v (before ++ f ∷ []) x s)
  field-assigned line v before f x s w0 w1 w2 w3 first cell found is firsts reads evaluates writes =
      let got : Got = read_along types vars line (guard s) before (first, s) in
      let value = evaluates (got.1) reads.1 in
      let same : first ≡ value_of s.values v = firsts ∙ ap (λ (w : Walker). value_of w.view.vars v) is in
      writes ((evaluated types vars line x (got.1)).1) value.1
      ∙ ap₂ (λ (u y : Sym). shown next wanted (write_field types vars line u f (y, (evaluated types vars line x (got.1)).1))) reads.0 value.0
      ∙ ap (λ (u : Sym). shown next wanted (write_along types vars line f [] x (read_along types vars line (guard s) before (u, s)))) same
      ∙ ap (shown next wanted) (sym (assigned-last line v before f x s))
