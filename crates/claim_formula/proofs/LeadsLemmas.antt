-- Fields that lead from one cell to the next, field by field.
use Rattle.std.proofs.Common.{◌≡◌, ℕ, suc, ◌+◌, ◌<◌, List, [], ◌∷◌, ◌++◌, length, take, reverse, get_or, sym, ap, ◌∙◌, arith, add-one}
use Rattle.std.proofs.lemmas.List.{take_more, reverse-append}
use Rattle.store_core.specs.declared.ids.FieldId.{FieldId}
use Rattle.store_core.specs.Tables.{TypeEntry}
use Rattle.ws2s_core.specs.declared.formula.Formula.{Formula}
use Rattle.ws2s_core.specs.declared.formula.Formula.TheVariants.{And}
use Rattle.ws2s_forms.specs.Forms.{ex1}
use Rattle.ws2s_forms.specs.Targets.{target}
use Rattle.graph_view.specs.declared.view.Sym.{Sym}
use Rattle.graph_view.specs.Sights.{Sight}
use Rattle.graph_view.specs.Fields.{is_true}
use Rattle.site_list.specs.Claims.{leads_to, leads_to_true}
use Rattle.claim_formula.specs.Joining.{one_more}

-- a field more, where `left` fields are left behind it
pub leads_more : (types : List TypeEntry) (sight : Sight) (u : Sym) (before : List FieldId) (f : FieldId) (next left more b : ℕ) → more ≡ left + 1 →
    one_more types sight (leads_to types sight u before (next + more) (target next more b)) f (next + left) (target next left b)
    ≡ leads_to types sight u (f ∷ before) (next + left) (target next left b)
leads_more types sight u before f next left more b is =
    ap (λ n. one_more types sight (leads_to types sight u before (next + n) (target next n b)) f (next + left) (target next left b)) (is ∙ one)
    ∙ ap (λ n. one_more types sight (leads_to types sight u before n (next + left)) f (next + left) (target next left b)) two
  where
    one : left + 1 ≡ suc left
    one = omega arith

    two : next + suc left ≡ suc (next + left)
    two = omega arith

-- the fields so far, the last one first, with one more
reversed_more : (fields : List FieldId) (i : ℕ) (d : FieldId) → i < length fields →
    reverse (take (i + 1) fields) ≡ get_or fields i d ∷ reverse (take i fields)
reversed_more fields i d inside = ap reverse (take_more fields i d inside) ∙ reverse-append (take i fields) (get_or fields i d ∷ [])

-- one step of the loop over the fields
pub leads_step : (types : List TypeEntry) (sight : Sight) (u : Sym) (fields : List FieldId) (i : ℕ) (f d : FieldId) (before after : Formula)
    (next left less b at to : ℕ) → f ≡ get_or fields i d → i < length fields → left ≡ less + 1 → at ≡ next + less → to ≡ target next less b →
    before ≡ leads_to types sight u (reverse (take i fields)) (next + left) (target next left b) → after ≡ one_more types sight before f at to →
    after ≡ leads_to types sight u (reverse (take (i + 1) fields)) (next + less) (target next less b)
leads_step types sight u fields i f d before after next left less b at to is inside count here there was made =
    made
    ∙ ap (λ n. one_more types sight before f n to) here
    ∙ ap (λ n. one_more types sight before f (next + less) n) there
    ∙ ap (λ formula. one_more types sight formula f (next + less) (target next less b)) was
    ∙ leads_more types sight u (reverse (take i fields)) f next less left b count
    ∙ ap (λ g. leads_to types sight u (g ∷ reverse (take i fields)) (next + less) (target next less b)) is
    ∙ ap (λ before. leads_to types sight u before (next + less) (target next less b)) (sym (reversed_more fields i d inside))

-- the last field leads to what is true
pub true_at_last : (types : List TypeEntry) (sight : Sight) (u : Sym) (fields before : List FieldId) (f : FieldId) (next inner : ℕ) →
    fields ≡ before ++ f ∷ [] → inner ≡ next + 1 →
    ex1 next (And (leads_to types sight u (reverse before) inner next) (is_true types sight inner f next))
    ≡ leads_to_true types sight u (reverse fields) next
true_at_last types sight u fields before f next inner is later =
    ap (λ n. ex1 next (And (leads_to types sight u (reverse before) n next) (is_true types sight n f next))) (later ∙ add-one next)
    ∙ ap (λ fields. leads_to_true types sight u fields next) (sym (ap reverse is ∙ reverse-append before (f ∷ [])))
