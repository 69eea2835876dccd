-- On answers to WS2S texts.
use Rattle.std.proofs.Common.{◌≡◌, ◌∙◌, ℕ, zero, suc, ◌+◌, Bool, false, List, [], ◌∷◌, ◌++◌, codes, map, slice_get, Some, cond, sym, ap}
use Rattle.std.proofs.Common.{subst, arith}
use Rattle.gta_theory.specs.Assignments.{Position, Assignment, IsOnly}
use Rattle.ws2s_syntax.specs.declared.declaration.Class.{Class}
use Rattle.ws2s_syntax.specs.declared.declaration.Free.{Free}
use Rattle.ws2s_syntax.specs.Checked.{Text, class_of_free}
use Rattle.ws2s_syntax.specs.Meaning.{Value, place, places, IsGiven, GivesFrom, Gives}
use Rattle.ws2s_core.specs.declared.label_tree.TreeNode.{TreeNode}
use Rattle.ws2s_core.specs.LabelTrees.{assignment_of}
use Rattle.ws2s_answer.specs.declared.answer.Answer.{Answer}
use Rattle.ws2s_answer.specs.declared.answer.Answer.TheVariants as answer
use Rattle.ws2s_answer.specs.Answering.{IsAnswer, IsExample}
use Rattle.ws2s_example.specs.Examples.{HaveOnePosition, IsExampleText}
use Rattle.pale_status.specs.declared.status.Status.TheVariants.{Good, Limit}
use Rattle.pale_modes.specs.Deciding.{HasSmallFormulas, Says, unsatisfiable, valid, satisfiable, too_large, above, status_of}

some : {X : Type 0} {x y : X} → Some x ≡ Some y → x ≡ y
some e = cc

one_given : (a : Assignment) (n : ℕ) (variable : Free) (v : Value) → variable.set ≡ false → IsGiven (a n) (class_of_free variable) v →
    (u : Position) × IsOnly (a n) u
one_given a n variable v is given =
    only v (subst (λ (c : Class). IsGiven (a n) c v) (ap (λ (b : Bool). cond b Class.Set Class.Position) is) given)
  where
    only : (w : Value) → IsGiven (a n) Class.Position w → (u : Position) × IsOnly (a n) u
    only (place u) is_only = (u, is_only)
    only (places set) none = absurd none

given_at : (a : Assignment) (n : ℕ) (free : List Free) (values : List Value) → GivesFrom a n (map class_of_free free) values →
    (i : ℕ) (variable : Free) → slice_get free i ≡ Some variable → variable.set ≡ false → (u : Position) × IsOnly (a (n + i)) u
given_at a n [] values given i variable at is = absurd cc
given_at a n (first ∷ free) [] given i variable at is = absurd given
given_at a n (first ∷ free) (v ∷ values) given zero variable at is =
    let same : first ≡ variable = some at in
    let here : n ≡ n + 0 = omega arith in
    subst (λ k. (u : Position) × IsOnly (a k) u) here (one_given a n first v (ap (λ (f : Free). f.set) same ∙ is) given.0)
given_at a n (first ∷ free) (v ∷ values) given (suc i) variable at is =
    let later : suc n + i ≡ n + suc i = omega arith in
    subst (λ k. (u : Position) × IsOnly (a k) u) later (given_at a (suc n) free values given.1 i variable at is)

-- where the variables have values, those for positions have one
pub HaveOnePosition-given : (text : Text) (a : Assignment) (values : List Value) → Gives a text values → HaveOnePosition text.free a
HaveOnePosition-given text a values given i variable at is =
    subst (λ k. (u : Position) × IsOnly (a k) u) (omega arith) (given_at a 0 text.free values given i variable at is)

-- ---- what is written of an answer that is true

module _ (limit : ℕ) (text : Text) (given : Answer) (is_true : IsAnswer limit text given) (small : HasSmallFormulas text) where
  says : (is : Answer) → given ≡ is → (line : List ℕ) → (IsAnswer limit text is → Says limit text line (status_of is)) → Says limit text line (status_of given)
  says is same line says_so =
      subst (λ (x : Answer). Says limit text line (status_of x)) (sym same) (says_so (subst (IsAnswer limit text) same is_true))

  pub says_unsatisfiable : given ≡ answer.Unsatisfiable → (line : List ℕ) → line ≡ codes "unsatisfiable\n" → Says limit text line (status_of given)
  says_unsatisfiable same line is = says answer.Unsatisfiable same line
      (λ holds. subst (λ l. Says limit text l Good) (sym is) (unsatisfiable small holds))

  pub says_valid : given ≡ answer.Valid → (line : List ℕ) → line ≡ codes "valid\n" → Says limit text line (status_of given)
  says_valid same line is = says answer.Valid same line (λ holds. subst (λ l. Says limit text l Good) (sym is) (valid small holds))

  pub says_too_large : given ≡ answer.TooLarge → (line : List ℕ) → line ≡ codes "satisfiable\nexample too large\n" → Says limit text line (status_of given)
  says_too_large same line is = says answer.TooLarge same line (λ holds. subst (λ l. Says limit text l Good) (sym is) (too_large small holds))

  pub says_above : given ≡ answer.Limit → (line : List ℕ) → line ≡ codes "limit\n" → Says limit text line (status_of given)
  says_above same line is = says answer.Limit same line (λ holds. subst (λ l. Says limit text l Limit) (sym is) (above small holds))

  pub says_satisfiable : (nodes : List TreeNode) → given ≡ answer.Example nodes → (report lines : List ℕ) →
      IsExampleText text.free (assignment_of nodes) lines →
      report ≡ codes "satisfiable\n" ++ lines → Says limit text report (status_of given)
  says_satisfiable nodes same report lines example is = says (answer.Example nodes) same report
      (λ holds. subst (λ l. Says limit text l Good) (sym is) (satisfiable nodes lines small holds example))

-- an example is one of the text's variables
pub HaveOnePosition-example : (limit : ℕ) (text : Text) (given : Answer) (nodes : List TreeNode) → given ≡ answer.Example nodes → IsAnswer limit text given →
    HaveOnePosition text.free (assignment_of nodes)
HaveOnePosition-example limit text given nodes same is_true =
    let example : IsExample text nodes = subst (IsAnswer limit text) same is_true in
    HaveOnePosition-given text (assignment_of nodes) ((example.least).model).free ((example.least).model).gives
