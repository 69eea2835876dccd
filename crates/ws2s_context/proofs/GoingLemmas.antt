-- On tasks and rewritings.
use Rattle.std.proofs.Common.{◌≡◌, List, [], ◌∷◌, All, Option, None, refl, sym, ap, ap₂, subst, ◌∙◌}
use Rattle.std.proofs.lemmas.List.Elements.{All-nil, All-cons, All-head, All-tail, All-weaker}
use Rattle.ws2s_core.specs.declared.track.Track.{Track}
use Rattle.ws2s_core.specs.declared.formula.Formula.{Formula}
use Rattle.ws2s_core.specs.declared.formula.Formula.TheVariants.{And, Not, Ex2}
use Rattle.ws2s_core.specs.declared.node.FormulaId.{FormulaId}
use Rattle.ws2s_core.specs.Nodes.{Extends}
use Rattle.ws2s_core.specs.Tracks.{IsFree}
use Rattle.ws2s_theory.specs.Contexts.{SameUnder}
use Rattle.ws2s_theory.proofs.ContextsLemmas.{SameUnder-and, SameUnder-not, SameUnder-ex2, SameUnder-trans, SameUnder-refl, SameUnder-conjoined}
use Rattle.ws2s_theory.proofs.ContextsLemmas.{All-members, All-members_under, SameUnder-Same}
use Rattle.ws2s_core.specs.Satisfaction.{Same, WSat}
use Rattle.ws2s_context.specs.declared.task.Place.{Place}
use Rattle.ws2s_context.specs.declared.task.Task.{Task}
use Rattle.ws2s_context.specs.declared.rewritings.Rewriting.{Rewriting}
use Rattle.ws2s_facts.specs.Conjuncts.{IsThere, IsContext, formula_of, context_at, Implies}
use Rattle.ws2s_context.specs.Going.{IsPlace, whole, around, IsSame, IsRewriting, IsTurning, IsConjoining, IsNegating, IsQuantifying, IsSound, IsGoing}
use Rattle.ws2s_facts.proofs.ConjunctsLemmas.{at-extends, there-extends, context-extends, IsContext-extends, Extends-trans}

-- what holds in the inner context holds in the one that implies it
pub SameUnder-implied : (context inner : List Formula) (f g : Formula) → Implies context inner → SameUnder inner f g → SameUnder context f g
SameUnder-implied context inner f g h same = record { satisfied = λ a finite all. same.satisfied a finite (h.satisfied a finite all) }

-- beside what is known a formula is the same
pub SameUnder-beside : (known f : Formula) → SameUnder (known ∷ []) f (And known f)
SameUnder-beside known f = SameUnder-conjoined (known ∷ []) (known ∷ []) f (All-members (known ∷ []))

-- more formulas
pub IsPlace-extends : (old new : List Formula) (place : Place) → Extends old new → IsPlace old place → IsPlace new place
IsPlace-extends old new place h here = record {
  id_there = there-extends old new place.id h here.id_there;
  context_there = IsContext-extends old new place.context h here.context_there;
}

whole-extends : (old new : List Formula) (place : Place) → Extends old new → IsPlace old place → whole new place ≡ whole old place
whole-extends old new place h here = at-extends old new place.id h here.id_there

around-extends : (old new : List Formula) (place : Place) → Extends old new → IsPlace old place → around new place ≡ around old place
around-extends old new place h here = context-extends old new place.context h here.context_there

-- a rewriting that was made of formulas
pub IsSame-made : (old new : List Formula) (place : Place) (made : FormulaId) (f : Formula) → Extends old new → IsPlace old place →
    SameUnder (around old place) (whole old place) f → formula_of new made ≡ f → IsThere new made → IsSame new place made
IsSame-made old new place made f h here same is there = record {
  here = IsPlace-extends old new place h here;
  to_there = there;
  same = subst (λ c. SameUnder c (whole new place) (formula_of new made)) (sym (around-extends old new place h here))
      (subst (λ w. SameUnder (around old place) w (formula_of new made)) (sym (whole-extends old new place h here))
      (subst (λ g. SameUnder (around old place) (whole old place) g) (sym is) same));
}

pub IsSame-extends : (old new : List Formula) (place : Place) (to : FormulaId) → Extends old new → IsSame old place to → IsSame new place to
IsSame-extends old new place to h same =
    IsSame-made old new place to (formula_of old to) h same.here same.same (at-extends old new to h same.to_there)
    (there-extends old new to h same.to_there)

pub IsSame-itself : (formulas : List Formula) (place : Place) → IsPlace formulas place → IsSame formulas place place.id
IsSame-itself formulas place here = record { here = here; to_there = here.id_there; same = SameUnder-refl (around formulas place) (whole formulas place) }

-- implications between contexts stay
pub Implies-along : (a b c d : List Formula) → a ≡ c → b ≡ d → Implies a b → Implies c d
Implies-along a b c d e e' h = subst (λ y. Implies c y) e' (subst (λ x. Implies x b) e h)

module _ (old new : List Formula) (h : Extends old new) where
  IsConjoining-extends : (place left right : Place) → IsConjoining old place left right → IsConjoining new place left right
  IsConjoining-extends place left right was = record {
    here = IsPlace-extends old new place h was.here;
    left_here = IsPlace-extends old new left h was.left_here;
    right_here = IsPlace-extends old new right h was.right_here;
    is = whole-extends old new place h was.here ∙ was.is
        ∙ ap₂ And (sym (whole-extends old new left h was.left_here)) (sym (whole-extends old new right h was.right_here));
    in_left = Implies-along _ _ _ _ (sym (around-extends old new place h was.here)) (sym (around-extends old new left h was.left_here)) was.in_left;
    in_right = Implies-along _ _ _ _ (ap₂ (λ f c. f ∷ c) (sym (whole-extends old new left h was.left_here)) (sym (around-extends old new place h was.here)))
        (sym (around-extends old new right h was.right_here)) was.in_right;
  }

  pub IsTurning-extends : (place left : Place) (right : FormulaId) → IsTurning old place left right → IsTurning new place left right
  IsTurning-extends place left right was = record {
    here = IsPlace-extends old new place h was.here;
    left_here = IsPlace-extends old new left h was.left_here;
    right_there = there-extends old new right h was.right_there;
    is = whole-extends old new place h was.here ∙ was.is
        ∙ ap₂ And (sym (whole-extends old new left h was.left_here)) (sym (at-extends old new right h was.right_there));
    in_left = Implies-along _ _ _ _ (sym (around-extends old new place h was.here)) (sym (around-extends old new left h was.left_here)) was.in_left;
  }

  pub IsNegating-extends : (place inner : Place) → IsNegating old place inner → IsNegating new place inner
  IsNegating-extends place inner was = record {
    here = IsPlace-extends old new place h was.here;
    inner_here = IsPlace-extends old new inner h was.inner_here;
    is = whole-extends old new place h was.here ∙ was.is ∙ ap Not (sym (whole-extends old new inner h was.inner_here));
    in_inner = was.in_inner;
  }

  IsQuantifying-extends : (place : Place) (t : Track) (inner : Place) → IsQuantifying old place t inner → IsQuantifying new place t inner
  IsQuantifying-extends place t inner was = record {
    here = IsPlace-extends old new place h was.here;
    inner_here = IsPlace-extends old new inner h was.inner_here;
    is = whole-extends old new place h was.here ∙ was.is ∙ ap (Ex2 t) (sym (whole-extends old new inner h was.inner_here));
    in_inner = Implies-along _ _ _ _ (sym (around-extends old new place h was.here)) (sym (around-extends old new inner h was.inner_here)) was.in_inner;
    unbound = subst (λ (c : List Formula). All (λ f. IsFree t.0 f → ⊥) c) (sym (around-extends old new inner h was.inner_here)) was.unbound;
  }

  IsSound-extends : (task : Task) → IsSound old task → IsSound new task
  IsSound-extends (Task.Visit place) was = IsPlace-extends old new place h was
  IsSound-extends (Task.Turn place left right) was = IsTurning-extends place left right was
  IsSound-extends (Task.Conjoin place left right) was = IsConjoining-extends place left right was
  IsSound-extends (Task.Negate place inner) was = IsNegating-extends place inner was
  IsSound-extends (Task.Quantify place t inner) was = IsQuantifying-extends place t inner was

  pub IsGoing-extends : (tasks : List Task) (made : List Rewriting) → IsGoing old tasks made → IsGoing new tasks made
  IsGoing-extends tasks made going = record {
    sound = All-weaker (IsSound old) (IsSound new) IsSound-extends tasks going.sound;
    made = All-weaker (IsRewriting old) (IsRewriting new) (λ r was. IsSame-extends old new r.place r.to h was) made going.made;
  }

  pub made-extends : (made : List Rewriting) → All (IsRewriting old) made → All (IsRewriting new) made
  made-extends made all = All-weaker (IsRewriting old) (IsRewriting new) (λ r was. IsSame-extends old new r.place r.to h was) made all

pub IsGoing-push : (formulas : List Formula) (task : Task) (tasks : List Task) (made : List Rewriting) → IsSound formulas task →
    IsGoing formulas tasks made → IsGoing formulas (task ∷ tasks) made
IsGoing-push formulas task tasks made sound going = record {
  sound = All-cons (IsSound formulas) task tasks sound going.sound;
  made = going.made;
}

pub IsGoing-first : (formulas : List Formula) (task : Task) (tasks : List Task) (made : List Rewriting) → IsGoing formulas (task ∷ tasks) made →
    IsSound formulas task
IsGoing-first formulas task tasks made going = All-head (IsSound formulas) task tasks going.sound

pub IsGoing-rest : (formulas : List Formula) (task : Task) (tasks : List Task) (made : List Rewriting) → IsGoing formulas (task ∷ tasks) made →
    IsGoing formulas tasks made
IsGoing-rest formulas task tasks made going = record { sound = All-tail (IsSound formulas) task tasks going.sound; made = going.made }

pub IsGoing-made : (formulas : List Formula) (tasks : List Task) (old new : List Rewriting) → IsGoing formulas tasks old →
    All (IsRewriting formulas) new → IsGoing formulas tasks new
IsGoing-made formulas tasks old new going all = record { sound = going.sound; made = all }

-- a conjunction whose left half has its context
pub IsTurning-new : (a b : List Formula) (place : Place) (f g : FormulaId) (left : Option FormulaId) → Extends a b →
    IsPlace a place → IsThere a f → IsThere a g → whole a place ≡ And (formula_of a f) (formula_of a g) →
    IsContext b left → Implies (context_at a place.context) (context_at b left) →
    IsTurning b place (record { context = left; id = f }) g
IsTurning-new a b place f g left h here f_there g_there is left_there in_left = record {
  here = IsPlace-extends a b place h here;
  left_here = record { id_there = there-extends a b f h f_there; context_there = left_there };
  right_there = there-extends a b g h g_there;
  is = whole-extends a b place h here ∙ is ∙ ap₂ And (sym (at-extends a b f h f_there)) (sym (at-extends a b g h g_there));
  in_left = Implies-along _ _ _ _ (sym (around-extends a b place h here)) refl in_left;
}

-- what holds around the right half, where the left one was rewritten, holds by the left half as it was
Implies-turned : (formulas : List Formula) (place left : Place) (g first : FormulaId) (inner : List Formula) → IsTurning formulas place left g →
    IsSame formulas left first → Implies (formula_of formulas first ∷ around formulas place) inner →
    Implies (whole formulas left ∷ around formulas place) inner
Implies-turned formulas place left g first inner was same implied = record {
  satisfied = λ a finite all.
      let both = All-tail (λ c. WSat c a) (whole formulas left) (around formulas place) all in
      let rewritten = (same.same.satisfied a finite (was.in_left.satisfied a finite both)).0
      (All-head (λ c. WSat c a) (whole formulas left) (around formulas place) all) in
      implied.satisfied a finite (All-cons (λ c. WSat c a) (formula_of formulas first) (around formulas place) rewritten both);
}

-- the halves of a conjunction with their contexts, the left one having been rewritten
pub IsConjoining-turned : (a b c : List Formula) (place left : Place) (g first : FormulaId) (inner : Option FormulaId) → Extends a b → Extends b c →
    IsTurning a place left g → IsSame a left first → IsContext c inner →
    Implies (formula_of b first ∷ context_at b place.context) (context_at c inner) →
    IsConjoining c place left (record { context = inner; id = g })
IsConjoining-turned a b c place left g first inner before after was same inner_there implied =
    let h : Extends a c = Extends-trans a b c before after in
    let turned = IsTurning-extends a c h place left g was in
    record {
      here = turned.here;
      left_here = turned.left_here;
      right_here = record { id_there = turned.right_there; context_there = inner_there };
      is = turned.is;
      in_left = turned.in_left;
      in_right = Implies-turned c place left g first (context_at c inner) turned (IsSame-extends a c left first h same)
          (Implies-along _ _ _ _ (ap₂ (λ x y. x ∷ y)
          (sym (at-extends b c first after (there-extends a b first before same.to_there)))
          (sym (around-extends b c place after (IsPlace-extends a b place before was.here)))) refl implied);
    }

pub IsNegating-new : (formulas : List Formula) (place : Place) (f : FormulaId) → IsPlace formulas place → IsThere formulas f →
    whole formulas place ≡ Not (formula_of formulas f) → IsNegating formulas place (record { context = place.context; id = f })
IsNegating-new formulas place f here there is = record {
  here = here;
  inner_here = record { id_there = there; context_there = here.context_there };
  is = is;
  in_inner = refl;
}

pub IsQuantifying-new : (a b : List Formula) (place : Place) (t : Track) (f : FormulaId) (inner : Option FormulaId) → Extends a b →
    IsPlace a place → IsThere a f → whole a place ≡ Ex2 t (formula_of a f) → IsContext b inner →
    Implies (context_at a place.context) (context_at b inner) → All (λ c. IsFree t.0 c → ⊥) (context_at b inner) →
    IsQuantifying b place t (record { context = inner; id = f })
IsQuantifying-new a b place t f inner h here there is inner_there implied unbound = record {
  here = IsPlace-extends a b place h here;
  inner_here = record { id_there = there-extends a b f h there; context_there = inner_there };
  is = whole-extends a b place h here ∙ is ∙ ap (Ex2 t) (sym (at-extends a b f h there));
  in_inner = Implies-along _ _ _ _ (sym (around-extends a b place h here)) refl implied;
  unbound = unbound;
}

-- what is made of rewritten parts
pub IsSame-conjunction : (old new : List Formula) (place left right : Place) (first second made : FormulaId) → Extends old new →
    IsConjoining old place left right → IsSame old left first → IsSame old right second → IsThere new made →
    formula_of new made ≡ And (formula_of old first) (formula_of old second) → IsSame new place made
IsSame-conjunction old new place left right first second made h was on_left on_right there is =
    let inner = whole old left ∷ around old place in
    IsSame-made old new place made (And (formula_of old first) (formula_of old second)) h was.here
    (subst (λ w. SameUnder (around old place) w (And (formula_of old first) (formula_of old second))) (sym was.is)
    (SameUnder-and (around old place) inner (whole old left) (whole old right) (formula_of old first) (formula_of old second) (All-members inner)
    (SameUnder-implied (around old place) (around old left) (whole old left) (formula_of old first) was.in_left on_left.same)
    (SameUnder-implied inner (around old right) (whole old right) (formula_of old second) was.in_right on_right.same)))
    is there

pub IsSame-negation : (old new : List Formula) (place inner : Place) (part made : FormulaId) → Extends old new →
    IsNegating old place inner → IsSame old inner part → SameUnder (context_at old place.context) (Not (formula_of old part)) (formula_of new made) →
    IsThere new made → IsSame new place made
IsSame-negation old new place inner part made h was on_inner same there =
    let on_part : SameUnder (around old place) (whole old inner) (formula_of old part) =
    subst (λ x. SameUnder (context_at old x) (whole old inner) (formula_of old part)) (sym was.in_inner) on_inner.same in
    IsSame-made old new place made (formula_of new made) h was.here
    (subst (λ w. SameUnder (around old place) w (formula_of new made)) (sym was.is)
    (SameUnder-trans (around old place) (Not (whole old inner)) (Not (formula_of old part)) (formula_of new made)
    (SameUnder-not (around old place) (whole old inner) (formula_of old part) on_part) same))
    refl there

-- a negation beside what is implied by the context
pub SameUnder-negated : (a b c d : List Formula) (context needed : Option FormulaId) (part negation made : FormulaId) → Extends a b → Extends b c →
    IsThere a part → IsContext b needed → Implies (context_at a context) (context_at b needed) → formula_of c negation ≡ Not (formula_of b part) →
    SameUnder (context_at c needed) (formula_of c negation) (formula_of d made) →
    SameUnder (context_at a context) (Not (formula_of a part)) (formula_of d made)
SameUnder-negated a b c d context needed part negation made first second there needed_there implied is same =
    SameUnder-implied (context_at a context) (context_at b needed) (Not (formula_of a part)) (formula_of d made) implied
    (subst (λ (f : Formula). SameUnder (context_at b needed) f (formula_of d made)) (is ∙ ap Not (at-extends a b part first there))
    (subst (λ (inner : List Formula). SameUnder inner (formula_of c negation) (formula_of d made)) (context-extends b c needed second needed_there) same))

-- a rewriting beside what its context implies
pub IsSame-beside : (a b c : List Formula) (place : Place) (known : Option FormulaId) (part made : FormulaId) → Extends a b → Extends b c →
    IsSame a place part → Implies (around a place) (context_at b known) → SameUnder (context_at b known) (formula_of b part) (formula_of c made) →
    IsThere c made → IsSame c place made
IsSame-beside a b c place known part made first second on_part implied same there =
    IsSame-made a c place made (formula_of c made) (Extends-trans a b c first second) on_part.here
    (SameUnder-trans (around a place) (whole a place) (formula_of a part) (formula_of c made) on_part.same
    (SameUnder-implied (around a place) (context_at b known) (formula_of a part) (formula_of c made) implied
    (subst (λ (f : Formula). SameUnder (context_at b known) f (formula_of c made)) (at-extends a b part first on_part.to_there) same)))
    refl there

pub IsSame-quantified : (a b c : List Formula) (place : Place) (t : Track) (inner : Place) (part whole_part made : FormulaId) → Extends a b → Extends b c →
    IsQuantifying a place t inner → IsSame a inner part → SameUnder (context_at a inner.context) (formula_of a part) (formula_of b whole_part) →
    formula_of c made ≡ Ex2 t (formula_of b whole_part) → IsThere c made → IsSame c place made
IsSame-quantified a b c place t inner part whole_part made first second was on_inner beside is there =
    IsSame-made a c place made (Ex2 t (formula_of b whole_part)) (Extends-trans a b c first second) was.here
    (subst (λ w. SameUnder (around a place) w (Ex2 t (formula_of b whole_part))) (sym was.is)
    (SameUnder-implied (around a place) (around a inner) (Ex2 t (whole a inner)) (Ex2 t (formula_of b whole_part)) was.in_inner
    (SameUnder-ex2 (around a inner) (around a inner) t (whole a inner) (formula_of b whole_part)
    (All-members_under (around a inner) t.0 was.unbound)
    (SameUnder-trans (around a inner) (whole a inner) (formula_of a part) (formula_of b whole_part) on_inner.same beside))))
    is there

-- one more task on the stack
pub IsGoing-pushed : (formulas : List Formula) (task : Task) (old new : List Task) (made : List Rewriting) → IsSound formulas task →
    IsGoing formulas old made → new ≡ task ∷ old → IsGoing formulas new made
IsGoing-pushed formulas task old new made sound going e =
    subst (λ (tasks : List Task). IsGoing formulas tasks made) (sym e) (IsGoing-push formulas task old made sound going)

-- the tasks of a conjunction come
pub IsGoing-dividing : (formulas : List Formula) (place left : Place) (right : FormulaId) (first second last : List Task) (made : List Rewriting) →
    IsTurning formulas place left right → IsGoing formulas first made → second ≡ Task.Turn place left right ∷ first →
    last ≡ Task.Visit left ∷ second → IsGoing formulas last made
IsGoing-dividing formulas place left right first second last made turning going e e' =
    IsGoing-pushed formulas (Task.Visit left) second last made turning.left_here
    (IsGoing-pushed formulas (Task.Turn place left right) first second made turning going e) e'

-- the tasks of its right half come
pub IsGoing-turning : (formulas : List Formula) (place left right : Place) (first second last : List Task) (made : List Rewriting) →
    IsConjoining formulas place left right → IsGoing formulas first made → second ≡ Task.Conjoin place left right ∷ first →
    last ≡ Task.Visit right ∷ second → IsGoing formulas last made
IsGoing-turning formulas place left right first second last made conjoining going e e' =
    IsGoing-pushed formulas (Task.Visit right) second last made conjoining.right_here
    (IsGoing-pushed formulas (Task.Conjoin place left right) first second made conjoining going e) e'

-- the tasks of a negation come
pub IsGoing-negating : (formulas : List Formula) (place inner : Place) (first second last : List Task) (made : List Rewriting) →
    IsNegating formulas place inner → IsGoing formulas first made → second ≡ Task.Negate place inner ∷ first →
    last ≡ Task.Visit inner ∷ second → IsGoing formulas last made
IsGoing-negating formulas place inner first second last made negating going e e' =
    IsGoing-pushed formulas (Task.Visit inner) second last made negating.inner_here
    (IsGoing-pushed formulas (Task.Negate place inner) first second made negating going e) e'

-- the tasks of a quantifier come
pub IsGoing-quantifying : (formulas : List Formula) (place : Place) (t : Track) (inner : Place) (first second last : List Task)
    (made : List Rewriting) → IsQuantifying formulas place t inner → IsGoing formulas first made → second ≡ Task.Quantify place t inner ∷ first →
    last ≡ Task.Visit inner ∷ second → IsGoing formulas last made
IsGoing-quantifying formulas place t inner first second last made quantifying going e e' =
    IsGoing-pushed formulas (Task.Visit inner) second last made quantifying.inner_here
    (IsGoing-pushed formulas (Task.Quantify place t inner) first second made quantifying going e) e'

-- one formula is to be rewritten
pub IsGoing-first_task : (formulas : List Formula) (place : Place) (none tasks : List Task) (made : List Rewriting) → IsPlace formulas place → none ≡ [] →
    tasks ≡ Task.Visit place ∷ none → All (IsRewriting formulas) made → IsGoing formulas tasks made
IsGoing-first_task formulas place none tasks made here e e' all = record {
  sound = subst (All (IsSound formulas)) (sym e') (All-cons (IsSound formulas) (Task.Visit place) none here
      (subst (All (IsSound formulas)) (sym e) (All-nil (IsSound formulas))));
  made = all;
}

-- a formula that was rewritten without a context is the same
pub Same-rewritten : (old new : List Formula) (id made : FormulaId) → Extends old new → IsThere old id → IsSame new (record { context = None; id = id }) made →
    Same (formula_of old id) (formula_of new made)
Same-rewritten old new id made h there same =
    subst (λ (f : Formula). Same f (formula_of new made)) (at-extends old new id h there)
    (SameUnder-Same (formula_of new id) (formula_of new made) same.same)
