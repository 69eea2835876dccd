-- What is found in a source tree is checked.
use Rattle.std.proofs.Common.{◌≡◌, Bool, true, false, cond, IsTrue, ◌&&◌, List, [], ◌∷◌, ◌++◌, length, map}
use Rattle.std.proofs.Common.{Some, slice_get, Ok, refl, sym, ap, ◌∙◌, subst, arith, append_assoc, append-nil}
use Rattle.std.proofs.lemmas.List.{map-append, length-map}
use Rattle.std.proofs.lemmas.List.Folds.{list_all-append}
use Rattle.std.specs.List.{list_all}
use Rattle.ws2s_syntax.specs.declared.name.Name.TheVariants.{Free}
use Rattle.ws2s_syntax.specs.declared.declaration.Class.{Class}
use Rattle.ws2s_syntax.specs.declared.declaration.Free as declared_free
use Rattle.ws2s_syntax.specs.declared.declaration.Predicate.{Predicate}
use Rattle.ws2s_syntax.specs.declared.formula.TextFormula.{TextFormula}
use Rattle.ws2s_syntax.specs.declared.source.SourceName.{SourceName}
use Rattle.ws2s_syntax.specs.declared.source.SourceFormula.{SourceFormula}
use Rattle.ws2s_syntax.specs.declared.source.SourceParameter.{SourceParameter}
use Rattle.ws2s_syntax.specs.declared.source.SourceItem.{SourceItem}
use Rattle.ws2s_syntax.specs.declared.source.Source.{Source}
use Rattle.ws2s_read.specs.declared.names.Meaning.{Meaning}
use Rattle.ws2s_read.specs.declared.names.Meaning.TheVariants as stands_for
use Rattle.ws2s_read.specs.declared.items.Stage.{Stage}
use Rattle.ws2s_syntax.specs.Sentences.{sentence_of}
use Rattle.ws2s_syntax.specs.Checked.{Text, text_of}
use Rattle.ws2s_syntax.specs.Checked.{is_sentence}
use Rattle.ws2s_syntax.specs.Checked.{are_predicates, class_of_free, is_checked}
use Rattle.ws2s_read.specs.Resolving.{◌>>=◌, declared}
use Rattle.ws2s_read.specs.Resolving.{resolved_formula, with_variable, with_variables}
use Rattle.ws2s_read.specs.Resolving.{classes_of, resolved_body, stands_for_set, with_predicate, with_formula}
use Rattle.ws2s_read.specs.Resolving.{with_item, with_items, nothing, resolved}
use Rattle.ws2s_read.proofs.ResolvingLemmas.{then-Ok, declared-Ok}
use Rattle.ws2s_read.proofs.ResolvedFormulas.{scope_of, both, AllFit, AllFit-push, body_checked, formula_checked}

-- what a stage has is checked, however the text goes on
record IsSound (stage : Stage) : Type 0 where
  pub names : (more : List Class) (others : List (List Class)) →
      AllFit (map class_of_free stage.free ++ more) [] (map (λ p. p.params) stage.predicates ++ others) stage.names
  pub predicates : (more : List Class) → IsTrue (are_predicates (map class_of_free stage.free ++ more) [] stage.predicates)
  pub formulas : (more : List Class) (others : List (List Class)) →
      IsTrue (list_all
      (λ f. is_sentence (map (λ p. p.params) stage.predicates ++ others) (scope_of (map class_of_free stage.free ++ more) []) (sentence_of f))
      stage.formulas)

are_predicates-push : (free : List Class) (before : List (List Class)) (ps : List Predicate) (p : Predicate) →
    are_predicates free before (ps ++ p ∷ [])
    ≡ (are_predicates free before ps && is_sentence (before ++ map (λ q. q.params) ps) (scope_of free p.params) (sentence_of p.body))
are_predicates-push free before [] p =
    (λ i. is_sentence (sym (append-nil before) i) (scope_of free p.params) (sentence_of p.body) && true) ∙ and_true _
  where
    and_true : (b : Bool) → (b && true) ≡ b
    and_true true = refl
    and_true false = refl
are_predicates-push free before (q ∷ ps) p =
    ap (λ rest. is_sentence before (scope_of free q.params) (sentence_of q.body) && rest)
    (are_predicates-push free (before ++ q.params ∷ []) ps p
    ∙ ap (λ list. are_predicates free (before ++ q.params ∷ []) ps && is_sentence list (scope_of free p.params) (sentence_of p.body))
    (append_assoc before (q.params ∷ []) (map (λ r. r.params) ps)))
    ∙ grouped (is_sentence before (scope_of free q.params) (sentence_of q.body)) _ _
  where
    grouped : (a b c : Bool) → (a && (b && c)) ≡ ((a && b) && c)
    grouped true b c = refl
    grouped false b c = refl

variable_sound : (c : Class) (x : SourceName) (stage after : Stage) → IsSound stage → with_variable c x stage ≡ Ok after → IsSound after
unfolding with_variable
variable_sound c x stage after sound e =
    let made : declared_free.Free = record { name = x.bytes; set = stands_for_set c } in
    let step = then-Ok (declared stage.names x (stands_for.Variable (Free (length stage.free)) c))
    (λ names. Ok (record stage { names = names; free = stage.free ++ record { name = x.bytes; set = stands_for_set c } ∷ [] })) after e in
    let grown = declared-Ok stage.names x (stands_for.Variable (Free (length stage.free)) c) step.0 step.1 in
    let same : record stage { names = step.0; free = stage.free ++ made ∷ [] } ≡ after = cc (step.2) in
    let longer : (more : List Class) → map class_of_free (stage.free ++ made ∷ []) ++ more ≡ map class_of_free stage.free ++ (c ∷ more) =
    λ more. ap (λ list. list ++ more) (map-append class_of_free stage.free (made ∷ []))
    ∙ append_assoc (map class_of_free stage.free) (class_of_free made ∷ []) more
    ∙ ap (λ d. map class_of_free stage.free ++ (d ∷ more)) (its_class c) in
    subst IsSound same (record {
      names = λ more others.
          subst (λ fs. AllFit fs [] (map (λ p. p.params) stage.predicates ++ others) step.0) (sym (longer more))
          (subst (AllFit (map class_of_free stage.free ++ (c ∷ more)) [] (map (λ p. p.params) stage.predicates ++ others)) (sym grown)
          (AllFit-push (map class_of_free stage.free ++ (c ∷ more)) [] (map (λ p. p.params) stage.predicates ++ others) stage.names x.bytes
          (stands_for.Variable (Free (length stage.free)) c) (sound.names (c ∷ more) others)
          (ap (slice_get (map class_of_free stage.free ++ (c ∷ more))) (sym (length-map stage.free class_of_free))
          ∙ there (map class_of_free stage.free) c more)));
      predicates = λ more. subst (λ fs. IsTrue (are_predicates fs [] stage.predicates)) (sym (longer more)) (sound.predicates (c ∷ more));
      formulas = λ more others.
          subst (λ fs. IsTrue (list_all (λ f. is_sentence (map (λ p. p.params) stage.predicates ++ others) (scope_of fs []) (sentence_of f)) stage.formulas))
          (sym (longer more)) (sound.formulas (c ∷ more) others);
    })
  where
    its_class : (d : Class) → cond (stands_for_set d) Class.Set Class.Position ≡ d
    its_class Class.Position = refl
    its_class Class.Set = refl

    there : (xs : List Class) (d : Class) (ys : List Class) → slice_get (xs ++ (d ∷ ys)) (length xs) ≡ Some d
    there [] d ys = refl
    there (y ∷ xs) d ys = there xs d ys

variables_sound : (c : Class) (xs : List SourceName) (stage after : Stage) → IsSound stage → with_variables c xs stage ≡ Ok after → IsSound after
variables_sound c [] stage after sound e = let same : stage ≡ after = cc in subst IsSound same sound
variables_sound c (x ∷ xs) stage after sound e =
    let step = then-Ok (with_variable c x stage) (with_variables c xs) after e in
    variables_sound c xs step.0 after (variable_sound c x stage step.0 sound step.1) step.2

predicate_sound : (x : SourceName) (ps : List SourceParameter) (body : SourceFormula) (stage after : Stage) → IsSound stage →
    with_predicate x ps body stage ≡ Ok after → IsSound after
unfolding with_predicate
predicate_sound x ps body stage after sound e =
    let m : Meaning = stands_for.Predicate (length stage.predicates) (classes_of ps) in
    let one = then-Ok (declared stage.names x m)
    (λ names. resolved_body ps body stage.names >>= λ f.
    Ok (record stage { names = names; predicates = stage.predicates ++ record { params = classes_of ps; body = f } ∷ [] })) after e in
    let two = then-Ok (resolved_body ps body stage.names)
    (λ f. Ok (record stage { names = one.0; predicates = stage.predicates ++ record { params = classes_of ps; body = f } ∷ [] })) after one.2 in
    let made : Predicate = record { params = classes_of ps; body = two.0 } in
    let grown = declared-Ok stage.names x m one.0 one.1 in
    let same : record stage { names = one.0; predicates = stage.predicates ++ made ∷ [] } ≡ after = cc (two.2) in
    let before = map (λ (p : Predicate). p.params) stage.predicates in
    let longer : (others : List (List Class)) → map (λ (p : Predicate). p.params) (stage.predicates ++ made ∷ []) ++ others
    ≡ before ++ (classes_of ps ∷ others) =
    λ others. ap (λ list. list ++ others) (map-append (λ (p : Predicate). p.params) stage.predicates (made ∷ []))
    ∙ append_assoc before (classes_of ps ∷ []) others in
    subst IsSound same (record {
      names = λ more others.
          subst (λ ss. AllFit (map class_of_free stage.free ++ more) [] ss one.0) (sym (longer others))
          (subst (AllFit (map class_of_free stage.free ++ more) [] (before ++ (classes_of ps ∷ others))) (sym grown)
          (AllFit-push (map class_of_free stage.free ++ more) [] (before ++ (classes_of ps ∷ others)) stage.names x.bytes m
          (sound.names more (classes_of ps ∷ others))
          (ap (slice_get (before ++ (classes_of ps ∷ others))) (sym (length-map stage.predicates (λ (p : Predicate). p.params)))
          ∙ there before (classes_of ps) others)));
      predicates = λ more.
          are_predicates-push (map class_of_free stage.free ++ more) [] stage.predicates made
          ∙ both (are_predicates (map class_of_free stage.free ++ more) [] stage.predicates) _ (sound.predicates more)
          (body_checked (map class_of_free stage.free ++ more) before ps body stage.names two.0
          (subst (λ ss. AllFit (map class_of_free stage.free ++ more) [] ss stage.names) (append-nil before) (sound.names more [])) two.1);
      formulas = λ more others.
          subst (λ ss. IsTrue (list_all (λ f. is_sentence ss (scope_of (map class_of_free stage.free ++ more) []) (sentence_of f)) stage.formulas))
          (sym (longer others)) (sound.formulas more (classes_of ps ∷ others));
    })
  where
    there : (xs : List (List Class)) (d : List Class) (ys : List (List Class)) → slice_get (xs ++ (d ∷ ys)) (length xs) ≡ Some d
    there [] d ys = refl
    there (y ∷ xs) d ys = there xs d ys

formula_sound : (f : SourceFormula) (stage after : Stage) → IsSound stage → with_formula f stage ≡ Ok after → IsSound after
unfolding with_formula
formula_sound f stage after sound e =
    let step = then-Ok (resolved_formula (length stage.names) f stage.names)
    (λ made. Ok (record stage { formulas = stage.formulas ++ made ∷ [] })) after e in
    let same : record stage { formulas = stage.formulas ++ step.0 ∷ [] } ≡ after = cc (step.2) in
    subst IsSound same (record {
      names = sound.names;
      predicates = sound.predicates;
      formulas = λ more others.
          let fine : TextFormula → Bool =
          λ made. is_sentence (map (λ (p : Predicate). p.params) stage.predicates ++ others)
          (scope_of (map class_of_free stage.free ++ more) []) (sentence_of made) in
          list_all-append fine stage.formulas (step.0 ∷ [])
          ∙ both (list_all fine stage.formulas) _ (sound.formulas more others)
          (both (fine step.0) true
          (formula_checked (map class_of_free stage.free ++ more) (map (λ (p : Predicate). p.params) stage.predicates ++ others)
          (length stage.names) f [] stage.names step.0 (record { fit = sound.names more others; count = omega arith }) step.1) refl);
    })

item_sound : (i : SourceItem) (stage after : Stage) → IsSound stage → with_item i stage ≡ Ok after → IsSound after
item_sound (SourceItem.Variables c xs) stage after sound e = variables_sound c xs stage after sound e
item_sound (SourceItem.Predicate x ps body) stage after sound e = predicate_sound x ps body stage after sound e
item_sound (SourceItem.Formula f) stage after sound e = formula_sound f stage after sound e

items_sound : (items : List SourceItem) (stage after : Stage) → IsSound stage → with_items items stage ≡ Ok after → IsSound after
items_sound [] stage after sound e = let same : stage ≡ after = cc in subst IsSound same sound
items_sound (i ∷ items) stage after sound e =
    let step = then-Ok (with_item i stage) (with_items items) after e in
    items_sound items step.0 after (item_sound i stage step.0 sound step.1) step.2

nothing_sound : IsSound nothing
nothing_sound = record { names = λ more others. tt; predicates = λ more. refl; formulas = λ more others. refl }

-- what the items make is a text
pub items_checked : (items : List SourceItem) (stage : Stage) → with_items items nothing ≡ Ok stage →
    IsTrue (is_checked (text_of stage.free stage.predicates stage.formulas))
items_checked items stage e =
    let sound = items_sound items nothing stage nothing_sound e in
    both (are_predicates (map class_of_free stage.free) [] stage.predicates) _
    (subst (λ fs. IsTrue (are_predicates fs [] stage.predicates)) (append-nil (map class_of_free stage.free)) (sound.predicates []))
    (subst (λ fs. IsTrue (list_all (λ f. is_sentence (map (λ (p : Predicate). p.params) stage.predicates) (scope_of fs []) (sentence_of f)) stage.formulas))
    (append-nil (map class_of_free stage.free))
    (subst (λ ss. IsTrue (list_all (λ f. is_sentence ss (scope_of (map class_of_free stage.free ++ []) []) (sentence_of f)) stage.formulas))
    (append-nil (map (λ (p : Predicate). p.params) stage.predicates)) (sound.formulas [] [])))

pub resolved_checked : (source : Source) (text : Text) → resolved source ≡ Ok text → IsTrue (is_checked text)
unfolding resolved
resolved_checked source text e =
    let step = then-Ok (with_items source.items nothing) (λ stage. Ok (text_of stage.free stage.predicates stage.formulas)) text e in
    let same : text_of step.0.free step.0.predicates step.0.formulas ≡ text = cc (step.2) in
    subst (λ t. IsTrue (is_checked t)) same (items_checked source.items step.0 step.1)
