-- The reduction of a text means the text.
use Rattle.std.proofs.Common.{◌≡◌, ℕ, zero, suc, ◌+◌, ◌<◌, IsTrue, ◌↔◌, List, [], ◌∷◌, ◌++◌, length, map, Some, slice_get, All}
use Rattle.std.proofs.Common.{refl, sym, ap, ap₂, ◌∙◌, subst, arith, zero-add}
use Rattle.std.specs.List.{list_all}
use Rattle.std.proofs.lemmas.Bool.{and_parts}
use Rattle.std.proofs.lemmas.List.{length-map}
use Rattle.std.proofs.lemmas.List.Elements.{All-nil, All-cons, All-head, All-tail}
use Rattle.std.proofs.lemmas.Option.{slice_get_within}
use Rattle.gta_theory.specs.Assignments.{Assignment}
use Rattle.ws2s_core.specs.declared.formula.Formula.TheVariants.{Not}
use Rattle.ws2s_core.specs.Satisfaction.{WSat}
use Rattle.ws2s_core.proofs.SatisfactionLemmas.{WSat-Single, WSat-Not}
use Rattle.ws2s_syntax.specs.declared.name.Name.{Name}
use Rattle.ws2s_syntax.specs.declared.name.Name.TheVariants.{Free, Local}
use Rattle.ws2s_syntax.specs.declared.declaration.Class.{Class}
use Rattle.ws2s_syntax.specs.declared.formula.TextFormula.{TextFormula}
use Rattle.ws2s_syntax.specs.Sentences.{sentence_of}
use Rattle.ws2s_syntax.specs.Checked.{Text, IsChecked, class_of, class_of_free, free_classes, signatures_of, is_sentence, are_predicates}
use Rattle.ws2s_syntax.specs.Meaning.{Value, place, places, value_of, Means, predicates_of, Satisfies, IsGiven, GivesFrom, Gives}
use Rattle.ws2s_forms.specs.Forms.{track, and_list}
use Rattle.ws2s_reduce.specs.Reducing.{track_of, reduced, reductions_of, formulas_of, singles_from, singles_of, holds_of, breaks_of}
use Rattle.ws2s_forms.proofs.PositionsLemmas.{IsOnly-same}
use Rattle.ws2s_reduce.proofs.NamesLemmas.{IsHeldAs, IsHeld, Fits}
use Rattle.ws2s_forms.proofs.ConnectivesLemmas.{EachSat, EachSat-append, WSat-and_list}
use Rattle.ws2s_reduce.proofs.SentencesLemmas.{WSat-sentence}
use Rattle.ws2s_reduce.proofs.PredicatesLemmas.{Knows-predicates}

-- the values that an assignment gives are what the tracks hold
given_held : (given : Assignment) (t : ℕ) (c : Class) (v : Value) → IsGiven (given t) c v → IsHeldAs c (given t) (Some v)
given_held given t Class.Position (place u) h = h
given_held given t Class.Position (places set) h = absurd h
given_held given t Class.Set (place u) h = absurd h
given_held given t Class.Set (places set) h = h

gives_held : (a : Assignment) (classes : List Class) (values : List Value) (n i : ℕ) (c : Class) → GivesFrom a n classes values →
    slice_get classes i ≡ Some c → IsHeldAs c (a (n + i)) (slice_get values i)
gives_held a [] values n i c h e = let within : i < 0 = slice_get_within [] i c e in absurd (omega (arith, within))
gives_held a (d ∷ classes) [] n i c h e = absurd h
gives_held a (d ∷ classes) (v ∷ values) n zero c h e =
    let same : d ≡ c = cc in
    let at : n ≡ n + 0 = omega arith in
    subst (λ t. IsHeldAs c (a t) (Some v)) at (subst (λ d. IsHeldAs d (a n) (Some v)) same (given_held a n d v h.0))
gives_held a (d ∷ classes) (v ∷ values) n (suc i) c h e =
    let at : suc n + i ≡ n + suc i = omega arith in
    subst (λ t. IsHeldAs c (a t) (slice_get values i)) at (gives_held a classes values (suc n) i c h.1 e)

Fits-free : (a : Assignment) (classes : List Class) (values : List Value) (next : ℕ) → next ≡ length classes →
    GivesFrom a 0 classes values →
    Fits (record { free = classes; local = [] }) a next [] (record { free = values; local = [] })
Fits-free a classes values next is_next h = record { as_many_tracks = refl; as_many_values = refl; held = held }
  where
    held : (x : Name) (c : Class) → class_of (record { free = classes; local = [] }) x ≡ Some c →
        IsHeld a next (track_of [] x) c (value_of (record { free = values; local = [] }) x)
    held (Free i) c e =
        let within : i < length classes = slice_get_within classes i c e in
        record {
          below = omega (arith, within, is_next);
          same = subst (λ t. IsHeldAs c (a t) (slice_get values i)) (zero-add i) (gives_held a classes values 0 i c h e);
        }
    held (Local k) c e = let within : k < 0 = slice_get_within [] k c e in absurd (omega (arith, within))

-- each `var1` is one position: the assignment gives the variables some values
singles_give : (a : Assignment) (classes : List Class) (n : ℕ) → EachSat a (singles_from n classes) →
    (values : List Value) × GivesFrom a n classes values
singles_give a [] n h = ([], tt)
singles_give a (Class.Position ∷ classes) n h =
    let one = (WSat-Single (track n) a).0 h.0 in
    let rest = singles_give a classes (suc n) h.1 in
    (place one.0 ∷ rest.0, (one.1, rest.1))
singles_give a (Class.Set ∷ classes) n h =
    let rest = singles_give a classes (suc n) h in
    (places (a n) ∷ rest.0, (refl, rest.1))

given_singles : (a : Assignment) (classes : List Class) (values : List Value) (n : ℕ) → GivesFrom a n classes values →
    EachSat a (singles_from n classes)
given_singles a [] values n h = tt
given_singles a (c ∷ classes) [] n h = absurd h
given_singles a (Class.Position ∷ classes) (place u ∷ values) n h =
    ((WSat-Single (track n) a).1 (u, h.0), given_singles a classes values (suc n) h.1)
given_singles a (Class.Position ∷ classes) (places set ∷ values) n h = absurd h.0
given_singles a (Class.Set ∷ classes) (v ∷ values) n h = given_singles a classes values (suc n) h.1

-- what an assignment gives is one list of values
value_once : (given : Assignment) (t : ℕ) (c : Class) (v w : Value) → IsGiven (given t) c v → IsGiven (given t) c w → v ≡ w
value_once given t Class.Position (place u) (place w) h k = ap place (IsOnly-same (given t) u w h k)
value_once given t Class.Position (place u) (places set) h k = absurd k
value_once given t Class.Position (places set) w h k = absurd h
value_once given t Class.Set (place u) w h k = absurd h
value_once given t Class.Set (places set) (place w) h k = absurd k
value_once given t Class.Set (places set) (places other) h k = ap places (sym h ∙ k)

pub given_once : (a : Assignment) (classes : List Class) (n : ℕ) (values others : List Value) → GivesFrom a n classes values →
    GivesFrom a n classes others → values ≡ others
given_once a [] n [] [] h k = refl
given_once a [] n [] (w ∷ others) h k = absurd k
given_once a [] n (v ∷ values) others h k = absurd h
given_once a (c ∷ classes) n [] others h k = absurd h
given_once a (c ∷ classes) n (v ∷ values) [] h k = absurd k
given_once a (c ∷ classes) n (v ∷ values) (w ∷ others) h k =
    ap₂ (λ x xs. x ∷ xs) (value_once a n c v w h.0 k.0) (given_once a classes (suc n) values others h.1 k.1)

module _ (text : Text) (a : Assignment) (checked : IsChecked text) where
  parts : IsTrue (are_predicates (free_classes text) [] text.predicates)
      × IsTrue (list_all (λ f. is_sentence (signatures_of text) (record { free = free_classes text; local = [] })
      (sentence_of f)) text.formulas)
  parts = and_parts _ _ checked.names

  -- each formula of the text holds where the variables stand for these values
  each_formula : (values : List Value) → Gives a text values → (formulas : List TextFormula) →
      IsTrue (list_all (λ f. is_sentence (signatures_of text) (record { free = free_classes text; local = [] }) (sentence_of f)) formulas) →
      EachSat a (map (λ f. reduced (reductions_of text) (length text.free) [] (sentence_of f)) formulas)
      ↔ All (λ f. Means (predicates_of text values) (record { free = values; local = [] }) (sentence_of f)) formulas
  each_formula values gives [] is = ((λ h. All-nil _), (λ h. tt))
  each_formula values gives (f ∷ formulas) is =
      let each = and_parts (is_sentence (signatures_of text) (record { free = free_classes text; local = [] }) (sentence_of f)) _ is in
      let rest = each_formula values gives formulas each.1 in
      let first = WSat-sentence (free_classes text) values (signatures_of text) (predicates_of text values) (reductions_of text)
      (Knows-predicates (free_classes text) values text.predicates parts.0) (sentence_of f) [] a (length text.free) [] []
      (Fits-free a (free_classes text) values (length text.free) (sym (length-map text.free class_of_free)) gives) each.0 in (
        (λ h. All-cons (λ f. Means (predicates_of text values) (record { free = values; local = [] }) (sentence_of f)) f formulas
            (first.0 h.0) (rest.0 h.1)),
        (λ h. (
          first.1 (All-head (λ f. Means (predicates_of text values) (record { free = values; local = [] }) (sentence_of f)) f formulas h),
          rest.1 (All-tail (λ f. Means (predicates_of text values) (record { free = values; local = [] }) (sentence_of f)) f formulas h),
        )),
      )

  satisfied : (values : List Value) → Gives a text values → EachSat a (formulas_of text) ↔ Satisfies text values
  satisfied values gives = each_formula values gives text.formulas parts.1

  pub WSat-holds : WSat (holds_of text) a ↔ ((free : List Value) × Gives a text free × Satisfies text free)
  WSat-holds =
      let all = WSat-and_list a (length text.free) (singles_of text ++ formulas_of text) in
      let split = EachSat-append a (singles_of text) (formulas_of text) in (
        (λ h.
            let both = split.0 (all.0 h) in
            let values = singles_give a (free_classes text) 0 both.0 in
            (values.0, values.1, (satisfied values.0 values.1).0 both.1)),
        (λ h. all.1 (split.1 (given_singles a (free_classes text) h.0 0 h.1, (satisfied h.0 h.1).1 h.2))),
      )

  pub WSat-breaks : WSat (breaks_of text) a ↔ ((free : List Value) × Gives a text free × (¬ Satisfies text free))
  WSat-breaks =
      let all = WSat-and_list a (length text.free) (singles_of text ++ Not (and_list (length text.free) (formulas_of text)) ∷ []) in
      let split = EachSat-append a (singles_of text) (Not (and_list (length text.free) (formulas_of text)) ∷ []) in
      let formulas = WSat-and_list a (length text.free) (formulas_of text) in
      let fails = WSat-Not (and_list (length text.free) (formulas_of text)) a in (
        (λ h.
            let both = split.0 (all.0 h) in
            let values = singles_give a (free_classes text) 0 both.0 in
            (values.0, values.1, (λ k. fails.0 both.1.0 (formulas.1 ((satisfied values.0 values.1).1 k))))),
        (λ h.
            all.1 (split.1 (
              given_singles a (free_classes text) h.0 0 h.1,
              (fails.1 (λ k. h.2 ((satisfied h.0 h.1).0 (formulas.0 k))), tt),
            ))),
      )
