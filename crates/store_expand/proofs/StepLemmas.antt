-- One step of the walk through what predicates are put into: it keeps the forms of the whole, and lowers the steps that are left.
use Rattle.std.proofs.Common.{◌≡◌, ℕ, ◌+◌, ◌<◌, List, [], ◌∷◌, ◌++◌, map, flat_map, reverse, Option, Some, None}
use Rattle.std.proofs.Common.{sym, refl, ap, ap₂, ◌∙◌, subst, subst₂, arith, append_assoc, append-nil}
use Rattle.std.specs.Prelude.{sum_by}
use Rattle.std.specs.Option.{option_map_or}
use Rattle.std.specs.List.{AllByRecursion}
use Rattle.std.proofs.lemmas.Grind.{flat_map-append}
use Rattle.std.proofs.lemmas.List.{map_push, reverse-append}
use Rattle.std.proofs.lemmas.List.Sums.{sum_by-append, sum_by-cons, sum_by_push}
use Rattle.store_logic.specs.declared.assertion.Assertion.{Assertion, out-Assertion}
use Rattle.store_logic.specs.declared.pred.PredDef.{PredDef}
use Rattle.store_logic.specs.Expansion.{expanded_bodies}
use Rattle.store_logic.specs.Postfix.{Form, parts_of, postfix_of}
use Rattle.store_logic.specs.Uses.{CanExpand}
use Rattle.store_logic.proofs.ExpandingLists.{all-append, all-first, all-second}
use Rattle.store_expand.specs.Standing.{Standing}
use Rattle.store_expand.specs.Opening.{Spot, expanded_at, body_there, inside, parts_there, form_at, stepped, body_steps, steps}
use Rattle.store_expand.specs.declared.places.Place.{Place}
use Rattle.store_expand.specs.Places.{spot, form_there}
use Rattle.store_expand.proofs.OpeningLemmas.{Right, forms-split, parts-right, parts-steps, Opens, opens, ends}

module _ (preds : List PredDef) where
  -- the forms of what is left, and those so far from the last
  abbrev pub forms_of : List Spot → List Form
  forms_of pending = flat_map (λ at. postfix_of (expanded_at (expanded_bodies (reverse preds)) at)) pending

  abbrev pub AllRight : List Spot → Type 0
  AllRight pending = AllByRecursion (λ at. Right preds at.0) pending

  abbrev pub steps_left : List Spot → ℕ
  steps_left pending = sum_by (λ at. steps preds at.0) pending

  all-there : (v : Standing) (parts : List Assertion) → AllByRecursion (Right preds) parts → AllRight (map (λ part. (part, v)) parts)
  all-there v [] h = tt
  all-there v (a ∷ parts) h = (h.0, all-there v parts h.1)

  steps-there : (v : Standing) (parts : List Assertion) → steps_left (map (λ part. (part, v)) parts) ≡ sum_by (steps preds) parts
  steps-there v [] = refl
  steps-there v (a ∷ parts) = sum_by-cons (λ at. steps preds at.0) (a, v) (map (λ part. (part, v)) parts)
      ∙ ap (λ (n : ℕ). steps preds a + n) (steps-there v parts) ∙ sym (sum_by-cons (steps preds) a parts)

  -- what a step does
  pub record IsStep (next : Spot) (pending forms : List Spot) (after : List Spot × List Spot) : Type 0 where
    pub same : forms_of after.0 ++ reverse (map form_at after.1) ≡ forms_of (pending ++ next ∷ []) ++ reverse (map form_at forms)
    pub right : AllRight pending → AllRight after.0
    pub less : steps_left after.0 < steps_left (pending ++ next ∷ [])

  module _ (whole : Assertion) (can : CanExpand preds whole) (next : Spot) (pending forms : List Spot) (right : Right preds next.0) where
    abbrev of_body : Option Spot → List Spot × List Spot
    of_body found = option_map_or (λ body. (pending ++ body ∷ [], forms)) found (pending ++ parts_there next, forms ++ next ∷ [])

    -- a form that comes before its parts' turn, and after them in order
    joined : (first own : List Form) (f : Form) (rest all : List Form) → all ≡ own ++ f ∷ [] → (first ++ own) ++ f ∷ rest ≡ (first ++ (all ++ [])) ++ rest
    joined first own f rest all is = append_assoc first own (f ∷ rest)
        ∙ ap (λ (l : List Form). first ++ l) (sym (append_assoc own (f ∷ []) rest) ∙ ap (λ (l : List Form). l ++ rest) (sym (append-nil all ∙ is)))
        ∙ sym (append_assoc first (all ++ []) rest)

    parts : body_there preds next ≡ None → IsStep next pending forms (pending ++ parts_there next, forms ++ next ∷ [])
    parts none = record {
      same = ap₂ (λ (l r : List Form). l ++ r)
          (flat_map-append (λ at. postfix_of (expanded_at (expanded_bodies (reverse preds)) at)) pending (parts_there next))
          (ap reverse (map_push form_at forms next) ∙ reverse-append (map form_at forms) (form_at next ∷ []))
          ∙ joined (forms_of pending) (forms_of (parts_there next)) (form_at next) (reverse (map form_at forms))
          (postfix_of (expanded_at (expanded_bodies (reverse preds)) next))
          (forms-split preds (expanded_bodies (reverse preds)) (ends preds whole can) next.1.args next.1.depth next.0 none)
          ∙ ap (λ (l : List Form). l ++ reverse (map form_at forms))
          (sym (flat_map-append (λ at. postfix_of (expanded_at (expanded_bodies (reverse preds)) at)) pending (next ∷ [])));
      right = λ all. all-append (λ at. Right preds at.0) pending (parts_there next) all (all-there _ _ (parts-right preds next.0 right));
      less =
          let own : sum_by (steps preds) (parts_of Assertion (out-Assertion next.0)) < steps preds next.0 = parts-steps (body_steps (reverse preds)) next.0 in
          let all : steps_left (parts_there next) ≡ sum_by (steps preds) (parts_of Assertion (out-Assertion next.0)) =
          steps-there (inside next.1 (out-Assertion next.0)) (parts_of Assertion (out-Assertion next.0)) in
          let left : steps_left (pending ++ parts_there next) ≡ steps_left pending + steps_left (parts_there next) =
          sum_by-append (λ at. steps preds at.0) pending (parts_there next) in
          let right : steps_left (pending ++ next ∷ []) ≡ steps_left pending + steps preds next.0 = sum_by_push (λ at. steps preds at.0) pending next in
          omega arith;
    }

    use_of : (body : Spot) → Opens preds whole can next.0 next.1 body → IsStep next pending forms (pending ++ body ∷ [], forms)
    use_of body it = record {
      same = ap (λ (l : List Form). l ++ reverse (map form_at forms))
          (flat_map-append (λ at. postfix_of (expanded_at (expanded_bodies (reverse preds)) at)) pending (body ∷ [])
          ∙ ap (λ (a : Assertion). forms_of pending ++ (postfix_of a ++ [])) (sym it.same)
          ∙ sym (flat_map-append (λ at. postfix_of (expanded_at (expanded_bodies (reverse preds)) at)) pending (next ∷ [])));
      right = λ all. all-append (λ at. Right preds at.0) pending (body ∷ []) all (it.right, tt);
      less =
          let own : steps preds body.0 < steps preds next.0 = it.less in
          let left : steps_left (pending ++ body ∷ []) ≡ steps_left pending + steps preds body.0 = sum_by_push (λ at. steps preds at.0) pending body in
          let right : steps_left (pending ++ next ∷ []) ≡ steps_left pending + steps preds next.0 = sum_by_push (λ at. steps preds at.0) pending next in
          omega arith;
    }

    pub is_step : IsStep next pending forms (stepped preds next pending forms)
    is_step = of (body_there preds next) refl
      where
        of : (found : Option Spot) → body_there preds next ≡ found → IsStep next pending forms (of_body found)
        of None e = parts e
        of (Some body) e = use_of body (opens preds whole can next.1.args next.1.depth body next.0 right e)

-- ---- a step of the code

module _ (preds : List PredDef) (whole : Assertion) (can : CanExpand preds whole) where
  -- what a step does to the places
  pub record Steps (pending places pending_after places_after : List Place) : Type 0 where
    pub same : forms_of preds (map spot pending_after) ++ reverse (map form_at (map spot places_after))
        ≡ forms_of preds (map spot pending) ++ reverse (map form_at (map spot places))
    pub right : AllRight preds (map spot pending_after)
    pub less : steps_left preds (map spot pending_after) < steps_left preds (map spot pending)

  pub steps-on : (pending popped places pending_after places_after : List Place) (next : Place) → pending ≡ popped ++ next ∷ [] →
      (map spot pending_after, map spot places_after) ≡ stepped preds (spot next) (map spot popped) (map spot places) →
      AllRight preds (map spot pending) → Steps pending places pending_after places_after
  steps-on pending popped places pending_after places_after next is after right =
      let spots : map spot pending ≡ map spot popped ++ spot next ∷ [] = ap (map spot) is ∙ map_push spot popped next in
      let own = subst (AllRight preds) spots right in
      let step = is_step preds whole can (spot next) (map spot popped) (map spot places)
      (all-second (λ at. Right preds at.0) (map spot popped) (spot next ∷ []) own).0 in
      let pendings = ap (λ (l : List Spot × List Spot). l.0) after in
      let all = ap (λ (l : List Spot × List Spot). l.1) after in
      record {
        same = ap₂ (λ (l r : List Spot). forms_of preds l ++ reverse (map form_at r)) pendings all ∙ step.same
            ∙ ap (λ (l : List Spot). forms_of preds l ++ reverse (map form_at (map spot places))) (sym spots);
        right = subst (AllRight preds) (sym pendings) (step.right (all-first (λ at. Right preds at.0) (map spot popped) (spot next ∷ []) own));
        less = subst₂ (λ (l r : List Spot). steps_left preds l < steps_left preds r) (sym pendings) (sym spots) step.less;
      }

-- the forms of places
pub forms-there : (places : List Place) → map form_there places ≡ map form_at (map spot places)
forms-there [] = refl
forms-there (place ∷ places) = ap (λ (l : List Form). form_there place ∷ l) (forms-there places)
