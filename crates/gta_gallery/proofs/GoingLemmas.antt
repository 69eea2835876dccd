-- Lists of values and of references that grow.
use Rattle.std.proofs.Common.{◌≡◌, ℕ, zero, suc, ◌+◌, ◌<◌, List, [], ◌∷◌, ◌++◌, length, Some}
use Rattle.std.proofs.Common.{refl, sym, ◌∙◌, ap, subst, arith, inl, inr, length-append}
use Rattle.std.specs.Prelude.{slice_get, if◌then◌else◌, Bool, true, false}
use Rattle.std.proofs.lemmas.Bool.{cases_lt}
use Rattle.std.proofs.lemmas.Option.{slice_get_within}
use Rattle.labels.specs.Labels.{empty_label}
use Rattle.bdd_nodes.specs.declared.node_ref.NodeRef.{NodeRef}
use Rattle.bdd_nodes.specs.Shelf.{Contents, state_of}
use Rattle.bdd_nodes.specs.Changes.{Keeps}
use Rattle.gta_gallery.specs.Functions.{AreValues, GoesTo, GoTo}

get-before : {X : Type 0} (xs : List X) (x : X) (k : ℕ) → k < length xs → slice_get (xs ++ x ∷ []) k ≡ slice_get xs k
get-before [] x k inside = absurd (omega arith)
get-before (y ∷ xs) x zero inside = refl
get-before (y ∷ xs) x (suc k) inside = get-before xs x k (omega arith)

get-last : {X : Type 0} (xs : List X) (x : X) → slice_get (xs ++ x ∷ []) (length xs) ≡ Some x
get-last [] x = refl
get-last (y ∷ xs) x = get-last xs x

pub AreValues-push : (f : ℕ → ℕ) (n : ℕ) (xs : List ℕ) (x : ℕ) → AreValues f n xs → x ≡ f n → AreValues f (n + 1) (xs ++ x ∷ [])
AreValues-push f n xs x so_far is = record {
  many = let m = so_far.many in length-append xs (x ∷ []) ∙ (omega arith);
  each = λ k k_in. elim (cases_lt k n) [
    | inl before ↦ get-before xs x k (let m = so_far.many in omega arith) ∙ so_far.each k before
    | inr last ↦
        let here : k ≡ length xs = (let m = so_far.many in omega arith) in
        let same : k ≡ n = omega arith in
        ap (slice_get (xs ++ x ∷ [])) here ∙ get-last xs x ∙ ap (λ (v : ℕ). Some v) (is ∙ ap f (sym same))
  ];
}

-- references go where they went, in a shelf that keeps them
pub GoesTo-kept : (old new : Contents) (states : ℕ) (r : NodeRef) → Keeps old new → GoesTo old states r → GoesTo new states r
GoesTo-kept old new states r keeps goes = record {
  valid = keeps.valid r goes.valid;
  below = λ label. let e = keeps.states r label goes.valid in let b = goes.below label in omega arith;
}

pub GoTo-kept : (old new : Contents) (states : ℕ) (refs : List NodeRef) → Keeps old new → GoTo old states refs → GoTo new states refs
GoTo-kept old new states refs keeps go = record {
  each = λ k r there. GoesTo-kept old new states r keeps (go.each k r there);
  first = λ r there. keeps.states r empty_label (go.each 0 r there).valid ∙ go.first r there;
}

pub GoTo-one : (shelf : Contents) (states : ℕ) (r : NodeRef) → GoesTo shelf states r → state_of shelf r empty_label ≡ 0 → GoTo shelf states (r ∷ [])
GoTo-one shelf states r goes start = record {
  each = λ k other there. only k other there;
  first = λ other there. let is : r ≡ other = cc in subst (λ (x : NodeRef). state_of shelf x empty_label ≡ 0) is start;
}
  where
    only : (k : ℕ) (other : NodeRef) → slice_get (r ∷ []) k ≡ Some other → GoesTo shelf states other
    only zero other there = let is : r ≡ other = cc in subst (GoesTo shelf states) is goes
    only (suc k) other there = absurd cc

pub GoTo-push : (old new : Contents) (states : ℕ) (refs : List NodeRef) (r : NodeRef) → Keeps old new → 0 < length refs → GoTo old states refs →
    GoesTo new states r → GoTo new states (refs ++ r ∷ [])
GoTo-push old new states refs r keeps some go goes =
    let kept = GoTo-kept old new states refs keeps go in
    record {
      each = λ k other there. elim (cases_lt k (length refs)) [
        | inl before ↦ kept.each k other (sym (get-before refs r k before) ∙ there)
        | inr past ↦
            let inside = slice_get_within (refs ++ r ∷ []) k other there in
            let here : length refs ≡ k = (let l = length-append refs (r ∷ []) in omega arith) in
            let same : Some r ≡ Some other = sym (get-last refs r) ∙ ap (slice_get (refs ++ r ∷ [])) here ∙ there in
            let is : r ≡ other = cc in
            subst (GoesTo new states) is goes
      ];
      first = λ other there. kept.first other (sym (get-before refs r 0 some) ∙ there);
    }

-- one of two states below is a state below
pub if-below : (b : Bool) (low high states : ℕ) → low < states → high < states → (if b then high else low) < states
if-below true low high states low_in high_in = high_in
if-below false low high states low_in high_in = low_in
