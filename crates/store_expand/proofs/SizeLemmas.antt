-- The loop that counts an assertion.
use Rattle.std.proofs.Common.{◌≡◌, ℕ, zero, suc, ◌+◌, ◌*◌, ◌<◌, ◌≤◌, lit≤, unwrap_or, slice_get}
use Rattle.std.proofs.Common.{List, [], ◌∷◌, ◌++◌, length, map, reverse, take, get_or, sym, refl, ap, ap₂, ◌∙◌, subst, subst₂, arith}
use Rattle.std.specs.Prelude.{sum_by}
use Rattle.std.specs.List.{AllByRecursion}
use Rattle.std.proofs.lemmas.List.{take_more, reverse-append, map_push}
use Rattle.std.proofs.lemmas.List.Sums.{sum_by-append, sum_by-cons, sum_by_push}
use Rattle.std.proofs.Math.Nat.{mul-le-mul}
use Rattle.store_logic.specs.declared.assertion.Assertion.{Assertion, out-Assertion, roll-Assertion, out-roll-Assertion}
use Rattle.store_logic.specs.declared.assertion.Assertion.TheOpen.{Assertion-F}
use Rattle.store_logic.specs.declared.assertion.Assertion.TheFolds.{ind-Assertion, map-Assertion, fold-roll-Assertion}
use Rattle.store_logic.specs.declared.pred.PredDef.{PredDef}
use Rattle.store_logic.specs.Expansion.{with_bodies, expanded_bodies, expansion}
use Rattle.store_logic.specs.Sizes.{node_count}
use Rattle.store_logic.specs.Postfix.{parts_of, form_count, form_count_of_node}
use Rattle.store_logic.specs.ExpandingSizes.{sized, capped, own_size_of_node, own_size, part_times_of_node, part_times, total_size}
use Rattle.store_logic.proofs.ExpandingLists.{all-append, all-first, all-second}
use Rattle.store_logic.proofs.ExpandingSizeLemmas.{sized-split, capped-bodies}
use Rattle.store_expand.specs.declared.size.Uncounted.{Uncounted}
use Rattle.store_expand.specs.Counting.{counted, counted_parts}
use Rattle.store_expand.specs.Sizes.{sizes_of}

-- it counts as often as a part of an assertion that isn't too large
abbrev pub CountsOften : Assertion × ℕ → Type 0
CountsOften part = part.1 ≤ 131072

-- how many forms the assertions are made of
abbrev pub forms_left : List (Assertion × ℕ) → ℕ
forms_left pending = sum_by (λ part. form_count part.0) pending

-- ---- the bodies of the predicates so far

pub sizes-added : (preds : List PredDef) (p : PredDef) (sizes : List ℕ) (size : ℕ) → sizes ≡ sizes_of preds → size ≡ capped (sized sizes p.body) →
    sizes ++ size ∷ [] ≡ sizes_of (preds ++ p ∷ [])
sizes-added preds p sizes size are is =
    let size_is : size ≡ capped (node_count (with_bodies (expanded_bodies (reverse preds)) p.body)) =
    is ∙ ap (λ (l : List ℕ). capped (sized l p.body)) are ∙ capped-bodies (expanded_bodies (reverse preds)) p.body in
    ap₂ (λ (l : List ℕ) (n : ℕ). l ++ n ∷ []) are size_is
    ∙ sym (map_push (λ b. capped (node_count b)) (expanded_bodies (reverse preds)) (with_bodies (expanded_bodies (reverse preds)) p.body))
    ∙ sym (ap (λ (l : List PredDef). map (λ b. capped (node_count b)) (expanded_bodies l)) (reverse-append preds (p ∷ [])))

pub sizes-next : (preds : List PredDef) (k : ℕ) (p : PredDef) (sizes : List ℕ) (size : ℕ) → p ≡ get_or preds k p → k < length preds →
    sizes ≡ sizes_of (take k preds) → size ≡ capped (sized sizes p.body) → sizes ++ size ∷ [] ≡ sizes_of (take (k + 1) preds)
sizes-next preds k p sizes size at inside are is =
    sizes-added (take k preds) p sizes size are is
    ∙ sym (ap sizes_of (take_more preds k p inside ∙ ap (λ (q : PredDef). take k preds ++ q ∷ []) (sym at)))

-- what is counted
pub size-is : (sizes : List ℕ) (preds : List PredDef) (a : Assertion) (size : ℕ) → sizes ≡ sizes_of preds → size ≡ capped (sized sizes a) →
    size ≡ capped (node_count (expansion preds a))
size-is sizes preds a size are is = is ∙ ap (λ (l : List ℕ). capped (sized l a)) are ∙ capped-bodies (expanded_bodies (reverse preds)) a

-- ---- one step of the count

get-small : (sizes : List ℕ) (k : ℕ) → AllByRecursion (λ size. size ≤ 65537) sizes → unwrap_or (slice_get sizes k) 1 ≤ 65537
get-small [] k small = lit≤ tt
get-small (n ∷ sizes) zero small = small.0
get-small (n ∷ sizes) (suc k) small = get-small sizes k small.1

own-node : (sizes : List ℕ) (x : Assertion-F Assertion) → AllByRecursion (λ size. size ≤ 65537) sizes → own_size_of_node sizes x ≤ 65537
own-node sizes (Assertion-F.Pred k args) small = get-small sizes k small
own-node sizes Assertion-F.True small = lit≤ tt
own-node sizes Assertion-F.False small = lit≤ tt
own-node sizes (Assertion-F.Truth t) small = lit≤ tt
own-node sizes (Assertion-F.Is t v) small = lit≤ tt
own-node sizes (Assertion-F.Same t u) small = lit≤ tt
own-node sizes (Assertion-F.Member t set) small = lit≤ tt
own-node sizes (Assertion-F.Subset set other) small = lit≤ tt
own-node sizes (Assertion-F.Walk t along u) small = lit≤ tt
own-node sizes (Assertion-F.Not a) small = lit≤ tt
own-node sizes (Assertion-F.And a b) small = lit≤ tt
own-node sizes (Assertion-F.Or a b) small = lit≤ tt
own-node sizes (Assertion-F.Imp a b) small = lit≤ tt
own-node sizes (Assertion-F.Iff a b) small = lit≤ tt
own-node sizes (Assertion-F.Ex ty a) small = lit≤ tt
own-node sizes (Assertion-F.All ty a) small = lit≤ tt
own-node sizes (Assertion-F.ExSet ty a) small = lit≤ tt
own-node sizes (Assertion-F.AllSet ty a) small = lit≤ tt

-- what a form adds fits
adds-little : (sizes : List ℕ) (a : Assertion) (times : ℕ) → AllByRecursion (λ size. size ≤ 65537) sizes → times ≤ 131072 →
    times * own_size sizes a ≤ 131072 * 65537
adds-little sizes a times small often =
    let own : own_size sizes a ≤ 65537 = own-node sizes (out-Assertion a) small in
    mul-le-mul often own

-- a part of a form that isn't too large
often-node : (sizes : List ℕ) (times : ℕ) (x : Assertion-F Assertion) → times * own_size_of_node sizes x ≤ 65536 →
    AllByRecursion CountsOften (map (λ part. (part, part_times_of_node times x)) (parts_of Assertion x))
often-node sizes times Assertion-F.True h = tt
often-node sizes times Assertion-F.False h = tt
often-node sizes times (Assertion-F.Truth t) h = tt
often-node sizes times (Assertion-F.Is t v) h = tt
often-node sizes times (Assertion-F.Same t u) h = tt
often-node sizes times (Assertion-F.Member t set) h = tt
often-node sizes times (Assertion-F.Subset set other) h = tt
often-node sizes times (Assertion-F.Walk t along u) h = tt
often-node sizes times (Assertion-F.Pred k args) h = tt
often-node sizes times (Assertion-F.Not a) h = (omega arith, tt)
often-node sizes times (Assertion-F.And a b) h = (omega arith, (omega arith, tt))
often-node sizes times (Assertion-F.Or a b) h = (omega arith, (omega arith, tt))
often-node sizes times (Assertion-F.Imp a b) h = (omega arith, (omega arith, tt))
often-node sizes times (Assertion-F.Iff a b) h = (omega arith, (omega arith, tt))
often-node sizes times (Assertion-F.Ex ty a) h = (omega arith, tt)
often-node sizes times (Assertion-F.All ty a) h = (omega arith, tt)
often-node sizes times (Assertion-F.ExSet ty a) h = (omega arith, tt)
often-node sizes times (Assertion-F.AllSet ty a) h = (omega arith, tt)

more : (n : ℕ) → n < n + 1
more n = omega arith

forms-node : (x : Assertion-F Assertion) → sum_by form_count (parts_of Assertion x) < form_count_of_node (map-Assertion Assertion ℕ form_count x)
forms-node Assertion-F.True = more 0
forms-node Assertion-F.False = more 0
forms-node (Assertion-F.Truth t) = more 0
forms-node (Assertion-F.Is t v) = more 0
forms-node (Assertion-F.Same t u) = more 0
forms-node (Assertion-F.Member t set) = more 0
forms-node (Assertion-F.Subset set other) = more 0
forms-node (Assertion-F.Walk t along u) = more 0
forms-node (Assertion-F.Pred k args) = more 0
forms-node (Assertion-F.Not a) = more _
forms-node (Assertion-F.And a b) = more _
forms-node (Assertion-F.Or a b) = more _
forms-node (Assertion-F.Imp a b) = more _
forms-node (Assertion-F.Iff a b) = more _
forms-node (Assertion-F.Ex ty a) = more _
forms-node (Assertion-F.All ty a) = more _
forms-node (Assertion-F.ExSet ty a) = more _
forms-node (Assertion-F.AllSet ty a) = more _

parts-forms : (a : Assertion) → sum_by form_count (parts_of Assertion (out-Assertion a)) < form_count a
parts-forms = ind-Assertion (λ a. sum_by form_count (parts_of Assertion (out-Assertion a)) < form_count a)
    (λ x y is. subst (λ z. sum_by form_count (parts_of Assertion z) < form_count (roll-Assertion x)) (sym (out-roll-Assertion x))
    (subst (λ (n : ℕ). sum_by form_count (parts_of Assertion x) < n) (sym (fold-roll-Assertion ℕ form_count_of_node x)) (forms-node x)))

forms-each : (times : ℕ) (parts : List Assertion) → forms_left (map (λ part. (part, times)) parts) ≡ sum_by form_count parts
forms-each times [] = refl
forms-each times (a ∷ parts) = sum_by-cons (λ part. form_count part.0) (a, times) (map (λ part. (part, times)) parts)
    ∙ ap (λ (n : ℕ). form_count a + n) (forms-each times parts) ∙ sym (sum_by-cons form_count a parts)

-- what a step does: the size of the form moves from what is left to the size so far
pub record Counts (sizes : List ℕ) (size : ℕ) (before : List (Assertion × ℕ)) (size_after : ℕ) (after : List (Assertion × ℕ)) : Type 0 where
  pub whole : size_after + total_size sizes after ≡ size + total_size sizes before
  pub often : AllByRecursion CountsOften after
  pub less : forms_left after < forms_left before

whole-stays : (sizes : List ℕ) (size : ℕ) (popped : List (Assertion × ℕ)) (next : Assertion × ℕ) →
    size + next.1 * own_size sizes next.0 + total_size sizes (popped ++ counted_parts next.1 next.0) ≡ size + total_size sizes (popped ++ next ∷ [])
whole-stays sizes size popped next =
    let own : next.1 * sized sizes next.0 ≡ next.1 * own_size sizes next.0 + total_size sizes (counted_parts next.1 next.0) =
    sized-split sizes next.1 next.0 in
    let left : total_size sizes (popped ++ counted_parts next.1 next.0) ≡ total_size sizes popped + total_size sizes (counted_parts next.1 next.0) =
    sum_by-append (λ p. p.1 * sized sizes p.0) popped (counted_parts next.1 next.0) in
    let right : total_size sizes (popped ++ next ∷ []) ≡ total_size sizes popped + next.1 * sized sizes next.0 =
    sum_by_push (λ p. p.1 * sized sizes p.0) popped next in
    omega arith

fewer-forms : (popped : List (Assertion × ℕ)) (next : Assertion × ℕ) →
    forms_left (popped ++ counted_parts next.1 next.0) < forms_left (popped ++ next ∷ [])
fewer-forms popped next =
    let own : sum_by form_count (parts_of Assertion (out-Assertion next.0)) < form_count next.0 = parts-forms next.0 in
    let each : forms_left (counted_parts next.1 next.0) ≡ sum_by form_count (parts_of Assertion (out-Assertion next.0)) =
    forms-each (part_times next.1 next.0) (parts_of Assertion (out-Assertion next.0)) in
    let left : forms_left (popped ++ counted_parts next.1 next.0) ≡ forms_left popped + forms_left (counted_parts next.1 next.0) =
    sum_by-append (λ part. form_count part.0) popped (counted_parts next.1 next.0) in
    let right : forms_left (popped ++ next ∷ []) ≡ forms_left popped + form_count next.0 = sum_by_push (λ part. form_count part.0) popped next in
    omega arith

module _ (sizes : List ℕ) (size : ℕ) (pending popped : List Uncounted) (next : Uncounted) (is : pending ≡ popped ++ next ∷ []) where
  all-counted : map counted pending ≡ map counted popped ++ counted next ∷ []
  all-counted = ap (map counted) is ∙ map_push counted popped next

  oftens : AllByRecursion CountsOften (map counted pending) → AllByRecursion CountsOften (map counted popped) × CountsOften (counted next)
  oftens all =
      let own = subst (AllByRecursion CountsOften) all-counted all in (
        all-first CountsOften (map counted popped) (counted next ∷ []) own,
        (all-second CountsOften (map counted popped) (counted next ∷ []) own).0,
      )

  -- the last of what is left counts as often as allowed
  pub often-last : AllByRecursion CountsOften (map counted pending) → next.times ≤ 131072
  often-last all = (oftens all).1

  module _ (own : ℕ) (own_is : own ≡ own_size sizes next.assertion.now) where
    -- what it adds fits
    pub adds-fits : AllByRecursion (λ size. size ≤ 65537) sizes → AllByRecursion CountsOften (map counted pending) → next.times * own ≤ 131072 * 65537
    adds-fits small all = subst (λ (n : ℕ). next.times * n ≤ 131072 * 65537) (sym own_is)
        (adds-little sizes next.assertion.now next.times small (often-last all))

    -- the size so far is no more than the whole
    pub whole-more : size + next.times * own ≤ size + total_size sizes (map counted pending)
    whole-more =
        let stays : size + next.times * own_size sizes next.assertion.now + total_size sizes (map counted popped ++ counted_parts next.times next.assertion.now)
        ≡ size + total_size sizes (map counted pending) =
        whole-stays sizes size (map counted popped) (counted next) ∙ ap (λ l. size + total_size sizes l) (sym all-counted) in
        subst (λ (n : ℕ). size + next.times * n ≤ size + total_size sizes (map counted pending)) (sym own_is) (omega arith)

    pub counts : (left : List Uncounted) → map counted left ≡ map counted popped ++ counted_parts next.times next.assertion.now →
        size + next.times * own ≤ 65536 → AllByRecursion CountsOften (map counted pending) →
        Counts sizes size (map counted pending) (size + next.times * own) (map counted left)
    counts left left_is small all = record {
      whole = ap₂ (λ (n : ℕ) (l : List (Assertion × ℕ)). size + next.times * n + total_size sizes l) own_is left_is
          ∙ whole-stays sizes size (map counted popped) (counted next) ∙ ap (λ l. size + total_size sizes l) (sym all-counted);
      often = subst (AllByRecursion CountsOften) (sym left_is) (all-append CountsOften (map counted popped) (counted_parts next.times next.assertion.now)
          (oftens all).0 (often-node sizes next.times (out-Assertion next.assertion.now)
          (subst (λ (n : ℕ). next.times * n ≤ 65536) own_is (omega arith))));
      less = subst₂ (λ (l r : List (Assertion × ℕ)). forms_left l < forms_left r) (sym left_is) (sym all-counted)
          (fewer-forms (map counted popped) (counted next));
    }
