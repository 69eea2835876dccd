-- On lists in order of which elements move one by one to another list.
use Rattle.std.proofs.Common.{◌≡◌, ◌≢◌, ℕ, ◌<◌, ◌≤◌, Bool, true, false, cond, List, [], ◌∷◌, ◌++◌, Some, All, refl, sym, ap, subst}
use Rattle.std.proofs.Common.{◌∙◌, arith, inl, inr}
use Rattle.std.proofs.lemmas.Bool.{false≢true, cases_lt, cases_eq}
use Rattle.std.proofs.lemmas.List.Elements.{All-head, All-tail}
use Rattle.std.proofs.lemmas.Map.Keys.{sorted_head, sorted_tail}
use Rattle.std.specs.declared.cmp.Ordering.{Ordering}
use Rattle.std.specs.declared.cmp.Ordering.TheVariants.{Less, Equal, Greater}
use Rattle.std.specs.Ordering.{nat_cmp, is_eq, is_gt, match_ordering, MatchOrdering}
use Rattle.std.specs.Cmp.{nat_cmp_is}
use Rattle.std.specs.List.{AllByRecursion}
use Rattle.std.specs.List.Sorted.{IsStrictlySortedBy}
use Rattle.std.specs.Map.{lookup, remove_entry, keys_of}
use Rattle.std.specs.BTreeMap.{insert_entry, is_at}
use Rattle.ws2s_narrow.specs.Waiting.{Ascends, Woven, none, one, other}

pub cmp-tells : (a b : ℕ) (o : Ordering) → nat_cmp a b ≡ o → MatchOrdering o (a < b) (a ≡ b) (b < a)
cmp-tells a b o e = elim (cases_eq a b) [
  | inl same ↦ subst (λ (r : Ordering). MatchOrdering r (a < b) (a ≡ b) (b < a)) (nat_cmp_is a b Equal same ∙ e) same
  | inr apart ↦ elim (cases_lt a b) [
    | inl below ↦ subst (λ (r : Ordering). MatchOrdering r (a < b) (a ≡ b) (b < a)) (nat_cmp_is a b Less below ∙ e) below
    | inr above ↦
        let over : b < a = omega arith in
        subst (λ (r : Ordering). MatchOrdering r (a < b) (a ≡ b) (b < a)) (nat_cmp_is a b Greater over ∙ e) over
  ]
]

gt-tells : (number k : ℕ) (o : Ordering) → nat_cmp number k ≡ o → is_gt o ≡ true → k < number
gt-tells number k Less is e = absurd (false≢true e)
gt-tells number k Equal is e = absurd (false≢true e)
gt-tells number k Greater is e = cmp-tells number k Greater is

not-gt-tells : (number k : ℕ) (o : Ordering) → nat_cmp number k ≡ o → is_gt o ≡ false → number ≤ k
not-gt-tells number k Less is e = let below : number < k = cmp-tells number k Less is in omega arith
not-gt-tells number k Equal is e = let same : number ≡ k = cmp-tells number k Equal is in omega arith
not-gt-tells number k Greater is e = absurd (false≢true (sym e))

module _ {X : Type 0} where
  above-all : (k : ℕ) (es : List (ℕ × X)) → AllByRecursion (λ y. nat_cmp k y ≡ Less) (keys_of es) → AllByRecursion (λ (d : ℕ × X). k < d.0) es
  above-all k [] h = tt
  above-all k (e ∷ es) h = (cmp-tells k e.0 Less h.0, above-all k es h.1)

  pub Ascends-ordered : (es : List (ℕ × X)) → IsStrictlySortedBy nat_cmp (keys_of es) → Ascends es
  Ascends-ordered [] h = tt
  Ascends-ordered (e ∷ es) h = (above-all e.0 es (sorted_head nat_cmp e.0 (keys_of es) h), Ascends-ordered es (sorted_tail nat_cmp e.0 (keys_of es) h))

  abbrev pair : ℕ → X → ℕ × X
  pair k v = (k, v)

  pair-is : (e : ℕ × X) (k : ℕ) (v : X) → e.0 ≡ k → e.1 ≡ v → e ≡ (k, v)
  pair-is e k v number value = ap (λ (n : ℕ). pair n e.1) number ∙ ap (pair k) value

  pub All-weaker : (P Q : ℕ × X → Type 0) → ((e : ℕ × X) → P e → Q e) → (es : List (ℕ × X)) → AllByRecursion P es → AllByRecursion Q es
  All-weaker P Q weaker [] h = tt
  All-weaker P Q weaker (e ∷ es) h = (weaker e h.0, All-weaker P Q weaker es h.1)

  pub All-zip : (P Q R : ℕ × X → Type 0) → ((e : ℕ × X) → P e → Q e → R e) → (es : List (ℕ × X)) →
      AllByRecursion P es → AllByRecursion Q es → AllByRecursion R es
  All-zip P Q R both [] h k = tt
  All-zip P Q R both (e ∷ es) h k = (both e h.0 k.0, All-zip P Q R both es h.1 k.1)

  pub All-parts : (P : ℕ × X → Type 0) (es fs : List (ℕ × X)) → AllByRecursion P (es ++ fs) → AllByRecursion P es × AllByRecursion P fs
  All-parts P [] fs h = (tt, h)
  All-parts P (e ∷ es) fs h = let rest = All-parts P es fs h.1 in ((h.0, rest.0), rest.1)

  pub Ascends-first : (es fs : List (ℕ × X)) → Ascends (es ++ fs) → Ascends es
  Ascends-first [] fs h = tt
  Ascends-first (e ∷ es) fs h = ((All-parts (λ (d : ℕ × X). e.0 < d.0) es fs h.0).0, Ascends-first es fs h.1)

  pub All-remove : (P : ℕ × X → Type 0) (test : ℕ → Bool) (es : List (ℕ × X)) → AllByRecursion P es → AllByRecursion P (remove_entry test es)
  All-remove P test [] h = tt
  All-remove P test (e ∷ es) h = pick (All-remove P test es h.1) (test e.0)
    where
      pick : AllByRecursion P (remove_entry test es) → (b : Bool) → AllByRecursion P (cond b es (e ∷ remove_entry test es))
      pick rest true = h.1
      pick rest false = (h.0, rest)

  pub All-insert : (P : ℕ × X → Type 0) (k : ℕ) (v : X) (es : List (ℕ × X)) → P (k, v) → AllByRecursion P es →
      AllByRecursion P (insert_entry nat_cmp es k v)
  All-insert P k v [] new h = (new, tt)
  All-insert P k v (e ∷ es) new h = pick (All-insert P k v es new h.1) (nat_cmp k e.0) refl
    where
      pick : AllByRecursion P (insert_entry nat_cmp es k v) → (o : Ordering) → nat_cmp k e.0 ≡ o →
          AllByRecursion P (match_ordering o ((k, v) ∷ e ∷ es) ((e.0, v) ∷ es) (e ∷ insert_entry nat_cmp es k v))
      pick rest Less is = (new, h)
      pick rest Equal is = (subst (λ (n : ℕ). P (n, v)) (cmp-tells k e.0 Equal is) new, h.1)
      pick rest Greater is = (h.0, rest)

  -- what holds of all elements holds of one that is found
  pub All-found : (P : ℕ × X → Type 0) (k : ℕ) (v : X) (es : List (ℕ × X)) → AllByRecursion P es → lookup (is_at (nat_cmp k)) es ≡ Some v → P (k, v)
  All-found P k v [] h found = absurd cc
  All-found P k v (e ∷ es) h found = pick (λ later. All-found P k v es h.1 later) (nat_cmp k e.0) refl found
    where
      pick : (lookup (is_at (nat_cmp k)) es ≡ Some v → P (k, v)) → (o : Ordering) → nat_cmp k e.0 ≡ o → cond (is_eq o) (Some e.1) (lookup (is_at
          (nat_cmp k)) es) ≡ Some v → P (k, v)
      pick rest Less is found = rest found
      pick rest Equal is found =
          let number : e.0 ≡ k = sym (cmp-tells k e.0 Equal is) in
          let value : e.1 ≡ v = cc in
          subst (λ (w : X). P (k, w)) value (subst (λ (n : ℕ). P (n, e.1)) number h.0)
      pick rest Greater is found = rest found

  -- what was taken out is gone
  pub All-removed : (k : ℕ) (es : List (ℕ × X)) → Ascends es → AllByRecursion (λ (d : ℕ × X). d.0 ≢ k) (remove_entry (is_at (nat_cmp k)) es)
  All-removed k [] h = tt
  All-removed k (e ∷ es) h = pick (All-removed k es h.1) (nat_cmp k e.0) refl
    where
      pick : AllByRecursion (λ (d : ℕ × X). d.0 ≢ k) (remove_entry (is_at (nat_cmp k)) es) → (o : Ordering) → nat_cmp k e.0 ≡ o → AllByRecursion (λ
          (d : ℕ × X). d.0 ≢ k) (cond (is_eq o) es (e ∷ remove_entry (is_at (nat_cmp k)) es))
      pick rest Less is = ((λ same. let below : k < e.0 = cmp-tells k e.0 Less is in omega arith), rest)
      pick rest Equal is = All-weaker (λ (d : ℕ × X). e.0 < d.0) (λ (d : ℕ × X). d.0 ≢ k)
          (λ d above same. let number : k ≡ e.0 = cmp-tells k e.0 Equal is in omega arith) es h.0
      pick rest Greater is = ((λ same. let above : e.0 < k = cmp-tells k e.0 Greater is in omega arith), rest)

  pub insert-first : (k : ℕ) (v : X) (es : List (ℕ × X)) → AllByRecursion (λ (d : ℕ × X). k < d.0) es → insert_entry nat_cmp es k v ≡ (k, v) ∷ es
  insert-first k v [] h = refl
  insert-first k v (e ∷ es) h =
      ap (λ (o : Ordering). match_ordering o ((k, v) ∷ e ∷ es) ((e.0, v) ∷ es) (e ∷ insert_entry nat_cmp es k v)) (sym (nat_cmp_is k e.0 Less h.0))

  pub All-woven : (P : ℕ × X → Type 0) {all these those : List (ℕ × X)} → Woven all these those → AllByRecursion P all →
      AllByRecursion P these × AllByRecursion P those
  All-woven P none h = (tt, tt)
  All-woven P (one woven) h = let rest = All-woven P woven h.1 in ((h.0, rest.0), rest.1)
  All-woven P (other woven) h = let rest = All-woven P woven h.1 in (rest.0, (h.0, rest.1))

  pub Ascends-woven : {all these those : List (ℕ × X)} → Woven all these those → Ascends all → Ascends these
  Ascends-woven none h = tt
  Ascends-woven (one {x = e} woven) h = ((All-woven (λ (d : ℕ × X). e.0 < d.0) woven h.0).0, Ascends-woven woven h.1)
  Ascends-woven (other woven) h = Ascends-woven woven h.1

  pub Woven-turned : {all these those : List (ℕ × X)} → Woven all these those → Woven all those these
  Woven-turned none = none
  Woven-turned (one woven) = other (Woven-turned woven)
  Woven-turned (other woven) = one (Woven-turned woven)

  pub Woven-all : (es : List (ℕ × X)) → Woven es es []
  Woven-all [] = none
  Woven-all (e ∷ es) = one (Woven-all es)

  -- an element goes from the one list to its place in the other one
  pub Woven-moved : (k : ℕ) (v : X) {all these those : List (ℕ × X)} → Woven all these those → Ascends all →
      lookup (is_at (nat_cmp k)) these ≡ Some v → Woven all (remove_entry (is_at (nat_cmp k)) these) (insert_entry nat_cmp those k v)
  Woven-moved k v none h found = absurd cc
  Woven-moved k v (one {x = e} {all = all} {these = these} {those = those} woven) h found =
      pick (λ later. Woven-moved k v woven h.1 later) (nat_cmp k e.0) refl found
    where
      pick : (lookup (is_at (nat_cmp k)) these ≡ Some v →
          Woven all (remove_entry (is_at (nat_cmp k)) these) (insert_entry nat_cmp those k v)) →
          (o : Ordering) → nat_cmp k e.0 ≡ o → cond (is_eq o) (Some e.1) (lookup (is_at (nat_cmp k)) these) ≡ Some v →
          Woven (e ∷ all) (cond (is_eq o) these (e ∷ remove_entry (is_at (nat_cmp k)) these)) (insert_entry nat_cmp those k v)
      pick rest Less is found = one (rest found)
      pick rest Equal is found =
          let number : e.0 ≡ k = sym (cmp-tells k e.0 Equal is) in
          let value : e.1 ≡ v = cc in
          let first : insert_entry nat_cmp those k v ≡ (k, v) ∷ those = insert-first k v those
          (subst (λ (n : ℕ). AllByRecursion (λ (d : ℕ × X). n < d.0) those) number (All-woven (λ (d : ℕ × X). e.0 < d.0) woven h.0).1) in
          let same : e ≡ (k, v) = pair-is e k v number value in
          subst (Woven (e ∷ all) these) (ap (λ (d : ℕ × X). d ∷ those) same ∙ sym first) (other woven)
      pick rest Greater is found = one (rest found)
  Woven-moved k v (other {x = e} {all = all} {these = these} {those = those} woven) h found =
      let above : e.0 < k = All-found (λ (d : ℕ × X). e.0 < d.0) k v these (All-woven (λ (d : ℕ × X). e.0 < d.0) woven h.0).0 found in
      subst (Woven (e ∷ all) (remove_entry (is_at (nat_cmp k)) these))
      (ap (λ (o : Ordering). match_ordering o ((k, v) ∷ e ∷ those) ((e.0, v) ∷ those) (e ∷ insert_entry nat_cmp those k v)) (nat_cmp_is k e.0 Greater above))
      (other (Woven-moved k v woven h.1 found))

  -- of two parts in order, split at the number of one that is found, the second begins with it
  pub found-first : (k : ℕ) (v : X) (es fs : List (ℕ × X)) → Ascends fs → AllByRecursion (λ (d : ℕ × X). d.0 < k) es →
      AllByRecursion (λ (d : ℕ × X). k ≤ d.0) fs → lookup (is_at (nat_cmp k)) (es ++ fs) ≡ Some v →
      (rest : List (ℕ × X)) × (fs ≡ (k, v) ∷ rest)
  found-first k v [] [] h below above found = absurd cc
  found-first k v [] (f ∷ fs) h below above found = pick (nat_cmp k f.0) refl found
    where
      pick : (o : Ordering) → nat_cmp k f.0 ≡ o → cond (is_eq o) (Some f.1) (lookup (is_at (nat_cmp k)) fs) ≡ Some v →
          (rest : List (ℕ × X)) × (f ∷ fs ≡ (k, v) ∷ rest)
      pick Less is found =
          let over : k < f.0 = cmp-tells k f.0 Less is in
          let more : f.0 < k = All-found (λ (d : ℕ × X). f.0 < d.0) k v fs h.0 found in
          absurd (omega arith)
      pick Equal is found =
          let number : f.0 ≡ k = sym (cmp-tells k f.0 Equal is) in
          let value : f.1 ≡ v = cc in
          let same : f ≡ (k, v) = pair-is f k v number value in
          (fs, ap (λ (d : ℕ × X). d ∷ fs) same)
      pick Greater is found = let under : f.0 < k = cmp-tells k f.0 Greater is in absurd (let over : k ≤ f.0 = above.0 in omega arith)
  found-first k v (e ∷ es) fs h below above found = found-first k v es fs h below.1 above
      (ap (λ (o : Ordering). cond (is_eq o) (Some e.1) (lookup (is_at (nat_cmp k)) (es ++ fs))) (nat_cmp_is k e.0 Greater below.0) ∙ found)

  -- what holds of the one that is found holds of each element of its number
  pub All-at : (P : X → Type 0) (k : ℕ) (es : List (ℕ × X)) → Ascends es → ((v : X) → lookup (is_at (nat_cmp k)) es ≡ Some v → P v) →
      AllByRecursion (λ (d : ℕ × X). d.0 ≡ k → P d.1) es
  All-at P k [] h found = tt
  All-at P k (e ∷ es) h found = pick (λ later. All-at P k es h.1 later) (nat_cmp k e.0) refl
    where
      pick : (((v : X) → lookup (is_at (nat_cmp k)) es ≡ Some v → P v) → AllByRecursion (λ (d : ℕ × X). d.0 ≡ k → P d.1) es) → (o : Ordering) →
          nat_cmp k e.0 ≡ o → AllByRecursion (λ (d : ℕ × X). d.0 ≡ k → P d.1) (e ∷ es)
      pick rest Less is = (
        (λ same. let below : k < e.0 = cmp-tells k e.0 Less is in absurd (omega arith)),
        rest (λ v there. found v (ap (λ (o : Ordering). cond (is_eq o) (Some e.1) (lookup (is_at (nat_cmp k)) es)) is ∙ there)),
      )
      pick rest Equal is = (
        (λ same. found e.1 (ap (λ (o : Ordering). cond (is_eq o) (Some e.1) (lookup (is_at (nat_cmp k)) es)) is)),
        All-weaker (λ (d : ℕ × X). e.0 < d.0) (λ (d : ℕ × X). d.0 ≡ k → P d.1)
            (λ d above same. let number : k ≡ e.0 = cmp-tells k e.0 Equal is in absurd (omega arith)) es h.0,
      )
      pick rest Greater is = (
        (λ same. let above : e.0 < k = cmp-tells k e.0 Greater is in absurd (omega arith)),
        rest (λ v there. found v (ap (λ (o : Ordering). cond (is_eq o) (Some e.1) (lookup (is_at (nat_cmp k)) es)) is ∙ there)),
      )

  pub All-below : (number : ℕ) (es : List (ℕ × X)) → All (λ k. is_gt (nat_cmp number k) ≡ true) (keys_of es) →
      AllByRecursion (λ (d : ℕ × X). d.0 < number) es
  All-below number [] h = tt
  All-below number (e ∷ es) h = (
    gt-tells number e.0 (nat_cmp number e.0) refl (All-head (λ (k : ℕ). is_gt (nat_cmp number k) ≡ true) e.0 (keys_of es) h),
    All-below number es (All-tail (λ (k : ℕ). is_gt (nat_cmp number k) ≡ true) e.0 (keys_of es) h),
  )

  pub All-above : (number : ℕ) (es : List (ℕ × X)) → All (λ k. is_gt (nat_cmp number k) ≡ false) (keys_of es) →
      AllByRecursion (λ (d : ℕ × X). number ≤ d.0) es
  All-above number [] h = tt
  All-above number (e ∷ es) h = (
    not-gt-tells number e.0 (nat_cmp number e.0) refl (All-head (λ (k : ℕ). is_gt (nat_cmp number k) ≡ false) e.0 (keys_of es) h),
    All-above number es (All-tail (λ (k : ℕ). is_gt (nat_cmp number k) ≡ false) e.0 (keys_of es) h),
  )

  pub Ascends-remove : (test : ℕ → Bool) (es : List (ℕ × X)) → Ascends es → Ascends (remove_entry test es)
  Ascends-remove test [] h = tt
  Ascends-remove test (e ∷ es) h = pick (Ascends-remove test es h.1) (test e.0)
    where
      pick : Ascends (remove_entry test es) → (b : Bool) → Ascends (cond b es (e ∷ remove_entry test es))
      pick rest true = h.1
      pick rest false = (All-remove (λ (d : ℕ × X). e.0 < d.0) test es h.0, rest)
