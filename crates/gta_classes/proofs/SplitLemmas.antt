-- Classes are split.
use Rattle.std.proofs.Common.{◌≡◌, ◌≢◌, ℕ, ◌+◌, ◌<◌, ◌≤◌, ◌^◌, Bool, true, false, List, [], ◌∷◌, ◌++◌, length, Some, None, ◌⊎◌, inl, inr}
use Rattle.std.proofs.Common.{sym, ◌∙◌, ap, refl, subst, arith, length-append, append_assoc, append-nil}
use Rattle.std.specs.Prelude.{slice_index, slice_set, ◌&&◌, nat_eq}
use Rattle.std.specs.HashMap.{Updates}
use Rattle.std.proofs.Math.ListN.{get_or-append}
use Rattle.std.proofs.Math.Seq.{get_or-append_seam}
use Rattle.std.proofs.lemmas.List.{get_or-set_same, get_or-set_other, length-set, set-get_or}
use Rattle.std.proofs.lemmas.Bool.{cases_Bool, cases_lt, cases_eq, eqb-true, false≢true}
use Rattle.gta_classes.specs.Chosen.{is_marked}
use Rattle.gta_classes.specs.Classes.{AreClasses, IsSplit}
use Rattle.gta_classes.specs.Splitting.{Made, same_pair, made_for, IsStep, stays, known, makes}
use Rattle.gta_classes.proofs.ChosenLemmas.{marked-inside}

and-left : (a b : Bool) → (a && b) ≡ true → a ≡ true
and-left true b e = refl
and-left false b e = e

and-right : (a b : Bool) → (a && b) ≡ true → b ≡ true
and-right true b e = e
and-right false b e = absurd (false≢true e)

module _ (reached : List Bool) (ids old first : List ℕ) where
  -- the number of the representative of a class
  unfoldable pub first_id : ℕ → ℕ
  first_id class = slice_index ids (slice_index first class)

  -- a class that was made for states of a class with a number
  pub record IsMade (representatives : List ℕ) (class id made : ℕ) : Type 0 where
    pub least : length first ≤ made
    pub within : made < length representatives
    pub marked : is_marked reached (slice_index representatives made) ≡ true
    pub class_is : slice_index old (slice_index representatives made) ≡ class
    pub id_is : slice_index ids (slice_index representatives made) ≡ id
    pub other : id ≢ first_id class

  -- the state has its class
  pub data IsDone (made : Made) (now : List ℕ) (q : ℕ) : Type 0 where
    stayed : slice_index now q ≡ slice_index old q → slice_index ids q ≡ first_id (slice_index old q) → IsDone made now q
    went : made_for made (slice_index old q) (slice_index ids q) ≡ Some (slice_index now q) →
        slice_index ids q ≢ first_id (slice_index old q) → IsDone made now q

  -- the states that were seen have their classes
  pub record Splits (made : Made) (representatives now : List ℕ) (Seen : ℕ → Type 0) : Type 0 where
    pub many : length now ≡ length old
    pub more : List ℕ
    pub grown : representatives ≡ first ++ more
    pub few : length representatives ≤ 2 ^ 31
    pub ahead : (q : ℕ) → (Seen q → ⊥) → slice_index now q ≡ slice_index old q
    pub within : (q : ℕ) → q < length now → slice_index now q < length representatives
    pub done : (q : ℕ) → Seen q → is_marked reached q ≡ true → IsDone made now q
    pub sound : (class id x : ℕ) → made_for made class id ≡ Some x → IsMade representatives class id x
    pub full : (x : ℕ) → length first ≤ x → x < length representatives →
        made_for made (slice_index old (slice_index representatives x)) (slice_index ids (slice_index representatives x)) ≡ Some x
    pub unchanged : length representatives ≡ length first → now ≡ old

  pub Splits-start : (made : Made) (Seen : ℕ → Type 0) → ((q : ℕ) → Seen q → ⊥) → AreClasses reached old first →
      ((class id : ℕ) → made_for made class id ≡ None) → Splits made first old Seen
  Splits-start made Seen unseen classes none = record {
    many = refl;
    more = [];
    grown = sym (append-nil first);
    few = classes.few;
    ahead = λ q above. refl;
    within = classes.within;
    done = λ q seen. absurd (unseen q seen);
    sound = λ class id x there. absurd (let e : None ≡ Some x = sym (none class id) ∙ there in cc);
    full = λ x least within. absurd (omega arith);
    unchanged = λ same. refl;
  }

  -- one state more is seen
  module _ (made : Made) (representatives now : List ℕ) (state : ℕ) (Seen After : ℕ → Type 0) (kept : (q : ℕ) → Seen q → After q)
      (here : After state) (either : (q : ℕ) → After q → Seen q ⊎ (q ≡ state)) (classes : AreClasses reached old first)
      (so_far : Splits made representatives now Seen) where
    -- it had its class already
    pub Splits-again : IsDone made now state → Splits made representatives now After
    Splits-again had = record {
      many = so_far.many;
      more = so_far.more;
      grown = so_far.grown;
      few = so_far.few;
      ahead = λ q unseen. so_far.ahead q (λ seen. unseen (kept q seen));
      within = so_far.within;
      done = λ q seen marked. elim (either q seen) [
        | inl before ↦ so_far.done q before marked
        | inr same ↦ subst (IsDone made now) (sym same) had
      ];
      sound = so_far.sound;
      full = so_far.full;
      unchanged = so_far.unchanged;
    }

    -- it isn't reached
    pub Splits-skip : is_marked reached state ≡ false → Splits made representatives now After
    Splits-skip unmarked = record {
      many = so_far.many;
      more = so_far.more;
      grown = so_far.grown;
      few = so_far.few;
      ahead = λ q unseen. so_far.ahead q (λ seen. unseen (kept q seen));
      within = so_far.within;
      done = λ q seen marked. elim (either q seen) [
        | inl before ↦ so_far.done q before marked
        | inr same ↦ absurd (false≢true (sym unmarked ∙ sym (ap (is_marked reached) same) ∙ marked))
      ];
      sound = so_far.sound;
      full = so_far.full;
      unchanged = so_far.unchanged;
    }

    module _ (marked : is_marked reached state ≡ true) (was : slice_index now state ≡ slice_index old state) where
      inside : state < length now
      inside = let a = marked-inside reached state marked in let b = classes.many in let c = so_far.many in omega arith

      old_class : slice_index old state < length first
      old_class = classes.within state (let a = marked-inside reached state marked in let b = classes.many in omega arith)

      -- the representative of the state's class is the old one
      same_first : slice_index representatives (slice_index now state) ≡ slice_index first (slice_index old state)
      same_first = ap (slice_index representatives) was ∙ ap (λ (xs : List ℕ). slice_index xs (slice_index old state)) so_far.grown
          ∙ get_or-append first so_far.more 0 (slice_index old state) old_class

      first_is : slice_index ids (slice_index representatives (slice_index now state)) ≡ first_id (slice_index old state)
      unfolding first_id
      first_is = ap (slice_index ids) same_first

      before-seen : (q : ℕ) → After q → (q ≡ state → ⊥) → Seen q
      before-seen q seen other = elim (either q seen) [
        | inl before ↦ before
        | inr same ↦ absurd (other same)
      ]

      -- the classes with that of the state
      after-here : (class : ℕ) → slice_index (slice_set now state class) state ≡ class
      after-here class = get_or-set_same now state class 0 inside

      after-other : (class q : ℕ) → (q ≡ state → ⊥) → slice_index (slice_set now state class) q ≡ slice_index now q
      after-other class q other = get_or-set_other now state q class 0 other

      within-after : (class many : ℕ) → length representatives ≤ many → class < many → (q : ℕ) → q < length (slice_set now state class) →
          slice_index (slice_set now state class) q < many
      within-after class many more small q q_in = elim (cases_eq q state) [
        | inl same ↦ let e = ap (slice_index (slice_set now state class)) same in let f = after-here class in omega arith
        | inr other ↦ let e = after-other class q other in
            let b = so_far.within q (let l = length-set now state class in omega arith) in omega arith
      ]

      ahead-after : (class q : ℕ) → (After q → ⊥) → slice_index (slice_set now state class) q ≡ slice_index old q
      ahead-after class q unseen = after-other class q (λ e. unseen (subst After (sym e) here)) ∙ so_far.ahead q (λ seen. unseen (kept q seen))

      stay : slice_index ids state ≡ slice_index ids (slice_index representatives (slice_index now state)) →
          Splits made representatives (slice_set now state (slice_index now state)) After
      stay same_id = let class = slice_index now state in record {
        many = length-set now state class ∙ so_far.many;
        more = so_far.more;
        grown = so_far.grown;
        few = so_far.few;
        ahead = ahead-after class;
        within = within-after class (length representatives) (omega arith) (so_far.within state inside);
        done = λ q seen q_marked. elim (cases_eq q state) [
          | inl same ↦ subst (IsDone made (slice_set now state class)) (sym same)
              (stayed (after-here class ∙ was) (same_id ∙ first_is))
          | inr other ↦ elim (so_far.done q (before-seen q seen other) q_marked) [
            | stayed e f ↦ stayed (after-other class q other ∙ e) f
            | went e f ↦ went (e ∙ ap (λ (n : ℕ). Some n) (sym (after-other class q other))) f
          ]
        ];
        sound = so_far.sound;
        full = so_far.full;
        unchanged = λ same. set-get_or now state 0 ∙ so_far.unchanged same;
      }

      go : (other : ℕ) → slice_index ids state ≢ slice_index ids (slice_index representatives (slice_index now state)) →
          made_for made (slice_index now state) (slice_index ids state) ≡ Some other →
          Splits made representatives (slice_set now state other) After
      go other differs there =
          let is_made = so_far.sound (slice_index now state) (slice_index ids state) other there in
          record {
            many = length-set now state other ∙ so_far.many;
            more = so_far.more;
            grown = so_far.grown;
            few = so_far.few;
            ahead = ahead-after other;
            within = within-after other (length representatives) (omega arith) is_made.within;
            done = λ q seen q_marked. elim (cases_eq q state) [
              | inl same ↦ subst (IsDone made (slice_set now state other)) (sym same)
                  (went (ap (λ (c : ℕ). made_for made c (slice_index ids state)) (sym was) ∙ there ∙ ap (λ (n : ℕ). Some n) (sym (after-here other)))
                  (λ e. differs (e ∙ sym first_is)))
              | inr apart ↦ elim (so_far.done q (before-seen q seen apart) q_marked) [
                | stayed e f ↦ stayed (after-other other q apart ∙ e) f
                | went e f ↦ went (e ∙ ap (λ (n : ℕ). Some n) (sym (after-other other q apart))) f
              ]
            ];
            sound = so_far.sound;
            full = so_far.full;
            unchanged = λ same. absurd (let a = is_made.least in let b = is_made.within in omega arith);
          }

      -- a new class
      module _ (after : Made) (other : ℕ) (differs : slice_index ids state ≢ slice_index ids (slice_index representatives (slice_index now state)))
          (none : made_for made (slice_index now state) (slice_index ids state) ≡ None) (is : other ≡ length representatives) (small : other < 2 ^ 31)
          (updates : Updates same_pair made after (slice_index now state, slice_index ids state) (Some other)) where
        longer : length (representatives ++ state ∷ []) ≡ other + 1
        longer = length-append representatives (state ∷ []) ∙ (omega arith)

        least : length first ≤ length representatives
        least = let e = ap length so_far.grown in let f = length-append first so_far.more in omega arith

        at_other : slice_index (representatives ++ state ∷ []) other ≡ state
        at_other = ap (slice_index (representatives ++ state ∷ [])) is ∙ get_or-append_seam representatives state [] 0

        before-at : (x : ℕ) → x < length representatives → slice_index (representatives ++ state ∷ []) x ≡ slice_index representatives x
        before-at x x_in = get_or-append representatives (state ∷ []) 0 x x_in

        -- what was made for another class or number
        kept-made : (c id x : ℕ) → made_for made c id ≡ Some x → made_for after c id ≡ Some x
        kept-made c id x there = elim (cases_Bool (same_pair (slice_index now state, slice_index ids state) (c, id))) [
          | inl same ↦
              let class_same = eqb-true (slice_index now state) c (and-left (nat_eq (slice_index now state) c) (nat_eq (slice_index ids state) id) same) in
              let id_same = eqb-true (slice_index ids state) id (and-right (nat_eq (slice_index now state) c) (nat_eq (slice_index ids state) id) same) in
              absurd (let e : None ≡ Some x = sym none ∙ ap (λ (k : ℕ). made_for made k (slice_index ids state)) class_same
              ∙ ap (made_for made c) id_same ∙ there in cc)
          | inr apart ↦ updates.2 (c, id) apart ∙ there
        ]

        IsMade-before : (c id x : ℕ) → IsMade representatives c id x → IsMade (representatives ++ state ∷ []) c id x
        IsMade-before c id x is_made = let at = before-at x is_made.within in record {
          least = is_made.least;
          within = let a = is_made.within in let l = longer in omega arith;
          marked = ap (is_marked reached) at ∙ is_made.marked;
          class_is = ap (slice_index old) at ∙ is_made.class_is;
          id_is = ap (slice_index ids) at ∙ is_made.id_is;
          other = is_made.other;
        }

        IsMade-here : IsMade (representatives ++ state ∷ []) (slice_index now state) (slice_index ids state) other
        IsMade-here = record {
          least = let l = least in omega arith;
          within = let l = longer in omega arith;
          marked = ap (is_marked reached) at_other ∙ marked;
          class_is = ap (slice_index old) at_other ∙ sym was;
          id_is = ap (slice_index ids) at_other;
          other = λ e. differs (e ∙ ap first_id was ∙ sym first_is);
        }

        sound-after : (c id x : ℕ) → made_for after c id ≡ Some x → IsMade (representatives ++ state ∷ []) c id x
        sound-after c id x there = elim (cases_Bool (same_pair (slice_index now state, slice_index ids state) (c, id))) [
          | inl same ↦
              let class_same = eqb-true (slice_index now state) c (and-left (nat_eq (slice_index now state) c) (nat_eq (slice_index ids state) id) same) in
              let id_same = eqb-true (slice_index ids state) id (and-right (nat_eq (slice_index now state) c) (nat_eq (slice_index ids state) id) same) in
              let e : Some other ≡ Some x = sym updates.1 ∙ ap (λ (k : ℕ). made_for after k (slice_index ids state)) class_same
              ∙ ap (made_for after c) id_same ∙ there in
              let x_is : other ≡ x = cc in
              subst (λ (k : ℕ). IsMade (representatives ++ state ∷ []) k id x) class_same
              (subst (λ (k : ℕ). IsMade (representatives ++ state ∷ []) (slice_index now state) k x) id_same
              (subst (IsMade (representatives ++ state ∷ []) (slice_index now state) (slice_index ids state)) x_is IsMade-here))
          | inr apart ↦ IsMade-before c id x (so_far.sound c id x (sym (updates.2 (c, id) apart) ∙ there))
        ]

        full-after : (x : ℕ) → length first ≤ x → x < length (representatives ++ state ∷ []) →
            made_for after (slice_index old (slice_index (representatives ++ state ∷ []) x)) (slice_index ids (slice_index (representatives ++ state ∷ []) x))
            ≡ Some x
        full-after x x_least x_in = elim (cases_lt x (length representatives)) [
          | inl before ↦ ap (λ (q : ℕ). made_for after (slice_index old q) (slice_index ids q)) (before-at x before)
              ∙ kept-made (slice_index old (slice_index representatives x)) (slice_index ids (slice_index representatives x)) x (so_far.full x x_least before)
          | inr last ↦
              let x_is : x ≡ other = (let l = longer in omega arith) in
              ap (λ (k : ℕ). let q = slice_index (representatives ++ state ∷ []) k in made_for after (slice_index old q) (slice_index ids q)) x_is
              ∙ ap (λ (q : ℕ). made_for after (slice_index old q) (slice_index ids q)) at_other
              ∙ ap (λ (c : ℕ). made_for after c (slice_index ids state)) (sym was) ∙ updates.1 ∙ ap (λ (n : ℕ). Some n) (sym x_is)
        ]

        make : Splits after (representatives ++ state ∷ []) (slice_set now state other) After
        make = record {
          many = length-set now state other ∙ so_far.many;
          more = so_far.more ++ state ∷ [];
          grown = ap (λ (xs : List ℕ). xs ++ state ∷ []) so_far.grown ∙ append_assoc first so_far.more (state ∷ []);
          few = let l = longer in omega arith;
          ahead = ahead-after other;
          within = within-after other (length (representatives ++ state ∷ [])) (let l = longer in omega arith) (let l = longer in omega arith);
          done = λ q seen q_marked. elim (cases_eq q state) [
            | inl same ↦ subst (IsDone after (slice_set now state other)) (sym same)
                (went (ap (λ (c : ℕ). made_for after c (slice_index ids state)) (sym was) ∙ updates.1 ∙ ap (λ (n : ℕ). Some n) (sym (after-here other)))
                (λ e. differs (e ∙ sym first_is)))
            | inr apart ↦ elim (so_far.done q (before-seen q seen apart) q_marked) [
              | stayed e f ↦ stayed (after-other other q apart ∙ e) f
              | went e f ↦ went (kept-made (slice_index old q) (slice_index ids q) (slice_index now q) e ∙ ap (λ (n : ℕ). Some n)
                  (sym (after-other other q apart))) f
            ]
          ];
          sound = sound-after;
          full = full-after;
          unchanged = λ same. absurd (let l = longer in let m = least in omega arith);
        }

      pub Splits-step : (after : Made) (more : List ℕ) (class : ℕ) → IsStep ids state (slice_index now state) made representatives after more class →
          Splits after more (slice_set now state class) After
      Splits-step _ _ _ (stays same) = stay same
      Splits-step _ _ _ (known other differs there) = go other differs there
      Splits-step _ _ _ (makes after other differs none is small updates) = make after other differs none is small updates

  -- all states have their classes
  module _ (made : Made) (representatives now : List ℕ) (Seen : ℕ → Type 0) (classes : AreClasses reached old first)
      (all : Splits made representatives now Seen) (done-at : (q : ℕ) → is_marked reached q ≡ true → IsDone made now q) where
    old_within : (q : ℕ) → is_marked reached q ≡ true → slice_index old q < length first
    old_within q marked = classes.within q (let a = marked-inside reached q marked in let b = classes.many in omega arith)

    -- what went is past the old classes
    went-past : (p q : ℕ) → is_marked reached p ≡ true → slice_index now p ≡ slice_index old p →
        made_for made (slice_index old q) (slice_index ids q) ≡ Some (slice_index now q) → slice_index now p ≡ slice_index now q → ⊥
    went-past p q marked stayed_p went_q same =
        let a = (all.sound (slice_index old q) (slice_index ids q) (slice_index now q) went_q).least in
        let b = old_within p marked in
        omega arith

    together : (p q : ℕ) → is_marked reached p ≡ true → is_marked reached q ≡ true → slice_index now p ≡ slice_index now q →
        IsDone made now p → IsDone made now q → (slice_index old p ≡ slice_index old q) × (slice_index ids p ≡ slice_index ids q)
    together p q p_marked q_marked same (stayed e f) (stayed e' f') =
        let classes_same : slice_index old p ≡ slice_index old q = sym e ∙ same ∙ e' in
        (classes_same, f ∙ ap first_id classes_same ∙ sym f')
    together p q p_marked q_marked same (stayed e f) (went e' f') = absurd (went-past p q p_marked e e' same)
    together p q p_marked q_marked same (went e f) (stayed e' f') = absurd (went-past q p q_marked e' e (sym same))
    together p q p_marked q_marked same (went e f) (went e' f') =
        let one = all.sound (slice_index old p) (slice_index ids p) (slice_index now p) e in
        let two = all.sound (slice_index old q) (slice_index ids q) (slice_index now q) e' in (
          sym one.class_is ∙ ap (λ (x : ℕ). slice_index old (slice_index representatives x)) same ∙ two.class_is,
          sym one.id_is ∙ ap (λ (x : ℕ). slice_index ids (slice_index representatives x)) same ∙ two.id_is,
        )

    alike : (p q : ℕ) → slice_index old p ≡ slice_index old q → slice_index ids p ≡ slice_index ids q →
        IsDone made now p → IsDone made now q → slice_index now p ≡ slice_index now q
    alike p q same_class same_id (stayed e f) (stayed e' f') = e ∙ same_class ∙ sym e'
    alike p q same_class same_id (stayed e f) (went e' f') = absurd (f' (sym same_id ∙ f ∙ ap first_id same_class))
    alike p q same_class same_id (went e f) (stayed e' f') = absurd (f (same_id ∙ f' ∙ ap first_id (sym same_class)))
    alike p q same_class same_id (went e f) (went e' f') =
        let is : Some (slice_index now p) ≡ Some (slice_index now q) = sym e ∙ ap (λ (c : ℕ). made_for made c (slice_index ids p)) same_class
        ∙ ap (made_for made (slice_index old q)) same_id ∙ e' in
        cc

    pub IsSplit-all : IsSplit reached ids old now
    IsSplit-all = record {
      together = λ p q p_marked q_marked same. together p q p_marked q_marked same (done-at p p_marked) (done-at q q_marked);
      same = λ p q p_marked q_marked same_class same_id. alike p q same_class same_id (done-at p p_marked) (done-at q q_marked);
    }

    -- a representative is that of its class
    first-at : (x : ℕ) → x < length first → slice_index representatives x ≡ slice_index first x
    first-at x x_in = ap (λ (xs : List ℕ). slice_index xs x) all.grown ∙ get_or-append first all.more 0 x x_in

    has-first : (x : ℕ) → x < length first → IsDone made now (slice_index first x) → slice_index now (slice_index first x) ≡ x
    unfolding first_id
    has-first x x_in (stayed e f) = e ∙ classes.has x x_in
    has-first x x_in (went e f) = absurd (f (ap (λ (c : ℕ). slice_index ids (slice_index first c)) (sym (classes.has x x_in))))

    has-made : (x : ℕ) → IsMade representatives (slice_index old (slice_index representatives x))
        (slice_index ids (slice_index representatives x)) x →
        made_for made (slice_index old (slice_index representatives x)) (slice_index ids (slice_index representatives x)) ≡ Some x →
        IsDone made now (slice_index representatives x) → slice_index now (slice_index representatives x) ≡ x
    has-made x is_made there (stayed e f) = absurd (is_made.other f)
    has-made x is_made there (went e f) =
        let is : Some (slice_index now (slice_index representatives x)) ≡ Some x = sym e ∙ there in cc

    pub AreClasses-all : AreClasses reached now representatives
    AreClasses-all = record {
      many = all.many ∙ classes.many;
      few = all.few;
      within = all.within;
      inside = λ x x_in. elim (cases_lt x (length first)) [
        | inl old_one ↦ ap (is_marked reached) (first-at x old_one) ∙ classes.inside x old_one
        | inr new_one ↦ (all.sound (slice_index old (slice_index representatives x)) (slice_index ids (slice_index representatives x)) x
            (all.full x new_one x_in)).marked
      ];
      has = λ x x_in. elim (cases_lt x (length first)) [
        | inl old_one ↦ ap (slice_index now) (first-at x old_one) ∙ has-first x old_one (done-at (slice_index first x) (classes.inside x old_one))
        | inr new_one ↦
            let there = all.full x new_one x_in in
            let is_made = all.sound (slice_index old (slice_index representatives x)) (slice_index ids (slice_index representatives x)) x there in
            has-made x is_made there (done-at (slice_index representatives x) is_made.marked)
      ];
    }

  module _ (made : Made) (representatives now : List ℕ) (Seen : ℕ → Type 0) (all : Splits made representatives now Seen) where
    pub representatives-unchanged : length representatives ≡ length first → representatives ≡ first
    representatives-unchanged same = all.grown ∙ ap (λ (xs : List ℕ). first ++ xs) (none-left all.more
        (let e = ap length all.grown in let f = length-append first all.more in omega arith)) ∙ append-nil first
      where
        none-left : (xs : List ℕ) → length xs ≡ 0 → xs ≡ []
        none-left [] e = refl
        none-left (x ∷ xs) e = absurd (omega arith)

-- the same classes
pub Splits-same : (reached : List Bool) (ids old first : List ℕ) (made made' : Made) (representatives representatives' now now' : List ℕ)
    (Seen : ℕ → Type 0) →
    made ≡ made' → representatives ≡ representatives' → now ≡ now' →
    Splits reached ids old first made representatives now Seen → Splits reached ids old first made' representatives' now' Seen
Splits-same reached ids old first made made' representatives representatives' now now' Seen same_made same_representatives same_now splits =
    subst (λ (n : List ℕ). Splits reached ids old first made' representatives' n Seen) same_now
    (subst (λ (r : List ℕ). Splits reached ids old first made' r now Seen) same_representatives
    (subst (λ (m : Made). Splits reached ids old first m representatives now Seen) same_made splits))
