-- States with rows of their own, in chains of places.
use Rattle.std.proofs.Common.{◌≡◌, ◌≢◌, ℕ, suc, ◌+◌, ◌<◌, ◌≤◌, List, [], ◌∷◌, ◌++◌, length, inl, inr}
use Rattle.std.proofs.Common.{sym, ◌∙◌, ap, refl, subst, arith, length-append}
use Rattle.std.specs.Prelude.{slice_index, slice_set}
use Rattle.std.proofs.Math.ListN.{get_or-append}
use Rattle.std.proofs.Math.Seq.{get_or-append_seam}
use Rattle.std.proofs.lemmas.Bool.{cases_lt, cases_eq}
use Rattle.std.proofs.lemmas.List.{get_or-set_same, get_or-set_other, length-set}
use Rattle.bdd_nodes.specs.declared.node_ref.NodeRef.{NodeRef}
use Rattle.gta_classes.specs.Marks.{AreZero}
use Rattle.gta_refine.specs.Firsts.{bucket_of, IsLatest, AreFirsts, HasFirst, GrowBy}

-- ---- a search

-- a search has come to a link: no state from there on has the row
pub record HasPassed (rows : ℕ → List NodeRef) (states : List ℕ) (many state link : ℕ) : Type 0 where
  pub within : link ≤ length states
  pub belongs : (place : ℕ) → link ≡ suc place → bucket_of (rows (slice_index states place)) many ≡ bucket_of (rows state) many
  pub absent : (i : ℕ) → link ≤ i → i < length states → rows (slice_index states i) ≢ rows state

pub HasPassed-first : (rows : ℕ → List NodeRef) (many : ℕ) (states buckets chain : List ℕ) (state bucket : ℕ) →
    AreFirsts rows many states buckets chain → bucket ≡ bucket_of (rows state) many → bucket < many →
    HasPassed rows states many state (slice_index buckets bucket)
HasPassed-first rows many states buckets chain state bucket firsts its inside =
    let latest = firsts.latest bucket inside in
    record {
      within = latest.within;
      belongs = λ place e. latest.belongs place e ∙ its;
      absent = λ i past i_in same. latest.none_since i past i_in (ap (λ (row : List NodeRef). bucket_of row many) same ∙ sym its);
    }

pub HasPassed-more : (rows : ℕ → List NodeRef) (many : ℕ) (states buckets chain : List ℕ) (state link place : ℕ) →
    AreFirsts rows many states buckets chain → HasPassed rows states many state link → link ≡ suc place →
    rows (slice_index states place) ≢ rows state → HasPassed rows states many state (slice_index chain place)
HasPassed-more rows many states buckets chain state link place firsts passed at other =
    let here : place < length states = (let w = passed.within in omega arith) in
    let its = passed.belongs place at in
    let before = firsts.before place here in
    record {
      within = let w = before.within in omega arith;
      belongs = λ p e. before.belongs p e ∙ its;
      absent = λ i past i_in same. elim (cases_lt i place) [
        | inl earlier ↦ before.none_since i past earlier (ap (λ (row : List NodeRef). bucket_of row many) same ∙ sym its)
        | inr not_earlier ↦ elim (cases_lt place i) [
          | inl later ↦ passed.absent i (omega arith) i_in same
          | inr not_later ↦
              let is : place ≡ i = omega arith in
              other (ap (λ (k : ℕ). rows (slice_index states k)) is ∙ same)
        ]
      ];
    }

-- ---- states

pub AreFirsts-none : (rows : ℕ → List NodeRef) (many : ℕ) (buckets : List ℕ) → length buckets ≡ many → AreZero buckets →
    AreFirsts rows many [] buckets []
AreFirsts-none rows many buckets is zero = record {
  buckets_many = is;
  chained = refl;
  latest = λ bucket inside. record {
    within = let z = zero bucket in omega arith;
    belongs = λ place e. absurd (let z = zero bucket in omega arith);
    none_since = λ i past i_in. absurd (omega arith);
  };
  before = λ i i_in. absurd (omega arith);
  differ = λ i j before j_in. absurd (omega arith);
}

-- one state more, with a row that none has
module _ (rows : ℕ → List NodeRef) (many : ℕ) (states buckets chain : List ℕ) (state bucket : ℕ)
    (firsts : AreFirsts rows many states buckets chain) (its : bucket ≡ bucket_of (rows state) many) (inside : bucket < many)
    (absent : (i : ℕ) → i < length states → rows (slice_index states i) ≢ rows state) where
  longer : List ℕ
  longer = states ++ state ∷ []

  many-longer : length longer ≡ length states + 1
  unfolding longer
  many-longer = length-append states (state ∷ []) ∙ (omega arith)

  kept : (i : ℕ) → i < length states → slice_index longer i ≡ slice_index states i
  unfolding longer
  kept i i_in = get_or-append states (state ∷ []) 0 i i_in

  last : slice_index longer (length states) ≡ state
  unfolding longer
  last = get_or-append_seam states state [] 0

  last-in : bucket_of (rows (slice_index longer (length states))) many ≡ bucket
  last-in = ap (λ (q : ℕ). bucket_of (rows q) many) last ∙ sym its

  -- the chain of states that were there
  IsLatest-kept : (which below link : ℕ) → below ≤ length states → IsLatest rows states many which below link →
      IsLatest rows longer many which below link
  IsLatest-kept which below link few latest = record {
    within = latest.within;
    belongs = λ place e.
        let w = latest.within in
        ap (λ (q : ℕ). bucket_of (rows q) many) (kept place (omega arith)) ∙ latest.belongs place e;
    none_since = λ i past i_in same.
        latest.none_since i past i_in (sym (ap (λ (q : ℕ). bucket_of (rows q) many) (kept i (omega arith))) ∙ same);
  }

  -- the state is the latest of its bucket
  IsLatest-here : IsLatest rows longer many bucket (length longer) (length states + 1)
  IsLatest-here = record {
    within = let m = many-longer in omega arith;
    belongs = λ place e.
        let is : place ≡ length states = omega arith in
        ap (λ (k : ℕ). bucket_of (rows (slice_index longer k)) many) is ∙ last-in;
    none_since = λ i past i_in. absurd (let m = many-longer in omega arith);
  }

  -- and of no other
  IsLatest-there : (which link : ℕ) → (which ≡ bucket → ⊥) → IsLatest rows states many which (length states) link →
      IsLatest rows longer many which (length longer) link
  IsLatest-there which link other latest =
      let stays = IsLatest-kept which (length states) link (omega arith) latest in
      record {
        within = let w = latest.within in let m = many-longer in omega arith;
        belongs = stays.belongs;
        none_since = λ i past i_in same. elim (cases_lt i (length states)) [
          | inl before ↦ stays.none_since i past before same
          | inr after ↦
              let m = many-longer in
              let is : i ≡ length states = omega arith in
              other (sym same ∙ ap (λ (k : ℕ). bucket_of (rows (slice_index longer k)) many) is ∙ last-in)
        ];
      }

  latest-put : (which : ℕ) → which < many →
      IsLatest rows longer many which (length longer) (slice_index (slice_set buckets bucket (length states + 1)) which)
  latest-put which which_in = elim (cases_eq which bucket) [
    | inl same ↦
        let at : slice_index (slice_set buckets bucket (length states + 1)) which ≡ length states + 1 =
        ap (slice_index (slice_set buckets bucket (length states + 1))) same
        ∙ get_or-set_same buckets bucket (length states + 1) 0 (let b = firsts.buckets_many in omega arith) in
        subst (λ (link : ℕ). IsLatest rows longer many which (length longer) link) (sym at)
        (subst (λ (k : ℕ). IsLatest rows longer many k (length longer) (length states + 1)) (sym same) IsLatest-here)
    | inr other ↦
        subst (λ (link : ℕ). IsLatest rows longer many which (length longer) link)
        (sym (get_or-set_other buckets bucket which (length states + 1) 0 other))
        (IsLatest-there which (slice_index buckets which) other (firsts.latest which which_in))
  ]

  before-put : (i : ℕ) → i < length longer →
      IsLatest rows longer many (bucket_of (rows (slice_index longer i)) many) i (slice_index (chain ++ slice_index buckets bucket ∷ []) i)
  before-put i i_in = elim (cases_lt i (length states)) [
    | inl before ↦
        let at : slice_index (chain ++ slice_index buckets bucket ∷ []) i ≡ slice_index chain i =
        get_or-append chain (slice_index buckets bucket ∷ []) 0 i (let e = firsts.chained in omega arith) in
        let same = ap (λ (q : ℕ). bucket_of (rows q) many) (kept i before) in
        subst (λ (link : ℕ). IsLatest rows longer many (bucket_of (rows (slice_index longer i)) many) i link) (sym at)
        (subst (λ (k : ℕ). IsLatest rows longer many k i (slice_index chain i)) (sym same)
        (IsLatest-kept (bucket_of (rows (slice_index states i)) many) i (slice_index chain i) (omega arith) (firsts.before i before)))
    | inr after ↦
        let m = many-longer in
        let is : i ≡ length states = omega arith in
        let at : slice_index (chain ++ slice_index buckets bucket ∷ []) i ≡ slice_index buckets bucket =
        ap (slice_index (chain ++ slice_index buckets bucket ∷ [])) (is ∙ sym firsts.chained)
        ∙ get_or-append_seam chain (slice_index buckets bucket) [] 0 in
        let which : bucket ≡ bucket_of (rows (slice_index longer i)) many =
        sym (ap (λ (k : ℕ). bucket_of (rows (slice_index longer k)) many) is ∙ last-in) in
        subst (λ (link : ℕ). IsLatest rows longer many (bucket_of (rows (slice_index longer i)) many) i link) (sym at)
        (subst (λ (k : ℕ). IsLatest rows longer many k i (slice_index buckets bucket)) which
        (subst (λ (k : ℕ). IsLatest rows longer many bucket k (slice_index buckets bucket)) (sym is)
        (IsLatest-kept bucket (length states) (slice_index buckets bucket) (omega arith) (firsts.latest bucket inside))))
  ]

  differ-put : (i j : ℕ) → i < j → j < length longer → rows (slice_index longer i) ≢ rows (slice_index longer j)
  differ-put i j before j_in same = elim (cases_lt j (length states)) [
    | inl j_before ↦ firsts.differ i j before j_before (sym (ap rows (kept i (omega arith))) ∙ same ∙ ap rows (kept j j_before))
    | inr j_last ↦
        let m = many-longer in
        let is : j ≡ length states = omega arith in
        absent i (omega arith) (sym (ap rows (kept i (omega arith))) ∙ same ∙ ap (λ (k : ℕ). rows (slice_index longer k)) is ∙ ap rows last)
  ]

  pub AreFirsts-put : AreFirsts rows many (states ++ state ∷ []) (slice_set buckets bucket (length states + 1))
      (chain ++ slice_index buckets bucket ∷ [])
  unfolding longer
  AreFirsts-put = record {
    buckets_many = length-set buckets bucket (length states + 1) ∙ firsts.buckets_many;
    chained =
        let l = length-append chain (slice_index buckets bucket ∷ []) in
        let m = length-append states (state ∷ []) in
        let e = firsts.chained in
        omega arith;
    latest = latest-put;
    before = before-put;
    differ = differ-put;
  }

-- ---- first states

pub GrowBy-none : (state : ℕ) (states : List ℕ) → GrowBy state states states
GrowBy-none state states = record { least = omega arith; kept = λ i i_in. refl; more = λ i past i_in. absurd (omega arith) }

pub GrowBy-push : (state : ℕ) (states : List ℕ) → GrowBy state states (states ++ state ∷ [])
GrowBy-push state states =
    let l = length-append states (state ∷ []) in
    record {
      least = omega arith;
      kept = λ i i_in. get_or-append states (state ∷ []) 0 i i_in;
      more = λ i past i_in.
          let is : i ≡ length states = omega arith in
          ap (slice_index (states ++ state ∷ [])) is ∙ get_or-append_seam states state [] 0;
    }

pub HasFirst-push : (rows : ℕ → List NodeRef) (state : ℕ) (states : List ℕ) → HasFirst rows (states ++ state ∷ []) state state
HasFirst-push rows state states = record {
  place = length states;
  within = let l = length-append states (state ∷ []) in omega arith;
  is = get_or-append_seam states state [] 0;
  same = refl;
}

pub HasFirst-grown : (rows : ℕ → List NodeRef) (state first other : ℕ) (old new : List ℕ) → GrowBy other old new →
    HasFirst rows old state first → HasFirst rows new state first
HasFirst-grown rows state first other old new grow has = record {
  place = has.place;
  within = let l = grow.least in let w = has.within in omega arith;
  is = grow.kept has.place has.within ∙ has.is;
  same = has.same;
}

-- states with one row have one first state
pub HasFirst-one : (rows : ℕ → List NodeRef) (many : ℕ) (states buckets chain : List ℕ) (p q one two : ℕ) →
    AreFirsts rows many states buckets chain → HasFirst rows states p one → HasFirst rows states q two → rows p ≡ rows q → one ≡ two
HasFirst-one rows many states buckets chain p q one two firsts has_p has_q same =
    let i = has_p.place in
    let j = has_q.place in
    let equal : rows (slice_index states i) ≡ rows (slice_index states j) =
    ap rows has_p.is ∙ has_p.same ∙ same ∙ sym has_q.same ∙ sym (ap rows has_q.is) in
    elim (cases_lt i j) [
      | inl before ↦ absurd (firsts.differ i j before has_q.within equal)
      | inr not_before ↦ elim (cases_lt j i) [
        | inl after ↦ absurd (firsts.differ j i after has_p.within (sym equal))
        | inr not_after ↦
            let at : i ≡ j = omega arith in
            sym has_p.is ∙ ap (slice_index states) at ∙ has_q.is
      ]
    ]
