-- Changes one after the other, and what fits in a Size.
use Rattle.std.proofs.Common.{◌≡◌, ◌≢◌, ℕ, suc, ◌+◌, ◌<◌, ◌≤◌, Bool, true, false, List, [], ◌∷◌, ◌++◌, map, length, Contains, AllPairs, ◌⊎◌}
use Rattle.std.proofs.Common.{inl, inr, refl, sym, ap, subst, ◌∙◌, arith, if◌then◌else◌, length-append}
use Rattle.std.specs.Prelude.{Result, Ok, Err, IfOk, OnErr, IsErr, ◌↔◌}
use mathlib.Core.Path.{fun_ext}
use Rattle.std.proofs.lemmas.Bool.{cases_Bool}
use Rattle.std.proofs.lemmas.List.{length-map}
use Rattle.std.proofs.lemmas.List.Elements.{All-nil, All-cons, All-contains, Contains-append_cases}
use Rattle.std.proofs.lemmas.List.Kept.{AllPairs-cons}
use Rattle.labels.specs.Labels.{Label, Function, with_track}
use Rattle.labels.proofs.LabelsLemmas.{with_track-same, with_track-later}
use Rattle.bdd_nodes.specs.declared.node_ref.NodeRef.{NodeRef}
use Rattle.bdd_nodes.specs.declared.shelf.Full.{Full}
use Rattle.bdd_nodes.specs.Nodes.{node_of}
use Rattle.bdd_nodes.specs.Shelf.{Contents, IsShelf, IsValid, IsSideFor, IsFullFor, count_of, limit_of, state_of, choice_of, low_of, high_of}
use Rattle.bdd_nodes.specs.Changes.{Keeps, SameTables, AddsOnly, is_valid}
use Rattle.bdd_nodes.proofs.CallerLemmas.{Keeps-refl, Keeps-trans, AddsOnly-cases}
use Rattle.bdd_nodes.proofs.CanonicalLemmas.{differ_named}
use Rattle.bdd_nodes.proofs.RefLemmas.{node_of-injective}
use Rattle.bdd_nodes.proofs.SplitLemmas.{same_reference, unasked, cases_of, is_leaf, splits, is_valid-false}
use Rattle.gta_theory.specs.Guides.{Spaces}
use Rattle.gta_theory.specs.Automata.{Automaton}
use Rattle.gta_theory.specs.Sizes.{IsVaried, SizeOf}
use Rattle.gta_theory.proofs.ListsLemmas.{Contains-first, Contains-later, Contains-cases, Contains-mapped, All-from_contains}
use Rattle.gta_theory.proofs.SizesLemmas.{length-partners}
use Rattle.gta_core.proofs.SizeLemmas.{all_parts}
use Rattle.gta_room.specs.Progress.{IsNew, Adds, IsStuck, IsUnderSomewhere}

abbrev Others : {X : Type 0} → List X → Type 0
Others xs = AllPairs (λ one other. one ≢ other) xs

Others-tail : {X : Type 0} (x : X) (xs : List X) → Others (x ∷ xs) → Others xs
Others-tail x xs once = λ i j d less inside. once (suc i) (suc j) d (omega arith) (omega arith)

Others-head : {X : Type 0} (x y : X) (xs : List X) → Others (x ∷ xs) → Contains xs y → x ≢ y
Others-head x y xs once h = subst (λ z. x ≢ z) h.2 (once 0 (suc h.0) y (omega arith) (omega (arith, h.1)))

-- two lists without a common element
Others-append : {X : Type 0} (xs ys : List X) → Others xs → Others ys → ((x y : X) → Contains xs x → Contains ys y → x ≢ y) → Others (xs ++ ys)
Others-append [] ys of_xs of_ys apart = of_ys
Others-append (x ∷ xs) ys of_xs of_ys apart =
    AllPairs-cons (λ one other. one ≢ other) x (xs ++ ys)
    (All-from_contains (λ y. x ≢ y) (xs ++ ys) (λ y h. elim (Contains-append_cases xs ys y h) [
      | inl early ↦ Others-head x y xs of_xs early
      | inr late ↦ apart x y (Contains-first x xs) late
    ]))
    (Others-append xs ys (Others-tail x xs of_xs) of_ys (λ z y in_xs in_ys. apart z y (Contains-later x z xs in_xs) in_ys))

-- different elements with different images
Others-map : {X Y : Type 0} (f : X → Y) (xs : List X) → Others xs → ((x y : X) → Contains xs x → Contains xs y → f x ≡ f y → x ≡ y) → Others (map f xs)
Others-map f [] once injective = λ i j d less inside. absurd (omega arith)
Others-map f (x ∷ xs) once injective =
    AllPairs-cons (λ one other. one ≢ other) (f x) (map f xs)
    (All-from_contains (λ z. f x ≢ z) (map f xs) (λ z h same.
    let y = Contains-mapped f xs z h in
    Others-head x y.0 xs once y.1 (injective x y.0 (Contains-first x xs) (Contains-later x y.0 xs y.1) (same ∙ sym y.2))))
    (Others-map f xs (Others-tail x xs once) (λ y z in_y in_z. injective y z (Contains-later x y xs in_y) (Contains-later x z xs in_z)))

-- a valid reference keeps its function
pub function-kept : (old new : Contents) → Keeps old new → (r : NodeRef) → IsValid old r → state_of new r ≡ state_of old r
function-kept old new keeps r valid = fun_ext (λ (label : Label). keeps.states r label valid)

-- a choice between references that differ has two states
pub IsVaried-choice : (shelf : Contents) (track : ℕ) (low high : NodeRef) → IsShelf shelf → IsSideFor shelf track low → IsSideFor shelf track high →
    low ≢ high → IsVaried (choice_of shelf track low high)
IsVaried-choice shelf track low high is_shelf low_side high_side differ =
    let d = differ_named shelf.nodes is_shelf.canonical (node_of low) (node_of high) low_side.valid high_side.valid
    (λ e. differ (node_of-injective low high e)) in
    let label = d.0 in
    let at_low : choice_of shelf track low high (with_track label track false) ≡ state_of shelf low label =
    ap (λ (b : Bool). if b then state_of shelf high (with_track label track false) else state_of shelf low (with_track label track false))
    (with_track-same label track false)
    ∙ unasked shelf low (suc track) (with_track label track false) label is_shelf low_side.valid low_side.later
    (λ u later. with_track-later label track u false later) in
    let at_high : choice_of shelf track low high (with_track label track true) ≡ state_of shelf high label =
    ap (λ (b : Bool). if b then state_of shelf high (with_track label track true) else state_of shelf low (with_track label track true))
    (with_track-same label track true)
    ∙ unasked shelf high (suc track) (with_track label track true) label is_shelf high_side.valid high_side.later
    (λ u later. with_track-later label track u true later) in
    record {
      one = with_track label track false;
      other = with_track label track true;
      differs = λ same. d.1 (sym at_low ∙ same ∙ at_high);
    }

-- and so has a node that is new
IsVaried-new : (old new : Contents) (r : NodeRef) → IsShelf new → IsNew old new r → IsVaried (state_of new r)
IsVaried-new old new r is_shelf is_new = elim (cases_of new r is_shelf is_new.valid) [
  | is_leaf top others asks ↦ absurd (is_new.absent (others old))
  | splits track top split asks_to asks_of ↦ subst IsVaried (sym (fun_ext split.states))
      (IsVaried-choice new track (low_of new r) (high_of new r) is_shelf split.low split.high split.differ)
]

module _ (IsPart : Function → Type 0) where
  pub Adds-none : (shelf : Contents) → IsShelf shelf → Adds IsPart shelf shelf
  Adds-none shelf is_shelf = record {
    now = is_shelf;
    keeps = Keeps-refl shelf;
    tables = refl;
    same_limit = refl;
    news = [];
    each = All-nil (IsNew shelf shelf);
    once = λ i j d less inside. absurd (omega arith);
    count = omega arith;
    only = λ r valid. inl valid;
  }

  pub Adds-made : (old new : Contents) (made : NodeRef) → IsShelf new → Keeps old new → SameTables old new → limit_of new ≡ limit_of old →
      AddsOnly old new made → IsValid new made → count_of new ≡ (if is_valid old made then count_of old else count_of old + 1) →
      IsPart (state_of new made) → Adds IsPart old new
  Adds-made old new made is_shelf keeps tables same_limit only valid count part = elim (cases_Bool (is_valid old made)) [
    | inl there ↦ record {
      now = is_shelf;
      keeps = keeps;
      tables = tables;
      same_limit = same_limit;
      news = [];
      each = All-nil (IsNew old new);
      once = λ i j d less inside. absurd (omega arith);
      count = count ∙ ap (λ (b : Bool). if b then count_of old else count_of old + 1) there ∙ (let e : count_of old ≡ count_of old + 0 = omega arith in e);
      only = all_only;
    }
    | inr fresh ↦ record {
      now = is_shelf;
      keeps = keeps;
      tables = tables;
      same_limit = same_limit;
      news = made ∷ [];
      each = All-cons (IsNew old new) made [] (record { valid = valid; absent = is_valid-false old made fresh }) (All-nil (IsNew old new));
      once = λ i j d less inside. absurd (omega arith);
      count = count ∙ ap (λ (b : Bool). if b then count_of old else count_of old + 1) fresh;
      only = all_only;
    }
  ]
    where
      all_only : (r : NodeRef) → IsValid new r → IsValid old r ⊎ IsPart (state_of new r)
      all_only r of_r = elim (AddsOnly-cases old new made r only of_r) [
        | inl was ↦ inl was
        | inr same ↦ inr (subst (λ (q : NodeRef). IsPart (state_of new q)) (sym same) part)
      ]

  pub Adds-both : (old middle new : Contents) → Adds IsPart old middle → Adds IsPart middle new → Adds IsPart old new
  Adds-both old middle new first second = record {
    now = second.now;
    keeps = Keeps-trans old middle new first.keeps second.keeps;
    tables = second.tables ∙ first.tables;
    same_limit = second.same_limit ∙ first.same_limit;
    news = first.news ++ second.news;
    each = All-from_contains (IsNew old new) (first.news ++ second.news) (λ r h. elim (Contains-append_cases first.news second.news r h) [
      | inl early ↦ (let n = All-contains (IsNew old middle) first.news r first.each early in
          record { valid = second.keeps.valid r n.valid; absent = n.absent })
      | inr late ↦ (let n = All-contains (IsNew middle new) second.news r second.each late in
          record { valid = n.valid; absent = λ was. n.absent (first.keeps.valid r was) })
    ]);
    once = Others-append first.news second.news first.once second.once (λ r q early late same.
        let n = All-contains (IsNew old middle) first.news r first.each early in
        let m = All-contains (IsNew middle new) second.news q second.each late in
        m.absent (subst (IsValid middle) same n.valid));
    count = omega (arith, first.count, second.count, length-append first.news second.news);
    only = λ r valid. elim (second.only r valid) [
      | inl was ↦ elim (first.only r was) [
        | inl before ↦ inl before
        | inr part ↦ inr (subst IsPart (sym (function-kept middle new second.keeps r was)) part)
      ]
      | inr part ↦ inr part
    ];
  }

  -- a node that doesn't fit
  pub IsStuck-full : (shelf : Contents) (track : ℕ) (low high : NodeRef) → IsShelf shelf → IsSideFor shelf track low → IsSideFor shelf track high →
      IsFullFor shelf track low high → IsPart (choice_of shelf track low high) → IsStuck IsPart shelf
  IsStuck-full shelf track low high is_shelf low_side high_side full part = record {
    full = full.full;
    function = choice_of shelf track low high;
    part = part;
    varied = IsVaried-choice shelf track low high is_shelf low_side high_side full.differ;
    absent = full.absent;
  }

  module _ (IsOther : Function → Type 0) (also : (f : Function) → IsPart f → IsOther f) where
    pub Adds-also : (old new : Contents) → Adds IsPart old new → Adds IsOther old new
    Adds-also old new adds = record {
      now = adds.now;
      keeps = adds.keeps;
      tables = adds.tables;
      same_limit = adds.same_limit;
      news = adds.news;
      each = adds.each;
      once = adds.once;
      count = adds.count;
      only = λ r valid. elim (adds.only r valid) [ inl was ↦ inl was | inr part ↦ inr (also _ part) ];
    }

    pub IsStuck-also : (shelf : Contents) → IsStuck IsPart shelf → IsStuck IsOther shelf
    IsStuck-also shelf stuck = record {
      full = stuck.full;
      function = stuck.function;
      part = also stuck.function stuck.part;
      varied = stuck.varied;
      absent = stuck.absent;
    }

-- different functions that are parts of the table are no more than the Size
module _ (g : Spaces) (A : Automaton ℕ) (has : ℕ → ℕ → Type 0) (n : ℕ) (size : SizeOf g A has n) where
  abbrev IsTabled : Function → Type 0
  IsTabled f = IsUnderSomewhere g A has f × IsVaried f

  Contains-listed : (f : Function) → IsTabled f → Contains (all_parts g A has n size).parts f
  Contains-listed f h =
      (all_parts g A has n size).every (h.0).space f (h.0).inside (record { under = (h.0).under; varied = h.1 })

  functions-fit : (functions : List Function) → Others functions → ((f : Function) → Contains functions f → IsTabled f) → length functions ≤ n
  functions-fit functions once each =
      let fit = length-partners (λ f h. f ≢ h) (λ f h. f ≡ h) (λ x x' y e e' differ. differ (e ∙ sym e')) functions (all_parts g A has n size).parts once
      (λ f h. (f, Contains-listed f (each f h), refl)) in
      omega (arith, fit, (all_parts g A has n size).few)

  -- the nodes that are new
  module _ (old new : Contents) (adds : Adds (IsUnderSomewhere g A has) old new) where
    abbrev functions : List Function
    functions = map (state_of new) adds.news

    new-at : (r : NodeRef) → Contains adds.news r → IsNew old new r
    new-at r h = All-contains (IsNew old new) adds.news r adds.each h

    functions-once : Others functions
    functions-once = Others-map (state_of new) adds.news adds.once (λ r q in_r in_q same.
        same_reference new r q adds.now (new-at r in_r).valid (new-at q in_q).valid (λ label. ap (λ (f : Function). f label) same))

    tabled-at : (r : NodeRef) → Contains adds.news r → IsTabled (state_of new r)
    tabled-at r h = elim (adds.only r (new-at r h).valid) [
      | inl was ↦ absurd ((new-at r h).absent was)
      | inr part ↦ (part, IsVaried-new old new r adds.now (new-at r h))
    ]

    functions-tabled : (f : Function) → Contains functions f → IsTabled f
    functions-tabled f h = let r = Contains-mapped (state_of new) adds.news f h in subst IsTabled r.2 (tabled-at r.0 r.1)

    pub room-new : count_of new ≤ count_of old + n
    room-new = let fit = functions-fit functions functions-once functions-tabled in omega (arith, adds.count, length-map adds.news (state_of new))

    -- with one that doesn't fit
    pub limit-stuck : IsStuck (IsUnderSomewhere g A has) new → limit_of old < count_of old + n
    limit-stuck stuck =
        let other = All-from_contains (λ f. stuck.function ≢ f) functions (λ f h same.
        let r = Contains-mapped (state_of new) adds.news f h in
        stuck.absent (record {
          at = r.0;
          valid = (new-at r.0 r.1).valid;
          states = λ label. ap (λ (k : Function). k label) (r.2 ∙ sym same);
        })) in
        let fit = functions-fit (stuck.function ∷ functions) (AllPairs-cons (λ f h. f ≢ h) stuck.function functions other functions-once)
        (λ f h. elim (Contains-cases stuck.function f functions h) [
          | inl same ↦ subst IsTabled same (stuck.part, stuck.varied)
          | inr later ↦ functions-tabled f later
        ]) in
        omega (arith, adds.count, adds.same_limit, stuck.full, length-map adds.news (state_of new))

-- what a call that makes a node adds, and when it is stuck
module _ (IsPart : Function → Type 0) (old new : Contents) (track : ℕ) (low high : NodeRef) (result : Result NodeRef Full) (before : IsShelf old)
    (part : IsPart (choice_of old track low high))
    (value : IfOk {E = Full} result (λ made. (label : Label) → state_of new made label ≡ choice_of old track low high label))
    (valid : IfOk {E = Full} result (IsValid new)) (keeps : Keeps old new) (only : IfOk {E = Full} result (AddsOnly old new))
    (count : IfOk {E = Full} result (λ made. count_of new ≡ (if is_valid old made then count_of old else count_of old + 1)))
    (same_limit : limit_of new ≡ limit_of old) (tables : SameTables old new) (now : IsShelf new) (err : OnErr result (new ≡ old)) where
  made-part : (made : NodeRef) → result ≡ Ok made → IsPart (state_of new made)
  made-part made is =
      let v : IfOk {E = Full} (Ok made) (λ (r : NodeRef). (label : Label) → state_of new r label ≡ choice_of old track low high label) =
      subst (λ (o : Result NodeRef Full). IfOk {E = Full} o (λ (r : NodeRef). (label : Label) → state_of new r label ≡ choice_of old track low high label))
      is value in
      subst IsPart (sym (fun_ext v)) part

  only-made : (made : NodeRef) → result ≡ Ok made → AddsOnly old new made
  only-made made is = subst (λ (o : Result NodeRef Full). IfOk {E = Full} o (AddsOnly old new)) is only

  valid-made : (made : NodeRef) → result ≡ Ok made → IsValid new made
  valid-made made is = subst (λ (o : Result NodeRef Full). IfOk {E = Full} o (IsValid new)) is valid

  count-made : (made : NodeRef) → result ≡ Ok made → count_of new ≡ (if is_valid old made then count_of old else count_of old + 1)
  count-made made is =
      subst (λ (o : Result NodeRef Full). IfOk {E = Full} o (λ r. count_of new ≡ (if is_valid old r then count_of old else count_of old + 1)))
      is count

  same-err : (why : Full) → result ≡ Err why → new ≡ old
  same-err why is = subst (λ (o : Result NodeRef Full). OnErr o (new ≡ old)) is err

  pub Adds-make : Adds IsPart old new
  Adds-make = pick result refl
    where
      pick : (o : Result NodeRef Full) → result ≡ o → Adds IsPart old new
      pick (Ok made) is = Adds-made IsPart old new made now keeps tables same_limit
          (only-made made is) (valid-made made is) (count-made made is) (made-part made is)
      pick (Err why) is = subst (Adds IsPart old) (sym (same-err why is)) (Adds-none IsPart old before)

  pub IsStuck-make : IsSideFor old track low → IsSideFor old track high → IsErr result ↔ IsFullFor old track low high → OnErr result (IsStuck IsPart new)
  IsStuck-make low_side high_side full = pick result refl
    where
      pick : (o : Result NodeRef Full) → result ≡ o → OnErr o (IsStuck IsPart new)
      pick (Ok made) is = tt
      pick (Err why) is =
          subst (IsStuck IsPart) (sym (same-err why is))
          (IsStuck-full IsPart old track low high before low_side high_side
          (full.0 (subst (λ (q : Result NodeRef Full). IsErr q) (sym is) refl)) part)
