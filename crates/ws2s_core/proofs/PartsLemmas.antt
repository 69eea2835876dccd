-- On the parts of formulas that are kept as nodes, and on the walk down that meets them.
use Rattle.std.proofs.Common.{◌≡◌, ◌⊎◌, ℕ, ◌-◌, ◌<◌, ◌≤◌, List, [], ◌∷◌, ◌++◌, length, map, reverse, slice_get, slice_index_or}
use Rattle.std.proofs.Common.{option_map, Option, Some, None, IfSome, All, Contains, AllPairs, refl, sym, ap, subst, ◌∙◌, inl, inr, arith}
use Rattle.std.proofs.lemmas.Bool.{cases_lt}
use Rattle.std.proofs.lemmas.Option.{slice_get_past}
use Rattle.std.proofs.lemmas.List.{get_or-reverse, length-reverse}
use Rattle.std.proofs.lemmas.List.Elements.{All-nil, All-cons, All-append, All-weaker, All-contains, Contains-append_left, Contains-append_right}
use Rattle.std.proofs.lemmas.List.Elements.{Contains-append_cases, Contains-get_or}
use Rattle.std.proofs.lemmas.List.Quantifiers.{all_pairs_push}
use Rattle.std.proofs.lemmas.List.Sorted.{All-permutation, Contains-permutation, IsPermutation-sym, IsPermutation-reverse}
use Rattle.std.specs.List.Sorted.{IsPermutation}
use Rattle.gta_theory.proofs.ListedLemmas.{meanings-push, length-meanings}
use Rattle.gta_theory.proofs.ListsLemmas.{Contains-first, Contains-later, Contains-cases, Contains-none, Contains-map, Contains-mapped, All-from_contains}
use Rattle.ws2s_core.specs.declared.node.FormulaId.{FormulaId}
use Rattle.ws2s_core.specs.declared.node.Node.{Node}
use Rattle.ws2s_core.specs.declared.formula.Formula.{Formula, out-Formula, out-roll-Formula}
use Rattle.ws2s_core.specs.declared.formula.Formula.TheOpen.{Formula-F}
use Rattle.ws2s_core.specs.declared.formula.Formula.TheFolds.{map-Formula}
use Rattle.ws2s_core.specs.Nodes.{form_of, formula_at, formula_of_node, formulas_of, HasPartsBelow, IsOnceEach, Extends, AddsAtMost}
use Rattle.ws2s_core.specs.Postfix.{parts_of}
use Rattle.ws2s_core.specs.Parts.{IsPart, itself, deeper, ArePartsOf, IsKnown, MeetsParts, HasMetParts}
use Rattle.ws2s_core.proofs.NodesLemmas.{formulas_of-at, formula_at-is, at-formula_at, formula_of_node-extends, node-inside}

-- the form at a place makes the formula at that place
pub formula-at_form : (nodes : List Node) → ((k : ℕ) (node : Node) → slice_get nodes k ≡ Some node → HasPartsBelow k node) → (k : ℕ) →
    option_map (formula_of_node (formulas_of nodes)) (slice_get nodes k) ≡ slice_get (formulas_of nodes) k
formula-at_form nodes earlier k = pick (slice_get nodes k) refl
  where
    pick : (o : Option Node) → slice_get nodes k ≡ o → option_map (formula_of_node (formulas_of nodes)) o ≡ slice_get (formulas_of nodes) k
    pick None e = elim (cases_lt k (length nodes)) as (λ _. None ≡ slice_get (formulas_of nodes) k) [
      | inl inside ↦ (let node = node-inside nodes k inside in let there : slice_get nodes k ≡ Some node.0 = node.1 in absurd cc)
      | inr past ↦ sym (slice_get_past (formulas_of nodes) k (omega (arith, length-meanings formula_of_node nodes)))
    ]
    pick (Some node) e = sym (formulas_of-at nodes k node e (earlier k node e))

-- the parts of the form at a place stand before it
pub form-parts : (nodes : List Node) → ((k : ℕ) (node : Node) → slice_get nodes k ≡ Some node → HasPartsBelow k node) → (k : ℕ) (o : Option Node) →
    o ≡ slice_get nodes k → IfSome o (λ node. HasPartsBelow k node)
form-parts nodes earlier k None e = tt
form-parts nodes earlier k (Some node) e = earlier k node (sym e)

-- the formulas, after a node came or was there
pub AddsAtMost-formulas : (nodes nodes' : List Node) (node : Node) → AddsAtMost nodes node nodes' →
    AddsAtMost (formulas_of nodes) (formula_of_node (formulas_of nodes) node) (formulas_of nodes')
AddsAtMost-formulas nodes nodes' node adds =
    elim adds as (λ _. AddsAtMost (formulas_of nodes) (formula_of_node (formulas_of nodes) node) (formulas_of nodes')) [
      | inl same ↦ inl (ap formulas_of same)
      | inr more ↦ inr (ap formulas_of more ∙ meanings-push formula_of_node nodes node)
    ]

-- the formula at the place of a node whose parts were there before
pub formula-placed : (nodes nodes' : List Node) (node : Node) (place : ℕ) → Extends nodes nodes' → HasPartsBelow (length nodes) node →
    HasPartsBelow place node → slice_get nodes' place ≡ Some node →
    slice_get (formulas_of nodes') place ≡ Some (formula_of_node (formulas_of nodes) node)
formula-placed nodes nodes' node place extends inside below at =
    formulas_of-at nodes' place node at below ∙ ap Some (formula_of_node-extends nodes nodes' node extends inside)

-- the parts of a form are the formulas of the form's numbers
parts-map : (h : ℕ → Formula) (form : Formula-F ℕ) → parts_of (map-Formula ℕ Formula h form) ≡ map h (parts_of form)
parts-map h (Formula-F.Sub x y) = refl
parts-map h (Formula-F.Single x) = refl
parts-map h (Formula-F.Succ0 x y) = refl
parts-map h (Formula-F.Succ1 x y) = refl
parts-map h (Formula-F.Root x) = refl
parts-map h (Formula-F.And f g) = refl
parts-map h (Formula-F.Not f) = refl
parts-map h (Formula-F.Ex2 t f) = refl

-- the parts of the formula at a place are the formulas at the places of its node's parts
parts-at : (nodes : List Node) (k : ℕ) (node : Node) → slice_get nodes k ≡ Some node → HasPartsBelow k node →
    parts_of (out-Formula (formula_at (formulas_of nodes) k)) ≡ map (formula_at (formulas_of nodes)) (parts_of (form_of node))
parts-at nodes k node at below =
    ap (λ f. parts_of (out-Formula f)) (formula_at-is (formulas_of nodes) k (formula_of_node (formulas_of nodes) node) (formulas_of-at nodes k node at below))
    ∙ ap parts_of (out-roll-Formula _)
    ∙ parts-map (formula_at (formulas_of nodes)) (form_of node)

-- pairs of a list that is turned round
AllPairs-reverse : {X : Type 0} (R S : X → X → Type 0) → ((x y : X) → R x y → S y x) → (xs : List X) → AllPairs R xs → AllPairs S (reverse xs)
AllPairs-reverse R S turn xs h i j d less within =
    let long = length-reverse xs in
    let at_i = get_or-reverse xs i d (omega (arith, long)) in
    let at_j = get_or-reverse xs j d (omega (arith, long)) in
    subst (λ z. S z (slice_index_or (reverse xs) j d)) (sym at_i)
    (subst (λ z. S (slice_index_or xs (length xs - 1 - i) d) z) (sym at_j)
    (turn _ _ (h (length xs - 1 - j) (length xs - 1 - i) d (omega (arith, long)) (omega (arith, long)))))

-- a number is known still where those that waited are
known-permuted : (met : List FormulaId) (waiting waiting' : List ℕ) → ((k : ℕ) → Contains waiting k → IsKnown met waiting' k) → (k : ℕ) →
    IsKnown met waiting k → IsKnown met waiting' k
known-permuted met waiting waiting' along k known = elim known as (λ _. IsKnown met waiting' k) [
  | inl was ↦ inl was
  | inr waits ↦ along k waits
]

abbrev id-of : ℕ → FormulaId
id-of k = record { 0 = k }

abbrev parts-of : Node → List ℕ
parts-of node = parts_of (form_of node)

module _ (nodes : List Node) (earlier : (k : ℕ) (node : Node) → slice_get nodes k ≡ Some node → HasPartsBelow k node) (whole : ℕ) where
  abbrev IsPartHere : ℕ → Type 0
  IsPartHere k = IsPart (formula_at (formulas_of nodes) whole) (formula_at (formulas_of nodes) k)

  -- at first the formula's own number waits
  pub MeetsParts-first : whole < length nodes → (met : List FormulaId) (waiting : List ℕ) → met ≡ [] → IsPermutation (whole ∷ []) waiting →
      MeetsParts nodes whole met waiting (length nodes)
  MeetsParts-first inside met waiting none order = subst (λ (ids : List FormulaId). MeetsParts nodes whole ids waiting (length nodes)) (sym none) (record {
    falling = λ i j d less within. absurd (omega arith);
    no_lower = All-nil (λ id. length nodes ≤ id.0);
    last = λ less. absurd (omega arith);
    low = All-permutation (λ k. k ≤ length nodes) (whole ∷ []) waiting order
        (All-cons (λ k. k ≤ length nodes) whole [] (omega arith) (All-nil (λ k. k ≤ length nodes)));
    whole_known = inr (Contains-permutation (whole ∷ []) waiting whole order (Contains-first whole []));
    closed = λ k node h at. absurd (Contains-none (id-of k) h);
    sound = λ k known. elim known as (λ _. (k < length nodes) × IsPartHere k) [
      | inl h ↦ absurd (Contains-none (id-of k) h)
      | inr h ↦ elim (Contains-cases whole k [] (Contains-permutation waiting (whole ∷ []) k (IsPermutation-sym (whole ∷ []) waiting order) h))
          as (λ _. (k < length nodes) × IsPartHere k) [
            | inl same ↦ subst (λ j. (j < length nodes) × IsPartHere j) same (inside, itself)
            | inr past ↦ absurd (Contains-none k past)
          ]
    ];
  })

  module _ (met : List FormulaId) (waiting rest : List ℕ) (below place : ℕ) (h : MeetsParts nodes whole met waiting below)
      (order : IsPermutation waiting (place ∷ rest)) where
    place-waits : Contains waiting place
    place-waits = Contains-permutation (place ∷ rest) waiting place (IsPermutation-sym waiting (place ∷ rest) order) (Contains-first place rest)

    rest-waits : (k : ℕ) → Contains rest k → Contains waiting k
    rest-waits k in_rest = Contains-permutation (place ∷ rest) waiting k (IsPermutation-sym waiting (place ∷ rest) order) (Contains-later place k rest in_rest)

    -- what waits is this number or one of the rest
    waits-cases : (k : ℕ) → Contains waiting k → (place ≡ k) ⊎ Contains rest k
    waits-cases k waits = Contains-cases place k rest (Contains-permutation waiting (place ∷ rest) k order waits)

    place-low : place ≤ below
    place-low = All-contains (λ k. k ≤ below) waiting place h.low place-waits

    pub place-inside : place < length nodes
    place-inside = (h.sound place (inr place-waits)).0

    -- a number that comes up again was met last
    pub MeetsParts-again : below ≤ place → MeetsParts nodes whole met rest below
    MeetsParts-again not_less = record {
      falling = h.falling;
      no_lower = h.no_lower;
      last = h.last;
      low = All-from_contains (λ k. k ≤ below) rest (λ k in_rest. All-contains (λ k. k ≤ below) waiting k h.low (rest-waits k in_rest));
      whole_known = along whole h.whole_known;
      closed = λ k node in_met at. All-weaker (IsKnown met waiting) (IsKnown met rest) along (parts_of (form_of node)) (h.closed k node in_met at);
      sound = λ k known. h.sound k (known-permuted met rest waiting (λ j in_rest. inr (rest-waits j in_rest)) k known);
    }
      where
        along : (k : ℕ) → IsKnown met waiting k → IsKnown met rest k
        along = known-permuted met waiting rest (λ k waits. elim (waits-cases k waits) as (λ _. IsKnown met rest k) [
          | inl same ↦
              let is : below ≡ k = omega (arith, same, place-low) in
              inl (subst (λ j. Contains met (id-of j)) is (h.last (omega (arith, place-low, place-inside))))
          | inr in_rest ↦ inr in_rest
        ])

    -- a lower one is met, and its parts wait
    pub MeetsParts-new : place < below → All (λ k. k ≤ place) rest → (node : Node) → slice_get nodes place ≡ Some node →
        (met' : List FormulaId) (waiting' : List ℕ) → met' ≡ met ++ id-of place ∷ [] → IsPermutation (parts-of node ++ rest) waiting' →
        MeetsParts nodes whole met' waiting' place
    MeetsParts-new less under node at met' waiting' is order' = subst (λ (ids : List FormulaId). MeetsParts nodes whole ids waiting' place) (sym is) (record {
      falling = all_pairs_push (λ p q. q.0 < p.0) met (id-of place) h.falling
          (λ i d within. omega (arith, All-contains (λ id. below ≤ id.0) met (slice_index_or met i d) h.no_lower (Contains-get_or met i d within)));
      no_lower = All-from_contains (λ id. place ≤ id.0) (met ++ id-of place ∷ []) (λ id in_met.
          elim (Contains-append_cases met (id-of place ∷ []) id in_met) as (λ _. place ≤ id.0) [
            | inl old ↦ omega (arith, All-contains (λ id. below ≤ id.0) met id h.no_lower old)
            | inr new ↦ elim (Contains-cases (id-of place) id [] new) as (λ _. place ≤ id.0) [
              | inl same ↦ omega (arith, ap (λ (x : FormulaId). x.0) same)
              | inr none ↦ absurd (Contains-none id none)
            ]
          ]);
      last = λ inside. new_met;
      low = All-permutation (λ k. k ≤ place) (parts-of node ++ rest) waiting' order' (All-append (λ k. k ≤ place) (parts-of node) rest
          (All-weaker (λ k. k < place) (λ k. k ≤ place) (λ k lt. omega arith) (parts-of node) (earlier place node at)) under);
      whole_known = along whole h.whole_known;
      closed = λ k other in_met at_k. elim (Contains-append_cases met (id-of place ∷ []) (id-of k) in_met)
          as (λ _. All (IsKnown (met ++ id-of place ∷ []) waiting') (parts_of (form_of other))) [
            | inl old ↦ All-weaker (IsKnown met waiting) (IsKnown (met ++ id-of place ∷ []) waiting') along (parts_of (form_of other))
                (h.closed k other old at_k)
            | inr new ↦ (let same : node ≡ other = node-same k other new at_k in
                subst (λ n. All (IsKnown (met ++ id-of place ∷ []) waiting') (parts_of (form_of n))) same
                (All-from_contains (IsKnown (met ++ id-of place ∷ []) waiting') (parts-of node) (λ p in_parts. inr (part-waits p in_parts))))
          ];
      sound = λ k known. elim known as (λ _. (k < length nodes) × IsPartHere k) [
        | inl in_met ↦ elim (Contains-append_cases met (id-of place ∷ []) (id-of k) in_met) as (λ _. (k < length nodes) × IsPartHere k) [
          | inl old ↦ h.sound k (inl old)
          | inr new ↦ subst (λ j. (j < length nodes) × IsPartHere j) (number-same k new) (h.sound place (inr place-waits))
        ]
        | inr waits ↦ elim (Contains-append_cases (parts-of node) rest k
            (Contains-permutation waiting' (parts-of node ++ rest) k (IsPermutation-sym (parts-of node ++ rest) waiting' order') waits))
            as (λ _. (k < length nodes) × IsPartHere k) [
              | inl in_parts ↦ (let lt : k < place = All-contains (λ j. j < place) (parts-of node) k (earlier place node at) in_parts in (
                omega (arith, lt, place-inside),
                deeper (formula_at (formulas_of nodes) place) (formula_at (formulas_of nodes) k) (h.sound place (inr place-waits)).1
                    (subst (λ (fs : List Formula). Contains fs (formula_at (formulas_of nodes) k)) (sym (parts-at nodes place node at (earlier place node at)))
                    (Contains-map (formula_at (formulas_of nodes)) (parts-of node) k in_parts)),
              ))
              | inr in_rest ↦ h.sound k (inr (rest-waits k in_rest))
            ]
      ];
    })
      where
        new_met : Contains (met ++ id-of place ∷ []) (id-of place)
        new_met = Contains-append_right met (id-of place ∷ []) (id-of place) (Contains-first (id-of place) [])

        part-waits : (p : ℕ) → Contains (parts-of node) p → Contains waiting' p
        part-waits p in_parts = Contains-permutation (parts-of node ++ rest) waiting' p order' (Contains-append_left (parts-of node) rest p in_parts)

        number-same : (k : ℕ) → Contains (id-of place ∷ []) (id-of k) → place ≡ k
        number-same k new = elim (Contains-cases (id-of place) (id-of k) [] new) as (λ _. place ≡ k) [
          | inl same ↦ ap (λ (x : FormulaId). x.0) same
          | inr none ↦ absurd (Contains-none (id-of k) none)
        ]

        node-same : (k : ℕ) (other : Node) → Contains (id-of place ∷ []) (id-of k) → slice_get nodes k ≡ Some other → node ≡ other
        node-same k other new at_k =
            let e : Some node ≡ Some other = sym at ∙ ap (slice_get nodes) (number-same k new) ∙ at_k in
            cc

        along : (k : ℕ) → IsKnown met waiting k → IsKnown (met ++ id-of place ∷ []) waiting' k
        along k known = elim known as (λ _. IsKnown (met ++ id-of place ∷ []) waiting' k) [
          | inl old ↦ inl (Contains-append_left met (id-of place ∷ []) (id-of k) old)
          | inr waits ↦ elim (waits-cases k waits) as (λ _. IsKnown (met ++ id-of place ∷ []) waiting' k) [
            | inl same ↦ inl (subst (λ j. Contains (met ++ id-of place ∷ []) (id-of j)) same new_met)
            | inr in_rest ↦ inr (Contains-permutation (parts-of node ++ rest) waiting' k order' (Contains-append_right (parts-of node) rest k in_rest))
          ]
        ]

  -- where nothing waits, what is known was met
  met-known : (met : List FormulaId) (k : ℕ) → IsKnown met [] k → Contains met (id-of k)
  met-known met k known = elim known as (λ _. Contains met (id-of k)) [ inl was ↦ was | inr none ↦ absurd (Contains-none k none) ]

  -- and so exactly the parts were met
  part-met : (met : List FormulaId) → HasMetParts nodes whole met → (f : Formula) → IsPart (formula_at (formulas_of nodes) whole) f →
      (k : ℕ) × (k < length nodes) × (formula_at (formulas_of nodes) k ≡ f) × Contains met (id-of k)
  part-met met h _ itself = (whole, ((h.1).sound whole (h.1).whole_known).0, refl, met-known met whole (h.1).whole_known)
  part-met met h _ (deeper f e part contains) =
      let k = part-met met h f part in
      let node = node-inside nodes k.0 k.1 in
      let parts : parts_of (out-Formula f) ≡ map (formula_at (formulas_of nodes)) (parts_of (form_of node.0)) =
      ap (λ x. parts_of (out-Formula x)) (sym k.2) ∙ parts-at nodes k.0 node.0 node.1 (earlier k.0 node.0 node.1) in
      let p = Contains-mapped (formula_at (formulas_of nodes)) (parts_of (form_of node.0)) e
      (subst (λ (fs : List Formula). Contains fs e) parts contains) in
      let known = All-contains (IsKnown met []) (parts_of (form_of node.0)) p.0 ((h.1).closed k.0 node.0 k.3 node.1) p.1 in
      (p.0, ((h.1).sound p.0 known).0, p.2, met-known met p.0 known)

  -- turned round they rise
  pub ArePartsOf-met : (met ids : List FormulaId) → IsOnceEach (formulas_of nodes) → HasMetParts nodes whole met → ids ≡ reverse met →
      ArePartsOf (formulas_of nodes) whole ids
  ArePartsOf-met met ids once h turned = subst (ArePartsOf (formulas_of nodes) whole) (sym turned) (record {
    rising = AllPairs-reverse (λ p q. q.0 < p.0) (λ p q. p.0 < q.0) (λ p q lt. lt) met (h.1).falling;
    exactly = λ id. (
      (λ inside.
          let known = (h.1).sound id.0 (inl (Contains-permutation (reverse met) met id (IsPermutation-sym met (reverse met) (IsPermutation-reverse met))
          inside)) in
          (omega (arith, known.0, length-meanings formula_of_node nodes), known.1)),
      (λ part.
          let k = part-met met h (formula_at (formulas_of nodes) id.0) part.1 in
          let in_k : k.0 < length (formulas_of nodes) = omega (arith, k.1, length-meanings formula_of_node nodes) in
          let same : k.0 ≡ id.0 = once.once k.0 id.0 (formula_at (formulas_of nodes) id.0)
          (at-formula_at (formulas_of nodes) k.0 in_k ∙ ap Some k.2) (at-formula_at (formulas_of nodes) id.0 part.0) in
          Contains-permutation met (reverse met) id (IsPermutation-reverse met) (subst (λ n. Contains met (id-of n)) same k.3)),
    );
  })
