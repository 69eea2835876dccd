-- A machine keeps its meaning while its parts are taken apart.
use Rattle.std.proofs.Common.{◌≡◌, ◌⊎◌, inl, inr, ◌↔◌, ◌<◌, ◌≤◌, ◌+◌, ◌++◌, ◌∷◌, [], ℕ, List, map, Result, Ok, Err, OnOk, refl, sym, ap, ◌∙◌, subst}
use Rattle.std.proofs.Common.{arith, Contains}
use Rattle.std.specs.List.Sorted.{IsPermutation}
use Rattle.std.proofs.lemmas.List.{map_push}
use Rattle.std.proofs.lemmas.List.Elements.{Contains-append_cases, Contains-append_left}
use Rattle.std.proofs.lemmas.List.Sorted.{Contains-permutation, IsPermutation-sym}
use Rattle.store_core.specs.declared.ids.CellId.{CellId}
use Rattle.store_core.specs.declared.kind.Route.{Route}
use Rattle.store_core.specs.declared.kind.Route.TheVariants as route
use Rattle.store_core.specs.Tables.{TypeEntry}
use Rattle.store_core.specs.Stores.{StoreMap}
use Rattle.routing_walks.specs.Walks.{Fields, Chain, stay, go as go_round, Walk}
use Rattle.routing_walks.specs.Gathering.{Gathers, HasAll}
use Rattle.routing_walks.proofs.WalkLemmas.{Walk-Then, Walk-Or, Walk-Star}
use Rattle.routing_walks.proofs.LiveLemmas.{Walk-live, Chain-live}
use Rattle.routing_walks.proofs.GatheringLemmas.{Contains-none, Contains-map, map-Contains, Gathers-both, Gathers-first, Gathers-last, Contains-one}
use Rattle.routing_walks.proofs.GatheringLemmas.{Contains-here, Contains-there, Contains-cases}
use Rattle.routing_expr.specs.declared.machine.Edge.{Edge}
use Rattle.routing_expr.specs.declared.machine.Part.{Part}
use Rattle.routing_expr.specs.Machines.{live, along, Arc, arc, arc_of, part_of, Takes, Path, stop, go, Means, IsPlan}

apart : (m n : ℕ) → m < n → m ≡ n → ⊥
apart m n below same = absurd (omega arith)

module _ (types : List TypeEntry) (s : StoreMap) (fields : Fields) where
  pub Path-then : {arcs : List Arc} {p : ℕ} {a : CellId} {q : ℕ} {b : CellId} {r : ℕ} {c : CellId} →
      Path types s fields arcs p a q b → Path types s fields arcs q b r c → Path types s fields arcs p a r c
  Path-then (stop p a) two = two
  Path-then (go p a arc b q c held from takes rest) two = go p a arc b _ _ held from takes (Path-then rest two)

  -- more ways lead as far
  pub Path-more : (one other : List Arc) → ((x : Arc) → Contains one x → Contains other x) → {p : ℕ} {a : CellId} {q : ℕ} {b : CellId} →
      Path types s fields one p a q b → Path types s fields other p a q b
  Path-more one other more (stop p a) = stop p a
  Path-more one other more (go p a arc b q c held from takes rest) = go p a arc b q c (more arc held) from takes (Path-more one other more rest)

-- the ways of a list but the first, some in place of the first
module _ (types : List TypeEntry) (s : StoreMap) (fields : Fields) (old : Arc) (rest now : List Arc)
    (others : (x : Arc) → Contains rest x → Contains now x) where
  -- where each walk by the first can be gone by those in its place
  forward : ((a b : CellId) → Takes types s fields old.label a b → Path types s fields now old.from a old.to b) →
      {p : ℕ} {a : CellId} {q : ℕ} {b : CellId} → Path types s fields (old ∷ rest) p a q b → Path types s fields now p a q b
  forward by (stop p a) = stop p a
  forward by (go p a arc b q c held from takes path) = elim (Contains-cases old rest arc held) [
    | inl same ↦
        subst (λ x. Path types s fields now x a q c) (sym (ap (λ (x : Arc). x.from) same) ∙ from)
        (Path-then types s fields (by a b (subst (λ (x : Arc). Takes types s fields x.label a b) same takes))
        (subst (λ (x : Arc). Path types s fields now x.to b q c) same (forward by path)))
    | inr there ↦ go p a arc b q c (others arc there) from takes (forward by path)
  ]

-- one route after the other, by a place of their own
module _ (types : List TypeEntry) (s : StoreMap) (fields : Fields) (from to n : ℕ) (first second : Route) (rest now : List Arc)
    (below : (x : Arc) → Contains (arc from (along (route.Then first second)) to ∷ rest) x → (x.from < n) × (x.to < n))
    (made : Gathers rest now (λ x. (x ≡ arc from (along first) n) ⊎ (x ≡ arc n (along second) to))) where
  abbrev both : Arc
  both = arc from (along (route.Then first second)) to

  both-there : (a b : CellId) → Walk types s fields (route.Then first second) a b → Path types s fields now from a to b
  both-there a b w =
      let m = (Walk-Then types s fields first second a b).0 w in
      go from a (arc from (along first) n) m.0 to b ((made (arc from (along first) n)).1 (inr (inl refl))) refl m.1
      (go n m.0 (arc n (along second) to) b to b ((made (arc n (along second) to)).1 (inr (inr refl))) refl m.2 (stop to b))

  both-back : {p : ℕ} {a : CellId} {q : ℕ} {b : CellId} → Path types s fields now p a q b → (q ≡ n → ⊥) →
      ((p ≡ n → ⊥) → Path types s fields (both ∷ rest) p a q b) ×
      (p ≡ n → (c : CellId) × Walk types s fields second a c × Path types s fields (both ∷ rest) to c q b)
  both-back (stop p a) off = (λ _. stop p a, λ same. absurd (off same))
  both-back (go p a x b q c held at takes path) off =
      let back = both-back path off in
      let here = below both (Contains-here both rest) in
      elim ((made x).0 held) [
        | inl there ↦
            let inside = below x (Contains-there both rest x there) in (
              λ _. go p a x b q c (Contains-there both rest x there) at takes (back.0 (λ e. apart x.to n inside.1 e)),
              λ same. absurd (apart x.from n inside.0 (at ∙ same)),
            )
        | inr new ↦ elim new [
          | inl one ↦ (
            λ _. let m = back.1 (ap (λ (y : Arc). y.to) one) in
                go p a both m.0 q c (Contains-here both rest) (sym (ap (λ (y : Arc). y.from) one) ∙ at)
                ((Walk-Then types s fields first second a m.0).1 (b, subst (λ (y : Arc). Takes types s fields y.label a b) one takes, m.1)) m.2,
            λ same. absurd (apart from n here.0 (sym (ap (λ (y : Arc). y.from) one) ∙ at ∙ same)),
          )
          | inr two ↦ (
            λ elsewhere. absurd (elsewhere (sym at ∙ ap (λ (y : Arc). y.from) two)),
            λ same. (
              b,
              subst (λ (y : Arc). Takes types s fields y.label a b) two takes,
              subst (λ t. Path types s fields (both ∷ rest) t b q c) (ap (λ (y : Arc). y.to) two)
                  (back.0 (λ e. apart to n here.1 (sym (ap (λ (y : Arc). y.to) two) ∙ e))),
            ),
          )
        ]
      ]

-- either route, between the same places
module _ (types : List TypeEntry) (s : StoreMap) (fields : Fields) (from to : ℕ) (one other : Route) (rest now : List Arc)
    (made : Gathers rest now (λ x. (x ≡ arc from (along one) to) ⊎ (x ≡ arc from (along other) to))) where
  abbrev either : Arc
  either = arc from (along (route.Or one other)) to

  either-there : (a b : CellId) → Walk types s fields (route.Or one other) a b → Path types s fields now from a to b
  either-there a b w = elim ((Walk-Or types s fields one other a b).0 w) [
    | inl h ↦ go from a (arc from (along one) to) b to b ((made (arc from (along one) to)).1 (inr (inl refl))) refl h (stop to b)
    | inr h ↦ go from a (arc from (along other) to) b to b ((made (arc from (along other) to)).1 (inr (inr refl))) refl h (stop to b)
  ]

  either-back : {p : ℕ} {a : CellId} {q : ℕ} {b : CellId} → Path types s fields now p a q b → Path types s fields (either ∷ rest) p a q b
  either-back (stop p a) = stop p a
  either-back (go p a x b q c held at takes path) = elim ((made x).0 held) [
    | inl there ↦ go p a x b q c (Contains-there either rest x there) at takes (either-back path)
    | inr new ↦ elim new [
      | inl first ↦
          go p a either b q c (Contains-here either rest) (sym (ap (λ (y : Arc). y.from) first) ∙ at)
          ((Walk-Or types s fields one other a b).1 (inl (subst (λ (y : Arc). Takes types s fields y.label a b) first takes)))
          (subst (λ t. Path types s fields (either ∷ rest) t b q c) (ap (λ (y : Arc). y.to) first) (either-back path))
      | inr second ↦
          go p a either b q c (Contains-here either rest) (sym (ap (λ (y : Arc). y.from) second) ∙ at)
          ((Walk-Or types s fields one other a b).1 (inr (subst (λ (y : Arc). Takes types s fields y.label a b) second takes)))
          (subst (λ t. Path types s fields (either ∷ rest) t b q c) (ap (λ (y : Arc). y.to) second) (either-back path))
    ]
  ]

-- rounds, at a place of their own
module _ (types : List TypeEntry) (s : StoreMap) (fields : Fields) (from to n : ℕ) (round : Route) (rest now : List Arc)
    (below : (x : Arc) → Contains (arc from (along (route.Star round)) to ∷ rest) x → (x.from < n) × (x.to < n))
    (made : Gathers rest now (λ x. (x ≡ arc from live n) ⊎ ((x ≡ arc n (along round) n) ⊎ (x ≡ arc n live to)))) where
  abbrev rounds : Arc
  rounds = arc from (along (route.Star round)) to

  turn : {a b : CellId} → Chain s (Walk types s fields round) a b → Path types s fields now n a to b
  turn (stay a h) = go n a (arc n live to) a to a ((made (arc n live to)).1 (inr (inr (inr refl)))) refl (refl, h) (stop to a)
  turn (go_round a b c step chain) = go n a (arc n (along round) n) b to c ((made (arc n (along round) n)).1 (inr (inr (inl refl)))) refl step (turn chain)

  rounds-there : (a b : CellId) → Walk types s fields (route.Star round) a b → Path types s fields now from a to b
  rounds-there a b w =
      let chain = (Walk-Star types s fields round a b).0 w in
      go from a (arc from live n) a to b ((made (arc from live n)).1 (inr (inl refl))) refl
      (refl, (Chain-live (Walk-live types s fields round) chain).0) (turn chain)

  rounds-back : {p : ℕ} {a : CellId} {q : ℕ} {b : CellId} → Path types s fields now p a q b → (q ≡ n → ⊥) →
      ((p ≡ n → ⊥) → Path types s fields (rounds ∷ rest) p a q b) ×
      (p ≡ n → (c : CellId) × Chain s (Walk types s fields round) a c × Path types s fields (rounds ∷ rest) to c q b)
  rounds-back (stop p a) off = (λ _. stop p a, λ same. absurd (off same))
  rounds-back (go p a x b q c held at takes path) off =
      let back = rounds-back path off in
      let here = below rounds (Contains-here rounds rest) in
      elim ((made x).0 held) [
        | inl there ↦
            let inside = below x (Contains-there rounds rest x there) in (
              λ _. go p a x b q c (Contains-there rounds rest x there) at takes (back.0 (λ e. apart x.to n inside.1 e)),
              λ same. absurd (apart x.from n inside.0 (at ∙ same)),
            )
        | inr new ↦ elim new [
          | inl enter ↦ (
            λ _. let m = back.1 (ap (λ (y : Arc). y.to) enter) in
                let stays = subst (λ (y : Arc). Takes types s fields y.label a b) enter takes in
                go p a rounds m.0 q c (Contains-here rounds rest) (sym (ap (λ (y : Arc). y.from) enter) ∙ at)
                ((Walk-Star types s fields round a m.0).1 (subst (λ z. Chain s (Walk types s fields round) z m.0) (sym stays.0) m.1)) m.2,
            λ same. absurd (apart from n here.0 (sym (ap (λ (y : Arc). y.from) enter) ∙ at ∙ same)),
          )
          | inr later ↦ elim later [
            | inl again ↦ (
              λ elsewhere. absurd (elsewhere (sym at ∙ ap (λ (y : Arc). y.from) again)),
              λ same. let m = back.1 (ap (λ (y : Arc). y.to) again) in
                  (m.0, go_round a b m.0 (subst (λ (y : Arc). Takes types s fields y.label a b) again takes) m.1, m.2),
            )
            | inr leave ↦ (
              λ elsewhere. absurd (elsewhere (sym at ∙ ap (λ (y : Arc). y.from) leave)),
              λ same.
                  let stays = subst (λ (y : Arc). Takes types s fields y.label a b) leave takes in (
                    b,
                    subst (λ z. Chain s (Walk types s fields round) a z) stays.0 (stay a stays.1),
                    subst (λ t. Path types s fields (rounds ∷ rest) t b q c) (ap (λ (y : Arc). y.to) leave)
                        (back.0 (λ e. apart to n here.1 (sym (ap (λ (y : Arc). y.to) leave) ∙ e))),
                  ),
            )
          ]
        ]
      ]

-- ---- plans

abbrev then_arc : ℕ → ℕ → Route → Route → Arc
then_arc from to first second = arc from (along (route.Then first second)) to

abbrev or_arc : ℕ → ℕ → Route → Route → Arc
or_arc from to one other = arc from (along (route.Or one other)) to

abbrev star_arc : ℕ → ℕ → Route → Arc
star_arc from to round = arc from (along (route.Star round)) to

inside : (n : ℕ) (x y : Arc) → x ≡ y → (y.from < n) × (y.to < n) → (x.from < n) × (x.to < n)
inside n x y same h = (subst (λ (z : Arc). z.from < n) (sym same) h.0, subst (λ (z : Arc). z.to < n) (sym same) h.1)

above : (n i : ℕ) → 2 ≤ n → i < 2 → i ≡ n → ⊥
above n i two low same = absurd (omega arith)

module _ (whole : Route) (rest now : List Arc) (n : ℕ) where
  pub IsPlan-same : (old : Arc) → IsPlan whole (old ∷ rest) n → Gathers rest now (λ x. x ≡ old) → IsPlan whole now n
  IsPlan-same old plan made = record {
    means = λ types s fields a b. (
      λ w. Path-more types s fields (old ∷ rest) now to ((plan.means types s fields a b).0 w),
      λ path. (plan.means types s fields a b).1 (Path-more types s fields now (old ∷ rest) back path),
    );
    two = plan.two;
    below = λ x held. plan.below x (back x held);
  }
    where
      to : (x : Arc) → Contains (old ∷ rest) x → Contains now x
      to x held = elim (Contains-cases old rest x held) [ inl same ↦ (made x).1 (inr same) | inr there ↦ (made x).1 (inl there) ]

      back : (x : Arc) → Contains now x → Contains (old ∷ rest) x
      back x held = elim ((made x).0 held) [
        | inl there ↦ Contains-there old rest x there
        | inr same ↦ subst (λ y. Contains (old ∷ rest) y) (sym same) (Contains-here old rest)
      ]

  others : (P : Arc → Type 0) → Gathers rest now P → (x : Arc) → Contains rest x → Contains now x
  others P made x there = (made x).1 (inl there)

  pub IsPlan-both : (from to : ℕ) (first second : Route) → IsPlan whole (then_arc from to first second ∷ rest) n →
      Gathers rest now (λ x. (x ≡ arc from (along first) n) ⊎ (x ≡ arc n (along second) to)) → IsPlan whole now (n + 1)
  IsPlan-both from to first second plan made = record {
    means = λ types s fields a b. (
      λ w. forward types s fields (then_arc from to first second) rest now (others _ made)
          (both-there types s fields from to n first second rest now plan.below made) ((plan.means types s fields a b).0 w),
      λ path. (plan.means types s fields a b).1
          ((both-back types s fields from to n first second rest now plan.below made path (above n 1 plan.two (omega arith))).0
          (above n 0 plan.two (omega arith))),
    );
    two = let two = plan.two in omega arith;
    below = λ x held. elim ((made x).0 held) [
      | inl there ↦ let h = plan.below x (Contains-there (then_arc from to first second) rest x there) in (omega arith, omega arith)
      | inr new ↦ let h = plan.below (then_arc from to first second) (Contains-here (then_arc from to first second) rest) in elim new [
        | inl one ↦ inside (n + 1) x (arc from (along first) n) one (omega arith, omega arith)
        | inr two ↦ inside (n + 1) x (arc n (along second) to) two (omega arith, omega arith)
      ]
    ];
  }

  pub IsPlan-either : (from to : ℕ) (one other : Route) → IsPlan whole (or_arc from to one other ∷ rest) n →
      Gathers rest now (λ x. (x ≡ arc from (along one) to) ⊎ (x ≡ arc from (along other) to)) → IsPlan whole now n
  IsPlan-either from to one other plan made = record {
    means = λ types s fields a b. (
      λ w. forward types s fields (or_arc from to one other) rest now (others _ made)
          (either-there types s fields from to one other rest now made) ((plan.means types s fields a b).0 w),
      λ path. (plan.means types s fields a b).1 (either-back types s fields from to one other rest now made path),
    );
    two = plan.two;
    below = λ x held. elim ((made x).0 held) [
      | inl there ↦ plan.below x (Contains-there (or_arc from to one other) rest x there)
      | inr new ↦ let h = plan.below (or_arc from to one other) (Contains-here (or_arc from to one other) rest) in elim new [
        | inl first ↦ inside n x (arc from (along one) to) first h
        | inr second ↦ inside n x (arc from (along other) to) second h
      ]
    ];
  }

  pub IsPlan-rounds : (from to : ℕ) (round : Route) → IsPlan whole (star_arc from to round ∷ rest) n →
      Gathers rest now (λ x. (x ≡ arc from live n) ⊎ ((x ≡ arc n (along round) n) ⊎ (x ≡ arc n live to))) → IsPlan whole now (n + 1)
  IsPlan-rounds from to round plan made = record {
    means = λ types s fields a b. (
      λ w. forward types s fields (star_arc from to round) rest now (others _ made)
          (rounds-there types s fields from to n round rest now plan.below made) ((plan.means types s fields a b).0 w),
      λ path. (plan.means types s fields a b).1
          ((rounds-back types s fields from to n round rest now plan.below made path (above n 1 plan.two (omega arith))).0 (above n 0 plan.two (omega arith))),
    );
    two = let two = plan.two in omega arith;
    below = λ x held. elim ((made x).0 held) [
      | inl there ↦ let h = plan.below x (Contains-there (star_arc from to round) rest x there) in (omega arith, omega arith)
      | inr new ↦ let h = plan.below (star_arc from to round) (Contains-here (star_arc from to round) rest) in elim new [
        | inl enter ↦ inside (n + 1) x (arc from live n) enter (omega arith, omega arith)
        | inr later ↦ elim later [
          | inl again ↦ inside (n + 1) x (arc n (along round) n) again (omega arith, omega arith)
          | inr leave ↦ inside (n + 1) x (arc n live to) leave (omega arith, omega arith)
        ]
      ]
    ];
  }

-- the whole route as the one part
pub IsPlan-whole : (whole : Route) → IsPlan whole (arc 0 (along whole) 1 ∷ []) 2
IsPlan-whole whole = record {
  means = λ types s fields a b. (
    λ w. go 0 a (arc 0 (along whole) 1) b 1 b (Contains-here (arc 0 (along whole) 1) []) refl w (stop 1 b),
    λ path. walked types s fields path refl refl,
  );
  two = omega arith;
  below = λ x held. inside 2 x (arc 0 (along whole) 1) (Contains-one (arc 0 (along whole) 1) x held) (omega arith, omega arith);
}
  where
    ended : (types : List TypeEntry) (s : StoreMap) (fields : Fields) {p : ℕ} {a : CellId} {q : ℕ} {b : CellId} →
        Path types s fields (arc 0 (along whole) 1 ∷ []) p a q b → p ≡ 1 → a ≡ b
    ended types s fields (stop p a) one = refl
    ended types s fields (go p a x b q c held at takes path) one =
        absurd (zero_one x.from (ap (λ (y : Arc). y.from) (Contains-one (arc 0 (along whole) 1) x held)) (at ∙ one))
      where
        zero_one : (m : ℕ) → m ≡ 0 → m ≡ 1 → ⊥
        zero_one m zero one = absurd (omega arith)

    walked : (types : List TypeEntry) (s : StoreMap) (fields : Fields) {p : ℕ} {a : CellId} {q : ℕ} {b : CellId} →
        Path types s fields (arc 0 (along whole) 1 ∷ []) p a q b → p ≡ 0 → q ≡ 1 → Walk types s fields whole a b
    walked types s fields (stop p a) zero one = absurd (omega arith)
    walked types s fields (go p a x b q c held at takes path) zero one =
        let same = Contains-one (arc 0 (along whole) 1) x held in
        subst (λ z. Walk types s fields whole a z) (ended types s fields path (ap (λ (y : Arc). y.to) same))
        (subst (λ (y : Arc). Takes types s fields y.label a b) same takes)

-- ---- what is added to a plan

pub step-added : (edges now : List Edge) (parts : List Part) (edge : Edge) → now ≡ edges ++ edge ∷ [] →
    Gathers (map arc_of edges ++ map part_of parts) (map arc_of now ++ map part_of parts) (λ x. x ≡ arc_of edge)
step-added edges now parts edge is =
    subst (λ arcs. Gathers (map arc_of edges ++ map part_of parts) (arcs ++ map part_of parts) (λ x. x ≡ arc_of edge))
    (sym (ap (map arc_of) is ∙ map_push arc_of edges edge))
    (Gathers-first (map arc_of edges) (map part_of parts) (arc_of edge))

pub part-added : (edges : List Edge) (parts now : List Part) (part : Part) → now ≡ parts ++ part ∷ [] →
    Gathers (map arc_of edges ++ map part_of parts) (map arc_of edges ++ map part_of now) (λ x. x ≡ part_of part)
part-added edges parts now part is =
    subst (λ arcs. Gathers (map arc_of edges ++ map part_of parts) (map arc_of edges ++ arcs) (λ x. x ≡ part_of part))
    (sym (ap (map part_of) is ∙ map_push part_of parts part))
    (Gathers-last (map part_of parts) (map arc_of edges) (part_of part))

-- ---- what takes the place of a part

pub OnOk-by : {T E : Type 0} (r : Result T E) {P Q R : Type 0} → OnOk r P → OnOk r Q → (P → Q → R) → OnOk r R
OnOk-by (Ok x) p q f = f p q
OnOk-by (Err e) p q f = tt

module _ (whole : Route) (before start : List Arc) (n : ℕ) where
  pub both-in : (from to between m : ℕ) (first second : Route) (mid now : List Arc) → IsPlan whole (then_arc from to first second ∷ before) n →
      between ≡ n → start ≡ before → Gathers start mid (λ x. x ≡ arc from (along first) between) →
      Gathers mid now (λ x. x ≡ arc between (along second) to) → m ≡ n + 1 → IsPlan whole now m
  both-in from to between m first second mid now plan fresh same one two more =
      subst (λ k. IsPlan whole now k) (sym more)
      (IsPlan-both whole before now n from to first second plan
      (subst (λ k. Gathers before now (λ x. (x ≡ arc from (along first) k) ⊎ (x ≡ arc k (along second) to))) fresh
      (subst (λ l. Gathers l now (λ x. (x ≡ arc from (along first) between) ⊎ (x ≡ arc between (along second) to))) same
      (Gathers-both start mid now _ _ one two))))

  pub rounds-in : (from to turn m : ℕ) (round : Route) (entered gone now : List Arc) → IsPlan whole (star_arc from to round ∷ before) n →
      turn ≡ n → start ≡ before → Gathers start entered (λ x. x ≡ arc from live turn) →
      Gathers entered gone (λ x. x ≡ arc turn (along round) turn) → Gathers gone now (λ x. x ≡ arc turn live to) → m ≡ n + 1 → IsPlan whole now m
  rounds-in from to turn m round entered gone now plan fresh same one two three more =
      subst (λ k. IsPlan whole now k) (sym more)
      (IsPlan-rounds whole before now n from to round plan
      (subst (λ k. Gathers before now (λ x. (x ≡ arc from live k) ⊎ ((x ≡ arc k (along round) k) ⊎ (x ≡ arc k live to)))) fresh
      (subst (λ l. Gathers l now (λ x. (x ≡ arc from live turn) ⊎ ((x ≡ arc turn (along round) turn) ⊎ (x ≡ arc turn live to)))) same
      (Gathers-both start entered now _ _ one (Gathers-both entered gone now _ _ two three)))))

-- ---- from the plan to the machine

pub IsPlan-alike : (whole : Route) (one other : List Arc) (n : ℕ) → ((x : Arc) → Contains one x ↔ Contains other x) → IsPlan whole one n → IsPlan whole other n
IsPlan-alike whole one other n alike plan = record {
  means = λ types s fields a b. (
    λ w. Path-more types s fields one other (λ x. (alike x).0) ((plan.means types s fields a b).0 w),
    λ path. (plan.means types s fields a b).1 (Path-more types s fields other one (λ x. (alike x).1) path),
  );
  two = plan.two;
  below = λ x held. plan.below x ((alike x).1 held);
}

-- the last part taken off
pub IsPlan-popped : (whole : Route) (edges : List Edge) (parts rest : List Part) (part : Part) (n : ℕ) → parts ≡ rest ++ part ∷ [] →
    IsPlan whole (map arc_of edges ++ map part_of parts) n → IsPlan whole (part_of part ∷ (map arc_of edges ++ map part_of rest)) n
IsPlan-popped whole edges parts rest part n is plan = IsPlan-alike whole _ _ n alike plan
  where
    alike : (x : Arc) → Contains (map arc_of edges ++ map part_of parts) x ↔ Contains (part_of part ∷ (map arc_of edges ++ map part_of rest)) x
    alike x = (
      λ h. elim ((part-added edges rest parts part is x).0 h) [
        | inl there ↦ Contains-there (part_of part) (map arc_of edges ++ map part_of rest) x there
        | inr same ↦ subst (λ y. Contains (part_of part ∷ (map arc_of edges ++ map part_of rest)) y) (sym same)
            (Contains-here (part_of part) (map arc_of edges ++ map part_of rest))
      ],
      λ h. elim (Contains-cases (part_of part) (map arc_of edges ++ map part_of rest) x h) [
        | inl same ↦ (part-added edges rest parts part is x).1 (inr same)
        | inr there ↦ (part-added edges rest parts part is x).1 (inl there)
      ],
    )

-- no part is left, and the edges are put in order
pub Means-sorted : (whole : Route) (edges sorted : List Edge) (parts : List Part) (n : ℕ) → parts ≡ [] → IsPermutation edges sorted →
    IsPlan whole (map arc_of edges ++ map part_of parts) n → Means whole (map arc_of sorted)
Means-sorted whole edges sorted parts n none order plan = (IsPlan-alike whole _ _ n alike plan).means
  where
    moved : (one other : List Edge) → IsPermutation one other → (x : Arc) → Contains (map arc_of one) x → Contains (map arc_of other) x
    moved one other p x h =
        let m = map-Contains arc_of one x h in
        subst (λ y. Contains (map arc_of other) y) m.2 (Contains-map arc_of other m.0 (Contains-permutation one other m.0 p m.1))

    alike : (x : Arc) → Contains (map arc_of edges ++ map part_of parts) x ↔ Contains (map arc_of sorted) x
    alike x = (
      λ h. elim (Contains-append_cases (map arc_of edges) (map part_of parts) x h) [
        | inl front ↦ moved edges sorted order x front
        | inr back ↦ absurd (Contains-none x (subst (λ l. Contains (map part_of l) x) none back))
      ],
      λ h. Contains-append_left (map arc_of edges) (map part_of parts) x (moved sorted edges (IsPermutation-sym edges sorted order) x h),
    )

-- the ways from one place, by the edges from it
pub HasAll-edges : (edges part : List Edge) (p : ℕ) → HasAll part (λ e. Contains edges e × (e.from ≡ p)) →
    HasAll (map arc_of part) (λ x. Contains (map arc_of edges) x × (x.from ≡ p))
HasAll-edges edges part p all x = (
  λ h.
      let m = map-Contains arc_of part x h in
      let k = (all m.0).0 m.1 in
      (subst (λ y. Contains (map arc_of edges) y) m.2 (Contains-map arc_of edges m.0 k.0), sym (ap (λ (y : Arc). y.from) m.2) ∙ k.1),
  λ h.
      let m = map-Contains arc_of edges x h.0 in
      subst (λ y. Contains (map arc_of part) y) m.2 (Contains-map arc_of part m.0 ((all m.0).1 (m.1, ap (λ (y : Arc). y.from) m.2 ∙ h.1))),
)
