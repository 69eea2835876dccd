-- Rows of numbers.
use Rattle.std.proofs.Common.{◌≡◌, ℕ, suc, zero, ◌+◌, ◌<◌, List, [], ◌∷◌, length, map, drop, Some, inl, inr}
use Rattle.std.proofs.Common.{sym, ◌∙◌, ap, refl, subst, arith}
use Rattle.std.specs.Prelude.{slice_get, slice_index, slice_set}
use Rattle.std.proofs.lemmas.List.{get_or-set_same, get_or-set_other, length-set, at_drop_more, at_drop_all}
use Rattle.std.proofs.lemmas.Bool.{cases_lt, cases_eq}
use Rattle.std.proofs.lemmas.Option.{slice_get_within}
use Rattle.bdd_nodes.specs.declared.node_ref.NodeRef.{NodeRef}
use Rattle.gta_reach.specs.declared.form.FormSpace.{FormSpace}
use Rattle.gta_reach.specs.declared.sides.Side.{Side}
use Rattle.gta_reach.specs.declared.sides.Side.TheVariants.{Left, Right}
use Rattle.gta_classes.specs.Chosen.{IsAmong}
use Rattle.gta_refine.specs.Numbered.{number_at}
use Rattle.gta_refine.specs.Firsts.{hash_more, hash_from, AreFirsts, HasFirst, GrowBy}
use Rattle.gta_refine.specs.Rows.{row_of, id_of, AreIds}
use Rattle.gta_reach.specs.Sides.{kinds_in, cell_at}
use Rattle.gta_reach.proofs.ReachLemmas.{cell-same}
use Rattle.gta_refine.proofs.FirstsLemmas.{HasFirst-grown, HasFirst-one}

-- ---- the hash of a row

-- the hash of the first numbers goes on with the others
abbrev pub IsHashed : FormSpace → Side → List NodeRef → ℕ → List ℕ → ℕ → ℕ → Type 0
IsHashed space side numbers own beside below hash =
    hash_from hash (row_of space side numbers (drop below beside) own) ≡ hash_from 0 (row_of space side numbers beside own)

pub IsHashed-more : (space : FormSpace) (side : Side) (numbers : List NodeRef) (own : ℕ) (beside : List ℕ) (below hash : ℕ) (number : NodeRef)
    (next : ℕ) → IsHashed space side numbers own beside below hash → below < length beside →
    number ≡ number_at numbers (cell_at space side own (slice_index beside below)) → next ≡ hash_more hash number →
    IsHashed space side numbers own beside (below + 1) next
IsHashed-more space side numbers own beside below hash number next so_far inside is_number is_next =
    let more : hash_from hash (row_of space side numbers (drop below beside) own)
    ≡ hash_from (hash_more hash (number_at numbers (cell_at space side own (slice_index beside below))))
    (row_of space side numbers (drop (below + 1) beside) own) =
    at_drop_more (λ (others : List ℕ). hash_from hash (row_of space side numbers others own)) beside below 0 inside in
    ap (λ (h : ℕ). hash_from h (row_of space side numbers (drop (below + 1) beside) own)) (is_next ∙ ap (hash_more hash) is_number)
    ∙ sym more ∙ so_far

pub IsHashed-all : (space : FormSpace) (side : Side) (numbers : List NodeRef) (own : ℕ) (beside : List ℕ) (below hash : ℕ) →
    IsHashed space side numbers own beside below hash → below ≡ length beside → hash ≡ hash_from 0 (row_of space side numbers beside own)
IsHashed-all space side numbers own beside below hash all end =
    let none : hash_from hash (row_of space side numbers (drop below beside) own) ≡ hash =
    at_drop_all (λ (others : List ℕ). hash_from hash (row_of space side numbers others own)) beside below (omega arith) in
    sym none ∙ all

-- ---- equal rows

pub same_word : (a b : NodeRef) → a.word ≡ b.word → a ≡ b
same_word a b e = ap (λ (w : ℕ). let r : NodeRef = record { word = w } in r) e

-- the first numbers of both rows are the same
abbrev pub SameBelow : FormSpace → Side → List NodeRef → ℕ → ℕ → List ℕ → ℕ → Type 0
SameBelow space side numbers one two beside below = (k : ℕ) → k < below →
    number_at numbers (cell_at space side one (slice_index beside k)) ≡ number_at numbers (cell_at space side two (slice_index beside k))

pub SameBelow-more : (space : FormSpace) (side : Side) (numbers : List NodeRef) (one two : ℕ) (beside : List ℕ) (below : ℕ) →
    SameBelow space side numbers one two beside below →
    number_at numbers (cell_at space side one (slice_index beside below)) ≡ number_at numbers (cell_at space side two (slice_index beside below)) →
    SameBelow space side numbers one two beside (below + 1)
SameBelow-more space side numbers one two beside below so_far here k k_in = elim (cases_lt k below) [
  | inl before ↦ so_far k before
  | inr last ↦
      let is : k ≡ below = omega arith in
      subst (λ (j : ℕ). number_at numbers (cell_at space side one (slice_index beside j))
      ≡ number_at numbers (cell_at space side two (slice_index beside j))) (sym is) here
]

map-each : (f h : ℕ → NodeRef) (xs : List ℕ) → ((k : ℕ) → k < length xs → f (slice_index xs k) ≡ h (slice_index xs k)) → map f xs ≡ map h xs
map-each f h [] same = refl
map-each f h (x ∷ xs) same =
    ap (λ (r : NodeRef). r ∷ map f xs) (same 0 (omega arith))
    ∙ ap (λ (rs : List NodeRef). h x ∷ rs) (map-each f h xs (λ k k_in. same (suc k) (omega arith)))

map-at : (f h : ℕ → NodeRef) (xs : List ℕ) (k : ℕ) → k < length xs → map f xs ≡ map h xs → f (slice_index xs k) ≡ h (slice_index xs k)
map-at f h [] k inside same = absurd (omega arith)
map-at f h (x ∷ xs) zero inside same = let e : f x ∷ map f xs ≡ h x ∷ map h xs = same in let r : f x ≡ h x = cc in r
map-at f h (x ∷ xs) (suc k) inside same =
    map-at f h xs k (omega arith) (let e : f x ∷ map f xs ≡ h x ∷ map h xs = same in cc)

pub rows-same : (space : FormSpace) (side : Side) (numbers : List NodeRef) (one two : ℕ) (beside : List ℕ) (below : ℕ) →
    SameBelow space side numbers one two beside below → below ≡ length beside →
    row_of space side numbers beside one ≡ row_of space side numbers beside two
rows-same space side numbers one two beside below same end =
    map-each (λ other. number_at numbers (cell_at space side one other)) (λ other. number_at numbers (cell_at space side two other)) beside
    (λ k k_in. same k (omega arith))

pub rows-apart : (space : FormSpace) (side : Side) (numbers : List NodeRef) (one two : ℕ) (beside : List ℕ) (k : ℕ) → k < length beside →
    row_of space side numbers beside one ≡ row_of space side numbers beside two →
    number_at numbers (cell_at space side one (slice_index beside k)) ≡ number_at numbers (cell_at space side two (slice_index beside k))
rows-apart space side numbers one two beside k k_in same =
    map-at (λ other. number_at numbers (cell_at space side one other)) (λ other. number_at numbers (cell_at space side two other)) beside k k_in same

-- ---- classes that are the same

-- they have the same row
map-same : (f h : ℕ → NodeRef) → ((k : ℕ) → f k ≡ h k) → (xs : List ℕ) → map f xs ≡ map h xs
map-same f h same [] = refl
map-same f h same (x ∷ xs) = ap (λ (r : NodeRef). r ∷ map f xs) (same x) ∙ ap (λ (rs : List NodeRef). h x ∷ rs) (map-same f h same xs)

pub cell_at-same : (space : FormSpace) (side : Side) (p q other : ℕ) →
    slice_index (kinds_in space side) p ≡ slice_index (kinds_in space side) q → cell_at space side p other ≡ cell_at space side q other
cell_at-same space Left p q other same = cell-same space p q other other same refl
cell_at-same space Right p q other same = cell-same space other other p q refl same

pub row_of-same : (space : FormSpace) (side : Side) (numbers : List NodeRef) (beside : List ℕ) (p q : ℕ) →
    slice_index (kinds_in space side) p ≡ slice_index (kinds_in space side) q →
    row_of space side numbers beside p ≡ row_of space side numbers beside q
row_of-same space side numbers beside p q same =
    map-same (λ other. number_at numbers (cell_at space side p other)) (λ other. number_at numbers (cell_at space side q other))
    (λ other. ap (number_at numbers) (cell_at-same space side p q other same)) beside

-- the numbers so far
pub record IdsBelow (space : FormSpace) (side : Side) (numbers : List NodeRef) (own beside ids states buckets chain : List ℕ) (below : ℕ) : Type 0 where
  pub many : (i : ℕ) → slice_index (kinds_in space side) i < length ids
  pub are_firsts : AreFirsts (row_of space side numbers beside) (length own) states buckets chain
  pub among : (i : ℕ) → i < length states → IsAmong own (slice_index states i)
  pub each : (k p : ℕ) → k < below → slice_get own k ≡ Some p → HasFirst (row_of space side numbers beside) states p (id_of space side ids p)

pub IdsBelow-none : (space : FormSpace) (side : Side) (numbers : List NodeRef) (own beside ids states buckets chain : List ℕ) →
    ((i : ℕ) → slice_index (kinds_in space side) i < length ids) → AreFirsts (row_of space side numbers beside) (length own) states buckets chain →
    states ≡ [] → IdsBelow space side numbers own beside ids states buckets chain 0
IdsBelow-none space side numbers own beside ids states buckets chain many firsts none =
    let e = ap (λ (xs : List ℕ). length xs) none in
    record {
      many = many;
      are_firsts = firsts;
      among = λ i i_in. absurd (omega arith);
      each = λ k p inside there. absurd (omega arith);
    }

module _ (space : FormSpace) (side : Side) (numbers : List NodeRef) (own beside ids states buckets chain : List ℕ) (below state : ℕ)
    (so_far : IdsBelow space side numbers own beside ids states buckets chain below) (at : slice_get own below ≡ Some state)
    (first : ℕ) (longer fuller linked : List ℕ) (has : HasFirst (row_of space side numbers beside) longer state first)
    (grow : GrowBy state states longer) (firsts_after : AreFirsts (row_of space side numbers beside) (length own) longer fuller linked) where
  new_ids : List ℕ
  new_ids = slice_set ids (slice_index (kinds_in space side) state) first

  HasFirst-state : (p : ℕ) → slice_index (kinds_in space side) p ≡ slice_index (kinds_in space side) state →
      HasFirst (row_of space side numbers beside) longer p (id_of space side new_ids p)
  unfolding new_ids
  HasFirst-state p same =
      let id : id_of space side (slice_set ids (slice_index (kinds_in space side) state) first) p ≡ first =
      ap (slice_index (slice_set ids (slice_index (kinds_in space side) state) first)) same
      ∙ get_or-set_same ids (slice_index (kinds_in space side) state) first 0 (so_far.many state) in
      let is : HasFirst (row_of space side numbers beside) longer p first = record {
        place = has.place;
        within = has.within;
        is = has.is;
        same = has.same ∙ row_of-same space side numbers beside state p (sym same);
      } in
      subst (λ (n : ℕ). HasFirst (row_of space side numbers beside) longer p n) (sym id) is

  HasFirst-other : (p : ℕ) → (slice_index (kinds_in space side) p ≡ slice_index (kinds_in space side) state → ⊥) →
      HasFirst (row_of space side numbers beside) states p (id_of space side ids p) →
      HasFirst (row_of space side numbers beside) longer p (id_of space side new_ids p)
  unfolding new_ids
  HasFirst-other p other was =
      subst (λ (n : ℕ). HasFirst (row_of space side numbers beside) longer p n)
      (sym (get_or-set_other ids (slice_index (kinds_in space side) state) (slice_index (kinds_in space side) p) first 0 other))
      (HasFirst-grown (row_of space side numbers beside) p (id_of space side ids p) state states longer grow was)

  pub IdsBelow-push : IdsBelow space side numbers own beside (slice_set ids (slice_index (kinds_in space side) state) first) longer fuller linked
      (below + 1)
  unfolding new_ids
  IdsBelow-push = record {
    many = λ i. let b = so_far.many i in let e = length-set ids (slice_index (kinds_in space side) state) first in omega arith;
    are_firsts = firsts_after;
    among = λ i i_in. elim (cases_lt i (length states)) [
      | inl before ↦ subst (IsAmong own) (sym (grow.kept i before)) (so_far.among i before)
      | inr past ↦
          let is : IsAmong own state = record { place = below; there = at } in
          subst (IsAmong own) (sym (grow.more i past i_in)) is
    ];
    each = λ k p inside there. elim (cases_eq (slice_index (kinds_in space side) p) (slice_index (kinds_in space side) state)) [
      | inl same ↦ HasFirst-state p same
      | inr other ↦ elim (cases_lt k below) [
        | inl before ↦ HasFirst-other p other (so_far.each k p before there)
        | inr last ↦
            let is : k ≡ below = omega arith in
            let e : Some p ≡ Some state = sym there ∙ ap (slice_get own) is ∙ at in
            let same : p ≡ state = cc in
            absurd (other (ap (slice_index (kinds_in space side)) same))
      ]
    ];
  }

pub AreIds-all : (space : FormSpace) (side : Side) (numbers : List NodeRef) (own beside ids states buckets chain : List ℕ) →
    IdsBelow space side numbers own beside ids states buckets chain (length own) → AreIds space side numbers own beside ids
AreIds-all space side numbers own beside ids states buckets chain all =
    let has : (p : ℕ) → IsAmong own p → HasFirst (row_of space side numbers beside) states p (id_of space side ids p) = λ p among.
    all.each among.place p (slice_get_within own among.place p among.there) among.there in
    record {
      same = λ p q p_in q_in same.
          let one = has p p_in in
          let two = has q q_in in
          sym one.same ∙ ap (row_of space side numbers beside) same ∙ two.same;
      apart = λ p q p_in q_in same.
          HasFirst-one (row_of space side numbers beside) (length own) states buckets chain p q (id_of space side ids p) (id_of space side ids q)
          all.are_firsts (has p p_in) (has q q_in) same;
    }
