-- How many atoms and how many `new` stand in a code are as many as stand on its flow.
use Rattle.std.proofs.Common.{◌≡◌, ℕ, ◌+◌, List, [], ◌∷◌, map, refl, sym, ap, ap₂, ◌∙◌, arith}
use Rattle.std.specs.List.{sum_by}
use Rattle.std.proofs.lemmas.List.Sums.{sum_by-cons}
use Rattle.store_logic.specs.declared.act.Act.{Act}
use Rattle.store_logic.specs.declared.cond.Cond.{Cond}
use Rattle.store_exec.specs.declared.code.Item.{Item}
use Rattle.store_exec.specs.declared.code.Item.TheVariants as item
use Rattle.store_exec.specs.declared.code.Item.TheVariants.{rolls-Do, rolls-If}
use Rattle.store_exec.specs.declared.code.Item.TheOpen.{Item-F}
use Rattle.store_exec.specs.declared.code.Item.TheFolds.{fold-roll-Item}
use Rattle.store_exec.specs.declared.code.Code.{Code, roll-Code, roll-out-Code, out-Code}
use Rattle.store_exec.specs.declared.code.Tail.{Tail}
use Rattle.store_exec.specs.declared.code.Tail.TheVariants as tail
use Rattle.store_exec.specs.declared.code.Tail.TheVariants.{rolls-Cut, rolls-Branch}
use Rattle.store_exec.specs.declared.code.Tail.TheOpen.{Tail-F}
use Rattle.store_exec.specs.declared.code.Tail.TheFolds.{fold-Tail, fold-roll-Tail, fold-Code, fold-roll-Code}
use Rattle.store_exec.specs.Fits.{news_of_item, news_of_tail, news_of_code}
use Rattle.hoare_split.specs.declared.point.Point.{Point}
use Rattle.hoare_split.specs.Flows.{Flow, ends, does, branches, place_among, behind, code_in, code_of, points_in, reached_by}
use Rattle.hoare_split.specs.Counts.{atoms_node, atoms_of_item, atoms_of_tail, atoms_of_code}
use Rattle.hoare_split.specs.Measures.{atoms_on, news_on}

-- ---- items

sum-each : {X : Type 0} (f : X → ℕ) (xs : List X) → sum_by (λ n. n) (map f xs) ≡ sum_by f xs
sum-each f [] = refl
sum-each f (x ∷ xs) = sum_by-cons (λ n. n) (f x) (map f xs) ∙ ap (λ (n : ℕ). f x + n) (sum-each f xs) ∙ sym (sum_by-cons f x xs)

pub atoms-Do : (line : ℕ) (a : Act) → atoms_of_item (item.Do line a) ≡ 1
atoms-Do line a = ap atoms_of_item (sym (rolls-Do line a)) ∙ fold-roll-Item ℕ atoms_node (Item-F.Do line a)

pub atoms-If : (line : ℕ) (c : Cond) (taken other : List Item) →
    atoms_of_item (item.If line c taken other) ≡ 1 + (sum_by atoms_of_item taken + sum_by atoms_of_item other)
atoms-If line c taken other = ap atoms_of_item (sym (rolls-If line c taken other)) ∙ fold-roll-Item ℕ atoms_node (Item-F.If line c taken other)
    ∙ ap₂ (λ (m n : ℕ). 1 + (m + n)) (sum-each atoms_of_item taken) (sum-each atoms_of_item other)

-- ---- codes, of which items and tails count so

module _ (of_item : Item → ℕ) (of_tail : Tail-F ℕ ℕ → ℕ) where
  abbrev count : Code → ℕ
  count = fold-Code ℕ ℕ of_tail (λ x. sum_by of_item x.items + x.tail)

  abbrev count_behind : Tail → ℕ
  count_behind = fold-Tail ℕ ℕ of_tail (λ x. sum_by of_item x.items + x.tail)

  count-roll : (items : List Item) (t : Tail) → count (roll-Code (record { items = items; tail = t })) ≡ sum_by of_item items + count_behind t
  count-roll items t = fold-roll-Code ℕ ℕ of_tail (λ x. sum_by of_item x.items + x.tail) (record { items = items; tail = t })

  count-out : (c : Code) → count c ≡ sum_by of_item (out-Code c).items + count_behind (out-Code c).tail
  count-out c = ap count (sym (roll-out-Code c)) ∙ count-roll (out-Code c).items (out-Code c).tail

  count-does : (i : Item) (c : Code) → count (behind i c) ≡ of_item i + count c
  count-does i c =
      let whole = count-roll (i ∷ (out-Code c).items) (out-Code c).tail in
      let first = sum_by-cons of_item i (out-Code c).items in
      let rest = count-out c in
      omega (arith, whole, first, rest)

  count-ends : (place : ℕ) → count (roll-Code (record { items = []; tail = tail.Cut place })) ≡ of_tail (Tail-F.Cut place)
  count-ends place =
      let whole = count-roll [] (tail.Cut place) in
      let own : count_behind (tail.Cut place) ≡ of_tail (Tail-F.Cut place) = ap count_behind (sym (rolls-Cut place))
      ∙ fold-roll-Tail ℕ ℕ of_tail (λ x. sum_by of_item x.items + x.tail) (Tail-F.Cut place) in
      omega (arith, whole, own)

  count-branches : (line : ℕ) (c : Cond) (taken other : Code) →
      count (roll-Code (record { items = []; tail = tail.Branch line c taken other })) ≡ of_tail (Tail-F.Branch line c (count taken) (count other))
  count-branches line c taken other =
      let whole = count-roll [] (tail.Branch line c taken other) in
      let own : count_behind (tail.Branch line c taken other) ≡ of_tail (Tail-F.Branch line c (count taken) (count other))
      = ap count_behind (sym (rolls-Branch line c taken other))
      ∙ fold-roll-Tail ℕ ℕ of_tail (λ x. sum_by of_item x.items + x.tail) (Tail-F.Branch line c taken other) in
      omega (arith, whole, own)

-- ---- the code of a flow

pub atoms-code_in : (points : List Point) (flow : Flow) → atoms_of_code (code_in points flow) ≡ atoms_on flow
atoms-code_in points (ends a) = count-ends atoms_of_item atoms_of_tail (place_among points a.point)
atoms-code_in points (does i rest) = count-does atoms_of_item atoms_of_tail i (code_in points rest)
    ∙ ap (λ (n : ℕ). atoms_of_item i + n) (atoms-code_in points rest)
atoms-code_in points (branches line c taken other) = count-branches atoms_of_item atoms_of_tail line c (code_in points taken) (code_in points other)
    ∙ ap₂ (λ (m n : ℕ). 1 + (m + n)) (atoms-code_in points taken) (atoms-code_in points other)

pub news-code_in : (points : List Point) (flow : Flow) → news_of_code (code_in points flow) ≡ news_on flow
news-code_in points (ends a) = count-ends news_of_item news_of_tail (place_among points a.point)
news-code_in points (does i rest) = count-does news_of_item news_of_tail i (code_in points rest)
    ∙ ap (λ (n : ℕ). news_of_item i + n) (news-code_in points rest)
news-code_in points (branches line c taken other) = count-branches news_of_item news_of_tail line c (code_in points taken) (code_in points other)
    ∙ ap₂ (λ (m n : ℕ). m + n) (news-code_in points taken) (news-code_in points other)

pub atoms-code_of : (flow : Flow) → atoms_of_code (code_of flow) ≡ atoms_on flow
atoms-code_of flow = atoms-code_in (points_in (reached_by flow)) flow

pub news-code_of : (flow : Flow) → news_of_code (code_of flow) ≡ news_on flow
news-code_of flow = news-code_in (points_in (reached_by flow)) flow
