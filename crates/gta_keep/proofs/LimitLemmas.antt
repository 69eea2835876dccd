-- On a builder's second limit: in the room that is left it is licensed by the Sizes of what waits and of what is built.
use Rattle.std.proofs.Common.{ℕ, ◌+◌, ◌<◌, ◌≤◌, Bool, IsTrue, nat_lt, List, [], ◌∷◌, Contains, refl, sym, subst, arith}
use Rattle.bdd_nodes.specs.Shelf.{Contents, count_of, limit_of}
use Rattle.gta_theory.specs.Guides.{Spaces, IsGuide}
use Rattle.gta_theory.specs.Automata.{Automaton, Has}
use Rattle.gta_theory.specs.Constructions.{IsProduct, IsSubset}
use Rattle.gta_theory.specs.Sizes.{SizeOf}
use Rattle.gta_core.specs.Auto.{AutoView, automaton_of, IsAuto}
use Rattle.gta_core.specs.Changes.{KeepsTable}
use Rattle.gta_core.proofs.AutoLemmas.{automaton_of-kept}
use Rattle.gta_minimise.specs.Minimised.{HasMinimisedSize}
use Rattle.ws2s_core.specs.declared.track.Track.{Track}
use Rattle.ws2s_core.specs.declared.formula.Formula.{Formula}
use Rattle.ws2s_core.specs.Recognising.{Recognises}
use Rattle.ws2s_theory.specs.Peaks.{HasMinimalSize}
use Rattle.gta_keep.specs.Holding.{Holds, HaveSum, Passes, beside}
use Rattle.gta_keep.specs.Limits.{PairsLimit, SetsLimit, MinimalLimit}
use Rattle.gta_keep.proofs.CopyLemmas.{IsMinimalFor-kept}
use Rattle.gta_keep.proofs.PassesLemmas.{Entries, Passes-both}
use Rattle.gta_keep.proofs.SumLemmas.{HaveSum-kept, HaveSum-more, SizeOf-minimal}
use Rattle.gta_keep.proofs.BuildLemmas.{SizedProduct-of, SizedSubset-of, HasMinimisedSize-of}

-- what each builder's limit says
abbrev pub ProductLimit : Spaces → Contents → AutoView → AutoView → Type 0
ProductLimit g shelf a b = (C : Automaton ℕ) (states : ℕ → ℕ → Bool) (pair : ℕ → ℕ → ℕ × ℕ) (size : ℕ) →
    IsProduct g (automaton_of shelf a) (automaton_of shelf b) C (Has states) pair →
    SizeOf g C (Has states) size → limit_of shelf < count_of shelf + size

abbrev pub SubsetLimit : Spaces → Contents → AutoView → ℕ → Type 0
SubsetLimit g shelf a t = (B : Automaton ℕ) (states : ℕ → ℕ → Bool) (member : ℕ → ℕ → ℕ → Bool) (size : ℕ) →
    IsSubset g (automaton_of shelf a) t B (Has states) (λ s x q. IsTrue (member s x q)) →
    SizeOf g B (Has states) size → limit_of shelf < count_of shelf + size

abbrev pub MinimisedLimit : Spaces → Contents → AutoView → Type 0
MinimisedLimit g shelf a = (n : ℕ) → HasMinimisedSize g (automaton_of shelf a) n → limit_of shelf < count_of shelf + n

abbrev pub AtomLimit : Spaces → Contents → Formula → Type 0
AtomLimit g shelf f = (n : ℕ) → HasMinimalSize g f n → limit_of shelf < count_of shelf + n

-- the room that is left is no more than the sum of Sizes of what waits
abbrev pub LeavesRoom : Spaces → Contents → Contents → Entries → Type 0
LeavesRoom g old new kept = (others : List AutoView) (sum : ℕ) → Holds g old (beside [] others kept) → HaveSum g old others sum →
    count_of new ≤ sum

-- from the shelf at the call over the first try to the room that is left
module _ (g : Spaces) (was made left : Contents) (before after : Entries) (first : Passes g was made [] [] before before)
    (then : Passes g made left [] [] before after) (room : LeavesRoom g made left before) where
  all : Passes g was left [] [] before after
  all = Passes-both g was made left [] [] [] before before after first then

  room_left : (waits : List AutoView) (sum : ℕ) → Holds g was (beside [] waits before) → HaveSum g was waits sum → count_of left ≤ sum
  room_left waits sum holds have =
      room waits sum (first.holds waits holds) (HaveSum-kept g was made waits sum (λ a there. first.others waits a holds there) have)

  pub limit-atom : (f : Formula) → AtomLimit g left f → (others : List AutoView) (s n : ℕ) → Holds g was (beside [] others before) →
      HaveSum g was others s → HasMinimalSize g f n → limit_of was < s + n
  limit-atom f limit others s n holds have has =
      (let lt = limit n has in let le = room_left others s holds have in let same = all.limit in omega (arith, lt, le, same))

  pub limit-minimal : (a : AutoView) → MinimisedLimit g left a → MinimalLimit g was a before
  limit-minimal a limit others f s n r holds recognises have size has =
      let waits : List AutoView = a ∷ others in
      let here : Contains waits a = (0, omega arith, refl) in
      let keeps : KeepsTable was left a.table = all.others waits a holds here in
      let auto : IsAuto g was a = holds.each a (0, omega arith, refl) in
      let sum = HaveSum-more g was a others n s auto size have in
      let now : Recognises g (automaton_of left a) f =
      subst (λ (A : Automaton ℕ). Recognises g A f) (sym (automaton_of-kept was left a keeps)) recognises in
      let lt = limit r (HasMinimisedSize-of g (automaton_of left a) f now r has) in
      let le = room_left waits (n + s) holds sum in
      let same = all.limit in
      omega (arith, lt, le, same)

  pub limit-sets : IsGuide g → (a : AutoView) (t : Track) → SubsetLimit g left a t.0 → SetsLimit g was a t before
  limit-sets guide a t limit others f s n p holds minimal have of_a of_sets =
      let waits : List AutoView = a ∷ others in
      let here : Contains waits a = (0, omega arith, refl) in
      let keeps : KeepsTable was left a.table = all.others waits a holds here in
      let auto : IsAuto g was a = holds.each a (0, omega arith, refl) in
      let sum = HaveSum-more g was a others n s auto (SizeOf-minimal g guide was holds.is_shelf a f n minimal of_a) have in
      let after_holds : Holds g left (beside [] waits after) = all.holds waits holds in
      let sized = SizedSubset-of g guide left after_holds.is_shelf a (after_holds.each a (0, omega arith, refl)) t f
      (IsMinimalFor-kept g was left a f keeps minimal) p of_sets in
      let lt = limit sized.subset (λ s q. nat_lt q (sized.count s)) sized.member p sized.is_subset sized.is_size in
      let le = room_left waits (n + s) holds sum in
      let same = all.limit in
      omega (arith, lt, le, same)

  pub limit-pairs : IsGuide g → (a b : AutoView) → ProductLimit g left a b → PairsLimit g was a b before
  limit-pairs guide a b limit others f h s n m p holds of_a of_b have size_a size_b size_pairs =
      let waits : List AutoView = a ∷ b ∷ others in
      let keeps_a : KeepsTable was left a.table = all.others waits a holds (0, omega arith, refl) in
      let keeps_b : KeepsTable was left b.table = all.others waits b holds (1, omega arith, refl) in
      let sum_b = HaveSum-more g was b others m s (holds.each b (1, omega arith, refl))
      (SizeOf-minimal g guide was holds.is_shelf b h m of_b size_b) have in
      let sum = HaveSum-more g was a (b ∷ others) n (m + s) (holds.each a (0, omega arith, refl))
      (SizeOf-minimal g guide was holds.is_shelf a f n of_a size_a) sum_b in
      let after_holds : Holds g left (beside [] waits after) = all.holds waits holds in
      let sized = SizedProduct-of g guide left after_holds.is_shelf a b (after_holds.each a (0, omega arith, refl))
      (after_holds.each b (1, omega arith, refl)) f h
      (IsMinimalFor-kept g was left a f keeps_a of_a) (IsMinimalFor-kept g was left b h keeps_b of_b) p size_pairs in
      let lt = limit sized.product (λ s q. nat_lt q (sized.count s)) sized.pair p sized.is_product sized.is_size in
      let le = room_left waits (n + (m + s)) holds sum in
      let same = all.limit in
      omega (arith, lt, le, same)
