-- On a machine that has too little room for a task.
use Rattle.std.proofs.Common.{◌≡◌, ℕ, ◌+◌, ◌<◌, List, [], ◌∷◌, ◌++◌, Contains, Some, slice_get, sym, subst, arith}
use Rattle.std.proofs.lemmas.List.Elements.{Contains-append_left}
use Rattle.bdd_nodes.specs.Shelf.{Contents, limit_of}
use Rattle.gta_theory.specs.Guides.{Spaces, IsGuide}
use Rattle.gta_theory.proofs.ListsLemmas.{Contains-later}
use Rattle.gta_core.specs.Auto.{AutoView}
use Rattle.ws2s_core.specs.declared.track.Track.{Track}
use Rattle.ws2s_core.specs.declared.formula.Formula.{Formula}
use Rattle.ws2s_core.specs.declared.formula.Formula.TheVariants.{And, Ex2}
use Rattle.ws2s_core.specs.declared.node.FormulaId.{FormulaId}
use Rattle.gta_atom.specs.Atom.{IsAtom}
use Rattle.ws2s_decide.specs.declared.task.Task.{Task}
use Rattle.gta_keep.specs.Holding.{Holds, IsMinimalFor, AreMinimalFor, kept_autos, beside, HaveSum, HaveSizes}
use Rattle.ws2s_theory.specs.Peaks.{HasMinimalSize, HasProductSize, HasSubsetSize, HasPeak}
use Rattle.ws2s_theory.proofs.SizesLemmas.{HasMinimalSize-exists, HasProductSize-exists, HasSubsetSize-exists}
use Rattle.ws2s_decide.specs.Counting.{ArePast}
use Rattle.ws2s_decide.specs.Tasks.{Within, HasSum}
use Rattle.ws2s_decide.specs.Going.{moment, steps_of, NeedsMore}
use Rattle.ws2s_decide.proofs.SumsLemmas.{HasSum-exists, HaveSum-stack}
use Rattle.ws2s_decide.proofs.StepsLemmas.{formula-at, HasPeak-atom}
use Rattle.ws2s_decide.proofs.RestsLemmas.{Holds-swap}
use Rattle.ws2s_decide.proofs.LastLemmas.{last-two, last-one}

module _ (g : Spaces) (guide : IsGuide g) (formulas : List Formula) where
  module _ (shelf : Contents) (sizes : HaveSizes g shelf) where
    -- those that wait have the sum of Sizes that their formulas have
    waiting-sum : (autos : List AutoView) (others : List AutoView) (stack : List Formula) (s : ℕ) → Holds g shelf (autos ++ others) →
        AreMinimalFor g shelf autos stack → HasSum g stack s → HaveSum g shelf autos s
    waiting-sum autos others stack s holds = HaveSum-stack g guide shelf sizes autos stack s
        (λ a there. holds.each a (Contains-append_left autos others a there))

    -- those that wait have Sizes above the limit
    pub needs-past : (tasks : List Task) (autos : List AutoView) (kept : List (FormulaId × AutoView)) (limit : ℕ) → limit ≡ limit_of shelf →
        ArePast autos limit → NeedsMore g formulas (moment shelf tasks autos kept)
    needs-past tasks autos kept limit is past stack out n stands fits =
        let sum = HasSum-exists g guide stack in
        let have = waiting-sum autos (kept_autos kept) stack sum.0 (stands.rests).holds stands.minimal sum.1 in
        let more = past g shelf sum.0 have in
        let le = fits.waiting sum.0 sum.1 in
        omega (arith, is, more, le)

    -- an atom has no room
    pub needs-atom : (f : Formula) (id : FormulaId) (tasks : List Task) (autos : List AutoView) (kept : List (FormulaId × AutoView)) →
        IsAtom f → slice_get formulas id.0 ≡ Some f →
        ((others : List AutoView) (s n : ℕ) → Holds g shelf (beside [] others kept) → HaveSum g shelf others s → HasMinimalSize g f n →
        limit_of shelf < s + n) →
        NeedsMore g formulas (moment shelf (Task.Visit id ∷ tasks) autos kept)
    needs-atom f id tasks autos kept atom there limit stack out n stands fits =
        let sum = HasSum-exists g guide stack in
        let size = HasMinimalSize-exists g guide f in
        let peak = subst (λ (w : Formula). HasPeak g w size.0) (sym (formula-at formulas id.0 f there)) (HasPeak-atom g f atom size.0 size.1) in
        let le = (fits.within).0 sum.0 size.0 sum.1 peak in
        let lt = limit autos sum.0 size.0 (stands.rests).holds
        (waiting-sum autos (kept_autos kept) stack sum.0 (stands.rests).holds stands.minimal sum.1) size.1 in
        omega (arith, le, lt)

    -- a conjunction has no room
    pub needs-conjoin : (id : FormulaId) (tasks : List Task) (a b : AutoView) (rest : List AutoView) (kept : List (FormulaId × AutoView)) →
        ((others : List AutoView) (f h : Formula) (s n m p r : ℕ) → Holds g shelf (beside (a ∷ b ∷ []) others kept) →
        IsMinimalFor g shelf a f → IsMinimalFor g shelf b h → HaveSum g shelf others s →
        HasMinimalSize g f n → HasMinimalSize g h m → HasProductSize g f h p → HasMinimalSize g (And f h) r →
        limit_of shelf < s + (n + m + p + r)) →
        NeedsMore g formulas (moment shelf (Task.Conjoin id ∷ tasks) (b ∷ a ∷ rest) kept)
    needs-conjoin id tasks a b rest kept limit stack out n stands fits =
        let last = last-two g formulas shelf id tasks a b rest stack out stands.minimal stands.makes in
        let holds = Holds-swap g shelf a b (rest ++ kept_autos kept) (stands.rests).holds in
        let sum = HasSum-exists g guide last.below in
        let first = HasMinimalSize-exists g guide last.left in
        let second = HasMinimalSize-exists g guide last.right in
        let product = HasProductSize-exists g guide last.left last.right in
        let result = HasMinimalSize-exists g guide (And last.left last.right) in
        let within' = subst (λ (s : List Formula). Within g n (steps_of formulas (Task.Conjoin id ∷ tasks)) s) last.is fits.within in
        let le = within'.0 sum.0 first.0 second.0 product.0 result.0 sum.1 first.1 second.1 product.1 result.1 in
        let each = λ (x : AutoView) (there : Contains rest x). holds.each x
        (Contains-later a x (b ∷ rest ++ kept_autos kept) (Contains-later b x (rest ++ kept_autos kept)
        (Contains-append_left rest (kept_autos kept) x there))) in
        let have = HaveSum-stack g guide shelf sizes rest last.below sum.0 each last.others sum.1 in
        let lt = limit rest last.left last.right sum.0 first.0 second.0 product.0 result.0 holds last.of_left last.of_right have
        first.1 second.1 product.1 result.1 in
        omega (arith, le, lt)

    -- a quantifier has no room
    pub needs-quantify : (t : Track) (id : FormulaId) (tasks : List Task) (a : AutoView) (rest : List AutoView)
        (kept : List (FormulaId × AutoView)) →
        ((others : List AutoView) (f : Formula) (s n p r : ℕ) → Holds g shelf (beside (a ∷ []) others kept) →
        IsMinimalFor g shelf a f → HaveSum g shelf others s →
        HasMinimalSize g f n → HasSubsetSize g t f p → HasMinimalSize g (Ex2 t f) r → limit_of shelf < s + (n + p + r)) →
        NeedsMore g formulas (moment shelf (Task.Quantify t id ∷ tasks) (a ∷ rest) kept)
    needs-quantify t id tasks a rest kept limit stack out n stands fits =
        let last = last-one g formulas shelf t id tasks a rest stack out stands.minimal stands.makes in
        let holds = (stands.rests).holds in
        let sum = HasSum-exists g guide last.below in
        let part = HasMinimalSize-exists g guide last.part in
        let subset = HasSubsetSize-exists g guide t last.part in
        let result = HasMinimalSize-exists g guide (Ex2 t last.part) in
        let within' = subst (λ (s : List Formula). Within g n (steps_of formulas (Task.Quantify t id ∷ tasks)) s) last.is fits.within in
        let le = within'.0 sum.0 part.0 subset.0 result.0 sum.1 part.1 subset.1 result.1 in
        let each = λ (x : AutoView) (there : Contains rest x). holds.each x
        (Contains-later a x (rest ++ kept_autos kept) (Contains-append_left rest (kept_autos kept) x there)) in
        let have = HaveSum-stack g guide shelf sizes rest last.below sum.0 each last.others sum.1 in
        let lt = limit rest last.part sum.0 part.0 subset.0 result.0 holds last.of_part have part.1 subset.1 result.1 in
        omega (arith, le, lt)
