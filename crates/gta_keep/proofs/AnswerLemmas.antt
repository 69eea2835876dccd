-- On what was made while what it was made of is let go of, and on the two steps of a whole: a construction and the minimal
-- automaton of it.
use Rattle.std.proofs.Common.{◌≡◌, ℕ, ◌+◌, ◌<◌, Ok, Err, IfOk, OnErr, List, [], ◌∷◌, Contains, refl, sym, subst, arith}
use Rattle.std.proofs.lemmas.Bool.{cases_eq}
use Rattle.bdd_nodes.specs.Shelf.{Contents, IsShelf, limit_of}
use Rattle.gta_theory.specs.Guides.{Spaces, IsGuide}
use Rattle.gta_theory.specs.Automata.{Automaton}
use Rattle.gta_theory.specs.Numbered.{Below}
use Rattle.gta_theory.specs.Sizes.{SizeOf}
use Rattle.gta_core.specs.Auto.{AutoView, states_of, automaton_of}
use Rattle.gta_core.specs.Changes.{KeepsTable}
use Rattle.gta_core.proofs.AutoLemmas.{automaton_of-kept}
use Rattle.gta_product.specs.Product.{IsProductOf}
use Rattle.gta_project.specs.Project.{IsSubsetOf}
use Rattle.ws2s_core.specs.declared.track.Track.{Track}
use Rattle.ws2s_core.specs.declared.formula.Formula.{Formula}
use Rattle.ws2s_core.specs.declared.formula.Formula.TheVariants.{And, Ex2}
use Rattle.ws2s_core.specs.Recognising.{Recognises}
use Rattle.ws2s_core.proofs.RecognisingLemmas.{Recognises-And, Recognises-Ex2}
use Rattle.ws2s_theory.specs.Peaks.{HasMinimalSize, HasProductSize, HasSubsetSize}
use Rattle.ws2s_theory.proofs.SizesLemmas.{product-size, subset-size}
use Rattle.std.specs.Prelude.{IsTrue}
use Rattle.gta_keep.specs.Holding.{Holds, HaveSum, IsMinimalFor, Passes, beside}
use Rattle.gta_keep.specs.Limits.{MinimalLimit}
use Rattle.gta_keep.proofs.PassesLemmas.{Entries, Passes-both}
use Rattle.gta_keep.proofs.AutoSizesLemmas.{SizeOf-auto}
use Rattle.gta_keep.proofs.SumLemmas.{HaveSum-kept}
use Rattle.gta_keep.proofs.CopyLemmas.{IsMinimalFor-kept}
use Rattle.gta_keep.proofs.MadeLemmas.{Answer, made}

pub answer-minimal-stays : (g : Spaces) (was now new : Contents) (a : AutoView) (result : Answer) →
    ((b : AutoView) → Contains (made result) b → KeepsTable now new b.table) →
    IfOk result (λ m. (f : Formula) → Recognises g (automaton_of was a) f → IsMinimalFor g now m f) →
    IfOk result (λ m. (f : Formula) → Recognises g (automaton_of was a) f → IsMinimalFor g new m f)
answer-minimal-stays g was now new a (Ok m) stays is =
    λ f recognises. IsMinimalFor-kept g now new m f (stays m (0, omega arith, refl)) (is f recognises)
answer-minimal-stays g was now new a (Err stop) stays is = tt

pub answer-subset-stays : (g : Spaces) (was now new : Contents) (a : AutoView) (t : ℕ) (result : Answer) →
    ((b : AutoView) → Contains (made result) b → KeepsTable now new b.table) →
    IfOk result (λ c. IsSubsetOf g (automaton_of was a) t (automaton_of now c) (states_of c)) →
    IfOk result (λ c. IsSubsetOf g (automaton_of was a) t (automaton_of new c) (states_of c))
answer-subset-stays g was now new a t (Ok c) stays is =
    subst (λ (A : Automaton ℕ). IsSubsetOf g (automaton_of was a) t A (states_of c))
    (sym (automaton_of-kept now new c (stays c (0, omega arith, refl)))) is
answer-subset-stays g was now new a t (Err stop) stays is = tt

pub answer-product-stays : (g : Spaces) (was now new : Contents) (a b : AutoView) (result : Answer) →
    ((c : AutoView) → Contains (made result) c → KeepsTable now new c.table) →
    IfOk result (λ c. IsProductOf g (automaton_of was a) (automaton_of was b) (automaton_of now c) (states_of c)) →
    IfOk result (λ c. IsProductOf g (automaton_of was a) (automaton_of was b) (automaton_of new c) (states_of c))
answer-product-stays g was now new a b (Ok c) stays is =
    subst (λ (A : Automaton ℕ). IsProductOf g (automaton_of was a) (automaton_of was b) A (states_of c))
    (sym (automaton_of-kept now new c (stays c (0, omega arith, refl)))) is
answer-product-stays g was now new a b (Err stop) stays is = tt

-- ---- a construction and the minimal automaton of it

module _ (g : Spaces) (was now new : Contents) (xs : List AutoView) (c : AutoView) (before between after : Entries)
    (first : Passes g was now xs (c ∷ []) before between) where
  pub then-ok : (result : Answer) → IfOk result (λ m. Passes g now new (c ∷ []) (m ∷ []) between after) →
      IfOk result (λ m. Passes g was new xs (m ∷ []) before after)
  then-ok (Ok m) is = Passes-both g was now new xs (c ∷ []) (m ∷ []) before between after first is
  then-ok (Err stop) is = tt

  pub then-err : (result : Answer) → OnErr result (Passes g now new (c ∷ []) [] between after) → OnErr result (Passes g was new xs [] before after)
  then-err (Ok m) is = tt
  then-err (Err stop) is = Passes-both g was now new xs (c ∷ []) [] before between after first is

  -- the Sizes of the others, of the construction and of the result
  pub then-limit : MinimalLimit g now c between → (others : List AutoView) (f : Formula) (s n r : ℕ) → Holds g was (beside xs others before) →
      Recognises g (automaton_of now c) f → HaveSum g was others s → SizeOf g (automaton_of now c) (Below (states_of c)) n →
      HasMinimalSize g f r → limit_of was < s + (n + r)
  then-limit limit others f s n r holds recognises have size has =
      subst (λ (k : ℕ). k < s + (n + r)) first.limit
      (limit others f s n r (first.holds others holds) recognises
      (HaveSum-kept g was now others s (λ a there. first.others others a holds there) have) size has)

pub then-minimal : (g : Spaces) (now new : Contents) (c : AutoView) (f : Formula) (result : Answer) → Recognises g (automaton_of now c) f →
    IfOk result (λ m. (f : Formula) → Recognises g (automaton_of now c) f → IsMinimalFor g new m f) → IfOk result (λ m. IsMinimalFor g new m f)
then-minimal g now new c f (Ok m) recognises is = is f recognises
then-minimal g now new c f (Err stop) recognises is = tt

module _ (g : Spaces) (guide : IsGuide g) (was now : Contents) (c : AutoView) where
  pub recognises-product : (a b : AutoView) (f h : Formula) → IsMinimalFor g was a f → IsMinimalFor g was b h →
      IsProductOf g (automaton_of was a) (automaton_of was b) (automaton_of now c) (states_of c) → Recognises g (automaton_of now c) (And f h)
  recognises-product a b f h of_a of_b is =
      Recognises-And g guide (automaton_of was a) f of_a.recognises (automaton_of was b) h of_b.recognises (automaton_of now c)
      (Below (states_of c)) is.pair is.product

  pub recognises-subset : (a : AutoView) (t : Track) (f : Formula) → IsMinimalFor g was a f →
      IsSubsetOf g (automaton_of was a) t.0 (automaton_of now c) (states_of c) → Recognises g (automaton_of now c) (Ex2 t f)
  recognises-subset a t f of_a is =
      Recognises-Ex2 g guide (automaton_of was a) f of_a.recognises t (automaton_of now c) (Below (states_of c))
      (λ s x q. IsTrue (is.member s x q)) is.subset

  pub size-product : IsShelf now → (a b : AutoView) (f h : Formula) → IsMinimalFor g was a f → IsMinimalFor g was b h →
      IsProductOf g (automaton_of was a) (automaton_of was b) (automaton_of now c) (states_of c) → (n : ℕ) → HasProductSize g f h n →
      SizeOf g (automaton_of now c) (Below (states_of c)) n
  size-product is_shelf a b f h of_a of_b is n has =
      let found = SizeOf-auto g now is_shelf c in
      let same : found.0 ≡ n = product-size g guide cases_eq cases_eq f h (automaton_of was a) (Below (states_of a)) (automaton_of was b)
      (Below (states_of b)) (automaton_of now c) (Below (states_of c)) is.pair of_a of_b is.product found.0 n found.1 has in
      subst (SizeOf g (automaton_of now c) (Below (states_of c))) same found.1

  pub size-subset : IsShelf now → (a : AutoView) (t : Track) (f : Formula) → IsMinimalFor g was a f →
      IsSubsetOf g (automaton_of was a) t.0 (automaton_of now c) (states_of c) → (n : ℕ) → HasSubsetSize g t f n →
      SizeOf g (automaton_of now c) (Below (states_of c)) n
  size-subset is_shelf a t f of_a is n has =
      let found = SizeOf-auto g now is_shelf c in
      let same : found.0 ≡ n = subset-size g guide cases_eq t f (automaton_of was a) (Below (states_of a)) (automaton_of now c)
      (Below (states_of c)) (λ s x q. IsTrue (is.member s x q)) of_a is.subset found.0 n found.1 has in
      subst (SizeOf g (automaton_of now c) (Below (states_of c))) same found.1
