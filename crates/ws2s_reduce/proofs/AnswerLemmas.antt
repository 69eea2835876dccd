-- What the lists of a reduction are, one element more.
use Rattle.std.proofs.Common.{◌≡◌, ℕ, zero, suc, ◌+◌, ◌<◌, List, [], ◌∷◌, ◌++◌, length, map, take, get_or, sym, ap, ◌∙◌, arith, add-one, zero-add}
use Rattle.std.proofs.Math.Seq.{take-suc}
use Rattle.std.proofs.lemmas.List.{length-map, length-take-le, map-append}
use Rattle.ws2s_core.specs.declared.formula.Formula.TheVariants.{Single}
use Rattle.ws2s_syntax.specs.declared.declaration.Class.{Class}
use Rattle.ws2s_syntax.specs.declared.declaration.Free.{Free}
use Rattle.ws2s_syntax.specs.Checked.{class_of_free}
use Rattle.ws2s_forms.specs.Forms.{track}
use Rattle.ws2s_reduce.specs.Reducing.{singles_from}
use Rattle.ws2s_reduce.specs.Answer.{free_from}

singles_from-append : (n : ℕ) (xs ys : List Class) → singles_from n (xs ++ ys) ≡ singles_from n xs ++ singles_from (n + length xs) ys
singles_from-append n [] ys = let e : n ≡ n + 0 = omega arith in ap (λ k. singles_from k ys) e
singles_from-append n (Class.Position ∷ xs) ys =
    let e : suc n + length xs ≡ n + length (Class.Position ∷ xs) = omega arith in
    ap (λ fs. Single (track n) ∷ fs)
    (singles_from-append (suc n) xs ys ∙ ap (λ k. singles_from (suc n) xs ++ singles_from k ys) e)
singles_from-append n (Class.Set ∷ xs) ys =
    let e : suc n + length xs ≡ n + length (Class.Set ∷ xs) = omega arith in
    singles_from-append (suc n) xs ys ∙ ap (λ k. singles_from (suc n) xs ++ singles_from k ys) e

-- one variable more
pub singles_from-next : (free : List Free) (i : ℕ) (d : Free) → i < length free →
    singles_from 0 (map class_of_free (take i free)) ++ singles_from i (class_of_free (get_or free i d) ∷ [])
    ≡ singles_from 0 (map class_of_free (take (i + 1) free))
singles_from-next free i d inside =
    let count = length-map (take i free) class_of_free ∙ length-take-le i free (omega (arith, inside)) in
    sym (
    ap (λ k. singles_from 0 (map class_of_free (take k free))) (add-one i)
    ∙ ap (λ all. singles_from 0 (map class_of_free all)) (take-suc free i d inside)
    ∙ ap (singles_from 0) (map-append class_of_free (take i free) (get_or free i d ∷ []))
    ∙ singles_from-append 0 (map class_of_free (take i free)) (class_of_free (get_or free i d) ∷ [])
    ∙ ap (λ k. singles_from 0 (map class_of_free (take i free)) ++ singles_from k (class_of_free (get_or free i d) ∷ []))
    (zero-add _ ∙ count)
    )

free_from-last : (first count : ℕ) → free_from first count ++ track (first + count) ∷ [] ≡ free_from first (suc count)
free_from-last first zero = let e : first + 0 ≡ first = omega arith in ap (λ t. track t ∷ []) e
free_from-last first (suc count) =
    let e : first + suc count ≡ suc first + count = omega arith in
    ap (λ t. track first ∷ (free_from (suc first) count ++ track t ∷ [])) e ∙ ap (λ ts. track first ∷ ts) (free_from-last (suc first) count)

-- one track more
pub free_from-next : (count : ℕ) → free_from 0 count ++ track count ∷ [] ≡ free_from 0 (count + 1)
free_from-next count =
    ap (λ t. free_from 0 count ++ track t ∷ []) (sym (zero-add count)) ∙ free_from-last 0 count ∙ ap (free_from 0) (sym (add-one count))
