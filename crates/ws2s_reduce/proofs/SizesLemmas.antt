-- Sizes that are told apart up to 65,537.
use Rattle.std.proofs.Common.{◌≡◌, ℕ, zero, suc, ◌+◌, ◌*◌, ◌<◌, min, List, [], ◌∷◌, length, map, fold, take, get_or, sym, ap, ◌∙◌, arith}
use Rattle.std.proofs.Math.Nat.{suc-mul}
use Rattle.std.proofs.Math.Seq.{take-suc}
use Rattle.std.proofs.lemmas.List.{map-append}
use Rattle.std.proofs.lemmas.List.Sums.{fold-append}
use Rattle.ws2s_syntax.specs.declared.formula.Connective.{Connective}
use Rattle.ws2s_syntax.specs.declared.formula.Quantifier.{Quantifier}
use Rattle.ws2s_syntax.specs.declared.formula.TextFormula.{TextFormula}
use Rattle.ws2s_syntax.specs.declared.formula.TextFormula.TheVariants.{Quantified}
use Rattle.ws2s_syntax.proofs.SentencesLemmas.{sentence-Quantified}
use Rattle.ws2s_syntax.specs.Sentences.{Sentence, joined, each_quantified, sentence_of}
use Rattle.ws2s_reduce.specs.Sizes.{PredicateSizes, joined_size, quantifier_size, sentence_size}

-- joining sizes that were capped
pub joined-capped : (c : Connective) (a b s t : ℕ) → s ≡ min a 65537 → t ≡ min b 65537 →
    min (joined_size c s t) 65537 ≡ min (joined_size c a b) 65537
joined-capped Connective.And a b s t e f = omega arith
joined-capped Connective.Or a b s t e f = omega arith
joined-capped Connective.Iff a b s t e f = omega arith

-- each name's quantifier puts as much around
pub size-quantified : (known : PredicateSizes) (q : Quantifier) (names : ℕ) (s : Sentence) →
    sentence_size known (each_quantified q names s) ≡ sentence_size known s + names * quantifier_size q
size-quantified known q zero s = omega arith
size-quantified known q (suc names) s =
    let rest = size-quantified known q names s in omega (arith, rest, suc-mul names (quantifier_size q))

-- one part more in a chain
pub size-chain_next : (known : PredicateSizes) (c : Connective) (first : Sentence) (others : List TextFormula) (k : ℕ)
    (d : TextFormula) (size more : ℕ) → k < length others →
    size ≡ min (sentence_size known (fold (joined c) first (map sentence_of (take k others)))) 65537 →
    more ≡ min (sentence_size known (sentence_of (get_or others k d))) 65537 →
    min (joined_size c size more) 65537
    ≡ min (sentence_size known (fold (joined c) first (map sentence_of (take (suc k) others)))) 65537
size-chain_next known c first others k d size more inside is_size is_more =
    joined-capped c (sentence_size known (fold (joined c) first (map sentence_of (take k others))))
    (sentence_size known (sentence_of (get_or others k d))) size more is_size is_more
    ∙ ap (λ s. min (sentence_size known s) 65537) (sym (
    ap (λ parts. fold (joined c) first (map sentence_of parts)) (take-suc others k d inside)
    ∙ ap (fold (joined c) first) (map-append sentence_of (take k others) (get_or others k d ∷ []))
    ∙ fold-append (joined c) first (map sentence_of (take k others)) (sentence_of (get_or others k d) ∷ [])
    ))

-- a formula with quantifiers around it
pub size-quantified_capped : (known : PredicateSizes) (q : Quantifier) (names : ℕ) (f : TextFormula) (inner size : ℕ) →
    inner ≡ min (sentence_size known (sentence_of f)) 65537 → size ≡ min (inner + names * quantifier_size q) 65537 →
    size ≡ min (sentence_size known (sentence_of (Quantified q names f))) 65537
size-quantified_capped known q names f inner size is_inner is_size =
    let whole : sentence_size known (sentence_of (Quantified q names f)) ≡ sentence_size known (sentence_of f) + names * quantifier_size q =
    ap (sentence_size known) (sentence-Quantified q names f) ∙ size-quantified known q names (sentence_of f) in
    summed (sentence_size known (sentence_of f)) (names * quantifier_size q) inner size
    (sentence_size known (sentence_of (Quantified q names f))) is_inner is_size whole
  where
    summed : (a b inner size whole : ℕ) → inner ≡ min a 65537 → size ≡ min (inner + b) 65537 → whole ≡ a + b → size ≡ min whole 65537
    summed a b inner size whole e f g = omega arith
