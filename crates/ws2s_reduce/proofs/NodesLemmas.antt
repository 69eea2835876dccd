-- Reductions have the sizes that are counted.
use Rattle.std.proofs.Common.{◌≡◌, ℕ, zero, suc, ◌+◌, ◌*◌, ◌<◌, min, Bool, true, false, cond, eqb, List, [], ◌∷◌, ◌++◌, length}
use Rattle.std.proofs.Common.{map, take, get_or, Option, Some, None, slice_get, unwrap_or, refl, sym, ap, ◌∙◌, subst, arith}
use Rattle.std.proofs.Common.{eqb-true, zero-add, zero-le, ◌≢◌, add_assoc, add-one}
use Rattle.std.specs.List.{sum_by}
use Rattle.std.proofs.Math.Nat.{mul-suc}
use Rattle.std.proofs.Math.Seq.{take-suc}
use Rattle.std.proofs.lemmas.List.{length-reverse, length-map, length-take, map-append}
use Rattle.std.proofs.lemmas.List.Sums.{sum_by-cons}
use Rattle.std.proofs.lemmas.Bool.{eqb-false}
use Rattle.std.proofs.lemmas.Option.{slice_get_past}
use Rattle.gta_theory.proofs.ListedLemmas.{slice_get-last}
use Rattle.ws2s_core.specs.declared.formula.Formula.{Formula}
use Rattle.ws2s_core.specs.declared.formula.Formula.TheVariants.{Sub, Single, And, Not, Ex2}
use Rattle.ws2s_core.specs.Sizes.{node_count}
use Rattle.ws2s_syntax.specs.declared.name.Name.{Name}
use Rattle.ws2s_syntax.specs.declared.name.Successor.{Successor}
use Rattle.ws2s_syntax.specs.declared.name.Successor.TheVariants.{Zero, One}
use Rattle.ws2s_syntax.specs.declared.name.Base.{Base}
use Rattle.ws2s_syntax.specs.declared.name.Term.{Term}
use Rattle.ws2s_syntax.specs.declared.name.Argument.{Argument}
use Rattle.ws2s_syntax.specs.declared.formula.Atom.{Atom}
use Rattle.ws2s_syntax.specs.declared.formula.Connective.{Connective}
use Rattle.ws2s_syntax.specs.declared.formula.Quantifier.{Quantifier}
use Rattle.ws2s_syntax.specs.declared.declaration.Predicate.{Predicate}
use Rattle.ws2s_syntax.specs.Sentences.{Sentence, said, negated, implied, joined, quantified, sentence_of}
use Rattle.ws2s_forms.specs.Forms.{track, false_at, true_at, imp, ex1, empty_at, equal}
use Rattle.ws2s_reduce.specs.Reducing.{track_of, succ_of, is_base_at}
use Rattle.ws2s_reduce.specs.Reducing.{is_stepped_at, is_at, plain_name, Reductions, no_reductions, passed_term, used, atom_at}
use Rattle.ws2s_reduce.specs.Reducing.{reduced, with_reduction, reductions_from}
use Rattle.ws2s_reduce.specs.Sizes.{base_size, term_size, passed_term_size, argument_size, PredicateSizes, atom_size, sentence_size, sizes_in, AreSizes}
use Rattle.ws2s_reduce.proofs.CountsLemmas.{count-Sub, count-Single, count-Succ0, count-Succ1, count-Root, count-And, count-Not, count-Ex2}

count-false : (next : ℕ) → node_count (false_at next) ≡ 5
count-false next =
    simp (
      count-Ex2 (track next) (And (Single (track next)) (Not (Single (track next)))),
      count-And (Single (track next)) (Not (Single (track next))),
      count-Not (Single (track next)),
      count-Single (track next),
    ) refl

pub count-true : (next : ℕ) → node_count (true_at next) ≡ 6
count-true next = count-Not (false_at next) ∙ ap (λ n. n + 1) (count-false next)

count-empty : (next x : ℕ) → node_count (empty_at next x) ≡ 5
count-empty next x =
    let a = count-Not (ex1 next (Sub (track next) (track x))) in
    let b = count-Ex2 (track next) (And (Single (track next)) (Sub (track next) (track x))) in
    let c = count-And (Single (track next)) (Sub (track next) (track x)) in
    let d = count-Single (track next) in
    let e = count-Sub (track next) (track x) in
    omega (arith, a, b, c, d, e)

count-equal : (x y : ℕ) → node_count (equal x y) ≡ 3
count-equal x y =
    omega (arith, count-And (Sub (track x) (track y)) (Sub (track y) (track x)), count-Sub (track x) (track y), count-Sub (track y) (track x))

count-base : (tracks : List ℕ) (base : Base) (a : ℕ) → node_count (is_base_at tracks base a) ≡ base_size base
count-base tracks Base.Root a = count-Root (track a)
count-base tracks (Base.Variable x) a =
    omega (
      arith,
      count-And (Single (track a)) (Sub (track a) (track (track_of tracks x))),
      count-Single (track a),
      count-Sub (track a) (track (track_of tracks x)),
    )

count-succ : (step : Successor) (x y : ℕ) → node_count (succ_of step x y) ≡ 1
count-succ Zero x y = count-Succ0 (track x) (track y)
count-succ One x y = count-Succ1 (track x) (track y)

count-stepped : (next : ℕ) (tracks : List ℕ) (base : Base) (earlier : List Successor) (a : ℕ) →
    node_count (is_stepped_at next tracks base earlier a) ≡ base_size base + 3 * length earlier
count-stepped next tracks base [] a =
    let e : base_size base ≡ base_size base + 0 = omega arith in
    count-base tracks base a ∙ e
count-stepped next tracks base (step ∷ earlier) a =
    let inner = count-stepped (suc next) tracks base earlier next in
    let b = count-Ex2 (track next) (And (is_stepped_at (suc next) tracks base earlier next) (succ_of step next a)) in
    let c = count-And (is_stepped_at (suc next) tracks base earlier next) (succ_of step next a) in
    let d = count-succ step next a in
    omega (arith, inner, b, c, d, mul-suc 3 (length earlier))

count-is_at : (next : ℕ) (tracks : List ℕ) (t : Term) (a : ℕ) → node_count (is_at next tracks t a) ≡ term_size t
count-is_at next tracks t a =
    count-stepped next tracks t.base _ a ∙ ap (λ n. base_size t.base + 3 * n) (length-reverse t.steps)

-- a term for a parameter, before a rest of a size
count-passed_term : (found : Option Name) (t : Term) (next : ℕ) (tracks given : List ℕ) (f : ℕ → List ℕ → Formula) (size : ℕ) →
    ((after : ℕ) (with_arg : List ℕ) → min (node_count (f after with_arg)) 65537 ≡ min size 65537) →
    min (node_count (passed_term found t next tracks given f)) 65537 ≡ min (passed_term_size found t + size) 65537
count-passed_term (Some x) t next tracks given f size rest =
    rest next (given ++ track_of tracks x ∷ []) ∙ ap (λ n. min n 65537) (sym (zero-add size))
count-passed_term None t next tracks given f size rest =
    let h = rest (suc next) (given ++ next ∷ []) in
    let b = count-Ex2 (track next) (And (is_at (suc next) tracks t next) (f (suc next) (given ++ next ∷ []))) in
    let c = count-And (is_at (suc next) tracks t next) (f (suc next) (given ++ next ∷ [])) in
    let d = count-is_at (suc next) tracks t next in
    omega (arith, h, b, c, d)

count-used : (body : ℕ → List ℕ → Formula) (size : ℕ) →
    ((next : ℕ) (given : List ℕ) → min (node_count (body next given)) 65537 ≡ min size 65537) →
    (args : List Argument) (next : ℕ) (tracks given : List ℕ) →
    min (node_count (used body next tracks args given)) 65537 ≡ min (sum_by argument_size args + size) 65537
count-used body size sized [] next tracks given = sized next given ∙ ap (λ n. min n 65537) (sym (zero-add size))
count-used body size sized (Argument.Set x ∷ args) next tracks given =
    count-used body size sized args next tracks (given ++ track_of tracks x ∷ [])
    ∙ ap (λ n. min (n + size) 65537) (sym (sum_by-cons argument_size (Argument.Set x) args ∙ zero-add (sum_by argument_size args)))
count-used body size sized (Argument.Position t ∷ args) next tracks given =
    count-passed_term (plain_name t.base t.steps) t next tracks given (λ after with_arg. used body after tracks args with_arg)
    (sum_by argument_size args + size) (λ after with_arg. count-used body size sized args after tracks with_arg)
    ∙ ap (λ n. min n 65537) (
    sym (add_assoc (argument_size (Argument.Position t)) (sum_by argument_size args) size)
    ∙ sym (ap (λ n. n + size) (sum_by-cons argument_size (Argument.Position t) args))
    )

module _ (known : PredicateSizes) (reductions : Reductions)
    (sized : (predicate next : ℕ) (given : List ℕ) → min (node_count (reductions predicate next given)) 65537 ≡ min (known predicate) 65537) where
  count-atom : (atom : Atom) (next : ℕ) (tracks : List ℕ) →
      min (node_count (atom_at reductions next tracks atom)) 65537 ≡ min (atom_size known atom) 65537
  count-atom (Atom.Truth true) next tracks = ap (λ n. min n 65537) (count-true next)
  count-atom (Atom.Truth false) next tracks = ap (λ n. min n 65537) (count-false next)
  count-atom (Atom.Empty x) next tracks = ap (λ n. min n 65537) (count-empty next (track_of tracks x))
  count-atom (Atom.In t x) next tracks =
      let b = count-Ex2 (track next) (And (is_at (suc next) tracks t next) (Sub (track next) (track (track_of tracks x)))) in
      let c = count-And (is_at (suc next) tracks t next) (Sub (track next) (track (track_of tracks x))) in
      let d = count-is_at (suc next) tracks t next in
      let e = count-Sub (track next) (track (track_of tracks x)) in
      omega (arith, b, c, d, e)
  count-atom (Atom.SamePosition t u) next tracks =
      let b = count-Ex2 (track next) (And (is_at (suc next) tracks t next) (is_at (suc next) tracks u next)) in
      let c = count-And (is_at (suc next) tracks t next) (is_at (suc next) tracks u next) in
      omega (arith, b, c, count-is_at (suc next) tracks t next, count-is_at (suc next) tracks u next)
  count-atom (Atom.SameSet x y) next tracks = ap (λ n. min n 65537) (count-equal (track_of tracks x) (track_of tracks y))
  count-atom (Atom.Sub x y) next tracks = ap (λ n. min n 65537) (count-Sub (track (track_of tracks x)) (track (track_of tracks y)))
  count-atom (Atom.Use predicate args) next tracks =
      count-used (reductions predicate) (known predicate) (sized predicate) args next tracks []

  pub count-sentence : (s : Sentence) (next : ℕ) (tracks : List ℕ) →
      min (node_count (reduced reductions next tracks s)) 65537 ≡ min (sentence_size known s) 65537
  count-sentence (said atom) next tracks = count-atom atom next tracks
  count-sentence (negated s) next tracks =
      omega (arith, count-sentence s next tracks, count-Not (reduced reductions next tracks s))
  count-sentence (implied s t) next tracks =
      let f = reduced reductions next tracks s in
      let g = reduced reductions next tracks t in
      omega (arith, count-sentence s next tracks, count-sentence t next tracks, count-Not (And f (Not g)), count-And f (Not g), count-Not g)
  count-sentence (joined Connective.And s t) next tracks =
      omega (
        arith,
        count-sentence s next tracks,
        count-sentence t next tracks,
        count-And (reduced reductions next tracks s) (reduced reductions next tracks t),
      )
  count-sentence (joined Connective.Or s t) next tracks =
      let f = reduced reductions next tracks s in
      let g = reduced reductions next tracks t in
      omega (
        arith,
        count-sentence s next tracks,
        count-sentence t next tracks,
        count-Not (And (Not f) (Not g)),
        count-And (Not f) (Not g),
        count-Not f,
        count-Not g,
      )
  count-sentence (joined Connective.Iff s t) next tracks =
      let f = reduced reductions next tracks s in
      let g = reduced reductions next tracks t in
      omega (
        arith,
        count-sentence s next tracks,
        count-sentence t next tracks,
        count-And (imp f g) (imp g f),
        count-Not (And f (Not g)),
        count-And f (Not g),
        count-Not g,
        count-Not (And g (Not f)),
        count-And g (Not f),
        count-Not f,
      )
  count-sentence (quantified Quantifier.Ex1 s) next tracks =
      let f = reduced reductions (suc next) (tracks ++ next ∷ []) s in
      omega (
        arith,
        count-sentence s (suc next) (tracks ++ next ∷ []),
        count-Ex2 (track next) (And (Single (track next)) f),
        count-And (Single (track next)) f,
        count-Single (track next),
      )
  count-sentence (quantified Quantifier.All1 s) next tracks =
      let f = reduced reductions (suc next) (tracks ++ next ∷ []) s in
      omega (
        arith,
        count-sentence s (suc next) (tracks ++ next ∷ []),
        count-Not (ex1 next (Not f)),
        count-Ex2 (track next) (And (Single (track next)) (Not f)),
        count-And (Single (track next)) (Not f),
        count-Single (track next),
        count-Not f,
      )
  count-sentence (quantified Quantifier.Ex2 s) next tracks =
      let f = reduced reductions (suc next) (tracks ++ next ∷ []) s in
      omega (arith, count-sentence s (suc next) (tracks ++ next ∷ []), count-Ex2 (track next) f)
  count-sentence (quantified Quantifier.All2 s) next tracks =
      let f = reduced reductions (suc next) (tracks ++ next ∷ []) s in
      omega (arith, count-sentence s (suc next) (tracks ++ next ∷ []), count-Not (Ex2 (track next) (Not f)), count-Ex2 (track next) (Not f), count-Not f)

-- the last predicate comes last
pub reductions_from-push : (known : Reductions) (n : ℕ) (bodies : List Sentence) (body : Sentence) →
    reductions_from known n (bodies ++ body ∷ [])
    ≡ with_reduction (reductions_from known n bodies) (n + length bodies)
    (λ next given. reduced (reductions_from known n bodies) next given body)
reductions_from-push known n [] body =
    let e : n ≡ n + 0 = omega arith in
    ap (λ m. with_reduction known m (λ next given. reduced known next given body)) e
reductions_from-push known n (first ∷ bodies) body =
    let e : suc n + length bodies ≡ n + suc (length bodies) = omega arith in
    reductions_from-push (with_reduction known n (λ next given. reduced known next given first)) (suc n) bodies body
    ∙ ap (λ m. with_reduction (reductions_from known n (first ∷ bodies)) m
    (λ next given. reduced (reductions_from known n (first ∷ bodies)) next given body)) e

-- no predicate counts as True
pub AreSizes-none : AreSizes [] no_reductions
AreSizes-none = record {
  each = λ predicate next given.
      ap (λ n. min n 65537) (count-true next ∙ sym (ap (λ found. unwrap_or found 6) (slice_get_past {X = ℕ} [] predicate zero-le)));
}

slice_get-other : {X : Type 0} (xs : List X) (y : X) (k : ℕ) → k ≢ length xs → slice_get (xs ++ y ∷ []) k ≡ slice_get xs k
slice_get-other [] y zero other = absurd (other refl)
slice_get-other [] y (suc k) other = refl
slice_get-other (x ∷ xs) y zero other = refl
slice_get-other (x ∷ xs) y (suc k) other = slice_get-other xs y k (λ e. other (ap suc e))

-- one predicate more
pub AreSizes-push : (sizes : List ℕ) (reductions : Reductions) (n size : ℕ) (s : Sentence) → n ≡ length sizes →
    AreSizes sizes reductions → size ≡ min (sentence_size (sizes_in sizes) s) 65537 →
    AreSizes (sizes ++ size ∷ []) (with_reduction reductions n (λ next given. reduced reductions next given s))
AreSizes-push sizes reductions n size s is_n are is_size = record { each = each }
  where
    at_bit : (b : Bool) (predicate next : ℕ) (given : List ℕ) → eqb predicate n ≡ b →
        min (node_count (cond b (reduced reductions next given s) (reductions predicate next given))) 65537
        ≡ min (sizes_in (sizes ++ size ∷ []) predicate) 65537
    at_bit true predicate next given is =
        let at_end : predicate ≡ length sizes = eqb-true predicate n is ∙ is_n in
        let last : sizes_in (sizes ++ size ∷ []) predicate ≡ size =
        ap (λ found. unwrap_or found 6) (ap (slice_get (sizes ++ size ∷ [])) at_end ∙ slice_get-last sizes size) in
        let counted = count-sentence (sizes_in sizes) reductions are.each s next given in
        omega (arith, last, counted, is_size)
    at_bit false predicate next given is =
        let other : predicate ≢ length sizes = λ e. eqb-false predicate n is (e ∙ sym is_n) in
        are.each predicate next given ∙ ap (λ found. min (unwrap_or found 6) 65537) (sym (slice_get-other sizes size predicate other))

    each : (predicate next : ℕ) (given : List ℕ) →
        min (node_count (with_reduction reductions n (λ next given. reduced reductions next given s) predicate next given)) 65537
        ≡ min (sizes_in (sizes ++ size ∷ []) predicate) 65537
    each predicate next given = at_bit (eqb predicate n) predicate next given refl

-- the sizes of so many predicates, and of one more
pub AreSizes-next : (sizes : List ℕ) (predicates : List Predicate) (k size : ℕ) (d : Predicate) → k < length predicates →
    length sizes ≡ k → AreSizes sizes (reductions_from no_reductions 0 (map (λ p. sentence_of p.body) (take k predicates))) →
    size ≡ min (sentence_size (sizes_in sizes) (sentence_of (get_or predicates k d).body)) 65537 →
    AreSizes (sizes ++ size ∷ []) (reductions_from no_reductions 0 (map (λ p. sentence_of p.body) (take (k + 1) predicates)))
AreSizes-next sizes predicates k size d inside as_many are is_size =
    subst (λ reductions. AreSizes (sizes ++ size ∷ []) reductions) (sym (
    ap (λ all. reductions_from no_reductions 0 (map (λ p. sentence_of p.body) all)) (ap (λ m. take m predicates) (add-one k) ∙ take-suc predicates k d inside)
    ∙ ap (reductions_from no_reductions 0) (map-append (λ p. sentence_of p.body) (take k predicates) (get_or predicates k d ∷ []))
    ∙ reductions_from-push no_reductions 0 (map (λ p. sentence_of p.body) (take k predicates)) (sentence_of (get_or predicates k d).body)
    ∙ ap (λ n. with_reduction before n (λ next given. reduced before next given (sentence_of (get_or predicates k d).body))) count
    ))
    (AreSizes-push sizes before k size (sentence_of (get_or predicates k d).body) (sym as_many) are is_size)
  where
    before : Reductions
    before = reductions_from no_reductions 0 (map (λ p. sentence_of p.body) (take k predicates))

    count : 0 + length (map (λ p. sentence_of p.body) (take k predicates)) ≡ k
    count = zero-add (length (map (λ p. sentence_of p.body) (take k predicates)))
        ∙ length-map (take k predicates) (λ p. sentence_of p.body)
        ∙ length-take k predicates ∙ shorter
      where
        shorter : min k (length predicates) ≡ k
        shorter = omega (arith, inside)
