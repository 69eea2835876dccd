-- Steps of the search for names.
use Rattle.std.proofs.Common.{◌≡◌, ℕ, ◌-◌, Bool, true, false, cond, List, [], ◌∷◌, ◌++◌, length, take, Option, Some, None}
use Rattle.std.proofs.Common.{is_some, Result, Ok, Err, IfErr, refl, sym, ap, ◌∙◌, subst, append_assoc, append-nil}
use Rattle.std.specs.Result.{IsErrAnd}
use Rattle.std.proofs.lemmas.List.{take-map}
use Rattle.indexmap.specs.IndexMap.{insert_entry}
use Rattle.std.proofs.Math.Seq.{take-append_seam}
use Rattle.std.specs.Map.{lookup}
use Rattle.std.specs.Str.{bytes_eq}
use Rattle.std.specs.declared.vec.Vec.{Vec}
use Rattle.std.specs.declared.alloc.Global.{Global}
use Rattle.pale_text.specs.declared.refusal.Refusal.{Refusal}
use Rattle.pale_text.specs.declared.refusal.RefusalKind.TheVariants as why
use Rattle.pale_text.specs.declared.refusal.TextStop.{TextStop}
use Rattle.pale_text.specs.declared.refusal.TextStop.TheVariants as stop
use Rattle.ws2s_syntax.specs.declared.source.SourceName.{SourceName}
use Rattle.ws2s_syntax.specs.declared.source.SourceParameter.{SourceParameter}
use Rattle.ws2s_syntax.specs.declared.source.SourceFormula.{SourceFormula}
use Rattle.ws2s_syntax.specs.declared.declaration.Class.{Class}
use Rattle.ws2s_syntax.specs.declared.declaration.Predicate.{Predicate}
use Rattle.ws2s_syntax.specs.declared.formula.TextFormula.{TextFormula}
use Rattle.ws2s_syntax.specs.declared.name.Name.TheVariants as variable
use Rattle.ws2s_read.specs.declared.names.Meaning.{Meaning}
use Rattle.ws2s_read.specs.declared.names.Meaning.TheVariants as stands_for
use Rattle.ws2s_read.specs.declared.items.Stage.{Stage}
use Rattle.ws2s_read.specs.NameTables.{entry_of, names_of}
use Rattle.ws2s_read.specs.Resolving.{Found, ◌>>=◌, IsStop, Names, meaning_of, refused, known_as, known, declared, bound}
use Rattle.ws2s_read.specs.Resolving.{all_bound, parameters_bound, classes_of, resolved_body, with_predicate}

-- what is found is looked into
pub found-then : {A B : Type 0} (r : Found A) (next : A → Found B) (a : A) (end : Found B) → r ≡ Ok a → next a ≡ end → (r >>= next) ≡ end
found-then r next a end e f = ap (λ s. s >>= next) e ∙ f

-- what is refused stays so
pub refused-then : {A B : Type 0} (r : Found A) (next : A → Found B) (refusal : Refusal) → r ≡ Err refusal → (r >>= next) ≡ Err refusal
refused-then r next refusal e = ap (λ s. s >>= next) e

-- ---- stops

-- a stop of the first step is one of the whole
pub stop-then : {A B : Type 0} (r : Found A) (next : A → Found B) (e : TextStop) → IsStop r e → IsStop (r >>= next) e
stop-then r next (stop.Refused refusal) is = refused-then r next refusal is
stop-then r next stop.NoMemory is = is

-- so is a stop after it
pub stop-after : {A B : Type 0} (r : Found A) (next : A → Found B) (a : A) (e : TextStop) → r ≡ Ok a → IsStop (next a) e →
    IsStop (r >>= next) e
stop-after r next a e found is = subst (λ s. IsStop (s >>= next) e) (sym found) is

-- the stop that a `?` passes on
pub stop_returned : {T U : Type 0} (found : Found T) (r : Result U TextStop) (e : TextStop) → IsErrAnd r (λ y. y ≡ e) →
    IsStop found e → IfErr r (IsStop found)
stop_returned found (Ok x) e is stop = absurd is
stop_returned found (Err y) e is stop = subst (IsStop found) (sym is) stop

-- ---- lists, one element after the other

pub gathered-next : {A : Type 0} (r : Found (List A)) (done : List A) (a : A) →
    ((r >>= λ others. Ok (a ∷ others)) >>= λ rest. Ok (done ++ rest)) ≡ (r >>= λ rest. Ok ((done ++ a ∷ []) ++ rest))
gathered-next (Ok xs) done a = ap Ok (sym (append_assoc done (a ∷ []) xs))
gathered-next (Err refusal) done a = refl

-- ---- the table of names

-- what the table has for a name
pub meaning_of-table : (bytes : List ℕ) (es : List (Vec ℕ Global × Meaning)) →
    lookup (λ k. bytes_eq bytes k.items) es ≡ meaning_of (names_of es) bytes
meaning_of-table bytes [] = refl
meaning_of-table bytes (e ∷ es) = ap (cond (bytes_eq bytes e.0.items) (Some e.1)) (meaning_of-table bytes es)

-- and so what the names that it shows have
pub table-has : (names : Names) (es : List (Vec ℕ Global × Meaning)) (bytes key : List ℕ) (found : Option Meaning) →
    names_of es ≡ names → key ≡ bytes → found ≡ lookup (λ k. bytes_eq key k.items) es → meaning_of names bytes ≡ found
table-has names es bytes key found shown same is =
    ap (λ n. meaning_of n bytes) (sym shown) ∙ ap (meaning_of (names_of es)) (sym same) ∙ sym (meaning_of-table key es) ∙ sym is

pub none_of : {A : Type 0} (o : Option A) → false ≡ is_some o → o ≡ None
none_of None e = refl
none_of (Some a) e = absurd cc

-- a name that the table doesn't have goes last
inserted : (key : Vec ℕ Global) (meaning : Meaning) (es : List (Vec ℕ Global × Meaning)) →
    lookup (λ k. bytes_eq key.items k.items) es ≡ None →
    names_of (insert_entry (λ x y. bytes_eq x.items y.items) es key meaning) ≡ names_of es ++ (key.items, meaning) ∷ []
inserted key meaning [] none = refl
inserted key meaning (e ∷ es) none = by (bytes_eq key.items e.0.items) refl (inserted key meaning es)
  where
    by : (b : Bool) → bytes_eq key.items e.0.items ≡ b →
        (lookup (λ k. bytes_eq key.items k.items) es ≡ None →
        names_of (insert_entry (λ x y. bytes_eq x.items y.items) es key meaning) ≡ names_of es ++ (key.items, meaning) ∷ []) →
        names_of (insert_entry (λ x y. bytes_eq x.items y.items) (e ∷ es) key meaning) ≡ names_of (e ∷ es) ++ (key.items, meaning) ∷ []
    by true is rest = let found : Some e.1 ≡ None = ap (λ b. cond b (Some e.1) (lookup (λ k. bytes_eq key.items k.items) es)) (sym is) ∙ none in absurd cc
    by false is rest =
        ap (λ b. names_of (cond b ((e.0, meaning) ∷ es) (e ∷ insert_entry (λ x y. bytes_eq x.items y.items) es key meaning))) is
        ∙ ap (λ others. entry_of e ∷ others)
        (rest (ap (λ b. cond b (Some e.1) (lookup (λ k. bytes_eq key.items k.items) es)) (sym is) ∙ none))

pub inserted-new : (names : Names) (es : List (Vec ℕ Global × Meaning)) (bytes lent : List ℕ) (key : Vec ℕ Global) (meaning : Meaning) →
    names_of es ≡ names → lent ≡ bytes → key.items ≡ lent → meaning_of names bytes ≡ None →
    names_of (insert_entry (λ x y. bytes_eq x.items y.items) es key meaning) ≡ names ++ (bytes, meaning) ∷ []
inserted-new names es bytes lent key meaning shown same copied none =
    inserted key meaning es
    (meaning_of-table key.items es ∙ ap (meaning_of (names_of es)) (copied ∙ same) ∙ ap (λ n. meaning_of n bytes) shown ∙ none)
    ∙ (λ i. shown i ++ ((copied ∙ same) i, meaning) ∷ [])

pub names_of-take : (n : ℕ) (es : List (Vec ℕ Global × Meaning)) → names_of (take n es) ≡ take n (names_of es)
names_of-take n es = sym (take-map entry_of n es)

pub known-Some : (names : Names) (x : SourceName) (meaning : Meaning) → meaning_of names x.bytes ≡ Some meaning → known names x ≡ Ok meaning
unfolding known
known-Some names x meaning e = ap (known_as x) e

pub known-None : (names : Names) (x : SourceName) → meaning_of names x.bytes ≡ None → known names x ≡ refused x.place why.Unknown
unfolding known
known-None names x e = ap (known_as x) e

pub declared-new : (names : Names) (x : SourceName) (meaning : Meaning) → meaning_of names x.bytes ≡ None →
    declared names x meaning ≡ Ok (names ++ (x.bytes, meaning) ∷ [])
unfolding declared
declared-new names x meaning e =
    ap (λ found. cond (is_some found) (refused x.place why.Duplicate) (Ok (names ++ (x.bytes, meaning) ∷ []))) e

pub declared-again : (names : Names) (x : SourceName) (meaning : Meaning) → is_some (meaning_of names x.bytes) ≡ true →
    declared names x meaning ≡ refused x.place why.Duplicate
unfolding declared
declared-again names x meaning e =
    ap (λ visible. cond visible (refused x.place why.Duplicate) (Ok (names ++ (x.bytes, meaning) ∷ []))) e

-- ---- what was found

-- the whole is found where its steps are
pub then-Ok : {A B : Type 0} (r : Found A) (next : A → Found B) (b : B) → (r >>= next) ≡ Ok b → (a : A) × (r ≡ Ok a) × (next a ≡ Ok b)
then-Ok (Ok a) next b e = (a, refl, e)
then-Ok (Err refusal) next b e = absurd cc

-- a name that is declared wasn't visible, and goes last
pub declared-Ok : (names : Names) (x : SourceName) (meaning : Meaning) (more : Names) → declared names x meaning ≡ Ok more →
    more ≡ names ++ (x.bytes, meaning) ∷ []
unfolding declared
declared-Ok names x meaning more e = by (is_some (meaning_of names x.bytes)) e
  where
    by : (b : Bool) → cond b (refused x.place why.Duplicate) (Ok (names ++ (x.bytes, meaning) ∷ [])) ≡ Ok more →
        more ≡ names ++ (x.bytes, meaning) ∷ []
    by true e = absurd cc
    by false e = cc

-- binding names puts them behind those that are visible
pub all_bound-front : (outer : ℕ) (c : Class) (xs : List SourceName) (names inside : Names) → all_bound outer c xs names ≡ Ok inside →
    (more : Names) × (inside ≡ names ++ more)
unfolding bound
all_bound-front outer c [] names inside e = ([], (let same : names ≡ inside = cc in sym same) ∙ sym (append-nil names))
all_bound-front outer c (x ∷ xs) names inside e =
    let first = then-Ok (bound outer c x names) (all_bound outer c xs) inside e in
    let rest = all_bound-front outer c xs first.0 inside first.2 in
    let grown = declared-Ok names x (stands_for.Variable (variable.Local (length names - outer)) c) first.0 first.1 in (
      (x.bytes, stands_for.Variable (variable.Local (length names - outer)) c) ∷ rest.0,
      rest.1 ∙ ap (λ n. n ++ rest.0) grown ∙ append_assoc names ((x.bytes, stands_for.Variable (variable.Local (length names - outer)) c) ∷ []) rest.0,
    )

pub parameters_bound-front : (outer : ℕ) (ps : List SourceParameter) (names inside : Names) → parameters_bound outer ps names ≡ Ok inside →
    (more : Names) × (inside ≡ names ++ more)
unfolding bound
parameters_bound-front outer [] names inside e = ([], (let same : names ≡ inside = cc in sym same) ∙ sym (append-nil names))
parameters_bound-front outer (p ∷ ps) names inside e =
    let first = then-Ok (bound outer p.class p.name names) (parameters_bound outer ps) inside e in
    let rest = parameters_bound-front outer ps first.0 inside first.2 in
    let grown = declared-Ok names p.name (stands_for.Variable (variable.Local (length names - outer)) p.class) first.0 first.1 in (
      (p.name.bytes, stands_for.Variable (variable.Local (length names - outer)) p.class) ∷ rest.0,
      rest.1 ∙ ap (λ n. n ++ rest.0) grown
          ∙ append_assoc names ((p.name.bytes, stands_for.Variable (variable.Local (length names - outer)) p.class) ∷ []) rest.0,
    )

-- so they can be taken off again
pub front-again : (names inside after : Names) (before : ℕ) → ((more : Names) × (inside ≡ names ++ more)) → after ≡ inside →
    before ≡ length names → take before after ≡ names
front-again names inside after before front same is =
    ap (λ n. take n after) is ∙ ap (take (length names)) (same ∙ front.1) ∙ take-append_seam names front.0

-- ---- predicates

pub predicate_stop-new : (x : SourceName) (ps : List SourceParameter) (body : SourceFormula) (stage : Stage) (e : TextStop) →
    IsStop (declared stage.names x (stands_for.Predicate (length stage.predicates) (classes_of ps))) e → IsStop (with_predicate x ps body stage) e
unfolding with_predicate
predicate_stop-new x ps body stage e is = stop-then (declared stage.names x (stands_for.Predicate (length stage.predicates) (classes_of ps))) _ e is

pub predicate_stop-body : (x : SourceName) (ps : List SourceParameter) (body : SourceFormula) (stage : Stage) (e : TextStop) →
    meaning_of stage.names x.bytes ≡ None → IsStop (resolved_body ps body stage.names) e → IsStop (with_predicate x ps body stage) e
unfolding with_predicate
predicate_stop-body x ps body stage e new is =
    stop-after (declared stage.names x (stands_for.Predicate (length stage.predicates) (classes_of ps))) _ _ e
    (declared-new stage.names x (stands_for.Predicate (length stage.predicates) (classes_of ps)) new)
    (stop-then (resolved_body ps body stage.names) _ e is)

pub predicate_made : (x : SourceName) (ps : List SourceParameter) (body : SourceFormula) (stage : Stage) (f : TextFormula) (number : ℕ)
    (classes params : List Class) (names : Names) (predicates : List Predicate) → resolved_body ps body stage.names ≡ Ok f →
    number ≡ length stage.predicates → classes ≡ classes_of ps → declared stage.names x (stands_for.Predicate number classes) ≡ Ok names →
    params ≡ classes_of ps → predicates ≡ stage.predicates ++ record { params = params; body = f } ∷ [] →
    with_predicate x ps body stage ≡ Ok (record { names = names; free = stage.free; predicates = predicates; formulas = stage.formulas })
unfolding with_predicate
predicate_made x ps body stage f number classes params names predicates is_body is_number are_classes is_new are_params are =
    found-then (declared stage.names x (stands_for.Predicate (length stage.predicates) (classes_of ps))) _ names _
    ((λ i. declared stage.names x (stands_for.Predicate (sym is_number i) (sym are_classes i))) ∙ is_new)
    (found-then (resolved_body ps body stage.names) _ f _ is_body
    (λ i. Ok (record {
      names = names;
      free = stage.free;
      predicates = (ap (λ cs. stage.predicates ++ record { params = cs; body = f } ∷ []) (sym are_params) ∙ sym are) i;
      formulas = stage.formulas;
    })))
