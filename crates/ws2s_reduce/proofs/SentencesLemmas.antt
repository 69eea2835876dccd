-- A sentence's reduction means the sentence.
use Rattle.std.proofs.Common.{◌≡◌, ℕ, suc, true, false, IsTrue, ◌↔◌, List, [], ◌∷◌, ◌++◌, map, fold, Option, Some, None}
use Rattle.std.proofs.Common.{slice_get, refl, sym, ap, ◌∙◌, subst, append_assoc, append-nil}
use Rattle.std.proofs.lemmas.Bool.{false≢true, and_parts}
use Rattle.gta_theory.specs.Assignments.{Assignment, replace}
use Rattle.ws2s_core.specs.declared.formula.Formula.{Formula}
use Rattle.ws2s_core.specs.declared.formula.Formula.TheVariants.{Sub}
use Rattle.ws2s_core.specs.Satisfaction.{WSat}
use Rattle.ws2s_core.proofs.SatisfactionLemmas.{WSat-Sub}
use Rattle.ws2s_syntax.specs.declared.name.Name.{Name}
use Rattle.ws2s_syntax.specs.declared.name.Successor.{Successor}
use Rattle.ws2s_syntax.specs.declared.name.Base.{Base}
use Rattle.ws2s_syntax.specs.declared.name.Term.{Term}
use Rattle.ws2s_syntax.specs.declared.name.Argument.{Argument}
use Rattle.ws2s_syntax.specs.declared.formula.Atom.{Atom}
use Rattle.ws2s_syntax.specs.declared.formula.Connective.{Connective}
use Rattle.ws2s_syntax.specs.declared.formula.Quantifier.{Quantifier}
use Rattle.ws2s_syntax.specs.declared.declaration.Class.{Class}
use Rattle.ws2s_syntax.specs.Sentences.{Sentence, said, negated, implied, joined, quantified}
use Rattle.ws2s_syntax.specs.Checked.{Scope, is_position, is_base, is_term, is_argument, are_arguments, are_arguments_of, is_atom, is_sentence}
use Rattle.ws2s_syntax.specs.Meaning.{Value, place, places, Env, value_of, position_in, set_of, position_of_base, child}
use Rattle.ws2s_syntax.specs.Meaning.{position_of, argument_value, Predicates, MeansAtom, with_value, Means}
use Rattle.ws2s_forms.specs.Forms.{track}
use Rattle.ws2s_reduce.specs.Reducing.{track_of, is_at, plain_name, Reductions, passed_term, used, atom_at, reduced}
use Rattle.ws2s_forms.proofs.PositionsLemmas.{WSat-ex1, WSat-ex_at, IsOnly-along}
use Rattle.ws2s_reduce.proofs.NamesLemmas.{Fits, Fits-bound, Fits-none, Fits-with, Fits-next, held_set, held_position, WSat-bound_term}
use Rattle.ws2s_forms.proofs.ConnectivesLemmas.{WSat-false, WSat-true, WSat-and, WSat-or, WSat-imp, WSat-iff, WSat-negated}
use Rattle.ws2s_forms.proofs.ConnectivesLemmas.{WSat-all1, WSat-ex2, WSat-all2, WSat-inside, WSat-empty, WSat-equal, inside_same}

-- both ways, one after the other
through : {P Q R : Type 0} → P ↔ Q → Q ↔ R → P ↔ R
through h k = ((λ p. k.0 (h.0 p)), (λ r. h.1 (k.1 r)))

-- a plain name is its term
plain_is : (base : Base) (steps : List Successor) (x : Name) → plain_name base steps ≡ Some x →
    (base ≡ Base.Variable x) × (steps ≡ [])
plain_is Base.Root steps x e = absurd cc
plain_is (Base.Variable y) [] x e = (ap Base.Variable cc, refl)
plain_is (Base.Variable y) (step ∷ steps) x e = absurd cc

plain_position : (env : Env) (t : Term) (x : Name) → plain_name t.base t.steps ≡ Some x →
    position_in (value_of env x) ≡ position_of env t
plain_position env t x e =
    let parts = plain_is t.base t.steps x e in
    ap (λ base. position_of_base env base) (sym parts.0) ∙ ap (λ steps. fold child (position_of_base env t.base) steps) (sym parts.1)

plain_checked : (scope : Scope) (t : Term) (x : Name) → plain_name t.base t.steps ≡ Some x → IsTrue (is_term scope t) →
    IsTrue (is_position scope x)
plain_checked scope t x e is = subst (λ base. IsTrue (is_base scope base)) (plain_is t.base t.steps x e).0 is

-- a predicate's use
module _ (scope : Scope) (env : Env) (whole : List Class) (all : List Value) (body : ℕ → List ℕ → Formula)
    (meaning : List Value → Type 0)
    (means : (a : Assignment) (next : ℕ) (given : List ℕ) (local : List Value) →
    Fits (record { free = scope.free; local = whole }) a next given (record { free = env.free; local = local }) →
    WSat (body next given) a ↔ meaning local) where
  -- the parameters so far have these tracks and values
  abbrev FitsSoFar : List Class → Assignment → ℕ → List ℕ → List Value → Type 0
  FitsSoFar done a next given local =
      Fits (record { free = scope.free; local = done }) a next given (record { free = env.free; local = local })

  -- a position for a parameter, and then the rest
  WSat-passed_term : (t : Term) (done : List Class) (a : Assignment) (next : ℕ) (tracks given : List ℕ) (local : List Value)
      (f : ℕ → List ℕ → Formula) (P : Type 0) → IsTrue (is_term scope t) → Fits scope a next tracks env →
      FitsSoFar done a next given local →
      ((b : Assignment) (after : ℕ) (with_arg : List ℕ) → Fits scope b after tracks env →
      FitsSoFar (done ++ Class.Position ∷ []) b after with_arg (local ++ place (position_of env t) ∷ []) →
      WSat (f after with_arg) b ↔ P) →
      (found : Option Name) → plain_name t.base t.steps ≡ found → WSat (passed_term found t next tracks given f) a ↔ P
  WSat-passed_term t done a next tracks given local f P is fits so_far rest (Some x) e =
      let held = held_position scope a next tracks env fits x (plain_checked scope t x e is) in
      rest a next (given ++ track_of tracks x ∷ []) fits
      (Fits-with (record { free = scope.free; local = done }) a next given (record { free = env.free; local = local })
      (track_of tracks x) Class.Position (place (position_of env t)) so_far (record {
        below = held.below;
        same = IsOnly-along (a (track_of tracks x)) (position_in (value_of env x)) (position_of env t) (plain_position env t x e) held.same;
      }))
  WSat-passed_term t done a next tracks given local f P is fits so_far rest None e =
      WSat-ex_at next (is_at (suc next) tracks t next) (f (suc next) (given ++ next ∷ [])) a (position_of env t) P
      (λ set. WSat-bound_term scope a next tracks env t set fits is)
      (λ set only.
      rest (replace a next set) (suc next) (given ++ next ∷ []) (Fits-bound scope a next tracks env set fits)
      (Fits-next (record { free = scope.free; local = done }) a next given (record { free = env.free; local = local })
      Class.Position (place (position_of env t)) set so_far only))

  pub WSat-used : (args : List Argument) (params done : List Class) (a : Assignment) (next : ℕ) (tracks given : List ℕ)
      (local : List Value) → done ++ params ≡ whole → local ++ map (argument_value env) args ≡ all →
      IsTrue (are_arguments scope params args) → Fits scope a next tracks env → FitsSoFar done a next given local →
      WSat (used body next tracks args given) a ↔ meaning all
  WSat-used [] [] done a next tracks given local is_whole is_all checked fits so_far =
      subst (λ values. WSat (body next given) a ↔ meaning values) (sym (append-nil local) ∙ is_all)
      (means a next given local (subst (λ classes. FitsSoFar classes a next given local) (sym (append-nil done) ∙ is_whole) so_far))
  WSat-used [] (c ∷ params) done a next tracks given local is_whole is_all checked fits so_far = absurd (false≢true checked)
  WSat-used (arg ∷ args) [] done a next tracks given local is_whole is_all checked fits so_far = absurd (false≢true checked)
  WSat-used (Argument.Position t ∷ args) (Class.Set ∷ params) done a next tracks given local is_whole is_all checked fits so_far = absurd (false≢true checked)
  WSat-used (Argument.Set x ∷ args) (Class.Position ∷ params) done a next tracks given local is_whole is_all checked fits so_far = absurd (false≢true checked)
  WSat-used (Argument.Set x ∷ args) (Class.Set ∷ params) done a next tracks given local is_whole is_all checked fits so_far =
      let is = and_parts (is_argument scope Class.Set (Argument.Set x)) (are_arguments scope params args) checked in
      let held = held_set scope a next tracks env fits x is.0 in
      WSat-used args params (done ++ Class.Set ∷ []) a next tracks (given ++ track_of tracks x ∷ []) (local ++ places (set_of env x) ∷ [])
      (append_assoc done (Class.Set ∷ []) params ∙ is_whole)
      (append_assoc local (places (set_of env x) ∷ []) (map (argument_value env) args) ∙ is_all)
      is.1 fits
      (Fits-with (record { free = scope.free; local = done }) a next given (record { free = env.free; local = local })
      (track_of tracks x) Class.Set (places (set_of env x)) so_far (record { below = held.below; same = held.same }))
  WSat-used (Argument.Position t ∷ args) (Class.Position ∷ params) done a next tracks given local is_whole is_all checked fits so_far =
      let is = and_parts (is_term scope t) (are_arguments scope params args) checked in
      WSat-passed_term t done a next tracks given local (λ after with_arg. used body after tracks args with_arg) (meaning all) is.0 fits so_far
      (λ b after with_arg fits so_far.
      WSat-used args params (done ++ Class.Position ∷ []) b after tracks with_arg (local ++ place (position_of env t) ∷ [])
      (append_assoc done (Class.Position ∷ []) params ∙ is_whole)
      (append_assoc local (place (position_of env t) ∷ []) (map (argument_value env) args) ∙ is_all)
      is.1 fits so_far)
      (plain_name t.base t.steps) refl

-- the reductions of the predicates with these parameters mean what the predicates mean
pub record Knows (free : List Class) (values : List Value) (signatures : List (List Class)) (known : Predicates)
    (reductions : Reductions) : Type 0 where
  pub means : (predicate : ℕ) (params : List Class) → slice_get signatures predicate ≡ Some params →
      (a : Assignment) (next : ℕ) (given : List ℕ) (local : List Value) →
      Fits (record { free = free; local = params }) a next given (record { free = values; local = local }) →
      WSat (reductions predicate next given) a ↔ known predicate local

-- the predicate is there, and has these parameters
arguments_of : (scope : Scope) (found : Option (List Class)) (args : List Argument) → IsTrue (are_arguments_of scope found args) →
    (params : List Class) × (found ≡ Some params) × IsTrue (are_arguments scope params args)
arguments_of scope None args h = absurd (false≢true h)
arguments_of scope (Some params) args h = (params, refl, h)

module _ (free : List Class) (values : List Value) (signatures : List (List Class)) (known : Predicates)
    (reductions : Reductions) (knows : Knows free values signatures known reductions) where
  abbrev scope_of : List Class → Scope
  scope_of classes = record { free = free; local = classes }

  abbrev env_of : List Value → Env
  env_of local = record { free = values; local = local }

  WSat-atom : (atom : Atom) (classes : List Class) (a : Assignment) (next : ℕ) (tracks : List ℕ) (local : List Value) →
      Fits (scope_of classes) a next tracks (env_of local) → IsTrue (is_atom signatures (scope_of classes) atom) →
      WSat (atom_at reductions next tracks atom) a ↔ MeansAtom known (env_of local) atom
  WSat-atom (Atom.Truth true) classes a next tracks local fits is = ((λ h. refl), (λ h. WSat-true next a))
  WSat-atom (Atom.Truth false) classes a next tracks local fits is =
      ((λ h. absurd (WSat-false next a h)), (λ h. absurd (false≢true h)))
  WSat-atom (Atom.Empty x) classes a next tracks local fits is =
      let held = held_set (scope_of classes) a next tracks (env_of local) fits x is in
      let empty = WSat-empty a next (track_of tracks x) held.below in
      let same = inside_same (a (track_of tracks x)) (set_of (env_of local) x) held.same in
      ((λ h p inside. empty.0 h p ((same p).1 inside)), (λ h. empty.1 (λ p inside. h p ((same p).0 inside))))
  WSat-atom (Atom.In t x) classes a next tracks local fits is =
      let parts = and_parts (is_term (scope_of classes) t) _ is in
      let held = held_set (scope_of classes) a next tracks (env_of local) fits x parts.1 in
      through
      (WSat-ex_at next (is_at (suc next) tracks t next) (Sub (track next) (track (track_of tracks x))) a
      (position_of (env_of local) t) (IsTrue (a (track_of tracks x) (position_of (env_of local) t)))
      (λ set. WSat-bound_term (scope_of classes) a next tracks (env_of local) t set fits parts.0)
      (λ set only. WSat-inside a next (track_of tracks x) set (position_of (env_of local) t) held.below only))
      (inside_same (a (track_of tracks x)) (set_of (env_of local) x) held.same (position_of (env_of local) t))
  WSat-atom (Atom.SamePosition t u) classes a next tracks local fits is =
      let parts = and_parts (is_term (scope_of classes) t) (is_term (scope_of classes) u) is in
      WSat-ex_at next (is_at (suc next) tracks t next) (is_at (suc next) tracks u next) a
      (position_of (env_of local) t) (position_of (env_of local) t ≡ position_of (env_of local) u)
      (λ set. WSat-bound_term (scope_of classes) a next tracks (env_of local) t set fits parts.0)
      (λ set only.
      let at_u = WSat-bound_term (scope_of classes) a next tracks (env_of local) u set fits parts.1 in (
        (λ h. ((at_u.0 h) (position_of (env_of local) t)).0 ((only (position_of (env_of local) t)).1 refl)),
        (λ e. at_u.1 (IsOnly-along set (position_of (env_of local) t) (position_of (env_of local) u) e only)),
      ))
  WSat-atom (Atom.SameSet x y) classes a next tracks local fits is =
      let parts = and_parts _ _ is in
      let held_x = held_set (scope_of classes) a next tracks (env_of local) fits x parts.0 in
      let held_y = held_set (scope_of classes) a next tracks (env_of local) fits y parts.1 in
      let equal = WSat-equal a (track_of tracks x) (track_of tracks y) in
      let at_x = inside_same (a (track_of tracks x)) (set_of (env_of local) x) held_x.same in
      let at_y = inside_same (a (track_of tracks y)) (set_of (env_of local) y) held_y.same in (
        (λ h p.
            ((λ inside. (at_y p).0 ((equal.0 h p).0 ((at_x p).1 inside))), (λ inside. (at_x p).0 ((equal.0 h p).1 ((at_y p).1 inside))))),
        (λ h. equal.1 (λ p.
            ((λ inside. (at_y p).1 ((h p).0 ((at_x p).0 inside))), (λ inside. (at_x p).1 ((h p).1 ((at_y p).0 inside)))))),
      )
  WSat-atom (Atom.Sub x y) classes a next tracks local fits is =
      let parts = and_parts _ _ is in
      let held_x = held_set (scope_of classes) a next tracks (env_of local) fits x parts.0 in
      let held_y = held_set (scope_of classes) a next tracks (env_of local) fits y parts.1 in
      let within = WSat-Sub (track (track_of tracks x)) (track (track_of tracks y)) a in
      let at_x = inside_same (a (track_of tracks x)) (set_of (env_of local) x) held_x.same in
      let at_y = inside_same (a (track_of tracks y)) (set_of (env_of local) y) held_y.same in (
        (λ h p inside. (at_y p).0 (within.0 h p ((at_x p).1 inside))),
        (λ h. within.1 (λ p inside. (at_y p).1 (h p ((at_x p).0 inside)))),
      )
  WSat-atom (Atom.Use predicate args) classes a next tracks local fits is =
      let found = arguments_of (scope_of classes) (slice_get signatures predicate) args is in
      WSat-used (scope_of classes) (env_of local) found.0 (map (argument_value (env_of local)) args) (reductions predicate)
      (known predicate) (knows.means predicate found.0 found.1) args found.0 [] a next tracks [] [] refl refl found.2 fits
      (Fits-none (scope_of classes) a next tracks (env_of local) fits)

  -- the sentence's reduction is satisfied where the sentence holds
  pub WSat-sentence : (s : Sentence) (classes : List Class) (a : Assignment) (next : ℕ) (tracks : List ℕ) (local : List Value) →
      Fits (scope_of classes) a next tracks (env_of local) → IsTrue (is_sentence signatures (scope_of classes) s) →
      WSat (reduced reductions next tracks s) a ↔ Means known (env_of local) s
  WSat-sentence (said atom) classes a next tracks local fits is = WSat-atom atom classes a next tracks local fits is
  WSat-sentence (negated s) classes a next tracks local fits is =
      WSat-negated (reduced reductions next tracks s) a (Means known (env_of local) s)
      (WSat-sentence s classes a next tracks local fits is)
  WSat-sentence (implied s t) classes a next tracks local fits is =
      let parts = and_parts (is_sentence signatures (scope_of classes) s) (is_sentence signatures (scope_of classes) t) is in
      WSat-imp (reduced reductions next tracks s) (reduced reductions next tracks t) a
      (Means known (env_of local) s) (Means known (env_of local) t)
      (WSat-sentence s classes a next tracks local fits parts.0) (WSat-sentence t classes a next tracks local fits parts.1)
  WSat-sentence (joined Connective.And s t) classes a next tracks local fits is =
      let parts = and_parts (is_sentence signatures (scope_of classes) s) (is_sentence signatures (scope_of classes) t) is in
      WSat-and (reduced reductions next tracks s) (reduced reductions next tracks t) a
      (Means known (env_of local) s) (Means known (env_of local) t)
      (WSat-sentence s classes a next tracks local fits parts.0) (WSat-sentence t classes a next tracks local fits parts.1)
  WSat-sentence (joined Connective.Or s t) classes a next tracks local fits is =
      let parts = and_parts (is_sentence signatures (scope_of classes) s) (is_sentence signatures (scope_of classes) t) is in
      WSat-or (reduced reductions next tracks s) (reduced reductions next tracks t) a
      (Means known (env_of local) s) (Means known (env_of local) t)
      (WSat-sentence s classes a next tracks local fits parts.0) (WSat-sentence t classes a next tracks local fits parts.1)
  WSat-sentence (joined Connective.Iff s t) classes a next tracks local fits is =
      let parts = and_parts (is_sentence signatures (scope_of classes) s) (is_sentence signatures (scope_of classes) t) is in
      WSat-iff (reduced reductions next tracks s) (reduced reductions next tracks t) a
      (Means known (env_of local) s) (Means known (env_of local) t)
      (WSat-sentence s classes a next tracks local fits parts.0) (WSat-sentence t classes a next tracks local fits parts.1)
  WSat-sentence (quantified Quantifier.Ex1 s) classes a next tracks local fits is =
      WSat-ex1 next (reduced reductions (suc next) (tracks ++ next ∷ []) s) a
      (λ u. Means known (with_value (env_of local) (place u)) s)
      (λ set u only.
      WSat-sentence s (classes ++ Class.Position ∷ []) (replace a next set) (suc next) (tracks ++ next ∷ []) (local ++ place u ∷ [])
      (Fits-next (scope_of classes) a next tracks (env_of local) Class.Position (place u) set fits only) is)
  WSat-sentence (quantified Quantifier.All1 s) classes a next tracks local fits is =
      WSat-all1 next (reduced reductions (suc next) (tracks ++ next ∷ []) s) a
      (λ u. Means known (with_value (env_of local) (place u)) s)
      (λ set u only.
      WSat-sentence s (classes ++ Class.Position ∷ []) (replace a next set) (suc next) (tracks ++ next ∷ []) (local ++ place u ∷ [])
      (Fits-next (scope_of classes) a next tracks (env_of local) Class.Position (place u) set fits only) is)
  WSat-sentence (quantified Quantifier.Ex2 s) classes a next tracks local fits is =
      WSat-ex2 next (reduced reductions (suc next) (tracks ++ next ∷ []) s) a
      (λ set. Means known (with_value (env_of local) (places set)) s)
      (λ set.
      WSat-sentence s (classes ++ Class.Set ∷ []) (replace a next set) (suc next) (tracks ++ next ∷ []) (local ++ places set ∷ [])
      (Fits-next (scope_of classes) a next tracks (env_of local) Class.Set (places set) set fits refl) is)
  WSat-sentence (quantified Quantifier.All2 s) classes a next tracks local fits is =
      WSat-all2 next (reduced reductions (suc next) (tracks ++ next ∷ []) s) a
      (λ set. Means known (with_value (env_of local) (places set)) s)
      (λ set.
      WSat-sentence s (classes ++ Class.Set ∷ []) (replace a next set) (suc next) (tracks ++ next ∷ []) (local ++ places set ∷ [])
      (Fits-next (scope_of classes) a next tracks (env_of local) Class.Set (places set) set fits refl) is)
