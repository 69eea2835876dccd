-- Names, terms and their tracks.
use Rattle.std.proofs.Common.{◌≡◌, ◌≢◌, ℕ, suc, ◌+◌, ◌<◌, true, false, IsTrue, ◌↔◌, inl, inr, List, [], ◌∷◌, ◌++◌, length, fold}
use Rattle.std.proofs.Common.{reverse, Option, Some, None, slice_get, unwrap_or, refl, sym, ap, ◌∙◌, subst, arith, length-append}
use Rattle.std.proofs.lemmas.Bool.{false≢true}
use Rattle.std.proofs.lemmas.List.{reverse-reverse, reverse-append}
use Rattle.std.proofs.lemmas.List.Sums.{fold-append}
use Rattle.std.proofs.lemmas.Option.{slice_get_within}
use Rattle.gta_theory.specs.Assignments.{Position, PositionSet, Assignment, IsOnly, replace}
use Rattle.gta_theory.proofs.AssignmentsLemmas.{replace-same, replace-other}
use Rattle.gta_theory.proofs.ListedLemmas.{slice_get-front, slice_get-last, slice_get-push}
use Rattle.ws2s_core.specs.declared.formula.Formula.TheVariants.{Sub, Single}
use Rattle.ws2s_core.specs.Satisfaction.{WSat}
use Rattle.ws2s_core.proofs.SatisfactionLemmas.{WSat-Sub, WSat-Single, WSat-Succ0, WSat-Succ1, WSat-Root, WSat-And}
use Rattle.ws2s_syntax.specs.declared.name.Name.{Name}
use Rattle.ws2s_syntax.specs.declared.name.Name.TheVariants.{Free, Local}
use Rattle.ws2s_syntax.specs.declared.name.Successor.{Successor}
use Rattle.ws2s_syntax.specs.declared.name.Successor.TheVariants.{Zero, One}
use Rattle.ws2s_syntax.specs.declared.name.Base.{Base}
use Rattle.ws2s_syntax.specs.declared.name.Base.TheVariants.{Root, Variable}
use Rattle.ws2s_syntax.specs.declared.name.Term.{Term}
use Rattle.ws2s_syntax.specs.declared.declaration.Class.{Class}
use Rattle.ws2s_syntax.specs.Checked.{Scope, class_of, is_position_class, is_set_class, is_position, is_set, is_base, is_term, with_class}
use Rattle.ws2s_syntax.specs.Meaning.{Value, Env, value_of, position_in, set_in, position_of_base, child, position_of, with_value}
use Rattle.ws2s_forms.specs.Forms.{track}
use Rattle.ws2s_reduce.specs.Reducing.{track_of, succ_of, is_base_at, is_stepped_at, is_at}
use Rattle.ws2s_forms.proofs.PositionsLemmas.{IsOnly-inside, IsOnly-same, IsOnly-along, bound_same, bound_other, WSat-ex_at}

-- the set is what the value says: the one position, or the set itself
abbrev pub IsHeldAs : Class → PositionSet → Option Value → Type 0
IsHeldAs Class.Position set found = IsOnly set (position_in found)
IsHeldAs Class.Set set found = set ≡ set_in found

-- the track holds the value, and stands before the next
pub record IsHeld (a : Assignment) (next t : ℕ) (c : Class) (found : Option Value) : Type 0 where
  pub below : t < next
  pub same : IsHeldAs c (a t) found

-- the tracks of the visible names hold what the names stand for, and stand before the next
pub record Fits (scope : Scope) (a : Assignment) (next : ℕ) (tracks : List ℕ) (env : Env) : Type 0 where
  pub as_many_tracks : length tracks ≡ length scope.local
  pub as_many_values : length env.local ≡ length scope.local
  pub held : (x : Name) (c : Class) → class_of scope x ≡ Some c → IsHeld a next (track_of tracks x) c (value_of env x)

-- binding the next track keeps what the others hold
pub IsHeld-bound : (a : Assignment) (next t : ℕ) (c : Class) (found : Option Value) (set : PositionSet) →
    IsHeld a next t c found → IsHeld (replace a next set) (suc next) t c found
IsHeld-bound a next t c found set h = record {
  below = omega (arith, h.below);
  same = subst (λ s. IsHeldAs c s found) (sym (replace-other a next t set other)) h.same;
}
  where
    other : t ≢ next
    other e = let k : ⊥ = omega (arith, h.below) in k

pub Fits-bound : (scope : Scope) (a : Assignment) (next : ℕ) (tracks : List ℕ) (env : Env) (set : PositionSet) →
    Fits scope a next tracks env → Fits scope (replace a next set) (suc next) tracks env
Fits-bound scope a next tracks env set fits = record {
  as_many_tracks = fits.as_many_tracks;
  as_many_values = fits.as_many_values;
  held = λ x c e. IsHeld-bound a next (track_of tracks x) c (value_of env x) set (fits.held x c e);
}

-- no name of the item itself
pub Fits-none : (scope : Scope) (a : Assignment) (next : ℕ) (tracks : List ℕ) (env : Env) → Fits scope a next tracks env →
    Fits (record { free = scope.free; local = [] }) a next [] (record { free = env.free; local = [] })
Fits-none scope a next tracks env fits = record { as_many_tracks = refl; as_many_values = refl; held = held }
  where
    held : (x : Name) (c : Class) → class_of (record { free = scope.free; local = [] }) x ≡ Some c →
        IsHeld a next (track_of [] x) c (value_of (record { free = env.free; local = [] }) x)
    held (Free i) c e = fits.held (Free i) c e
    held (Local k) c e = let within : k < 0 = slice_get_within [] k c e in absurd (omega (arith, within))

-- one name more
pub Fits-with : (scope : Scope) (a : Assignment) (next : ℕ) (tracks : List ℕ) (env : Env) (t : ℕ) (c : Class) (v : Value) →
    Fits scope a next tracks env → IsHeld a next t c (Some v) →
    Fits (with_class scope c) a next (tracks ++ t ∷ []) (with_value env v)
Fits-with scope a next tracks env t c v fits new = record {
  as_many_tracks = length-append tracks (t ∷ []) ∙ ap (λ n. n + 1) fits.as_many_tracks ∙ sym (length-append scope.local (c ∷ []));
  as_many_values = length-append env.local (v ∷ []) ∙ ap (λ n. n + 1) fits.as_many_values ∙ sym (length-append scope.local (c ∷ []));
  held = held;
}
  where
    older : (k : ℕ) (d : Class) → slice_get scope.local k ≡ Some d →
        IsHeld a next (unwrap_or (slice_get (tracks ++ t ∷ []) k) 0) d (slice_get (env.local ++ v ∷ []) k)
    older k d e =
        let within : k < length scope.local = slice_get_within scope.local k d e in
        subst (λ r. IsHeld a next (unwrap_or r 0) d (slice_get (env.local ++ v ∷ []) k))
        (sym (slice_get-front tracks (t ∷ []) k (omega (arith, within, fits.as_many_tracks))))
        (subst (λ r. IsHeld a next (unwrap_or (slice_get tracks k) 0) d r)
        (sym (slice_get-front env.local (v ∷ []) k (omega (arith, within, fits.as_many_values))))
        (fits.held (Local k) d e))

    newest : (k : ℕ) (d : Class) → k ≡ length scope.local → c ≡ d →
        IsHeld a next (unwrap_or (slice_get (tracks ++ t ∷ []) k) 0) d (slice_get (env.local ++ v ∷ []) k)
    newest k d e same =
        subst (λ r. IsHeld a next (unwrap_or r 0) d (slice_get (env.local ++ v ∷ []) k))
        (sym (ap (slice_get (tracks ++ t ∷ [])) (e ∙ sym fits.as_many_tracks) ∙ slice_get-last tracks t))
        (subst (λ r. IsHeld a next t d r)
        (sym (ap (slice_get (env.local ++ v ∷ [])) (e ∙ sym fits.as_many_values) ∙ slice_get-last env.local v))
        (subst (λ d. IsHeld a next t d (Some v)) same new))

    held : (x : Name) (d : Class) → class_of (with_class scope c) x ≡ Some d →
        IsHeld a next (track_of (tracks ++ t ∷ []) x) d (value_of (with_value env v) x)
    held (Free i) d e = fits.held (Free i) d e
    held (Local k) d e =
        elim (slice_get-push scope.local c d k e)
        as (λ _. IsHeld a next (unwrap_or (slice_get (tracks ++ t ∷ []) k) 0) d (slice_get (env.local ++ v ∷ []) k)) [
          | inl old ↦ older k d old
          | inr last ↦ newest k d last.0 last.1
        ]

-- one name more, on the next track
pub Fits-next : (scope : Scope) (a : Assignment) (next : ℕ) (tracks : List ℕ) (env : Env) (c : Class) (v : Value) (set : PositionSet) →
    Fits scope a next tracks env → IsHeldAs c set (Some v) →
    Fits (with_class scope c) (replace a next set) (suc next) (tracks ++ next ∷ []) (with_value env v)
Fits-next scope a next tracks env c v set fits same =
    Fits-with scope (replace a next set) (suc next) tracks env next c v (Fits-bound scope a next tracks env set fits) (record {
      below = omega arith;
      same = subst (λ s. IsHeldAs c s (Some v)) (sym (replace-same a next set)) same;
    })

-- a name of a class
class_is_set : (found : Option Class) → IsTrue (is_set_class found) → found ≡ Some Class.Set
class_is_set None h = absurd (false≢true h)
class_is_set (Some Class.Position) h = absurd (false≢true h)
class_is_set (Some Class.Set) h = refl

class_is_position : (found : Option Class) → IsTrue (is_position_class found) → found ≡ Some Class.Position
class_is_position None h = absurd (false≢true h)
class_is_position (Some Class.Position) h = refl
class_is_position (Some Class.Set) h = absurd (false≢true h)

module _ (scope : Scope) (a : Assignment) (next : ℕ) (tracks : List ℕ) (env : Env) (fits : Fits scope a next tracks env) where
  pub held_set : (x : Name) → IsTrue (is_set scope x) → IsHeld a next (track_of tracks x) Class.Set (value_of env x)
  held_set x is = fits.held x Class.Set (class_is_set (class_of scope x) is)

  pub held_position : (x : Name) → IsTrue (is_position scope x) → IsHeld a next (track_of tracks x) Class.Position (value_of env x)
  held_position x is = fits.held x Class.Position (class_is_position (class_of scope x) is)

  -- a track is the base's position
  pub WSat-base : (base : Base) (b : ℕ) → IsTrue (is_base scope base) →
      WSat (is_base_at tracks base b) a ↔ IsOnly (a b) (position_of_base env base)
  WSat-base Root b is = WSat-Root (track b) a
  WSat-base (Variable x) b is = (
    (λ h.
        let both = (WSat-And (Single (track b)) (Sub (track b) (track (track_of tracks x))) a).0 h in
        let one = (WSat-Single (track b) a).0 both.0 in
        let inside = (WSat-Sub (track b) (track (track_of tracks x)) a).0 both.1 one.0 (IsOnly-inside (a b) one.0 one.1) in
        IsOnly-along (a b) one.0 (position_in (value_of env x)) (((held_position x is).same one.0).0 inside) one.1),
    (λ h.
        (WSat-And (Single (track b)) (Sub (track b) (track (track_of tracks x))) a).1 (
          (WSat-Single (track b) a).1 (position_in (value_of env x), h),
          (WSat-Sub (track b) (track (track_of tracks x)) a).1
              (λ p in_b. ((held_position x is).same p).1 ((h p).0 in_b)),
        )),
  )

-- a track is the child of the one that was bound
WSat-succ : (step : Successor) (a : Assignment) (next b : ℕ) (set : PositionSet) (w : Position) → b < next → IsOnly set w →
    WSat (succ_of step next b) (replace a next set) ↔ IsOnly (a b) (child w step)
WSat-succ Zero a next b set w below only = (
  (λ h.
      let u = (WSat-Succ0 (track next) (track b) (replace a next set)).0 h in
      let same = IsOnly-same set u.0 w ((bound_same a next set u.0).0 u.1) only in
      IsOnly-along (a b) (u.0 ++ false ∷ []) (w ++ false ∷ []) (ap (λ v. v ++ false ∷ []) same)
      ((bound_other a next b set (u.0 ++ false ∷ []) below).0 u.2)),
  (λ h.
      (WSat-Succ0 (track next) (track b) (replace a next set)).1 (
        w,
        (bound_same a next set w).1 only,
        (bound_other a next b set (w ++ false ∷ []) below).1 h,
      )),
)
WSat-succ One a next b set w below only = (
  (λ h.
      let u = (WSat-Succ1 (track next) (track b) (replace a next set)).0 h in
      let same = IsOnly-same set u.0 w ((bound_same a next set u.0).0 u.1) only in
      IsOnly-along (a b) (u.0 ++ true ∷ []) (w ++ true ∷ []) (ap (λ v. v ++ true ∷ []) same)
      ((bound_other a next b set (u.0 ++ true ∷ []) below).0 u.2)),
  (λ h.
      (WSat-Succ1 (track next) (track b) (replace a next set)).1 (
        w,
        (bound_same a next set w).1 only,
        (bound_other a next b set (w ++ true ∷ []) below).1 h,
      )),
)

-- the last step comes last
fold-last : (u : Position) (step : Successor) (earlier : List Successor) →
    fold child u (reverse (step ∷ earlier)) ≡ child (fold child u (reverse earlier)) step
fold-last u step earlier =
    ap (fold child u) (reverse-append (step ∷ []) earlier) ∙ fold-append child u (reverse earlier) (step ∷ [])

-- a track is the position that the steps lead to
WSat-stepped : (earlier : List Successor) (scope : Scope) (a : Assignment) (next : ℕ) (tracks : List ℕ) (env : Env)
    (base : Base) (b : ℕ) → Fits scope a next tracks env → IsTrue (is_base scope base) → b < next →
    WSat (is_stepped_at next tracks base earlier b) a ↔ IsOnly (a b) (fold child (position_of_base env base) (reverse earlier))
WSat-stepped [] scope a next tracks env base b fits is below = WSat-base scope a next tracks env fits base b is
WSat-stepped (step ∷ earlier) scope a next tracks env base b fits is below =
    subst (λ w. WSat (is_stepped_at next tracks base (step ∷ earlier) b) a ↔ IsOnly (a b) w)
    (sym (fold-last (position_of_base env base) step earlier))
    (WSat-ex_at next (is_stepped_at (suc next) tracks base earlier next) (succ_of step next b) a
    (fold child (position_of_base env base) (reverse earlier))
    (IsOnly (a b) (child (fold child (position_of_base env base) (reverse earlier)) step))
    (λ set.
    let whole = WSat-stepped earlier scope (replace a next set) (suc next) tracks env base next
    (Fits-bound scope a next tracks env set fits) is (omega arith) in
    let same = bound_same a next set (fold child (position_of_base env base) (reverse earlier)) in
    ((λ h. same.0 (whole.0 h)), (λ h. whole.1 (same.1 h))))
    (λ set only. WSat-succ step a next b set (fold child (position_of_base env base) (reverse earlier)) below only))

-- a track is the term's position
pub WSat-is_at : (scope : Scope) (a : Assignment) (next : ℕ) (tracks : List ℕ) (env : Env) (t : Term) (b : ℕ) →
    Fits scope a next tracks env → IsTrue (is_term scope t) → b < next →
    WSat (is_at next tracks t b) a ↔ IsOnly (a b) (position_of env t)
WSat-is_at scope a next tracks env t b fits is below =
    subst (λ steps. WSat (is_at next tracks t b) a ↔ IsOnly (a b) (fold child (position_of_base env t.base) steps))
    (reverse-reverse t.steps) (WSat-stepped (reverse t.steps) scope a next tracks env t.base b fits is below)

-- the bound track is the term's position
pub WSat-bound_term : (scope : Scope) (a : Assignment) (next : ℕ) (tracks : List ℕ) (env : Env) (t : Term) (set : PositionSet) →
    Fits scope a next tracks env → IsTrue (is_term scope t) →
    WSat (is_at (suc next) tracks t next) (replace a next set) ↔ IsOnly set (position_of env t)
WSat-bound_term scope a next tracks env t set fits is =
    let whole = WSat-is_at scope (replace a next set) (suc next) tracks env t next
    (Fits-bound scope a next tracks env set fits) is (omega arith) in
    let same = bound_same a next set (position_of env t) in
    ((λ h. same.0 (whole.0 h)), (λ h. whole.1 (same.1 h)))
