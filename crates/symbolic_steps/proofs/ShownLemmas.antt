-- How the steps of a walk are kept.
use Rattle.std.proofs.Common.{◌≡◌, ℕ, zero, suc, ◌+◌, ◌==◌, Bool, List, [], ◌∷◌, ◌++◌, length, slice_get, Some, None}
use Rattle.std.proofs.Common.{if◌then◌else◌, option_map, refl, sym, ap, ◌∙◌, inl, inr, arith, length-append}
use Rattle.std.proofs.lemmas.Bool.Decides.{eqb_tells}
use Rattle.std.proofs.lemmas.List.{length-map, map-append, reverse-reverse, reverse-append}
use Rattle.store_core.specs.Tables.{TypeEntry, VarEntry}
use Rattle.store_exec.specs.declared.cause.Cause.{Cause}
use Rattle.ws2s_core.specs.declared.formula.Formula.{Formula}
use Rattle.graph_view.specs.Sights.{Sight, sight_of, var_slots}
use Rattle.graph_view.specs.declared.view.Sym.{Sym}
use Rattle.graph_view.specs.declared.view.Sym.TheVariants.{At}
use Rattle.ws2s_core.specs.declared.track.Track.{Track}
use Rattle.ws2s_forms.specs.Forms.{track}
use Rattle.tree_encode.specs.Tracks.{track_count}
use Rattle.graph_view.specs.declared.view.Event.{Event}
use Rattle.graph_view.specs.Syms as syms
use Rattle.site_list.specs.States.{Text, Check, State, check, define, sight, make, next_track, happens, guard}
use Rattle.symbolic_steps.specs.declared.walker.Walker.{Walker}
use Rattle.symbolic_steps.specs.Shown.{place_formula, shown, checked, defining, happening}

-- ---- the store there

pub sight-shown : (vars : List VarEntry) (next wanted : ℕ) (s : State) → sight_of vars (shown next wanted s).view ≡ sight vars s
sight-shown vars next wanted s = ap (λ events. record { slots = var_slots vars; events = events; region = None }) (reverse-reverse s.events)

-- what is said of the store there
pub seen-shown : (vars : List VarEntry) (next wanted : ℕ) (s : State) (w : Walker) (says : Sight → ℕ → Formula) → w ≡ shown next wanted s →
    says (sight_of vars w.view) w.view.next ≡ says (sight vars s) next
seen-shown vars next wanted s w says is =
    ap (λ (v : Walker). says (sight_of vars v.view) v.view.next) is ∙ ap (λ seen. says seen next) (sight-shown vars next wanted s)

-- ---- tracks

pub defining-shown : (next wanted : ℕ) (s : State) (w : Walker) (text : Text) (formula : Formula) → formula ≡ text next → w ≡ shown next wanted s →
    defining formula w ≡ shown next wanted (define text s)
defining-shown next wanted s w text formula same is =
    ap (λ (v : Walker). defining formula v) is
    ∙ ap (λ f. defining f (shown next wanted s)) same
    ∙ ap (λ defined. record (shown next wanted s) { defined = defined }) (sym (map-append (λ (t : Text). t next) s.defined (text ∷ [])))

-- ---- places

-- a list with one more, at its end and before it
at-end : {X : Type 0} (xs : List X) (x : X) (k : ℕ) → length xs ≡ k → slice_get (xs ++ x ∷ []) k ≡ Some x
at-end [] x zero e = refl
at-end [] x (suc k) e = absurd (omega arith)
at-end (y ∷ xs) x zero e = absurd (omega arith)
at-end (y ∷ xs) x (suc k) e = at-end xs x k (omega arith)

before-end : {X : Type 0} (xs : List X) (x : X) (k : ℕ) → (length xs ≡ k → ⊥) → slice_get (xs ++ x ∷ []) k ≡ slice_get xs k
before-end [] x zero not = absurd (not refl)
before-end [] x (suc k) not = refl
before-end (y ∷ xs) x zero not = refl
before-end (y ∷ xs) x (suc k) not = before-end xs x k (λ e. not (omega arith))

one-more : {X Y : Type 0} (f : X → Y) (xs : List X) (x : X) (k : ℕ) →
    (if length xs == k then Some (f x) else option_map f (slice_get xs k)) ≡ option_map f (slice_get (xs ++ x ∷ []) k)
one-more f xs x k = elim (eqb_tells (length xs) k) [
  | inl w ↦ ap (λ (b : Bool). if b then Some (f x) else option_map f (slice_get xs k)) w.0 ∙ sym (ap (option_map f) (at-end xs x k w.1))
  | inr w ↦ ap (λ (b : Bool). if b then Some (f x) else option_map f (slice_get xs k)) w.0 ∙ sym (ap (option_map f) (before-end xs x k w.1))
]

pub checked-shown : (next wanted : ℕ) (line : ℕ) (why : Cause) (text condition : Text) (s : State) (w : Walker) (reached fails : Formula) →
    reached ≡ text next → fails ≡ condition next → w ≡ shown next wanted s →
    checked reached fails w ≡ shown next wanted (check line text why condition s)
checked-shown next wanted line why text condition s w reached fails reaches holds is =
    let c : Check = record { cause = why; line = line; reached = text; condition = condition } in
    ap (λ (v : Walker). checked reached fails v) is
    ∙ ap (λ r. checked r fails (shown next wanted s)) reaches
    ∙ ap (λ f. checked (text next) f (shown next wanted s)) holds
    ∙ ap (λ found. record (shown next wanted s) { passed = length s.checks + 1; found = found }) (one-more (place_formula next) s.checks c wanted)
    ∙ ap (λ n. record (shown next wanted (check line text why condition s)) { passed = n }) (sym (length-append s.checks (c ∷ [])))

-- the same of what is said of the store there
pub step-checked : (vars : List VarEntry) (next wanted line : ℕ) (why : Cause) (text : Text) (s : State) (old new : Walker) (reached : Formula)
    (says : Sight → List Sym → ℕ → Formula) → reached ≡ text next → old ≡ shown next wanted s →
    new ≡ checked reached (says (sight_of vars old.view) old.view.vars old.view.next) old →
    new ≡ shown next wanted (check line text why (λ n. says (sight vars s) s.values n) s)
step-checked vars next wanted line why text s old new reached says reaches is made =
    made ∙ checked-shown next wanted line why text (λ n. says (sight vars s) s.values n) s old reached
    (says (sight_of vars old.view) old.view.vars old.view.next)
    reaches
    (ap (λ (w : Walker). says (sight_of vars w.view) w.view.vars w.view.next) is
    ∙ ap (λ seen. says seen s.values next) (sight-shown vars next wanted s))
    is

-- ---- values on tracks that are made

pub own-shown : (types : List TypeEntry) (vars : List VarEntry) (next wanted : ℕ) (s : State) (w : Walker) (own : Track) → w ≡ shown next wanted s →
    own ≡ track (track_count types vars + length w.defined) → own ≡ track (next_track types vars s)
own-shown types vars next wanted s w own is owned =
    owned ∙ ap (λ (n : ℕ). track (track_count types vars + n)) (ap (λ (v : Walker). length v.defined) is ∙ length-map s.defined (λ (t : Text). t next))

pub make-made : (types : List TypeEntry) (vars : List VarEntry) (next wanted : ℕ) (s : State) (old new : Walker) (text : ℕ → Text) (own : Track)
    (definition : Formula) → old ≡ shown next wanted s → own ≡ track (track_count types vars + length old.defined) →
    definition ≡ text own.0 next → new ≡ defining definition old →
    (At own ≡ (make types vars text s).0) × (new ≡ shown next wanted ((make types vars text s).1))
make-made types vars next wanted s old new text own definition is owned defines made =
    let number : own ≡ track (next_track types vars s) = own-shown types vars next wanted s old own is owned in
    (ap At number, made ∙ defining-shown next wanted s old (text (next_track types vars s)) definition (defines ∙ ap (λ (t : Track). text t.0 next) number) is)

-- ---- changes of the heap, and guards

pub happening-shown : (next wanted : ℕ) (s : State) (old new : Walker) (event : Event) → old ≡ shown next wanted s → new ≡ happening event old →
    new ≡ shown next wanted (happens event s)
happening-shown next wanted s old new event is made =
    made ∙ ap (happening event) is
    ∙ ap (λ events. record (shown next wanted s) { view = record (shown next wanted s).view { events = events } })
    (sym (reverse-append (event ∷ []) s.events))

pub guard-shown : (next wanted : ℕ) (s : State) (w : Walker) (formula : Formula) → formula ≡ syms.guard w.view.next w.guard → w ≡ shown next wanted s →
    formula ≡ guard s next
guard-shown next wanted s w formula made is = made ∙ ap (λ (v : Walker). syms.guard v.view.next v.guard) is
