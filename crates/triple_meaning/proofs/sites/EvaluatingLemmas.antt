-- What is assigned: a cell that is read, a truth value on a track that is made, or a new cell.
use Rattle.std.proofs.Common.{◌≡◌, ◌↔◌, inl, inr, ℕ, ◌+◌, ◌<◌, ◌≤◌, Bool, true, false, IsTrue, IfSome, List, [], ◌∷◌, ◌++◌, Option, Some, None, Result, Ok, Err}
use Rattle.std.proofs.Common.{refl, sym, ap, subst, arith, append-nil}
use Rattle.std.proofs.lemmas.List.{length-append}
use Rattle.std.proofs.lemmas.List.Elements.{All-head}
use Rattle.gta_theory.specs.Assignments.{Position, Assignment, IsFinite, IsOnly}
use Rattle.ws2s_core.specs.declared.formula.Formula.TheVariants.{And, Not, Root}
use Rattle.ws2s_core.specs.Satisfaction.{WSat}
use Rattle.ws2s_core.proofs.SatisfactionLemmas.{WSat-And, WSat-Not, WSat-Root}
use Rattle.ws2s_forms.specs.Forms.{track, empty_at, slot}
use Rattle.ws2s_forms.specs.Places.{slot_of}
use Rattle.ws2s_forms.proofs.GoingLemmas.{WSat-slot}
use Rattle.ws2s_forms.proofs.LawsLemmas.{law-empty, law-or}
use Rattle.store_core.specs.declared.ids.CellId.{CellId}
use Rattle.store_core.specs.declared.ids.TypeId.{TypeId}
use Rattle.store_core.specs.declared.ids.VariantId.{VariantId}
use Rattle.store_core.specs.declared.value.Value.{Value}
use Rattle.store_core.specs.declared.value.Value.TheVariants as value
use Rattle.store_core.specs.Tables.{TypeEntry, VarEntry, KnowsVariant}
use Rattle.store_core.specs.Stores.{StoreMap, CellEntry, NamesType, put_cell}
use Rattle.store_laws.proofs.ChangeLemmas.{IsPut-put_cell}
use Rattle.store_laws.proofs.FitsLemmas.{Fits-put_cell}
use Rattle.store_laws.proofs.FreshLemmas.{IsFresh-put_cell}
use Rattle.store_logic.specs.declared.act.Rhs.{Rhs}
use Rattle.store_logic.specs.declared.act.Rhs.TheVariants as rhs
use Rattle.store_logic.specs.Sorts.{Sort, Truth, Cell, Set}
use Rattle.store_logic.specs.FitsCode.{RhsFits}
use Rattle.store_exec.specs.declared.cause.Cause.{Cause}
use Rattle.store_exec.specs.Steps.{and_then, made_of, truth_of}
use Rattle.store_exec.specs.Steps as exec
use Rattle.tree_store.proofs.WordsLemmas.{slots-apart}
use Rattle.graph_view.specs.declared.view.Sym.{Sym}
use Rattle.graph_view.specs.declared.view.Sym.TheVariants.{Null, At}
use Rattle.graph_view.specs.declared.view.Event.TheVariants.{New}
use Rattle.graph_view.specs.Sights.{var_slots}
use Rattle.graph_view.specs.After.{Standing, StandsForCell, StandsForTruth, StandsFor, IsSeen, IsTaken, IsGuard, new_cell, IsSymBelow, IsGuardBelow}
use Rattle.graph_meaning.specs.Live.Standing.{Sits}
use Rattle.graph_meaning.proofs.live.AgreeingLemmas.{Agrees-itself}
use Rattle.graph_meaning.proofs.live.SymsLemmas.{guard-means}
use Rattle.graph_meaning.proofs.live.StandingLemmas.{new-or-old, new-here, old-here, old-not_new}
use Rattle.site_list.specs.States.{Text, Check, State, Got, next_track, is_truth_of, guard}
use Rattle.site_list.specs.Reading.{Told, operand_value}
use Rattle.site_list.specs.Conditions.{condition}
use Rattle.site_list.specs.Acts.{made_truth, made_cell, evaluated}
use Rattle.triple_meaning.specs.Sites.Places.{Answers}
use Rattle.triple_meaning.specs.Sites.Seeing.{HasRoom, IsBelow, AreDefined, AreSpare, Sees}
use Rattle.triple_meaning.specs.Sites.Answering.{Means, Reads, Tells}
use Rattle.triple_meaning.specs.Sites.Doing.{IsIdle}
use Rattle.triple_meaning.proofs.sites.PlacesLemmas.{All-right, none-none, answers-made}
use Rattle.triple_meaning.proofs.sites.StatesLemmas.{sees-more, below-after, Goes, means-then}
use Rattle.triple_meaning.proofs.sites.LookingLemmas.{sees-sits}
use Rattle.triple_meaning.proofs.sites.ReadingLemmas.{come-operand}
use Rattle.triple_meaning.proofs.sites.TruthsLemmas.{IsToldAs}
use Rattle.triple_meaning.proofs.sites.ConditionsLemmas.{condition-means}
use Rattle.triple_meaning.proofs.sites.EventsLemmas.{seen-passed, seen-made}

-- a value that stood for a cell stands for it later, and the cell is of its type still
abbrev pub Stays : Assignment → StoreMap → Standing → StoreMap → Standing → Type 0
Stays a t at later places = (w : Sym) (o : Option CellId) (ty : TypeId) → StandsForCell a at w o → IfSome o (NamesType t ty) →
    StandsForCell a places w o × IfSome o (NamesType later ty)

-- the state sees the store with which evaluation ended, and the value is the one that is assigned
abbrev pub IsEvaluated : List TypeEntry → List VarEntry → ℕ → Assignment → StoreMap → State → Sym → StoreMap → Standing → StoreMap × Value → Type 0
IsEvaluated types vars next a first after w t at got =
    (places : Standing) × Sees types vars next a first after (got.0) places × StandsFor a places w (got.1) × Stays a t at (got.0) places

-- what evaluation of what is assigned means
pub record Evaluates (types : List TypeEntry) (vars : List VarEntry) (line : ℕ) (s : State) (got : Got)
    (answer : StoreMap → Result (StoreMap × Value) Cause) : Type 0 where
  pub made : List Text
  pub defined : (got.1).defined ≡ s.defined ++ made
  pub added : List Check
  pub checks : (got.1).checks ≡ s.checks ++ added
  pub same_guard : (got.1).guard ≡ s.guard
  pub same_values : (got.1).values ≡ s.values
  pub news : s.news ≤ (got.1).news
  pub below : (next : ℕ) → IsBelow types vars s next → HasRoom types vars next (got.1) → IsBelow types vars (got.1) next
  pub symbol : (next : ℕ) → IsBelow types vars (got.1) next → IsSymBelow next (got.0)
  pub idle : (next : ℕ) (a : Assignment) → IsFinite a → IsGuardBelow next s.guard → IsGuard a s.guard → (IsTaken a s.guard → ⊥) →
      IsIdle types vars next a s (got.1) added
  pub reached : (next : ℕ) (a : Assignment) (first t : StoreMap) (at : Standing) → Sees types vars next a first s t at → HasRoom types vars next (got.1) →
      AreDefined next a (got.1) → IsTaken a s.guard → Answers next a added line (answer t) (IsEvaluated types vars next a first (got.1) (got.0) t at)

module _ (types : List TypeEntry) (vars : List VarEntry) (line : ℕ) (s : State) where
  -- ---- guards

  pub reached-guard : (next : ℕ) (a : Assignment) → IsFinite a → IsGuardBelow next s.guard → WSat (guard s next) a ↔ IsTaken a s.guard
  reached-guard next a finite below = guard-means next a a next s.guard (Agrees-itself next a finite) (omega arith) below

  -- where nothing but tracks and places is added
  pub means-idle : {X : Type 0} (after : State) (Says : ℕ → Assignment → Standing → X → Type 0) (answer : StoreMap → Result X Cause)
      (means : Means types vars line (guard s) s after Says answer) (next : ℕ) (a : Assignment) → IsFinite a → IsGuardBelow next s.guard →
      (IsTaken a s.guard → ⊥) → IsIdle types vars next a s after means.added
  means-idle after Says answer means next a finite below passed = record {
    none = means.idle next a (λ h. passed ((reached-guard next a finite below).0 h));
    sees = λ first values t at seen.
        subst (λ (u : State). IsSeen types vars values u.events a first t at) (sym means.is) seen;
  }

  pub means-sees : {X : Type 0} (after : State) (Says : ℕ → Assignment → Standing → X → Type 0) (answer : StoreMap → Result X Cause)
      (means : Means types vars line (guard s) s after Says answer) (next : ℕ) (a : Assignment) (first t : StoreMap) (at : Standing) →
      Sees types vars next a first s t at → HasRoom types vars next after → Sees types vars next a first after t at
  means-sees after Says answer means next a first t at sees room =
      subst (λ u. Sees types vars next a first u t at) (sym means.is)
      (sees-more types vars next a first s t at means.made means.added sees (subst (HasRoom types vars next) means.is room))

  -- ---- what is read

  stays-same : (a : Assignment) (t : StoreMap) (at : Standing) → Stays a t at t at
  stays-same a t at w o ty stands typed = (stands, typed)

  pub reads-evaluates : (got : Got) (value : StoreMap → Result Value Cause) → Reads types vars line (guard s) s got value →
      Evaluates types vars line s got (λ t. made_of (λ x. (t, x)) (value t))
  reads-evaluates got value reads = record {
    made = reads.means.made;
    defined = ap (λ (u : State). u.defined) reads.means.is;
    added = reads.means.added;
    checks = ap (λ (u : State). u.checks) reads.means.is;
    same_guard = ap (λ (u : State). u.guard) reads.means.is;
    same_values = ap (λ (u : State). u.values) reads.means.is;
    news = (let same : (got.1).news ≡ s.news = ap (λ (u : State). u.news) reads.means.is in omega (arith, same));
    below = λ next below room. below-after types vars line (guard s) s (got.1) (λ next a at x. StandsFor a at (got.0) x) value next reads.means below room;
    symbol = reads.below;
    idle = λ next a finite below guarded passed.
        means-idle (got.1) (λ next a at x. StandsFor a at (got.0) x) value reads.means next a finite below passed;
    reached = λ next a first t at sees room defined taken.
        answers-made next a reads.means.added line (value t) (λ x. (t, x)) (λ x. StandsFor a at (got.0) x)
        (IsEvaluated types vars next a first (got.1) (got.0) t at)
        (λ x is stands. (
          at,
          means-sees (got.1) (λ next a at x. StandsFor a at (got.0) x) value reads.means next a first t at sees room,
          stands,
          stays-same a t at,
        ))
        (reads.means.told next a first t at sees room defined ((reached-guard next a sees.over.finite sees.below.guard).1 taken));
  }

  -- ---- truth values

  -- the track is the root exactly where it is true
  truth-stands : (next : ℕ) (a : Assignment) (at : Standing) (text : Text) (n : ℕ) (b : Bool) → IsFinite a → n < next →
      WSat (is_truth_of text n next) a → WSat (text next) a ↔ IsTrue b → StandsForTruth a (At (track n)) b
  truth-stands next a at text n b finite less defined told =
      elim ((law-or (And (Root (track n)) (text next)) (And (empty_at next n) (Not (text next))) a finite).0 defined)
      as (λ _. StandsForTruth a (At (track n)) b) [
        | inl holds ↦ (
            let both = (WSat-And (Root (track n)) (text next) a).0 holds in
            subst (λ k. StandsForTruth a (At (track n)) k) (sym (told.0 both.1)) ((WSat-Root (track n) a).0 both.0))
        | inr lacks ↦ (
            let both = (WSat-And (empty_at next n) (Not (text next)) a).0 lacks in
            by b (λ h. (WSat-Not (text next) a).0 both.1 (told.1 h)) ((law-empty next n a less).0 both.0))
      ]
    where
      by : (k : Bool) → (IsTrue k → ⊥) → ((p : Position) → a n p ≡ false) → StandsForTruth a (At (track n)) k
      by true out none = absurd (out refl)
      by false out none = none

  abbrev truth_text : Told → Text
  truth_text told = is_truth_of (told.0) (next_track types vars (told.1))

  truth-goes : (told : Told) (truth : StoreMap → Result Bool Cause) →
      Goes types vars line (guard s) (told.1) ((made_truth types vars told).1) (IsToldAs (told.0)) truth
      (λ next a at x. StandsFor a at ((made_truth types vars told).0) x) (λ t b. Ok (value.Bool b))
  truth-goes told truth = record {
    made = truth_text told ∷ [];
    added = [];
    is = λ i. record (told.1) { defined = (told.1).defined ++ truth_text told ∷ []; checks = sym (append-nil (told.1).checks) i };
    idle = λ next a out. none-none next a;
    told = λ next a first t at b is says sees room defined here. (
      none-none next a,
      truth-stands next a at (told.0) (next_track types vars (told.1)) b sees.over.finite (track-made next room)
          (All-head (λ (text : Text). WSat (text next) a) (truth_text told) []
          (All-right (λ (text : Text). WSat (text next) a) (told.1).defined (truth_text told ∷ []) defined)) says,
    );
  }
    where
      track-made : (next : ℕ) → HasRoom types vars next ((made_truth types vars told).1) → next_track types vars (told.1) < next
      track-made next room = (let more = length-append (told.1).defined (truth_text told ∷ []) in omega (arith, room, more))

  then-made : (t : StoreMap) (r : Result Bool Cause) → and_then (λ b. Ok (value.Bool b)) r ≡ made_of (λ b. value.Bool b) r
  then-made t (Err why) = refl
  then-made t (Ok b) = refl

  pub truth-reads : (told : Told) (truth : StoreMap → Result Bool Cause) → Tells types vars line (guard s) s told truth →
      Reads types vars line (guard s) s (made_truth types vars told) (λ t. made_of (λ b. value.Bool b) (truth t))
  truth-reads told truth tells = record {
    means = subst (λ v. Means types vars line (guard s) s ((made_truth types vars told).1) (λ next a at x. StandsFor a at ((made_truth types vars told).0) x) v)
        (λ i t. then-made t (truth t) i)
        (means-then types vars line (guard s) s (told.1) ((made_truth types vars told).1) (IsToldAs (told.0)) truth
        (λ next a at x. StandsFor a at ((made_truth types vars told).0) x) (λ t b. Ok (value.Bool b)) tells (truth-goes told truth));
    below = λ next below. track-made next below.made;
  }
    where
      track-made : (next : ℕ) → HasRoom types vars next ((made_truth types vars told).1) → next_track types vars (told.1) < next
      track-made next room = (let more = length-append (told.1).defined (truth_text told ∷ []) in omega (arith, room, more))

  -- ---- new cells

  module _ (v : VariantId) (known : KnowsVariant types v) where
    abbrev made : Got
    made = made_cell types vars v s

    abbrev slot_text : Text
    slot_text next = slot next (var_slots vars + s.news) (next_track types vars s)

    new-symbol : (next : ℕ) → HasRoom types vars next (made.1) → next_track types vars s < next
    new-symbol next room = (let more = length-append s.defined (slot_text ∷ []) in omega (arith, room, more))

    new-below : (next : ℕ) → IsBelow types vars s next → HasRoom types vars next (made.1) → IsBelow types vars (made.1) next
    new-below next below room = record { made = room; guard = below.guard; values = below.values; events = (below.guard, below.events) }

    abbrev place : Position
    place = slot_of (var_slots vars + s.news)

    new-stays : (a : Assignment) (t : StoreMap) (at : Standing) → Sits t at → Stays a t at (put_cell t types v) ((new_cell t, place) ∷ at)
    new-stays a t at sits Null None ty stands typed = (tt, tt)
    new-stays a t at sits Null (Some c) ty stands typed = absurd stands
    new-stays a t at sits (At x) None ty stands typed = (stands, tt)
    new-stays a t at sits (At x) (Some c) ty stands typed =
        let (p, only, here) = stands in
        let put = IsPut-put_cell types t v sits.above in (
          (p, only, old-here t at place c p here),
          subst (λ (o : Option CellEntry). IfSome o (λ cell. cell.variant.ty ≡ ty)) (sym (put.other_cells c (old-not_new t at c p sits here))) typed,
        )

    new-spare : (t : StoreMap) (at : Standing) → AreSpare vars s at → AreSpare vars (made.1) ((new_cell t, place) ∷ at)
    new-spare t at spare k above c here = elim (new-or-old t at place c (slot_of (var_slots vars + k)) here) as (λ _. ⊥) [
      | inl new ↦ (let same = slots-apart (var_slots vars + k) (var_slots vars + s.news) new.1 in let no : ⊥ = omega (arith, above, same) in no)
      | inr old ↦ spare k (omega (arith, above)) c old
    ]

    new-sees : (next : ℕ) (a : Assignment) (first t : StoreMap) (at : Standing) → Sees types vars next a first s t at → HasRoom types vars next (made.1) →
        IsTaken a s.guard → Sees types vars next a first (made.1) (put_cell t types v) ((new_cell t, place) ∷ at)
    new-sees next a first t at sees room taken = record {
      over = sees.over;
      below = new-below next sees.below room;
      guarded = sees.guarded;
      seen = seen-made types vars s.values s.events a first t at sees.seen s.news v s.guard known
          (Fits-put_cell types vars t v sees.seen.fits sees.fresh known) (sees-sits types vars next a first s t at sees) sees.guarded taken
          (λ c here. sees.spare s.news (omega arith) c here);
      fresh = IsFresh-put_cell types t v sees.fresh;
      spare = new-spare t at sees.spare;
    }

    pub new-evaluates : Evaluates types vars line s made (λ t. Ok (put_cell t types v, value.Cell (Some (new_cell t))))
    new-evaluates = record {
      made = slot_text ∷ [];
      defined = refl;
      added = [];
      checks = sym (append-nil s.checks);
      same_guard = refl;
      same_values = refl;
      news = omega arith;
      below = new-below;
      symbol = λ next below. new-symbol next below.made;
      idle = λ next a finite below guarded passed. record {
        none = none-none next a;
        sees = λ first values t at seen. seen-passed types vars values (New s.guard s.news v) s.events a first t at guarded passed seen;
      };
      reached = λ next a first t at sees room defined taken. (
        none-none next a,
        (
          (new_cell t, place) ∷ at,
          new-sees next a first t at sees room taken,
          (place, on-slot next a room defined, new-here t at place),
          new-stays a t at (sees-sits types vars next a first s t at sees),
        ),
      );
    }
      where
        on-slot : (next : ℕ) (a : Assignment) → HasRoom types vars next (made.1) → AreDefined next a (made.1) → IsOnly (a (next_track types vars s)) place
        on-slot next a room defined =
            (WSat-slot next (var_slots vars + s.news) (next_track types vars s) a (new-symbol next room)).0
            (All-head (λ (text : Text). WSat (text next) a) slot_text []
            (All-right (λ (text : Text). WSat (text next) a) s.defined (slot_text ∷ []) defined))

  -- ---- all forms

  evaluates-same : (got : Got) (one other : StoreMap → Result (StoreMap × Value) Cause) → ((t : StoreMap) → one t ≡ other t) →
      Evaluates types vars line s got one → Evaluates types vars line s got other
  evaluates-same got one other same evaluates = subst (λ v. Evaluates types vars line s got v) (λ i t. same t i) evaluates

  made-twice : (t : StoreMap) (r : Result Bool Cause) →
      made_of {Y = StoreMap × Value} (λ x. (t, x)) (made_of (λ b. value.Bool b) r) ≡ made_of (λ b. (t, value.Bool b)) r
  made-twice t (Err why) = refl
  made-twice t (Ok b) = refl

  pub rhs-evaluates : (x : Rhs) (sort : Sort) → RhsFits types vars x sort →
      Evaluates types vars line s (evaluated types vars line x s) (λ t. exec.evaluated types t x)
  rhs-evaluates (rhs.Cell p) Truth fits = absurd fits.0
  rhs-evaluates (rhs.Cell p) (Set ty) fits = absurd fits.0
  rhs-evaluates (rhs.Cell p) (Cell ty) fits =
      reads-evaluates (operand_value types vars line (guard s) p s) (λ t. exec.operand_value t p) (come-operand types vars line (guard s) s p ty fits.1).reads
  rhs-evaluates (rhs.New v) sort fits = new-evaluates v fits.0
  rhs-evaluates (rhs.Truth c) sort fits =
      let told : Told = condition types vars line c (guard s) s in
      evaluates-same (made_truth types vars told) (λ t. made_of {Y = StoreMap × Value} (λ x. (t, x)) (made_of (λ b. value.Bool b) (truth_of t c)))
      (λ t. made_of (λ b. (t, value.Bool b)) (truth_of t c)) (λ t. made-twice t (truth_of t c))
      (reads-evaluates (made_truth types vars told) (λ t. made_of (λ b. value.Bool b) (truth_of t c))
      (truth-reads told (λ t. truth_of t c) (condition-means types vars line c fits.0 (guard s) s)))
