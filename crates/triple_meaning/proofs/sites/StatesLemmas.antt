-- States with tracks made and places passed, and meanings one after the other.
use Rattle.std.proofs.Common.{◌≡◌, ℕ, List, [], ◌++◌, Result, Ok, sym, ap, ◌∙◌, subst, arith, append_assoc, append-nil}
use Rattle.std.proofs.lemmas.List.{length-append}
use Rattle.gta_theory.specs.Assignments.{Assignment}
use Rattle.ws2s_core.specs.Satisfaction.{WSat}
use Rattle.store_core.specs.Tables.{TypeEntry, VarEntry}
use Rattle.store_core.specs.Stores.{StoreMap}
use Rattle.store_exec.specs.declared.cause.Cause.{Cause}
use Rattle.store_exec.specs.Steps.{and_then, made_of}
use Rattle.graph_view.specs.After.{Standing}
use Rattle.site_list.specs.States.{Text, Check, State}
use Rattle.triple_meaning.specs.Sites.Places.{NoneComes, Answers}
use Rattle.triple_meaning.specs.Sites.Seeing.{HasRoom, IsBelow, AreDefined, Sees, with_more}
use Rattle.triple_meaning.specs.Sites.Answering.{Means}
use Rattle.triple_meaning.proofs.sites.PlacesLemmas.{All-left, none-none, none-append, answers-then, answers-made}

-- ---- more tracks and places

pub more-none : (s : State) → s ≡ with_more [] [] s
more-none s = λ i. record s { defined = sym (append-nil s.defined) i; checks = sym (append-nil s.checks) i }

pub more-more : (made more : List Text) (added others : List Check) (s : State) →
    with_more more others (with_more made added s) ≡ with_more (made ++ more) (added ++ others) s
more-more made more added others s =
    λ i. record s { defined = append_assoc s.defined made more i; checks = append_assoc s.checks added others i }

-- from the answer of what comes first a further step leads on
pub record Goes {X Y : Type 0} (types : List TypeEntry) (vars : List VarEntry) (line : ℕ) (reached : Text) (mid after : State)
    (One : ℕ → Assignment → Standing → X → Type 0) (value : StoreMap → Result X Cause) (Two : ℕ → Assignment → Standing → Y → Type 0)
    (step : StoreMap → X → Result Y Cause) : Type 0 where
  pub made : List Text
  pub added : List Check
  pub is : after ≡ with_more made added mid
  pub idle : (next : ℕ) (a : Assignment) → (WSat (reached next) a → ⊥) → NoneComes next a added
  pub told : (next : ℕ) (a : Assignment) (first t : StoreMap) (at : Standing) (x : X) → value t ≡ Ok x → One next a at x →
      Sees types vars next a first mid t at → HasRoom types vars next after → AreDefined next a after → WSat (reached next) a →
      Answers next a added line (step t x) (Two next a at)

module _ (types : List TypeEntry) (vars : List VarEntry) where
  pub room-before : (next : ℕ) (made : List Text) (added : List Check) (s : State) → HasRoom types vars next (with_more made added s) →
      HasRoom types vars next s
  room-before next made added s room = omega (arith, room, length-append s.defined made)

  pub defined-before : (next : ℕ) (a : Assignment) (made : List Text) (added : List Check) (s : State) → AreDefined next a (with_more made added s) →
      AreDefined next a s
  defined-before next a made added s all = All-left (λ (text : Text). WSat (text next) a) s.defined made all

  pub below-more : (next : ℕ) (made : List Text) (added : List Check) (s : State) → IsBelow types vars s next →
      HasRoom types vars next (with_more made added s) → IsBelow types vars (with_more made added s) next
  below-more next made added s below room = record { made = room; guard = below.guard; values = below.values; events = below.events }

  pub sees-more : (next : ℕ) (a : Assignment) (first : StoreMap) (s : State) (t : StoreMap) (at : Standing) (made : List Text) (added : List Check) →
      Sees types vars next a first s t at → HasRoom types vars next (with_more made added s) →
      Sees types vars next a first (with_more made added s) t at
  sees-more next a first s t at made added sees room =
      record {
        over = sees.over;
        below = below-more next made added s sees.below room;
        guarded = sees.guarded;
        seen = sees.seen;
        fresh = sees.fresh;
        spare = sees.spare;
      }

  -- ---- meanings

  module _ (line : ℕ) (reached : Text) where
    -- nothing is read, and this is so of an answer
    pub means-at_once : {X : Type 0} (s : State) (Says : ℕ → Assignment → Standing → X → Type 0) (answer : StoreMap → X) →
        ((next : ℕ) (a : Assignment) (first t : StoreMap) (at : Standing) → Sees types vars next a first s t at → Says next a at (answer t)) →
        Means types vars line reached s s Says (λ t. Ok (answer t))
    means-at_once s Says answer so = record {
      made = [];
      added = [];
      is = more-none s;
      idle = λ next a out. none-none next a;
      told = λ next a first t at sees room defined here. (none-none next a, so next a first t at sees);
    }

    pub means-then : {X Y : Type 0} (s mid after : State) (One : ℕ → Assignment → Standing → X → Type 0) (value : StoreMap → Result X Cause)
        (Two : ℕ → Assignment → Standing → Y → Type 0) (step : StoreMap → X → Result Y Cause) → Means types vars line reached s mid One value →
        Goes types vars line reached mid after One value Two step → Means types vars line reached s after Two (λ t. and_then (step t) (value t))
    means-then {X} {Y} s mid after One value Two step first goes = record {
      made = first.made ++ goes.made;
      added = first.added ++ goes.added;
      is = whole;
      idle = λ next a out. none-append next a first.added goes.added (first.idle next a out) (goes.idle next a out);
      told = λ next a begin t at sees room defined here.
          let room_at : HasRoom types vars next (with_more goes.made goes.added mid) = subst (HasRoom types vars next) goes.is room in
          let defined_at : AreDefined next a (with_more goes.made goes.added mid) = subst (AreDefined next a) goes.is defined in
          let room_mid = room-before next goes.made goes.added mid room_at in
          let defined_mid = defined-before next a goes.made goes.added mid defined_at in
          let sees_mid = subst (λ u. Sees types vars next a begin u t at) (sym first.is)
          (sees-more next a begin s t at first.made first.added sees (subst (HasRoom types vars next) first.is room_mid)) in
          answers-then next a first.added goes.added line (value t) (step t) (One next a at) (Two next a at)
          (first.told next a begin t at sees room_mid defined_mid here)
          (λ x is so. goes.told next a begin t at x is so sees_mid room defined here);
    }
      where
        whole : after ≡ with_more (first.made ++ goes.made) (first.added ++ goes.added) s
        whole = goes.is ∙ ap (λ u. with_more goes.made goes.added u) first.is ∙ more-more first.made goes.made first.added goes.added s

    pub means-made : {X Y : Type 0} (s after : State) (One : ℕ → Assignment → Standing → X → Type 0) (value : StoreMap → Result X Cause)
        (Two : ℕ → Assignment → Standing → Y → Type 0) (make : StoreMap → X → Y) → Means types vars line reached s after One value →
        ((next : ℕ) (a : Assignment) (first t : StoreMap) (at : Standing) (x : X) → Sees types vars next a first s t at → value t ≡ Ok x →
        HasRoom types vars next after → One next a at x → Two next a at (make t x)) →
        Means types vars line reached s after Two (λ t. made_of (make t) (value t))
    means-made s after One value Two make first so = record {
      made = first.made;
      added = first.added;
      is = first.is;
      idle = first.idle;
      told = λ next a begin t at sees room defined here.
          answers-made next a first.added line (value t) (make t) (One next a at) (Two next a at)
          (λ x is one. so next a begin t at x sees is room one) (first.told next a begin t at sees room defined here);
    }

    pub below-after : {X : Type 0} (s after : State) (Says : ℕ → Assignment → Standing → X → Type 0) (answer : StoreMap → Result X Cause) (next : ℕ) →
        Means types vars line reached s after Says answer → IsBelow types vars s next → HasRoom types vars next after → IsBelow types vars after next
    below-after s after Says answer next means below room =
        subst (λ u. IsBelow types vars u next) (sym means.is)
        (below-more next means.made means.added s below (subst (HasRoom types vars next) means.is room))
