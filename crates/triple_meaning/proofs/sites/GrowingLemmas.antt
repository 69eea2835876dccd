-- Parts of code one after the other: tracks and places that are added, and what each part leads to.
use Rattle.std.proofs.Common.{◌≡◌, ◌⊎◌, inl, inr, ℕ, List, [], ◌++◌, length, All, Ok, Err, refl, sym, ap, ◌∙◌, subst, arith, append-nil, append_assoc}
use Rattle.std.proofs.lemmas.List.{length-append}
use Rattle.gta_theory.specs.Assignments.{Assignment}
use Rattle.ws2s_core.specs.Satisfaction.{WSat}
use Rattle.store_core.specs.Tables.{TypeEntry, VarEntry}
use Rattle.store_core.specs.Stores.{StoreMap}
use Rattle.store_exec.specs.declared.fault.Fault.{Fault}
use Rattle.store_exec.specs.Runs.{Ending}
use Rattle.graph_view.specs.After.{Standing, IsTaken, IsGuard, IsGuardBelow}
use Rattle.site_list.specs.States.{Text, Check, State}
use Rattle.triple_meaning.specs.Sites.Places.{NoneComes}
use Rattle.triple_meaning.specs.Sites.Seeing.{HasRoom, AreDefined, Sees}
use Rattle.triple_meaning.specs.Sites.Doing.{Follows, IsIdle, Leads}
use Rattle.triple_meaning.proofs.sites.PlacesLemmas.{All-left, none-none, none-append, first-left, first-right}

-- a list that begins with another
abbrev pub Longer : {X : Type 0} → List X → List X → List X → Type 0
Longer xs more ys = ys ≡ xs ++ more

pub longer-then : {X : Type 0} (xs ys zs more others : List X) → Longer xs more ys → Longer ys others zs → Longer xs (more ++ others) zs
longer-then xs ys zs more others one two = two ∙ ap (λ l. l ++ others) one ∙ append_assoc xs more others

pub room-longer : (types : List TypeEntry) (vars : List VarEntry) (next : ℕ) (s after : State) (made : List Text) → Longer s.defined made after.defined →
    HasRoom types vars next after → HasRoom types vars next s
room-longer types vars next s after made longer room =
    let same : length after.defined ≡ length (s.defined ++ made) = ap length longer in
    let more = length-append s.defined made in omega (arith, room, same, more)

pub defined-longer : (next : ℕ) (a : Assignment) (s after : State) (made : List Text) → Longer s.defined made after.defined → AreDefined next a after →
    AreDefined next a s
defined-longer next a s after made longer defined =
    All-left (λ (text : Text). WSat (text next) a) s.defined made
    (subst (λ (texts : List Text). All (λ (text : Text). WSat (text next) a) texts) longer defined)

module _ (types : List TypeEntry) (vars : List VarEntry) where
  -- what follows places at which none comes
  pub follows-right : (next : ℕ) (a : Assignment) (first : StoreMap) (after : State) (cs ds : List Check) (end : Ending) → NoneComes next a cs →
      Follows types vars next a first after ds end → Follows types vars next a first after (cs ++ ds) end
  follows-right next a first after cs ds (Ok u) none follows = (follows.0, none-append next a cs ds none follows.1)
  follows-right next a first after cs ds (Err fault) none follows = first-right next a cs ds fault.cause fault.line none follows

  pub idle-then : (next : ℕ) (a : Assignment) (s mid after : State) (cs ds : List Check) → IsIdle types vars next a s mid cs →
      IsIdle types vars next a mid after ds → IsIdle types vars next a s after (cs ++ ds)
  idle-then next a s mid after cs ds one two = record {
    none = none-append next a cs ds one.none two.none;
    sees = λ first values t at seen. two.sees first values t at (one.sees first values t at seen);
  }

  -- ---- no part

  pub leads-none : (s : State) → Leads types vars s s (λ t end. end ≡ Ok t)
  leads-none s = record {
    made = [];
    defined = sym (append-nil s.defined);
    added = [];
    checks = sym (append-nil s.checks);
    guard = refl;
    count = refl;
    news = omega arith;
    below = λ next below room. below;
    reached = λ next a first t at end sees room defined taken ends.
        subst (λ e. Follows types vars next a first s [] e) (sym ends) ((at, sees), none-none next a);
    idle = λ next a finite room defined below guarded passed. record { none = none-none next a; sees = λ first values t at seen. seen };
  }

  -- ---- one part, and then others

  -- the one ends in a store from which the others go on, or a fault stops all
  abbrev pub Onwards : (StoreMap → Ending → Type 0) → (StoreMap → Ending → Type 0) → StoreMap → Ending → Type 0
  Onwards One Others t end =
      ((u : StoreMap) × One t (Ok u) × Others u end) ⊎ ((fault : Fault) × One t (Err fault) × (end ≡ Err fault))

  module _ (s mid after : State) (One Others : StoreMap → Ending → Type 0) (one : Leads types vars s mid One) (others : Leads types vars mid after Others) where
    then-follows : (next : ℕ) (a : Assignment) (first t : StoreMap) (at : Standing) (end : Ending) → Sees types vars next a first s t at →
        HasRoom types vars next after → AreDefined next a after → IsTaken a s.guard → Onwards One Others t end →
        Follows types vars next a first after (one.added ++ others.added) end
    then-follows next a first t at end sees room defined taken (inl (u, ends_one, ends_others)) =
        let room_mid = room-longer types vars next mid after others.made others.defined room in
        let defined_mid = defined-longer next a mid after others.made others.defined defined in
        let (seen_mid, none) = one.reached next a first t at (Ok u) sees room_mid defined_mid taken ends_one in
        follows-right next a first after one.added others.added end none
        (others.reached next a first u (seen_mid.0) end (seen_mid.1) room defined (subst (λ g. IsTaken a g) (sym one.guard) taken) ends_others)
    then-follows next a first t at end sees room defined taken (inr (fault, ends_one, is)) =
        let room_mid = room-longer types vars next mid after others.made others.defined room in
        let defined_mid = defined-longer next a mid after others.made others.defined defined in
        let stops = one.reached next a first t at (Err fault) sees room_mid defined_mid taken ends_one in
        subst (λ e. Follows types vars next a first after (one.added ++ others.added) e) (sym is)
        (first-left next a one.added others.added fault.cause fault.line stops)

    pub leads-then : Leads types vars s after (Onwards One Others)
    leads-then = record {
      made = one.made ++ others.made;
      defined = longer-then s.defined mid.defined after.defined one.made others.made one.defined others.defined;
      added = one.added ++ others.added;
      checks = longer-then s.checks mid.checks after.checks one.added others.added one.checks others.checks;
      guard = others.guard ∙ one.guard;
      count = others.count ∙ one.count;
      news = (let less = one.news in let more = others.news in omega (arith, less, more));
      below = λ next below room.
          others.below next (one.below next below (room-longer types vars next mid after others.made others.defined room)) room;
      reached = then-follows;
      idle = λ next a finite room defined below guarded passed.
          let room_mid = room-longer types vars next mid after others.made others.defined room in
          let defined_mid = defined-longer next a mid after others.made others.defined defined in
          idle-then next a s mid after one.added others.added (one.idle next a finite room_mid defined_mid below guarded passed)
          (others.idle next a finite room defined (subst (λ g. IsGuardBelow next g) (sym one.guard) below) (subst (λ g. IsGuard a g) (sym one.guard) guarded)
          (λ h. passed (subst (λ g. IsTaken a g) one.guard h)));
    }
