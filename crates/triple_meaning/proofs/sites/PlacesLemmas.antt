-- Which causes come at places one after the other.
use Rattle.std.proofs.Common.{◌≡◌, ℕ, ◌+◌, List, [], ◌∷◌, ◌++◌, length, All, Result, Ok, Err, refl, sym, ap, ◌∙◌, subst, arith, append_assoc}
use Rattle.std.proofs.lemmas.List.{length-append, get_or_append_left, get_or-append-add}
use Rattle.std.proofs.lemmas.List.Elements.{All-nil, All-cons, All-append}
use Rattle.gta_theory.specs.Assignments.{Assignment}
use Rattle.store_exec.specs.declared.cause.Cause.{Cause}
use Rattle.store_exec.specs.Steps.{and_then, made_of}
use Rattle.site_list.specs.States.{Check}
use Rattle.triple_meaning.specs.Sites.Places.{Comes, NoneComes, ComesFirst, StopsAs, Answers}

pub All-left : {X : Type 0} (P : X → Type 0) (xs ys : List X) → All P (xs ++ ys) → All P xs
All-left P xs ys all k d lt = subst P (get_or_append_left xs ys d k lt) (all k d (omega (arith, lt, length-append xs ys)))

pub All-right : {X : Type 0} (P : X → Type 0) (xs ys : List X) → All P (xs ++ ys) → All P ys
All-right P xs ys all k d lt = subst P (get_or-append-add xs ys k d) (all (length xs + k) d (omega (arith, lt, length-append xs ys)))

module _ (next : ℕ) (a : Assignment) where
  abbrev Not_here : Check → Type 0
  Not_here c = Comes next a c → ⊥

  pub none-none : NoneComes next a []
  none-none = All-nil Not_here

  pub none-cons : (c : Check) (cs : List Check) → (Comes next a c → ⊥) → NoneComes next a cs → NoneComes next a (c ∷ cs)
  none-cons c cs one others = All-cons Not_here c cs one others

  pub none-append : (cs ds : List Check) → NoneComes next a cs → NoneComes next a ds → NoneComes next a (cs ++ ds)
  none-append cs ds one other = All-append Not_here cs ds one other

  -- the first of places is the first of all where it stands in front
  pub first-left : (cs ds : List Check) (why : Cause) (line : ℕ) → ComesFirst next a cs why line → ComesFirst next a (cs ++ ds) why line
  first-left cs ds why line first = record {
    before = first.before;
    check = first.check;
    after = first.after ++ ds;
    order = ap (λ l. l ++ ds) first.order ∙ append_assoc first.before (first.check ∷ first.after) ds;
    none = first.none;
    comes = first.comes;
    is = first.is;
    at_line = first.at_line;
  }

  -- and where none comes in front of it
  pub first-right : (cs ds : List Check) (why : Cause) (line : ℕ) → NoneComes next a cs → ComesFirst next a ds why line →
      ComesFirst next a (cs ++ ds) why line
  first-right cs ds why line none first = record {
    before = cs ++ first.before;
    check = first.check;
    after = first.after;
    order = ap (λ l. cs ++ l) first.order ∙ sym (append_assoc cs first.before (first.check ∷ first.after));
    none = none-append cs first.before none first.none;
    comes = first.comes;
    is = first.is;
    at_line = first.at_line;
  }

  pub stops-left : {X : Type 0} (cs ds : List Check) (line : ℕ) (r : Result X Cause) → NoneComes next a ds → StopsAs next a cs line r →
      StopsAs next a (cs ++ ds) line r
  stops-left cs ds line (Ok x) none stops = none-append cs ds stops none
  stops-left cs ds line (Err why) none stops = first-left cs ds why line stops

  pub stops-right : {X : Type 0} (cs ds : List Check) (line : ℕ) (r : Result X Cause) → NoneComes next a cs → StopsAs next a ds line r →
      StopsAs next a (cs ++ ds) line r
  stops-right cs ds line (Ok x) none stops = none-append cs ds none stops
  stops-right cs ds line (Err why) none stops = first-right cs ds why line none stops

  -- ---- one answer after another

  pub answers-then : {X Y : Type 0} (cs ds : List Check) (line : ℕ) (r : Result X Cause) (step : X → Result Y Cause) (One : X → Type 0) (Two : Y → Type 0) →
      Answers next a cs line r One → ((x : X) → r ≡ Ok x → One x → Answers next a ds line (step x) Two) →
      Answers next a (cs ++ ds) line (and_then step r) Two
  answers-then cs ds line (Err why) step One Two first second = (first-left cs ds why line first.0, tt)
  answers-then cs ds line (Ok x) step One Two first second =
      let then = second x refl first.1 in (stops-right cs ds line (step x) first.0 then.0, then.1)

  pub answers-made : {X Y : Type 0} (cs : List Check) (line : ℕ) (r : Result X Cause) (make : X → Y) (One : X → Type 0) (Two : Y → Type 0) →
      ((x : X) → r ≡ Ok x → One x → Two (make x)) → Answers next a cs line r One → Answers next a cs line (made_of make r) Two
  answers-made cs line (Err why) make One Two so first = first
  answers-made cs line (Ok x) make One Two so first = (first.0, so x refl first.1)

  -- what is so of each answer that there is
  pub answers-so : {X : Type 0} (cs : List Check) (line : ℕ) (r : Result X Cause) (So : X → Type 0) → StopsAs next a cs line r →
      ((x : X) → r ≡ Ok x → So x) → Answers next a cs line r So
  answers-so cs line (Err why) So stops so = (stops, tt)
  answers-so cs line (Ok x) So stops so = (stops, so x refl)

  pub answers-weaker : {X : Type 0} (cs : List Check) (line : ℕ) (r : Result X Cause) (One Two : X → Type 0) → ((x : X) → One x → Two x) →
      Answers next a cs line r One → Answers next a cs line r Two
  answers-weaker cs line (Err why) One Two so first = first
  answers-weaker cs line (Ok x) One Two so first = (first.0, so x first.1)
