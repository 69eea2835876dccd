-- Changes one after the other, and what is chosen.
use Rattle.std.proofs.Common.{◌≡◌, ◌≢◌, ℕ, Bool, true, false, ◌<◌, if◌then◌else◌, List, [], ◌∷◌, Option, Some, refl, sym, ◌∙◌, ap, eq-eqb, ne_eqb, arith}
use Rattle.bdd_nodes.specs.Shelf.{Contents, IsShelf}
use Rattle.bdd_nodes.proofs.CallerLemmas.{Keeps-refl, Keeps-trans}
use Rattle.bdd_walk.specs.Answers.{KeepsAnswers}
use Rattle.gta_pinned.specs.Making.{Makes, where_same, chosen, chosen_of}

pub Makes-refl : (shelf : Contents) → IsShelf shelf → Makes shelf shelf
Makes-refl shelf is_shelf = record { keeps = Keeps-refl shelf; tables = refl; same_limit = refl; now = is_shelf }

pub Makes-trans : (old middle new : Contents) → Makes old middle → Makes middle new → Makes old new
Makes-trans old middle new first second = record {
  keeps = Keeps-trans old middle new first.keeps second.keeps;
  tables = second.tables ∙ first.tables;
  same_limit = second.same_limit ∙ first.same_limit;
  now = second.now;
}

pub chosen-there : (state test other : ℕ) → test ≡ 1 → chosen state test other ≡ state
chosen-there state test other is = ap (λ (b : Bool). if b then state else other) (eq-eqb test 1 is)

pub chosen-elsewhere : (state test other : ℕ) → test ≢ 1 → chosen state test other ≡ other
chosen-elsewhere state test other isnt = ap (λ (b : Bool). if b then state else other) (ne_eqb test 1 isnt)

-- what the rule answered at the end is what is chosen
pub chosen-answer : (state test other answer : ℕ) (new : List ℕ → Option ℕ) → KeepsAnswers (chosen_of state) new →
    new (test ∷ other ∷ []) ≡ Some answer → answer ≡ chosen state test other
chosen-answer state test other answer new keeps is =
    let e : ◌≡◌ {A = Option ℕ} (Some answer) (Some (chosen state test other)) = sym is ∙ keeps (test ∷ other ∷ []) (chosen state test other) refl in cc

pub where_same-there : (b c : Bool) (state : ℕ) → b ≡ c → where_same b c state ≡ state
where_same-there true true state same = refl
where_same-there false false state same = refl
where_same-there true false state same = absurd cc
where_same-there false true state same = absurd cc

-- what isn't 0 tells that the bits are the same
pub where_same-one : (b c : Bool) (state : ℕ) → where_same b c state ≡ 1 → (b ≡ c) × (state ≡ 1)
where_same-one true true state is = (refl, is)
where_same-one false false state is = (refl, is)
where_same-one true false state is = absurd (omega arith)
where_same-one false true state is = absurd (omega arith)

pub where_same-small : (b c : Bool) (state : ℕ) → state < 2 → where_same b c state < 2
where_same-small true true state small = small
where_same-small false false state small = small
where_same-small true false state small = omega arith
where_same-small false true state small = omega arith
