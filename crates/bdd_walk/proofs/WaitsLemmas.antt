-- The keys that wait, and the results that are kept.
use Rattle.std.proofs.Common.{◌≡◌, Bool, List, [], ◌∷◌, ◌++◌, reverse, Some, None, IsTrue, cond, sym, ◌∙◌, ap, subst, inl, inr}
use Rattle.std.proofs.lemmas.Bool.{cases_Bool}
use Rattle.std.proofs.lemmas.List.{reverse-append}
use Rattle.std.specs.HashMap.{get, IsEmpty, Updates}
use Rattle.std.specs.Map.{lookup}
use Rattle.bdd_nodes.specs.declared.node_ref.NodeRef.{NodeRef}
use Rattle.bdd_nodes.specs.Shelf.{Contents}
use Rattle.bdd_nodes.specs.Changes.{Keeps}
use Rattle.bdd_walk.specs.declared.walk.Frame.{Frame}
use Rattle.bdd_walk.specs.declared.walk.Frame.TheVariants.{Low, High, Skip}
use Rattle.bdd_walk.specs.Answers.{Answers, KeepsAnswers}
use Rattle.bdd_walk.specs.Stands.{Asking, Stands, AsksSame}
use Rattle.bdd_walk.specs.Waits.{Memo, IsMemo, IsResult, Respects, WaitsFor, AllWait, key_of}
use Rattle.bdd_walk.proofs.StandsLemmas.{Stands-kept, Stands-same}

AsksSame-sym : (f g : Asking) → AsksSame f g → AsksSame g f
unfolding AsksSame
AsksSame-sym f g same = λ label. sym (same label)

module _ {K : Type 0} (eq : K → K → Bool) (asked : K → Asking) (is_in : K → Bool) (old new : Contents) (answers more : Answers)
    (keeps : Keeps old new) (kept : KeepsAnswers answers more) where
  IsResult-kept : (key : K) (r : NodeRef) → IsResult asked is_in old answers key r → IsResult asked is_in new more key r
  IsResult-kept key r is_result = record {
    inside = is_result.inside;
    stands = Stands-kept old new answers more (asked key) r keeps kept is_result.stands;
  }

  -- one more result
  pub IsMemo-insert : (memo after : Memo K) (key : K) (made : NodeRef) → Respects eq asked is_in → IsTrue (is_in key) →
      IsMemo eq asked is_in old answers memo → Stands new more (asked key) made → Updates eq memo after key (Some made) →
      IsMemo eq asked is_in new more after
  unfolding IsMemo
  IsMemo-insert memo after key made respects inside is_memo stands updates = λ other r there. elim (cases_Bool (eq key other)) [
    | inl same ↦
        let found : Some made ≡ Some r = sym (updates.0 other ∙ ap (λ (b : Bool). cond b (Some made) (get eq memo other)) same) ∙ there in
        let is : made ≡ r = cc in
        record {
          inside = respects.inside key other same inside;
          stands = subst (Stands new more (asked other)) is
              (Stands-same new more (asked other) (asked key) made
              (AsksSame-sym (asked key) (asked other) (respects.asks key other same)) stands);
        }
    | inr apart ↦ IsResult-kept other r (is_memo other r (sym (updates.2 other apart) ∙ there))
  ]

-- results of one view of the keys are results of another, where the keys that are in ask the same
pub IsMemo-seen : {K : Type 0} (eq : K → K → Bool) (asked other : K → Asking) (is_in in_other : K → Bool) (old new : Contents)
    (answers more : Answers) (memo : Memo K) → Keeps old new → KeepsAnswers answers more →
    ((key : K) → IsTrue (is_in key) → IsTrue (in_other key)) →
    ((key : K) → IsTrue (is_in key) → AsksSame (other key) (asked key)) →
    IsMemo eq asked is_in old answers memo → IsMemo eq other in_other new more memo
unfolding IsMemo
IsMemo-seen {K} eq asked other is_in in_other old new answers more memo keeps kept stays same is_memo = λ key r there.
    let was = is_memo key r there in
    record {
      inside = stays key was.inside;
      stands = Stands-kept old new answers more (other key) r keeps kept
          (Stands-same old answers (other key) (asked key) r (same key was.inside) was.stands);
    }

-- an empty memo has no results
pub IsMemo-none : {K : Type 0} (eq : K → K → Bool) (asked : K → Asking) (is_in : K → Bool) (shelf : Contents)
    (answers : Answers) (memo : Memo K) → IsEmpty memo → IsMemo eq asked is_in shelf answers memo
unfolding IsMemo
IsMemo-none {K} eq asked is_in shelf answers memo empty = λ key r there.
    let none : get eq memo key ≡ None = ap (λ (entries : List (K × NodeRef)). lookup (eq key) entries) empty in
    absurd (let e : None ≡ Some r = sym none ∙ there in cc)

-- a result that is found stands for its key
pub memo-stands : {K : Type 0} (eq : K → K → Bool) (asked : K → Asking) (is_in : K → Bool) (shelf : Contents) (answers : Answers)
    (memo : Memo K) (key : K) (made : NodeRef) → get eq memo key ≡ Some made → IsMemo eq asked is_in shelf answers memo →
    Stands shelf answers (asked key) made
unfolding IsMemo
memo-stands eq asked is_in shelf answers memo key made found is_memo = (is_memo key made found).stands

module _ {K : Type 0} (asked : K → Asking) (is_in : K → Bool) (whole : Asking) where
  -- what waits goes on waiting
  WaitsFor-kept : (old new : Contents) (answers more : Answers) → Keeps old new → KeepsAnswers answers more →
      (frame : Frame K) (focus : Asking) → WaitsFor asked is_in old answers whole frame focus →
      WaitsFor asked is_in new more whole frame focus
  WaitsFor-kept old new answers more keeps kept (Low key track high) focus waits =
      record {
        inside = waits.inside;
        part = waits.part;
        due = record { inside = waits.due.inside; part = waits.due.part };
        split = waits.split;
      }
  WaitsFor-kept old new answers more keeps kept (High key track low) focus waits =
      record {
        inside = waits.inside;
        part = waits.part;
        side = waits.side;
        stands = Stands-kept old new answers more waits.side low keeps kept waits.stands;
        split = waits.split;
      }
  WaitsFor-kept old new answers more keeps kept (Skip key) focus waits = record { inside = waits.inside; same = waits.same }

  pub AllWait-kept : (old new : Contents) (answers more : Answers) → Keeps old new → KeepsAnswers answers more →
      (frames : List (Frame K)) (focus : Asking) → AllWait asked is_in old answers whole frames focus →
      AllWait asked is_in new more whole frames focus
  unfolding AllWait
  AllWait-kept old new answers more keeps kept [] focus waits = waits
  AllWait-kept old new answers more keeps kept (frame ∷ frames) focus waits =
      (WaitsFor-kept old new answers more keeps kept frame focus waits.0, AllWait-kept old new answers more keeps kept frames (asked (key_of frame)) waits.1)

  module _ (shelf : Contents) (answers : Answers) (stack : List (Frame K)) (frame : Frame K) (focus : Asking) where
    top_first : reverse (stack ++ frame ∷ []) ≡ frame ∷ reverse stack
    top_first = reverse-append stack (frame ∷ [])

    pub AllWait-push : WaitsFor asked is_in shelf answers whole frame focus →
        AllWait asked is_in shelf answers whole (reverse stack) (asked (key_of frame)) →
        AllWait asked is_in shelf answers whole (reverse (stack ++ frame ∷ [])) focus
    unfolding AllWait
    AllWait-push top rest = subst (λ (frames : List (Frame K)). AllWait asked is_in shelf answers whole frames focus) (sym top_first) (top, rest)

    pub AllWait-pop : AllWait asked is_in shelf answers whole (reverse (stack ++ frame ∷ [])) focus →
        WaitsFor asked is_in shelf answers whole frame focus
        × AllWait asked is_in shelf answers whole (reverse stack) (asked (key_of frame))
    unfolding AllWait
    AllWait-pop waits = subst (λ (frames : List (Frame K)). AllWait asked is_in shelf answers whole frames focus) top_first waits

  pub AllWait-none : (shelf : Contents) (answers : Answers) (focus : Asking) → AllWait asked is_in shelf answers whole [] focus → AsksSame whole focus
  unfolding AllWait
  AllWait-none shelf answers focus waits = waits
