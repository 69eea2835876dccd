-- Steps of the reader as moves.
use Rattle.std.proofs.Common.{◌≡◌, ℕ, List, [], ◌∷◌, ◌++◌, map, Option, Some, None, sym, ◌∙◌, ap, subst, refl, append-nil}
use Rattle.std.proofs.Common.{append_assoc, Result, Ok, Err, ◌==◌, Bool, true, false, length}
use Rattle.std.proofs.lemmas.List.{map-append, nil_from_length}
use Rattle.std.proofs.lemmas.Bool.{eqb-true}
use Rattle.std.specs.Prelude.{IfOk}
use Rattle.ll1_reader.specs.declared.symbol.Symbol.{Symbol}
use Rattle.ll1_reader.specs.declared.symbol.Symbol.TheVariants.{Read, Open, Once, Maybe, Many, Act}
use Rattle.ll1_reader.specs.declared.step.Fed.{Fed}
use Rattle.ll1_reader.specs.declared.step.Fed.TheVariants as fed
use Rattle.ll1_reader.specs.declared.work.Work.{Work}
use Rattle.ll1_reader.specs.declared.work.Frame.{Frame}
use Rattle.ll1_reader.proofs.FrameLemmas.{pile-last}
use Rattle.ll1_reader.specs.Grammars.{Rules}
use Rattle.ll1_reader.specs.Predicting.{Table}
use Rattle.ll1_reader.specs.Readings.{Stack, Bottom, Row, Step}
use Rattle.ll1_reader.specs.Answers.{event_of}
use Rattle.ll1_reader.specs.Moves.{IsMove, AreMoves, stay, move, IsTake, IsTooDeep, IsStuck, IsReady}
use Rattle.ll1_reader.specs.Frames.{pile, stack_of}
use Rattle.ll1_reader.specs.Advancing.{MovesOnce, StaysReady, Takes, TakesToken, Exposed, Sticks, IsFed, IsFinished}

module _ {N P A K : Type 0} (rules : Rules N P A K) (table : Table N P K) where
  pub moves_by : (next : Option K) (row row' : List (Symbol N A K)) (d : ℕ) (t : Stack N A K) (done : List (Step A)) (old new : Work N A K) →
      row ≡ row' → IsMove rules table next (Row row' d (stack_of old)) t done → stack_of new ≡ t → new.events ≡ old.events ++ map event_of done →
      MovesOnce rules table next (Row row d (stack_of old)) old new
  moves_by next row row' d t done old new same m to events = record {
    done = done;
    moved =
        subst (λ x. IsMove rules table next (Row x d (stack_of old)) (stack_of new) done) (sym same)
        (subst (λ x. IsMove rules table next (Row row' d (stack_of old)) x done) (sym to) m);
    happened = events;
  }

  -- a move that puts one row on another
  pub moves_by_two : (next : Option K) (row row' rest r r' : List (Symbol N A K)) (d : ℕ) (old new : Work N A K) →
      row ≡ row' → IsMove rules table next (Row row' d (stack_of old)) (Row r' d (Row rest d (stack_of old))) [] →
      stack_of new ≡ Row r d (Row rest d (stack_of old)) → r ≡ r' → new.events ≡ old.events →
      MovesOnce rules table next (Row row d (stack_of old)) old new
  moves_by_two next row row' rest r r' d old new same m both production one =
      moves_by next row row' d (Row r' d (Row rest d (stack_of old))) [] old new same m
      (both ∙ ap (λ x. Row x d (Row rest d (stack_of old))) production) (one ∙ sym (append-nil old.events))

  -- a move that does nothing but put a row on
  pub moves_by_one : (next : Option K) (row row' r : List (Symbol N A K)) (d : ℕ) (old new : Work N A K) →
      row ≡ row' → IsMove rules table next (Row row' d (stack_of old)) (Row r d (stack_of old)) [] →
      stack_of new ≡ Row r d (stack_of old) → new.events ≡ old.events →
      MovesOnce rules table next (Row row d (stack_of old)) old new
  moves_by_one next row row' r d old new same m to one =
      moves_by next row row' d (Row r d (stack_of old)) [] old new same m to (one ∙ sym (append-nil old.events))

  -- a token that was read
  pub takes_by : (limit : ℕ) (k : K) (row row' : List (Symbol N A K)) (d : ℕ) (t : Stack N A K) (step : Step A) (old new : Work N A K) →
      row ≡ row' → IsTake limit k (Row row' d (stack_of old)) t step → stack_of new ≡ t → new.events ≡ old.events ++ event_of step ∷ [] →
      Takes rules table limit k (Row row d (stack_of old)) old new
  takes_by limit k row row' d t step old new same m to events = record {
    step = step;
    taken =
        subst (λ x. IsTake limit k (Row x d (stack_of old)) (stack_of new) step) (sym same)
        (subst (λ x. IsTake limit k (Row row' d (stack_of old)) x step) (sym to) m);
    happened = events;
  }

  -- moves after moves
  pub moves_then : {next : Option K} {s t : Stack N A K} {a : List (Step A)} → AreMoves rules table next s t a →
      (u : Stack N A K) (b : List (Step A)) → AreMoves rules table next t u b → AreMoves rules table next s u (a ++ b)
  moves_then (stay s) u b n = n
  moves_then {next = next} (move s t v done more m ms) u b n =
      subst (λ (x : List (Step A)). AreMoves rules table next s u x) (sym (append_assoc done more b)) (move s t u done (more ++ b) m (moves_then ms u b n))

  pub one_move : (next : Option K) (s t : Stack N A K) (a : List (Step A)) → IsMove rules table next s t a → AreMoves rules table next s t a
  one_move next s t a m = subst (λ (x : List (Step A)). AreMoves rules table next s t x) (append-nil a) (move s t t a [] m (stay t))

  -- what is told of a reader that goes on between two tokens
  pub record Exposing (next : Option K) (first now : Work N A K) : Type 0 where
    pub done : List (Step A)
    pub moved : AreMoves rules table next (stack_of first) (stack_of now) done
    pub happened : now.events ≡ first.events ++ map event_of done

  pub exposing_first : (next : Option K) (w : Work N A K) → Exposing next w w
  exposing_first next w = record { done = []; moved = stay (stack_of w); happened = sym (append-nil w.events) }

  -- the frame that was taken off stood on top
  pub popped : (frames rest : List (Frame N A K)) (frame : Frame N A K) → frames ≡ rest ++ frame ∷ [] →
      pile frames Bottom ≡ Row frame.rest.now frame.depth (pile rest Bottom)
  popped frames rest frame e = ap (λ x. pile x Bottom) e ∙ pile-last rest frame Bottom

  -- after one more move
  pub exposing_more : (next : Option K) (row : List (Symbol N A K)) (d : ℕ) (first now old new : Work N A K) →
      Exposing next first now → stack_of now ≡ Row row d (stack_of old) → old.events ≡ now.events →
      MovesOnce rules table next (Row row d (stack_of old)) old new → Exposing next first new
  exposing_more next row d first now old new e top same m = record {
    done = e.done ++ m.done;
    moved =
        moves_then e.moved (stack_of new) m.done
        (one_move next (stack_of now) (stack_of new) m.done (subst (λ x. IsMove rules table next x (stack_of new) m.done) (sym top) m.moved));
    happened = m.happened ∙ ap (λ x. x ++ map event_of m.done) (same ∙ e.happened) ∙ append_assoc first.events (map event_of e.done) (map event_of m.done)
        ∙ ap (λ x. first.events ++ x) (sym (map-append event_of e.done m.done));
  }

  -- where a token was found on top
  pub exposed_by : (next : Option K) (row : List (Symbol N A K)) (d : ℕ) (first now old new : Work N A K) →
      Exposing next first now → stack_of now ≡ Row row d (stack_of old) → old.events ≡ now.events →
      StaysReady rules table (Row row d (stack_of old)) old new → Exposed rules table next first new
  exposed_by next row d first now old new e top same r = record {
    done = e.done;
    moved = subst (λ x. AreMoves rules table next (stack_of first) x e.done) (top ∙ sym r.same) e.moved;
    ready = subst IsReady (sym r.same) r.ready;
    happened = r.happened ∙ same ∙ e.happened;
  }

  -- where nothing begins with what comes next
  pub sticks_by : (next : Option K) (row : List (Symbol N A K)) (d : ℕ) (first now old : Work N A K) → Exposing next first now →
      stack_of now ≡ Row row d (stack_of old) →
      IsStuck rules table next (Row row d (stack_of old)) → Sticks rules table next (stack_of first)
  sticks_by next row d first now old e top s =
      record { there = stack_of now; done = e.done; moved = e.moved; stuck = subst (IsStuck rules table next) (sym top) s }

  -- a token that was fed: moves, and then the token
  pub fed_by : {E : Type 0} (limit : ℕ) (k : K) (row : List (Symbol N A K)) (d : ℕ) (first mid old new : Work N A K) (r : Result Fed E) →
      Exposed rules table (Some k) first mid →
      stack_of mid ≡ Row row d (stack_of old) → old.events ≡ mid.events →
      IfOk r (TakesToken rules table limit k row d old new) → IfOk r (IsFed rules table limit k first new)
  fed_by limit k row d first mid old new (Err e) x top same t = tt
  fed_by limit k row d first mid old new (Ok fed.Read) x top same t = record {
    there = stack_of mid;
    done = x.done;
    step = t.step;
    moved = x.moved;
    taken = subst (λ y. IsTake limit k y (stack_of new) t.step) (sym top) t.taken;
    happened = t.happened ∙ ap (λ y. y ++ event_of t.step ∷ []) (same ∙ x.happened) ∙ append_assoc first.events (map event_of x.done) (event_of t.step ∷ [])
        ∙ ap (λ y. first.events ++ y) (sym (map-append event_of x.done (t.step ∷ [])));
  }
  fed_by limit k row d first mid old new (Ok fed.Wrong) x top same t =
      record { there = stack_of mid; done = x.done; moved = x.moved; stuck = subst (IsStuck rules table (Some k)) (sym top) t }
  fed_by limit k row d first mid old new (Ok fed.Deep) x top same t =
      record { there = stack_of mid; done = x.done; moved = x.moved; deep = subst (IsTooDeep limit k) (sym top) t }

  -- ---- at the end

  pile-row : (frames : List (Frame N A K)) (row : List (Symbol N A K)) (d : ℕ) (below : Stack N A K) → pile frames (Row row d below) ≡ Bottom → ⊥
  pile-row [] row d below e = cc
  pile-row (frame ∷ frames) row d below e = pile-row frames frame.rest.now frame.depth (Row row d below) e

  stuck_at_end : (s : Stack N A K) → IsReady s → (s ≡ Bottom → ⊥) → IsStuck rules table None s
  stuck_at_end Bottom r f = absurd (f refl)
  stuck_at_end (Row [] d below) r f = r
  stuck_at_end (Row (Read k ∷ row) d below) r f = λ e. cc e
  stuck_at_end (Row (Open k ∷ row) d below) r f = λ e. cc e
  stuck_at_end (Row (Once n ∷ row) d below) r f = absurd r
  stuck_at_end (Row (Maybe n ∷ row) d below) r f = r
  stuck_at_end (Row (Many n ∷ row) d below) r f = r
  stuck_at_end (Row (Act a ∷ row) d below) r f = r

  nil_or_not : (frames : List (Frame N A K)) → (length frames == 0) ≡ false → pile frames Bottom ≡ Bottom → ⊥
  nil_or_not [] h e = cc h
  nil_or_not (frame ∷ frames) h e = pile-row frames frame.rest.now frame.depth Bottom e

  -- where the tokens end: whether a frame is left
  pub finished_by : (first now : Work N A K) (b : Bool) → Exposed rules table None first now →
      b ≡ (length now.frames.items == 0) → IsFinished rules table first now b
  finished_by first now true x e =
      let none : now.frames.items ≡ [] = nil_from_length now.frames.items (eqb-true _ _ (sym e)) in
      record {
        done = x.done;
        moved = subst (λ y. AreMoves rules table None (stack_of first) y x.done)
            (ap (λ y. pile y Bottom) none) x.moved;
        happened = x.happened;
      }
  finished_by first now false x e =
      record {
        there = stack_of now;
        done = x.done;
        moved = x.moved;
        stuck = stuck_at_end (stack_of now) x.ready
            (nil_or_not now.frames.items (sym e));
      }
