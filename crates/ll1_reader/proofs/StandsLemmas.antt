-- What is known of a reader between two tokens, and what follows from it.
use Rattle.std.proofs.Common.{◌≡◌, ℕ, zero, suc, ◌≤◌, List, [], ◌∷◌, ◌++◌, map, length, take, drop, Option, None, Some, sym, ◌∙◌}
use Rattle.std.proofs.Common.{ap, subst, refl, arith, append-nil, append_assoc, length-append}
use Rattle.std.specs.Prelude.{slice_get}
use Rattle.std.proofs.lemmas.List.{map-append}
use Rattle.ll1_reader.specs.declared.symbol.Symbol.{Symbol}
use Rattle.ll1_reader.specs.declared.symbol.Symbol.TheVariants.{Read, Open, Once, Maybe, Many, Act}
use Rattle.ll1_reader.specs.declared.work.Work.{Work}
use Rattle.ll1_reader.specs.Grammars.{Rules}
use Rattle.ll1_reader.specs.Predicting.{Table, IsLl1}
use Rattle.ll1_reader.specs.Readings.{Stack, Bottom, Row, Step, Took, Did, Reads, over, read, opened, IsNotBegun, IsAnyReading, IsReading}
use Rattle.ll1_reader.specs.Answers.{levels, event_of, AreLow, IsParsed, NoneGoesOn, IsWrongAt, IsDeepAt}
use Rattle.ll1_reader.specs.Moves.{IsMove, row_end, act, enter, take_it, leave_it, go_on, stop, AreMoves, stay, move, IsTake, take_read, take_open, IsTooDeep}
use Rattle.ll1_reader.specs.Frames.{stack_of}
use Rattle.ll1_reader.specs.Advancing.{Sticks, Feeds, Overflows, Finishes}
use Rattle.ll1_reader.proofs.SafeStacks.{IsSafe, text_ends_well}
use Rattle.ll1_reader.proofs.Ends.{Ends, can_end, not_begun}
use Rattle.ll1_reader.proofs.Inversions.{un_bottom, un_read, un_open}
use Rattle.ll1_reader.proofs.MoveLemmas.{IsShallow, moves_lead, moves_safe, moves_shallow, stuck_reads_nothing}
use Rattle.ll1_reader.proofs.SentenceLemmas.{any_counts}

-- ---- levels

levels-append : {A : Type 0} (xs ys : List (Step A)) → levels (xs ++ ys) ≡ levels xs ++ levels ys
levels-append [] ys = refl
levels-append (Took d ∷ xs) ys = ap (λ l. d ∷ l) (levels-append xs ys)
levels-append (Did a ∷ xs) ys = levels-append xs ys

low_append : (limit : ℕ) (xs ys : List ℕ) → AreLow limit xs → AreLow limit ys → AreLow limit (xs ++ ys)
low_append limit [] ys a b = b
low_append limit (x ∷ xs) ys a b = (a.0, low_append limit xs ys a.1 b)

low_take : (limit : ℕ) (n : ℕ) (xs : List ℕ) → AreLow limit xs → AreLow limit (take n xs)
low_take limit zero xs a = tt
low_take limit (suc n) [] a = tt
low_take limit (suc n) (x ∷ xs) a = (a.0, low_take limit n xs a.1)

take_front : (xs ys : List ℕ) (n : ℕ) → length xs ≡ n → take n (xs ++ ys) ≡ xs
take_front xs ys n e = subst (λ m. take m (xs ++ ys) ≡ xs) e (by xs)
  where
    by : (zs : List ℕ) → take (length zs) (zs ++ ys) ≡ zs
    by [] = refl
    by (z ∷ zs) = ap (λ l. z ∷ l) (by zs)

get_front : (xs : List ℕ) (y : ℕ) (ys : List ℕ) (n : ℕ) → length xs ≡ n → slice_get (xs ++ y ∷ ys) n ≡ Some y
get_front xs y ys n e = subst (λ m. slice_get (xs ++ y ∷ ys) m ≡ Some y) e (by xs)
  where
    by : (zs : List ℕ) → slice_get (zs ++ y ∷ ys) (length zs) ≡ Some y
    by [] = refl
    by (z ∷ zs) = by zs

module _ {N P A K : Type 0} (rules : Rules N P A K) (table : Table N P K) (limit : ℕ) where
  -- these tokens are read, and this is what is left and what happened
  pub record Stands (before : List K) (w : Work N A K) : Type 0 where
    pub steps : List (Step A)
    pub low : AreLow limit (levels steps)
    pub count : length (levels steps) ≡ length before
    pub happened : w.events ≡ map event_of steps
    pub safe : IsSafe rules table (stack_of w)
    pub shallow : IsShallow rules table limit (stack_of w)
    pub back : (ks : List K) (more : List (Step A)) → Reads rules (IsNotBegun rules) (stack_of w) ks more → IsReading rules (before ++ ks) (steps ++ more)
    pub on : (ks : List K) (more : List (Step A)) → IsReading rules (before ++ ks) more →
        (rest : List (Step A)) × (more ≡ steps ++ rest) × Reads rules (IsNotBegun rules) (stack_of w) ks rest

module _ {N P A K : Type 0} (rules : Rules N P A K) (table : Table N P K) (sound : IsLl1 rules table) (limit : ℕ) where
  abbrev Counts : N → List K → Type 0
  Counts = IsNotBegun rules

  -- between two tokens no level is noted
  move_levels : {next : Option K} {s t : Stack N A K} {done : List (Step A)} → IsMove rules table next s t done → levels done ≡ []
  move_levels (row_end d below) = refl
  move_levels (act a row d below) = refl
  move_levels (enter n p row d below i h) = refl
  move_levels (take_it n p row d below i h) = refl
  move_levels (leave_it n row d below h) = refl
  move_levels (go_on n p row d below i h) = refl
  move_levels (stop n row d below h) = refl

  moves_levels : {next : Option K} {s t : Stack N A K} {done : List (Step A)} → AreMoves rules table next s t done → levels done ≡ []
  moves_levels (stay s) = refl
  moves_levels (move s t u done more m ms) = levels-append done more ∙ ap (λ l. l ++ levels more) (move_levels m) ∙ moves_levels ms

  -- ---- one token

  take_back : {k : K} {s t : Stack N A K} {step : Step A} → IsTake limit k s t step → (ks : List K) (more : List (Step A)) →
      Reads rules Counts t ks more → Reads rules Counts s (k ∷ ks) (step ∷ more)
  take_back {k = k} (take_read row d below) ks more r = read k row d below ks more r
  take_back {k = k} (take_open row d below h) ks more r = opened k row d below ks more r

  take_on : {k : K} {s t : Stack N A K} {step : Step A} → IsTake limit k s t step → (ks : List K) (more : List (Step A)) → Reads rules Counts s (k ∷ ks) more →
      (rest : List (Step A)) × (more ≡ step ∷ rest) × Reads rules Counts t ks rest
  take_on (take_read row d below) ks more r =
      let u = un_read rules Counts r in
      let same : ks ≡ u.0 = cc (u.2) in
      (u.1, u.3, subst (λ (x : List K). Reads rules Counts (Row row d below) x u.1) (sym same) u.4)
  take_on (take_open row d below h) ks more r =
      let u = un_open rules Counts r in
      let same : ks ≡ u.0 = cc (u.2) in
      (u.1, u.3, subst (λ (x : List K). Reads rules Counts (Row row (suc d) below) x u.1) (sym same) u.4)

  take_safe : {k : K} {s t : Stack N A K} {step : Step A} → IsTake limit k s t step → IsSafe rules table s → IsSafe rules table t
  take_safe (take_read row d below) w = (w.0.1, w.1)
  take_safe (take_open row d below h) w = (w.0.1, w.1)

  take_shallow : {k : K} {s t : Stack N A K} {step : Step A} → IsTake limit k s t step → IsShallow rules table limit s → IsShallow rules table limit t
  take_shallow (take_read row d below) w = w
  take_shallow (take_open row d below h) w = (h, w.1)

  take_low : {k : K} {s t : Stack N A K} {step : Step A} → IsTake limit k s t step → IsShallow rules table limit s → AreLow limit (levels (step ∷ []))
  take_low (take_read row d below) w = (w.0, tt)
  take_low (take_open row d below h) w = (h, tt)

  take_one : {k : K} {s t : Stack N A K} {step : Step A} → IsTake limit k s t step → length (levels (step ∷ [])) ≡ 1
  take_one (take_read row d below) = refl
  take_one (take_open row d below h) = refl

  -- a token that was fed is read
  pub stands_fed : (before : List K) (k : K) (old new : Work N A K) → Stands rules table limit before old →
      Feeds rules table limit k old new → Stands rules table limit (before ++ k ∷ []) new
  stands_fed before k old new s f =
      let lead = moves_lead rules table sound f.moved in
      let shallow = moves_shallow rules table sound limit f.moved s.shallow in
      let noted : levels (s.steps ++ (f.done ++ f.step ∷ [])) ≡ levels s.steps ++ levels (f.step ∷ []) =
      levels-append s.steps (f.done ++ f.step ∷ [])
      ∙ ap (λ l. levels s.steps ++ l) (levels-append f.done (f.step ∷ []) ∙ ap (λ l. l ++ levels (f.step ∷ [])) (moves_levels f.moved)) in
      record {
        steps = s.steps ++ (f.done ++ f.step ∷ []);
        low = subst (AreLow limit) (sym noted) (low_append limit (levels s.steps) (levels (f.step ∷ [])) s.low (take_low f.taken shallow));
        count =
            ap length noted ∙ length-append (levels s.steps) (levels (f.step ∷ []))
            ∙ omega (arith, s.count, take_one f.taken, length-append before (k ∷ []));
        happened = f.happened ∙ ap (λ x. x ++ map event_of (f.done ++ f.step ∷ [])) s.happened ∙ sym (map-append event_of s.steps (f.done ++ f.step ∷ []));
        safe = take_safe f.taken (moves_safe rules table sound f.moved s.safe);
        shallow = take_shallow f.taken shallow;
        back = λ ks more r.
            let there = s.back (k ∷ ks) (f.done ++ f.step ∷ more) (lead.back (k ∷ ks) (f.step ∷ more) refl (take_back f.taken ks more r)) in
            let tokens : before ++ k ∷ ks ≡ (before ++ k ∷ []) ++ ks = sym (append_assoc before (k ∷ []) ks) in
            let all : s.steps ++ (f.done ++ f.step ∷ more) ≡ (s.steps ++ (f.done ++ f.step ∷ [])) ++ more =
            ap (λ x. s.steps ++ x) (sym (append_assoc f.done (f.step ∷ []) more)) ∙ sym (append_assoc s.steps (f.done ++ f.step ∷ []) more) in
            subst (λ (x : List K). IsReading rules x ((s.steps ++ (f.done ++ f.step ∷ [])) ++ more)) tokens
            (subst (λ (x : List (Step A)). IsReading rules (before ++ k ∷ ks) x) all there);
        on = λ ks more r.
            let a = s.on (k ∷ ks) more (subst (λ (x : List K). IsReading rules x more) (append_assoc before (k ∷ []) ks) r) in
            let b = lead.on (k ∷ ks) a.0 refl a.2 in
            let c = take_on f.taken ks b.0 b.2 in (
              c.0,
              a.1 ∙ ap (λ x. s.steps ++ x) (b.1 ∙ ap (λ x. f.done ++ x) c.1 ∙ sym (append_assoc f.done (f.step ∷ []) c.0))
                  ∙ sym (append_assoc s.steps (f.done ++ f.step ∷ []) c.0),
              c.2,
            );
      }

  -- ---- the answers

  -- what is read so far begins a sentence
  goes_on : (before : List K) (w : Work N A K) → Stands rules table limit before w → Ends rules table sound Counts (not_begun rules table sound) (stack_of w)
  goes_on before w s = can_end rules table sound Counts (not_begun rules table sound) (stack_of w) s.safe

  -- any sentence that goes on so has a reading that counts, and goes on from what is left
  any_on : (before : List K) (w : Work N A K) → Stands rules table limit before w →
      IsSafe rules table (Row rules.text 0 Bottom) → (ks : List K) (steps : List (Step A)) → IsAnyReading rules (before ++ ks) steps →
      (rest : List (Step A)) × Reads rules Counts (stack_of w) ks rest
  any_on before w s t ks steps r =
      let counted = any_counts rules table sound (Row rules.text 0 Bottom) (before ++ ks) steps t r in
      let on = s.on ks counted.0 counted.1 in
      (on.0, on.2)

  pub stands_wrong : (tokens : List K) (place : ℕ) (before after : List K) (k : K) (w : Work N A K) → place ≤ length tokens →
      length before ≡ place → take place tokens ≡ before → drop place tokens ≡ k ∷ after →
      IsSafe rules table (Row rules.text 0 Bottom) → Stands rules table limit before w →
      Sticks rules table (Some k) (stack_of w) → IsWrongAt rules limit tokens place
  stands_wrong tokens place before after k w inside n front back t s x =
      let e = goes_on before w s in
      let all = s.back e.tokens e.steps e.reads in
      let lead = moves_lead rules table sound x.moved in
      record {
        inside = inside;
        after = e.tokens;
        steps = s.steps ++ e.steps;
        reading = subst (λ (l : List K). IsReading rules (l ++ e.tokens) (s.steps ++ e.steps)) (sym front) all;
        low =
            subst (AreLow limit)
            (sym (ap (take place) (levels-append s.steps e.steps) ∙ take_front (levels s.steps) (levels e.steps) place (s.count ∙ n)))
            s.low;
        wrong = subst (λ (l : List K). NoneGoesOn rules limit (take place tokens) l) (sym back)
            (λ rest steps r.
            let on = any_on before w s t (k ∷ rest) steps (subst (λ (l : List K). IsAnyReading rules (l ++ k ∷ rest) steps) front r) in
            let there = lead.on (k ∷ rest) on.0 refl on.1 in
            stuck_reads_nothing rules table sound (Some k) x.there x.stuck (k ∷ rest) there.0 refl there.2);
      }

  pub stands_short : (tokens : List K) (w : Work N A K) → take (length tokens) tokens ≡ tokens → drop (length tokens) tokens ≡ [] →
      IsSafe rules table (Row rules.text 0 Bottom) → Stands rules table limit tokens w →
      Sticks rules table None (stack_of w) → IsWrongAt rules limit tokens (length tokens)
  stands_short tokens w front back t s x =
      let e = goes_on tokens w s in
      let all = s.back e.tokens e.steps e.reads in
      let lead = moves_lead rules table sound x.moved in
      record {
        inside = omega arith;
        after = e.tokens;
        steps = s.steps ++ e.steps;
        reading = subst (λ (l : List K). IsReading rules (l ++ e.tokens) (s.steps ++ e.steps)) (sym front) all;
        low =
            subst (AreLow limit)
            (sym (ap (take (length tokens)) (levels-append s.steps e.steps) ∙ take_front (levels s.steps) (levels e.steps) (length tokens) s.count))
            s.low;
        wrong = subst (λ (l : List K). NoneGoesOn rules limit (take (length tokens) tokens) l) (sym back)
            (λ steps r.
            let on = any_on tokens w s t [] steps (subst (λ (l : List K). IsAnyReading rules l steps) (front ∙ sym (append-nil tokens)) r) in
            let there = lead.on [] on.0 refl on.1 in
            stuck_reads_nothing rules table sound None x.there x.stuck [] there.0 refl there.2);
      }

  -- a token that opens a level stands on top, and so many levels are open there
  record Deep (k : K) (s : Stack N A K) : Type 0 where
    row : List (Symbol N A K)
    depth : ℕ
    below : Stack N A K
    is : s ≡ Row (Open k ∷ row) depth below
    high : limit ≤ depth

  deep_top : (k : K) (s : Stack N A K) → IsTooDeep limit k s → Deep k s
  deep_top k Bottom h = absurd h
  deep_top k (Row [] d below) h = absurd h
  deep_top k (Row (Read j ∷ row) d below) h = absurd h
  deep_top k (Row (Open j ∷ row) d below) h =
      record { row = row; depth = d; below = below; is = ap (λ (x : K). Row (Open x ∷ row) d below) (sym h.0); high = h.1 }
  deep_top k (Row (Once n ∷ row) d below) h = absurd h
  deep_top k (Row (Maybe n ∷ row) d below) h = absurd h
  deep_top k (Row (Many n ∷ row) d below) h = absurd h
  deep_top k (Row (Act a ∷ row) d below) h = absurd h

  pub stands_deep : (tokens : List K) (place : ℕ) (before : List K) (k : K) (w : Work N A K) → length before ≡ place →
      take place tokens ≡ before → slice_get tokens place ≡ Some k →
      Stands rules table limit before w → Overflows rules table limit k (stack_of w) → IsDeepAt rules limit tokens place
  stands_deep tokens place before k w n front here s x =
      let lead = moves_lead rules table sound x.moved in
      let safe = moves_safe rules table sound x.moved s.safe in
      let shallow = moves_shallow rules table sound limit x.moved s.shallow in
      let d = deep_top k x.there x.deep in
      let open_safe = subst (IsSafe rules table) d.is safe in
      let low = subst (IsShallow rules table limit) d.is shallow in
      let e = can_end rules table sound Counts (not_begun rules table sound) (Row d.row (suc d.depth) d.below) (open_safe.0.1, open_safe.1) in
      let there = opened k d.row d.depth d.below e.tokens e.steps e.reads in
      let at_there = subst (λ (y : Stack N A K). Reads rules Counts y (k ∷ e.tokens) (Took (suc d.depth) ∷ e.steps)) (sym d.is) there in
      let whole = s.back (k ∷ e.tokens) (x.done ++ Took (suc d.depth) ∷ e.steps) (lead.back (k ∷ e.tokens) (Took (suc d.depth) ∷ e.steps) refl at_there) in
      record {
        kind = k;
        here = here;
        after = e.tokens;
        steps = s.steps ++ (x.done ++ Took (suc d.depth) ∷ e.steps);
        reading = subst (λ (l : List K). IsReading rules (l ++ k ∷ e.tokens) (s.steps ++ (x.done ++ Took (suc d.depth) ∷ e.steps))) (sym front) whole;
        deep = λ rest other r.
            let on = s.on (k ∷ rest) other (subst (λ (l : List K). IsReading rules (l ++ k ∷ rest) other) front r) in
            let at = lead.on (k ∷ rest) on.0 refl on.2 in
            let u = un_open rules Counts (subst (λ (y : Stack N A K). Reads rules Counts y (k ∷ rest) at.0) d.is at.2) in
            let noted : levels other ≡ levels s.steps ++ (suc d.depth ∷ levels u.1) =
            ap levels (on.1 ∙ ap (λ z. s.steps ++ z) (at.1 ∙ ap (λ z. x.done ++ z) u.3)) ∙ levels-append s.steps (x.done ++ Took (suc d.depth) ∷ u.1)
            ∙ ap (λ z. levels s.steps ++ z)
            (levels-append x.done (Took (suc d.depth) ∷ u.1) ∙ ap (λ z. z ++ levels (Took (suc d.depth) ∷ u.1)) (moves_levels x.moved))
            in
            record {
              before = subst (AreLow limit) (sym (ap (take place) noted ∙ take_front (levels s.steps) (suc d.depth ∷ levels u.1) place (s.count ∙ n))) s.low;
              there =
                  ap (λ z. slice_get z place) noted ∙ get_front (levels s.steps) (suc d.depth) (levels u.1) place (s.count ∙ n)
                  ∙ ap (λ z. Some z) (omega (arith, d.high, low.0));
            };
      }

  pub stands_finished : (tokens : List K) (old new : Work N A K) → Stands rules table limit tokens old →
      Finishes rules table old new → IsParsed rules limit tokens new.events
  stands_finished tokens old new s f =
      let lead = moves_lead rules table sound f.moved in
      let end = lead.back [] [] refl over in
      let whole = s.back [] (f.done ++ []) end in
      record {
        steps = s.steps ++ f.done;
        reading =
            subst (λ (l : List K). IsReading rules l (s.steps ++ f.done)) (append-nil tokens)
            (subst (λ (l : List (Step A)). IsReading rules (tokens ++ []) (s.steps ++ l)) (append-nil f.done) whole);
        low =
            subst (AreLow limit)
            (sym (levels-append s.steps f.done ∙ ap (λ l. levels s.steps ++ l) (moves_levels f.moved) ∙ append-nil (levels s.steps)))
            s.low;
        happens = f.happened ∙ ap (λ x. x ++ map event_of f.done) s.happened ∙ sym (map-append event_of s.steps f.done);
        only = λ other r.
            let on = s.on [] other (subst (λ (l : List K). IsReading rules l other) (sym (append-nil tokens)) r) in
            let at = lead.on [] on.0 refl on.2 in
            on.1 ∙ ap (λ z. s.steps ++ z) (at.1 ∙ ap (λ z. f.done ++ z) (un_bottom rules Counts at.2).1 ∙ append-nil f.done);
      }

  -- nothing is read yet
  pub stands_first : (w : Work N A K) → stack_of w ≡ Row rules.text 0 Bottom → w.events ≡ [] →
      IsSafe rules table (Row rules.text 0 Bottom) → Stands rules table limit [] w
  stands_first w top none t = record {
    steps = [];
    low = tt;
    count = refl;
    happened = none;
    safe = subst (IsSafe rules table) (sym top) t;
    shallow = subst (IsShallow rules table limit) (sym top) (omega arith, tt);
    back = λ ks more r. subst (λ (y : Stack N A K). Reads rules Counts y ks more) top r;
    on = λ ks more r. (more, refl, subst (λ (y : Stack N A K). Reads rules Counts y ks more) (sym top) r);
  }

  -- a whole text ends well, with nothing behind it
  pub text_safe : IsSafe rules table (Row rules.text 0 Bottom)
  text_safe = (text_ends_well rules table sound, tt)
