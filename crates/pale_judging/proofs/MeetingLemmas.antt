-- What `meet` has written between what it tells of one triple and the next.
use Rattle.std.proofs.Common.{◌≡◌, ◌∙◌, inl, inr, ◌+◌, ◌<◌, ◌≤◌, ◌++◌, ℕ, suc, List, [], ◌∷◌, length, take, drop, get_or, Option, refl, sym, ap}
use Rattle.std.proofs.Common.{subst, arith, append_assoc, length-append, take-append-drop}
use Rattle.std.specs.Prelude.{All}
use Rattle.std.proofs.lemmas.List.{take_more, take_all}
use Rattle.store_exec.specs.declared.triple.Triple.{Triple}
use Rattle.witness_store.specs.Alike.{AreFunctional}
use Rattle.pale_typed.specs.TypedPrograms.{TypedProgram}
use Rattle.pale_typed.specs.Fitting.{ProgramFits}
use Rattle.hoare_split.specs.Fitting.{FitsProgram}
use Rattle.pale_io.specs.Whole.{WritesAll, WritesFront}
use Rattle.pale_status.specs.declared.status.Status.{Status}
use Rattle.pale_status.specs.Written.{Wrote, WroteAtMost}
use Rattle.pale_status.proofs.WrittenLemmas.{nothing_written, both_written, front_of_first, first_written, front_of_second}
use Rattle.program_judge.specs.declared.meet_way.MeetWay.{MeetWay}
use Rattle.program_judge.specs.Meets.{ReportsMeet, ReportsMeets, no_triple, next_triple, totals_of}
use Rattle.program_judge.proofs.MeetTellingLemmas.{meet-more, meets-rest}
use Rattle.pale_judging.specs.Meeting.{MeetsProgram, told, meet_status}

ways_count : (limit : ℕ) (program : TypedProgram) (k : ℕ) (ts : List Triple) (lines : List ℕ) (ways : List MeetWay) →
    ReportsMeets limit program k ts lines ways → length ways ≡ length ts
ways_count limit program _ _ _ _ (no_triple k) = refl
ways_count limit program _ _ _ _ (next_triple k t ts how ways lines others report more) =
    ap (λ (n : ℕ). suc n) (ways_count limit program (suc k) ts others ways more)

-- of the first i triples it is told
abbrev pub MeetsWrote : ℕ → TypedProgram → List Triple → Option (List ℕ) → ℕ → Option (List ℕ) → List MeetWay → Type 0
MeetsWrote limit program triples a i b ways = Wrote (ReportsMeets limit program 1 (take i triples)) a b ways

module _ (limit : ℕ) (program : TypedProgram) (triples : List Triple) (fits : ProgramFits program) (own : All (FitsProgram program) triples)
    (every : AreFunctional program.types) (a : Option (List ℕ)) where
  pub meets_start : MeetsWrote limit program triples a 0 a []
  meets_start = record { output = []; allowed = no_triple 1; written = nothing_written a }

  meets_more : (i : ℕ) (t : Triple) (number : ℕ) (lines piece : List ℕ) (ways : List MeetWay) (how : MeetWay) → i < length triples →
      t ≡ get_or triples i t → number ≡ length ways + 1 → ReportsMeets limit program 1 (take i triples) lines ways →
      ReportsMeet limit program number t piece how → ReportsMeets limit program 1 (take (i + 1) triples) (lines ++ piece) (ways ++ how ∷ [])
  meets_more i t number lines piece ways how inside is counted before report =
      let count : length ways ≡ length (take i triples) = ways_count limit program 1 (take i triples) lines ways before in
      let at : number ≡ 1 + length (take i triples) = omega (arith, counted, count) in
      subst (λ (ts : List Triple). ReportsMeets limit program 1 ts (lines ++ piece) (ways ++ how ∷ []))
      (ap (λ (u : Triple). take i triples ++ u ∷ []) is ∙ sym (take_more triples i t inside))
      (meet-more limit program 1 (take i triples) lines ways t piece how before
      (subst (λ (k : ℕ). ReportsMeet limit program k t piece how) at report))

  pub meets_next : (i : ℕ) (t : Triple) (number : ℕ) (b c : Option (List ℕ)) (ways : List MeetWay) (how : MeetWay) → i < length triples →
      t ≡ get_or triples i t → number ≡ length ways + 1 → MeetsWrote limit program triples a i b ways → Wrote (ReportsMeet limit program number t) b c how →
      MeetsWrote limit program triples a (i + 1) c (ways ++ how ∷ [])
  meets_next i t number b c ways how inside is counted before next = record {
    output = before.output ++ next.output;
    allowed = meets_more i t number before.output next.output ways how inside is counted before.allowed next.allowed;
    written = both_written a b c before.output next.output before.written next.written;
  }

  some_totals : (ways : List MeetWay) → 0 < length (totals_of ways)
  some_totals ways = omega arith

  -- what was told so far begins what is told of the program: it goes on with this, and how
  record Ends (lines : List ℕ) : Type 0 where
    tail : List ℕ
    status : Status
    allowed : MeetsProgram limit program triples (lines ++ tail) status
    more : 0 < length tail

  ends : (i : ℕ) (lines : List ℕ) (ways : List MeetWay) → ReportsMeets limit program 1 (take i triples) lines ways → Ends lines
  ends i lines ways reports =
      let (l, w, all) = meets-rest limit program fits every triples (take i triples) (drop i triples) lines ways own
      (sym (take-append-drop i triples)) reports in
      let totals : List ℕ = totals_of (ways ++ w) in
      let count : 0 < length totals = some_totals (ways ++ w) in
      record {
        tail = l ++ totals;
        status = meet_status (ways ++ w);
        allowed = subst (λ (output : List ℕ). MeetsProgram limit program triples output (meet_status (ways ++ w))) (append_assoc lines l totals)
            (told (lines ++ l) (ways ++ w) every all);
        more = omega (arith, count, length-append l totals);
      }

  -- behind what is told of a triple
  pub meets_begin : (i : ℕ) (b : Option (List ℕ)) (ways : List MeetWay) → MeetsWrote limit program triples a i b ways → WroteAtMost
      (MeetsProgram limit program triples) a b
  meets_begin i b ways before =
      let end = ends i before.output ways before.allowed in
      inr (record {
        output = before.output ++ end.tail;
        status = end.status;
        allowed = end.allowed;
        written = first_written a b before.output end.tail before.written end.more;
      })

  -- in one
  pub meet_begins : (i : ℕ) (t : Triple) (number : ℕ) (b c : Option (List ℕ)) (ways : List MeetWay) → i < length triples → t ≡ get_or triples i t →
      number ≡ length ways + 1 → MeetsWrote limit program triples a i b ways → WroteAtMost (ReportsMeet limit program number t) b c →
      WroteAtMost (MeetsProgram limit program triples) a c
  meet_begins i t number b c ways inside is counted before (inl same) =
      subst (λ (d : Option (List ℕ)). WroteAtMost (MeetsProgram limit program triples) a d) (sym same) (meets_begin i b ways before)
  meet_begins i t number b c ways inside is counted before (inr front) =
      let reports = meets_more i t number before.output front.output ways front.status inside is counted before.allowed front.allowed in
      let end = ends (i + 1) (before.output ++ front.output) (ways ++ front.status ∷ []) reports in
      inr (record {
        output = (before.output ++ front.output) ++ end.tail;
        status = end.status;
        allowed = end.allowed;
        written = front_of_first a c (before.output ++ front.output) end.tail (front_of_second a b c before.output front.output before.written front.written);
      })

  -- of all it is told
  pub meets_whole : (i : ℕ) (b : Option (List ℕ)) (ways : List MeetWay) → length triples ≤ i → MeetsWrote limit program triples a i b ways →
      Wrote (ReportsMeets limit program 1 triples) a b ways
  meets_whole i b ways all before =
      subst (λ (ts : List Triple). Wrote (ReportsMeets limit program 1 ts) a b ways) (take_all i triples all) before

  -- ---- the totals

  pub before_totals : (b : Option (List ℕ)) (ways : List MeetWay) → Wrote (ReportsMeets limit program 1 triples) a b ways →
      WroteAtMost (MeetsProgram limit program triples) a b
  before_totals b ways before = inr (record {
    output = before.output ++ totals_of ways;
    status = meet_status ways;
    allowed = told before.output ways every before.allowed;
    written = first_written a b before.output (totals_of ways) before.written (some_totals ways);
  })

  pub totals_begin : (b c : Option (List ℕ)) (ways : List MeetWay) → Wrote (ReportsMeets limit program 1 triples) a b ways →
      WritesFront b c (totals_of ways) → WroteAtMost (MeetsProgram limit program triples) a c
  totals_begin b c ways before front = inr (record {
    output = before.output ++ totals_of ways;
    status = meet_status ways;
    allowed = told before.output ways every before.allowed;
    written = front_of_second a b c before.output (totals_of ways) before.written front;
  })

  pub totals_whole : (b c : Option (List ℕ)) (ways : List MeetWay) → Wrote (ReportsMeets limit program 1 triples) a b ways →
      WritesAll b c (totals_of ways) → Wrote (MeetsProgram limit program triples) a c (meet_status ways)
  totals_whole b c ways before whole = record {
    output = before.output ++ totals_of ways;
    allowed = told before.output ways every before.allowed;
    written = both_written a b c before.output (totals_of ways) before.written whole;
  }
