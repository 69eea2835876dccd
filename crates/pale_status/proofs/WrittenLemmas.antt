-- What two writes leave, one after the other.
use Rattle.std.proofs.Common.{◌≡◌, ◌∙◌, ◌+◌, ◌<◌, ◌≤◌, ℕ, List, ◌++◌, length, take, refl, ap, sym, subst, arith, Option, Some, None, append_assoc}
use Rattle.std.proofs.Common.{append-nil, length-append, Result, Ok, Err, inl, inr, []}
use Rattle.std.specs.Prelude.{IfOk, OnErr, OnOk}
use Rattle.std.proofs.lemmas.List.{take-append-le}
use Rattle.std.proofs.Math.Seq.{take-append_seam, take-append-add}
use Rattle.pale_io.specs.Told.{appended}
use Rattle.pale_io.specs.Whole.{WritesAll, WritesFront}
use Rattle.pale_io.specs.declared.stops.WriteStop.{WriteStop}
use Rattle.pale_text.specs.declared.refusal.Refusal.{Refusal}
use Rattle.pale_text.specs.declared.refusal.TextStop.{TextStop}
use Rattle.pale_text.specs.declared.refusal.TextStop.TheVariants.{Refused}
use Rattle.pale_status.specs.declared.status.Status.{Status}
use Rattle.pale_status.specs.declared.status.Status.TheVariants.{Text}
use Rattle.pale_status.specs.Report.{Refuses, refused, refused_line}
use Rattle.pale_status.specs.Written.{Wrote, WroteAtMost}

pub on_err : {T E P : Type 0} (r : Result T E) → P → OnErr r P
on_err (Ok x) p = tt
on_err (Err e) p = p

pub on_err_weaker : {T E P Q : Type 0} (r : Result T E) → (P → Q) → OnErr r P → OnErr r Q
on_err_weaker (Ok x) from p = tt
on_err_weaker (Err e) from p = from p

pub on_ok_weaker : {T E P Q : Type 0} (r : Result T E) → (P → Q) → OnOk r P → OnOk r Q
on_ok_weaker (Ok x) from p = from p
on_ok_weaker (Err e) from p = tt

-- four pieces behind a text
pub four_pieces : (text a b c d : List ℕ) → (((text ++ a) ++ b) ++ c) ++ d ≡ text ++ (((a ++ b) ++ c) ++ d)
four_pieces text a b c d = ap (λ (xs : List ℕ). (xs ++ c) ++ d) (append_assoc text a b)
    ∙ (ap (λ (xs : List ℕ). xs ++ d) (append_assoc text (a ++ b) c) ∙ append_assoc text ((a ++ b) ++ c) d)

appended-append : (told : Option (List ℕ)) (xs ys : List ℕ) → appended (appended told xs) ys ≡ appended told (xs ++ ys)
appended-append None xs ys = refl
appended-append (Some bytes) xs ys = ap (λ (all : List ℕ). Some all) (append_assoc bytes xs ys)

-- no piece
pub nothing_written : (a : Option (List ℕ)) → WritesAll a a []
nothing_written a = record { added = same a }
  where
    same : (told : Option (List ℕ)) → told ≡ appended told []
    same None = refl
    same (Some bytes) = ap (λ (all : List ℕ). Some all) (sym (append-nil bytes))

-- all of one piece, and then all of another
pub both_written : (a b c : Option (List ℕ)) (xs ys : List ℕ) → WritesAll a b xs → WritesAll b c ys → WritesAll a c (xs ++ ys)
both_written a b c xs ys first second = record {
  added = second.added ∙ (ap (λ told. appended told ys) first.added ∙ appended-append a xs ys);
}

-- a front of a piece is a front of what begins with it
pub front_of_first : (a b : Option (List ℕ)) (xs ys : List ℕ) → WritesFront a b xs → WritesFront a b (xs ++ ys)
front_of_first a b xs ys front =
    let below : front.count < length xs = front.within in
    let short : front.count ≤ length xs = omega arith in
    record {
      count = front.count;
      within = omega (arith, length-append xs ys);
      added = front.added ∙ ap (appended a) (sym (take-append-le front.count xs ys short));
    }

-- the whole first piece is a front of both, where there is more
pub first_written : (a b : Option (List ℕ)) (xs ys : List ℕ) → WritesAll a b xs → 0 < length ys → WritesFront a b (xs ++ ys)
first_written a b xs ys first more = record {
  count = length xs;
  within = omega (arith, length-append xs ys);
  added = first.added ∙ ap (appended a) (sym (take-append_seam xs ys));
}

-- the first piece, and then a front of the second
pub front_of_second : (a b c : Option (List ℕ)) (xs ys : List ℕ) → WritesAll a b xs → WritesFront b c ys → WritesFront a c (xs ++ ys)
front_of_second a b c xs ys first front =
    let below : front.count < length ys = front.within in
    record {
      count = length xs + front.count;
      within = omega (arith, length-append xs ys);
      added = front.added ∙ (ap (λ told. appended told (take front.count ys)) first.added
          ∙ (appended-append a xs (take front.count ys) ∙ ap (appended a) (sym (take-append-add xs ys front.count))));
    }

-- ---- outputs that are allowed

pub line_written : (Allowed : List ℕ → Status → Type 0) (before after : Option (List ℕ)) (line : List ℕ) (status : Status)
    → Allowed line status → WritesAll before after line → Wrote Allowed before after status
line_written Allowed before after line status allowed written = record { output = line; allowed = allowed; written = written }

pub line_begun : (Allowed : List ℕ → Status → Type 0) (before after : Option (List ℕ)) (line : List ℕ) (status : Status)
    → Allowed line status → WritesFront before after line → WroteAtMost Allowed before after
line_begun Allowed before after line status allowed written = inr (record { output = line; status = status; allowed = allowed; written = written })

module _ (A B : List ℕ → Status → Type 0) (follows : (output : List ℕ) (status : Status) → A output status → B output status)
    (before after : Option (List ℕ)) where
  pub Wrote-weaker : (status : Status) → Wrote A before after status → Wrote B before after status
  Wrote-weaker status wrote = record { output = wrote.output; allowed = follows wrote.output status wrote.allowed; written = wrote.written }

  pub WroteAtMost-weaker : WroteAtMost A before after → WroteAtMost B before after
  WroteAtMost-weaker (inl nothing) = inl nothing
  WroteAtMost-weaker (inr front) = inr (record {
    output = front.output;
    status = front.status;
    allowed = follows front.output front.status front.allowed;
    written = front.written;
  })

  pub whole-weaker : (outcome : Result Status WriteStop) → IfOk outcome (Wrote A before after) → IfOk outcome (Wrote B before after)
  whole-weaker (Ok status) wrote = Wrote-weaker status wrote
  whole-weaker (Err stop) wrote = tt

  pub begun-weaker : (outcome : Result Status WriteStop) → OnErr outcome (WroteAtMost A before after) → OnErr outcome (WroteAtMost B before after)
  begun-weaker (Ok status) begun = tt
  begun-weaker (Err stop) begun = WroteAtMost-weaker begun

-- the same where what is told of the output is told in another way
module _ {X Y : Type 0} (A : List ℕ → X → Type 0) (B : List ℕ → Y → Type 0) (turn : X → Y)
    (follows : (output : List ℕ) (x : X) → A output x → B output (turn x)) (before after : Option (List ℕ)) where
  pub Wrote-turned : (x : X) → Wrote A before after x → Wrote B before after (turn x)
  Wrote-turned x wrote = record { output = wrote.output; allowed = follows wrote.output x wrote.allowed; written = wrote.written }

  pub WroteAtMost-turned : WroteAtMost A before after → WroteAtMost B before after
  WroteAtMost-turned (inl nothing) = inl nothing
  WroteAtMost-turned (inr front) = inr (record {
    output = front.output;
    status = turn front.status;
    allowed = follows front.output front.status front.allowed;
    written = front.written;
  })

-- what a line that is said leaves, where it is an allowed output
module _ (Allowed : List ℕ → Status → Type 0) (before after : Option (List ℕ)) (line : List ℕ) (answer : Status) (allowed : Allowed line answer) where
  pub said_whole : (outcome : Result Status WriteStop) → IfOk outcome (λ s. (s ≡ answer) × WritesAll before after line) →
      IfOk outcome (Wrote Allowed before after)
  said_whole (Ok status) said = subst (λ (s : Status). Wrote Allowed before after s) (sym said.0) (line_written Allowed before after line answer allowed said.1)
  said_whole (Err stop) said = tt

  pub said_begun : (outcome : Result Status WriteStop) → OnErr outcome (WritesFront before after line) → OnErr outcome (WroteAtMost Allowed before after)
  said_begun (Ok status) begun = tt
  said_begun (Err stop) begun = line_begun Allowed before after line answer allowed begun

-- what a refusal leaves, where the line of each refusal of the text is an allowed output
module _ (why : TextStop) (Allowed : List ℕ → Status → Type 0) (follows : (refusal : Refusal) → why ≡ Refused refusal → Allowed (refused_line refusal) Text)
    (before after : Option (List ℕ)) where
  refusal_follows : (output : List ℕ) (status : Status) → Refuses why output status → Allowed output status
  refusal_follows _ _ (refused refusal is) = follows refusal is

  pub refused_whole : (outcome : Result Status WriteStop) → IfOk outcome (Wrote (Refuses why) before after) → IfOk outcome (Wrote Allowed before after)
  refused_whole = whole-weaker (Refuses why) Allowed refusal_follows before after

  pub refused_begun : (outcome : Result Status WriteStop) → OnErr outcome (WroteAtMost (Refuses why) before after) →
      OnErr outcome (WroteAtMost Allowed before after)
  refused_begun = begun-weaker (Refuses why) Allowed refusal_follows before after
