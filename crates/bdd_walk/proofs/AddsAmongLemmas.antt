-- Joins one after the other: what came adds up.
use Rattle.std.proofs.Common.{◌≡◌, ◌≢◌, List, [], ◌∷◌, ◌++◌, length-append, ◌∙◌, refl, subst, arith}
use Rattle.std.specs.List.{All, AllPairs}
use Rattle.std.proofs.lemmas.List.Elements.{All-cons, Contains-append_left, Contains-append_right}
use Rattle.std.proofs.lemmas.List.Kept.{AllPairs-cons}
use Rattle.labels.specs.Labels.{Function}
use Rattle.bdd_nodes.specs.Shelf.{Contents, Has, limit_of}
use Rattle.bdd_nodes.specs.Changes.{Keeps}
use Rattle.bdd_walk.specs.Under.{IsMissing, IsMissingAmong, HasCome, AddsAmong, Exceeds, ExceedsAmong}
use Rattle.bdd_walk.proofs.AddsLemmas.{All-weaker, All-head, All-tail, AllPairs-head, AllPairs-tail}

Has-kept : (old new : Contents) → Keeps old new → (function : Function) → Has old function → Has new function
Has-kept old new keeps function has = record {
  at = has.at;
  valid = keeps.valid has.at has.valid;
  states = λ label. keeps.states has.at label has.valid ∙ has.states label;
}

All-append : (P : Function → Type 0) (xs ys : List Function) → All P xs → All P ys → All P (xs ++ ys)
All-append P [] ys first second = second
All-append P (x ∷ xs) ys first second =
    All-cons P x (xs ++ ys) (All-head P x xs first) (All-append P xs ys (All-tail P x xs first) second)

-- what is in one list is in none other
AllPairs-append : (P Q : Function → Type 0) → ((x y : Function) → P x → Q y → x ≢ y) → (xs ys : List Function) →
    All P xs → All Q ys → AllPairs (λ x y. x ≢ y) xs → AllPairs (λ x y. x ≢ y) ys → AllPairs (λ x y. x ≢ y) (xs ++ ys)
AllPairs-append P Q apart [] ys first second distinct others = others
AllPairs-append P Q apart (x ∷ xs) ys first second distinct others =
    AllPairs-cons (λ (a b : Function). a ≢ b) x (xs ++ ys)
    (All-append (λ (y : Function). x ≢ y) xs ys (AllPairs-head (λ (a b : Function). a ≢ b) x xs distinct)
    (All-weaker Q (λ (y : Function). x ≢ y) (λ y holds. apart x y (All-head P x xs first) holds) ys second))
    (AllPairs-append P Q apart xs ys (All-tail P x xs first) second (AllPairs-tail (λ (a b : Function). a ≢ b) x xs distinct) others)

-- at first nothing has come
pub AddsAmong-none : (shelf : Contents) → AddsAmong shelf shelf []
AddsAmong-none shelf = record {
  parts = [];
  came = λ k d within. absurd (omega arith);
  distinct = λ i j d below within. absurd (omega arith);
  count = omega arith;
}

-- what has no room under one function
pub ExceedsAmong-alone : (shelf : Contents) (whole : Function) → Exceeds shelf whole → ExceedsAmong shelf (whole ∷ [])
ExceedsAmong-alone shelf whole exceeds = record {
  parts = exceeds.parts;
  missing = All-weaker (IsMissing shelf whole) (IsMissingAmong shelf (whole ∷ []))
      (λ part missing. record { whole = whole; among = (0, omega arith, refl); missing = missing }) exceeds.parts exceeds.missing;
  distinct = exceeds.distinct;
  more = exceeds.more;
}

module _ (first old : Contents) (before : Keeps first old) (wholes others : List Function) where
  later-missing : (part : Function) → IsMissingAmong old others part → IsMissingAmong first (others ++ wholes) part
  later-missing part is = record {
    whole = is.whole;
    among = Contains-append_left others wholes is.whole is.among;
    missing = record {
      under = is.missing.under;
      varies = is.missing.varies;
      absent = λ has. is.missing.absent (Has-kept first old before part has);
    };
  }

  earlier-missing : (part : Function) → IsMissingAmong first wholes part → IsMissingAmong first (others ++ wholes) part
  earlier-missing part is = record { whole = is.whole; among = Contains-append_right others wholes is.whole is.among; missing = is.missing }

  apart : (x y : Function) → HasCome first old wholes x → (Has old y → ⊥) → x ≢ y
  apart x y came absent same = absent (subst (Has old) same came.has)

  -- what comes later comes too
  pub AddsAmong-more : (new : Contents) → Keeps old new → AddsAmong first old wholes → AddsAmong old new others → AddsAmong first new (others ++ wholes)
  AddsAmong-more new keeps adds more =
      let earlier = λ (x : Function) (came : HasCome first old wholes x).
      let r : HasCome first new (others ++ wholes) x = record { missing = earlier-missing x came.missing; has = Has-kept old new keeps x came.has } in r in
      let later = λ (y : Function) (came : HasCome old new others y).
      let r : HasCome first new (others ++ wholes) y = record { missing = later-missing y came.missing; has = came.has } in r in
      record {
        parts = adds.parts ++ more.parts;
        came = All-append (HasCome first new (others ++ wholes)) adds.parts more.parts
            (All-weaker (HasCome first old wholes) (HasCome first new (others ++ wholes)) earlier adds.parts adds.came)
            (All-weaker (HasCome old new others) (HasCome first new (others ++ wholes)) later more.parts more.came);
        distinct = AllPairs-append (HasCome first old wholes) (HasCome old new others)
            (λ x y came here. apart x y came here.missing.missing.absent) adds.parts more.parts adds.came more.came adds.distinct more.distinct;
        count =
            let one = adds.count in
            let two = more.count in
            let both = length-append adds.parts more.parts in
            omega arith;
      }

  -- what has come and what there is no room for is more than there was room for
  pub ExceedsAmong-more : limit_of old ≡ limit_of first → AddsAmong first old wholes → ExceedsAmong old others → ExceedsAmong first (others ++ wholes)
  ExceedsAmong-more limit adds exceeds = record {
    parts = adds.parts ++ exceeds.parts;
    missing = All-append (IsMissingAmong first (others ++ wholes)) adds.parts exceeds.parts
        (All-weaker (HasCome first old wholes) (IsMissingAmong first (others ++ wholes)) (λ x came. earlier-missing x came.missing) adds.parts adds.came)
        (All-weaker (IsMissingAmong old others) (IsMissingAmong first (others ++ wholes)) later-missing exceeds.parts exceeds.missing);
    distinct = AllPairs-append (HasCome first old wholes) (IsMissingAmong old others)
        (λ x y came here. apart x y came here.missing.absent) adds.parts exceeds.parts adds.came exceeds.missing adds.distinct exceeds.distinct;
    more =
        let one = adds.count in
        let two = exceeds.more in
        let both = length-append adds.parts exceeds.parts in
        omega arith;
  }
