-- The first state of each class.
use Rattle.std.proofs.Common.{◌≡◌, ℕ, ◌+◌, ◌<◌, true, false, List, [], ◌∷◌, ◌++◌, length, Some, inl, inr}
use Rattle.std.proofs.Common.{sym, ◌∙◌, ap, subst, arith}
use Rattle.std.specs.Prelude.{slice_get, nat_eq}
use Rattle.std.specs.HashSet.{contains}
use Rattle.std.specs.HashSet as set
use Rattle.std.proofs.lemmas.Bool.{cases_Bool, cases_lt, eqb-true, false≢true}
use Rattle.std.proofs.lemmas.Option.{slice_get_within}
use Rattle.gta_theory.proofs.ListedLemmas.{slice_get-front, slice_get-last, slice_get-push}
use Rattle.gta_merge.specs.Classes.{Seen, IsFirstStep, was_seen, is_first, AreFirsts}

-- one of the firsts had the class
pub record HasFirst (had firsts : List ℕ) (class : ℕ) : Type 0 where
  pub place : ℕ
  pub one : ℕ
  pub there : slice_get firsts place ≡ Some one
  pub same : slice_get had one ≡ Some class

module _ (had : List ℕ) where
  -- of the first states
  pub record FirstsBelow (firsts : List ℕ) (seen : Seen) (below : ℕ) : Type 0 where
    pub within : (place one : ℕ) → slice_get firsts place ≡ Some one → one < below
    pub each : (class : ℕ) → contains nat_eq seen class ≡ true → HasFirst had firsts class
    pub all : (q class : ℕ) → q < below → slice_get had q ≡ Some class → HasFirst had firsts class

  pub FirstsBelow-none : (seen : Seen) → ((class : ℕ) → contains nat_eq seen class ≡ false) → FirstsBelow [] seen 0
  FirstsBelow-none seen none = record {
    within = λ place one there. absurd cc;
    each = λ class there. absurd (false≢true (sym (none class) ∙ there));
    all = λ q class inside. absurd (omega arith);
  }

  module _ (firsts : List ℕ) (seen : Seen) (below class : ℕ) (so_far : FirstsBelow firsts seen below) (at : slice_get had below ≡ Some class) where
    module _ (longer : List ℕ) (after : Seen) (here : HasFirst had longer class) (lift : (c : ℕ) → HasFirst had firsts c → HasFirst had longer c)
        (within_after : (place one : ℕ) → slice_get longer place ≡ Some one → one < below + 1)
        (each_after : (c : ℕ) → contains nat_eq after c ≡ true → HasFirst had longer c) where
      FirstsBelow-more : FirstsBelow longer after (below + 1)
      FirstsBelow-more = record {
        within = within_after;
        each = each_after;
        all = λ q c inside there. elim (cases_lt q below) [
          | inl before ↦ lift c (so_far.all q c before there)
          | inr past ↦
              let is : q ≡ below = omega arith in
              let e : Some class ≡ Some c = sym at ∙ ap (slice_get had) (sym is) ∙ there in
              let same : class ≡ c = cc in
              subst (HasFirst had longer) same here
        ];
      }

    of-seen : contains nat_eq seen class ≡ true → FirstsBelow firsts seen (below + 1)
    of-seen was = FirstsBelow-more firsts seen (so_far.each class was) (λ c has. has)
        (λ place one there. let w = so_far.within place one there in omega arith) so_far.each

    of-first : (after : Seen) → set.Updates nat_eq seen after class true → FirstsBelow (firsts ++ below ∷ []) after (below + 1)
    of-first after updates = FirstsBelow-more (firsts ++ below ∷ []) after here lift within-after each-after
      where
        here : HasFirst had (firsts ++ below ∷ []) class
        here = record { place = length firsts; one = below; there = slice_get-last firsts below; same = at }

        lift : (c : ℕ) → HasFirst had firsts c → HasFirst had (firsts ++ below ∷ []) c
        lift c has = record {
          place = has.place;
          one = has.one;
          there = slice_get-front firsts (below ∷ []) has.place (slice_get_within firsts has.place has.one has.there) ∙ has.there;
          same = has.same;
        }

        within-after : (place one : ℕ) → slice_get (firsts ++ below ∷ []) place ≡ Some one → one < below + 1
        within-after place one there = elim (slice_get-push firsts below one place there) [
          | inl before ↦ let w = so_far.within place one before in omega arith
          | inr last ↦ let l = last.1 in omega arith
        ]

        each-after : (c : ℕ) → contains nat_eq after c ≡ true → HasFirst had (firsts ++ below ∷ []) c
        each-after c there = elim (cases_Bool (nat_eq class c)) [
          | inl same ↦ subst (HasFirst had (firsts ++ below ∷ [])) (eqb-true class c same) here
          | inr apart ↦ lift c (so_far.each c (sym (updates.2 c apart) ∙ there))
        ]

  pub FirstsBelow-step : (firsts : List ℕ) (seen : Seen) (below class : ℕ) → FirstsBelow firsts seen below → slice_get had below ≡ Some class →
      (after : Seen) (longer : List ℕ) → IsFirstStep class below seen firsts after longer → FirstsBelow longer after (below + 1)
  FirstsBelow-step firsts seen below class so_far at _ _ (was_seen was) = of-seen firsts seen below class so_far at was
  FirstsBelow-step firsts seen below class so_far at _ _ (is_first after updates) = of-first firsts seen below class so_far at after updates

  pub AreFirsts-all : (firsts : List ℕ) (seen : Seen) (many : ℕ) → FirstsBelow firsts seen many →
      ((q : ℕ) → q < many → (class : ℕ) × (slice_get had q ≡ Some class)) → AreFirsts had many firsts
  AreFirsts-all firsts seen many all known = record {
    within = all.within;
    each = λ q inside.
        let class = known q inside in
        let has = all.all q class.0 inside class.1 in
        record { place = has.place; one = has.one; there = has.there; same = has.same ∙ sym class.1 };
  }
