-- On what a builder answers: what comes with an automaton that it made, and what stays where it made none.
use Rattle.std.proofs.Common.{◌≡◌, ℕ, ◌≤◌, Result, Ok, Err, IfOk, OnErr, inl, inr, List, [], ◌∷◌, ◌++◌, Contains, IsSome, refl, ◌∙◌, ap, subst, arith}
use Rattle.std.proofs.Common.{append-nil}
use Rattle.std.proofs.lemmas.List.Elements.{Contains-append_left, Contains-append_right, Contains-append_cases}
use Rattle.bdd_nodes.specs.Shelf.{Contents, IsShelf, roots_of, limit_of}
use Rattle.bdd_nodes.specs.Changes.{Keeps, SameTables, DropsTable, CountsHeld}
use Rattle.bdd_walk.specs.declared.stop.Stop.{Stop}
use Rattle.gta_theory.specs.Guides.{Spaces}
use Rattle.gta_core.specs.Auto.{AutoView, IsAuto}
use Rattle.gta_core.specs.Changes.{KeepsTable, RegistersTable}
use Rattle.gta_keep.specs.Holding.{Holds, HoldsBeside, HaveSum, Passes, beside, kept_autos}
use Rattle.gta_keep.proofs.HoldingLemmas.{times-append, kept-release}
use Rattle.gta_keep.proofs.PassesLemmas.{Entries, Passes-both, Passes-beside, Passes-made, Passes-registers, Passes-order, Passes-release, HoldsBeside-after}
use Rattle.gta_keep.proofs.RoomLemmas.{room-sum}
use Rattle.gta_keep.proofs.SumLemmas.{HaveSum-kept}

abbrev pub Answer : Type 0
Answer = Result AutoView Stop

-- the automaton that was made, if any
abbrev pub made : Answer → List AutoView
made (Ok c) = c ∷ []
made (Err stop) = []

pub IfOk-map : (P Q : AutoView → Type 0) (result : Answer) → ((c : AutoView) → P c → Q c) → IfOk result P → IfOk result Q
IfOk-map P Q (Ok c) f is = f c is
IfOk-map P Q (Err stop) f is = is

pub OnErr-map : (P Q : Type 0) (result : Answer) → (P → Q) → OnErr result P → OnErr result Q
OnErr-map P Q (Ok c) f is = is
OnErr-map P Q (Err stop) f is = f is

module _ (g : Spaces) where
  -- after changes that leave what waits, a builder's answer
  module _ (was old new : Contents) (xs : List AutoView) (before kept : Entries) (first : Passes g was old xs xs before kept)
      (held : HoldsBeside g was xs before) (is_shelf : IsShelf new) (keeps : Keeps old new) (limit : limit_of new ≡ limit_of old) where
    pub built-ok : (result : Answer) → IfOk result (IsAuto g new) → IfOk result (λ c. RegistersTable old new c.table) →
        IfOk result (λ c. Passes g was new xs (c ∷ xs) before kept)
    built-ok (Ok c) auto registers =
        Passes-both g was old new xs xs (c ∷ xs) before kept kept first
        (Passes-registers g old new c xs kept g (HoldsBeside-after g was old xs xs before kept first held) is_shelf keeps registers (λ others holds. auto)
        limit)
    built-ok (Err stop) auto registers = tt

  pub built-err : (was old new : Contents) (before kept : Entries) → Passes g was old [] [] before kept → IsShelf old → IsShelf new → Keeps old new →
      limit_of new ≡ limit_of old → (result : Answer) → OnErr result (SameTables old new) → OnErr result (Passes g was new [] [] before kept)
  built-err was old new before kept first was_shelf is_shelf keeps limit (Ok c) same = tt
  built-err was old new before kept first was_shelf is_shelf keeps limit (Err stop) same =
      Passes-both g was old new [] [] [] before kept kept first (Passes-made g old new kept was_shelf is_shelf keeps same limit)

  -- one that is held is registered
  pub registered-beside : (shelf : Contents) (xs : List AutoView) (kept : Entries) → HoldsBeside g shelf xs kept → (a : AutoView) →
      Contains xs a → IsSome (roots_of shelf a.table)
  registered-beside shelf xs kept held a there =
      (held.holds.each a (Contains-append_left xs (held.others ++ kept_autos kept) a there)).registered

  pub auto-beside : (shelf : Contents) (xs : List AutoView) (kept : Entries) → HoldsBeside g shelf xs kept → (a : AutoView) →
      Contains xs a → IsAuto g shelf a
  auto-beside shelf xs kept held a there = held.holds.each a (Contains-append_left xs (held.others ++ kept_autos kept) a there)

  -- those that wait with the one that is let go of stay
  pub stays-release : (old new : Contents) (a : AutoView) (xs : List AutoView) (kept : Entries) → HoldsBeside g old (a ∷ xs) kept → IsShelf new →
      DropsTable old new a.table → (b : AutoView) → Contains xs b → KeepsTable old new b.table
  stays-release old new a xs kept held is_shelf drops b there =
      kept-release g old new a (beside xs held.others kept) held.holds is_shelf drops b
      (Contains-append_left xs (held.others ++ kept_autos kept) b there)

  -- the first of two parts last
  turn : (shelf : Contents) (xs ys : List AutoView) (kept : Entries) → Passes g shelf shelf (xs ++ ys) (ys ++ xs) kept kept
  turn shelf xs ys kept =
      Passes-order g shelf (xs ++ ys) (ys ++ xs) kept kept
      (λ t. let x = times-append xs ys t in let y = times-append ys xs t in omega arith)
      (λ a there. Contains-append_left (xs ++ ys) (kept_autos kept) a (elim (Contains-append_cases ys xs a there) [
        | inl first ↦ Contains-append_right xs ys a first
        | inr later ↦ Contains-append_left xs ys a later
      ])) (λ entry there. there)

  -- what a builder that was lent the automata answered
  module _ (was now : Contents) (xs : List AutoView) (before after : Entries) (result : Answer)
      (ok : IfOk result (λ c. Passes g was now xs (c ∷ xs) before after)) (err : OnErr result (Passes g was now [] [] before after)) where
    made-at : (answer : Answer) → IfOk answer (λ c. Passes g was now xs (c ∷ xs) before after) → OnErr answer (Passes g was now [] [] before after) →
        Passes g was now xs (made answer ++ xs) before after
    made-at (Ok c) ok err = ok
    made-at (Err stop) ok err = Passes-beside g was now xs before after err

    -- the automata that were lent first
    pub lent-first : Passes g was now xs (xs ++ made result) before after
    lent-first =
        Passes-both g was now now xs (made result ++ xs) (xs ++ made result) before after after (made-at result ok err)
        (turn now (made result) xs after)

  pub made-ok : (was now : Contents) (xs : List AutoView) (before after : Entries) (result : Answer) →
      Passes g was now xs (made result) before after → IfOk result (λ c. Passes g was now xs (c ∷ []) before after)
  made-ok was now xs before after (Ok c) passes = passes
  made-ok was now xs before after (Err stop) passes = tt

  pub made-err : (was now : Contents) (xs : List AutoView) (before after : Entries) (result : Answer) →
      Passes g was now xs (made result) before after → OnErr result (Passes g was now xs [] before after)
  made-err was now xs before after (Ok c) passes = tt
  made-err was now xs before after (Err stop) passes = passes

  -- one is let go of
  module _ (was now new : Contents) (a : AutoView) (before after : Entries) (result : Answer)
      (ok : IfOk result (λ c. Passes g was now (a ∷ []) (c ∷ a ∷ []) before after)) (err : OnErr result (Passes g was now [] [] before after))
      (held : HoldsBeside g was (a ∷ []) before) where
    held-one : HoldsBeside g now (a ∷ made result) after
    held-one = HoldsBeside-after g was now (a ∷ []) (a ∷ made result) before after (lent-first was now (a ∷ []) before after result ok err) held

    pub registered-one : IsSome (roots_of now a.table)
    registered-one = registered-beside now (a ∷ made result) after held-one a (0, omega arith, refl)

    module _ (is_shelf : IsShelf new) (drops : DropsTable now new a.table) where
      pub passes-one : Passes g was new (a ∷ []) (made result) before after
      passes-one =
          Passes-both g was now new (a ∷ []) (a ∷ made result) (made result) before after after
          (lent-first was now (a ∷ []) before after result ok err)
          (Passes-release g now new a (made result) after g held-one is_shelf drops)

      pub stays-one : (b : AutoView) → Contains (made result) b → KeepsTable now new b.table
      stays-one = stays-release now new a (made result) after held-one is_shelf drops

  -- two are let go of
  module _ (was now then new : Contents) (a b : AutoView) (before after : Entries) (result : Answer)
      (ok : IfOk result (λ c. Passes g was now (a ∷ b ∷ []) (c ∷ a ∷ b ∷ []) before after))
      (err : OnErr result (Passes g was now [] [] before after)) (held : HoldsBeside g was (a ∷ b ∷ []) before) where
    held-two : HoldsBeside g now (a ∷ b ∷ made result) after
    held-two = HoldsBeside-after g was now (a ∷ b ∷ []) (a ∷ b ∷ made result) before after
        (lent-first was now (a ∷ b ∷ []) before after result ok err) held

    pub registered-first : IsSome (roots_of now a.table)
    registered-first = registered-beside now (a ∷ b ∷ made result) after held-two a (0, omega arith, refl)

    module _ (then_shelf : IsShelf then) (drops_a : DropsTable now then a.table) where
      first-gone : Passes g now then (a ∷ b ∷ made result) (b ∷ made result) after after
      first-gone = Passes-release g now then a (b ∷ made result) after g held-two then_shelf drops_a

      held-second : HoldsBeside g then (b ∷ made result) after
      held-second = HoldsBeside-after g now then (a ∷ b ∷ made result) (b ∷ made result) after after first-gone held-two

      pub registered-second : IsSome (roots_of then b.table)
      registered-second = registered-beside then (b ∷ made result) after held-second b (0, omega arith, refl)

      module _ (is_shelf : IsShelf new) (drops_b : DropsTable then new b.table) where
        pub passes-two : Passes g was new (a ∷ b ∷ []) (made result) before after
        passes-two =
            Passes-both g was now new (a ∷ b ∷ []) (a ∷ b ∷ made result) (made result) before after after
            (lent-first was now (a ∷ b ∷ []) before after result ok err)
            (Passes-both g now then new (a ∷ b ∷ made result) (b ∷ made result) (made result) after after after first-gone
            (Passes-release g then new b (made result) after g held-second is_shelf drops_b))

        pub stays-two : (c : AutoView) → Contains (made result) c → KeepsTable now new c.table
        stays-two c there = record {
          registered = λ some. second.registered (first.registered some);
          functions = λ place. second.functions place ∙ first.functions place;
        } where
          first : KeepsTable now then c.table
          first = stays-release now then a (b ∷ made result) after held-two then_shelf drops_a c
              (Contains-append_right (b ∷ []) (made result) c there)

          second : KeepsTable then new c.table
          second = stays-release then new b (made result) after held-second is_shelf drops_b c there

-- the room that is left where nothing is kept
pub room-left : (g : Spaces) (was now : Contents) (before after : Entries) → Passes g was now [] [] before after → after ≡ [] →
    (others : List AutoView) (sum count : ℕ) → Holds g was (beside [] others before) → HaveSum g was others sum → CountsHeld now count → count ≤ sum
room-left g was now before after passes none others sum count holds have counts =
    let here : Holds g now (beside [] others after) = passes.holds others holds in
    let alone : Holds g now others = subst (Holds g now) (ap (λ (es : Entries). others ++ kept_autos es) none ∙ append-nil others) here in
    room-sum g now others sum count alone
    (HaveSum-kept g was now others sum (λ a there. passes.others others a holds there) have) counts
