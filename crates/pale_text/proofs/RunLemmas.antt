-- One event after the other: what the events that are left make stays the same.
use Rattle.std.proofs.Common.{◌≡◌, ℕ, ◌+◌, ◌<◌, suc, List, ◌∷◌, Option, length, get_or, drop, sym, ap, ◌∙◌, add-one}
use Rattle.std.proofs.Math.Seq.{drop-cons}
use Rattle.ll1_reader.specs.declared.symbol.Event.{Event}
use Rattle.ll1_reader.specs.declared.symbol.Event.TheVariants as event
use Rattle.plain_data.specs.Stacks.{rest}
use Rattle.pale_text.specs.declared.token.Token.{Token}
use Rattle.pale_text.specs.Near.{Near}
use Rattle.pale_text.specs.Making.{run}
use Rattle.pale_text.specs.Tokens.{first_of}

module _ {A M : Type 0} (after : A → Near → M → M) (events : List (Event A)) (place : ℕ) (d : Event A) (within : place < length events) where
  -- the events that are left, the next one first
  next-event : (e : Event A) → get_or events place d ≡ e → drop place events ≡ e ∷ drop (place + 1) events
  next-event e is = drop-cons events place d within ∙ ap (λ x. x ∷ drop (suc place) events) is ∙ ap (λ n. e ∷ drop n events) (sym (add-one place))

  pub run-token : (last : Option Token) (left : List Token) (made : M) → get_or events place d ≡ event.Token →
      run after (drop (place + 1) events) (first_of left) (rest left) made ≡ run after (drop place events) last left made
  run-token last left made is = sym (ap (λ all. run after all last left made) (next-event event.Token is))

  pub run-act : (act : A) (last : Option Token) (left : List Token) (made : M) → get_or events place d ≡ event.Act act →
      run after (drop (place + 1) events) last left (after act (record { last = last; next = first_of left }) made)
      ≡ run after (drop place events) last left made
  run-act act last left made is = sym (ap (λ all. run after all last left made) (next-event (event.Act act) is))
