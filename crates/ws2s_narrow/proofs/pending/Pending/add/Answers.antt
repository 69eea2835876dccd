use Rattle.std.proofs.Common.{◌≡◌, ◌∷◌, ◌∙◌, true, sym, subst, nat_eq}
use Rattle.std.specs.List.{AllByRecursion}
use Rattle.std.specs.HashMap.{get}
use Rattle.ws2s_narrow.specs.Pending.{IsPlacedIn, Quantifies}
use Rattle.ws2s_narrow.specs.Waiting.{Ascends}
use Rattle.ws2s_narrow.proofs.MovingLemmas.{insert-first, All-zip}
use Rattle.ws2s_narrow.proofs.HandingLemmas.{all-apart}
use Rattle.ws2s_narrow.proofs.pending.Pending.add.Goals as goal

pub returns-clause-waiting : goal.returns-clause-waiting
returns-clause-waiting c = c.in_ok-insert.ensures.entries ∙ insert-first c.args.number c.args.next c.args.self.now.waiting.entries c.requires.inner

pub returns-clause-sound : goal.returns-clause-sound
returns-clause-sound c =
    let entries : c.insert.new.self.entries ≡ (c.args.number, c.args.next) ∷ c.args.self.now.waiting.entries =
    c.in_ok-insert.ensures.entries ∙ insert-first c.args.number c.args.next c.args.self.now.waiting.entries c.requires.inner in
    record {
      ascends = subst Ascends (sym entries) (c.requires.inner, c.requires.sound.ascends);
      placed = subst (AllByRecursion (IsPlacedIn (get nat_eq c.note.new.places) c.note.new.idle.items)) (sym entries) (
        c.in_ok-note.ensures.found,
        All-zip (IsPlacedIn (get nat_eq c.args.self.now.places) c.args.self.now.idle.items)
            (λ other. c.args.next.used ≡ true → Quantifies c.args.next.track.0 other → ⊥)
            (IsPlacedIn (get nat_eq c.note.new.places) c.note.new.idle.items)
            (λ other placed apart. c.in_ok-note.ensures.others other placed apart)
            c.args.self.now.waiting.entries c.requires.sound.placed
            (all-apart c.args.next.used c.args.next.track.0 c.args.self.now.waiting.entries c.requires.alone),
      );
    }
