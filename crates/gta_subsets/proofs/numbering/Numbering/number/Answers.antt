use Rattle.std.proofs.Common.{ℕ, List, Option, Some, sym, ◌∙◌, ap, subst, arith}
use Rattle.std.proofs.lemmas.List.{length-map}
use Rattle.std.proofs.lemmas.Option.{slice_get-map}
use Rattle.std.specs.Prelude.{Vec, option_map}
use Rattle.std.proofs.Common.{Global}
use Rattle.gta_subsets.specs.Numbers.{lists_of, Grows}
use Rattle.gta_subsets.proofs.NumbersLemmas.{is_set-true, lists_of-insert, Grows-insert, AreNumbers-grows}
use Rattle.gta_subsets.proofs.numbering.Numbering.number.Goals as goal

pub invariant_of-self-2 : goal.invariant_of-self-2
invariant_of-self-2 c =
    let many = length-map c.self.inside.sets.keys (λ (v : Vec ℕ Global). v.items) in
    AreNumbers-grows (lists_of c.self.inside.sets.keys) (lists_of c.insert_full.new.self.keys) c.args.set.items c.requires c.self.invariant (omega arith)
    (Grows-insert (lists_of c.self.inside.sets.keys) (lists_of c.insert_full.new.self.keys) c.args.set.items
    (lists_of-insert c.args.set c.self.inside.sets.keys c.insert_full.new.self.keys c.in_ok-place.ensures.keys))

pub returns-clause-value : goal.returns-clause-value
returns-clause-value c =
    let many = length-map c.self.inside.sets.keys (λ (v : Vec ℕ Global). v.items) in
    let numbers = AreNumbers-grows (lists_of c.self.inside.sets.keys) (lists_of c.insert_full.new.self.keys) c.args.set.items c.requires
    c.self.invariant (omega arith)
    (Grows-insert (lists_of c.self.inside.sets.keys) (lists_of c.insert_full.new.self.keys) c.args.set.items
    (lists_of-insert c.args.set c.self.inside.sets.keys c.insert_full.new.self.keys c.in_ok-place.ensures.keys)) in
    let stored = c.in_ok-place.ensures.stored in
    numbers.found c.in_ok-place.place c.args.set.items
    (slice_get-map (λ (v : Vec ℕ Global). v.items) c.insert_full.new.self.keys c.in_ok-place.place
    ∙ ap (option_map (λ (v : Vec ℕ Global). v.items)) stored.1
    ∙ ap (λ (p : List ℕ). let o : Option (List ℕ) = Some p in o) (sym (is_set-true c.args.set.items stored.0.items stored.2)))

pub returns-clause-place : goal.returns-clause-place
returns-clause-place c =
    let many = length-map c.insert_full.new.self.keys (λ (v : Vec ℕ Global). v.items) in
    let within = c.in_ok-place.ensures.within in
    omega arith

pub returns-clause-grows : goal.returns-clause-grows
returns-clause-grows c = subst (λ (old : List (List ℕ)). Grows old (lists_of c.insert_full.new.self.keys) c.args.set.items) c.self.view_is
    (Grows-insert (lists_of c.self.inside.sets.keys) (lists_of c.insert_full.new.self.keys) c.args.set.items
    (lists_of-insert c.args.set c.self.inside.sets.keys c.insert_full.new.self.keys c.in_ok-place.ensures.keys))

pub returns-clause-numbers : goal.returns-clause-numbers
returns-clause-numbers c =
    let many = length-map c.self.inside.sets.keys (λ (v : Vec ℕ Global). v.items) in
    AreNumbers-grows (lists_of c.self.inside.sets.keys) (lists_of c.insert_full.new.self.keys) c.args.set.items c.requires c.self.invariant (omega arith)
    (Grows-insert (lists_of c.self.inside.sets.keys) (lists_of c.insert_full.new.self.keys) c.args.set.items
    (lists_of-insert c.args.set c.self.inside.sets.keys c.insert_full.new.self.keys c.in_ok-place.ensures.keys))
