-- What statements mean before what follows them, and how meanings are put together.
use Rattle.std.specs.Prelude.{ℕ, List, [], ◌∷◌, ◌++◌, Option, Some, None}
use Rattle.std.specs.Option.{option_and_then}
use Rattle.pale_text.specs.declared.place.Pos.{Pos}
use Rattle.store_logic.specs.declared.cond.Cond.{Cond}
use Rattle.store_exec.specs.declared.code.Item.{Item}
use Rattle.store_exec.specs.declared.code.Item.TheVariants as item
use Rattle.store_exec.specs.declared.triple.Start.{Start}
use Rattle.hoare_split.specs.Flows.{Arrival, Flow, ends, branches, after_items}

-- a cut point where a triple starts: the place of its keyword, what holds there, and where it leads
pub record Started : Type 0 where
  pub place : Pos
  pub start : Start
  pub flow : Flow

-- of statements: the items that they are, where no cut is inside; where they lead, and which triples start in them, in order of
-- the text, where what follows them leads to a flow
pub record Passage : Type 0 where
  pub items : Option (List Item)
  pub flow : Flow → Flow
  pub starts : Flow → List Started

-- items, with no cut inside
abbrev pub plain : List Item → Passage
plain items = record { items = Some items; flow = after_items items; starts = λ rest. [] }

-- a cut point: these settings stand before it
abbrev pub cut : List Item → Arrival → (Flow → List Started) → Passage
cut before arrival starts = record { items = None; flow = λ rest. after_items before (ends arrival); starts = starts }

-- one after the other
abbrev pub then_next : Passage → Passage → Passage
then_next one next = record {
  items = option_and_then (λ first. option_and_then (λ more. Some (first ++ more)) next.items) one.items;
  flow = λ rest. one.flow (next.flow rest);
  starts = λ rest. one.starts (next.flow rest) ++ next.starts rest;
}

abbrev pub in_order : List Passage → Passage
in_order [] = plain []
in_order (p ∷ passages) = then_next p (in_order passages)

-- an `if` with a cut inside: what follows it stands in both flows
abbrev pub branch : ℕ → Cond → Passage → Passage → Passage
branch line c first other = record {
  items = None;
  flow = λ rest. branches line c (first.flow rest) (other.flow rest);
  starts = λ rest. first.starts rest ++ other.starts rest;
}

-- an `if` with no cut inside is one item
abbrev pub choice_of : ℕ → Cond → Passage → Passage → Option (List Item) → Option (List Item) → Passage
choice_of line c first other (Some ones) (Some others) = plain (item.If line c ones others ∷ [])
choice_of line c first other (Some ones) None = branch line c first other
choice_of line c first other None others = branch line c first other

abbrev pub choice : ℕ → Cond → Passage → Passage → Passage
choice line c first other = choice_of line c first other first.items other.items
