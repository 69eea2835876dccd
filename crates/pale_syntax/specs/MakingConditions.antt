-- What is made of the conditions of code.
use Rattle.std.specs.Prelude.{[], ◌∷◌, ◌++◌}
use Rattle.plain_data.specs.Stacks.{top, rest}
use Rattle.pale_syntax.specs.declared.grammar.act.ConditionAct.{ConditionAct}
use Rattle.pale_syntax.specs.declared.grammar.act.ConditionAct.TheVariants.{TrueCondition, FalseCondition, TermAlone, TakeTermBack, SameAs, NotSameAs}
use Rattle.pale_syntax.specs.declared.grammar.act.ConditionAct.TheVariants.{OfVariant, NotCondition, JoinAndAlso, JoinOrElse}
use Rattle.pale_syntax.specs.declared.tree.names.Term.{Term}
use Rattle.pale_syntax.specs.declared.tree.condition.Condition.{Condition, out-Condition}
use Rattle.pale_syntax.specs.declared.tree.condition.Condition.TheVariants as condition
use Rattle.pale_syntax.specs.declared.tree.condition.Condition.TheOpen.{Condition-F}
use Rattle.pale_syntax.specs.MakingParts.{Parts, Near, nameless}
use Rattle.pale_text.specs.Places.{nowhere}
use Rattle.pale_text.specs.Tokens.{place_of}
use Rattle.pale_syntax.specs.MakingWords.{termless}

-- stands where no condition is known
abbrev pub conditionless : Condition
conditionless = condition.True nowhere

-- the term whose truth a condition is
abbrev pub alone_in : Condition-F Condition → Term
alone_in (Condition-F.Truth term) = term
alone_in _ = termless

abbrev pub term_alone : Condition → Term
term_alone one = alone_in (out-Condition one)

-- both conditions: the second goes to the end of a chain
abbrev pub and_by : Condition-F Condition → Condition → Condition → Condition
and_by (Condition-F.And first others) one other = condition.And first (others ++ other ∷ [])
and_by _ one other = condition.And one (other ∷ [])

abbrev pub both_conditions : Condition → Condition → Condition
both_conditions one other = and_by (out-Condition one) one other

-- either condition: the second goes to the end of a chain
abbrev pub or_by : Condition-F Condition → Condition → Condition → Condition
or_by (Condition-F.Or first others) one other = condition.Or first (others ++ other ∷ [])
or_by _ one other = condition.Or one (other ∷ [])

abbrev pub either_condition : Condition → Condition → Condition
either_condition one other = or_by (out-Condition one) one other

abbrev pub after_condition : ConditionAct → Near → Parts → Parts
after_condition TrueCondition near parts = record parts { conditions = condition.True (place_of near.last) ∷ parts.conditions }
after_condition FalseCondition near parts = record parts { conditions = condition.False (place_of near.last) ∷ parts.conditions }
after_condition TermAlone near parts =
    record parts { conditions = condition.Truth (top termless parts.terms) ∷ parts.conditions; terms = rest parts.terms }
after_condition TakeTermBack near parts =
    record parts { terms = term_alone (top conditionless parts.conditions) ∷ parts.terms; conditions = rest parts.conditions }
after_condition SameAs near parts =
    record parts {
      conditions = condition.Same (top termless (rest parts.terms)) (top nowhere parts.places) (top termless parts.terms) ∷ parts.conditions;
      terms = rest (rest parts.terms);
      places = rest parts.places;
    }
after_condition NotSameAs near parts =
    record parts {
      conditions = condition.Differ (top termless (rest parts.terms)) (top nowhere parts.places) (top termless parts.terms) ∷ parts.conditions;
      terms = rest (rest parts.terms);
      places = rest parts.places;
    }
after_condition OfVariant near parts =
    record parts {
      conditions = condition.Is (top termless parts.terms) (top nowhere parts.places) (top nameless parts.names) ∷ parts.conditions;
      terms = rest parts.terms;
      places = rest parts.places;
      names = rest parts.names;
    }
after_condition NotCondition near parts =
    record parts {
      conditions = condition.Not (top nowhere parts.places) (top conditionless parts.conditions) ∷ rest parts.conditions;
      places = rest parts.places;
    }
after_condition JoinAndAlso near parts =
    record parts {
      conditions = both_conditions (top conditionless (rest parts.conditions)) (top conditionless parts.conditions) ∷ rest (rest parts.conditions);
    }
after_condition JoinOrElse near parts =
    record parts {
      conditions = either_condition (top conditionless (rest parts.conditions)) (top conditionless parts.conditions) ∷ rest (rest parts.conditions);
    }
