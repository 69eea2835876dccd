-- Forms of assertions with what is handed over put in: those that have no parts are filled, and the others stay. (Reverse Polish
-- notation.)
use Rattle.std.specs.Prelude.{List, map}
use Rattle.store_logic.specs.declared.assertion.Assertion.TheOpen.{Assertion-F}
use Rattle.store_logic.specs.Filling.{filled_term, filled_truth, filled_set, filled_arg}
use Rattle.store_logic.specs.Postfix.{Form, form_of}
use Rattle.hoare_fill.specs.declared.putting.Put.{Put}
use Rattle.hoare_fill.specs.Putting.{put_for}

abbrev pub filled_form : List Put → Form → Form
filled_form puts Assertion-F.True = Assertion-F.True
filled_form puts Assertion-F.False = Assertion-F.False
filled_form puts (Assertion-F.Truth t) = form_of (filled_truth (put_for puts) 0 t)
filled_form puts (Assertion-F.Is t v) = Assertion-F.Is (filled_term (put_for puts) 0 t) v
filled_form puts (Assertion-F.Same t u) = Assertion-F.Same (filled_term (put_for puts) 0 t) (filled_term (put_for puts) 0 u)
filled_form puts (Assertion-F.Member t set) = Assertion-F.Member (filled_term (put_for puts) 0 t) (filled_set (put_for puts) 0 set)
filled_form puts (Assertion-F.Subset set other) = Assertion-F.Subset (filled_set (put_for puts) 0 set) (filled_set (put_for puts) 0 other)
filled_form puts (Assertion-F.Walk t along u) = Assertion-F.Walk (filled_term (put_for puts) 0 t) along (filled_term (put_for puts) 0 u)
filled_form puts (Assertion-F.Pred k args) = Assertion-F.Pred k (map (filled_arg (put_for puts) 0) args)
filled_form puts (Assertion-F.Not a) = Assertion-F.Not a
filled_form puts (Assertion-F.And a b) = Assertion-F.And a b
filled_form puts (Assertion-F.Or a b) = Assertion-F.Or a b
filled_form puts (Assertion-F.Imp a b) = Assertion-F.Imp a b
filled_form puts (Assertion-F.Iff a b) = Assertion-F.Iff a b
filled_form puts (Assertion-F.Ex ty a) = Assertion-F.Ex ty a
filled_form puts (Assertion-F.All ty a) = Assertion-F.All ty a
filled_form puts (Assertion-F.ExSet ty a) = Assertion-F.ExSet ty a
filled_form puts (Assertion-F.AllSet ty a) = Assertion-F.AllSet ty a
