use Rattle.std.proofs.Common.{◌≡◌, ◌++◌, map, if◌then◌else◌}
use Rattle.ws2s_example.specs.Examples.{listed_text, others_text}
use Rattle.ws2s_example.specs.Texts.{texts_of}
use Rattle.ws2s_example.proofs.lines.push_listed.Given as goal

abbrev pub invariant-loop-next : goal.invariant-loop-next
invariant-loop-next l =
    (goal.iterator-loop-next).can_next l.next-iterator × (goal.iterator-loop-next).is_finite l.next-iterator
    × (l.text.items ++ (if l.is_first then listed_text (map (λ text. text.items) l.next-iterator) else others_text (map (λ text. text.items) l.next-iterator))
    ≡ l.fn.text.items ++ listed_text (texts_of l.texts))
