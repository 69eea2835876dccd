use Rattle.std.proofs.Common.{◌≡◌, ◌≤◌, min, take, map, fold}
use Rattle.ws2s_syntax.specs.Sentences.{Sentence, joined, sentence_of}
use Rattle.ws2s_reduce.specs.Sizes.{sentence_size, sizes_in}
use Rattle.ws2s_reduce.proofs.size.+sizing.Given as goal

abbrev pub invariant-size_of_chain-loop-other : goal.invariant-size_of_chain-loop-other
invariant-size_of_chain-loop-other l = record {
  capped : l.size ≤ 65537;
  so_far : (s : Sentence) → l.fn.first ≡ min (sentence_size (sizes_in l.sizes) s) 65537 →
      l.size ≡ min (sentence_size (sizes_in l.sizes) (fold (joined l.connective) s (map sentence_of (take l.other-index l.others)))) 65537;
}
