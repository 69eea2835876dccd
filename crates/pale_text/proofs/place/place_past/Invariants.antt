use Rattle.std.proofs.Common.{◌≡◌, ◌+◌, ◌^◌, ◌<◌, length, drop}
use Rattle.pale_text.specs.Places.{place_past}
use Rattle.pale_text.proofs.place.place_past.Given as goal

abbrev pub invariant-loop-byte : goal.invariant-loop-byte
invariant-loop-byte l =
    (l.place.line + length (drop l.byte-index l.bytes) < 2 ^ 32) × (l.place.column + length (drop l.byte-index l.bytes) < 2 ^ 32)
    × (place_past l.place (drop l.byte-index l.bytes) ≡ place_past l.fn.place l.bytes)
