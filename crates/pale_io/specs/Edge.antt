-- What a clause reads of a source and a sink over std.
use Rattle.std.specs.Prelude.{ℕ, List, Option, None}
use Rattle.pale_io.specs.declared.std_source.StdSource.{StdSource}
use Rattle.pale_io.specs.declared.std_sink.StdSink.{StdSink}

-- the reader below the source
abbrev pub source_reader : {R : Type 0} → StdSource R → R
source_reader source = source.reader

-- how often the reader has failed
abbrev pub source_faults : {R : Type 0} → StdSource R → ℕ
source_faults source = source.faults

-- it tells no bytes
abbrev pub source_left : {R : Type 0} → StdSource R → Option (List ℕ)
source_left source = None

-- the writer below the sink
abbrev pub sink_writer : {W : Type 0} → StdSink W → W
sink_writer sink = sink.writer

-- how often the writer has failed, or has taken no byte of a piece
abbrev pub sink_faults : {W : Type 0} → StdSink W → ℕ
sink_faults sink = sink.faults

-- it tells no bytes
abbrev pub sink_written : {W : Type 0} → StdSink W → Option (List ℕ)
sink_written sink = None
