-- What the frames of a reader stand for.
use Rattle.std.specs.Prelude.{List, [], ◌∷◌}
use Rattle.ll1_reader.specs.declared.work.Frame.{Frame}
use Rattle.ll1_reader.specs.declared.work.Work.{Work}
use Rattle.ll1_reader.specs.Readings.{Stack, Bottom, Row}

-- the frames on a stack, the last one on top
abbrev pub pile : {N A K : Type 0} → List (Frame N A K) → Stack N A K → Stack N A K
pile [] s = s
pile (frame ∷ frames) s = pile frames (Row frame.rest.now frame.depth s)

abbrev pub stack_of : {N A K : Type 0} → Work N A K → Stack N A K
stack_of work = pile work.frames.items Bottom
