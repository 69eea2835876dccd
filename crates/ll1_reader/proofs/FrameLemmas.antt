-- Frames that are put on and taken off.
use Rattle.std.proofs.Common.{◌≡◌, List, [], ◌∷◌, ◌++◌, refl}
use Rattle.ll1_reader.specs.declared.work.Frame.{Frame}
use Rattle.ll1_reader.specs.Readings.{Stack, Row}
use Rattle.ll1_reader.specs.Frames.{pile}

-- the last frame stands on top
pub pile-last : {N A K : Type 0} (frames : List (Frame N A K)) (frame : Frame N A K) (s : Stack N A K) →
    pile (frames ++ frame ∷ []) s ≡ Row frame.rest.now frame.depth (pile frames s)
pile-last [] frame s = refl
pile-last (other ∷ frames) frame s = pile-last frames frame (Row other.rest.now other.depth s)
