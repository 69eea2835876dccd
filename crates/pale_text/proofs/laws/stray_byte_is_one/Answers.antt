use Rattle.pale_text.proofs.ReadingLemmas as lemma
use Rattle.pale_text.proofs.laws.stray_byte_is_one.Goals as goal

pub returns : goal.returns
returns c = record { place = lemma.stray_is_one; apart = lemma.lexed_or_stray }
