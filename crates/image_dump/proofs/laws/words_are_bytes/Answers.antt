use Rattle.image_dump.proofs.LawLemmas as lemmas
use Rattle.image_dump.proofs.laws.words_are_bytes.Goals as goal

pub returns : goal.returns
returns c = record { code = lemmas.words_are_bytes; section = lemmas.section_words_are_bytes }
