use Rattle.puddle_header.proofs.slot_type.Goals as goal

pub returns-clause-word : goal.returns-clause-word
returns-clause-word g c = c.slot_word.ensures.word
