use Rattle.puddle_header.proofs.root_value.Goals as goal

pub returns-clause-word : goal.returns-clause-word
returns-clause-word g c = c.frame_word.ensures.word
