use Rattle.pud_defs.proofs.Logging.Entries.{entries_in-append}
use Rattle.pud_defs.proofs.laws.joined_words_spell_joined_entries.Goals as goal

pub returns : goal.returns
returns c = λ xs ys es some. entries_in-append xs ys es some
