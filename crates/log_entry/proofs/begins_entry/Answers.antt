use Rattle.std.proofs.Common.{◌&&◌, leb, Bool, ℕ, sym, ap, ◌∙◌}
use Rattle.pud_defs.specs.Logging.Entries.{entry_n}
use Rattle.log_entry.proofs.begins_entry.Goals as goal

pub returns-then-is_legal_entry_word : goal.returns-then-is_legal_entry_word
returns-then-is_legal_entry_word c =
    ap (λ (n : ℕ). leb n c.args.words_left) c.entry_n.ensures
    ∙ ap (λ (b : Bool). b && leb (entry_n c.args.word) c.args.words_left) (sym c.if-is_legal_entry_word.true ∙ c.is_legal_entry_word.ensures)
