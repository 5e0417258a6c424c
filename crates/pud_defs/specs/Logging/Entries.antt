-- The entries of a log, as its words spell them.
use Rattle.std.specs.Prelude.{ℕ, zero, suc, ◌+◌, ◌*◌, ◌/◌, ◌%◌, ◌^◌, ◌<◌, ◌≤◌, Bool, ◌&&◌, nat_le, nat_lt, ◌==◌, cond, List, [], ◌∷◌, length, take, Option, Some, None, option_map}
use Rattle.pud_defs.specs.declared.layout.TheConstants.{LOG_HEADER_WORDS, LOG_ENTRY_WORDS, ENTRY_HEADER_WORDS, MAX_ENTRY_VALUES}
use Rattle.pud_defs.specs.declared.log_words.TheConstants.{REDO_ORDER}
use Rattle.pud_defs.specs.Formats.Image.{Image}

-- the range of a gate, and how many entry words it counts
abbrev pub gate_lo : ℕ → ℕ
gate_lo v = v % 2 ^ 8

abbrev pub gate_hi : ℕ → ℕ
gate_hi v = v / 2 ^ 8 % 2 ^ 8

abbrev pub gate_used : ℕ → ℕ
gate_used v = v / 2 ^ 16 % 2 ^ 16

abbrev pub gate_word : ℕ → ℕ → ℕ → ℕ
gate_word lo hi used = lo + hi * 2 ^ 8 + used * 2 ^ 16

-- all bits above bit 31 are 0, and the gate counts at most as many entry words as there are
abbrev pub is_legal_gate : ℕ → Bool
is_legal_gate v = nat_lt v (2 ^ 32) && nat_le (gate_used v) LOG_ENTRY_WORDS

-- the gate of a log with nothing to replay: no entry can be in its range, and it counts no word
abbrev pub is_idle_gate : ℕ → Bool
is_idle_gate v = is_legal_gate v && gate_used v == 0 && nat_le (gate_hi v) (gate_lo v + 1)

-- the number of values, the sequence number and the order, from the second word of an entry
abbrev pub entry_n : ℕ → ℕ
entry_n v = v % 2 ^ 16

abbrev pub entry_seq : ℕ → ℕ
entry_seq v = v / 2 ^ 16 % 2 ^ 16

abbrev pub entry_order : ℕ → ℕ
entry_order v = v / 2 ^ 32

abbrev pub entry_word : ℕ → ℕ → ℕ → ℕ
entry_word n seq order = n + seq * 2 ^ 16 + order * 2 ^ 32

abbrev pub is_legal_entry_word : ℕ → Bool
is_legal_entry_word v = nat_le 1 (entry_n v) && nat_le (entry_n v) MAX_ENTRY_VALUES && nat_le (entry_order v) REDO_ORDER

-- an entry: the address that it names, its sequence number, which tells if it counts, its order, which tells how it is
-- applied, and the values of the words from the address on
pub record Entry : Type 0 where
  pub address : ℕ
  pub seq : ℕ
  pub order : ℕ
  pub vals : List ℕ

-- 1 to 32 values, a sequence number of 16 bits, and the order of undo or redo entries
pub record IsLegalEntry (e : Entry) : Type 0 where
  pub some : 1 ≤ length e.vals
  pub no_more : length e.vals ≤ MAX_ENTRY_VALUES
  pub seq_fits : e.seq < 2 ^ 16
  pub order_known : e.order ≤ REDO_ORDER

-- the words that spell an entry
abbrev pub spelled : Entry → List ℕ
spelled e = e.address ∷ entry_word (length e.vals) e.seq e.order ∷ e.vals

-- how many words entries take
abbrev pub entry_words : List Entry → ℕ
entry_words [] = 0
entry_words (e ∷ es) = length e.vals + ENTRY_HEADER_WORDS + entry_words es

-- the entry of these two words, with its values from the start of the rest
abbrev pub entry_by : ℕ → ℕ → List ℕ → Entry
entry_by address word rest = record { address = address; seq = entry_seq word; order = entry_order word; vals = take (entry_n word) rest }

-- this entry before the others, if its second word is legal
abbrev pub entry_and_rest : ℕ → ℕ → List ℕ → Option (List Entry) → Option (List Entry)
entry_and_rest address word rest others = cond (is_legal_entry_word word) (option_map (λ es. entry_by address word rest ∷ es) others) None

-- the entries that the words spell, after a number of words that are still to be passed over; none if they do not spell
-- whole entries to the end
unfoldable pub entries_in : ℕ → List ℕ → Option (List Entry)
entries_in zero [] = Some []
entries_in (suc n) [] = None
entries_in (suc n) (w ∷ ws) = entries_in n ws
entries_in zero (address ∷ []) = None
entries_in zero (address ∷ word ∷ rest) = entry_and_rest address word rest (entries_in (entry_n word) rest)

-- the first entry of the words, if they begin with one
unfoldable pub first_entry : List ℕ → Option Entry
first_entry [] = None
first_entry (address ∷ []) = None
first_entry (address ∷ word ∷ rest) = cond (is_legal_entry_word word && nat_le (entry_n word) (length rest)) (Some (entry_by address word rest)) None

-- `count` words of an image, from a word on
unfoldable pub words_from : Image → ℕ → ℕ → List ℕ
words_from image at zero = []
words_from image at (suc count) = image at ∷ words_from image (at + 1) count

-- the entry words that the gate of the log at this word counts
abbrev pub used_words : Image → ℕ → List ℕ
used_words image at = words_from image (at + LOG_HEADER_WORDS) (gate_used (image at))

-- the entries of the log at this word, if it is well formed
unfoldable pub entries_of : Image → ℕ → Option (List Entry)
entries_of image at = cond (is_legal_gate (image at)) (entries_in 0 (used_words image at)) None

-- what is read of a log: its range, and its entries if it is well formed
pub record Log : Type 0 where
  pub lo : ℕ
  pub hi : ℕ
  pub entries : Option (List Entry)

abbrev pub log_of : Image → ℕ → Log
log_of image at = record { lo = gate_lo (image at); hi = gate_hi (image at); entries = entries_of image at }
