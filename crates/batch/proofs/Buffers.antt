-- The words of a batch, at its start and with one more entry.
use Rattle.std.proofs.Common.{◌≡◌, ℕ, zero, suc, ◌+◌, ◌≤◌, List, [], ◌∷◌, ◌++◌, length, take, Some, refl, sym, ap, subst, ◌∙◌, arith}
use Rattle.std.proofs.lemmas.List.Sums.{sum_by-append}
use Rattle.std.proofs.lemmas.List.Elements.{All-append}
use Rattle.pud_defs.specs.declared.layout.TheConstants.{LOG_ENTRY_WORDS, ENTRY_HEADER_WORDS}
use Rattle.pud_defs.specs.Logging.Entries.{Entry, IsLegalEntry, spelled, entries_in}
use Rattle.pud_defs.specs.Logging.Replay.{entries_or_none}
use Rattle.pud_defs.proofs.Logging.Entries.{entries_in-nothing, entries_in-one_more}
use Rattle.batch.specs.Batches.{entries_spelled, word_count_of, IsBatchEntry, AreBatched, IsBuffer}

pub nothing_spelled : (words : List ℕ) → entries_spelled 0 words ≡ []
nothing_spelled words = ap entries_or_none (entries_in-nothing [] refl)

pub IsBuffer-empty : (words : List ℕ) → IsBuffer 0 words
IsBuffer-empty words =
    record {
      within = omega arith;
      spells = entries_in-nothing [] refl ∙ ap Some (sym (nothing_spelled words));
      count = ap word_count_of (sym (nothing_spelled words));
      batched = subst (λ (es : List Entry). AreBatched es) (sym (nothing_spelled words)) (λ k d below. absurd (omega arith));
    }

one_batched : (e : Entry) → IsBatchEntry e → AreBatched (e ∷ [])
one_batched e batched zero d below = batched
one_batched e batched (suc k) d below = absurd (omega arith)

-- there is one more entry, after those that were there
pub record HasMore (used : ℕ) (words : List ℕ) (e : Entry) (n : ℕ) (after : List ℕ) : Type 0 where
  pub entries : entries_spelled n after ≡ entries_spelled used words ++ e ∷ []
  pub buffer : IsBuffer n after

pub has_more : (used : ℕ) (words : List ℕ) (e : Entry) (n : ℕ) (after : List ℕ) → IsBuffer used words → IsLegalEntry e → IsBatchEntry e
    → n ≡ used + (length e.vals + ENTRY_HEADER_WORDS) → n ≤ LOG_ENTRY_WORDS → take n after ≡ take used words ++ spelled e → HasMore used words e n after
has_more used words e n after buffer legal batched count within there =
    let es = entries_spelled used words in
    let spells : entries_in 0 (take n after) ≡ Some (es ++ e ∷ []) = ap (entries_in 0) there ∙ entries_in-one_more (take used words) es e buffer.spells legal in
    let entries : entries_spelled n after ≡ es ++ e ∷ [] = ap entries_or_none spells in
    let old_count = buffer.count in
    record {
      entries = entries;
      buffer = record {
        within = within;
        spells = spells ∙ ap Some (sym entries);
        count = count ∙ (let sum : used + (length e.vals + ENTRY_HEADER_WORDS) ≡ word_count_of (es ++ e ∷ []) = omega (arith, sum_by-append (λ (x : Entry). length x.vals + ENTRY_HEADER_WORDS) es (e ∷ [])) in sum) ∙ ap word_count_of (sym entries);
        batched = subst (λ (fs : List Entry). AreBatched fs) (sym entries) (All-append IsBatchEntry es (e ∷ []) buffer.batched (one_batched e batched));
      };
    }
