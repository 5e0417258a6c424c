use Rattle.std.proofs.Common.{◌≡◌, ℕ, true, List, length, None, IsTrue, refl, sym, ap, subst, ◌∙◌, arith}
use Rattle.pm_model.specs.Counts.{fault_of}
use Rattle.pm_model.specs.Changes.{placed}
use Rattle.pud_defs.specs.Logging.Entries.{Entry as LoggedEntry}
use Rattle.pud_defs.specs.Logging.Replay.{device_word, given_by, is_in_range}
use Rattle.pud_defs.proofs.Logging.Entries.{words_from-length}
use Rattle.pud_defs.proofs.Logging.Replay.{given_by-out, given_by-other}
use Rattle.log_entry.specs.Ranges.{HasRange}
use Rattle.log_entry.specs.Reading.{entry_from}
use Rattle.log_entry.specs.Copying.{image_of_copy}
use Rattle.log_replay.specs.Placing.{IsWithinDevice}
use Rattle.log_replay.proofs.Applying.{AppliesEntries-nothing, AppliesEntries-writes, any_wider, given_by-counts}
use Rattle.log_replay.proofs.copies.apply.Goals as goal
use Rattle.log_replay.proofs.copies.apply.Goals.{then-entry-order-via-then-entry-order, then-entry-order-via-else-entry-order+then-not-counts, then-entry-words-via-then-entry-words, then-entry-words-via-else-entry-words+then-from-words}

pub returns-then-entry-order-clause-applies : goal.returns-then-entry-order-clause-applies
returns-then-entry-order-clause-applies g c = λ t size same log logged e read within.
    let image = image_of_copy c.args.copy.now in
    let e0 = entry_from image c.args.entry.now in
    let nothing : (w : ℕ) → given_by device_word log c.args.order e0 w ≡ None = λ w. elim c.then-entry-order.branch [
      | then-entry-order-via-then-entry-order b ↦ given_by-other device_word log c.args.order e0 w b.if-entry-order.true
      | then-entry-order-via-else-entry-order+then-not-counts b ↦
          given_by-out device_word log c.args.order e0 w (sym (b.counts.ensures image log (subst (HasRange b.range.result) logged b.range.ensures)) ∙ b.if-not-counts.true)
    ] in
    AppliesEntries-nothing (given_by device_word log c.args.order e) _ _ (λ w. ap (λ (x : LoggedEntry). given_by device_word log c.args.order x w) (sym read) ∙ nothing w) refl

pub returns-then-entry-words-clause-applies : goal.returns-then-entry-words-clause-applies
returns-then-entry-words-clause-applies g c = λ t size same log logged e read within.
    let image = image_of_copy c.args.copy.now in
    let e0 = entry_from image c.args.entry.now in
    let counts : is_in_range log e0 ≡ true = sym (c.counts.ensures image log (subst (HasRange c.range.result) logged c.range.ensures)) ∙ c.if-not-counts.false in
    let many : length e0.vals ≡ c.args.entry.now.n = words_from-length image c.args.entry.now.at c.args.entry.now.n in
    let fits : IsWithinDevice size e0 = subst (λ (x : LoggedEntry). IsTrue (is_in_range log x) → IsWithinDevice size x) (sym read) within counts in
    let words = c.words.ensures.size in
    elim c.then-entry-words.branch [
      | then-entry-words-via-then-entry-words b ↦ absurd (omega arith)
      | then-entry-words-via-else-entry-words+then-from-words b ↦ absurd (omega arith)
    ]

pub write_range-requires : goal.write_range-requires
write_range-requires g c =
    let entry = c.args.entry.now in
    let many : length c.values.result.now ≡ entry.n = ap (λ (vals : List ℕ). length vals) c.values.ensures ∙ words_from-length (image_of_copy c.args.copy.now) entry.at entry.n in
    let words = c.words.ensures.size in
    omega arith

pub returns-clause-applies : goal.returns-clause-applies
returns-clause-applies g c = λ t size same log logged e read within.
    let image = image_of_copy c.args.copy.now in
    let entry = c.args.entry.now in
    let e0 = entry_from image entry in
    let counts : is_in_range log e0 ≡ true = sym (c.counts.ensures image log (subst (HasRange c.range.result) logged c.range.ensures)) ∙ c.if-not-counts.false in
    AppliesEntries-writes (given_by device_word log c.args.order e) (placed entry.addr c.values.result.now) (fault_of c.write_range.result) _ _
    (λ w.
    ap (λ (x : LoggedEntry). given_by device_word log c.args.order x w) (sym read)
    ∙ given_by-counts device_word log c.args.order e0 entry.addr w counts c.if-entry-order.false refl
    ∙ ap (λ (vals : List ℕ). placed entry.addr vals w) (sym c.values.ensures))
    (c.write_range.ensures.writes t)

pub returns-clause-any : goal.returns-clause-any
returns-clause-any g c = λ t. any_wider _ (fault_of c.write_range.result) _ _ (c.write_range.ensures.writes t).changes
