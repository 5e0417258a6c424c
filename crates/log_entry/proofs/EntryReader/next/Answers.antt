use Rattle.std.proofs.Common.{◌≡◌, ◌+◌, Some, None, refl, rules, sym, ap, ◌∙◌, arith}
use Rattle.pm_model.specs.Words.{reads}
use Rattle.pm_model.specs.Moments.{State}
use Rattle.pud_defs.specs.Logging.Entries.{gate_used}
use Rattle.log_entry.specs.Reading.{Reading, entry_next}
use Rattle.log_entry.proofs.Readings.{IsNext, next-too_many, next-few, next-none, next-found}
use Rattle.log_entry.proofs.Left.{left_by}
use Rattle.log_entry.proofs.EntryReader.next.Goals as goal
use Rattle.log_entry.proofs.EntryReader.next.Goals.{then-used-gt-LOG_ENTRY_WORDS-via-then-used-gt-LOG_ENTRY_WORDS, then-used-gt-LOG_ENTRY_WORDS-via-else-used-gt-LOG_ENTRY_WORDS+then-used-self}

pub returns-then-used-gt-LOG_ENTRY_WORDS-clause-next : goal.returns-then-used-gt-LOG_ENTRY_WORDS-clause-next
returns-then-used-gt-LOG_ENTRY_WORDS-clause-next g c = λ t.
    let image = reads (g.H.Host.state c.args.h.now).now.words in
    let r : Reading = record { log_at = c.self.inside.log_at; passed = c.self.inside.passed } in
    let counts : c.gate_used-used.result ≡ gate_used (image r.log_at) = c.gate_used-used.ensures ∙ ap gate_used (c.in_ok-load.ensures.value t) in
    sym (elim c.then-used-gt-LOG_ENTRY_WORDS.branch [
      | then-used-gt-LOG_ENTRY_WORDS-via-then-used-gt-LOG_ENTRY_WORDS w ↦ next-too_many image r (omega arith)
      | then-used-gt-LOG_ENTRY_WORDS-via-else-used-gt-LOG_ENTRY_WORDS+then-used-self w ↦ next-few image r (omega arith)
    ]) ∙ ap (entry_next image) c.self.view_is

pub returns-then-not-begins_entry-clause-next : goal.returns-then-not-begins_entry-clause-next
returns-then-not-begins_entry-clause-next g c = λ t.
    let image = reads (g.H.Host.state c.args.h.now).now.words in
    let r : Reading = record { log_at = c.self.inside.log_at; passed = c.self.inside.passed } in
    let at = r.log_at + 8 + r.passed in
    let next : IsNext image r c.gate_used-used.result at c.in_ok-word.word = record {
      counts = c.gate_used-used.ensures ∙ ap gate_used (c.in_ok-load.ensures.value t);
      within = omega arith;
      begun = omega arith;
      place = omega arith;
      reads = c.in_ok-word.ensures.value t ∙ ap (λ (s : State). reads s.now.words (at + 1)) (c.load.ensures.only_reads.stays t);
    } in
    sym (next-none image r c.gate_used-used.result at c.in_ok-word.word next (sym c.begins_entry.ensures ∙ c.if-not-begins_entry.true)) ∙ ap (entry_next image) c.self.view_is

pub returns-clause-next : goal.returns-clause-next
returns-clause-next g c = λ t.
    let image = reads (g.H.Host.state c.args.h.now).now.words in
    let r : Reading = record { log_at = c.self.inside.log_at; passed = c.self.inside.passed } in
    let at = r.log_at + 8 + r.passed in
    let next : IsNext image r c.gate_used-used.result at c.in_ok-word.word = record {
      counts = c.gate_used-used.ensures ∙ ap gate_used (c.in_ok-load.ensures.value t);
      within = omega arith;
      begun = omega arith;
      place = omega arith;
      reads = c.in_ok-word.ensures.value t ∙ ap (λ (s : State). reads s.now.words (at + 1)) (c.load.ensures.only_reads.stays t);
    } in
    let address : c.in_ok-addr.addr ≡ image at = c.in_ok-addr.ensures.value t ∙ ap (λ (s : State). reads s.now.words at) (c.load-2.ensures.only_reads.stays t ∙ c.load.ensures.only_reads.stays t) in
    sym (next-found image r c.gate_used-used.result at c.in_ok-word.word c.in_ok-addr.addr c.entry_n-n.result c.entry_seq.result c.entry_order.result next
    (sym c.begins_entry.ensures ∙ c.if-not-begins_entry.false) address c.entry_n-n.ensures c.entry_seq.ensures c.entry_order.ensures)
    ∙ ap (entry_next image) c.self.view_is

pub returns-then-used-gt-LOG_ENTRY_WORDS-clause-left : goal.returns-then-used-gt-LOG_ENTRY_WORDS-clause-left
returns-then-used-gt-LOG_ENTRY_WORDS-clause-left g c = λ t image same. left_by image None _ _ (rw same at (returns-then-used-gt-LOG_ENTRY_WORDS-clause-next g c t)) refl

pub returns-then-not-begins_entry-clause-left : goal.returns-then-not-begins_entry-clause-left
returns-then-not-begins_entry-clause-left g c = λ t image same. left_by image None _ _ (rw same at (returns-then-not-begins_entry-clause-next g c t)) refl

pub returns-clause-left : goal.returns-clause-left
returns-clause-left g c = λ t image same. left_by image (Some _) _ _ (rw same at (returns-clause-next g c t)) (search rules)
