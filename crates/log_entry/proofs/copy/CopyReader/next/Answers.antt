use Rattle.std.proofs.Common.{◌≡◌, ◌+◌, Some, None, refl, rules, sym, ap, ap₂, subst, ◌∙◌, arith}
use Rattle.std.specs.Prelude.{slice_index}
use Rattle.log_entry.specs.declared.Entry.{Entry as Found}
use Rattle.pud_defs.specs.Logging.Entries.{gate_used}
use Rattle.log_entry.specs.Reading.{Reading, entry_next, entry_from}
use Rattle.log_entry.specs.Copying.{Copied, image_of_copy}
use Rattle.log_entry.proofs.Readings.{IsNext, next-too_many, next-few, next-none, next-found}
use Rattle.log_entry.proofs.Left.{left_by}
use Rattle.log_entry.proofs.Copies.{image_of_copy-place}
use Rattle.log_entry.proofs.copy.CopyReader.next.Goals as goal
use Rattle.log_entry.proofs.copy.CopyReader.next.Goals.{then-used-gt-LOG_ENTRY_WORDS-via-then-used-gt-LOG_ENTRY_WORDS, then-used-gt-LOG_ENTRY_WORDS-via-else-used-gt-LOG_ENTRY_WORDS+then-used-self}

pub returns-then-used-gt-LOG_ENTRY_WORDS-clause-next : goal.returns-then-used-gt-LOG_ENTRY_WORDS-clause-next
returns-then-used-gt-LOG_ENTRY_WORDS-clause-next c =
    let copied : Copied = record { gate = c.copy.inside.gate; words = c.copy.inside.words } in
    let image = image_of_copy copied in
    let r : Reading = record { log_at = 0; passed = c.self.inside.passed } in
    let counts : c.gate_used-used.result ≡ gate_used (image 0) = c.gate_used-used.ensures in
    sym (elim c.then-used-gt-LOG_ENTRY_WORDS.branch [
      | then-used-gt-LOG_ENTRY_WORDS-via-then-used-gt-LOG_ENTRY_WORDS w ↦ next-too_many image r (omega arith)
      | then-used-gt-LOG_ENTRY_WORDS-via-else-used-gt-LOG_ENTRY_WORDS+then-used-self w ↦ next-few image r (omega arith)
    ]) ∙ ap₂ (λ (x : Copied) (s : Reading). entry_next (image_of_copy x) s) c.copy.view_is c.self.view_is

pub returns-then-not-begins_entry-clause-next : goal.returns-then-not-begins_entry-clause-next
returns-then-not-begins_entry-clause-next c =
    let copied : Copied = record { gate = c.copy.inside.gate; words = c.copy.inside.words } in
    let image = image_of_copy copied in
    let r : Reading = record { log_at = 0; passed = c.self.inside.passed } in
    let at = 8 + r.passed in
    let next : IsNext image r c.gate_used-used.result at _ = record {
      counts = c.gate_used-used.ensures;
      within = omega arith;
      begun = omega arith;
      place = omega arith;
      reads = sym (image_of_copy-place copied (at + 1) (r.passed + 1) (omega arith));
    } in
    sym (next-none image r c.gate_used-used.result at _ next (sym c.begins_entry.ensures ∙ c.if-not-begins_entry.true))
    ∙ ap₂ (λ (x : Copied) (s : Reading). entry_next (image_of_copy x) s) c.copy.view_is c.self.view_is

pub returns-clause-next : goal.returns-clause-next
returns-clause-next c =
    let copied : Copied = record { gate = c.copy.inside.gate; words = c.copy.inside.words } in
    let image = image_of_copy copied in
    let r : Reading = record { log_at = 0; passed = c.self.inside.passed } in
    let at = 8 + r.passed in
    let e : Found = record { addr = slice_index copied.words r.passed; n = c.entry_n-n.result; seq = c.entry_seq.result; order = c.entry_order.result; at = at + 2 } in
    let next : IsNext image r c.gate_used-used.result at _ = record {
      counts = c.gate_used-used.ensures;
      within = omega arith;
      begun = omega arith;
      place = omega arith;
      reads = sym (image_of_copy-place copied (at + 1) (r.passed + 1) (omega arith));
    } in
    let found = next-found image r c.gate_used-used.result at _ e.addr e.n e.seq e.order next
    (sym c.begins_entry.ensures ∙ c.if-not-begins_entry.false) (sym (image_of_copy-place copied at r.passed (omega arith))) c.entry_n-n.ensures c.entry_seq.ensures c.entry_order.ensures in
    subst (λ (x : Copied). Some (entry_from (image_of_copy x) e) ≡ entry_next (image_of_copy x) c.args.self.now) c.copy.view_is
    (sym found ∙ ap (entry_next image) c.self.view_is)

pub returns-then-used-gt-LOG_ENTRY_WORDS-clause-left : goal.returns-then-used-gt-LOG_ENTRY_WORDS-clause-left
returns-then-used-gt-LOG_ENTRY_WORDS-clause-left c = left_by _ None _ _ (returns-then-used-gt-LOG_ENTRY_WORDS-clause-next c) refl

pub returns-then-not-begins_entry-clause-left : goal.returns-then-not-begins_entry-clause-left
returns-then-not-begins_entry-clause-left c = left_by _ None _ _ (returns-then-not-begins_entry-clause-next c) refl

pub returns-clause-left : goal.returns-clause-left
returns-clause-left c = left_by _ (Some _) _ _ (returns-clause-next c) (search rules)
