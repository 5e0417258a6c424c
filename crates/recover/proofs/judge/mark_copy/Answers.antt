use Rattle.std.proofs.Common.{◌≡◌, ℕ, ◌<◌, ◌≤◌, false, option_map, refl, sym, ap, ◌∙◌, arith}
use Rattle.std.proofs.lemmas.Bool.{cond-true, cond-false, le-leb, lt-leb}
use Rattle.pm_model.proofs.Reading.{OnlyReads-none, OnlyReads-then, still_reads}
use Rattle.pud_defs.specs.Logging.Entries.{gate_used, is_legal_gate}
use Rattle.pud_defs.specs.RegistryTables.Tables.{tables_of}
use Rattle.pud_defs.specs.Logging.Allowed.{puddle_word}
use Rattle.log_entry.specs.Reading.{Reading, entry_from, entries_left, PassesOne}
use Rattle.log_entry.specs.Copying.{image_of_copy, log_copied, with_address}
use Rattle.log_entry.proofs.Left.{IsReading-start, IsReading-more, entries_left-start}
use Rattle.log_entry.proofs.Copies.{gate_set}
use Rattle.log_entry.proofs.Readdressed.{Readdresses-start, Readdresses-set, Readdresses-kept, Readdresses-end}
use Rattle.log_replay.specs.Placing.{word_at, word_or_none, placed_entry}
use Rattle.log_replay.proofs.Places.{address_map_of-located}
use Rattle.log_replay.proofs.Placed.{placed-counts, placed-out}
use Rattle.recover.specs.declared.judge.Mark.TheVariants.{Closed, Replayed}
use Rattle.recover.specs.Verdicts.{owner_by_record}
use Rattle.recover.proofs.Marked.{mark_left, mark_left-passed, mark_left-allowed, mark_left-refused, mark_left-whole, left_with, left_set, mark_left-after, mark_for-spoilt, entries_of-spoilt}
use Rattle.recover.proofs.Judged.{placed_replayed}
use Rattle.recover.proofs.judge.mark_copy.Goals as goal

pub returns-then-not-is_legal_gate-clause-mark : goal.returns-then-not-is_legal_gate-clause-mark
returns-then-not-is_legal_gate-clause-mark g c = λ t image same.
    let log = log_copied c.args.copy.now in
    let illegal : is_legal_gate (image_of_copy c.args.copy.now 0) ≡ false = ap is_legal_gate (sym c.gate-gate.ensures) ∙ sym c.is_legal_gate.ensures ∙ c.if-not-is_legal_gate.true in
    sym (mark_for-spoilt (tables_of c.args.frames image) (owner_by_record c.args.who) log (entries_of-spoilt (image_of_copy c.args.copy.now) 0 illegal))

pub loop-entry-init : goal.loop-entry-init
loop-entry-init g c = record {
  reading = IsReading-start 0 c.new-reader.result c.new-reader.ensures;
  passed = sym (ap (λ (r : Reading). r.passed) c.new-reader.ensures);
  gate = refl;
  only_reads = OnlyReads-none;
  nearby = λ t image same. c.none-nearby.ensures (tables_of c.args.frames image);
  marks = λ t image same.
      let tables = tables_of c.args.frames image in
      let who = owner_by_record c.args.who in
      let log = log_copied c.args.copy.now in
      ap (mark_left tables who log Closed) (entries_left-start (image_of_copy c.args.copy.now) 0 c.new-reader.result c.new-reader.ensures) ∙ mark_left-whole tables who log;
  so_far = λ t image same es are.
      Readdresses-start (placed_entry (puddle_word (tables_of c.args.frames image)) (log_copied c.args.copy.now)) (image_of_copy c.args.copy.now) 0 c.new-reader.result es c.new-reader.ensures are;
}

pub loop-entry-preserved-then-not-counts : goal.loop-entry-preserved-then-not-counts
loop-entry-preserved-then-not-counts g c =
    let l = c.loop-entry in
    let entry = c.in-Some.entry in
    let log = log_copied c.args.copy.now in
    let i = image_of_copy l.copy in
    let passes : PassesOne entry l.reader c.next.new.self = c.in-Some.ensures.passes in
    let out = sym (c.counts.ensures i log c.range-range.ensures) ∙ c.if-not-counts.true in
    record {
      reading = IsReading-more 0 _ entry _ _ l.invariant.reading c.in-Some.is c.next.ensures.passes;
      passed = let before = l.invariant.passed in let now = passes.passed in omega arith;
      gate = l.invariant.gate;
      only_reads = l.invariant.only_reads;
      nearby = l.invariant.nearby;
      marks = λ t image same.
          let tables = tables_of c.args.frames image in
          let who = owner_by_record c.args.who in
          let left = left_with i _ entry _ _ c.in-Some.is c.next.ensures.left in
          sym (mark_left-passed tables who log l.mark (entry_from i entry) (entries_left i c.next.new.self) out) ∙ sym (ap (mark_left tables who log l.mark) left) ∙ l.invariant.marks t image same;
      so_far = λ t image same es are.
          let place = puddle_word (tables_of c.args.frames image) in
          Readdresses-kept (placed_entry place log) i _ entry _ c.next.new.self es c.in-Some.is c.next.ensures.next c.next.ensures.left c.next.ensures.passes
          (l.invariant.so_far t image same es are) (placed-out place log (entry_from i entry) out);
    }

pub returns-then-not-branch-clause-mark : goal.returns-then-not-branch-clause-mark
returns-then-not-branch-clause-mark g c = λ t image same.
    let l = c.loop-entry in
    let entry = c.in-Some.entry in
    let tables = tables_of c.args.frames image in
    let who = owner_by_record c.args.who in
    let log = log_copied c.args.copy.now in
    let i = image_of_copy l.copy in
    let before = still_reads l.invariant.only_reads t same in
    let following = still_reads c.in_ok-place.ensures.only_reads t before in
    let located = c.in_ok-place.ensures.located t image before (l.invariant.nearby t image same) in
    let counts = sym (c.counts.ensures i log c.range-range.ensures) ∙ c.if-not-counts.false in
    let other = sym (c.in_ok-is_allowed_entry.ensures.allowed t image following located i) ∙ c.if-not-branch.true in
    let left = left_with i _ entry _ _ c.in-Some.is c.next.ensures.left in
    sym (mark_left-refused tables who log l.mark (entry_from i entry) (entries_left i c.next.new.self) counts other) ∙ sym (ap (mark_left tables who log l.mark) left) ∙ l.invariant.marks t image same

pub loop-entry-preserved : goal.loop-entry-preserved
loop-entry-preserved g c =
    let l = c.loop-entry in
    let entry = c.in-Some.entry in
    let log = log_copied c.args.copy.now in
    let i = image_of_copy l.copy in
    let passes : PassesOne entry l.reader c.next.new.self = c.in-Some.ensures.passes in
    let counts = sym (c.counts.ensures i log c.range-range.ensures) ∙ c.if-not-counts.false in
    record {
      reading = IsReading-more 0 _ entry _ _ l.invariant.reading c.in-Some.is c.next.ensures.passes;
      passed = let before = l.invariant.passed in let now = passes.passed in omega arith;
      gate = gate_set l.copy _ entry c.device_word_at.result c.in-Some.ensures.inside c.set_address.ensures ∙ l.invariant.gate;
      only_reads = OnlyReads-then (OnlyReads-then l.invariant.only_reads c.in_ok-place.ensures.only_reads) c.in_ok-is_allowed_entry.ensures.only_reads;
      nearby = λ t image same. c.in_ok-place.ensures.nearby t image (still_reads l.invariant.only_reads t same) (l.invariant.nearby t image same);
      marks = λ t image same.
          let tables = tables_of c.args.frames image in
          let who = owner_by_record c.args.who in
          let before = still_reads l.invariant.only_reads t same in
          let following = still_reads c.in_ok-place.ensures.only_reads t before in
          let located = c.in_ok-place.ensures.located t image before (l.invariant.nearby t image same) in
          let allowed = sym (c.in_ok-is_allowed_entry.ensures.allowed t image following located i) ∙ c.if-not-branch.false in
          let left = left_with i _ entry _ _ c.in-Some.is c.next.ensures.left in
          ap (mark_left tables who log Replayed) (left_set i (image_of_copy c.set_address.new.self) entry l.reader c.next.new.self c.device_word_at.result passes c.set_address.ensures)
          ∙ sym (mark_left-allowed tables who log l.mark (entry_from i entry) (entries_left i c.next.new.self) counts allowed) ∙ sym (ap (mark_left tables who log l.mark) left)
          ∙ l.invariant.marks t image same;
      so_far = λ t image same es are.
          let place = puddle_word (tables_of c.args.frames image) in
          let located = c.in_ok-place.ensures.located t image (still_reads l.invariant.only_reads t same) (l.invariant.nearby t image same) in
          let word : word_or_none (place entry.addr) ≡ c.device_word_at.result =
          ap word_or_none (address_map_of-located c.args.frames image entry.addr ∙ ap (option_map (word_at c.args.frames)) (sym located)) ∙ sym c.device_word_at.ensures in
          Readdresses-set (placed_entry place log) i (image_of_copy c.set_address.new.self) _ entry _ c.next.new.self es c.device_word_at.result c.in-Some.is c.next.ensures.next c.next.ensures.left c.next.ensures.passes
          (l.invariant.so_far t image same es are) c.set_address.ensures
          (placed-counts place log (entry_from i entry) counts ∙ ap (λ (a : ℕ). with_address a (entry_from i entry)) word);
    }

pub returns-then-passed-gate_used-clause-mark : goal.returns-then-passed-gate_used-clause-mark
returns-then-passed-gate_used-clause-mark g c = λ t image same.
    let l = c.loop-entry in
    let gate = c.gate-gate.ensures ∙ sym l.invariant.gate in
    let legal = sym c.is_legal_gate.ensures ∙ c.if-not-is_legal_gate.false in
    let used = c.gate_used.ensures in
    let fewer : l.passed < gate_used c.gate-gate.result = omega arith in
    sym (mark_left-after (tables_of c.args.frames image) (owner_by_record c.args.who) (log_copied c.args.copy.now) l.mark (image_of_copy l.copy) _ _ c.next.new.self 0 c.gate-gate.result l.passed
    c.in_default.is c.next.ensures.passes c.next.ensures.left l.invariant.reading l.invariant.passed gate legal
    ∙ cond-false _ _ _ (lt-leb _ _ fewer))
    ∙ l.invariant.marks t image same

pub returns-clause-mark : goal.returns-clause-mark
returns-clause-mark g c = λ t image same.
    let l = c.loop-entry in
    let gate = c.gate-gate.ensures ∙ sym l.invariant.gate in
    let legal = sym c.is_legal_gate.ensures ∙ c.if-not-is_legal_gate.false in
    let used = c.gate_used.ensures in
    let all : gate_used c.gate-gate.result ≤ l.passed = omega arith in
    sym (mark_left-after (tables_of c.args.frames image) (owner_by_record c.args.who) (log_copied c.args.copy.now) l.mark (image_of_copy l.copy) _ _ c.next.new.self 0 c.gate-gate.result l.passed
    c.in_default.is c.next.ensures.passes c.next.ensures.left l.invariant.reading l.invariant.passed gate legal
    ∙ cond-true _ _ _ (le-leb _ _ all))
    ∙ l.invariant.marks t image same

pub returns-clause-placed : goal.returns-clause-placed
returns-clause-placed g c = λ t image same replayed.
    let l = c.loop-entry in
    let tables = tables_of c.args.frames image in
    let log = log_copied c.args.copy.now in
    let place = puddle_word tables in
    placed_replayed tables (owner_by_record c.args.who) place c.args.copy.now l.copy log.entries refl (sym (returns-clause-mark g c t image same) ∙ replayed) l.invariant.gate
    (λ es are. Readdresses-end (placed_entry place log) (image_of_copy l.copy) 0 c.next.result l.reader c.next.new.self es c.in_default.is c.next.ensures.left l.invariant.reading.same_log (l.invariant.so_far t image same es are))
