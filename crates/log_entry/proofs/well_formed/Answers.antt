use Rattle.std.proofs.Common.{◌≡◌, ℕ, true, leb, is_some, refl, sym, ap, ap₂, ◌∙◌, arith}
use Rattle.pm_model.specs.Words.{reads}
use Rattle.pud_defs.specs.Logging.Entries.{gate_used, is_legal_gate}
use Rattle.log_entry.specs.Reading.{Reading, PassesOne}
use Rattle.log_entry.proofs.Left.{entries_left-start, IsReading-start, IsReading-more, not_formed, formed-more, formed-end}
use Rattle.pm_model.proofs.Reading.{OnlyReads-none, OnlyReads-then, still_reads}
use Rattle.log_entry.proofs.well_formed.Goals as goal

pub returns-then-not-is_legal_gate-clause-answer : goal.returns-then-not-is_legal_gate-clause-answer
returns-then-not-is_legal_gate-clause-answer g c = λ t.
    let image = reads (g.H.Host.state c.args.h.now).now.words in
    sym (not_formed image c.args.log_at (ap is_legal_gate (sym (c.in_ok-gate.ensures.value t)) ∙ sym c.is_legal_gate.ensures ∙ c.if-not-is_legal_gate.true))

pub loop-entry-init : goal.loop-entry-init
loop-entry-init g c =
    let begun : c.new-reader.result.passed ≡ 0 = ap (λ (r : Reading). r.passed) c.new-reader.ensures in
    record {
      reading = IsReading-start c.args.log_at c.new-reader.result c.new-reader.ensures;
      passed = sym begun;
      only_reads = OnlyReads-none;
      formed = λ t image same. ap is_some (entries_left-start image c.args.log_at c.new-reader.result c.new-reader.ensures);
    }

pub loop-entry-preserved : goal.loop-entry-preserved
loop-entry-preserved g c =
    let old = c.loop-entry.invariant in
    let passes : PassesOne c.in-Some.entry c.loop-entry.reader c.next.new.self = rw c.in-Some.is at c.in_ok-entry.ensures.passes in
    record {
      reading = IsReading-more c.args.log_at _ c.in-Some.entry _ _ old.reading c.in-Some.is c.in_ok-entry.ensures.passes;
      passed = let before = old.passed in let now = passes.passed in omega arith;
      only_reads = OnlyReads-then old.only_reads c.in_ok-entry.ensures.only_reads;
      formed = λ t image same.
          let read = still_reads old.only_reads t same in
          formed-more image _ c.in-Some.entry _ _ c.in-Some.is (c.in_ok-entry.ensures.left t image read) ∙ old.formed t image same;
    }

pub returns-clause-answer : goal.returns-clause-answer
returns-clause-answer g c = λ t.
    let old = c.loop-entry.invariant in
    let image = reads (g.H.Host.state c.args.h.now).now.words in
    let same = still_reads c.load.ensures.only_reads t refl in
    let read = still_reads old.only_reads t same in
    let stands : c.next.new.self ≡ c.loop-entry.reader = rw c.in_default.is at c.in_ok-entry.ensures.passes in
    let here : c.next.new.self.log_at ≡ c.args.log_at = ap (λ (r : Reading). r.log_at) stands ∙ old.reading.same_log in
    let gate : c.in_ok-gate.gate ≡ image c.args.log_at = c.in_ok-gate.ensures.value t in
    let legal : is_legal_gate (image c.next.new.self.log_at) ≡ true = ap (λ (k : ℕ). is_legal_gate (image k)) here ∙ ap is_legal_gate (sym gate) ∙ sym c.is_legal_gate.ensures ∙ c.if-not-is_legal_gate.false in
    ap₂ leb (c.gate_used.ensures ∙ ap gate_used gate ∙ ap (λ (k : ℕ). gate_used (image k)) (sym here)) (old.passed ∙ ap (λ (r : Reading). r.passed) (sym stands))
    ∙ formed-end image _ c.loop-entry.reader c.next.new.self c.in_default.is (c.in_ok-entry.ensures.left t image read) legal
    ∙ old.formed t image same
