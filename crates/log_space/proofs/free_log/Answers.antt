use Rattle.std.proofs.Common.{◌≡◌, ℕ, ◌+◌, ◌-◌, true, false, option_map, refl, sym, ap, ◌∙◌, arith}
use Rattle.pm_model.specs.Words.{reads}
use Rattle.pud_defs.specs.declared.layout.TheConstants.{CLIENT_LOGS}
use Rattle.pud_defs.specs.Formats.Layout.{log_at}
use Rattle.pud_defs.specs.RegistryTables.Spaces.{is_closed_log}
use Rattle.log_space.specs.FreeLogs.{log_number}
use Rattle.log_space.proofs.FirstFrom.{first_from-passes, first_from-fails, first_from-none}
use Rattle.pm_model.proofs.Reading.{OnlyReads-none, OnlyReads-then, still_reads}
use Rattle.log_space.proofs.free_log.Goals as goal

pub returns-then-branch-clause-lowest : goal.returns-then-branch-clause-lowest
returns-then-branch-clause-lowest g c = λ t.
    let number = c.loop-number.number in
    let before = c.loop-number.invariant in
    let image = reads (g.H.Host.state c.args.h.now).now.words in
    let test = λ (k : ℕ). is_closed_log image (log_at c.args.frames c.args.slot k) in
    let within = c.loop-number-test.true in
    let passes : test number ≡ true =
    sym (c.in_ok-is_closed_log.ensures.closed t image (still_reads before.only_reads t refl) ∙ ap (is_closed_log image) c.log_at.ensures) ∙ c.if-branch.true in
    sym (ap (option_map (log_number c.args.slot)) (before.passed t ∙ first_from-passes number (CLIENT_LOGS - number) test (omega arith) passes))

pub loop-number-init : goal.loop-number-init
loop-number-init g c = record { only_reads = OnlyReads-none; passed = λ t. refl }

pub loop-number-preserved : goal.loop-number-preserved
loop-number-preserved g c =
    let number = c.loop-number.number in
    let before = c.loop-number.invariant in
    record {
      only_reads = OnlyReads-then before.only_reads c.in_ok-is_closed_log.ensures.only_reads;
      passed = λ t.
          let image = reads (g.H.Host.state c.args.h.now).now.words in
          let test = λ (k : ℕ). is_closed_log image (log_at c.args.frames c.args.slot k) in
          let within = c.loop-number-test.true in
          let fails : test number ≡ false =
          sym (c.in_ok-is_closed_log.ensures.closed t image (still_reads before.only_reads t refl) ∙ ap (is_closed_log image) c.log_at.ensures) ∙ c.if-branch.false in
          before.passed t ∙ first_from-fails number (CLIENT_LOGS - number) (CLIENT_LOGS - (number + 1)) test (omega arith) fails;
    }

pub returns-clause-lowest : goal.returns-clause-lowest
returns-clause-lowest g c = λ t.
    let number = c.loop-number.number in
    let test = λ (k : ℕ). is_closed_log (reads (g.H.Host.state c.args.h.now).now.words) (log_at c.args.frames c.args.slot k) in
    let past = c.loop-number-test.false in
    sym (ap (option_map (log_number c.args.slot)) (c.loop-number.invariant.passed t ∙ first_from-none number (CLIENT_LOGS - number) test (omega arith)))
