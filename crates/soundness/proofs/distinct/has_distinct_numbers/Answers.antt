use Rattle.std.proofs.Common.{◌-◌, ℕ, List, drop, refl, sym, ap₂, ◌∙◌, arith, length-drop, take_all}
use Rattle.std.specs.Prelude.{option_map}
use Rattle.pud_defs.specs.declared.layout.TheConstants.{DAEMON_LOG, MAX_FRAMES}
use Rattle.pud_defs.specs.Logging.Replay.{settled_by}
use Rattle.pud_defs.specs.RegistryTables.Tables.{tables_of}
use Rattle.soundness.specs.Distinct.{key_of, with_number}
use Rattle.soundness.proofs.Numbers.{no_numbers, more_numbers}
use Rattle.soundness.proofs.Marks.{decided}
use Rattle.pm_model.proofs.Reading.{OnlyReads-none, OnlyReads-then, still_reads}
use Rattle.soundness.proofs.distinct.has_distinct_numbers.Goals as goal

pub loop-done-init : goal.loop-done-init
loop-done-init g c = record {
  size = refl;
  most = omega arith;
  room = omega arith;
  only_reads = OnlyReads-none;
  list = λ t image same over. sym (no_numbers _ _);
}

pub loop-done-preserved : goal.loop-done-preserved
loop-done-preserved g c = record {
  size = omega arith;
  most = omega arith;
  room = omega arith;
  only_reads = OnlyReads-then c.loop-done.invariant.only_reads c.in_ok-number.ensures.only_reads;
  list = λ t image same over.
      let before = still_reads c.loop-done.invariant.only_reads t same in
      let number = c.in_ok-number.ensures.number t image before over c.args.frames (omega arith) in
      c.put-left.ensures.numbers
      ∙ ap₂ with_number number (c.loop-done.invariant.list t image same over)
      ∙ more_numbers (λ frame. option_map (key_of c.args.key) ((tables_of c.args.frames (settled_by DAEMON_LOG image)).puddles frame)) c.args.frames c.loop-done.done (omega arith);
}

pub returns-clause-distinct : goal.returns-clause-distinct
returns-clause-distinct g c = λ t image same over.
    let rest : List ℕ = drop c.loop-done.left c.loop-done.numbers in
    let whole = take_all (MAX_FRAMES - c.loop-done.left) rest (omega (arith, length-drop c.loop-done.left c.loop-done.numbers)) in
    decided (key_of c.args.key) c.args.frames (settled_by DAEMON_LOG image) c.are_distinct.result _ c.loop-done.done (omega arith) (omega arith) (whole ∙ c.loop-done.invariant.list t image same over) c.are_distinct.ensures
