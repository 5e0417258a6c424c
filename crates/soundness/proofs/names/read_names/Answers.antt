use Rattle.std.proofs.Common.{◌+◌, ℕ, inl, inr, refl, sym, subst, ◌∙◌, arith}
use Rattle.std.proofs.lemmas.Bool.{cases_eq}
use Rattle.std.proofs.lemmas.Grind.{get_or-set_at}
use Rattle.std.proofs.lemmas.List.{get_or-set_other, length-set}
use Rattle.pud_defs.specs.declared.layout.TheConstants.{DAEMON_LOG}
use Rattle.pud_defs.specs.Logging.Replay.{settled_by}
use Rattle.pud_defs.specs.RegistryTables.Pools.{pool_record_at}
use Rattle.pud_defs.proofs.Logging.Replay.{outside_log}
use Rattle.soundness.specs.declared.names.NameWords.{NameWords}
use Rattle.soundness.specs.Named.{IsNameOf, no_name}
use Rattle.pm_model.proofs.Reading.{OnlyReads-none, OnlyReads-then, still_reads}
use Rattle.soundness.proofs.names.read_names.Goals as goal

pub loop-slot-init : goal.loop-slot-init
loop-slot-init g c = record { all = refl; only_reads = OnlyReads-none; names = λ t image same over k below. absurd (omega arith) }

pub loop-slot-preserved : goal.loop-slot-preserved
loop-slot-preserved g c = record {
  all = length-set c.loop-slot.names c.loop-slot.slot _ ∙ c.loop-slot.invariant.all;
  only_reads = OnlyReads-then (OnlyReads-then c.loop-slot.invariant.only_reads c.in_ok-low.ensures.only_reads) c.in_ok-high.ensures.only_reads;
  names = λ t image same over k below.
      let settled = settled_by DAEMON_LOG image in
      let slot = c.loop-slot.slot in
      let now : NameWords = record { low = c.in_ok-low.low; high = c.in_ok-high.high } in
      let before = still_reads c.loop-slot.invariant.only_reads t same in
      let between = still_reads c.word.ensures.only_reads t before in
      let here : IsNameOf settled slot now = record {
        low = (rw c.pool_record_at-at.ensures at c.in_ok-low.ensures.value) t image before over (outside_log DAEMON_LOG (pool_record_at slot) (inr (omega arith)));
        high = (rw c.pool_record_at-at.ensures at c.in_ok-high.ensures.value) t image between over (outside_log DAEMON_LOG (pool_record_at slot + 1) (inr (omega arith)));
        low_fits = omega arith;
        high_fits = omega arith;
      } in
      elim (cases_eq k slot) [
        | inl this ↦
            subst (λ (n : NameWords). IsNameOf settled k n) (sym (get_or-set_at c.loop-slot.names slot k now no_name this (let all = c.loop-slot.invariant.all in omega arith)))
            (subst (λ (m : ℕ). IsNameOf settled m now) (sym this) here)
        | inr other ↦
            subst (λ (n : NameWords). IsNameOf settled k n) (sym (get_or-set_other c.loop-slot.names slot k now no_name other))
            (c.loop-slot.invariant.names t image same over k (omega arith))
      ];
}

pub returns-clause-names : goal.returns-clause-names
returns-clause-names g c = λ t image same over. record {
  all = c.loop-slot.invariant.all;
  each = λ slot known. c.loop-slot.invariant.names t image same over slot (omega arith);
}
