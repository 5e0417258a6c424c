use Rattle.std.proofs.Common.{◌≡◌, ℕ, option_map, map, refl, sym, ap, ◌∙◌}
use Rattle.pm_model.proofs.Reading.{OnlyReads-none, OnlyReads-then, still_reads}
use Rattle.pud_defs.specs.Logging.Entries.{gate_lo, gate_hi}
use Rattle.pud_defs.specs.RegistryTables.Tables.{tables_of}
use Rattle.pud_defs.specs.Logging.Allowed.{puddle_word}
use Rattle.log_entry.specs.Reading.{entry_from}
use Rattle.log_entry.specs.Copying.{image_of_copy, log_copied, with_address}
use Rattle.log_entry.proofs.Left.{IsReading-start, IsReading-more}
use Rattle.log_entry.proofs.Copies.{gate_set}
use Rattle.log_entry.proofs.Readdressed.{Readdresses-start, Readdresses-set, Readdresses-kept, Readdresses-end}
use Rattle.log_replay.specs.Placing.{word_at, word_or_none, placed_entry}
use Rattle.log_replay.proofs.Places.{address_map_of-located}
use Rattle.log_replay.proofs.Placed.{placed-counts, placed-out}
use Rattle.log_replay.proofs.place_addresses.Goals as goal

pub loop-entry-init : goal.loop-entry-init
loop-entry-init g c = record {
  reading = IsReading-start 0 c.new-reader.result c.new-reader.ensures;
  gate = refl;
  only_reads = OnlyReads-none;
  nearby = λ t image same. c.none-nearby.ensures (tables_of c.args.frames image);
  so_far = λ t image same es are.
      Readdresses-start (placed_entry (puddle_word (tables_of c.args.frames image)) (log_copied c.args.copy.now)) (image_of_copy c.args.copy.now) 0 c.new-reader.result es c.new-reader.ensures are;
}

pub loop-entry-preserved-then-counts : goal.loop-entry-preserved-then-counts
loop-entry-preserved-then-counts g c =
    let l = c.loop-entry in
    let entry = c.in-Some.entry in
    let log = log_copied c.args.copy.now in
    let i = image_of_copy l.copy in
    record {
      reading = IsReading-more 0 _ entry _ _ l.invariant.reading c.in-Some.is c.next.ensures.passes;
      gate = gate_set l.copy _ entry c.device_word_at.result c.in-Some.ensures.inside c.set_address.ensures ∙ l.invariant.gate;
      only_reads = OnlyReads-then l.invariant.only_reads c.in_ok-place.ensures.only_reads;
      nearby = λ t image same. c.in_ok-place.ensures.nearby t image (still_reads l.invariant.only_reads t same) (l.invariant.nearby t image same);
      so_far = λ t image same es are.
          let place = puddle_word (tables_of c.args.frames image) in
          let counts = sym (c.counts.ensures i log c.range-range.ensures) ∙ c.if-counts.true in
          let located = c.in_ok-place.ensures.located t image (still_reads l.invariant.only_reads t same) (l.invariant.nearby t image same) in
          let word : word_or_none (place entry.addr) ≡ c.device_word_at.result =
          ap word_or_none (address_map_of-located c.args.frames image entry.addr ∙ ap (option_map (word_at c.args.frames)) (sym located)) ∙ sym c.device_word_at.ensures in
          Readdresses-set (placed_entry place log) i (image_of_copy c.set_address.new.self) _ entry _ c.next.new.self es c.device_word_at.result c.in-Some.is c.next.ensures.next c.next.ensures.left c.next.ensures.passes
          (l.invariant.so_far t image same es are) c.set_address.ensures
          (placed-counts place log (entry_from i entry) counts ∙ ap (λ (a : ℕ). with_address a (entry_from i entry)) word);
    }

pub loop-entry-preserved : goal.loop-entry-preserved
loop-entry-preserved g c =
    let l = c.loop-entry in
    let entry = c.in-Some.entry in
    let log = log_copied c.args.copy.now in
    let i = image_of_copy l.copy in
    record {
      reading = IsReading-more 0 _ entry _ _ l.invariant.reading c.in-Some.is c.next.ensures.passes;
      gate = l.invariant.gate;
      only_reads = l.invariant.only_reads;
      nearby = l.invariant.nearby;
      so_far = λ t image same es are.
          let place = puddle_word (tables_of c.args.frames image) in
          let out = sym (c.counts.ensures i log c.range-range.ensures) ∙ c.if-counts.false in
          Readdresses-kept (placed_entry place log) i _ entry _ c.next.new.self es c.in-Some.is c.next.ensures.next c.next.ensures.left c.next.ensures.passes
          (l.invariant.so_far t image same es are) (placed-out place log (entry_from i entry) out);
    }

pub returns-clause-placed : goal.returns-clause-placed
returns-clause-placed g c = λ t image same es are.
    let l = c.loop-entry in
    let f = placed_entry (puddle_word (tables_of c.args.frames image)) (log_copied c.args.copy.now) in
    let all = Readdresses-end f (image_of_copy l.copy) 0 c.next.result l.reader c.next.new.self es c.in_default.is c.next.ensures.left l.invariant.reading.same_log (l.invariant.so_far t image same es are) in
    λ p. record { lo = gate_lo (l.invariant.gate p); hi = gate_hi (l.invariant.gate p); entries = (all ∙ sym (ap (option_map (map f)) are)) p }
