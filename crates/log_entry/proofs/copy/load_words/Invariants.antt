use Rattle.std.proofs.Common.{None, ◌≡◌, length, take}
use Rattle.pm_model.specs.Words.{reads}
use Rattle.pm_model.specs.Reads.{OnlyReads}
use Rattle.pud_defs.specs.Logging.Entries.{words_from}
use Rattle.log_entry.proofs.copy.load_words.Given as goal

abbrev pub invariant-loop-i : goal.invariant-loop-i
invariant-loop-i g l = record {
  kept : length l.row ≡ length l.initial.row;
  only_reads : OnlyReads g.H.Host.tells g.H.Host.state g.H.Host.counts None l.initial.h l.h;
  taken : g.H.Host.tells → take l.i l.row ≡ words_from (reads (g.H.Host.state l.initial.h).now.words) l.from l.i;
}
