use Rattle.std.proofs.Common.{◌≡◌, ◌≢◌, ◌-◌, List, Some, None}
use Rattle.pm_model.specs.Words.{reads}
use Rattle.pm_model.specs.Reads.{OnlyReads}
use Rattle.pud_defs.specs.declared.layout.TheConstants.{LOG_ENTRY_WORDS}
use Rattle.pud_defs.specs.Formats.Image.{Image}
use Rattle.pud_defs.specs.RegistryTables.Types.{types_of}
use Rattle.pud_defs.specs.PoolGraphs.Graph.{Graph}
use Rattle.pud_defs.specs.PoolGraphs.DeferredValues.{DeferredValue, deferred_set_names}
use Rattle.puddle_header.specs.Places.{place_of_slot}
use Rattle.graph_read.specs.Reading.{place_in_pool}
use Rattle.log_entry.proofs.Left.{IsReading}
use Rattle.hybrid_tx.specs.PoolScopes.{ArePlacedPuddles}
use Rattle.hybrid_tx.specs.Objects.Transactions.{IsOpenOn}
use Rattle.hybrid_tx.proofs.Objects.DeferredNamed.{NamesRest}
use Rattle.hybrid_tx.proofs.Tx.deferred_names_at.Given as goal

abbrev pub invariant-loop-entry : goal.invariant-loop-entry
invariant-loop-entry g l = record {
  reading : IsReading l.self.log.gate_at l.reader;
  only_reads : OnlyReads g.H.Host.tells g.H.Host.state g.H.Host.counts None l.fn.h l.h;
  names : g.H.Host.tells → (image : Image) → reads (g.H.Host.state l.fn.h).now.words ≡ image → (before : Image) (graph_before now : Graph) (deferred : List DeferredValue)
      → ArePlacedPuddles l.frames l.pool → IsOpenOn l.frames l.pool (types_of image) l.self.log before graph_before now deferred (g.H.Host.state l.fn.h).now.words → l.s ≢ 0 → place_in_pool l.frames l.pool image l.s ≡ Some (place_of_slot l.at)
      → NamesRest l.frames l.pool (types_of image) image now l.s l.reader (deferred_set_names l.s deferred);
}

abbrev pub decreases-loop-entry : goal.decreases-loop-entry
decreases-loop-entry g l = LOG_ENTRY_WORDS - l.reader.passed
