-- Tables that are durable: what a daemon at rest knows about their words.
use Rattle.std.specs.Prelude.{◌⊎◌, ℕ, ◌<◌, ◌≤◌}
use Rattle.pm_model.specs.Words.{Words, HasOnly}
use Rattle.pud_defs.specs.declared.layout.TheConstants.{DAEMON_LOG, TYPE_TABLE}
use Rattle.pud_defs.specs.Formats.Layout.{tables_end}

-- On a device of `F` frames each word before the daemon log, and each word of the tables after it, has only one value.
pub record HasDurableTables (F : ℕ) (words : Words) : Type 0 where
  pub each : (k : ℕ) → (k < DAEMON_LOG) ⊎ (TYPE_TABLE ≤ k) → k < tables_end F → HasOnly (words k) (words k).newest
