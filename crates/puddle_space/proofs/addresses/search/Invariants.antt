use Rattle.std.proofs.Common.{None, ◌≡◌, ℕ, ◌-◌}
use Rattle.pm_model.specs.Words.{reads}
use Rattle.pm_model.specs.Reads.{OnlyReads}
use Rattle.pud_defs.specs.Formats.Image.{Image}
use Rattle.pud_defs.specs.RegistryTables.Puddles.{puddle_at}
use Rattle.pud_defs.specs.RegistryTables.Tables.{tables_of}
use Rattle.pud_defs.specs.RegistryTables.Places.{first_some, place_in_puddle, located}
use Rattle.puddle_space.specs.Nearby.{IsInGap}
use Rattle.puddle_space.proofs.addresses.search.Given as goal

abbrev pub invariant-loop-frame : goal.invariant-loop-frame
invariant-loop-frame g l = record {
  stays : l.neighbours ≡ l.initial.neighbours;
  only_reads : OnlyReads g.H.Host.tells g.H.Host.state g.H.Host.counts None l.initial.h l.h;
  passed : g.H.Host.tells → (image : Image) → reads (g.H.Host.state l.initial.h).now.words ≡ image
      → located (tables_of l.frames image) l.address ≡ first_some (λ k. place_in_puddle l.address k (puddle_at image k)) l.frame (l.frames - l.frame);
  around : g.H.Host.tells → (image : Image) → reads (g.H.Host.state l.initial.h).now.words ≡ image → (x : ℕ) → IsInGap l.gap x
      → located (tables_of l.frames image) x ≡ first_some (λ k. place_in_puddle x k (puddle_at image k)) l.frame (l.frames - l.frame);
}
