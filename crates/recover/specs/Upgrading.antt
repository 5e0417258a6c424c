-- How a device of the first version becomes one of the present version.
use Rattle.std.specs.Prelude.{◌≡◌, ◌≢◌, Option, None}
use Rattle.pm_model.specs.declared.host.HostFault.{HostFault}
use Rattle.pm_model.specs.Words.{reads, HasOnly}
use Rattle.pm_model.specs.Moments.{State}
use Rattle.pm_model.specs.Changes.{Footprint, Changes}
use Rattle.pud_defs.specs.declared.layout.TheConstants.{VERSION, VERSION_WORD}
use Rattle.pud_defs.specs.Formats.Image.{Image}

-- the present version may be written into the version word, if another one is read there at first
abbrev pub ByUpgrade : Image → Footprint
ByUpgrade start k v = (k ≡ VERSION_WORD) × ((v ≡ VERSION) × (start VERSION_WORD ≢ VERSION))

-- Nothing is written but the present version into the version word, and only if another one stood there. Without a
-- fault the word then has this value alone, if it had one value alone before.
pub record Upgrades (fault : Option HostFault) (old new : State) : Type 0 where
  pub changes : Changes (ByUpgrade (reads old.now.words)) fault old new
  pub done : fault ≡ None → HasOnly (old.now.words VERSION_WORD) (reads old.now.words VERSION_WORD) → HasOnly (new.now.words VERSION_WORD) VERSION
