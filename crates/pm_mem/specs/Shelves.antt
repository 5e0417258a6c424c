-- The files of a map, by the bytes of their names.
use Rattle.std.specs.Prelude.{ℕ, option_map, String, Vec}
use Rattle.std.specs.BTreeMap.{BTreeMap, get_by_text}
use Rattle.std.specs.declared.alloc.Global.{Global}
use Rattle.pm_model.specs.Moments.{Shelf}

abbrev pub shelf_of : BTreeMap (String Global) (Vec ℕ Global) → Shelf
shelf_of files name = option_map (λ file. file.items) (get_by_text files name)
