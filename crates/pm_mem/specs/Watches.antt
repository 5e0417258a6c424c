-- The count of the loads of a watched word.
use Rattle.std.specs.Prelude.{ℕ, ◌+◌, ◌-◌, ◌^◌, ◌==◌, min, cond, Option, Some, None}
use Rattle.pm_mem.specs.declared.watch.Watch.{Watch}

-- The watch after a load of word w that succeeded. At the type's end the count stops.
abbrev pub counted_load : Option ℕ → ℕ → Watch → Watch
counted_load None w watch = watch
counted_load (Some word) w watch = cond (word == w) (record watch { count = min (watch.count + 1) (2 ^ 32 - 1) }) watch

abbrev pub after_load : ℕ → Watch → Watch
after_load w watch = counted_load watch.word w watch
