use Rattle.std.proofs.Common.{◌≡◌, ℕ, ◌+◌, ◌<◌, false, slice_index}
use Rattle.graph_read.proofs.SortedSerials.{is_shared}
use Rattle.graph_read.proofs.judge.are_distinct.Given as goal

abbrev pub invariant-loop-place : goal.invariant-loop-place
invariant-loop-place l = (k : ℕ) → k + 1 < l.place → is_shared (slice_index l.serials k) (slice_index l.serials (k + 1)) ≡ false
