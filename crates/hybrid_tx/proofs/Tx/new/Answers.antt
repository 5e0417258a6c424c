use Rattle.std.proofs.Common.{◌≡◌, ℕ, ◌+◌, true, Some, None, Err, sym, ap, subst, refl, ◌∙◌, arith}
use Rattle.std.proofs.lemmas.Option.{slice_get_within, slice_get-get_or}
use Rattle.std.proofs.lemmas.Result.{err_from_is_err_and}
use Rattle.pm_model.specs.Words.{reads}
use Rattle.pm_model.specs.Moments.{State}
use Rattle.pud_defs.specs.PoolGraphs.Stored.{stored_in, IsFreePlace}
use Rattle.pud_defs.specs.declared.records.Slot.{Slot}
use Rattle.object_alloc.specs.declared.AllocFault.{AllocFault}
use Rattle.object_alloc.specs.Alloc.{alloc_fault}
use Rattle.pm_model.proofs.Changes.{Changes-still}
use Rattle.pm_model.proofs.Reading.{Changes-read}
use Rattle.pud_defs.specs.PoolGraphs.Graph.{fits_class}
use Rattle.pud_defs.specs.PoolGraphs.GraphChanges.{with_new, blank_object}
use Rattle.puddle_header.specs.Places.{place_of_slot}
use Rattle.hybrid_tx.specs.Objects.Transactions.{IsOpenOn, KeepsOpenOn, MakesIn}
use Rattle.pud_defs.specs.Formats.Geometry.{new_units}
use Rattle.hybrid_tx.proofs.Objects.FieldPut.{KeepsOpenOn-stopped}
use Rattle.hybrid_tx.proofs.Objects.LowestSlot.{one_lowest, lowest_is_free, one_slot, first_there}
use Rattle.hybrid_tx.proofs.Objects.ObjectPut.{serial_is_next, MakesIn-stopped}
use Rattle.hybrid_tx.proofs.Tx.new.Goals as goal

pub returns-in_err-serial-in-Ok-clause-changes : goal.returns-in_err-serial-in-Ok-clause-changes
returns-in_err-serial-in-Ok-clause-changes g c =
    let p = err_from_is_err_and c.from_residual.result c.from_residual.ensures.1 in
    rw (p.1, p.2) (λ t.
    let k = c.in_err-serial-in-Ok.ensures.only_reads in
    Changes-still _ _ _ _ k.never_cut (k.stays t ∙ c.in-Ok.ensures.only_reads.stays t))

pub returns-in_err-serial-in-Ok-clause-runs : goal.returns-in_err-serial-in-Ok-clause-runs
returns-in_err-serial-in-Ok-clause-runs g c =
    let p = err_from_is_err_and c.from_residual.result c.from_residual.ensures.1 in
    rw (p.1, p.2) (λ t types m before graph_before now deferred placed is_open defined fits room root lowest some.
    let F = c.args.frames in
    let pool = c.args.pool.now in
    let log = c.args.self.now.log in
    subst (λ (s : State). IsOpenOn F pool types log before graph_before now deferred s.now.words
    → KeepsOpenOn F pool types log before graph_before (with_new (blank_object c.args.class c.args.t m) now) deferred (Some c.in_err-serial-in-Ok.field-0.0) s (g.H.Host.state c.next_serial.new.h))
    (c.in-Ok.ensures.only_reads.stays t)
    (λ opened. KeepsOpenOn-stopped _ _ types log _ before graph_before now deferred _ _ _ refl c.in_err-serial-in-Ok.ensures.only_reads t opened) is_open)

pub returns-in_err-new_at-in-Ok-clause-runs : goal.returns-in_err-new_at-in-Ok-clause-runs
returns-in_err-new_at-in-Ok-clause-runs g c =
    let p = err_from_is_err_and c.from_residual-in_err-new_at-in-Ok.result c.from_residual-in_err-new_at-in-Ok.ensures.1 in
    rw (p.1, p.2) (λ t types m before graph_before now deferred placed is_open defined fits room root lowest some.
    let F = c.args.frames in
    let pool = c.args.pool.now in
    let old = g.H.Host.state c.args.h.now in
    let still = c.in_ok-serial-in-Ok.ensures.only_reads.stays t ∙ c.in-Ok.ensures.only_reads.stays t in
    let at = c.in-Ok.at in
    let within = c.in-Ok.ensures.within in
    let there = slice_get_within pool at.ordinal (at.frame, within.puddle) within.there in
    let found = c.in-Ok.ensures.free t (reads old.now.words) refl in
    let next = serial_is_next F pool types (reads old.now.words) _ (slice_get-get_or pool 0 _ (omega (arith, there))) c.in_ok-serial-in-Ok.serial
    (c.in_ok-serial-in-Ok.ensures.word t (reads old.now.words) (ap (λ (s : State). reads s.now.words) (c.in-Ok.ensures.only_reads.stays t))) now is_open.is in
    let log = c.args.self.now.log in
    let new = g.H.Host.state c.new_at.new.h in
    let class = c.in-Ok.ensures.of_class in
    let fits_there = subst (λ (k : ℕ). fits_class k m ≡ true) (sym class) fits in
    subst (λ (k : ℕ). KeepsOpenOn F pool types c.new_at.new.self.log before graph_before (with_new (blank_object k c.args.t m) now) deferred (Some c.in_err-new_at-in-Ok.field-0.0) old new) class
    (subst (λ (s : State). IsOpenOn F pool types log before graph_before now deferred s.now.words → IsFreePlace (stored_in F pool (reads s.now.words)) (place_of_slot at)
    → KeepsOpenOn F pool types c.new_at.new.self.log before graph_before (with_new (blank_object at.class c.args.t m) now) deferred (Some c.in_err-new_at-in-Ok.field-0.0) s new)
    still (λ opened free. c.in_err-new_at-in-Ok.ensures.runs t types m before graph_before now deferred placed opened defined fits_there next room root (lowest.each at within found) free) is_open found.free))

pub returns-in_ok-new_at-in-Ok-clause-runs : goal.returns-in_ok-new_at-in-Ok-clause-runs
returns-in_ok-new_at-in-Ok-clause-runs g c = λ t types m before graph_before now deferred placed is_open defined fits room root lowest some.
    let F = c.args.frames in
    let pool = c.args.pool.now in
    let old = g.H.Host.state c.args.h.now in
    let still = c.in_ok-serial-in-Ok.ensures.only_reads.stays t ∙ c.in-Ok.ensures.only_reads.stays t in
    let at = c.in-Ok.at in
    let within = c.in-Ok.ensures.within in
    let there = slice_get_within pool at.ordinal (at.frame, within.puddle) within.there in
    let found = c.in-Ok.ensures.free t (reads old.now.words) refl in
    let next = serial_is_next F pool types (reads old.now.words) _ (slice_get-get_or pool 0 _ (omega (arith, there))) c.in_ok-serial-in-Ok.serial
    (c.in_ok-serial-in-Ok.ensures.word t (reads old.now.words) (ap (λ (s : State). reads s.now.words) (c.in-Ok.ensures.only_reads.stays t))) now is_open.is in
    let log = c.args.self.now.log in
    let new = g.H.Host.state c.new_at.new.h in
    let class = c.in-Ok.ensures.of_class in
    let fits_there = subst (λ (k : ℕ). fits_class k m ≡ true) (sym class) fits in
    subst (λ (k : ℕ). KeepsOpenOn F pool types c.new_at.new.self.log before graph_before (with_new (blank_object k c.args.t m) now) deferred None old new) class
    (subst (λ (s : State). IsOpenOn F pool types log before graph_before now deferred s.now.words → IsFreePlace (stored_in F pool (reads s.now.words)) (place_of_slot at)
    → KeepsOpenOn F pool types c.new_at.new.self.log before graph_before (with_new (blank_object at.class c.args.t m) now) deferred None s new)
    still (λ opened free. c.in_ok-new_at-in-Ok.ensures.runs t types m before graph_before now deferred placed opened defined fits_there next room root (lowest.each at within found) free) is_open found.free)

pub returns-in_ok-new_at-in-Ok-clause-serial : goal.returns-in_ok-new_at-in-Ok-clause-serial
returns-in_ok-new_at-in-Ok-clause-serial g c = λ t types now is some.
    let pool = c.args.pool.now in
    let old = g.H.Host.state c.args.h.now in
    let at = c.in-Ok.at in
    let within = c.in-Ok.ensures.within in
    let there = slice_get_within pool at.ordinal (at.frame, within.puddle) within.there in
    serial_is_next c.args.frames pool types (reads old.now.words) _ (slice_get-get_or pool 0 _ (omega (arith, there))) c.in_ok-serial-in-Ok.serial
    (c.in_ok-serial-in-Ok.ensures.word t (reads old.now.words) (ap (λ (s : State). reads s.now.words) (c.in-Ok.ensures.only_reads.stays t))) now is

pub returns-in-Err-Full-clause-changes : goal.returns-in-Err-Full-clause-changes
returns-in-Err-Full-clause-changes g c = λ t. Changes-read (rw c.in-Err-Full.field-0-is at c.in-Err-Full.ensures.only_reads) t

pub returns-in-Err-Host-clause-changes : goal.returns-in-Err-Host-clause-changes
returns-in-Err-Host-clause-changes g c = λ t. Changes-read (rw c.in-Err-Host.field-0-is at c.in-Err-Host.ensures.only_reads) t

pub returns-in-Err-Host-clause-runs : goal.returns-in-Err-Host-clause-runs
returns-in-Err-Host-clause-runs g c = λ t types m before graph_before now deferred placed is_open defined fits room root lowest some.
    KeepsOpenOn-stopped _ _ types c.args.self.now.log _ before graph_before now deferred _ _ _ refl (rw c.in-Err-Host.field-0-is at c.in-Err-Host.ensures.only_reads) t is_open

-- ---- which slot it is

pub returns-in_err-serial-in-Ok-clause-makes : goal.returns-in_err-serial-in-Ok-clause-makes
returns-in_err-serial-in-Ok-clause-makes g c =
    let p = err_from_is_err_and c.from_residual.result c.from_residual.ensures.1 in
    rw (p.1, p.2) (λ t types before graph_before now deferred placed is_open room root rewritten slot of lowest.
    let first = first_there c.args.pool.now slot (slot.frame, of.puddle) of in
    let k = c.in_err-serial-in-Ok.ensures.only_reads in
    MakesIn-stopped c.args.frames c.args.pool.now c.args.self.now.log.gate_at slot of first.0 c.args.t _ _ _ first.1 k.never_cut (k.stays t ∙ c.in-Ok.ensures.only_reads.stays t))

pub returns-in_err-new_at-in-Ok-clause-makes : goal.returns-in_err-new_at-in-Ok-clause-makes
returns-in_err-new_at-in-Ok-clause-makes g c =
    let p = err_from_is_err_and c.from_residual-in_err-new_at-in-Ok.result c.from_residual-in_err-new_at-in-Ok.ensures.1 in
    rw (p.1, p.2) (λ t types before graph_before now deferred placed is_open room root rewritten slot of lowest.
    let F = c.args.frames in
    let pool = c.args.pool.now in
    let old = g.H.Host.state c.args.h.now in
    let still = c.in_ok-serial-in-Ok.ensures.only_reads.stays t ∙ c.in-Ok.ensures.only_reads.stays t in
    let at = c.in-Ok.at in
    let within = c.in-Ok.ensures.within in
    let there = slice_get_within pool at.ordinal (at.frame, within.puddle) within.there in
    let found = c.in-Ok.ensures.free t (reads old.now.words) refl in
    let next = serial_is_next F pool types (reads old.now.words) _ (slice_get-get_or pool 0 _ (omega (arith, there))) c.in_ok-serial-in-Ok.serial
    (c.in_ok-serial-in-Ok.ensures.word t (reads old.now.words) (ap (λ (s : State). reads s.now.words) (c.in-Ok.ensures.only_reads.stays t))) now is_open.is in
    let log = c.args.self.now.log in
    let new = g.H.Host.state c.new_at.new.h in
    let same = one_slot pool at slot within of (one_lowest c.args.class (stored_in F pool (reads old.now.words)) (place_of_slot at) (place_of_slot slot) found lowest) in
    subst (λ (s : Slot). MakesIn F pool log.gate_at s c.args.t (Some c.in_err-new_at-in-Ok.field-0.0) old new) same
    (subst (λ (s : State). IsOpenOn F pool types log before graph_before now deferred s.now.words → MakesIn F pool log.gate_at at c.args.t (Some c.in_err-new_at-in-Ok.field-0.0) s new) still
    (λ opened. c.in_err-new_at-in-Ok.ensures.makes t types before graph_before now deferred placed opened next room root (rewritten.each at within found)) is_open))

pub returns-in_ok-new_at-in-Ok-clause-makes : goal.returns-in_ok-new_at-in-Ok-clause-makes
returns-in_ok-new_at-in-Ok-clause-makes g c = λ t types before graph_before now deferred placed is_open room root rewritten slot of lowest.
    let F = c.args.frames in
    let pool = c.args.pool.now in
    let old = g.H.Host.state c.args.h.now in
    let still = c.in_ok-serial-in-Ok.ensures.only_reads.stays t ∙ c.in-Ok.ensures.only_reads.stays t in
    let at = c.in-Ok.at in
    let within = c.in-Ok.ensures.within in
    let there = slice_get_within pool at.ordinal (at.frame, within.puddle) within.there in
    let found = c.in-Ok.ensures.free t (reads old.now.words) refl in
    let next = serial_is_next F pool types (reads old.now.words) _ (slice_get-get_or pool 0 _ (omega (arith, there))) c.in_ok-serial-in-Ok.serial
    (c.in_ok-serial-in-Ok.ensures.word t (reads old.now.words) (ap (λ (s : State). reads s.now.words) (c.in-Ok.ensures.only_reads.stays t))) now is_open.is in
    let log = c.args.self.now.log in
    let new = g.H.Host.state c.new_at.new.h in
    let same = one_slot pool at slot within of (one_lowest c.args.class (stored_in F pool (reads old.now.words)) (place_of_slot at) (place_of_slot slot) found lowest) in
    subst (λ (s : Slot). MakesIn F pool log.gate_at s c.args.t None old new) same
    (subst (λ (s : State). IsOpenOn F pool types log before graph_before now deferred s.now.words → MakesIn F pool log.gate_at at c.args.t None s new) still
    (λ opened. c.in_ok-new_at-in-Ok.ensures.makes t types before graph_before now deferred placed opened next room root (rewritten.each at within found)) is_open)

pub returns-in-Err-Full-clause-makes : goal.returns-in-Err-Full-clause-makes
returns-in-Err-Full-clause-makes g c = λ t types before graph_before now deferred placed is_open room root rewritten slot of lowest.
    let image = reads (g.H.Host.state c.args.h.now).now.words in
    absurd (lowest_is_free c.args.class (stored_in c.args.frames c.args.pool.now image) (place_of_slot slot) lowest ((c.in-Err-Full.ensures.full t image refl (ap (λ (e : AllocFault). alloc_fault {T = Slot} (Err e)) c.in-Err-Full.field-0-is)).0 (ap (λ (e : AllocFault). Err e) c.in-Err-Full.field-0-is)))

pub returns-in-Err-Host-clause-makes : goal.returns-in-Err-Host-clause-makes
returns-in-Err-Host-clause-makes g c = λ t types before graph_before now deferred placed is_open room root rewritten slot of lowest.
    let first = first_there c.args.pool.now slot (slot.frame, of.puddle) of in
    let read = rw c.in-Err-Host.field-0-is at c.in-Err-Host.ensures.only_reads in
    MakesIn-stopped c.args.frames c.args.pool.now c.args.self.now.log.gate_at slot of first.0 c.args.t _ _ _ first.1 read.never_cut (read.stays t)

-- ---- the units that it takes

pub returns-in_ok-new_at-in-Ok-clause-counts : goal.returns-in_ok-new_at-in-Ok-clause-counts
returns-in_ok-new_at-in-Ok-clause-counts g c = λ t some. c.in_ok-new_at-in-Ok.ensures.counts ∙ ap (λ (k : ℕ). c.args.self.now.units + new_units k) c.in-Ok.ensures.of_class
