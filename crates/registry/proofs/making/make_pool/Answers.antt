use Rattle.std.proofs.Common.{Some, None, Err, refl, ap, ◌∙◌}
use Rattle.std.proofs.lemmas.Result.{err_from_is_err_and}
use Rattle.pm_model.specs.Words.{reads}
use Rattle.pm_model.specs.Masks.{masked_state}
use Rattle.pm_model.proofs.Reading.{Changes-read, still_size}
use Rattle.pud_defs.specs.declared.layout.TheConstants.{NEXT_NUMBER_WORD}
use Rattle.pud_defs.specs.declared.records.PoolRecord.{PoolRecord}
use Rattle.registry.specs.Places.{make_fault}
use Rattle.registry.specs.Puts.{puts_batch}
use Rattle.registry.specs.Pools.{making, new_record}
use Rattle.registry.proofs.Moved.{ChangesPools-still}
use Rattle.registry.proofs.Made.{making_of}
use Rattle.registry.proofs.Joined.{record_is, MakesSomewhere-found, MakesPool-found}
use Rattle.registry.proofs.making.make_pool.Goals as goal

pub returns-in_err-added-clause-makes : goal.returns-in_err-added-clause-makes
returns-in_err-added-clause-makes g c =
    let p = err_from_is_err_and c.from_residual.result c.from_residual.ensures.1 in
    rw (p.1, p.2) (λ t size same s mask may.
    ChangesPools-still size s _ _ (make_fault {T = Unit {0}} (Err c.in_err-added.field-0.0)) (masked_state mask (g.H.Host.state c.args.h.now)) (masked_state mask (g.H.Host.state c.find_first.new.h)) may.settled c.in_err-added.ensures.only_reads.never_cut
    (λ e. absurd (let no = c.in_err-added.ensures.refusal t _ refl e ∙ may.none in cc)) (ap (masked_state mask) (c.in_err-added.ensures.only_reads.stays t)))

pub returns-in_err-added-clause-any : goal.returns-in_err-added-clause-any
returns-in_err-added-clause-any g c =
    let p = err_from_is_err_and c.from_residual.result c.from_residual.ensures.1 in
    rw (p.1, p.2) (Changes-read c.in_err-added.ensures.only_reads)

pub returns-in_err-add_puddle-clause-commits : goal.returns-in_err-add_puddle-clause-commits
returns-in_err-add_puddle-clause-commits g c =
    let p = err_from_is_err_and c.from_residual-in_err-add_puddle.result c.from_residual-in_err-add_puddle.ensures.1 in
    rw (p.1, p.2) (λ t image read idle none.
    let a = c.in_ok-added.added in
    let old = g.H.Host.state c.args.h.now in
    let mid = g.H.Host.state c.find_first.new.h in
    let place = c.in_ok-added.ensures.first t image read in
    let within = c.in_ok-added.ensures.within in
    let r = new_record c.args.name c.args.uid c.args.gid c.args.mode (image NEXT_NUMBER_WORD) in
    let is = c.making.ensures ∙ ap (λ (r : PoolRecord). puts_batch (making r a)) (record_is c.args.name c.args.uid c.args.gid c.args.mode (image NEXT_NUMBER_WORD) a place.puddle.number_is) in
    MakesSomewhere-found c.args.frames image c.args.name c.args.uid c.args.gid c.args.mode a place (Some c.in_err-add_puddle.field-0.0) old mid _ (c.in_ok-added.ensures.only_reads.stays t)
    (λ idle_then. c.in_err-add_puddle.ensures.commits t (making r a) (making_of c.args.frames r a within.frame within.slot) is idle_then) idle)

pub returns-in_err-add_puddle-clause-makes : goal.returns-in_err-add_puddle-clause-makes
returns-in_err-add_puddle-clause-makes g c =
    let p = err_from_is_err_and c.from_residual-in_err-add_puddle.result c.from_residual-in_err-add_puddle.ensures.1 in
    rw (p.1, p.2) (λ t size same s mask may.
    let then = still_size c.in_ok-added.ensures.only_reads same in
    let a = c.in_ok-added.added in
    let old = g.H.Host.state c.args.h.now in
    let place = c.in_ok-added.ensures.first t (reads old.now.words) refl in
    let is = c.making.ensures ∙ ap (λ (r : PoolRecord). puts_batch (making r a)) (record_is c.args.name c.args.uid c.args.gid c.args.mode (reads old.now.words NEXT_NUMBER_WORD) a place.puddle.number_is) in
    MakesPool-found size s c.args.frames c.args.name c.args.uid c.args.gid c.args.mode mask old may a place c.making.result (Some c.in_err-add_puddle.field-0.0) (g.H.Host.state c.find_first.new.h) _ (c.in_ok-added.ensures.only_reads.stays t) is
    (λ adds. c.in_err-add_puddle.ensures.adds t size then s _ mask adds))

pub returns-clause-commits : goal.returns-clause-commits
returns-clause-commits g c = λ t image read idle none.
    let a = c.in_ok-added.added in
    let old = g.H.Host.state c.args.h.now in
    let mid = g.H.Host.state c.find_first.new.h in
    let place = c.in_ok-added.ensures.first t image read in
    let within = c.in_ok-added.ensures.within in
    let r = new_record c.args.name c.args.uid c.args.gid c.args.mode (image NEXT_NUMBER_WORD) in
    let is = c.making.ensures ∙ ap (λ (r : PoolRecord). puts_batch (making r a)) (record_is c.args.name c.args.uid c.args.gid c.args.mode (image NEXT_NUMBER_WORD) a place.puddle.number_is) in
    MakesSomewhere-found c.args.frames image c.args.name c.args.uid c.args.gid c.args.mode a place None old mid _ (c.in_ok-added.ensures.only_reads.stays t)
    (λ idle_then. c.in_ok-add_puddle.ensures.commits t (making r a) (making_of c.args.frames r a within.frame within.slot) is idle_then) idle

pub returns-clause-makes : goal.returns-clause-makes
returns-clause-makes g c = λ t size same s mask may.
    let then = still_size c.in_ok-added.ensures.only_reads same in
    let a = c.in_ok-added.added in
    let old = g.H.Host.state c.args.h.now in
    let place = c.in_ok-added.ensures.first t (reads old.now.words) refl in
    let is = c.making.ensures ∙ ap (λ (r : PoolRecord). puts_batch (making r a)) (record_is c.args.name c.args.uid c.args.gid c.args.mode (reads old.now.words NEXT_NUMBER_WORD) a place.puddle.number_is) in
    MakesPool-found size s c.args.frames c.args.name c.args.uid c.args.gid c.args.mode mask old may a place c.making.result None (g.H.Host.state c.find_first.new.h) _ (c.in_ok-added.ensures.only_reads.stays t) is
    (λ adds. c.in_ok-add_puddle.ensures.adds t size then s _ mask adds)
