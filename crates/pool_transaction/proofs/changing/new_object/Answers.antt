use Rattle.std.proofs.Common.{◌≡◌, ℕ, List, Option, Ok, Err, refl, sym, ap, subst, ◌∙◌}
use Rattle.std.specs.Prelude.{IfSome}
use Rattle.std.proofs.lemmas.Result.{err_from_is_err_and}
use Rattle.pm_model.specs.Moments.{State}
use Rattle.pm_model.specs.Words.{reads}
use Rattle.pm_model.proofs.Reading.{still_size}
use Rattle.pud_defs.specs.declared.machine.Reply.TheVariants as replies
use Rattle.pud_defs.specs.declared.records.Puddle.{Puddle}
use Rattle.pud_defs.specs.declared.records.Slot.{Slot}
use Rattle.pud_defs.specs.PoolGraphs.Stored.{IsOnDevice}
use Rattle.puddle_header.specs.Places.{IsSlotOf}
use Rattle.pool_transaction.specs.Premises.{DoesNew}
use Rattle.pool_transaction.proofs.NewObjects.ActiveLines.{runs_still, making_at, lowest_at, found_refused, found_making, free_found, none_found, was_full, does_unread_new, does_refused_new}
use Rattle.pool_transaction.proofs.WordsWritten.ObjectsWritten.{new_in_slot, new_in_more}
use Rattle.pool_transaction.proofs.changing.new_object.Goals as goal

-- ---- no serial was read, or the line is refused whatever slots are free

pub returns-in_err-made-clause-does : goal.returns-in_err-made-clause-does
returns-in_err-made-clause-does g c =
    let p = err_from_is_err_and c.from_residual.result c.from_residual.ensures.1 in
    rw (p.1, p.2) (λ t size w memory runs.
    does_unread_new runs c.args.t c.args.opened.now c.args.pool.now c.in_err-made.field-0.0 _ (c.in_err-made.ensures.only_reads.stays t) c.in_err-made.ensures.only_reads.never_cut)

pub returns-in-Err-clause-does : goal.returns-in-Err-clause-does
returns-in-Err-clause-does g c = λ t size w memory runs.
    does_refused_new runs c.args.t c.in-Err.why _
    (found_refused runs c.args.t c.as_slice.result.now c.as_slice.ensures.puddles c.in_ok-made.field-0 (c.in_ok-made.ensures.refusal t (reads (g.H.Host.state c.args.h.now).now.words) refl) c.in-Err.why c.in-Err.is)
    (c.in_ok-made.ensures.only_reads.stays t)

-- ---- no slot was read

pub find_free_slot-requires-clause-known : goal.find_free_slot-requires-clause-known
find_free_slot-requires-clause-known g c = subst (IsOnDevice c.args.frames) (sym c.as_slice-2.ensures.puddles) c.requires.known

pub make_object-requires-clause-slot : goal.make_object-requires-clause-slot
make_object-requires-clause-slot g c =
    subst (λ (ps : List (ℕ × Puddle)). IsSlotOf ps c.in-Some.at) c.as_slice-2.ensures.puddles (subst (λ found. IfSome found (IsSlotOf c.as_slice-2.result.now)) c.in-Some.is c.in_ok-at.ensures.within)

pub returns-in_err-at-clause-does : goal.returns-in_err-at-clause-does
returns-in_err-at-clause-does g c =
    let p = err_from_is_err_and c.from_residual-in_err-at.result c.from_residual-in_err-at.ensures.1 in
    rw (p.1, p.2) (λ t size w memory runs.
    does_unread_new runs c.args.t c.args.opened.now c.args.pool.now c.in_err-at.field-0.0 _ (c.in_err-at.ensures.only_reads.stays t ∙ c.in_ok-made.ensures.only_reads.stays t) c.in_err-at.ensures.only_reads.never_cut)

-- ---- a slot is free

pub returns-in_err-make_object-in-Some-clause-does : goal.returns-in_err-make_object-in-Some-clause-does
returns-in_err-make_object-in-Some-clause-does g c =
    let p = err_from_is_err_and c.from_residual-in_err-make_object-in-Some.result c.from_residual-in_err-make_object-in-Some.ensures.1 in
    rw (p.1, p.2) (λ t size w memory runs.
    let active = c.args.opened.now in
    let F = c.args.frames in
    let at = c.args.pool.now in
    let old = g.H.Host.state c.args.h.now in
    let begin = g.H.Host.state c.find_free_slot.new.h in
    let still = c.in_ok-at.ensures.only_reads.stays t ∙ c.in_ok-made.ensures.only_reads.stays t in
    let read = ap (λ (s : State). reads s.now.words) (sym (c.in_ok-at.ensures.only_reads.stays t)) in
    let then = runs_still runs still (still_size c.in_ok-at.ensures.only_reads (still_size c.in_ok-made.ensures.only_reads runs.words_are)) in
    let making = found_making runs c.args.t c.as_slice.result.now c.as_slice.ensures.puddles c.in_ok-made.field-0 (c.in_ok-made.ensures.refusal t (reads old.now.words) refl) (c.in_ok-made.ensures.class t (reads old.now.words) refl) (c.in_ok-made.ensures.serial t (reads old.now.words) refl) c.in-Ok.made c.in-Ok.is in
    let lowest = free_found then c.args.t c.in-Ok.made.0 c.as_slice-2.result.now c.as_slice-2.ensures.puddles c.full_below.result c.full_below.ensures c.in_ok-at.field-0 (c.in_ok-at.ensures.free t (reads begin.now.words) read) c.in-Some.at c.in-Some.is in
    let of = subst (λ (ps : List (ℕ × Puddle)). IsSlotOf ps c.in-Some.at) c.as_slice-2.ensures.puddles (subst (λ found. IfSome found (IsSlotOf c.as_slice-2.result.now)) c.in-Some.is c.in_ok-at.ensures.within) in
    let same = subst (λ (found : Option Slot). IfSome found (λ (at : Slot). at.class ≡ c.in-Ok.made.0)) c.in-Some.is c.in_ok-at.ensures.of_class in
    let makes = making_at w active c.args.t c.in-Ok.made.0 c.in-Ok.made.1 c.in-Some.at.class same making in
    subst (λ (s : State). DoesNew F active c.make_object.new.opened at c.make_object.new.pool c.args.t size w memory (Err c.in_err-make_object-in-Some.field-0.0) s (g.H.Host.state c.make_object.new.h)) still
    (new_in_slot then c.args.t c.in-Ok.made.0 c.in-Ok.made.1 making c.make_object.new.opened c.make_object.new.pool c.in-Some.at of same (Err c.in_err-make_object-in-Some.field-0.0) tt (g.H.Host.state c.make_object.new.h) lowest (c.in_err-make_object-in-Some.ensures.makes t size w memory then makes (lowest_at F at.puddles (reads begin.now.words) c.in-Ok.made.0 c.in-Some.at same lowest))))

pub returns-in_ok-make_object-in-Some-clause-does : goal.returns-in_ok-make_object-in-Some-clause-does
returns-in_ok-make_object-in-Some-clause-does g c = λ t size w memory runs.
    let active = c.args.opened.now in
    let F = c.args.frames in
    let at = c.args.pool.now in
    let old = g.H.Host.state c.args.h.now in
    let begin = g.H.Host.state c.find_free_slot.new.h in
    let still = c.in_ok-at.ensures.only_reads.stays t ∙ c.in_ok-made.ensures.only_reads.stays t in
    let read = ap (λ (s : State). reads s.now.words) (sym (c.in_ok-at.ensures.only_reads.stays t)) in
    let then = runs_still runs still (still_size c.in_ok-at.ensures.only_reads (still_size c.in_ok-made.ensures.only_reads runs.words_are)) in
    let making = found_making runs c.args.t c.as_slice.result.now c.as_slice.ensures.puddles c.in_ok-made.field-0 (c.in_ok-made.ensures.refusal t (reads old.now.words) refl) (c.in_ok-made.ensures.class t (reads old.now.words) refl) (c.in_ok-made.ensures.serial t (reads old.now.words) refl) c.in-Ok.made c.in-Ok.is in
    let lowest = free_found then c.args.t c.in-Ok.made.0 c.as_slice-2.result.now c.as_slice-2.ensures.puddles c.full_below.result c.full_below.ensures c.in_ok-at.field-0 (c.in_ok-at.ensures.free t (reads begin.now.words) read) c.in-Some.at c.in-Some.is in
    let of = subst (λ (ps : List (ℕ × Puddle)). IsSlotOf ps c.in-Some.at) c.as_slice-2.ensures.puddles (subst (λ found. IfSome found (IsSlotOf c.as_slice-2.result.now)) c.in-Some.is c.in_ok-at.ensures.within) in
    let same = subst (λ (found : Option Slot). IfSome found (λ (at : Slot). at.class ≡ c.in-Ok.made.0)) c.in-Some.is c.in_ok-at.ensures.of_class in
    let makes = making_at w active c.args.t c.in-Ok.made.0 c.in-Ok.made.1 c.in-Some.at.class same making in
    subst (λ (s : State). DoesNew F active c.make_object.new.opened at c.make_object.new.pool c.args.t size w memory (Ok (replies.Ref c.in-Ok.made.1)) s (g.H.Host.state c.make_object.new.h)) still
    (new_in_slot then c.args.t c.in-Ok.made.0 c.in-Ok.made.1 making c.make_object.new.opened c.make_object.new.pool c.in-Some.at of same (Ok (replies.Ref c.in-Ok.made.1)) refl (g.H.Host.state c.make_object.new.h) lowest (c.in_ok-make_object-in-Some.ensures.makes t size w memory then makes (lowest_at F at.puddles (reads begin.now.words) c.in-Ok.made.0 c.in-Some.at same lowest)))

-- ---- each slot is live

pub returns-in-None-clause-does : goal.returns-in-None-clause-does
returns-in-None-clause-does g c = λ t size w memory runs.
    let active = c.args.opened.now in
    let F = c.args.frames in
    let at = c.args.pool.now in
    let old = g.H.Host.state c.args.h.now in
    let begin = g.H.Host.state c.find_free_slot.new.h in
    let still = c.in_ok-at.ensures.only_reads.stays t ∙ c.in_ok-made.ensures.only_reads.stays t in
    let read = ap (λ (s : State). reads s.now.words) (sym (c.in_ok-at.ensures.only_reads.stays t)) in
    let then = runs_still runs still (still_size c.in_ok-at.ensures.only_reads (still_size c.in_ok-made.ensures.only_reads runs.words_are)) in
    let making = found_making runs c.args.t c.as_slice.result.now c.as_slice.ensures.puddles c.in_ok-made.field-0 (c.in_ok-made.ensures.refusal t (reads old.now.words) refl) (c.in_ok-made.ensures.class t (reads old.now.words) refl) (c.in_ok-made.ensures.serial t (reads old.now.words) refl) c.in-Ok.made c.in-Ok.is in
    let live = none_found then c.args.t c.in-Ok.made.0 c.as_slice-2.result.now c.as_slice-2.ensures.puddles c.full_below.result c.full_below.ensures c.in_ok-at.field-0 (c.in_ok-at.ensures.full t (reads begin.now.words) read) c.in-None.is in
    let more = was_full then c.args.t c.in-Ok.made.0 c.in-Ok.made.1 making live in
    let n = c.make_in_new_puddle in
    subst (λ (s : State). DoesNew F active n.new.opened at n.new.pool c.args.t size w memory n.result s (g.H.Host.state n.new.h)) still
    (new_in_more then c.args.t c.in-Ok.made.0 c.in-Ok.made.1 making n.new.opened n.new.pool n.result (g.H.Host.state n.new.h) (n.ensures.does t size w memory then making more))
