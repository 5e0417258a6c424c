use Rattle.std.proofs.Common.{ℕ, List, [], Ok, Err, refl, sym, ap, subst, ◌∙◌}
use Rattle.std.specs.Prelude.{IfOk, unwrap_or}
use Rattle.std.proofs.lemmas.Result.{err_from_is_err_and}
use Rattle.pm_model.specs.Words.{reads}
use Rattle.pm_model.specs.Counts.{after_fault, file_fault_of}
use Rattle.pm_model.specs.Moments.{State}
use Rattle.pm_model.specs.Calls.{LeavesFile}
use Rattle.pm_model.proofs.Reading.{still_reads}
use Rattle.pud_defs.specs.declared.machine.Command.TheVariants.{Export}
use Rattle.pud_defs.specs.declared.machine.Reply.TheVariants as replies
use Rattle.pud_defs.specs.declared.machine.Refusal.TheVariants as refusals
use Rattle.pud_defs.specs.declared.records.Puddle.{Puddle}
use Rattle.pud_defs.specs.Output.Listing.{name_text}
use Rattle.pud_defs.specs.StateMachine.Step.Answer.{of_reply}
use Rattle.daemon_memory.specs.declared.line_answer.LineAnswer.TheVariants as answers
use Rattle.daemon_memory.specs.declared.finding.Need.TheVariants as needs
use Rattle.pool_lines.specs.Files.{HoldsPool, WritesFile}
use Rattle.daemon_memory.specs.Finding.{IsStoredPool}
use Rattle.daemon_memory.specs.Memory.{Memory}
use Rattle.daemon_memory.specs.PoolKnowledge.{known_puddles_in}
use Rattle.daemon_memory.specs.Owning.{refusal_found}
use Rattle.pool_lines.proofs.FileTransfers.FileLines.{memory_of-export, export_unread, export_open, export_free, refused_step, some_step, export_is_plain, CarriesOut-read}
use Rattle.daemon_memory.proofs.Commands.Acting.{acts_refused, acts_unread}
use Rattle.daemon_memory.proofs.PoolsFound.Found.{finds, its_number, no_number}
use Rattle.pool_lines.proofs.FileTransfers.ExportLines.{own_is_open, stored_found, CarriesOut-written, HoldsOneOf-written}
use Rattle.pool_lines.proofs.exporting.export_for.Goals as goal

pub returns-in_err-refusal-clause-carries : goal.returns-in_err-refusal-clause-carries
returns-in_err-refusal-clause-carries g c =
    let p = err_from_is_err_and c.from_residual.result c.from_residual.ensures.1 in
    rw (p.1, p.2) (λ t size e w ready.
    let k = c.in_err-refusal.ensures in
    let line = Export c.args.client c.args.name c.args.file in
    let s = some_step w line (memory_of-export w c.args.client c.args.name c.args.file) in
    CarriesOut-read size w c.find_pool.new.self line refl (export_is_plain c.args.client c.args.name c.args.file) (WritesFile w c.args.name c.args.file) _ _ _ _ (k.ready t size w ready)
    s.said (Err c.in_err-refusal.field-0.0) s.step tt tt k.only_reads.never_cut (k.only_reads.stays t) k.only_reads.cause (acts_unread w line _ (Err c.in_err-refusal.field-0.0) tt k.only_reads.never_cut (k.only_reads.stays t)))

pub returns-in-Err-clause-carries : goal.returns-in-Err-clause-carries
returns-in-Err-clause-carries g c = λ t size e w ready.
    let k = c.in_ok-refusal.ensures in
    let line = Export c.args.client c.args.name c.args.file in
    let refused = export_unread w c.args.client c.args.name c.args.file c.in-Err.refusal (sym (k.refusal t size w ready) ∙ ap refusal_found c.in-Err.is) in
    CarriesOut-read size w c.find_pool.new.self line refl (export_is_plain c.args.client c.args.name c.args.file) (WritesFile w c.args.name c.args.file) _ _ _ _ (k.ready t size w ready)
    (of_reply (replies.No c.in-Err.refusal)) (Ok (answers.Reply (replies.No c.in-Err.refusal))) (refused_step w line c.in-Err.refusal refused) refl tt (λ cut. cc) (k.only_reads.stays t) k.only_reads.cause (acts_refused w line _ c.in-Err.refusal (Ok (answers.Reply (replies.No c.in-Err.refusal))) refused (k.only_reads.stays t))

pub returns-then-is_some-clause-carries : goal.returns-then-is_some-clause-carries
returns-then-is_some-clause-carries g c = λ t size e w ready.
    let k = c.in_ok-refusal.ensures in
    let now = c.find_pool.new.self in
    let line = Export c.args.client c.args.name c.args.file in
    let here = finds size w needs.Read c.args.client c.args.name c.args.memory.now now _ _ _ c.in-Ok.found c.in-Ok.is refl k.sessions (k.ready t size w ready) (k.refusal t size w ready) (k.found t size w ready) k.whose in
    let mine = its_number c.in-Ok.found.own (sym c.is_some.ensures ∙ c.if-is_some.true) in
    let own = here.is.own mine.0 mine.1 in
    let opened = own_is_open size w now _ here.ready c.args.client c.args.name mine.0 own.own in
    CarriesOut-read size w now line refl (export_is_plain c.args.client c.args.name c.args.file) (WritesFile w c.args.name c.args.file) _ _ _ _ here.ready
    (of_reply (replies.No refusals.OpenHere)) (Ok (answers.Reply (replies.No refusals.OpenHere))) (refused_step w line refusals.OpenHere (export_open w c.args.client c.args.name c.args.file here.free opened)) refl tt (λ cut. cc)
    (k.only_reads.stays t) k.only_reads.cause (acts_refused w line _ refusals.OpenHere (Ok (answers.Reply (replies.No refusals.OpenHere))) (export_open w c.args.client c.args.name c.args.file here.free opened) (k.only_reads.stays t))

-- ---- the file was to be written

pub returns-clause-carries : goal.returns-clause-carries
returns-clause-carries g c = λ t size e w ready.
    let k = c.in_ok-refusal.ensures in
    let now = c.find_pool.new.self in
    let old = g.H.Host.state c.args.h.now in
    let stays = k.only_reads.stays t in
    let here = finds size w needs.Read c.args.client c.args.name c.args.memory.now now _ old _ c.in-Ok.found c.in-Ok.is refl k.sessions (k.ready t size w ready) (k.refusal t size w ready) (k.found t size w ready) k.whose in
    let known = c.puddles-puddles.ensures.puddles ∙ ap (λ (m : Memory). unwrap_or (known_puddles_in m.known_pools c.in-Ok.found.slot) []) c.memory.view_is in
    let on = ap (λ (m : Memory). m.frames) c.memory.view_is in
    let pool = subst (λ (n : ℕ). IsStoredPool w n c.args.name (reads old.now.words) c.in-Ok.found.number c.puddles-puddles.result.now) (sym on)
    (subst (λ (at : List (ℕ × Puddle)). IsStoredPool w now.frames c.args.name (reads old.now.words) c.in-Ok.found.number at) (sym known) (stored_found size w c.args.client c.args.name now old c.in-Ok.found here (no_number c.in-Ok.found.own (sym c.is_some.ensures ∙ c.if-is_some.false)))) in
    let free = export_free w c.args.client c.args.name c.args.file here.free (here.is.none (no_number c.in-Ok.found.own (sym c.is_some.ensures ∙ c.if-is_some.false))) in
    let written = subst (λ (s : State). IfOk c.write_file-done.result (λ done. HoldsPool c.memory.inside.frames c.in-Ok.found.number c.puddles-puddles.result.now pool.graph (reads old.now.words) (name_text c.args.file) s
    (g.H.Host.state c.write_file-done.new.h))) stays
    (c.write_file-done.ensures.written t (reads old.now.words) (still_reads k.only_reads t refl) pool.graph pool.stored pool.exportable) in
    let left = subst (λ (s : State). LeavesFile (name_text c.args.file) s (g.H.Host.state c.write_file-done.new.h)) stays (c.write_file-done.ensures.failed t) in
    rw c.answer_written.ensures (CarriesOut-written size w now old here.ready c.args.client c.args.name c.args.file free c.memory.inside.frames c.in-Ok.found.number
    c.puddles-puddles.result.now pool _ _ _ (on ∙ here.ready.frames) c.write_file-done.result written (λ none. c.write_file-done.ensures.memory t none ∙ stays) left
    (c.write_file-done.ensures.cause ∙ ap (after_fault (file_fault_of c.write_file-done.result)) k.only_reads.cause) c.write_file-done.ensures.never_cut)

pub returns-clause-words : goal.returns-clause-words
returns-clause-words g c = λ t size w ready.
    let k = c.in_ok-refusal.ensures in
    let now = c.find_pool.new.self in
    let old = g.H.Host.state c.args.h.now in
    let stays = k.only_reads.stays t in
    let here = finds size w needs.Read c.args.client c.args.name c.args.memory.now now _ old _ c.in-Ok.found c.in-Ok.is refl k.sessions (k.ready t size w ready) (k.refusal t size w ready) (k.found t size w ready) k.whose in
    let known = c.puddles-puddles.ensures.puddles ∙ ap (λ (m : Memory). unwrap_or (known_puddles_in m.known_pools c.in-Ok.found.slot) []) c.memory.view_is in
    let on = ap (λ (m : Memory). m.frames) c.memory.view_is in
    let pool = subst (λ (n : ℕ). IsStoredPool w n c.args.name (reads old.now.words) c.in-Ok.found.number c.puddles-puddles.result.now) (sym on)
    (subst (λ (at : List (ℕ × Puddle)). IsStoredPool w now.frames c.args.name (reads old.now.words) c.in-Ok.found.number at) (sym known) (stored_found size w c.args.client c.args.name now old c.in-Ok.found here (no_number c.in-Ok.found.own (sym c.is_some.ensures ∙ c.if-is_some.false)))) in
    let free = export_free w c.args.client c.args.name c.args.file here.free (here.is.none (no_number c.in-Ok.found.own (sym c.is_some.ensures ∙ c.if-is_some.false))) in
    let written = subst (λ (s : State). IfOk c.write_file-done.result (λ done. HoldsPool c.memory.inside.frames c.in-Ok.found.number c.puddles-puddles.result.now pool.graph (reads old.now.words) (name_text c.args.file) s
    (g.H.Host.state c.write_file-done.new.h))) stays
    (c.write_file-done.ensures.written t (reads old.now.words) (still_reads k.only_reads t refl) pool.graph pool.stored pool.exportable) in
    rw c.answer_written.ensures (HoldsOneOf-written size w now old here.ready c.args.client c.args.name c.args.file free c.memory.inside.frames c.in-Ok.found.number
    c.puddles-puddles.result.now pool (g.H.Host.counts c.args.h.now) (g.H.Host.counts c.write_file-done.new.h) _ (on ∙ here.ready.frames) c.write_file-done.result written)
