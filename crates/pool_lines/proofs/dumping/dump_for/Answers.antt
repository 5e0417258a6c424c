use Rattle.std.proofs.Common.{◌≡◌, ℕ, List, ◌++◌, codes, is_none, Ok, Err, refl, sym, ap, subst, ◌∙◌}
use Rattle.std.proofs.lemmas.Result.{err_from_is_err_and}
use Rattle.pm_model.specs.Words.{reads}
use Rattle.pud_defs.specs.declared.machine.Command.TheVariants.{Dump}
use Rattle.pud_defs.specs.declared.machine.Reply.TheVariants as replies
use Rattle.pud_defs.specs.declared.machine.Refusal.TheVariants as refusals
use Rattle.pud_defs.specs.Output.DumpText.{dump_text}
use Rattle.pud_defs.specs.Output.Texts.{in_one_line}
use Rattle.pud_defs.specs.PoolGraphs.Graph.{graph_of}
use Rattle.pud_defs.specs.PoolGraphs.Stored.{stored_in}
use Rattle.pud_defs.specs.RegistryTables.Types.{types_of}
use Rattle.pud_defs.specs.StateMachine.Step.Answer.{of_reply, of_text}
use Rattle.daemon_memory.specs.declared.line_answer.LineAnswer.TheVariants as answers
use Rattle.daemon_memory.specs.declared.finding.Need.TheVariants as needs
use Rattle.daemon_memory.specs.Memory.{Memory}
use Rattle.daemon_memory.specs.Owning.{refusal_found}
use Rattle.daemon_memory.proofs.PoolsFound.Found.{finds}
use Rattle.daemon_memory.proofs.PoolsFound.Needs.{refusal_of-dump}
use Rattle.pool_lines.proofs.PoolLines.Readable.{holds_found}
use Rattle.pool_lines.proofs.FileTransfers.FileLines.{memory_of-dump, refused_step, memory_step, some_step, dump_is_plain, CarriesOut-read, dump_fault, dump_unmade, dump_failed, dumped_step, one_line_dump}
use Rattle.pool_lines.proofs.dumping.dump_for.Goals as goal
use Rattle.daemon_memory.specs.Doing.{ChangesNothing}
use Rattle.daemon_memory.proofs.Commands.Acting.{acts_nothing}

pub returns-in_err-refusal-clause-carries : goal.returns-in_err-refusal-clause-carries
returns-in_err-refusal-clause-carries g c =
    let p = err_from_is_err_and c.from_residual.result c.from_residual.ensures.1 in
    rw (p.1, p.2) (λ t size e w ready.
    let k = c.in_err-refusal.ensures in
    let line = Dump c.args.client c.args.name in
    let s = some_step w line (memory_of-dump w c.args.client c.args.name) in
    CarriesOut-read size w c.find_pool.new.self line refl (dump_is_plain c.args.client c.args.name) ChangesNothing _ _ _ _ (k.ready t size w ready)
    s.said (Err c.in_err-refusal.field-0.0) s.step tt tt k.only_reads.never_cut (k.only_reads.stays t) k.only_reads.cause (acts_nothing w line _ _ _ (k.only_reads.stays t)))

pub returns-in-Err-clause-carries : goal.returns-in-Err-clause-carries
returns-in-Err-clause-carries g c = λ t size e w ready.
    let k = c.in_ok-refusal.ensures in
    let line = Dump c.args.client c.args.name in
    let refused = refusal_of-dump w c.args.client c.args.name ∙ sym (k.refusal t size w ready) ∙ ap refusal_found c.in-Err.is in
    CarriesOut-read size w c.find_pool.new.self line refl (dump_is_plain c.args.client c.args.name) ChangesNothing _ _ _ _ (k.ready t size w ready)
    (of_reply (replies.No c.in-Err.refusal)) (Ok (answers.Reply (replies.No c.in-Err.refusal))) (refused_step w line c.in-Err.refusal refused) refl tt (λ cut. cc) (k.only_reads.stays t) k.only_reads.cause (acts_nothing w line _ _ _ (k.only_reads.stays t))

pub returns-in-Ok-dump_json-clause-carries : goal.returns-in-Ok-dump_json-clause-carries
returns-in-Ok-dump_json-clause-carries g c = λ t size e w ready.
    let k = c.in_ok-refusal.ensures in
    let now = c.find_pool.new.self in
    let s = g.H.Host.state c.find_pool.new.h in
    let line = Dump c.args.client c.args.name in
    let image = reads s.now.words in
    let here = finds size w needs.Read c.args.client c.args.name c.args.memory.now now _ s _ c.in-Ok.found c.in-Ok.is (k.only_reads.stays t) k.sessions (k.ready t size w ready) (k.refusal t size w ready) (k.found t size w ready) k.whose in
    let holds = holds_found size w now _ here.ready c.args.client c.args.name c.in-Ok.found c.puddles_of.result.now here.is c.puddles_of.ensures.known in
    let on = ap (λ (m : Memory). m.frames) c.memory.view_is ∙ here.ready.frames in
    let is = c.new.ensures ∙ c.in-Ok-dump_json.ensures.text t image refl holds.graph (ap (λ F. graph_of (types_of image) (stored_in F c.puddles_of.result.now image)) on ∙ holds.stored) in
    CarriesOut-read size w now line refl (dump_is_plain c.args.client c.args.name) ChangesNothing _ _ _ _ (k.ready t size w ready)
    (of_text (codes " " ++ dump_text holds.graph)) (Ok (answers.Text c.new.result)) (dumped_step w c.args.client c.args.name w.stored.frames image c.puddles_of.result.now holds here.free)
    (ap (λ (l : List ℕ). of_text (codes " " ++ l)) is) (one_line_dump holds.graph c.new.result is) (λ cut. cc)
    (c.in-Ok-dump_json.ensures.only_reads.stays t ∙ k.only_reads.stays t) (c.in-Ok-dump_json.ensures.only_reads.cause ∙ k.only_reads.cause) (acts_nothing w line _ _ _ (c.in-Ok-dump_json.ensures.only_reads.stays t ∙ k.only_reads.stays t))

pub returns-in-Err-Memory-clause-carries : goal.returns-in-Err-Memory-clause-carries
returns-in-Err-Memory-clause-carries g c = λ t size e w ready.
    let k = c.in_ok-refusal.ensures in
    let line = Dump c.args.client c.args.name in
    let free = refusal_of-dump w c.args.client c.args.name ∙ sym (k.refusal t size w ready) ∙ ap refusal_found c.in-Ok.is in
    let may = memory_of-dump w c.args.client c.args.name ∙ ap is_none free in
    CarriesOut-read size w c.find_pool.new.self line refl (dump_is_plain c.args.client c.args.name) ChangesNothing _ _ _ _ (k.ready t size w ready)
    (of_reply (replies.No refusals.Memory)) (Ok (answers.Reply (replies.No refusals.Memory))) (memory_step w line may) refl tt (λ cut. cc)
    (c.in-Err-Memory.ensures.only_reads.stays t ∙ k.only_reads.stays t) (dump_unmade _ _ _ c.in-Err-Memory.field-0-is c.in-Err-Memory.ensures.only_reads.cause ∙ k.only_reads.cause) (acts_nothing w line _ _ _ (c.in-Err-Memory.ensures.only_reads.stays t ∙ k.only_reads.stays t))

pub returns-in-Err-Host-clause-carries : goal.returns-in-Err-Host-clause-carries
returns-in-Err-Host-clause-carries g c = λ t size e w ready.
    let k = c.in_ok-refusal.ensures in
    let line = Dump c.args.client c.args.name in
    let s = some_step w line (memory_of-dump w c.args.client c.args.name) in
    let of_host = ap dump_fault c.in-Err-Host.field-0-is in
    CarriesOut-read size w c.find_pool.new.self line refl (dump_is_plain c.args.client c.args.name) ChangesNothing _ _ _ _ (k.ready t size w ready)
    s.said (Err c.in-Err-Host.fault) s.step tt tt (λ cut. c.in-Err-Host.ensures.only_reads.never_cut (of_host ∙ cut)) (c.in-Err-Host.ensures.only_reads.stays t ∙ k.only_reads.stays t)
    (dump_failed _ c.in-Err-Host.fault _ _ _ c.in-Err-Host.field-0-is c.in-Err-Host.ensures.only_reads.cause k.only_reads.cause) (acts_nothing w line _ _ _ (c.in-Err-Host.ensures.only_reads.stays t ∙ k.only_reads.stays t))

pub returns-in-Ok-dump_json-clause-one_line : goal.returns-in-Ok-dump_json-clause-one_line
returns-in-Ok-dump_json-clause-one_line g c = subst (λ (l : List ℕ). in_one_line l ≡ l) (sym c.new.ensures) c.in-Ok-dump_json.ensures.one_line
