use Rattle.std.proofs.Common.{ℕ, List, ◌++◌, get_or, codes, ap, ◌∙◌, subst}
use Rattle.pm_model.specs.Counts.{fault_of}
use Rattle.pm_model.specs.Calls.{Says}
use Rattle.pm_model.proofs.Reading.{still_reads}
use Rattle.pm_model.proofs.Saying.{Says-after}
use Rattle.pud_defs.specs.declared.layout.TheConstants.{MACHINE_WORD}
use Rattle.pud_defs.specs.Output.Texts.{line_of}
use Rattle.pool_list.specs.Listed.{records_text}
use Rattle.pool_list.proofs.Saying.{records_text-read}
use Rattle.pool_list.proofs.say_pools.Goals as goal

pub returns-clause-says : goal.returns-clause-says
returns-clause-says g c = λ t image e.
    let fault = fault_of c.say_list.result in
    let start = g.H.Host.state c.args.h.now in
    let told = g.H.Host.state c.say_list.new.h in
    let counting = still_reads c.in_order.ensures.only_reads t e in
    let loading = still_reads c.count_by_pool.ensures.only_reads t counting in
    let saying = c.load.ensures.only_reads.stays t ∙ c.count_by_pool.ensures.only_reads.stays t ∙ c.in_order.ensures.only_reads.stays t in
    let machine = c.in_ok-id.ensures.value t ∙ (λ i. loading i MACHINE_WORD) in
    let text =
    records_text-read c.args.frames image c.in_ok-id.id c.in_ok-records.records.items c.in_ok-counts.counts machine (c.in_ok-records.ensures.listed t image e c.args.frames) c.in_ok-records.ensures.within
    (c.in_ok-counts.ensures.counts t image counting) in
    let said = ap (records_text c.in_ok-id.id (λ slot. get_or c.in_ok-counts.counts slot 0)) c.as_slice.ensures.value ∙ text in
    Says-after _ fault start (g.H.Host.state c.load.new.self) told saying
    (subst (λ (bytes : List ℕ). Says (line_of (codes "ok" ++ bytes)) fault (g.H.Host.state c.load.new.self) told) said (c.say_list.ensures.says t))
