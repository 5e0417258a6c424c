use Rattle.std.proofs.Common.{ℕ, List, Some, None, ap, ◌∙◌, subst}
use Rattle.std.proofs.lemmas.Result.{err_from_is_err_and}
use Rattle.std.specs.List.{flat_map}
use Rattle.pm_model.specs.Counts.{fault_of}
use Rattle.pm_model.specs.Calls.{Says}
use Rattle.pm_model.proofs.Reading.{still_reads}
use Rattle.pm_model.proofs.Saying.{Says-after}
use Rattle.pud_defs.specs.declared.layout.TheConstants.{MACHINE_WORD, NEXT_NUMBER_WORD}
use Rattle.pud_defs.specs.declared.records.PoolRecord.{PoolRecord}
use Rattle.pud_defs.specs.Output.LayoutText.{frames_line}
use Rattle.pud_defs.specs.RegistryTables.Tables.{tables_of}
use Rattle.pud_check.specs.LayoutListed.{pool_listed}
use Rattle.pud_check.proofs.Saying.{reads-said, holds_counted, Says-no_pools, Says-layout, listed_layout-sound}
use Rattle.pud_check.proofs.say_layout.Goals as goal

pub returns-in_err-say-clause-says : goal.returns-in_err-say-clause-says
returns-in_err-say-clause-says g c =
    let p = err_from_is_err_and c.from_residual-in_err-say.result c.from_residual-in_err-say.ensures.1 in
    rw (p.1, p.2) (λ t image e.
    let placing = still_reads c.find_places.ensures.only_reads t e in
    let listing = still_reads c.in_order.ensures.only_reads t placing in
    let machine = still_reads c.load.ensures.only_reads t listing in
    let number = c.load-2.ensures.only_reads.stays t ∙ c.load.ensures.only_reads.stays t ∙ c.in_order.ensures.only_reads.stays t ∙ c.find_places.ensures.only_reads.stays t in
    let fault = c.in_err-say.field-0.0 in
    let line = c.as_slice.ensures.value ∙ c.frames_line.ensures ∙ ap (λ (used : ℕ). frames_line c.args.frames used c.in_ok-next.next) c.used.ensures in
    Says-no_pools c.args.frames image c.in_ok-places.places c.in_ok-id.id c.in_ok-next.next c.in_ok-records.records.items (c.in_ok-places.ensures.places t image e) c.in_ok-places.ensures.count
    (c.in_ok-id.ensures.value t ∙ (λ i. listing i MACHINE_WORD))
    (c.in_ok-next.ensures.value t ∙ (λ i. machine i NEXT_NUMBER_WORD))
    (c.in_ok-records.ensures.listed t image placing c.args.frames) fault _ _
    (Says-after _ (Some fault) _ _ _ number (subst (λ (bytes : List ℕ). Says bytes (Some fault) (g.H.Host.state c.load-2.new.self) (g.H.Host.state c.say.new.self)) line (c.in_err-say.ensures.said t))))

pub returns-in_err-say-clause-sound : goal.returns-in_err-say-clause-sound
returns-in_err-say-clause-sound g c = λ t image e next sound all.
    subst (λ (bytes : List ℕ). Says bytes (fault_of c.from_residual-in_err-say.result) (g.H.Host.state c.args.h.now) (g.H.Host.state c.say.new.self)) (listed_layout-sound c.args.frames next image sound all)
    (returns-in_err-say-clause-says g c t image e)

pub returns-clause-says : goal.returns-clause-says
returns-clause-says g c = λ t image e.
    let placing = still_reads c.find_places.ensures.only_reads t e in
    let listing = still_reads c.in_order.ensures.only_reads t placing in
    let machine = still_reads c.load.ensures.only_reads t listing in
    let number = c.load-2.ensures.only_reads.stays t ∙ c.load.ensures.only_reads.stays t ∙ c.in_order.ensures.only_reads.stays t ∙ c.find_places.ensures.only_reads.stays t in
    let fault = fault_of c.say_pools.result in
    let line = c.as_slice.ensures.value ∙ c.frames_line.ensures ∙ ap (λ (used : ℕ). frames_line c.args.frames used c.in_ok-next.next) c.used.ensures in
    let holds = c.in_ok-places.ensures.places t image e in
    let count = c.in_ok-places.ensures.count in
    let id = c.in_ok-id.ensures.value t ∙ (λ i. listing i MACHINE_WORD) in
    let next = c.in_ok-next.ensures.value t ∙ (λ i. machine i NEXT_NUMBER_WORD) in
    let listed = c.in_ok-records.ensures.listed t image placing c.args.frames in
    let said = Says-after _ None _ _ _ number (subst (λ (bytes : List ℕ). Says bytes None (g.H.Host.state c.load-2.new.self) (g.H.Host.state c.say.new.self)) line (c.in_ok-say.ensures.said t)) in
    let here = holds_counted c.args.frames image c.in_ok-places.places holds count in
    Says-layout c.args.frames image c.in_ok-places.places c.in_ok-id.id c.in_ok-next.next c.in_ok-records.records.items holds count id next listed fault _ _ _ said
    (subst (λ (records : List (ℕ × PoolRecord)). Says (flat_map (pool_listed c.in_ok-id.id (tables_of c.in_ok-places.places.count image)) records) fault (g.H.Host.state c.say.new.self) (g.H.Host.state c.say_pools.new.h)) c.as_slice-2.ensures.value
    (c.say_pools.ensures.says t image (reads-said _ _ _ _ image said e) here))

pub returns-clause-sound : goal.returns-clause-sound
returns-clause-sound g c = λ t image e next sound all.
    subst (λ (bytes : List ℕ). Says bytes (fault_of c.say_pools.result) (g.H.Host.state c.args.h.now) (g.H.Host.state c.say_pools.new.h)) (listed_layout-sound c.args.frames next image sound all)
    (returns-clause-says g c t image e)
