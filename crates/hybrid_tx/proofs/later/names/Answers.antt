use Rattle.std.proofs.Common.{◌<◌, ap, ap₂, sym, ◌∙◌}
use Rattle.std.proofs.lemmas.Option.{none-some, same_Some}
use Rattle.pm_model.specs.Words.{Image}
use Rattle.pud_defs.specs.Formats.TypeMap.{is_pointer}
use Rattle.pud_defs.specs.RegistryTables.Types.{types_of}
use Rattle.hybrid_tx.proofs.PoolScope.{all_there}
use Rattle.hybrid_tx.proofs.Objects.DeferredNamed.{names-object, address_of_later, read_of_later, map_of_later, names-value, names-neither, value_found}
use Rattle.pm_model.proofs.Reading.{OnlyReads-then, still_reads}
use Rattle.hybrid_tx.proofs.later.names.Goals as goal

pub returns-in_default-clause-names : goal.returns-in_default-clause-names
returns-in_default-clause-names g c = λ t image same now l p placed is later used place address.
    absurd (none-some _ (sym c.in_default.is ∙ c.field_of.ensures.found placed.bases later.slot l.f (address_of_later c.args.frames c.args.pool.now (types_of image) image now l _ later is)))

pub slot_serial-requires-clause-known : goal.slot_serial-requires-clause-known
slot_serial-requires-clause-known g c =
    let of = c.in-Some.ensures.is.of in
    all_there (λ d. d.0 < c.args.frames) c.args.pool.now c.in-Some.at.ordinal (c.in-Some.at.frame, of.puddle) c.requires.known.frames of.there

pub returns-then-serial-s-clause-names : goal.returns-then-serial-s-clause-names
returns-then-serial-s-clause-names g c = λ t image same now l p placed is later used place address.
    let read = read_of_later c.args.frames c.args.pool.now (types_of image) image now l _ later is _ c.in-Some.at c.in-Some.f c.in_ok-serial.serial (c.field_of.ensures.found placed.bases) c.in-Some.is c.in-Some.ensures.is.of
    (c.in_ok-serial.ensures.word t image same) in
    sym (names-object c.args.s l (sym read.2 ∙ c.if-serial-s.true))

pub returns-then-value-address-clause-names : goal.returns-then-value-address-clause-names
returns-then-value-address-clause-names g c = λ t image same now l p placed is later used place address.
    let read = read_of_later c.args.frames c.args.pool.now (types_of image) image now l _ later is _ c.in-Some.at c.in-Some.f c.in_ok-serial.serial (c.field_of.ensures.found placed.bases) c.in-Some.is c.in-Some.ensures.is.of
    (c.in_ok-serial.ensures.word t image same) in
    let before = still_reads c.in_ok-serial.ensures.only_reads t same in
    let value = c.in_ok-value.ensures.value t ∙ ap (λ (i : Image). i c.args.entry.now.at) before ∙ value_found image c.args.entry.now _ later.value later.is in
    sym (names-neither c.args.frames c.args.pool.now (types_of image) image now l _ later is placed c.args.s p used place (λ own. c.if-serial-s.false (read.2 ∙ own))
    (λ there. c.if-value-address.true (value ∙ there ∙ sym address)))

pub slot_type-requires-clause-known : goal.slot_type-requires-clause-known
slot_type-requires-clause-known g c =
    let of = c.in-Some.ensures.is.of in
    all_there (λ d. d.0 < c.args.frames) c.args.pool.now c.in-Some.at.ordinal (c.in-Some.at.frame, of.puddle) c.requires.known.frames of.there

pub returns-in-Some-2-clause-names : goal.returns-in-Some-2-clause-names
returns-in-Some-2-clause-names g c = λ t image same now l p placed is later used place address.
    let of = c.in-Some.ensures.is.of in
    let read = read_of_later c.args.frames c.args.pool.now (types_of image) image now l _ later is _ c.in-Some.at c.in-Some.f c.in_ok-serial.serial (c.field_of.ensures.found placed.bases) c.in-Some.is of
    (c.in_ok-serial.ensures.word t image same) in
    let before = still_reads c.in_ok-serial.ensures.only_reads t same in
    let value = c.in_ok-value.ensures.value t ∙ ap (λ (i : Image). i c.args.entry.now.at) before ∙ value_found image c.args.entry.now _ later.value later.is in
    let loaded = still_reads c.in_ok-value.ensures.only_reads t before in
    let typed = still_reads c.in_ok-id.ensures.only_reads t loaded in
    let map = map_of_later c.args.frames c.args.pool.now (types_of image) image now l _ later is c.in-Some.at c.in_ok-id.id read.0 of (c.in_ok-id.ensures.word t image loaded) in
    c.map_is_pointer.ensures
    ∙ ap₂ is_pointer (same_Some _ _ (sym c.in-Some-2.is ∙ c.in_ok-map.ensures.map t image typed ∙ map)) read.1
    ∙ sym (names-value c.args.frames c.args.pool.now (types_of image) image now l _ later is placed c.args.s p used place (λ own. c.if-serial-s.false (read.2 ∙ own))
    (sym value ∙ c.if-value-address.false ∙ address))

pub returns-in-None-clause-names : goal.returns-in-None-clause-names
returns-in-None-clause-names g c = λ t image same now l p placed is later used place address.
    let of = c.in-Some.ensures.is.of in
    let read = read_of_later c.args.frames c.args.pool.now (types_of image) image now l _ later is _ c.in-Some.at c.in-Some.f c.in_ok-serial.serial (c.field_of.ensures.found placed.bases) c.in-Some.is of
    (c.in_ok-serial.ensures.word t image same) in
    let loaded = still_reads (OnlyReads-then c.in_ok-serial.ensures.only_reads c.in_ok-value.ensures.only_reads) t same in
    let typed = still_reads c.in_ok-id.ensures.only_reads t loaded in
    let map = map_of_later c.args.frames c.args.pool.now (types_of image) image now l _ later is c.in-Some.at c.in_ok-id.id read.0 of (c.in_ok-id.ensures.word t image loaded) in
    absurd (none-some _ (sym c.in-None.is ∙ c.in_ok-map.ensures.map t image typed ∙ map))
