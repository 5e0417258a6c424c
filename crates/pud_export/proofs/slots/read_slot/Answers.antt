use Rattle.std.proofs.Common.{◌≡◌, ◌≢◌, Some, None, IfOk, take, sym, subst, ◌∙◌}
use Rattle.std.proofs.lemmas.Bool.{eqb-true, eqb-false}
use Rattle.pud_defs.specs.Formats.Geometry.{class_slot_words}
use Rattle.pud_defs.specs.PoolGraphs.Stored.{stored_in, place_serial}
use Rattle.puddle_header.specs.Places.{place_of_slot}
use Rattle.pud_export.proofs.SlotsRead.{exported_slot-free, exported_slot-live, zeroes_of, map_read, fits_found}
use Rattle.pud_export.proofs.SlotsThere.{class_of_slot, serial_there, serial_word, type_there}
use Rattle.pm_model.proofs.Reading.{still_reads}
use Rattle.pud_export.proofs.slots.read_slot.Goals as goal

pub returns-then-is_free-clause-words : goal.returns-then-is_free-clause-words
returns-then-is_free-clause-words g c = λ t low image same.
    let F = c.args.frames in
    let pool = c.args.pool.now in
    let at = c.args.at.now in
    let st = stored_in F pool image in
    let free = eqb-true c.in_ok-serial.serial 0 (sym c.is_free.ensures ∙ c.if-is_free.true) in
    let serial = c.in_ok-serial.ensures.word t image same ∙ serial_there F pool image at c.requires.within in
    zeroes_of st (place_of_slot at) at.class (class_of_slot F pool image at c.requires.within) ∙ sym (exported_slot-free c.args.types.now st (place_of_slot at) (sym serial ∙ free))

pub returns-in-Some-clause-words : goal.returns-in-Some-clause-words
returns-in-Some-clause-words g c = λ t low image same.
    let F = c.args.frames in
    let pool = c.args.pool.now in
    let at = c.args.at.now in
    let p = place_of_slot at in
    let st = stored_in F pool image in
    let of = c.requires.within in
    let second = still_reads c.slot_serial.ensures.only_reads t same in
    let third = still_reads c.slot_type.ensures.only_reads t second in
    let serial = c.in_ok-serial.ensures.word t image same ∙ serial_there F pool image at of in
    let id = c.in_ok-id.ensures.word t image second ∙ type_there F pool image at of in
    let not_free = eqb-false c.in_ok-serial.serial 0 (sym c.is_free.ensures ∙ c.if-is_free.false) in
    let live : place_serial st p ≢ 0 = λ free. not_free (serial ∙ free) in
    let map = map_read c.args.types.now st p at.class c.in_ok-id.id (class_of_slot F pool image at of) id ∙ sym c.fitting_map.ensures ∙ c.in-Some.is in
    subst (λ words. IfOk c.read_object.result (λ r. take (class_slot_words at.class) r ≡ words)) (sym (exported_slot-live c.args.types.now st p (Some c.in-Some.type_map) live map))
    (c.read_object.ensures.words t low image third (c.in_ok-serial.ensures.word t image same ∙ serial_word F pool image at of) id)

pub returns-in-None-clause-words : goal.returns-in-None-clause-words
returns-in-None-clause-words g c = λ t low image same.
    let F = c.args.frames in
    let pool = c.args.pool.now in
    let at = c.args.at.now in
    let p = place_of_slot at in
    let st = stored_in F pool image in
    let of = c.requires.within in
    let second = still_reads c.slot_serial.ensures.only_reads t same in
    let serial = c.in_ok-serial.ensures.word t image same ∙ serial_there F pool image at of in
    let id = c.in_ok-id.ensures.word t image second ∙ type_there F pool image at of in
    let not_free = eqb-false c.in_ok-serial.serial 0 (sym c.is_free.ensures ∙ c.if-is_free.false) in
    let live : place_serial st p ≢ 0 = λ free. not_free (serial ∙ free) in
    let class = class_of_slot F pool image at of in
    let map = map_read c.args.types.now st p at.class c.in_ok-id.id class id ∙ sym c.fitting_map.ensures ∙ c.in-None.is in
    zeroes_of st p at.class class ∙ sym (exported_slot-live c.args.types.now st p None live map)

pub read_object-requires-clause-fits : goal.read_object-requires-clause-fits
read_object-requires-clause-fits g c = fits_found c.args.at.now.class _ c.in-Some.type_map (sym c.fitting_map.ensures ∙ c.in-Some.is)
