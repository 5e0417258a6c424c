use Rattle.std.proofs.Common.{◌≡◌, ◌&&◌, true, nat_cmp, ◌<◌, length, option_map, slice_index, sym, ap, ◌∙◌, arith}
use Rattle.std.proofs.Math.Bool.{and-true}
use Rattle.std.proofs.lemmas.List.{length-take-le}
use Rattle.pud_defs.specs.declared.space.TheConstants.{NEXT_SERIAL_WORD}
use Rattle.pud_defs.specs.PoolGraphs.Stored.{stored_in}
use Rattle.pud_defs.specs.RegistryTables.Types.{types_of}
use Rattle.pud_defs.specs.PoolGraphs.Graph.{stands, under_serial, table_of}
use Rattle.pud_defs.specs.RegistryTables.Keyed.{are_distinct, count_used}
use Rattle.pud_defs.specs.RegistryTables.Spaces.{all_below}
use Rattle.graph_read.specs.declared.checking.SlotCheck.TheVariants.{IsSound}
use Rattle.graph_read.specs.Checking.{content_of, place_passes, with_serials}
use Rattle.graph_read.specs.Numbers.{places_sum, totals_of}
use Rattle.puddle_header.specs.Places.{places_in}
use Rattle.graph_read.specs.declared.serials.TheConstants.{PLACES}
use Rattle.graph_read.proofs.Counted.{totals_counted}
use Rattle.graph_read.proofs.LiveSerials.{are_distinct-live, length-live_serials}
use Rattle.graph_read.proofs.Judging.{judged, unsound_slots, first_word, root_read, same_places, positive_length, none_without_puddles}
use Rattle.graph_read.proofs.Numbers.{then_some-none, then_some-some}
use Rattle.pm_model.proofs.Reading.{still_reads}
use Rattle.graph_read.proofs.judge.pool_totals.Goals as goal

pub returns-then-is_empty-clause-held : goal.returns-then-is_empty-clause-held
returns-then-is_empty-clause-held g c = λ t image same. sym (ap (option_map totals_of) (none_without_puddles (types_of image) c.args.frames c.args.pool.now image (sym c.is_empty.ensures ∙ c.if-is_empty.true)))

pub returns-in_default-clause-held : goal.returns-in_default-clause-held
returns-in_default-clause-held g c = λ t image same.
    let at = c.args.pool.now in
    let st = stored_in c.args.frames at image in
    let serial = slice_index c.in_ok-serials.serials in
    let some : 0 < length at = positive_length at (sym c.is_empty.ensures ∙ c.if-is_empty.false) in
    let second = still_reads c.headers_fit.ensures.only_reads t same in
    let third = still_reads c.next_serial.ensures.only_reads t second in
    let fourth = still_reads c.root_value.ensures.only_reads t third in
    let fifth = still_reads c.read_serials.ensures.only_reads t fourth in
    let slots = then_some-none _ _ (sym (c.in_ok-sum.ensures.sum t image fifth) ∙ c.in_default.is) in
    sym (ap (option_map totals_of) (unsound_slots (types_of image) st serial c.in_ok-next.next
    (c.in_ok-serials.ensures.serials t image fourth)
    (c.in_ok-next.ensures.word t image second ∙ first_word c.args.frames at image NEXT_SERIAL_WORD some (omega arith))
    (sym (ap (λ n. all_below n (place_passes (IsSound c.in_ok-next.next) (with_serials serial (table_of (types_of image) st)))) (same_places c.args.frames at image)) ∙ slots)))

pub returns-clause-held : goal.returns-clause-held
returns-clause-held g c = λ t image same.
    let at = c.args.pool.now in
    let st = stored_in c.args.frames at image in
    let serial = slice_index c.in_ok-serials.serials in
    let table = with_serials serial (table_of (types_of image) st) in
    let some : 0 < length at = positive_length at (sym c.is_empty.ensures ∙ c.if-is_empty.false) in
    let second = still_reads c.headers_fit.ensures.only_reads t same in
    let third = still_reads c.next_serial.ensures.only_reads t second in
    let fourth = still_reads c.root_value.ensures.only_reads t third in
    let fifth = still_reads c.read_serials.ensures.only_reads t fourth in
    let places = same_places c.args.frames at image in
    let live = c.keep_live-objects.ensures.live in
    let few = c.keep_live-objects.ensures.most in
    let size : length c.keep_live-objects.new.serials ≡ PLACES = c.keep_live-objects.array_long in
    let slots = then_some-some _ _ c.in-Some.sum (sym (c.in_ok-sum.ensures.sum t image fifth ∙ ap (places_sum (IsSound c.in_ok-next.next) table) places) ∙ c.in-Some.is) in
    let sound = c.are_all-sound.ensures
    ∙ ap (λ b. c.in_ok-headers.headers && (b && c.passes-root.result && c.are_distinct-distinct.result)) c.is_next_serial.ensures
    ∙ ap (λ b. c.in_ok-headers.headers && b) (sym (and-true _))
    ∙ judged (types_of image) st serial c.in_ok-next.next c.in_ok-headers.headers c.passes-root.result c.are_distinct-distinct.result true
    (c.in_ok-serials.ensures.serials t image fourth)
    (c.in_ok-next.ensures.word t image second ∙ first_word c.args.frames at image NEXT_SERIAL_WORD some (omega arith))
    (c.in_ok-headers.ensures.fit t image same)
    (c.passes-root.ensures ∙ ap (λ p. stands serial (content_of p)) c.read_pointer.ensures.pointee ∙ ap (stands serial) (root_read c.args.frames at image c.in_ok-root.root some (c.in_ok-root.ensures.word t image third)))
    (c.are_distinct-distinct.ensures ∙ are_distinct-live serial (places_in at) _ live ∙ ap (are_distinct nat_cmp (under_serial serial (λ p. p)) 0) places)
    (sym slots.0) in
    c.then_some.ensures
    ∙ totals_counted (types_of image) st serial c.are_all-sound.result c.keep_live-objects.result c.in-Some.sum (c.in_ok-serials.ensures.serials t image fourth) sound
    (sym (length-take-le c.keep_live-objects.result c.keep_live-objects.new.serials (omega (arith, few, size))) ∙ ap length live ∙ length-live_serials serial 0 (places_in at) ∙ ap (count_used (under_serial serial (λ p. p)) 0) places) (sym slots.1)
