use Rattle.std.proofs.Common.{◌≡◌, ℕ, true, ◌&&◌, leb, eqb, Some, None, sym, ◌∙◌, arith}
use Rattle.std.proofs.lemmas.Bool.{and_from, cond-true, eq-eqb, le-leb}
use Rattle.pud_defs.specs.declared.layout.TheConstants.{DEVICE_MAGIC, MIN_FRAMES, MAX_FRAMES}
use Rattle.pud_defs.specs.Formats.Layout.{device_words}
use Rattle.pud_defs.specs.RegistryTables.Registry.{is_version}
use Rattle.soundness.specs.Judging.{IsRoomFor, frames_by}
use Rattle.soundness.proofs.judge.frames_of_header.Goals as goal

described_by : (size magic version F : ℕ) → magic ≡ DEVICE_MAGIC → is_version version ≡ true → IsRoomFor size F → Some F ≡ frames_by size magic version F
described_by size magic version F magic_is version_is room =
    let header = and_from (eqb magic DEVICE_MAGIC) (is_version version) (eq-eqb magic DEVICE_MAGIC magic_is) version_is in
    let legal = and_from (leb MIN_FRAMES F) (leb F MAX_FRAMES) (le-leb MIN_FRAMES F room.some) (le-leb F MAX_FRAMES room.no_more) in
    let fits = and_from (leb MIN_FRAMES F && leb F MAX_FRAMES) (leb (device_words F) size) legal (le-leb (device_words F) size room.fits) in
    let all = and_from (eqb magic DEVICE_MAGIC && is_version version) (leb MIN_FRAMES F && leb F MAX_FRAMES && leb (device_words F) size) header fits in
    sym (cond-true (eqb magic DEVICE_MAGIC && is_version version && (leb MIN_FRAMES F && leb F MAX_FRAMES && leb (device_words F) size)) (Some F) None all)

pub returns-clause-frames : goal.returns-clause-frames
returns-clause-frames c =
    let low = c.if-frames-from.false in
    let least = c.from.ensures in
    let high = c.if-frames-from-2.false in
    let most = c.from-else-frames-from.ensures in
    let fits = c.if-words-device_words.false in
    let needs = c.device_words.ensures in
    described_by c.args.words c.args.magic c.args.version c.args.frames c.if-magic-ne-DEVICE_MAGIC.false (sym c.is_version.ensures ∙ c.if-not-is_version.false)
    (record { some = omega arith; no_more = omega arith; fits = omega arith })
