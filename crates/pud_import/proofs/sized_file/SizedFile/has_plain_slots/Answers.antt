use Rattle.std.proofs.Common.{ℕ, ◌≡◌, sym, ap, ◌∙◌, arith}
use Rattle.pud_defs.specs.Formats.Geometry.{places_among}
use Rattle.pud_defs.specs.PoolGraphs.ExportFile.{is_plain_place}
use Rattle.pud_defs.specs.RegistryTables.Spaces.{all_below}
use Rattle.pud_defs.proofs.RegistryTables.Spaces.{all_below-none}
use Rattle.pud_import.specs.Sized.{types_in, stored_of}
use Rattle.pud_import.proofs.FileChecks.ByPuddles.{all_places-more, all_places-fails}
use Rattle.pud_import.proofs.sized_file.SizedFile.has_plain_slots.Goals as goal

pub loop-ordinal-init : goal.loop-ordinal-init
loop-ordinal-init c = all_below-none _

pub returns-then-not-is_plain_puddle : goal.returns-then-not-is_plain_puddle
returns-then-not-is_plain_puddle c =
    let f = c.args.self.now in
    sym (all_places-fails (is_plain_place (types_in f) (stored_of f)) c.loop-ordinal.ordinal f.puddles c.loop-ordinal-test.true (sym c.is_plain_puddle.ensures ∙ c.if-not-is_plain_puddle.true))

pub loop-ordinal-preserved : goal.loop-ordinal-preserved
loop-ordinal-preserved c =
    let f = c.args.self.now in
    all_places-more (is_plain_place (types_in f) (stored_of f)) c.loop-ordinal.ordinal c.loop-ordinal.invariant (sym c.is_plain_puddle.ensures ∙ c.if-not-is_plain_puddle.false)

pub returns : goal.returns
returns c =
    let f = c.args.self.now in
    let all : c.loop-ordinal.ordinal ≡ f.puddles = omega arith in
    sym (ap (λ (n : ℕ). all_below (places_among n) (is_plain_place (types_in f) (stored_of f))) (sym all) ∙ c.loop-ordinal.invariant)
