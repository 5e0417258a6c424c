-- The map word starts with the number of fields, and each field of the list adds its bit.
use Rattle.std.proofs.Common.{◌≡◌, ◌<◌, ◌*◌, ◌^◌, ◌%◌, ◌∷◌, Some, false, codes, bytes_eq, sym, ap, ◌∙◌, arith}
use Rattle.std.proofs.lemmas.Nat.{one_shl}
use Rattle.pud_defs.specs.StateMachine.Grammar.{number_within}
use Rattle.pud_defs.proofs.StateMachine.Commands.{number_within-bounds}
use Rattle.script.specs.Pieces.{pieces_of}
use Rattle.script.proofs.FieldLists.{map_after, field_taken, pointers_listed, bit_fits}
use Rattle.script.proofs.fields.read_map.Goals as goal

pub loop-rest-init : goal.loop-rest-init
loop-rest-init c =
    let shifted : c.from-map.result * 2 ^ 32 % 2 ^ 64 ≡ c.args.fields * 2 ^ 32 = omega arith in
    let listed : bytes_eq c.args.list.now (codes "-") ≡ false = cc in
    record {
      same = rw shifted (pointers_listed c.args.fields c.args.list.now listed);
      ascending = omega arith;
      fits = omega arith;
    }

pub loop-rest-preserved : goal.loop-rest-preserved
loop-rest-preserved c =
    let within : number_within c.loop-rest.least c.args.fields c.cut.result.0.now ≡ Some c.in_ok-field.field = sym c.read_within.ensures ∙ c.in_ok-field.was in
    let bounds = number_within-bounds c.loop-rest.least c.args.fields c.cut.result.0.now c.in_ok-field.field within in
    let small : c.in_ok-field.field < 64 = omega (arith, bounds.0, bounds.1) in
    let bit = one_shl c.in_ok-field.field 64 small in
    let here : pieces_of 44 c.loop-rest.rest ≡ c.cut.result.0.now ∷ pieces_of 44 c.cut.result.1 = ap (pieces_of 44) c.in-Some.is ∙ c.cut.ensures.pieces in
    record {
      same = rw bit (
          field_taken c.args.fields c.loop-rest.least c.loop-rest.map c.in_ok-field.field c.cut.result.0.now (pieces_of 44 c.cut.result.1) within
          ∙ ap (map_after c.args.fields c.loop-rest.least c.loop-rest.map) (sym here) ∙ c.loop-rest.invariant.same);
      ascending = omega (arith, bounds.0, bounds.1);
      fits = rw bit (bit_fits c.args.fields c.loop-rest.least c.loop-rest.map c.in_ok-field.field c.loop-rest.invariant.fits bounds.0);
    }
