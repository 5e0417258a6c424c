use Rattle.std.proofs.Common.{length, ap, arith, length-append}
use Rattle.std.proofs.lemmas.Str.{encode_ascii}
use Rattle.pud_defs.proofs.Output.StartText.{digits_of_log}
use Rattle.puddled.proofs.starting.add_refused.Goals as goal

pub push_str-requires-2 : goal.push_str-requires-2
push_str-requires-2 c =
    let digits = digits_of_log c.args.number c.requires.known in
    (omega arith, omega (arith, digits.0, ap length c.format.ensures.text))

pub push-requires : goal.push-requires
push-requires c =
    let digits = digits_of_log c.args.number c.requires.known in
    let space = ap length (encode_ascii 32 (omega arith)) in
    (omega arith, omega (arith, digits.0, ap length c.format.ensures.text))

pub push_str-requires-3 : goal.push_str-requires-3
push_str-requires-3 c =
    let digits = digits_of_log c.args.number c.requires.known in
    let space = ap length (encode_ascii 32 (omega arith)) in
    let following = simp length-append at (ap length c.push.ensures.bytes) in
    (omega arith, omega (arith, digits.0, digits.1, ap length c.format.ensures.text, ap length c.format-2.ensures.text))

pub push-requires-2 : goal.push-requires-2
push-requires-2 c =
    let digits = digits_of_log c.args.number c.requires.known in
    let space = ap length (encode_ascii 32 (omega arith)) in
    let newline = ap length (encode_ascii 10 (omega arith)) in
    let following = simp length-append at (ap length c.push.ensures.bytes) in
    (omega arith, omega (arith, digits.0, digits.1, ap length c.format.ensures.text, ap length c.format-2.ensures.text))

pub returns-clause-within : goal.returns-clause-within
returns-clause-within c =
    let digits = digits_of_log c.args.number c.requires.known in
    let space = ap length (encode_ascii 32 (omega arith)) in
    let newline = ap length (encode_ascii 10 (omega arith)) in
    let following = simp length-append at (ap length c.push.ensures.bytes) in
    let end = simp length-append at (ap length c.push-2.ensures.bytes) in
    omega (arith, digits.0, digits.1, ap length c.format.ensures.text, ap length c.format-2.ensures.text)
