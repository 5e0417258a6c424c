use Rattle.std.proofs.Common.{◌≡◌, ◌∙◌, ap, length, arith}
use Rattle.uuid.specs.Text.{lower, hyphenated_text}
use Rattle.uuid.proofs.TextLemmas.{by_index_length}
use Rattle.uid_make.proofs.Digits.{hyphenated_is}
use Rattle.uid_make.proofs.print_uuid.Goals as goal

pub copy_from_slice-requires : goal.copy_from_slice-requires
copy_from_slice-requires c =
    let written : length c.as_bytes.result.now ≡ 36 = ap length (c.as_bytes.ensures.value ∙ c.encode_lower-text.ensures.text) ∙ by_index_length 36 _ in
    omega arith

pub returns : goal.returns
returns c =
    c.copy_from_slice.ensures.after ∙ c.as_bytes.ensures.value ∙ c.encode_lower-text.ensures.text
    ∙ ap (hyphenated_text lower) (c.hyphenated.ensures ∙ c.from_u128.ensures) ∙ hyphenated_is c.args.u
