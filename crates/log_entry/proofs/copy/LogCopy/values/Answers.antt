use Rattle.std.proofs.Common.{◌≡◌, ◌+◌, ◌-◌, length, sym, ap, ◌∙◌, arith}
use borrow.Rule.Slice.PartMut.{mid_of}
use Rattle.pud_defs.specs.Logging.Entries.{words_from}
use Rattle.log_entry.specs.Copying.{Copied, image_of_copy}
use Rattle.log_entry.proofs.Copies.{copied_words}
use Rattle.log_entry.proofs.copy.LogCopy.values.Goals as goal

pub returns : goal.returns
returns c =
    let entry = c.args.entry.now in
    let copied : Copied = record { gate = c.self.inside.gate; words = c.self.inside.words } in
    let following = c.requires.after_header in
    let within = c.requires.within in
    let count : entry.at - 8 + entry.n - (entry.at - 8) ≡ entry.n = omega arith in
    let row : length copied.words ≡ length c.args.self.now.words = ap (λ (x : Copied). length x.words) c.self.view_is in
    ap (λ (n : _). mid_of (entry.at - 8) n copied.words) count
    ∙ sym (copied_words copied entry.at entry.n (omega arith) (omega (arith, row)))
    ∙ ap (λ (x : Copied). words_from (image_of_copy x) entry.at entry.n) c.self.view_is
