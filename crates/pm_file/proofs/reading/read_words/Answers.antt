use Rattle.std.proofs.Common.{◌≡◌, ◌*◌, ◌/◌, length, drop, refl, arith}
use Rattle.std.proofs.lemmas.List.{length-append, length-drop, length-take-le}
use Rattle.pm_file.proofs.Spelled.{HasRead-none, HasRead-more, ReadsWords-ended}
use Rattle.pm_file.proofs.reading.read_words.Goals as goal

pub loop-first-init : goal.loop-first-init
loop-first-init g c = record { within = omega arith; upto = omega arith; piece = refl; read = HasRead-none _ _ }

pub loop-first-preserved : goal.loop-first-preserved
loop-first-preserved g c =
    let piece = c.in_ok-read_piece.ensures in
    let bytes = c.min-more.result * 8 in
    let len = length-take-le bytes c.loop-first.piece (omega arith) in
    let more : c.min-more.result ≡ length c.read_piece.new.piece / 8 = omega (arith, c.read_piece.auto.piece, len) in
    record {
      within = omega (arith, piece.len, more);
      upto = omega arith;
      piece = omega (arith, c.read_piece.auto.piece, len, length-append c.read_piece.new.piece (drop bytes c.loop-first.piece), length-drop bytes c.loop-first.piece);
      read =
          rw more
          (HasRead-more _ _ _ _ _ _ _ _ _ c.loop-first.invariant.read piece.bytes
          (omega (arith, c.read_piece.auto.piece, len)) (omega (arith, c.read_piece.auto.piece, len, c.if-branch-bytes.false)) piece.words);
    }

pub returns-then-branch-bytes-clause-words : goal.returns-then-branch-bytes-clause-words
returns-then-branch-bytes-clause-words g c =
    let piece = c.in_ok-read_piece.ensures in
    let len = length-take-le (c.min-more.result * 8) c.loop-first.piece (omega arith) in
    ReadsWords-ended _ _ _ _ _ _ _ _ _ _ c.loop-first.invariant.read piece.bytes
    (omega (arith, c.read_piece.auto.piece, len)) (omega (arith, c.read_piece.auto.piece, len, c.if-branch-bytes.true)) piece.words (omega (arith, piece.len, c.read_piece.new.words.ok.0))
