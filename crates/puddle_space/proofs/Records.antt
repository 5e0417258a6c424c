-- The record of a frame, by its words.
use Rattle.std.proofs.Common.{◌≡◌, ℕ, ◌+◌, Some, ne_eqb}
use Rattle.std.proofs.lemmas.Bool.{cond-false}
use Rattle.pud_defs.specs.declared.records.TheConstants.{PUDDLE_NUMBER_WORD, PUDDLE_BASE_WORD, PUDDLE_OLD_BASE_WORD, PUDDLE_FRONTIER_WORD}
use Rattle.pud_defs.specs.Formats.Image.{Image}
use Rattle.pud_defs.specs.RegistryTables.Puddles.{Member, member_pool, member_ordinal, frontier_part, class_part, puddle_record_at, puddle_at, puddle_by}

-- What the record of a frame states, if the record is used.
abbrev pub member_at : Image → ℕ → Member
member_at image frame = record {
  pool = member_pool (image (puddle_record_at frame));
  ordinal = member_ordinal (image (puddle_record_at frame));
  puddle = record {
    number = image (puddle_record_at frame + PUDDLE_NUMBER_WORD);
    base = image (puddle_record_at frame + PUDDLE_BASE_WORD);
    old_base = image (puddle_record_at frame + PUDDLE_OLD_BASE_WORD);
    frontier = frontier_part (image (puddle_record_at frame + PUDDLE_FRONTIER_WORD));
    class = class_part (image (puddle_record_at frame + PUDDLE_FRONTIER_WORD));
  };
}

pub used_record : (image : Image) (frame : ℕ) → (image (puddle_record_at frame) ≡ 0 → ⊥) → puddle_at image frame ≡ Some (member_at image frame)
unfolding puddle_at puddle_by
used_record image frame used = cond-false _ _ _ (ne_eqb (image (puddle_record_at frame)) 0 used)
