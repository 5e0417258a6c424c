-- The places of all puddles, put from the last frame to the first. A frame that is put later replaces one put before.
use Rattle.std.proofs.Common.{◌≡◌, inl, inr, ℕ, ◌+◌, ◌-◌, ◌*◌, ◌<◌, ◌≤◌, Bool, true, false, cond, eqb, List, replicate, Option, Some, None, IfSome, nat_cmp, is_none, option_map, refl, sym, ap, ap₂, ◌∙◌, subst, arith, eq-eqb, ne_eqb}
use Rattle.std.specs.Option.{option_or}
use Rattle.std.specs.FinMap.Entries.{find}
use Rattle.std.proofs.lemmas.Bool.{cases_eq}
use Rattle.std.proofs.lemmas.Cmp.{nat_cmp_total}
use Rattle.std.proofs.lemmas.List.{get_or-replicate}
use Rattle.std.proofs.lemmas.Option.{none-some, same_Some}
use Rattle.pud_defs.specs.declared.records.TheConstants.{POOL_RECORDS, MAX_PUDDLES}
use Rattle.pud_defs.specs.declared.records.Puddle.{Puddle}
use Rattle.pud_defs.specs.Formats.Image.{Image}
use Rattle.pud_defs.specs.RegistryTables.Keyed.{count_used, first_from}
use Rattle.pud_defs.specs.RegistryTables.Puddles.{puddle_record_at, puddle_read}
use Rattle.pud_defs.specs.RegistryTables.Tables.{tables_of, members, puddles_of, puddle_in}
use Rattle.pud_defs.proofs.KeyedTables.Keyed.{chosen_some, find-keyed, first_from_step, first_from_end, first_from_some, count_used_step}
use Rattle.pud_defs.proofs.RegistryTables.TablesOf.{puddles_below, puddle_at-free, frames_of_tables}
use Rattle.puddle_table.specs.Records.{is_member, puddle_words_at}
use Rattle.puddle_table.specs.Placed.{Placed, frame_of_puddle, AreFramesBelow, PutsMember, HoldsPlaces}
use Rattle.puddle_table.proofs.Search.{used_record, under_table}

-- ---- no frame is put yet

-- No puddle has a place.
abbrev pub none_put : List (Option ℕ)
none_put = replicate 512 None

pub none_put-below : (count : ℕ) → AreFramesBelow count none_put
none_put-below count = λ k d below. subst (λ (o : Option ℕ). IfSome o (λ frame. frame < count)) (sym (get_or-replicate 512 k None d below)) tt

-- The places are those of the puddles in the frames from `from` on, and only these frames are counted.
pub record HoldsFrom (F : ℕ) (image : Image) (from : ℕ) (p : Placed) : Type 0 where
  pub used : p.used ≡ count_used (tables_of F image).puddles from (F - from)
  pub each : (slot ordinal : ℕ) → slot < POOL_RECORDS → ordinal < MAX_PUDDLES → frame_of_puddle p.frames slot ordinal ≡ option_map (λ e. e.0) (first_from nat_cmp ordinal (members (tables_of F image) slot) from (F - from))

pub HoldsFrom-start : (F : ℕ) (image : Image) → HoldsFrom F image F (record { count = F; used = 0; frames = none_put })
unfolding count_used
HoldsFrom-start F image = record {
  used = let none : F - F ≡ 0 = omega arith in sym (ap (count_used (tables_of F image).puddles F) none);
  each = λ slot ordinal known few.
      get_or-replicate 512 (16 * slot + ordinal) None None (omega arith)
      ∙ sym (ap (option_map (λ (e : ℕ × Puddle). e.0)) (first_from_end nat_cmp ordinal (members (tables_of F image) slot) F F (omega arith)));
}

-- ---- one more frame

put_over : (b : Bool) (e : ℕ × Puddle) (later : Option (ℕ × Puddle)) → cond b (Some e.0) (option_map (λ (d : ℕ × Puddle). d.0) later) ≡ option_map (λ (d : ℕ × Puddle). d.0) (option_or (cond b (Some e) None) later)
put_over true e later = refl
put_over false e later = refl

at_most_one : (b : Bool) (n : ℕ) → cond b n (n + 1) ≤ n + 1
at_most_one true n = omega arith
at_most_one false n = omega arith

-- No more frames are used than were passed.
pub few_used : (F next member : ℕ) (old new : Placed) → 0 < next → PutsMember (next - 1) member old new → old.used + next ≤ F → new.used + (next - 1) ≤ F
few_used F next member old new some step few =
    let used = step.used in
    let most = at_most_one (eqb member 0) old.used in
    omega (arith, used, most)

module _ (F : ℕ) (image : Image) where
  none_or_used : (frame : ℕ) → frame < F → is_none ((tables_of F image).puddles frame) ≡ eqb (image (puddle_record_at frame)) 0
  none_or_used frame below = elim (cases_eq (image (puddle_record_at frame)) 0) [
    | inl empty ↦ ap is_none (puddles_below F image frame below ∙ puddle_at-free image frame empty) ∙ sym (eq-eqb (image (puddle_record_at frame)) 0 empty)
    | inr used ↦ ap is_none (puddles_below F image frame below ∙ used_record image frame used) ∙ sym (ne_eqb (image (puddle_record_at frame)) 0 used)
  ]

  HoldsFrom-more : (frame member : ℕ) (old new : Placed) → frame < F → member ≡ image (puddle_record_at frame) → PutsMember frame member old new → HoldsFrom F image (frame + 1) old → HoldsFrom F image frame new
  HoldsFrom-more frame member old new below is step h = record {
    used =
        step.used
        ∙ ap₂ (λ (b : Bool) (n : ℕ). cond b n (n + 1)) (ap (λ (w : ℕ). eqb w 0) is ∙ sym (none_or_used frame below)) h.used
        ∙ sym (count_used_step (tables_of F image).puddles frame F below);
    each = λ slot ordinal known few.
        let later = first_from nat_cmp ordinal (members (tables_of F image) slot) (frame + 1) (F - (frame + 1)) in
        step.puts.each slot ordinal known few
        ∙ ap₂ (λ (w : ℕ) (o : Option ℕ). cond (is_member w slot ordinal) (Some frame) o) is (h.each slot ordinal known few)
        ∙ put_over (is_member (image (puddle_record_at frame)) slot ordinal) (frame, puddle_words_at image frame) later
        ∙ sym (ap (option_map (λ (e : ℕ × Puddle). e.0))
        (first_from_step nat_cmp ordinal (members (tables_of F image) slot) frame F below ∙ ap (λ (o : Option (ℕ × Puddle)). option_or o later) (under_table F image slot ordinal frame below)));
  }

  -- The same, stated by the frame that follows.
  pub HoldsFrom-next : (next member : ℕ) (old new : Placed) → 0 < next → next ≤ F → member ≡ image (puddle_record_at (next - 1)) → PutsMember (next - 1) member old new → HoldsFrom F image next old → HoldsFrom F image (next - 1) new
  HoldsFrom-next next member old new some within is step h =
      let following : next ≡ next - 1 + 1 = omega arith in
      HoldsFrom-more (next - 1) member old new (omega arith) is step (subst (λ (n : ℕ). HoldsFrom F image n old) following h)

  -- ---- all are put

  found_first : (slot ordinal : ℕ) → find nat_cmp ordinal (puddles_of (tables_of F image) slot) ≡ first_from nat_cmp ordinal (members (tables_of F image) slot) 0 F
  unfolding puddles_of
  found_first slot ordinal =
      find-keyed nat_cmp nat_cmp_total ordinal (members (tables_of F image) slot) 0 (tables_of F image).frames
      ∙ ap (first_from nat_cmp ordinal (members (tables_of F image) slot) 0) (frames_of_tables F image)

  pub HoldsPlaces-end : (p : Placed) → HoldsFrom F image 0 p → HoldsPlaces (tables_of F image) p
  HoldsPlaces-end p h =
      let whole : F - 0 ≡ F = omega arith in
      record {
        used = h.used ∙ ap (count_used (tables_of F image).puddles 0) (whole ∙ sym (frames_of_tables F image));
        each = λ slot ordinal known few.
            h.each slot ordinal known few
            ∙ ap (option_map (λ (e : ℕ × Puddle). e.0)) (ap (first_from nat_cmp ordinal (members (tables_of F image) slot) 0) whole ∙ sym (found_first slot ordinal));
      }

  -- ---- a puddle by its place

  -- What was found in a frame is what its record states.
  found_there : (slot ordinal frame : ℕ) (o : Option (ℕ × Puddle)) → first_from nat_cmp ordinal (members (tables_of F image) slot) 0 F ≡ o → option_map (λ (e : ℕ × Puddle). e.0) o ≡ Some frame → o ≡ Some (frame, puddle_words_at image frame)
  found_there slot ordinal frame None found is = absurd (none-some frame is)
  found_there slot ordinal frame (Some x) found is =
      let first = first_from_some nat_cmp ordinal (members (tables_of F image) slot) 0 F x found in
      let high = first.1.high in
      let here : (first.0, puddle_words_at image first.0) ≡ x = chosen_some _ _ x (sym (under_table F image slot ordinal first.0 (omega arith)) ∙ first.1.here) in
      let place : first.0 ≡ frame = ap (λ (e : ℕ × Puddle). e.0) here ∙ same_Some x.0 frame is in
      ap Some (sym here ∙ ap (λ (i : ℕ). (i, puddle_words_at image i)) place)

  pub puddle_found : (p : Placed) (slot ordinal frame : ℕ) → HoldsPlaces (tables_of F image) p → slot < POOL_RECORDS → ordinal < MAX_PUDDLES → frame_of_puddle p.frames slot ordinal ≡ Some frame
      → find nat_cmp ordinal (puddles_of (tables_of F image) slot) ≡ Some (frame, puddle_words_at image frame)
  puddle_found p slot ordinal frame h known few is =
      found_there slot ordinal frame (find nat_cmp ordinal (puddles_of (tables_of F image) slot)) (sym (found_first slot ordinal)) (sym (h.each slot ordinal known few) ∙ is)

  pub puddle_placed : (p : Placed) (slot ordinal frame : ℕ) → HoldsPlaces (tables_of F image) p → slot < POOL_RECORDS → ordinal < MAX_PUDDLES → frame_of_puddle p.frames slot ordinal ≡ Some frame
      → Some (frame, puddle_read slot ordinal (puddle_words_at image frame)) ≡ puddle_in (tables_of F image) slot ordinal
  puddle_placed p slot ordinal frame h known few is =
      sym (ap (option_map (λ (e : ℕ × Puddle). (e.0, puddle_read slot ordinal e.1))) (puddle_found p slot ordinal frame h known few is))
