-- Puddle records counted by the pools that they name, frame by frame.
use Rattle.std.proofs.Common.{◌≡◌, inl, inr, ℕ, ◌+◌, ◌-◌, ◌<◌, ◌≤◌, Bool, true, false, not, cond, eqb, List, All, get_or, replicate, Some, None, is_none, refl, sym, ap, ◌∙◌, arith, ne_eqb}
use Rattle.std.proofs.lemmas.Bool.{cases_eq}
use Rattle.std.proofs.lemmas.List.{get_or-replicate}
use Rattle.pud_defs.specs.declared.records.TheConstants.{POOL_RECORDS}
use Rattle.pud_defs.specs.Formats.Image.{Image}
use Rattle.pud_defs.specs.RegistryTables.Keyed.{count_used}
use Rattle.pud_defs.specs.RegistryTables.Puddles.{member_pool, puddle_record_at}
use Rattle.pud_defs.specs.RegistryTables.Tables.{Tables, tables_of, member_of, members}
use Rattle.pud_defs.proofs.KeyedTables.Keyed.{count_used_step}
use Rattle.pud_defs.proofs.RegistryTables.TablesOf.{puddles_below, puddle_at-free}
use Rattle.puddle_table.specs.Records.{CountsPools, CountsMember}
use Rattle.puddle_table.proofs.Search.{used_record}

-- What is counted before a frame and what is left to count from it on make the whole count.
pub record IsCounted (F : ℕ) (t : Tables) (frame : ℕ) (counts : List ℕ) : Type 0 where
  pub each : (slot : ℕ) → slot < POOL_RECORDS → get_or counts slot 0 + count_used (members t slot) frame (F - frame) ≡ count_used (members t slot) 0 F

-- ---- nothing is counted yet

-- No record is counted for any pool.
abbrev pub none_counted : List ℕ
none_counted = replicate 32 0

none_there : (slot : ℕ) → slot < POOL_RECORDS → get_or none_counted slot 0 ≡ 0
none_there slot known = get_or-replicate 32 slot 0 0 known

pub few_counted : All (λ count. count ≤ 0) none_counted
few_counted = λ k d below. let none = get_or-replicate 32 k 0 d below in omega (arith, none)

pub IsCounted-start : (F : ℕ) (t : Tables) → IsCounted F t 0 none_counted
IsCounted-start F t = record {
  each = λ slot known.
      let none = none_there slot known in
      let whole : F - 0 ≡ F = omega arith in
      let left = ap (count_used (members t slot) 0) whole in
      omega (arith, none, left);
}

-- ---- one more frame

used_or_free : (b : Bool) (old later : ℕ) → cond b (old + 1) old + later ≡ old + cond (not b) later (later + 1)
used_or_free true old later = omega arith
used_or_free false old later = refl

chosen_none : {A : Type 0} (b : Bool) (x : A) → is_none (cond b (Some x) None) ≡ not b
chosen_none true x = refl
chosen_none false x = refl

module _ (F : ℕ) (image : Image) (frame : ℕ) (below : frame < F) where
  -- The record of the frame is the slot's exactly if its member word names the slot.
  named_none : (slot : ℕ) → is_none (members (tables_of F image) slot frame) ≡ not (eqb (member_pool (image (puddle_record_at frame))) (slot + 1))
  named_none slot = elim (cases_eq (image (puddle_record_at frame)) 0) [
    | inl empty ↦
        let apart : member_pool (image (puddle_record_at frame)) ≡ slot + 1 → ⊥ = λ e. let none : member_pool (image (puddle_record_at frame)) ≡ 0 = ap member_pool empty in absurd (omega arith) in
        ap (λ o. is_none (member_of slot frame o)) (puddles_below F image frame below ∙ puddle_at-free image frame empty) ∙ sym (ap not (ne_eqb _ (slot + 1) apart))
    | inr used ↦ ap (λ o. is_none (member_of slot frame o)) (puddles_below F image frame below ∙ used_record image frame used) ∙ chosen_none (eqb (member_pool (image (puddle_record_at frame))) (slot + 1)) _
  ]

  pub IsCounted-more : (member : ℕ) (old new : List ℕ) → member ≡ image (puddle_record_at frame) → CountsMember member old new → IsCounted F (tables_of F image) frame old → IsCounted F (tables_of F image) (frame + 1) new
  IsCounted-more member old new is step h = record {
    each = λ slot known.
        let named = eqb (member_pool (image (puddle_record_at frame))) (slot + 1) in
        let now : get_or new slot 0 ≡ cond named (get_or old slot 0 + 1) (get_or old slot 0) =
        step.each slot known ∙ ap (λ (w : ℕ). cond (eqb (member_pool w) (slot + 1)) (get_or old slot 0 + 1) (get_or old slot 0)) is in
        let later = count_used (members (tables_of F image) slot) (frame + 1) (F - (frame + 1)) in
        let left : count_used (members (tables_of F image) slot) frame (F - frame) ≡ cond (not named) later (later + 1) =
        count_used_step (members (tables_of F image) slot) frame F below ∙ ap (λ b. cond b later (later + 1)) (named_none slot) in
        ap (λ n. n + later) now ∙ used_or_free named (get_or old slot 0) later ∙ sym (ap (λ n. get_or old slot 0 + n) left) ∙ h.each slot known;
  }

-- ---- all are counted

pub CountsPools-end : (F frame : ℕ) (t : Tables) (counts : List ℕ) → F ≤ frame → IsCounted F t frame counts → CountsPools F t counts
unfolding count_used
CountsPools-end F frame t counts past h = record {
  each = λ slot known.
      let none : F - frame ≡ 0 = omega arith in
      let left : count_used (members t slot) frame (F - frame) ≡ 0 = ap (count_used (members t slot) frame) none in
      let all = h.each slot known in
      omega (arith, left, all);
}
