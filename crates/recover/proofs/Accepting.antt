-- What a verdict states about a log.
use Rattle.std.proofs.Common.{◌≡◌, inl, inr, ℕ, ◌<◌, ◌≤◌, true, false, List, Option, Some, None, refl, sym, subst, ◌∙◌, arith}
use Rattle.std.proofs.lemmas.Bool.{cases_Bool, cond-true, cond-false}
use Rattle.std.proofs.lemmas.Option.{none-some}
use Rattle.pud_defs.specs.Formats.Image.{Image}
use Rattle.pud_defs.specs.Formats.Layout.{device_words}
use Rattle.pud_defs.specs.Logging.Entries.{Entry, Log, log_of}
use Rattle.pud_defs.specs.RegistryTables.Spaces.{Owner, owner_of}
use Rattle.pud_defs.specs.RegistryTables.Tables.{Tables, tables_of}
use Rattle.pud_defs.specs.Logging.Allowed.{puddle_word, is_allowed_log, is_accepted, counts_any}
use Rattle.pud_defs.specs.Logging.Settled.{ALL_LOGS, client_of_log, log_number_at, given_by_log, is_accepted_log}
use Rattle.pud_defs.proofs.RegistryTables.TablesOf.{frames_of_tables}
use Rattle.pud_defs.proofs.Logging.Accepted.{gives_to-none_counts, gives_to-not_accepted, NamesFrame, accepted_entries}
use Rattle.log_entry.specs.Copying.{Copied}
use Rattle.log_replay.specs.declared.Target.TheVariants.{Puddles}
use Rattle.log_replay.specs.Replaying.{NamesApart, address_map_of, IsReplayable, IsPlacedCopy}
use Rattle.recover.specs.declared.judge.Mark.{Mark}
use Rattle.recover.specs.declared.judge.Mark.TheVariants.{Closed, Replayed, Refused}
use Rattle.recover.specs.Verdicts.{mark_for, verdict_by, verdict_of}

same_mark : {x y : Mark} → Some x ≡ Some y → x ≡ y
same_mark same = cc

-- ---- by the verdict

module _ (t : Tables) (log : Log) where
  accepted_replayed : (who : Option Owner) → verdict_by t who log ≡ Some Replayed → is_accepted t who log ≡ true
  accepted_replayed None is = absurd (none-some Replayed is)
  accepted_replayed (Some who) is = elim (cases_Bool (is_allowed_log t who log)) [
    | inl allowed ↦ allowed
    | inr refused ↦ absurd (let it : Refused ≡ Replayed = sym (cond-false (is_allowed_log t who log) _ Refused refused) ∙ same_mark is in cc)
  ]

  accepted_closed : (who : Option Owner) → verdict_by t who log ≡ Some Closed → (is_accepted t who log ≡ true) × (counts_any log ≡ false)
  accepted_closed None is = absurd (none-some Closed is)
  accepted_closed (Some who) is = elim (cases_Bool (is_allowed_log t who log)) [
    | inr refused ↦ absurd (let it : Refused ≡ Closed = sym (cond-false (is_allowed_log t who log) _ Refused refused) ∙ same_mark is in cc)
    | inl allowed ↦ (
      allowed,
      elim (cases_Bool (counts_any log)) [
        | inr none ↦ none
        | inl some ↦ absurd (let it : Replayed ≡ Closed = sym (cond-true (is_allowed_log t who log) _ Refused allowed ∙ cond-true (counts_any log) Replayed Closed some) ∙ same_mark is in cc)
      ],
    )
  ]

  not_accepted_none : (who : Option Owner) → verdict_by t who log ≡ None → is_accepted t who log ≡ false
  not_accepted_none None is = refl
  not_accepted_none (Some who) is = absurd (none-some (mark_for t who log) (sym is))

  not_accepted_refused : (who : Option Owner) → verdict_by t who log ≡ Some Refused → is_accepted t who log ≡ false
  not_accepted_refused None is = refl
  not_accepted_refused (Some who) is = elim (cases_Bool (is_allowed_log t who log)) [
    | inr refused ↦ refused
    | inl allowed ↦ elim (cases_Bool (counts_any log)) [
      | inl some ↦ absurd (let it : Replayed ≡ Refused = sym (cond-true (is_allowed_log t who log) _ Refused allowed ∙ cond-true (counts_any log) Replayed Closed some) ∙ same_mark is in cc)
      | inr none ↦ absurd (let it : Closed ≡ Refused = sym (cond-true (is_allowed_log t who log) _ Refused allowed ∙ cond-false (counts_any log) Replayed Closed none) ∙ same_mark is in cc)
    ]
  ]

module _ (F number : ℕ) (image : Image) where
  abbrev the_log : Log
  the_log = log_of image (log_number_at F number)

  abbrev its_owner : Option Owner
  its_owner = owner_of image (client_of_log number)

  pub of_replayed : verdict_of F image number ≡ Some Replayed → is_accepted_log F image number ≡ true
  unfolding verdict_of
  of_replayed is = accepted_replayed (tables_of F image) the_log its_owner is

  pub of_closed : verdict_of F image number ≡ Some Closed → (is_accepted_log F image number ≡ true) × (counts_any the_log ≡ false)
  unfolding verdict_of
  of_closed is = accepted_closed (tables_of F image) the_log its_owner is

  pub of_none : verdict_of F image number ≡ None → is_accepted_log F image number ≡ false
  unfolding verdict_of
  of_none is = not_accepted_none (tables_of F image) the_log its_owner is

  pub of_refused : verdict_of F image number ≡ Some Refused → is_accepted_log F image number ≡ false
  unfolding verdict_of
  of_refused is = not_accepted_refused (tables_of F image) the_log its_owner is

  -- a log with the verdict Closed gives no word a value
  pub closed_gives_nothing : verdict_of F image number ≡ Some Closed → (w : ℕ) → given_by_log F image number w ≡ None
  closed_gives_nothing is w = gives_to-none_counts (tables_of F image) its_owner the_log w (of_closed is).1

  pub not_accepted_gives_nothing : is_accepted_log F image number ≡ false → (w : ℕ) → given_by_log F image number w ≡ None
  not_accepted_gives_nothing other w = gives_to-not_accepted (tables_of F image) its_owner the_log w other

-- ---- an accepted log may be replayed

-- these entries are those of the log, and the log may be replayed
pub record MayReplay (F number size : ℕ) (image : Image) : Type 0 where
  pub es : List Entry
  pub replayable : IsReplayable (puddle_word (tables_of F image)) size (log_number_at F number) es image

apart_in_frame : (F number size : ℕ) (image : Image) (e : Entry) → number < ALL_LOGS → device_words F ≤ size → NamesFrame (tables_of F image) e → NamesApart (puddle_word (tables_of F image)) size (log_number_at F number) e
apart_in_frame F number size image e known room names =
    let frames = frames_of_tables F image in
    let frame = names.frame in
    let within = names.within in
    record { first = _; placed = names.placed; within = omega arith; apart = inr (omega arith) }

pub may_be_replayed : (F number size : ℕ) (image : Image) → number < ALL_LOGS → device_words F ≤ size → is_accepted_log F image number ≡ true → MayReplay F number size image
may_be_replayed F number size image known room accepted =
    let a = accepted_entries (tables_of F image) (owner_of image (client_of_log number)) (log_of image (log_number_at F number)) accepted in
    record {
      es = a.es;
      replayable = record {
        spells = a.are;
        apart = λ k d below counts. apart_in_frame F number size image _ known room (a.each k d below counts);
      };
    }

-- What holds of a log that may be replayed from its copy, as a device reads it and by the word of its gate, holds of an
-- accepted log by its log number.
pub replayed_by_number : (F number size : ℕ) (read image : Image) (copy : Copied) → read ≡ image → number < ALL_LOGS → device_words F ≤ size → is_accepted_log F image number ≡ true
    → IsPlacedCopy (Puddles F) (log_number_at F number) image copy → (P : ℕ → Type 0) (at : ℕ) → at ≡ log_number_at F number
    → ((es : List Entry) → IsReplayable (address_map_of (Puddles F) read) size at es read → IsPlacedCopy (Puddles F) at read copy → P at) → P (log_number_at F number)
replayed_by_number F number size read image copy is known room accepted placed P at there holds =
    let may = may_be_replayed F number size image known room accepted in
    let here = subst (λ (k : ℕ). (es : List Entry) → IsReplayable (address_map_of (Puddles F) read) size k es read → IsPlacedCopy (Puddles F) k read copy → P k) there holds in
    here may.es
    (subst (λ (i : Image). IsReplayable (address_map_of (Puddles F) i) size (log_number_at F number) may.es i) (sym is) may.replayable)
    (subst (λ (i : Image). IsPlacedCopy (Puddles F) (log_number_at F number) i copy) (sym is) placed)
