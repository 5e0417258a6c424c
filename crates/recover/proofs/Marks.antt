-- Which logs are refused, by their marks.
use Rattle.std.proofs.Common.{◌≡◌, inl, inr, ℕ, Bool, true, false, not, cond, Option, Some, None, refl, sym, ap, ◌∙◌}
use Rattle.std.proofs.lemmas.Bool.{cond-true, cond-false, cases_Bool}
use Rattle.pud_defs.specs.Formats.Image.{Image}
use Rattle.pud_defs.specs.Logging.Entries.{Log, log_of}
use Rattle.pud_defs.specs.RegistryTables.Spaces.{Owner, owner_of}
use Rattle.pud_defs.specs.RegistryTables.Tables.{Tables, tables_of}
use Rattle.pud_defs.specs.Logging.Allowed.{is_allowed_log, counts_any, is_refused}
use Rattle.pud_defs.specs.Logging.Settled.{client_of_log, log_number_at, is_refused_log}
use Rattle.recover.specs.declared.judge.Mark.TheVariants.{Closed, Replayed, Refused}
use Rattle.recover.specs.Verdicts.{mark_for, verdict_by, verdict_of, mark_of, is_refused_mark}

-- ---- by the definition of a mark

mark_for-other : (t : Tables) (who : Owner) (log : Log) → is_allowed_log t who log ≡ false → mark_for t who log ≡ Refused
mark_for-other t who log other = cond-false _ _ _ other

mark_for-allowed : (t : Tables) (who : Owner) (log : Log) → is_allowed_log t who log ≡ true → mark_for t who log ≡ cond (counts_any log) Replayed Closed
mark_for-allowed t who log allowed = cond-true _ _ _ allowed

not_refused : (b : Bool) → is_refused_mark (cond b Replayed Closed) ≡ false
not_refused true = refl
not_refused false = refl

-- ---- which logs are refused

refused_as_owned : (t : Tables) (o : Option Owner) (log : Log) → is_refused t o log ≡ is_refused_mark (mark_of (verdict_by t o log))
refused_as_owned t None log = refl
refused_as_owned t (Some who) log = elim (cases_Bool (is_allowed_log t who log)) [
  | inl allowed ↦ ap not allowed ∙ sym (ap is_refused_mark (mark_for-allowed t who log allowed) ∙ not_refused (counts_any log))
  | inr other ↦ ap not other ∙ sym (ap is_refused_mark (mark_for-other t who log other))
]

-- the mark tells exactly which logs are refused
pub refused_as_marked : (F : ℕ) (image : Image) (number : ℕ) → is_refused_log F image number ≡ is_refused_mark (mark_of (verdict_of F image number))
unfolding verdict_of
refused_as_marked F image number = refused_as_owned (tables_of F image) (owner_of image (client_of_log number)) (log_of image (log_number_at F number))
