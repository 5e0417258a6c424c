-- Why a file is not placed, by the parts that are looked at in turn.
use Rattle.std.proofs.Common.{◌≡◌, ℕ, ◌+◌, Bool, true, false, ◌||◌, cond, List, length, Option, Some, None, is_none, refl, sym, ap, ap₂, ◌∙◌}
use Rattle.std.specs.Prelude.{nat_lt}
use Rattle.std.specs.Option.{option_or}
use Rattle.std.proofs.lemmas.Bool.{cond-true}
use Rattle.std.proofs.lemmas.Option.{none-some}
use Rattle.pud_defs.specs.declared.layout.TheConstants.{NEXT_NUMBER_WORD, NUMBER_LIMIT}
use Rattle.pud_defs.specs.declared.records.TheConstants.{POOL_RECORDS}
use Rattle.pud_defs.specs.Formats.Image.{Image}
use Rattle.pud_defs.specs.RegistryTables.Keyed.{first_free, count_used}
use Rattle.pud_defs.specs.PoolGraphs.ExportFile.{FileContents}
use Rattle.pud_defs.specs.StateMachine.Imports.{numbers_drawn}
use Rattle.pud_defs.specs.StateMachine.Step.{clashes_with}
use Rattle.pud_defs.specs.RegistryTables.Tables.{Tables, tables_of}
use Rattle.pud_defs.specs.RegistryTables.Types.{types_of, used_types}
use Rattle.pud_defs.proofs.RegistryTables.TablesOf.{frames_of_tables}
use Rattle.pud_import.specs.declared.placing.PlaceFault.{PlaceFault}
use Rattle.pud_import.specs.declared.placing.PlaceFault.TheVariants as faults
use Rattle.pud_import.specs.Placing.{lacks_records, types_refusal, frames_refusal, refusal_by}

-- a refusal, if the test is true
abbrev pub refused_if : Bool → PlaceFault → Option PlaceFault
refused_if b fault = cond b (Some fault) None

all_refusals : (clash slot records number frames : Bool)
    → option_or (cond clash (Some faults.Clash) (refused_if records faults.Full)) (option_or (refused_if slot faults.Full) (option_or (refused_if number faults.Full) (refused_if frames faults.NoSpace)))
    ≡ cond clash (Some faults.Clash) (cond (slot || records || number) (Some faults.Full) (refused_if frames faults.NoSpace))
all_refusals true slot records number frames = refl
all_refusals false true true number frames = refl
all_refusals false true false number frames = refl
all_refusals false false true number frames = refl
all_refusals false false false true frames = refl
all_refusals false false false false true = refl
all_refusals false false false false false = refl

module _ (F : ℕ) (image : Image) (file : FileContents) where
  abbrev t : Tables
  t = tables_of F image

  abbrev slot_refusal : Option PlaceFault
  slot_refusal = refused_if (is_none (first_free t.pools 0 POOL_RECORDS)) faults.Full

  abbrev number_refusal : ℕ → Option PlaceFault
  number_refusal n = refused_if (nat_lt NUMBER_LIMIT (image NEXT_NUMBER_WORD + numbers_drawn n)) faults.Full

  abbrev space_refusal : ℕ → Option PlaceFault
  space_refusal n = refused_if (nat_lt F (count_used t.puddles 0 F + n)) faults.NoSpace

  refusal_in_turn : option_or (types_refusal image file.types) (option_or slot_refusal (option_or (number_refusal (length file.classes)) (space_refusal (length file.classes)))) ≡ refusal_by F image file
  refusal_in_turn =
      ap (λ (n : ℕ). option_or (types_refusal image file.types) (option_or slot_refusal (option_or (number_refusal (length file.classes)) (refused_if (nat_lt n (count_used t.puddles 0 n + length file.classes)) faults.NoSpace)))) (sym (frames_of_tables F image))
      ∙ all_refusals (clashes_with (types_of image) file.types) (is_none (first_free t.pools 0 POOL_RECORDS)) (lacks_records (types_of image) (used_types image) file.types)
      (nat_lt NUMBER_LIMIT (image NEXT_NUMBER_WORD + numbers_drawn (length file.classes))) (nat_lt t.frames (count_used t.puddles 0 t.frames + length file.classes))

  -- the first reason that is found is the reason, for a list of types and a count that are those of the file
  module _ {types : List (ℕ × ℕ)} {count : ℕ} (own : (types ≡ file.types) × (count ≡ length file.classes)) where
    own_in_turn : option_or (types_refusal image types) (option_or slot_refusal (option_or (number_refusal count) (space_refusal count))) ≡ refusal_by F image file
    own_in_turn = ap₂ (λ (ts : List (ℕ × ℕ)) (n : ℕ). option_or (types_refusal image ts) (option_or slot_refusal (option_or (number_refusal n) (space_refusal n)))) own.0 own.1 ∙ refusal_in_turn

    pub refused_by_types : (fault : PlaceFault) → Some fault ≡ types_refusal image types → Some fault ≡ refusal_by F image file
    refused_by_types fault is = ap (λ o. option_or o (option_or slot_refusal (option_or (number_refusal count) (space_refusal count)))) is ∙ own_in_turn

    module _ (typed : None ≡ types_refusal image types) where
      after_types : option_or slot_refusal (option_or (number_refusal count) (space_refusal count)) ≡ refusal_by F image file
      after_types = ap (λ o. option_or o (option_or slot_refusal (option_or (number_refusal count) (space_refusal count)))) typed ∙ own_in_turn

      pub refused_by_slot : (fault : PlaceFault) → Some fault ≡ slot_refusal → Some fault ≡ refusal_by F image file
      refused_by_slot fault is = ap (λ o. option_or o (option_or (number_refusal count) (space_refusal count))) is ∙ after_types

      module _ (slotted : None ≡ slot_refusal) {drawn : ℕ} (same : drawn ≡ count) where
        after_slot : option_or (number_refusal drawn) (space_refusal count) ≡ refusal_by F image file
        after_slot = ap (λ (n : ℕ). option_or (number_refusal n) (space_refusal count)) same ∙ ap (λ o. option_or o (option_or (number_refusal count) (space_refusal count))) slotted ∙ after_types

        pub refused_by_number : (fault : PlaceFault) → Some fault ≡ number_refusal drawn → Some fault ≡ refusal_by F image file
        refused_by_number fault is = ap (λ o. option_or o (space_refusal count)) is ∙ after_slot

        pub refused_by_space : (o : Option PlaceFault) → None ≡ number_refusal drawn → o ≡ space_refusal count → o ≡ refusal_by F image file
        refused_by_space o numbered is = is ∙ ap (λ o. option_or o (space_refusal count)) numbered ∙ after_slot

-- a refusal for one reason is the refusal for all of them, if that reason decides
pub refused_with : (one all : Bool) (as_one fault : PlaceFault) → Some fault ≡ refused_if one as_one → (one ≡ true → all ≡ true) → Some fault ≡ refused_if all as_one
refused_with true all as_one fault is decides = is ∙ sym (cond-true all (Some as_one) None (decides refl))
refused_with false all as_one fault is decides = absurd (none-some fault (sym is))

-- if nothing is refused, the test is false
pub not_refused : (b : Bool) (fault : PlaceFault) → None ≡ refused_if b fault → b ≡ false
not_refused true fault none = absurd (none-some fault none)
not_refused false fault none = refl

-- no frame is found if none is left
pub refused_for_space : (o : Option ℕ) (fault : PlaceFault) (lacks : Bool) → Some fault ≡ frames_refusal o → (o ≡ None → lacks ≡ true) → Some fault ≡ refused_if lacks faults.NoSpace
refused_for_space None fault lacks is decides = is ∙ sym (cond-true lacks (Some faults.NoSpace) None (decides refl))
refused_for_space (Some frame) fault lacks is decides = absurd (none-some fault (sym is))

-- types that clash, types that find too few records, and types that are placed
pub refused_by_clash : (clash lacks : Bool) (fault : PlaceFault) → Some fault ≡ refused_if clash faults.Clash → Some fault ≡ cond clash (Some faults.Clash) (refused_if lacks faults.Full)
refused_by_clash true lacks fault is = is
refused_by_clash false lacks fault is = absurd (none-some fault (sym is))

pub refused_for_records : (clash lacks : Bool) → clash ≡ false → lacks ≡ true → Some faults.Full ≡ cond clash (Some faults.Clash) (refused_if lacks faults.Full)
refused_for_records clash lacks none full = sym (ap₂ (λ (a b : Bool). cond a (Some faults.Clash) (refused_if b faults.Full)) none full)

pub types_not_refused : (clash lacks : Bool) → clash ≡ false → lacks ≡ false → None ≡ cond clash (Some faults.Clash) (refused_if lacks faults.Full)
types_not_refused clash lacks none enough = sym (ap₂ (λ (a b : Bool). cond a (Some faults.Clash) (refused_if b faults.Full)) none enough)
