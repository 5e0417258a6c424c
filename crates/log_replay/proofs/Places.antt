-- The address map of a target: no address names a word from which the map itself is read.
use Rattle.std.proofs.Common.{◌≡◌, inl, inr, ℕ, ◌<◌, ◌≤◌, Option, Some, None, option_map, refl, sym, ap, ◌∙◌, arith}
use Rattle.std.proofs.lemmas.Bool.{cases_lt}
use Rattle.pud_defs.specs.declared.layout.TheConstants.{PUDDLE_TABLE}
use Rattle.pud_defs.specs.Formats.Image.{Image}
use Rattle.pud_defs.specs.Formats.Layout.{tables_end, frames_at, IsWithin}
use Rattle.pud_defs.specs.RegistryTables.Tables.{tables_of}
use Rattle.pud_defs.specs.RegistryTables.Places.{first_some, place_in_puddle, located}
use Rattle.pud_defs.specs.Logging.Replay.{AddressMap}
use Rattle.pud_defs.specs.Logging.Allowed.{puddle_word}
use Rattle.pud_defs.proofs.RegistryTables.TablesOf.{puddles_below, puddles_beyond, puddle_at-same}
use Rattle.log_replay.specs.declared.Target.{Target}
use Rattle.log_replay.specs.declared.Target.TheVariants as targets
use Rattle.log_replay.specs.Placing.{word_at}
use Rattle.log_replay.specs.Replaying.{address_map_of, IsPlacing}

pub address_map_of-located : (F : ℕ) (image : Image) (address : ℕ) → puddle_word (tables_of F image) address ≡ option_map (word_at F) (located (tables_of F image) address)
unfolding puddle_word tables_of
address_map_of-located F image address = refl

-- ---- images that agree on the words from which the address map is read

puddles_same : (F : ℕ) (i j : Image) → ((k : ℕ) → IsWithin PUDDLE_TABLE (tables_end F) k → j k ≡ i k) → (frame : ℕ) → (tables_of F j).puddles frame ≡ (tables_of F i).puddles frame
puddles_same F i j same frame = elim (cases_lt frame F) [
  | inl below ↦
      puddles_below F j frame below
      ∙ puddle_at-same j i frame (λ k low high. same k (record { low = omega arith; high = omega arith }))
      ∙ sym (puddles_below F i frame below)
  | inr beyond ↦ puddles_beyond F j frame beyond ∙ sym (puddles_beyond F i frame beyond)
]

puddle_word-same : (F : ℕ) (i j : Image) → ((frame : ℕ) → (tables_of F j).puddles frame ≡ (tables_of F i).puddles frame) → puddle_word (tables_of F j) ≡ puddle_word (tables_of F i)
unfolding puddle_word tables_of
puddle_word-same F i j same = λ p address. option_map (word_at F) (first_some (λ frame. place_in_puddle address frame (same frame p)) 0 F)

-- They have the same address map.
pub places_same : (to : Target) (i j : Image) → ((k : ℕ) → IsPlacing to k → j k ≡ i k) → address_map_of to j ≡ address_map_of to i
places_same targets.Words i j same = refl
places_same (targets.Puddles F) i j same = puddle_word-same F i j (puddles_same F i j same)

-- ---- addresses name words above those

mapped_above : (F w : ℕ) (o : Option (ℕ × ℕ)) → option_map (word_at F) o ≡ Some w → frames_at F ≤ w
mapped_above F w None is = absurd (cc)
mapped_above F w (Some at) is = let here : word_at F at ≡ w = cc in omega arith

pub place_above : (to : Target) (image : Image) (place : AddressMap) → address_map_of to image ≡ place → (k : ℕ) → IsPlacing to k → (address w : ℕ) → place address ≡ Some w → k < w
place_above targets.Words image place same k placing address w there = absurd placing
place_above (targets.Puddles F) image place same k placing address w there =
    let low = mapped_above F w (located (tables_of F image) address) (sym (address_map_of-located F image address) ∙ ap (λ (f : AddressMap). f address) same ∙ there) in
    let high = placing.high in
    omega arith
