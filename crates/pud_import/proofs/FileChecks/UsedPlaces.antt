-- Whether an object of a type lives in some slot, place by place.
use Rattle.std.proofs.Common.{◌≡◌, ℕ, ◌<◌, ◌≤◌, Bool, true, false, not, length, sym, ap, ◌∙◌, arith}
use Rattle.std.specs.List.{list_any, range_with_len}
use Rattle.std.proofs.lemmas.List.FromFn.{length-map-range_with_len}
use Rattle.pud_defs.specs.declared.space.TheConstants.{MAX_SLOTS}
use Rattle.pud_defs.specs.Formats.Geometry.{place_at, places_among}
use Rattle.pud_defs.specs.Formats.Image.{Image}
use Rattle.pud_defs.specs.RegistryTables.Spaces.{all_below}
use Rattle.pud_defs.specs.PoolGraphs.Stored.{Stored, places_of}
use Rattle.pud_defs.specs.PoolGraphs.ExportFile.{file_puddle, file_stored}
use Rattle.pud_defs.proofs.RegistryTables.Spaces.{all_below-from, all_below-each, any-range}
use Rattle.graph_laws.specs.Slots.{is_of_type}
use Rattle.pud_import.specs.Contents.{is_used_in}
use Rattle.pud_import.proofs.FileChecks.ByPuddles.{all_places-fails}

-- how many puddles a file has, and how many places
pub puddles-file : (words : Image) (V T K : ℕ) → length (file_stored words V T K).puddles ≡ K
puddles-file words V T K = length-map-range_with_len (file_puddle words V T K) 0 K

pub places-file : (words : Image) (V T K : ℕ) → places_among K ≡ places_of (file_stored words V T K)
places-file words V T K = ap (λ n. places_among n) (sym (puddles-file words V T K))

module _ (st : Stored) (id : ℕ) where
  -- no object of the type lives at the place
  abbrev pub is_other : ℕ → Bool
  is_other p = not (is_of_type st id p)

  pub used_by-scanned : (o : ℕ) → list_any (λ s. is_of_type st id (place_at o s)) (range_with_len 0 MAX_SLOTS) ≡ not (all_below MAX_SLOTS (λ s. is_other (place_at o s)))
  used_by-scanned o = any-range (λ s. is_of_type st id (place_at o s)) MAX_SLOTS

  module _ (n o : ℕ) (many : n ≡ length st.puddles) where
    pub is_used-there : o < n → all_below MAX_SLOTS (λ s. is_other (place_at o s)) ≡ false → true ≡ is_used_in st id
    is_used-there below fails = sym (any-range (is_of_type st id) (places_of st) ∙ ap not (all_places-fails is_other o (length st.puddles) (omega arith) fails))

    pub is_used-none : n ≤ o → all_below (places_among o) is_other ≡ true → false ≡ is_used_in st id
    is_used-none past none =
        sym (any-range (is_of_type st id) (places_of st) ∙ ap not (all_below-from (places_of st) is_other (λ q below. all_below-each (places_among o) is_other none q (omega arith))))
