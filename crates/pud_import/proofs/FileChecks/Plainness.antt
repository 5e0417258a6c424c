-- A file is plain if the words of its headers and slots that are not read are 0.
use Rattle.std.proofs.Common.{◌≡◌, ℕ, Bool, ◌&&◌, List, sym, ap, ap₂, ◌∙◌}
use Rattle.pud_defs.specs.declared.space.TheConstants.{FRAME_HEADER_WORDS}
use Rattle.pud_defs.specs.Formats.Geometry.{places_among}
use Rattle.pud_defs.specs.Formats.Image.{Image}
use Rattle.pud_defs.specs.RegistryTables.Spaces.{all_below}
use Rattle.pud_defs.specs.PoolGraphs.ExportFile.{file_stored, is_zero, header_words_read, is_plain_place, is_plain}
use Rattle.pud_import.proofs.FileChecks.UsedPlaces.{puddles-file, places-file}

pub is_plain-joined : (types : List (ℕ × ℕ)) (words : Image) (V T K : ℕ) (headers slots : Bool)
    → headers ≡ all_below K (λ o. is_zero ((file_stored words V T K).word o) (header_words_read o) FRAME_HEADER_WORDS)
    → slots ≡ all_below (places_among K) (is_plain_place types (file_stored words V T K))
    → (headers && slots) ≡ is_plain types (file_stored words V T K)
unfolding is_plain
is_plain-joined types words V T K headers slots first then =
    let st = file_stored words V T K in
    let header = λ (o : ℕ). is_zero (st.word o) (header_words_read o) FRAME_HEADER_WORDS in
    ap₂ (λ (a b : Bool). a && b)
    (first ∙ ap (λ n. all_below n header) (sym (puddles-file words V T K)))
    (then ∙ ap (λ n. all_below n (is_plain_place types st)) (places-file words V T K))
