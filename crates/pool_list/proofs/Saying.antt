-- What is printed for records, one after another, and for the list as it was read.
use Rattle.std.proofs.Common.{◌≡◌, ℕ, ◌+◌, ◌<◌, List, [], ◌∷◌, ◌++◌, length, get_or, take, drop, Option, Some, None, All, codes, sym, ap, ap₂, ◌∙◌, subst, append-nil, take-append-drop}
use Rattle.std.specs.List.{flat_map}
use Rattle.std.proofs.lemmas.Grind.{flat_map-append, take_at_read}
use Rattle.std.proofs.lemmas.List.Elements.{recursion_from_All}
use Rattle.pm_model.specs.declared.host.HostFault.{HostFault}
use Rattle.pm_model.specs.Moments.{State}
use Rattle.pm_model.specs.Calls.{Says}
use Rattle.pm_model.proofs.Saying.{Says-then, Says-front}
use Rattle.pud_defs.specs.declared.layout.TheConstants.{MACHINE_WORD}
use Rattle.pud_defs.specs.declared.records.PoolRecord.{PoolRecord}
use Rattle.pud_defs.specs.Formats.Image.{Image}
use Rattle.pud_defs.specs.RegistryTables.Tables.{tables_of}
use Rattle.pud_defs.specs.Output.Texts.{line_of}
use Rattle.pud_defs.proofs.KeyedTables.KeyedEach.{flat_map-each, each-weaker}
use Rattle.pool_table.specs.InOrder.{in_order, IsInSlot}
use Rattle.puddle_table.specs.Records.{CountsPools}
use Rattle.pool_list.specs.Listed.{record_text, records_text, puddles_counted, listed_text}

module _ {X : Type 0} (text : X → List ℕ) (xs : List X) (i : ℕ) (d : X) (below : i < length xs) where
  flat_map_more : flat_map text (take (i + 1) xs) ≡ flat_map text (take i xs) ++ text (get_or xs i d)
  flat_map_more =
      ap (flat_map text) (take_at_read xs i d below).1
      ∙ flat_map-append text (take i xs) (get_or xs i d ∷ [])
      ∙ ap (λ last. flat_map text (take i xs) ++ last) (append-nil (text (get_or xs i d)))

  -- One more text is printed.
  pub Says-more : (fault : Option HostFault) (a b c : State) → Says (flat_map text (take i xs)) None a b → Says (text (get_or xs i d)) fault b c → Says (flat_map text (take (i + 1) xs)) fault a c
  Says-more fault a b c so_far more = subst (λ bytes. Says bytes fault a c) (sym flat_map_more) (Says-then (flat_map text (take i xs)) (text (get_or xs i d)) fault a b c so_far more)

  -- The fault comes while one of the texts is printed.
  pub Says-until : (fault : HostFault) (a b c : State) → Says (flat_map text (take i xs)) None a b → Says (text (get_or xs i d)) (Some fault) b c → Says (flat_map text xs) (Some fault) a c
  Says-until fault a b c so_far last =
      let whole : flat_map text xs ≡ flat_map text (take (i + 1) xs) ++ flat_map text (drop (i + 1) xs) =
      ap (flat_map text) (sym (take-append-drop (i + 1) xs)) ∙ flat_map-append text (take (i + 1) xs) (drop (i + 1) xs) in
      subst (λ bytes. Says bytes (Some fault) a c) (sym whole) (Says-front _ _ fault a c (Says-more (Some fault) a b c so_far last))

-- ---- the line

-- The fault comes before the first record is printed.
pub Says-unlisted : (records : List ℕ) (fault : HostFault) (a b : State) → Says (codes "ok") (Some fault) a b → Says (line_of (codes "ok" ++ records)) (Some fault) a b
Says-unlisted records fault a b ok = Says-front (codes "ok") (records ++ 10 ∷ []) fault a b ok

-- The fault comes while the records are printed.
pub Says-unended : (records : List ℕ) (fault : HostFault) (a b c : State) → Says (codes "ok") None a b → Says records (Some fault) b c → Says (line_of (codes "ok" ++ records)) (Some fault) a c
Says-unended records fault a b c ok listed = Says-front (codes "ok" ++ records) (10 ∷ []) fault a c (Says-then (codes "ok") records (Some fault) a b c ok listed)

pub Says-line : (records : List ℕ) (fault : Option HostFault) (a b c d : State) → Says (codes "ok") None a b → Says records None b c → Says (10 ∷ []) fault c d → Says (line_of (codes "ok" ++ records)) fault a d
Says-line records fault a b c d ok listed end = Says-then (codes "ok" ++ records) (10 ∷ []) fault a c d (Says-then (codes "ok") records None a b c ok listed) end

-- ---- the list, as it was read

pub records_text-read : (F : ℕ) (image : Image) (id : ℕ) (records : List (ℕ × PoolRecord)) (counts : List ℕ) → id ≡ image MACHINE_WORD → records ≡ in_order (tables_of F image) → All IsInSlot records → CountsPools F (tables_of F image) counts
    → records_text id (λ slot. get_or counts slot 0) records ≡ listed_text (image MACHINE_WORD) (tables_of F image)
unfolding listed_text tables_of
records_text-read F image id records counts machine listed within counted =
    flat_map-each _ _ records (each-weaker IsInSlot _ records (λ e below. ap (record_text id e.1) (counted.each e.0 below)) (recursion_from_All IsInSlot records within))
    ∙ ap₂ (λ n es. records_text n (puddles_counted (tables_of F image)) es) machine listed
