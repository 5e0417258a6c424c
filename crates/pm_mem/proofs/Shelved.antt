-- Lemmas on a file that is put into a map.
use Rattle.std.proofs.Common.{◌≡◌, ℕ, Bool, cond, List, Some, option_map, sym, ap, ◌∙◌}
use Rattle.std.specs.Prelude.{String, Vec, string_bytes}
use Rattle.std.specs.BTreeMap.{BTreeMap, UpdatesBy, get_by_text}
use Rattle.std.specs.Str.{bytes_eq}
use Rattle.std.specs.String.{string_cmp}
use Rattle.std.specs.Ordering.{nat_cmp}
use Rattle.std.specs.Cmp.Lexicographic.{slice_cmp}
use Rattle.std.specs.declared.alloc.Global.{Global}
use Rattle.std.proofs.lemmas.Map.Text.{btree_map_updates_text}
use Rattle.std.proofs.lemmas.Slice.Eq.{bytes_eq-Decides}
use Rattle.std.proofs.lemmas.Bool.Decides.{same_from_decides, Decides-like}
use Rattle.pm_model.specs.Calls.{shelved}
use Rattle.pm_mem.specs.Shelves.{shelf_of}
use Rattle.pm_mem.proofs.Followed.{at_choice}

bytes_eq-swap : (xs ys : List ℕ) → bytes_eq xs ys ≡ bytes_eq ys xs
bytes_eq-swap xs ys = same_from_decides (bytes_eq xs ys) (bytes_eq ys xs) (bytes_eq-Decides xs ys) (Decides-like (bytes_eq ys xs) (λ (e : ys ≡ xs). sym e) (λ (e : xs ≡ ys). sym e) (bytes_eq-Decides ys xs))

-- Under every name the new map has the file that the new shelf has.
put-each : (old new : BTreeMap (String Global) (Vec ℕ Global)) (name : List ℕ) (file : Vec ℕ Global)
    → UpdatesBy string_cmp (λ k. slice_cmp nat_cmp name (string_bytes k)) old new (Some file) → (other : List ℕ) → shelf_of new other ≡ shelved name (Some file.items) (shelf_of old) other
put-each old new name file updates other =
    ap (option_map (λ (f : Vec ℕ Global). f.items)) (btree_map_updates_text name old new (Some file) updates other)
    ∙ at_choice (option_map (λ (f : Vec ℕ Global). f.items)) (bytes_eq name other) (Some file) (get_by_text old other)
    ∙ ap (λ (b : Bool). cond b (Some file.items) (shelf_of old other)) (bytes_eq-swap name other)

pub shelf_of-put : (old new : BTreeMap (String Global) (Vec ℕ Global)) (name : List ℕ) (file : Vec ℕ Global)
    → UpdatesBy string_cmp (λ k. slice_cmp nat_cmp name (string_bytes k)) old new (Some file) → shelf_of new ≡ shelved name (Some file.items) (shelf_of old)
shelf_of-put old new name file updates = λ i other. (put-each old new name file updates other) i
