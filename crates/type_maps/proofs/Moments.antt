-- What the write of a record does at every moment.
use Rattle.std.proofs.Common.{◌≡◌, inl, inr, ℕ, ◌+◌, [], Option, Some, None, refl, sym, ap, subst, ◌∙◌, arith}
use Rattle.std.proofs.lemmas.Bool.{cases_eq, eq-eqb, ne_eqb}
use Rattle.std.proofs.lemmas.List.{append-nil}
use Rattle.pm_model.specs.declared.host.HostFault.{HostFault}
use Rattle.pm_model.specs.declared.host.HostFault.TheVariants.{Cut}
use Rattle.pm_model.specs.Moments.{State}
use Rattle.pm_model.specs.Changes.{Changes, Leaves, Silently, Persists, only, written as may_be_written}
use Rattle.pm_model.specs.Words.{HasOnly}
use Rattle.pm_model.proofs.Words.{only_at}
use Rattle.pm_model.proofs.Changes.{Changes-still, Changes-wider, Changes-then, Changes-said, HasOnly-kept, Persists-failed}
use Rattle.pm_model.proofs.Leaves.{Leaves-changes, Leaves-still, Leaves-then}
use Rattle.pud_defs.specs.Formats.Image.{Image, image_with}
use Rattle.pud_defs.specs.RegistryTables.Types.{type_record_at}
use Rattle.type_maps.specs.Define.{record_write, IsDefining, Defines}
use Rattle.type_maps.proofs.OneWord.{image_of_one, image_after_one}

map_is_written : (r id map k v : ℕ) → may_be_written (only (type_record_at r + 1) map) k v → may_be_written (record_write r id map) k v
map_is_written r id map k v one =
    let here = only_at (type_record_at r + 1) map k v one in
    let apart : k ≡ type_record_at r → ⊥ = λ e. absurd (omega arith) in
    rw (ne_eqb k (type_record_at r) apart) one

id_is_written : (r id map k v : ℕ) → may_be_written (only (type_record_at r) id) k v → may_be_written (record_write r id map) k v
id_is_written r id map k v one =
    let here = only_at (type_record_at r) id k v one in
    let test = eq-eqb k (type_record_at r) here in
    rw test (rw test at one)

first_images : (r id map : ℕ) (fault : Option HostFault) (s t : State) → Changes (may_be_written (only (type_record_at r + 1) map)) fault s t
    → Leaves (Silently (IsDefining s.now.words r id map)) s t
first_images r id map fault s t changes =
    Leaves-changes (IsDefining s.now.words r id map) (may_be_written (only (type_record_at r + 1) map)) fault s t
    (λ before image picked from. record {
      before = before;
      picked = picked;
      is = elim (image_of_one (type_record_at r + 1) map before image from) [ inl same ↦ inl same | inr new ↦ inr (inl new) ];
    }) changes

-- A fault came while the map word was written. The id word was not written.
pub Defines-half : (r id map : ℕ) (fault : HostFault) (s t : State) → Persists (only (type_record_at r + 1) map) (Some fault) s t → Defines r id map (Some fault) s t
Defines-half r id map fault s t p =
    record {
      persists = Persists-failed (record_write r id map) fault s t
          (Changes-wider (may_be_written (only (type_record_at r + 1) map)) (may_be_written (record_write r id map)) (Some fault) s t (map_is_written r id map) p.changes);
      moments = first_images r id map (Some fault) s t p.changes;
      done = λ none. absurd (let no : Some fault ≡ None = none in cc);
    }

-- Both words are durable, after they were made durable one after the other.
record_durable : (r id map : ℕ) (s t u : State) → Persists (only (type_record_at r + 1) map) None s t → Persists (only (type_record_at r) id) None t u
    → (k v : ℕ) → record_write r id map k ≡ Some v → HasOnly (u.now.words k) v
record_durable r id map s t u first second k v is = elim (cases_eq k (type_record_at r)) [
  | inl here ↦ let test = eq-eqb k (type_record_at r) here in second.durable refl k v (rw test (rw test at is))
  | inr other ↦
      let map_word : only (type_record_at r + 1) map k ≡ Some v = rw (ne_eqb k (type_record_at r) other) at is in
      HasOnly-kept (may_be_written (only (type_record_at r) id)) None t u k v second.changes (λ x may. other (only_at (type_record_at r) id k x may)) (first.durable refl k v map_word)
]

-- The map word is durable, and then the id word is written.
pub Defines-both : (r id map : ℕ) (fault : Option HostFault) (s t u : State) → Persists (only (type_record_at r + 1) map) None s t → Persists (only (type_record_at r) id) fault t u → Defines r id map fault s u
Defines-both r id map fault s t u first second =
    let P = Silently (IsDefining s.now.words r id map) in
    let said = Changes-said (may_be_written (only (type_record_at r + 1) map)) None s t first.changes in
    let later = Leaves-changes (IsDefining s.now.words r id map) (may_be_written (only (type_record_at r) id)) fault t u
    (λ half image picked from.
    let w = image_after_one (type_record_at r + 1) map s t half first picked in
    record {
      before = w.before;
      picked = w.picked;
      is = elim (image_of_one (type_record_at r) id half image from) [
        | inl same ↦ inr (inl (same ∙ w.is))
        | inr new ↦ inr (inr (new ∙ ap (λ (f : Image). image_with (type_record_at r) id f) w.is))
      ];
    }) second.changes in
    record {
      persists = record {
        changes = Changes-then (may_be_written (record_write r id map)) fault s t u
            (Changes-wider (may_be_written (only (type_record_at r + 1) map)) (may_be_written (record_write r id map)) None s t (map_is_written r id map) first.changes)
            (Changes-wider (may_be_written (only (type_record_at r) id)) (may_be_written (record_write r id map)) fault t u (id_is_written r id map) second.changes);
        durable = λ none. record_durable r id map s t u first (subst (λ (f : Option HostFault). Persists (only (type_record_at r) id) f t u) none second);
      };
      moments = Leaves-then P P P [] s t u (said ∙ sym (append-nil s.now.said)) (λ front image p. p) (λ more image p. p) (first_images r id map None s t first.changes) later;
      done = λ none image picked.
          let w = image_after_one (type_record_at r) id t u image (subst (λ (f : Option HostFault). Persists (only (type_record_at r) id) f t u) none second) picked in
          let half = image_after_one (type_record_at r + 1) map s t w.before first w.picked in
          record { before = half.before; picked = half.picked; is = w.is ∙ ap (λ (f : Image). image_with (type_record_at r) id f) half.is };
    }

-- A fault other than `Cut` came first, and nothing was written.
pub Defines-none : (r id map : ℕ) (fault : HostFault) (s t : State) → (Some fault ≡ Some Cut → ⊥) → t ≡ s → Defines r id map (Some fault) s t
Defines-none r id map fault s t not_cut same =
    record {
      persists = Persists-failed (record_write r id map) fault s t (Changes-still (may_be_written (record_write r id map)) (Some fault) s t not_cut same);
      moments = Leaves-still (Silently (IsDefining s.now.words r id map)) s t (λ image picked. (refl, record { before = image; picked = picked; is = inl refl })) same;
      done = λ none. absurd (let no : Some fault ≡ None = none in cc);
    }
