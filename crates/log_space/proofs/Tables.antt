-- The log-space table with one client's record changed.
use Rattle.std.proofs.Common.{◌≡◌, ◌⊎◌, inl, inr, ℕ, ◌+◌, ◌<◌, ◌≤◌, Bool, true, ◌||◌, eqb, Option, sym, ap, ap₂, ◌∙◌, arith, eq-eqb, ne_eqb}
use Rattle.std.proofs.lemmas.Bool.{cond-true, cond-false, cases_eq}
use Rattle.pud_defs.specs.declared.layout.TheConstants.{CLIENTS, SPACE_RECORD_WORDS}
use Rattle.pud_defs.specs.Formats.Image.{Image}
use Rattle.pud_defs.specs.RegistryTables.Spaces.{Owner, space_record_at, owner_by, owner_of, is_space, is_legal_space, has_closed_logs, are_legal_spaces, are_closed_logs, with_owner}
use Rattle.pud_defs.specs.StateMachine.World.{StoredWorld}
use Rattle.pud_defs.proofs.RegistryTables.Spaces.{all_below-each, all_below-from, has_closed_logs-same}
use Rattle.pud_defs.proofs.StateMachine.Parts.{StandsFor, standing_spaces}
use Rattle.pud_defs.proofs.StateMachine.Parts.Part.{Spaces}

-- the second image differs from the first only in the client's record
pub record IsBeside (slot : ℕ) (i j : Image) : Type 0 where
  pub same : (k : ℕ) → (k < space_record_at slot) ⊎ (space_record_at slot + SPACE_RECORD_WORDS ≤ k) → j k ≡ i k

-- A word of another client's record is the same.
other_record : (slot c n : ℕ) (i j : Image) → (c ≡ slot → ⊥) → n < SPACE_RECORD_WORDS → IsBeside slot i j → j (space_record_at c + n) ≡ i (space_record_at c + n)
other_record slot c n i j other within beside =
    beside.same (space_record_at c + n)
    (let apart : (space_record_at c + n < space_record_at slot) ⊎ (space_record_at slot + SPACE_RECORD_WORDS ≤ space_record_at c + n) = elim (leb_either c slot) [
      | inl before ↦ inl (omega arith)
      | inr following ↦ inr (omega arith)
    ] in apart)
  where
    leb_either : (a b : ℕ) → (a ≤ b) ⊎ (b < a)
    leb_either a b = grind arith

module _ (slot : ℕ) (i j : Image) (beside : IsBeside slot i j) where
  used : (c : ℕ) → (c ≡ slot → ⊥) → j (space_record_at c) ≡ i (space_record_at c)
  used c other = let e : space_record_at c + 0 ≡ space_record_at c = omega arith in sym (ap j e) ∙ other_record slot c 0 i j other (omega arith) beside ∙ ap i e

  -- The owners of the other clients are the same.
  pub owner_of-other : (c : ℕ) → (c ≡ slot → ⊥) → owner_of j c ≡ owner_of i c
  owner_of-other c other =
      let first = used c other in
      let uid = other_record slot c 1 i j other (omega arith) beside in
      let gid = other_record slot c 2 i j other (omega arith) beside in
      λ p. owner_by (first p) (uid p) (gid p)

  pub owner_of-changed : (now : Option Owner) → owner_of j slot ≡ now → owner_of j ≡ with_owner slot now (owner_of i)
  owner_of-changed now here =
      let each : (c : ℕ) → owner_of j c ≡ with_owner slot now (owner_of i) c = λ c. elim (cases_eq c slot) [
        | inl same ↦ ap (owner_of j) same ∙ here ∙ sym (cond-true (eqb c slot) now (owner_of i c) (eq-eqb c slot same))
        | inr other ↦ owner_of-other c other ∙ sym (cond-false (eqb c slot) now (owner_of i c) (ne_eqb c slot other))
      ] in
      λ p c. each c p

  -- If the table was legal and the client's record is legal, the table is legal.
  pub are_legal_spaces-changed : is_legal_space j slot ≡ true → are_legal_spaces i ≡ true → are_legal_spaces j ≡ true
  are_legal_spaces-changed here before = all_below-from CLIENTS (is_legal_space j) (λ c below. elim (cases_eq c slot) [
    | inl same ↦ ap (is_legal_space j) same ∙ here
    | inr other ↦
        let first = used c other in
        let uid = other_record slot c 1 i j other (omega arith) beside in
        let gid = other_record slot c 2 i j other (omega arith) beside in
        let still : is_legal_space j c ≡ is_legal_space i c = λ p. is_space (first p) (uid p) (gid p) in
        still ∙ all_below-each CLIENTS (is_legal_space i) before c below
  ])

  -- A client's logs lie after the table, so they are closed exactly if they were.
  pub has_closed_logs-changed : (F c : ℕ) → slot < CLIENTS → c < CLIENTS → has_closed_logs j F c ≡ has_closed_logs i F c
  has_closed_logs-changed F c known below = has_closed_logs-same j i F c below (λ k low high. beside.same k (inr (omega arith)))

  -- Each registered log is closed if each one was and the client's logs are closed, or its record is free.
  pub are_closed_logs-changed : (F : ℕ) → slot < CLIENTS → (eqb (j (space_record_at slot)) 0 || has_closed_logs j F slot) ≡ true → are_closed_logs i F ≡ true → are_closed_logs j F ≡ true
  are_closed_logs-changed F known here before =
      all_below-from CLIENTS (λ c. eqb (j (space_record_at c)) 0 || has_closed_logs j F c) (λ c below. elim (cases_eq c slot) [
        | inl same ↦ ap (λ (c : ℕ). eqb (j (space_record_at c)) 0 || has_closed_logs j F c) same ∙ here
        | inr other ↦
            ap₂ (λ (v : ℕ) (x : Bool). eqb v 0 || x) (used c other) (has_closed_logs-changed F c known below)
            ∙ all_below-each CLIENTS (λ c. eqb (i (space_record_at c)) 0 || has_closed_logs i F c) before c below
      ])

  -- So the image stands for the same world.
  pub standing_changed : (size : ℕ) (s : StoredWorld) → slot < CLIENTS → StandsFor size i s → is_legal_space j slot ≡ true
      → (eqb (j (space_record_at slot)) 0 || has_closed_logs j s.frames slot) ≡ true → StandsFor size j s
  standing_changed size s known h legal closed =
      standing_spaces size i j s h
      (λ k low. beside.same k (inl (omega arith)))
      (λ k high below. beside.same k (inr (omega arith)))
      (are_legal_spaces-changed legal (h.holds Spaces).spaces)
      (are_closed_logs-changed s.frames known closed (h.holds Spaces).logs)
