-- An image that is left while transactions are open, and the masked one: a start leaves the same of both, and refuses
-- no log of either.
use Rattle.std.proofs.Common.{◌≡◌, ◌≢◌, ◌⊎◌, inl, inr, ℕ, zero, suc, ◌+◌, ◌*◌, ◌<◌, true, false, not, Option, Some, None, refl, sym, ap, ◌∙◌, arith}
use Rattle.std.specs.Prelude.{unwrap_or, nat_le, nat_lt}
use Rattle.std.proofs.lemmas.Bool.{cases_Bool, cases_eq, cases_lt, cond-false, and_from, le-leb, lt-ltb}
use Rattle.std.proofs.lemmas.Option.{none-some, same_Some}
use Rattle.pud_defs.specs.declared.layout.TheConstants.{CLIENTS, LOG_WORDS}
use Rattle.pud_defs.specs.Formats.Image.{Image}
use Rattle.pud_defs.specs.Formats.Layout.{tables_end, frames_at}
use Rattle.pud_defs.specs.Logging.Entries.{log_of}
use Rattle.pud_defs.specs.Logging.Replay.{new_value, replayed, IsInLog, is_in_log}
use Rattle.pud_defs.specs.RegistryTables.Spaces.{owner_of, are_closed_logs}
use Rattle.pud_defs.specs.RegistryTables.Tables.{tables_of}
use Rattle.pud_defs.specs.Logging.Allowed.{puddle_word, is_allowed_log, is_refused, is_accepted}
use Rattle.pud_defs.specs.Logging.Settled.{gives_to, ALL_LOGS, client_of_log, log_number_at, given_by_log, is_refused_log, is_in_logs, given_in_turn, settled_over}
use Rattle.pud_defs.proofs.Logging.Replay.{outside_log, within_log}
use Rattle.pud_defs.proofs.RegistryTables.Spaces.{log_of-within, owner_of-same}
use Rattle.pud_defs.proofs.RegistryTables.TablesOf.{tables_of-same}
use Rattle.pud_defs.proofs.Logging.Settled.{given_in_turn-none, given_in_turn-one, settled_over-own}
use Rattle.pud_defs.proofs.Logging.Accepted.{gives_to-accepted}
use Rattle.pud_defs.proofs.Logging.Idle.{given_by_log-closed}
use Rattle.hybrid_tx.specs.PoolScopes.{pool_has_word, finished_of}
use Rattle.hybrid_tx.specs.Open.Masks.{OpenPool}
use Rattle.hybrid_tx.specs.Open.ManyOpen.{OpenTransaction, Opens, AreOpenPools}
use Rattle.hybrid_tx.proofs.Open.OpenMasks.{mine_after}

-- ---- an image and the masked one

-- the word is in no open transaction's log, and in none of its frames
pub record IsOfNone (F : ℕ) (opens : Opens) (k : ℕ) : Type 0 where
  pub log : (n : ℕ) (o : OpenTransaction) → opens n ≡ Some o → is_in_log (log_number_at F n) k ≡ false
  pub frames : (n : ℕ) (o : OpenTransaction) → opens n ≡ Some o → pool_has_word F (finished_of o.pool.puddles) k ≡ false

-- The second image is the first except for words of the transactions. In it the words of their frames are as at the
-- beginning of each.
pub record AreLikeMasked (F : ℕ) (opens : Opens) (d m : Image) : Type 0 where
  pub own : (n : ℕ) (o : OpenTransaction) → opens n ≡ Some o → (k : ℕ) → pool_has_word F (finished_of o.pool.puddles) k ≡ true → m k ≡ o.before k
  pub others : (k : ℕ) → IsOfNone F opens k → m k ≡ d k

-- no word of one's frames is one of another's frames
pub record AreApart (F : ℕ) (opens : Opens) : Type 0 where
  pub each : (n m : ℕ) (o q : OpenTransaction) → opens n ≡ Some o → opens m ≡ Some q → n ≢ m → (k : ℕ) → pool_has_word F (finished_of o.pool.puddles) k ≡ true → pool_has_word F (finished_of q.pool.puddles) k ≡ false

-- In this image the transaction's log is allowed. It gives values only to own words, which then are as they were at
-- the beginning.
pub record GivesOwn (F : ℕ) (p : OpenPool) (before d : Image) : Type 0 where
  pub owned : owner_of d (client_of_log p.log_number) ≡ Some p.who
  pub allowed : is_allowed_log (tables_of F d) p.who (log_of d (log_number_at F p.log_number)) ≡ true
  pub own : (k v : ℕ) → new_value (puddle_word (tables_of F d)) (log_of d (log_number_at F p.log_number)) k ≡ Some v → pool_has_word F (finished_of p.puddles) k ≡ true
  pub settled : (k : ℕ) → pool_has_word F (finished_of p.puddles) k ≡ true → replayed (puddle_word (tables_of F d)) (log_of d (log_number_at F p.log_number)) d k ≡ before k

log_place : (F number : ℕ) → log_number_at F number ≡ tables_end F + LOG_WORDS * number
log_place F number = omega arith

-- a word of another log is none of this log
pub other_log_apart : (F number other k : ℕ) → (other ≡ number → ⊥) → IsInLog (log_number_at F other) k → is_in_log (log_number_at F number) k ≡ false
other_log_apart F number other k apart inside =
    let low = inside.low in
    let high = inside.high in
    let here = log_place F number in
    let there = log_place F other in
    elim (cases_lt other number) [
      | inl less ↦ outside_log (log_number_at F number) k (inl (omega arith))
      | inr more ↦ elim (cases_eq other number) [
        | inl same ↦ absurd (apart same)
        | inr differs ↦ outside_log (log_number_at F number) k (inr (omega arith))
      ]
    ]

-- a word of a log with which no transaction is open belongs to none of them
pub of_no_log : (F : ℕ) (opens : Opens) (number k : ℕ) → number < ALL_LOGS → opens number ≡ None → IsInLog (log_number_at F number) k → IsOfNone F opens k
of_no_log F opens number k few free inside =
    let high = inside.high in
    record {
      log = λ n o there. other_log_apart F n number k (λ same. none-some o (sym free ∙ ap opens same ∙ there)) inside;
      frames = λ n o there. mine_after F (finished_of o.pool.puddles) k (omega arith);
    }

-- a word outside the clients' logs is outside the log of each client
beside_log_of : (F number w : ℕ) → number < ALL_LOGS → is_in_logs F w ≡ false → is_in_log (log_number_at F number) w ≡ false
beside_log_of F number w known outside = elim (cases_Bool (is_in_log (log_number_at F number) w)) [
  | inr beside ↦ beside
  | inl inside ↦ absurd (
      let is = within_log (log_number_at F number) w inside in
      let low = is.low in
      let high = is.high in
      let within : is_in_logs F w ≡ true = and_from (nat_le (tables_end F) w) (nat_lt w (frames_at F)) (le-leb (tables_end F) w (omega arith)) (lt-ltb w (frames_at F) (omega arith)) in
      let it : true ≡ false = sym within ∙ outside in cc)
]

-- ---- whose frames have a word

record IsMineOf (F : ℕ) (opens : Opens) (w : ℕ) : Type 0 where
  number : ℕ
  transaction : OpenTransaction
  there : opens number ≡ Some transaction
  has_word : pool_has_word F (finished_of transaction.pool.puddles) w ≡ true

module _ (F : ℕ) (opens : Opens) (w : ℕ) where
  abbrev IsNotOf : ℕ → Type 0
  IsNotOf n = (o : OpenTransaction) → opens n ≡ Some o → pool_has_word F (finished_of o.pool.puddles) w ≡ false

  mine_under : (n : ℕ) (o : Option OpenTransaction) → opens n ≡ o → IsMineOf F opens w ⊎ IsNotOf n
  mine_under n None e = inr (λ q is. absurd (none-some q (sym e ∙ is)))
  mine_under n (Some o) e = elim (cases_Bool (pool_has_word F (finished_of o.pool.puddles) w)) [
    | inl mine ↦ inl (record { number = n; transaction = o; there = e; has_word = mine })
    | inr other ↦ inr (λ q is. ap (λ (t : OpenTransaction). pool_has_word F (finished_of t.pool.puddles) w) (same_Some q o (sym is ∙ e)) ∙ other)
  ]

  mine_below : (count : ℕ) → IsMineOf F opens w ⊎ ((n : ℕ) → n < count → IsNotOf n)
  mine_below zero = inr (λ n below. absurd (omega arith))
  mine_below (suc count) = elim (mine_below count) [
    | inl mine ↦ inl mine
    | inr none ↦ elim (mine_under count (opens count) refl) [
      | inl mine ↦ inl mine
      | inr not_last ↦ inr (λ n below o is. elim (cases_eq n count) [
        | inl last ↦ not_last o (ap opens (sym last) ∙ is)
        | inr before ↦ none n (omega arith) o is
      ])
    ]
  ]

-- ---- what logs give

pub nothing_given : (o : Option ℕ) → ((v : ℕ) → o ≡ Some v → ⊥) → o ≡ None
nothing_given None never = refl
nothing_given (Some v) never = absurd (never v refl)

module _ (F : ℕ) (opens : Opens) (d m : Image) (are : AreOpenPools F opens) (like : AreLikeMasked F opens d m) where
  known : (n : ℕ) (o : OpenTransaction) → opens n ≡ Some o → n < ALL_LOGS
  known n o there = omega (arith, are.number n o there, (are.pool n o there).known)

  pub same_below : (k : ℕ) → k < tables_end F → d k ≡ m k
  same_below k below = sym (like.others k (record {
    log = λ n o there. outside_log (log_number_at F n) k (inl (omega arith));
    frames = λ n o there. mine_after F (finished_of o.pool.puddles) k (omega arith);
  }))

  pub same_tables : tables_of F d ≡ tables_of F m
  same_tables = tables_of-same F d m (λ k low high. same_below k (omega arith)) (λ k low high. same_below k high)

  same_owner : (client : ℕ) → client < CLIENTS → owner_of d client ≡ owner_of m client
  same_owner client few = owner_of-same d m client few (λ k low high. same_below k (omega arith))

  -- a log with which no transaction is open is the same in both images
  module _ (other : ℕ) (few : other < ALL_LOGS) (none : opens other ≡ None) where
    other_log : log_of d (log_number_at F other) ≡ log_of m (log_number_at F other)
    other_log = log_of-within d m (log_number_at F other) (λ k inside. sym (like.others k (of_no_log F opens other k few none inside)))

    other_gives : (w : ℕ) → given_by_log F d other w ≡ given_by_log F m other w
    other_gives w = λ q. gives_to (same_tables q) (same_owner (client_of_log other) (omega arith) q) (other_log q) w

    other_refused : is_refused_log F d other ≡ is_refused_log F m other
    other_refused = λ q. is_refused (same_tables q) (same_owner (client_of_log other) (omega arith) q) (other_log q)

  module _ (gives : (n : ℕ) (o : OpenTransaction) → opens n ≡ Some o → GivesOwn F o.pool o.before d) where
    own_gives : (n : ℕ) (o : OpenTransaction) → opens n ≡ Some o → (w : ℕ) → given_by_log F d n w ≡ new_value (puddle_word (tables_of F d)) (log_of d (log_number_at F o.pool.log_number)) w
    own_gives n o there w =
        let g = gives n o there in
        ap (λ (x : ℕ). given_by_log F d x w) (sym (are.number n o there))
        ∙ gives_to-accepted (tables_of F d) (owner_of d (client_of_log o.pool.log_number)) (log_of d (log_number_at F o.pool.log_number)) w
        (ap (λ x. is_accepted (tables_of F d) x (log_of d (log_number_at F o.pool.log_number))) g.owned ∙ g.allowed)

    -- a log gives nothing to a word outside the frames of its transaction
    gives_none : are_closed_logs m F ≡ true → (w n : ℕ) → n < ALL_LOGS → IsNotOf F opens w n → (o : Option OpenTransaction) → opens n ≡ o → given_by_log F d n w ≡ None
    gives_none closed w n few others None e = other_gives n few e w ∙ given_by_log-closed F m n w closed few
    gives_none closed w n few others (Some o) e =
        own_gives n o e w
        ∙ nothing_given (new_value (puddle_word (tables_of F d)) (log_of d (log_number_at F o.pool.log_number)) w)
        (λ v is. let it : true ≡ false = sym ((gives n o e).own w v is) ∙ others o e in cc)

    module _ (apart : AreApart F opens) (closed : are_closed_logs m F ≡ true) where
      gives_alike : (w : ℕ) → is_in_logs F w ≡ false → IsMineOf F opens w ⊎ ((n : ℕ) → n < ALL_LOGS → IsNotOf F opens w n)
          → unwrap_or (given_in_turn (given_by_log F d) 0 ALL_LOGS w) (d w) ≡ m w
      gives_alike w outside (inl of) =
          let few = known of.number of.transaction of.there in
          ap (λ (o : Option ℕ). unwrap_or o (d w))
          (given_in_turn-one (given_by_log F d) 0 ALL_LOGS of.number w (omega arith) (omega arith)
          (λ n low high differs. gives_none closed w n (omega arith) (λ q is. apart.each of.number n of.transaction q of.there is (λ same. differs (sym same)) w of.has_word) (opens n) refl)
          ∙ own_gives of.number of.transaction of.there w)
          ∙ (gives of.number of.transaction of.there).settled w of.has_word
          ∙ sym (like.own of.number of.transaction of.there w of.has_word)
      gives_alike w outside (inr none) =
          ap (λ (o : Option ℕ). unwrap_or o (d w)) (given_in_turn-none (given_by_log F d) 0 ALL_LOGS w (λ n low high. gives_none closed w n (omega arith) (none n (omega arith)) (opens n) refl))
          ∙ sym (like.others w (record {
            log = λ n o there. beside_log_of F n w (known n o there) outside;
            frames = λ n o there. none n (known n o there) o there;
          }))

      -- if each registered log is closed in the masked image, a start leaves the same of both outside the clients'
      -- logs
      pub settled_alike : (w : ℕ) → is_in_logs F w ≡ false → settled_over F d w ≡ settled_over F m w
      unfolding settled_over
      settled_alike w outside =
          cond-false (is_in_logs F w) 0 _ outside
          ∙ gives_alike w outside (mine_below F opens w ALL_LOGS)
          ∙ sym (settled_over-own F m w outside (λ number few. given_by_log-closed F m number w closed few))

    module _ (none : (number : ℕ) → number < ALL_LOGS → is_refused_log F m number ≡ false) where
      refused_by : (number : ℕ) → number < ALL_LOGS → (o : Option OpenTransaction) → opens number ≡ o → is_refused_log F d number ≡ false
      refused_by number few None e = other_refused number few e ∙ none number few
      refused_by number few (Some o) e =
          let g = gives number o e in
          ap (λ (n : ℕ). is_refused_log F d n) (sym (are.number number o e))
          ∙ ap (λ x. is_refused (tables_of F d) x (log_of d (log_number_at F o.pool.log_number))) g.owned
          ∙ ap not g.allowed

      -- and no log is refused, if none is refused in the masked image
      pub refused_alike : (number : ℕ) → number < ALL_LOGS → is_refused_log F d number ≡ false
      refused_alike number few = refused_by number few (opens number) refl
