-- How the calls of a host compose: from one step to many.
use Rattle.std.proofs.Common.{◌≡◌, ◌⊎◌, inl, inr, ℕ, ◌/◌, List, [], ◌∷◌, ◌++◌, Option, Some, None, refl, sym, ap, subst, ◌∙◌, append_assoc}
use Rattle.pm_model.specs.declared.host.HostFault.{HostFault}
use Rattle.pm_model.specs.declared.host.HostFault.TheVariants.{Failed, Cut}
use Rattle.pm_model.specs.Words.{Has, Cell, values, Words, after_store, after_flush, after_fence, after_loss, HasOnly}
use Rattle.pm_model.specs.Moments.{Moment, State}
use Rattle.pm_model.specs.Calls.{Steps}
use Rattle.pm_model.specs.Changes.{IsKept, Changes, Footprint, Write, only, written, Writes, Persists}
use Rattle.pm_model.proofs.Has.{Has-append_cases}
use Rattle.pm_model.proofs.Words.{store_adds, flush_adds, values-fenced, store_keeps, flush_keeps, HasOnly-fenced, only_at, stored_newest, flushed_newest, flushed_marked}

not_cut : None ≡ Some Cut → ⊥
not_cut e = cc

failed_is_not_cut : Some Failed ≡ Some Cut → ⊥
failed_is_not_cut e = cc

kept_still : (c : Cell) → IsKept c c
kept_still c = record { newest = refl; marked = λ m. m }

kept_on : {a b c : Cell} → IsKept a b → IsKept b c → IsKept a c
kept_on p q = record { newest = q.newest ∙ p.newest; marked = λ m. q.marked (p.marked m) }

-- If nothing happened, no word changed.
pub Changes-still : (may : Footprint) (fault : Option HostFault) (old new : State) → (fault ≡ Some Cut → ⊥) → new ≡ old → Changes may fault old new
Changes-still may fault old new not_cut e =
    subst (λ (n : State). Changes may fault old n) (sym e) (record {
      added = [];
      history = refl;
      quiet = λ m h. absurd h;
      within = λ m h k v. absurd h;
      keeps = λ _ k none. kept_still (old.now.words k);
      rests = λ cut. absurd (not_cut cut);
      script = refl;
      shelf = refl;
    })

-- A device step adds to words only values that may be written to them, and keeps the other words.
pub Changes-step : (may : Footprint) (f : Words → Words) (fault : Option HostFault) (old new : State)
    → ((k x : ℕ) → Has (values (f old.now.words k)) x → Has (values (old.now.words k)) x ⊎ may k x)
    → ((k : ℕ) → ((x : ℕ) → may k x → ⊥) → IsKept (old.now.words k) (f old.now.words k))
    → Steps f fault old new → Changes may fault old new
Changes-step may f None old new grows keeps step =
    subst (λ (n : State). Changes may None old n) (sym (step.done refl)) (record {
      added = record { said = old.now.said; words = f old.now.words } ∷ [];
      history = refl;
      quiet = λ m h. elim h [ inl e ↦ ap (λ (x : Moment). x.said) e | inr n ↦ absurd n ];
      within = λ m h k v had. elim h [
        | inl e ↦ grows k v (subst (λ (x : Moment). Has (values (x.words k)) v) e had)
        | inr n ↦ absurd n
      ];
      keeps = λ _ k none. keeps k none;
      rests = λ cut. absurd (not_cut cut);
      script = refl;
      shelf = refl;
    })
Changes-step may f (Some Failed) old new grows keeps step = Changes-still may (Some Failed) old new failed_is_not_cut (step.failed refl)
Changes-step may f (Some Cut) old new grows keeps step =
    let lost = step.cut refl in
    subst (λ (n : State). Changes may (Some Cut) old n) (sym lost.is) (record {
      added = record { said = old.now.said; words = after_loss lost.image old.now.words } ∷ [];
      history = refl;
      quiet = λ m h. elim h [ inl e ↦ ap (λ (x : Moment). x.said) e | inr n ↦ absurd n ];
      within = λ m h k v had. elim h [
        | inl e ↦ elim (let one : Has (lost.image k ∷ []) v = subst (λ (x : Moment). Has (values (x.words k)) v) e had in one) [
          | inl is ↦ inl (subst (λ (y : ℕ). Has (values (old.now.words k)) y) (sym is) (lost.picked.each k))
          | inr n ↦ absurd n
        ]
        | inr n ↦ absurd n
      ];
      keeps = λ still k none. absurd (still refl);
      rests = λ _. record { each = λ k. record { each = λ x h. elim h [ inl e ↦ e | inr n ↦ absurd n ] } };
      script = refl;
      shelf = refl;
    })

pub Changes-store : (w v : ℕ) (fault : Option HostFault) (old new : State) → Steps (after_store w v) fault old new → Changes (written (only w v)) fault old new
Changes-store w v fault old new step =
    Changes-step (written (only w v)) (after_store w v) fault old new (store_adds w v old.now.words) (store_keeps w v old.now.words) step

pub Changes-flush : (may : Footprint) (line : ℕ) (fault : Option HostFault) (old new : State) → Steps (after_flush line) fault old new → Changes may fault old new
Changes-flush may line fault old new step =
    Changes-step may (after_flush line) fault old new (λ k x h. inl (flush_adds line old.now.words k x h)) (λ k _. flush_keeps line old.now.words k) step

pub Changes-fence : (may : Footprint) (fault : Option HostFault) (old new : State) → Steps after_fence fault old new → Changes may fault old new
Changes-fence may fault old new step =
    Changes-step may after_fence fault old new (λ k x h. inl (values-fenced (old.now.words k) x h)) (λ k _. record { newest = refl; marked = λ m. m }) step

-- The last moment is the first one, or one of those that were added.
pub now_among : (old new : State) (added : List Moment) → new.now ∷ new.past ≡ added ++ old.now ∷ old.past → (new.now ≡ old.now) ⊎ Has added new.now
now_among old new [] e = inl (cc)
now_among old new (m ∷ added) e = inr (inl (cc))

-- At the end no more bytes are printed, and each word has values that it had before, or that may be written to it.
pub Changes-said : (may : Footprint) (fault : Option HostFault) (old new : State) → Changes may fault old new → new.now.said ≡ old.now.said
Changes-said may fault old new c =
    elim (now_among old new c.added c.history) [ inl e ↦ ap (λ (m : Moment). m.said) e | inr h ↦ c.quiet new.now h ]

pub Changes-now : (may : Footprint) (fault : Option HostFault) (old new : State) → Changes may fault old new
    → (k v : ℕ) → Has (values (new.now.words k)) v → Has (values (old.now.words k)) v ⊎ may k v
Changes-now may fault old new c k v had =
    elim (now_among old new c.added c.history) [
      | inl e ↦ inl (subst (λ (m : Moment). Has (values (m.words k)) v) e had)
      | inr h ↦ c.within new.now h k v had
    ]

pub Changes-then : (may : Footprint) (fault : Option HostFault) (a b c : State) → Changes may None a b → Changes may fault b c → Changes may fault a c
Changes-then may fault a b c p q =
    let said_b = Changes-said may None a b p in
    record {
      added = q.added ++ p.added;
      history = q.history ∙ ap (λ (l : List Moment). q.added ++ l) p.history ∙ sym (append_assoc q.added p.added (a.now ∷ a.past));
      quiet = λ m h. elim (Has-append_cases q.added p.added m h) [ inl late ↦ q.quiet m late ∙ said_b | inr early ↦ p.quiet m early ];
      within = λ m h k v had. elim (Has-append_cases q.added p.added m h) [
        | inl late ↦ elim (q.within m late k v had) [ inl was ↦ Changes-now may None a b p k v was | inr new ↦ inr new ]
        | inr early ↦ p.within m early k v had
      ];
      keeps = λ still k none. kept_on (p.keeps not_cut k none) (q.keeps still k none);
      rests = q.rests;
      script = q.script ∙ p.script;
      shelf = q.shelf ∙ p.shelf;
    }

pub Changes-wider : (may wide : Footprint) (fault : Option HostFault) (old new : State) → ((k v : ℕ) → may k v → wide k v) → Changes may fault old new → Changes wide fault old new
Changes-wider may wide fault old new wider c =
    record {
      added = c.added;
      history = c.history;
      quiet = c.quiet;
      within = λ m h k v had. elim (c.within m h k v had) [ inl was ↦ inl was | inr new ↦ inr (wider k v new) ];
      keeps = λ still k none. c.keeps still k (λ v m. none v (wider k v m));
      rests = c.rests;
      script = c.script;
      shelf = c.shelf;
    }

-- A word to which no value may be written keeps its one value.
pub HasOnly-kept : (may : Footprint) (fault : Option HostFault) (old new : State) (k v : ℕ) → Changes may fault old new → ((x : ℕ) → may k x → ⊥)
    → HasOnly (old.now.words k) v → HasOnly (new.now.words k) v
HasOnly-kept may fault old new k v c none one =
    record { each = λ x had. elim (Changes-now may fault old new c k x had) [ inl was ↦ one.each x was | inr new ↦ absurd (none x new) ] }

-- If a call failed, it need not make any word durable.
pub Persists-failed : (write : Write) (fault : HostFault) (old new : State) → Changes (written write) (Some fault) old new → Persists write (Some fault) old new
Persists-failed write fault old new c = record { changes = c; durable = λ e. absurd (let no : None ≡ Some fault = sym e in cc) }

pub Writes-failed : (write : Write) (fault : HostFault) (old new : State) → Changes (written write) (Some fault) old new → Writes write (Some fault) old new
Writes-failed write fault old new c =
    record { changes = c; newest = λ e. absurd (let no : None ≡ Some fault = sym e in cc); marked = λ e. absurd (let no : None ≡ Some fault = sym e in cc) }

-- A fence makes durable what was written and marked.
pub Persists-fence : (write : Write) (fault : Option HostFault) (a b c : State) → Writes write None a b → Steps after_fence fault b c → Persists write fault a c
Persists-fence write fault a b c w step =
    record {
      changes = Changes-then (written write) fault a b c w.changes (Changes-fence (written write) fault b c step);
      durable = λ e k v is. subst (λ (s : State). HasOnly (s.now.words k) v) (sym (step.done e)) (HasOnly-fenced (b.now.words k) v (w.newest refl k v is) (w.marked refl k v is));
    }

-- One word is stored, and then flushed with its line.
pub Writes-one : (w v : ℕ) (fault : Option HostFault) (a b c : State) → Steps (after_store w v) None a b → Steps (after_flush (w / 8)) fault b c → Writes (only w v) fault a c
Writes-one w v fault a b c store flush =
    let at_b : (k x : ℕ) → only w v k ≡ Some x → (b.now.words k).newest ≡ x = λ k x is. subst (λ (s : State). (s.now.words k).newest ≡ x) (sym (store.done refl)) (stored_newest w v a.now.words k x is) in
    record {
      changes = Changes-then (written (only w v)) fault a b c (Changes-store w v None a b store) (Changes-flush (written (only w v)) (w / 8) fault b c flush);
      newest = λ e k x is. subst (λ (s : State). (s.now.words k).newest ≡ x) (sym (flush.done e)) (flushed_newest (w / 8) b.now.words k ∙ at_b k x is);
      marked = λ e k x is. subst (λ (s : State). (s.now.words k).kept ≡ []) (sym (flush.done e)) (flushed_marked (w / 8) b.now.words k (ap (λ (n : ℕ). n / 8) (only_at w v k x is)));
    }
