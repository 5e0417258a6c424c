-- The images that may be left during some calls: from one call to many.
use Rattle.std.proofs.Common.{◌≡◌, ◌⊎◌, inl, inr, ℕ, ◌-◌, List, [], ◌∷◌, ◌++◌, length, Option, refl, sym, ap, subst, ◌∙◌, append_assoc, length-append, take, drop, take-append-drop, arith}
use Rattle.std.proofs.lemmas.List.{append-nil, append_cancel_right, take_at}
use Rattle.pm_model.specs.declared.host.HostFault.{HostFault}
use Rattle.pm_model.specs.Words.{Has, Image, Words, values, Picks}
use Rattle.pm_model.specs.Moments.{Moment, State, MayLeave, one_said, all_said, clock, since}
use Rattle.pm_model.specs.Calls.{Says}
use Rattle.pm_model.specs.Changes.{Leaves, Silently, Changes, Footprint, IsFrom}
use Rattle.pm_model.proofs.Has.{Has-append_cases}
use Rattle.pm_model.proofs.Changes.{now_among}

-- An image that is left while some words change comes from an image of the start.
pub record HasOrigin (may : Footprint) (words : Words) (image : Image) : Type 0 where
  pub before : Image
  pub picked : Picks words before
  pub from : IsFrom may before image

origin_value : (may : Footprint) (words : Words) (k v : ℕ) → Has (values (words k)) v ⊎ may k v → (x : ℕ) × Has (values (words k)) x × ((v ≡ x) ⊎ may k v)
origin_value may words k v (inl was) = (v, was, inl refl)
origin_value may words k v (inr new) = ((words k).newest, inl refl, inr new)

pub origin : (may : Footprint) (words late : Words) (image : Image)
    → ((k v : ℕ) → Has (values (late k)) v → Has (values (words k)) v ⊎ may k v) → Picks late image → HasOrigin may words image
origin may words late image within picked =
    let value = λ (k : ℕ). origin_value may words k (image k) (within k (image k) (picked.each k)) in
    record {
      before = λ k. (value k).0;
      picked = record { each = λ k. (value k).1 };
      from = record { each = λ k. (value k).2 };
    }

-- If each image that comes from an image of the start has P, then each image that is left while these words change has
-- P.
pub Leaves-changes : (P : Image → Type 0) (may : Footprint) (fault : Option HostFault) (old new : State)
    → ((before image : Image) → Picks old.now.words before → IsFrom may before image → P image)
    → Changes may fault old new → Leaves (Silently P) old new
Leaves-changes P may fault old new each c =
    record {
      added = c.added;
      history = c.history;
      start = λ image picked. (refl, each image image picked (record { each = λ k. inl refl }));
      later = λ m h. record {
        bytes = [];
        said = c.quiet m h ∙ sym (append-nil old.now.said);
        each = λ image picked.
            let o = origin may old.now.words m.words image (c.within m h) picked in
            (refl, each o.before image o.picked o.from);
      };
    }

-- If nothing happened, it is enough that each image of the start has P.
pub Leaves-still : (P : List ℕ → Image → Type 0) (old new : State) → ((image : Image) → Picks old.now.words image → P [] image) → new ≡ old → Leaves P old new
Leaves-still P old new start e =
    subst (λ (n : State). Leaves P old n) (sym e) (record { added = []; history = refl; start = start; later = λ m h. absurd h })

-- A weaker claim follows.
pub Leaves-weaker : (P Q : List ℕ → Image → Type 0) (old new : State) → ((bytes : List ℕ) (image : Image) → P bytes image → Q bytes image) → Leaves P old new → Leaves Q old new
Leaves-weaker P Q old new weaker l =
    record {
      added = l.added;
      history = l.history;
      start = λ image picked. weaker [] image (l.start image picked);
      later = λ m h. let at = l.later m h in record { bytes = at.bytes; said = at.said; each = λ image picked. weaker at.bytes image (at.each image picked) };
    }

-- Two claims about the same calls, which print nothing: each image has both.
pub Leaves-both : (P Q : Image → Type 0) (old new : State) → Leaves (Silently P) old new → Leaves (Silently Q) old new → Leaves (Silently (λ image. P image × Q image)) old new
Leaves-both P Q old new p q =
    let same : q.added ≡ p.added = append_cancel_right q.added p.added (old.now ∷ old.past) (sym q.history ∙ p.history) in
    record {
      added = p.added;
      history = p.history;
      start = λ image picked. (refl, ((p.start image picked).1, (q.start image picked).1));
      later = λ m h.
          let left = p.later m h in
          let other = q.later m (subst (λ (ms : List Moment). Has ms m) (sym same) h) in
          record {
            bytes = left.bytes;
            said = left.said;
            each = λ image picked. ((left.each image picked).0, ((left.each image picked).1, (other.each image picked).1));
          };
    }

-- One run of calls after another. The printed bytes are joined.
pub Leaves-then : (P Q R : List ℕ → Image → Type 0) (bytes : List ℕ) (a b c : State) → b.now.said ≡ a.now.said ++ bytes
    → ((front : List ℕ) (image : Image) → P front image → R front image)
    → ((more : List ℕ) (image : Image) → Q more image → R (bytes ++ more) image)
    → Leaves P a b → Leaves Q b c → Leaves R a c
Leaves-then P Q R bytes a b c said early late p q =
    record {
      added = q.added ++ p.added;
      history = q.history ∙ ap (λ (l : List Moment). q.added ++ l) p.history ∙ sym (append_assoc q.added p.added (a.now ∷ a.past));
      start = λ image picked. early [] image (p.start image picked);
      later = λ m h. elim (Has-append_cases q.added p.added m h) [
        | inl after ↦
            let at = q.later m after in
            record {
              bytes = bytes ++ at.bytes;
              said = at.said ∙ ap (λ (l : List ℕ). l ++ at.bytes) said ∙ append_assoc a.now.said bytes at.bytes;
              each = λ image picked. late at.bytes image (at.each image picked);
            }
        | inr before ↦
            let at = p.later m before in
            record { bytes = at.bytes; said = at.said; each = λ image picked. early at.bytes image (at.each image picked) }
      ];
    }

append_same : (xs ys zs : List ℕ) → xs ++ ys ≡ xs ++ zs → ys ≡ zs
append_same [] ys zs e = e
append_same (x ∷ xs) ys zs e = append_same xs ys zs (cc)

-- Each image of the end has P with all the printed bytes.
pub Leaves-now : (P : List ℕ → Image → Type 0) (bytes : List ℕ) (old new : State) → new.now.said ≡ old.now.said ++ bytes
    → Leaves P old new → (image : Image) → Picks new.now.words image → P bytes image
Leaves-now P bytes old new said l image picked =
    elim (now_among old new l.added l.history) [
      | inl e ↦
          let same : [] ≡ bytes = append_same old.now.said [] bytes (append-nil old.now.said ∙ ap (λ (m : Moment). m.said) (sym e) ∙ said) in
          subst (λ (s : List ℕ). P s image) same (l.start image (subst (λ (m : Moment). Picks m.words image) e picked))
      | inr h ↦
          let at = l.later new.now h in
          subst (λ (s : List ℕ). P s image) (append_same old.now.said at.bytes bytes (sym at.said ∙ said)) (at.each image picked)
    ]

-- The bytes are a prefix of the whole. While bytes are printed, each image may be left with each prefix of them.
pub record IsPrefix (front whole : List ℕ) : Type 0 where
  pub rest : List ℕ
  pub is : whole ≡ front ++ rest

pub Leaves-all_said : (bytes : List ℕ) (P : List ℕ → Image → Type 0) (old : State)
    → ((front : List ℕ) (image : Image) → IsPrefix front bytes → Picks old.now.words image → P front image) → Leaves P old (all_said bytes old)
Leaves-all_said [] P old each = Leaves-still P old old (λ image picked. each [] image (record { rest = []; is = refl }) picked) refl
Leaves-all_said (b ∷ bytes) P old each =
    let P2 : List ℕ → Image → Type 0 = λ front image. P (b ∷ front) image in
    let rest = Leaves-all_said bytes P2 (one_said b old) (λ front image prefix picked. each (b ∷ front) image (record { rest = prefix.rest; is = ap (λ (l : List ℕ). b ∷ l) prefix.is }) picked) in
    let nothing : IsPrefix [] (b ∷ bytes) = record { rest = b ∷ bytes; is = refl } in
    let first : IsPrefix (b ∷ []) (b ∷ bytes) = record { rest = bytes; is = refl } in
    let one : Leaves P old (one_said b old) = record {
      added = record { said = old.now.said ++ b ∷ []; words = old.now.words } ∷ [];
      history = refl;
      start = λ image picked. each [] image nothing picked;
      later = λ m h. elim h [
        | inl e ↦ record {
          bytes = b ∷ [];
          said = ap (λ (x : Moment). x.said) e;
          each = λ image picked. each (b ∷ []) image first (subst (λ (x : Moment). Picks x.words image) e picked);
        }
        | inr n ↦ absurd n
      ];
    } in
    Leaves-then P P2 P (b ∷ []) old (one_said b old) (all_said bytes (one_said b old)) refl (λ front image p. p) (λ more image p. p) one rest

take-IsPrefix : (n : ℕ) (front bytes : List ℕ) → IsPrefix front (take n bytes) → IsPrefix front bytes
take-IsPrefix n front bytes p = record { rest = p.rest ++ drop n bytes; is = sym (take-append-drop n bytes) ∙ ap (λ (l : List ℕ). l ++ drop n bytes) p.is ∙ append_assoc front p.rest (drop n bytes) }

pub Leaves-says : (bytes : List ℕ) (fault : Option HostFault) (P : List ℕ → Image → Type 0) (old new : State)
    → ((front : List ℕ) (image : Image) → IsPrefix front bytes → Picks old.now.words image → P front image) → Says bytes fault old new → Leaves P old new
Leaves-says bytes fault P old new each says =
    subst (λ (n : State). Leaves P old n) (sym says.is)
    (Leaves-all_said (take says.count bytes) P old (λ front image prefix picked. each front image (take-IsPrefix says.count front bytes prefix) picked))

since_start : (added : List Moment) (old new : State) → new.now ∷ new.past ≡ added ++ old.now ∷ old.past → since (clock old) new ≡ added ++ old.now ∷ []
since_start added old new e =
    let count : length (added ++ old.now ∷ old.past) - length old.past ≡ length (added ++ old.now ∷ []) =
    omega (arith, length-append added (old.now ∷ old.past), length-append added (old.now ∷ [])) in
    ap (λ (l : List Moment). take (length l - length old.past) l) e
    ∙ ap (λ (l : List Moment). take (length (added ++ old.now ∷ old.past) - length old.past) l) (sym (append_assoc added (old.now ∷ []) old.past))
    ∙ take_at (added ++ old.now ∷ []) old.past (length (added ++ old.now ∷ old.past) - length old.past) (sym count)

-- Each image that may have been left at some moment since the start has P.
pub Leaves-each : (P : List ℕ → Image → Type 0) (old new : State) → Leaves P old new → (said : List ℕ) (image : Image) → MayLeave old new said image → P said image
Leaves-each P old new l said image left =
    elim (Has-append_cases l.added (old.now ∷ []) left.moment (subst (λ (ms : List Moment). Has ms left.moment) (since_start l.added old new l.history) left.since)) [
      | inl h ↦
          let at = l.later left.moment h in
          subst (λ (s : List ℕ). P s image) (append_same old.now.said at.bytes said (sym at.said ∙ left.bytes)) (at.each image left.picks)
      | inr last ↦ elim last [
        | inl e ↦
            let same : [] ≡ said = append_same old.now.said [] said (append-nil old.now.said ∙ ap (λ (m : Moment). m.said) (sym e) ∙ left.bytes) in
            subst (λ (s : List ℕ). P s image) same (l.start image (subst (λ (m : Moment). Picks m.words image) e left.picks))
        | inr n ↦ absurd n
      ]
    ]
