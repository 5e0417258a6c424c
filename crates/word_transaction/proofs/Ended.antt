-- What is known after a transaction has ended.
use Rattle.std.proofs.Common.{◌≡◌, ◌⊎◌, inl, inr, ℕ, true, false, Option, Some, None, sym, ◌∙◌}
use Rattle.pm_model.specs.declared.host.HostFault.{HostFault}
use Rattle.pm_model.specs.declared.host.HostFault.TheVariants.{Cut}
use Rattle.pm_model.specs.Words.{Words, reads, Picks}
use Rattle.pm_model.specs.Moments.{State}
use Rattle.pm_model.specs.Changes.{Changes, Leaves, Silently}
use Rattle.pm_model.proofs.Words.{HasOnly-newest}
use Rattle.pm_model.proofs.Leaves.{Leaves-weaker}
use Rattle.pud_defs.specs.Formats.Image.{Image}
use Rattle.pud_defs.specs.Logging.Replay.{is_in_log}
use Rattle.pud_defs.proofs.Logging.Replay.{not_inside}
use Rattle.word_transaction.specs.Scope.{Scope}
use Rattle.word_transaction.specs.Running.{ByTransaction, IsIdle, RecoversTo, RecoversByRange, AbortsTransaction, CommitsTransaction}
use Rattle.word_transaction.proofs.Images.{RecoversTo-closed, closed_by_gate}

-- ---- whatever its range

-- An image recovers to the values before or to those after.
pub settles_either : (g : Scope) (at : ℕ) (before after image : Image) → RecoversByRange g at before after image → RecoversTo g at before image ⊎ RecoversTo g at after image
settles_either g at before after image (inl unmoved) = inl unmoved.recovers
settles_either g at before after image (inr moved) = inr moved.recovers

pub CommitsTransaction-either : (g : Scope) (at : ℕ) (before after : Image) (fault : Option HostFault) (old new : State) → CommitsTransaction g at before after fault old new
    → Leaves (Silently (λ image. RecoversTo g at before image ⊎ RecoversTo g at after image)) old new
CommitsTransaction-either g at before after fault old new e =
    Leaves-weaker (Silently (RecoversByRange g at before after)) (Silently (λ image. RecoversTo g at before image ⊎ RecoversTo g at after image)) old new
    (λ bytes image p. (p.0, settles_either g at before after image p.1)) e.moments

-- ---- no transaction is open any more

pub CommitsTransaction-idle : (g : Scope) (at : ℕ) (before after : Image) (fault : Option HostFault) (old new : State) → fault ≡ None → CommitsTransaction g at before after fault old new → IsIdle g at after new.now.words
CommitsTransaction-idle g at before after fault old new none e = record { closed = λ image picked. closed_by_gate at image ((e.closed none).each (image at) (picked.each at)); single = λ k mine. e.durable none k mine }

pub AbortsTransaction-idle : (g : Scope) (at : ℕ) (values : Image) (fault : Option HostFault) (old new : State) → fault ≡ None → AbortsTransaction g at values fault old new → IsIdle g at values new.now.words
AbortsTransaction-idle g at values fault old new none c = record { closed = λ image picked. closed_by_gate at image ((c.closed none).each (image at) (picked.each at)); single = λ k mine. c.durable none k mine }

-- ---- then each own word has its value

module _ (g : Scope) (at : ℕ) (values : Image) (words : Words) (idle : IsIdle g at values words) where
  -- It has its value when it is read.
  pub IsIdle-reads : (k : ℕ) → g.has_word k ≡ true → reads words k ≡ values k
  IsIdle-reads k mine = HasOnly-newest (words k) (values k) (idle.single k mine)

  -- It has its value in each image that is left. The log is closed in that image.
  pub IsIdle-image : (image : Image) → Picks words image → (k : ℕ) → g.has_word k ≡ true → image k ≡ values k
  IsIdle-image image picked k mine = (idle.single k mine).each (image k) (picked.each k)

  pub IsIdle-settles : (image : Image) → Picks words image → RecoversTo g at values image
  IsIdle-settles image picked = RecoversTo-closed g at values image (idle.closed image picked) (IsIdle-image image picked)

-- ---- what stays meanwhile

-- No value is written to a word that is neither the log's nor the transaction's own.
pub beside_transaction : (g : Scope) (at k v : ℕ) → is_in_log at k ≡ false → g.has_word k ≡ false → ByTransaction g at k v → ⊥
beside_transaction g at k v outside other (inl inside) = not_inside at k outside inside
beside_transaction g at k v outside other (inr mine) = absurd (let it : true ≡ false = sym mine ∙ other in cc)

-- So such a word reads as before.
pub reads_beside : (g : Scope) (at : ℕ) (fault : Option HostFault) (old new : State) → Changes (ByTransaction g at) fault old new → (fault ≡ Some Cut → ⊥) → (k : ℕ) → is_in_log at k ≡ false
    → g.has_word k ≡ false → reads new.now.words k ≡ reads old.now.words k
reads_beside g at fault old new changes uncut k outside other = (changes.keeps uncut k (λ v. beside_transaction g at k v outside other)).newest
