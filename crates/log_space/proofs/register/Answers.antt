use Rattle.std.proofs.Common.{◌≡◌, ℕ, List, [], ◌∷◌, Some, ap₂, subst}
use Rattle.pm_model.specs.Counts.{fault_of}
use Rattle.pud_defs.specs.declared.layout.TheConstants.{DAEMON_LOG}
use Rattle.pm_model.specs.Masks.{masked, masked_state, IsOff}
use Rattle.batch.specs.Batches.{ByBatch, Commits}
use Rattle.batch.specs.Worlds.{MovesBy, Moves}
use Rattle.pud_defs.specs.RegistryTables.Spaces.{owner}
use Rattle.log_space.specs.Records.{record_batch}
use Rattle.log_space.proofs.Writing.{GivesOwner-registration, MovesBy-record, Registers-moves}
use Rattle.log_space.proofs.register.Goals as goal

pub returns-clause-commits : goal.returns-clause-commits
returns-clause-commits g c = λ t idle.
    let a = g.H.Host.state c.args.h.now in
    let b = g.H.Host.state c.write_record.new.h in
    let whole : 1 ∷ c.from.result ∷ c.from-2.result ∷ [] ≡ 1 ∷ c.args.uid ∷ c.args.gid ∷ [] = ap₂ (λ (x y : ℕ). 1 ∷ x ∷ y ∷ []) c.from.ensures c.from-2.ensures in
    subst (λ (vs : List ℕ). Commits DAEMON_LOG (record_batch c.args.slot vs) (fault_of c.write_record.result) a b) whole (c.write_record.ensures.commits t idle)

pub returns-clause-registers : goal.returns-clause-registers
returns-clause-registers g c = λ t size same s mask off settled logs.
    let slot = c.args.slot in
    let uid = c.args.uid in
    let gid = c.args.gid in
    let vals = 1 ∷ uid ∷ gid ∷ [] in
    let a = g.H.Host.state c.args.h.now in
    let b = g.H.Host.state c.write_record.new.h in
    let fault = fault_of c.write_record.result in
    let r = c.requires in
    let gives = GivesOwner-registration size s slot uid gid (masked mask a.now.words) settled r.known r.uid_fits r.gid_fits logs in
    let whole : 1 ∷ c.from.result ∷ c.from-2.result ∷ [] ≡ vals = ap₂ (λ (x y : ℕ). 1 ∷ x ∷ y ∷ []) c.from.ensures c.from-2.ensures in
    Registers-moves size s slot uid gid fault (masked_state mask a) (masked_state mask b) gives
    (subst (λ (vs : List ℕ). IsOff mask (ByBatch DAEMON_LOG (record_batch slot vs)) → MovesBy size s s (record_batch slot vs) (masked mask a.now.words)
    → Moves size s s (record_batch slot vs) fault (masked_state mask a) (masked_state mask b)) whole (λ apart. c.write_record.ensures.moves t size same s s mask apart settled)
    off (MovesBy-record size s slot (Some (owner uid gid)) vals (masked mask a.now.words) gives settled))
