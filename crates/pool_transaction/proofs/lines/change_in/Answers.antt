use Rattle.std.proofs.Common.{◌≡◌, List, Option, Some, sym, ap, subst, ◌∙◌, rules, refl}
use Rattle.std.proofs.lemmas.Option.{same_Some}
use Rattle.pud_defs.specs.declared.machine.Refusal.TheVariants as refusals
use Rattle.pud_defs.specs.declared.machine.Reply.TheVariants as replies
use Rattle.known_pool.specs.Known.{Known}
use Rattle.daemon_memory.specs.PoolKnowledge.{known_pool_in}
use Rattle.daemon_memory.specs.ActiveTransactions.{IsActiveWithin}
use Rattle.daemon_memory.specs.Ready.{IsReady}
use Rattle.daemon_memory.proofs.OpenTransactions.ActiveUnder.{AreActiveWithin-set, read_there, read_within}
use Rattle.pool_transaction.proofs.TransactionLines.Changing.{is_known, active_in, own_changed}
use Rattle.daemon_memory.proofs.PoolsKnown.KnownBuilt.{known_there, on_device_there}
use Rattle.pool_transaction.proofs.lines.change_in.Goals as goal
use Rattle.pool_transaction.proofs.lines.change_in.Goals.{in-Some-pools, in-None-pools}

pub carry_out_change-requires-clause-within : goal.carry_out_change-requires-clause-within
carry_out_change-requires-clause-within g c = read_within _ _ _ _ _ c.in-Some.opened c.requires.within (search rules) refl c.in-Some.is

pub carry_out_change-requires-clause-known : goal.carry_out_change-requires-clause-known
carry_out_change-requires-clause-known g c =
    on_device_there c.args.frames c.args.known_pools.now c.args.own.slot c.in-Some-pools.pool c.requires.known
    (ap (λ (ps : List (Option Known)). known_pool_in ps c.args.own.slot) (sym c.known_pools.view_is) ∙ known_there c.known_pools.inside.pools c.args.own.slot _ c.index-known_pools-own.result (search rules) refl ∙ c.in-Some-pools.is)

pub returns-after-known_pools-own-clause-does : goal.returns-after-known_pools-own-clause-does
returns-after-known_pools-own-clause-does g c = λ t size e w sessions client name ready own.
    let mine = c.in-Some.opened in
    let s = g.H.Host.state c.args.h.now in
    let there = read_there c.args.all.now c.args.own.log_number _ c.index-all-own.result mine (search rules) refl c.in-Some.is in
    let pools = c.known_pools.inside.pools in
    let read = known_there pools c.args.own.slot _ c.index-known_pools-own.result (search rules) refl in
    let then = subst (λ (ps : List (Option Known)). IsReady size w (record { frames = c.args.frames; active = c.args.all.now; sessions = sessions; known_pools = ps }) s) (sym c.known_pools.view_is) ready in
    elim c.match-known_pools-own.branch [
      | in-Some-pools b ↦
          let known = read ∙ b.in-Some-pools.is in
          rw (b.result-is, b.all-is, b.known_pools-inside-is, b.h-is)
          (own_changed size w c.args.frames c.args.all.now sessions pools s then client name c.args.own.slot c.args.own.log_number own mine there b.in-Some-pools.pool known c.args.change
          b.carry_out_change.new.opened b.carry_out_change.new.pool b.carry_out_change.result _
          (b.carry_out_change.ensures.does t size w _ (record { words_are = e; its = active_in size w c.args.frames c.args.all.now sessions pools s then client name c.args.own.slot c.args.own.log_number own mine there b.in-Some-pools.pool known; ready = then })))
      | in-None-pools b ↦ absurd (is_known size w c.args.frames c.args.all.now sessions pools s then client name c.args.own.slot c.args.own.log_number own (read ∙ b.in-None-pools.is))
    ]

pub returns-after-known_pools-own-clause-within : goal.returns-after-known_pools-own-clause-within
returns-after-known_pools-own-clause-within g c = elim c.match-known_pools-own.branch [
  | in-Some-pools b ↦
      rw b.all-is (AreActiveWithin-set _ _ _ (Some b.carry_out_change.new.opened) c.requires.within (λ h now. subst (IsActiveWithin c.args.frames) (same_Some b.carry_out_change.new.opened h now) b.carry_out_change.ensures.within))
  | in-None-pools b ↦
      let within = read_within _ _ _ _ _ c.in-Some.opened c.requires.within (search rules) refl c.in-Some.is in
      rw b.all-is (AreActiveWithin-set _ _ _ (Some c.in-Some.opened) c.requires.within (λ h now. subst (IsActiveWithin c.args.frames) (same_Some c.in-Some.opened h now) within))
]

pub returns-after-known_pools-own-clause-uncut : goal.returns-after-known_pools-own-clause-uncut
returns-after-known_pools-own-clause-uncut g c = elim c.match-known_pools-own.branch [
  | in-Some-pools b ↦ rw b.result-is b.carry_out_change.ensures.uncut
  | in-None-pools b ↦ rw b.result-is (λ cut. let it : replies.No refusals.Wild ≡ replies.Cut = cut in cc)
]
