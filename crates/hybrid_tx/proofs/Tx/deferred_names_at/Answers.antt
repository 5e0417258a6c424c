use Rattle.std.proofs.Common.{◌≡◌, inl, inr, true, false, sym, ap, subst, ◌∙◌}
use Rattle.pud_defs.specs.Formats.Image.{Image}
use Rattle.pud_defs.specs.RegistryTables.Types.{types_of}
use Rattle.pud_defs.specs.Logging.Entries.{Log, entries_of}
use Rattle.pud_defs.specs.PoolGraphs.Stored.{stored_in}
use Rattle.pud_defs.specs.PoolGraphs.Graph.{graph_of}
use Rattle.log_entry.proofs.Left.{IsReading-start, IsReading-more}
use Rattle.hybrid_tx.specs.Objects.Transactions.{AreDeferredEntries}
use Rattle.hybrid_tx.proofs.Objects.DeferredNamed.{NamesRest-start, NamesRest-more, NamesRest-passed, NamesOne-decided, NamesRest-end}
use Rattle.pm_model.proofs.Reading.{OnlyReads-none, OnlyReads-then, still_reads}
use Rattle.hybrid_tx.proofs.Tx.deferred_names_at.Goals as goal

pub loop-entry-init : goal.loop-entry-init
loop-entry-init g c =
    let start = c.new-reader.ensures ∙ ap (λ k. record { log_at = k; passed = 0 }) c.at.ensures in
    record {
      reading = IsReading-start c.args.self.now.log.gate_at c.new-reader.result start;
      only_reads = OnlyReads-none;
      names = λ t image same before graph_before now deferred placed is_open used place.
          let spells = ap (λ (i : Image). entries_of i c.args.self.now.log.gate_at) (sym same) ∙ ap (λ (l : Log). l.entries) is_open.saving.running.opened.says in
          let are = subst (λ (i : Image). AreDeferredEntries c.args.frames c.args.pool.now (types_of image) i now deferred is_open.redo) same is_open.are in
          NamesRest-start c.args.frames c.args.pool.now (types_of image) image now c.args.s c.args.self.now.log.gate_at _ is_open.saving.es is_open.redo deferred start spells is_open.saving.defers are;
    }

pub loop-entry-preserved : goal.loop-entry-preserved
loop-entry-preserved g c =
    let old = c.loop-entry.invariant in
    record {
      reading = IsReading-more c.args.self.now.log.gate_at _ c.in-Some.entry _ _ old.reading c.in-Some.is c.in_ok-entry.ensures.passes;
      only_reads = OnlyReads-then old.only_reads (OnlyReads-then c.in_ok-entry.ensures.only_reads c.in_ok-names.ensures.only_reads);
      names = λ t image same before graph_before now deferred placed is_open used place.
          let here = still_reads old.only_reads t same in
          let following = still_reads c.in_ok-entry.ensures.only_reads t here in
          let is = ap (λ (i : Image). graph_of (types_of image) (stored_in c.args.frames c.args.pool.now i)) (sym same) ∙ is_open.is in
          elim (NamesRest-more c.args.frames c.args.pool.now (types_of image) image now c.args.s _ c.in-Some.entry _ _ _ (old.names t image same before graph_before now deferred placed is_open used place) c.in-Some.is
          (c.in_ok-entry.ensures.left t image here)) [
            | inl one ↦ NamesRest-passed c.args.frames c.args.pool.now (types_of image) image now c.args.s _ _ _ one
                (λ l later. sym c.if-branch.false ∙ c.in_ok-names.ensures.names t image following now l _ placed is later used place (c.slot_address-address.ensures.address placed.legal))
            | inr other ↦ other.1
          ];
    }

pub returns-then-branch-clause-names : goal.returns-then-branch-clause-names
returns-then-branch-clause-names g c = λ t image same before graph_before now deferred placed is_open used place.
    let old = c.loop-entry.invariant in
    let here = still_reads old.only_reads t same in
    let following = still_reads c.in_ok-entry.ensures.only_reads t here in
    let is = ap (λ (i : Image). graph_of (types_of image) (stored_in c.args.frames c.args.pool.now i)) (sym same) ∙ is_open.is in
    elim (NamesRest-more c.args.frames c.args.pool.now (types_of image) image now c.args.s _ c.in-Some.entry _ _ _ (old.names t image same before graph_before now deferred placed is_open used place) c.in-Some.is
    (c.in_ok-entry.ensures.left t image here)) [
      | inl one ↦ NamesOne-decided c.args.frames c.args.pool.now (types_of image) image now c.args.s _ _ _ one
          (λ l later. sym c.if-branch.true ∙ c.in_ok-names.ensures.names t image following now l _ placed is later used place (c.slot_address-address.ensures.address placed.legal))
      | inr other ↦ absurd (let it : true ≡ false = sym c.if-branch.true ∙ c.in_ok-names.ensures.saves other.0 in cc)
    ]

pub returns-clause-names : goal.returns-clause-names
returns-clause-names g c = λ t image same before graph_before now deferred placed is_open used place.
    let old = c.loop-entry.invariant in
    let here = still_reads old.only_reads t same in
    NamesRest-end c.args.frames c.args.pool.now (types_of image) image now c.args.s _ _ _ _ (old.names t image same before graph_before now deferred placed is_open used place) c.in_default.is
    (c.in_ok-entry.ensures.left t image here)
