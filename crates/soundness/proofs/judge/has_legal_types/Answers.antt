use Rattle.std.proofs.Common.{◌≡◌, ◌≢◌, inr, ◌+◌, ◌-◌, ◌<◌, Bool, eqb, length, take, refl, sym, ap, ◌∙◌, arith, below_more, get_or-set_other, get_or-set_same}
use Rattle.std.specs.List.{list_any}
use Rattle.std.proofs.Math.ListN.{length-set}
use Rattle.pm_model.specs.Words.{reads}
use Rattle.pud_defs.specs.declared.layout.TheConstants.{DAEMON_LOG, TYPE_RECORDS}
use Rattle.pud_defs.specs.Formats.Image.{Image}
use Rattle.pud_defs.specs.Logging.Replay.{settled_by}
use Rattle.pud_defs.specs.RegistryTables.Types.{type_record_at}
use Rattle.pud_defs.proofs.Logging.Replay.{outside_log}
use Rattle.soundness.specs.Overlaying.{IsOverlay}
use Rattle.soundness.specs.Judging.{with_one_more, are_legal_last}
use Rattle.soundness.proofs.Records.{no_records, legal_more, legal_last}
use Rattle.pm_model.proofs.Reading.{OnlyReads-none, OnlyReads-then, still_reads}
use Rattle.soundness.proofs.judge.has_legal_types.Goals as goal

pub loop-done-init : goal.loop-done-init
loop-done-init g c = record {
  size = refl;
  only_reads = OnlyReads-none;
  legal = λ t image same over. sym (no_records (settled_by DAEMON_LOG image));
  ids = λ t image same over k below. absurd (omega arith);
}

pub loop-done-preserved : goal.loop-done-preserved
loop-done-preserved g c =
    let n = c.loop-done.done in
    let ids = c.loop-done.ids in
    let fits : n < length ids = omega arith in
    let id : g.H.Host.tells → (image : Image) → reads (g.H.Host.state c.args.h.now).now.words ≡ image → IsOverlay c.args.overlay.now image → c.in_ok-id.id ≡ settled_by DAEMON_LOG image (type_record_at (63 - n)) =
    λ t image same over. (rw c.type_record_at-at.ensures at c.in_ok-id.ensures.value) t image (still_reads c.loop-done.invariant.only_reads t same) over (outside_log DAEMON_LOG (type_record_at (63 - n)) (inr (omega arith))) in
    let map : g.H.Host.tells → (image : Image) → reads (g.H.Host.state c.args.h.now).now.words ≡ image → IsOverlay c.args.overlay.now image → c.in_ok-map.map ≡ settled_by DAEMON_LOG image (type_record_at (63 - n) + 1) =
    λ t image same over. (rw c.type_record_at-at.ensures at c.in_ok-map.ensures.value) t image (still_reads c.word.ensures.only_reads t (still_reads c.loop-done.invariant.only_reads t same)) over (outside_log DAEMON_LOG (type_record_at (63 - n) + 1) (inr (omega arith))) in
    record {
      size = length-set ids n c.in_ok-id.id ∙ c.loop-done.invariant.size;
      only_reads = OnlyReads-then (OnlyReads-then c.loop-done.invariant.only_reads c.in_ok-id.ensures.only_reads) c.in_ok-map.ensures.only_reads;
      legal = λ t image same over.
          let settled = settled_by DAEMON_LOG image in
          let these : with_one_more c.in_ok-id.id c.in_ok-map.map (list_any (λ y. eqb y c.in_ok-id.id) (take n ids)) c.loop-done.legal ≡ are_legal_last settled (n + 1) =
          ap (λ (b : Bool). with_one_more c.in_ok-id.id c.in_ok-map.map (list_any (λ y. eqb y c.in_ok-id.id) (take n ids)) b) (c.loop-done.invariant.legal t image same over)
          ∙ legal_more settled ids n c.in_ok-id.id c.in_ok-map.map (omega arith) (omega arith) (id t image same over) (map t image same over) (c.loop-done.invariant.ids t image same over) in
          c.is_legal_with-legal.ensures ∙ these;
      ids = λ t image same over. below_more _ _
          (λ k below. let apart : k ≢ n = omega arith in get_or-set_other ids n k c.in_ok-id.id 0 apart ∙ c.loop-done.invariant.ids t image same over k below)
          (get_or-set_same ids n c.in_ok-id.id 0 fits ∙ id t image same over);
    }

pub returns-clause-legal : goal.returns-clause-legal
returns-clause-legal g c = λ t image same over.
    let settled = settled_by DAEMON_LOG image in
    let done : c.loop-done.done ≡ TYPE_RECORDS = omega arith in
    c.loop-done.invariant.legal t image same over ∙ ap (are_legal_last settled) done ∙ legal_last settled
