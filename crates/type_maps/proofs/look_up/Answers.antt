use Rattle.std.proofs.Common.{◌≡◌, ℕ, ◌+◌, ◌<◌, ◌∙◌, IfSome, None, Option, sym, ap, subst, arith}
use Rattle.pm_model.specs.Words.{reads}
use Rattle.type_maps.specs.declared.Lookup.TheVariants.{Defined}
use Rattle.pud_defs.specs.declared.layout.TheConstants.{TYPE_RECORDS}
use Rattle.pud_defs.specs.RegistryTables.Types.{type_record_at}
use Rattle.type_maps.specs.Define.{lookup_by}
use Rattle.type_maps.proofs.Lookups.{place_from, place_from-start, place_from-free, place_from-other, place_from-here, place_from-end, either_within}
use Rattle.pm_model.proofs.Reading.{OnlyReads-none, OnlyReads-then}
use Rattle.type_maps.proofs.look_up.Goals as goal
use Rattle.type_maps.proofs.look_up.Goals.{then-used_by-eq0, else-used_by-eq0+else-used_by-id}

pub returns-then-used_by-id-clause-place : goal.returns-then-used_by-id-clause-place
returns-then-used_by-id-clause-place g c = λ t.
    let i = c.loop-record.record in
    let stays = c.loop-record.invariant.only_reads.stays t in
    let image = reads (g.H.Loads.state c.args.h.now).now.words in
    let word : c.in_ok-used_by.used_by ≡ image (type_record_at i) = c.in_ok-used_by.ensures.value t ∙ (λ x. reads (stays x).now.words (c.type_record_at-at.ensures x)) in
    let map : c.in_ok-load_word.field-0 ≡ image (type_record_at i + 1) = c.in_ok-load_word.ensures.value t ∙ (λ x. reads ((c.load_word.ensures.only_reads.stays t ∙ stays) x).now.words (c.type_record_at-at.ensures x + 1)) in
    let here : image (type_record_at i) ≡ c.args.id = omega arith in
    ap (λ n. Defined n) map
    ∙ sym (c.loop-record.invariant.place t ∙ place_from-here image c.args.id c.loop-record.free i (omega arith) (λ zero. absurd (omega arith)) here)

pub loop-record-init : goal.loop-record-init
loop-record-init g c = record {
  within = tt;
  only_reads = OnlyReads-none;
  place = λ t. place_from-start (reads (g.H.Loads.state c.args.h.now).now.words) c.args.id;
}

pub loop-record-preserved : goal.loop-record-preserved
loop-record-preserved g c = record {
  within = elim c.if-used_by-eq0.branch [
    | then-used_by-eq0 w ↦ subst (λ (f : Option ℕ). IfSome f (λ r. r < TYPE_RECORDS)) (sym (w.free-is ∙ w.or-free.ensures)) (either_within c.loop-record.free c.loop-record.record c.loop-record.invariant.within (omega arith))
    | else-used_by-eq0+else-used_by-id w ↦ subst (λ (f : Option ℕ). IfSome f (λ r. r < TYPE_RECORDS)) (sym w.free-is) c.loop-record.invariant.within
  ];
  only_reads = OnlyReads-then c.loop-record.invariant.only_reads c.in_ok-used_by.ensures.only_reads;
  place = λ t.
      let i = c.loop-record.record in
      let image = reads (g.H.Loads.state c.args.h.now).now.words in
      let word : c.in_ok-used_by.used_by ≡ image (type_record_at i) = c.in_ok-used_by.ensures.value t ∙ (λ x. reads (c.loop-record.invariant.only_reads.stays t x).now.words (c.type_record_at-at.ensures x)) in
      c.loop-record.invariant.place t ∙ elim c.if-used_by-eq0.branch [
        | then-used_by-eq0 w ↦
            let empty : image (type_record_at i) ≡ 0 = omega arith in
            place_from-free image c.args.id c.loop-record.free i (omega arith) empty ∙ ap (λ (f : Option ℕ). place_from image c.args.id f (i + 1)) (sym (w.free-is ∙ w.or-free.ensures))
        | else-used_by-eq0+else-used_by-id w ↦
            place_from-other image c.args.id c.loop-record.free i (omega arith) (λ zero. absurd (omega arith)) (λ same. absurd (omega arith))
            ∙ ap (λ (f : Option ℕ). place_from image c.args.id f (i + 1)) (sym w.free-is)
      ];
}

pub returns-in-Some-clause-place : goal.returns-in-Some-clause-place
returns-in-Some-clause-place g c = λ t.
    let image = reads (g.H.Loads.state c.args.h.now).now.words in
    sym (c.loop-record.invariant.place t ∙ place_from-end image c.args.id c.loop-record.free c.loop-record.record (omega arith) ∙ ap (λ (f : Option ℕ). lookup_by None f) c.in-Some.is)

pub returns-in-None-clause-place : goal.returns-in-None-clause-place
returns-in-None-clause-place g c = λ t.
    let image = reads (g.H.Loads.state c.args.h.now).now.words in
    sym (c.loop-record.invariant.place t ∙ place_from-end image c.args.id c.loop-record.free c.loop-record.record (omega arith) ∙ ap (λ (f : Option ℕ). lookup_by None f) c.in-None.is)
