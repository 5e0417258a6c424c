use Rattle.pm_file.proofs.Padded.{AreSame-padded}
use Rattle.pm_file.proofs.device_words.lengthen.Goals as goal

pub returns-clause-kept : goal.returns-clause-kept
returns-clause-kept c = record {
  durable = AreSame-padded _ _ _ c.pad.ensures.items;
  marked = AreSame-padded _ _ _ c.pad-2.ensures.items;
  newest = AreSame-padded _ _ _ c.pad-3.ensures.items;
}
