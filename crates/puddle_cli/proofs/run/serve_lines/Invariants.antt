use Rattle.std.proofs.Common.{◌≡◌, ◌≤◌, ℕ, true, false}
use Rattle.pud_defs.specs.Formats.Layout.{device_words}
use Rattle.pud_defs.specs.StateMachine.World.{World}
use Rattle.puddled.specs.Faults.{Grows}
use Rattle.daemon_memory.specs.Ready.{IsReady}
use Rattle.puddle_cli.specs.Source.{is_aloud, bytes_left}
use Rattle.puddle_cli.specs.Serving.{IsQuiet, Takes, Serves}
use Rattle.puddle_cli.specs.Replying.{Hears}
use Rattle.puddle_cli.proofs.run.serve_lines.Given as goal

abbrev pub invariant-loop-taken : goal.invariant-loop-taken
invariant-loop-taken g l = record {
  counts : Grows (g.H.Host.counts l.initial.h) (g.H.Host.counts l.h);
  aloud : is_aloud l.source ≡ is_aloud l.initial.source;
  few : l.refused ≤ l._taken;
  takes : g.H.Host.tells → Takes (bytes_left l.initial.source (g.H.Host.state l.initial.h)) l._taken (g.H.Host.state l.initial.h) (g.H.Host.state l.h) (bytes_left l.source (g.H.Host.state l.h));
  serves : g.H.Host.tells → (size : ℕ) → size ≡ (g.H.Host.counts l.initial.h).size → (w : World) → IsReady size w l.initial.daemon (g.H.Host.state l.initial.h)
      → Serves size w (is_aloud l.initial.source) (bytes_left l.initial.source (g.H.Host.state l.initial.h)) (g.H.Host.counts l.initial.h) (g.H.Host.state l.initial.h) (g.H.Host.counts l.h) l.daemon (g.H.Host.state l.h) (bytes_left l.source (g.H.Host.state l.h)) l.piece l.refused;
  hears : g.H.Host.tells → is_aloud l.initial.source ≡ true → Hears (g.H.Host.state l.initial.h) (g.H.Host.state l.h) l.piece;
  quiet : g.H.Host.tells → is_aloud l.initial.source ≡ false → IsQuiet (g.H.Host.state l.initial.h) (g.H.Host.state l.h);
  room : device_words l.daemon.frames ≤ (g.H.Host.counts l.initial.h).size;
}
