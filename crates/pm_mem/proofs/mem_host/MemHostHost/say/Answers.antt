use Rattle.std.proofs.Common.{◌≡◌, ℕ, Bool, cond, false, List, length, drop, refl, sym, ap, ◌∙◌, arith}
use Rattle.std.proofs.lemmas.List.{take_all}
use Rattle.pm_model.specs.Moments.{State, all_said}
use Rattle.pm_mem.specs.Turns.{say_fails}
use Rattle.pm_mem.specs.Device.{device_state}
use Rattle.pm_mem.specs.Shelves.{shelf_of}
use Rattle.pm_mem.specs.MemHost.{told, mem_state}
use Rattle.pm_mem.proofs.Told.{told-all_said}
use Rattle.pm_mem.proofs.mem_host.MemHostHost.say.Goals as goal
use Rattle.pm_mem.proofs.mem_host.MemHostHost.say.Goals.{After-self-2-1}

all_are_said : (c : After-self-2-1) → told (device_state c.say-2.new.self) (drop c.args.self.now.taken c.args.self.now.script.items) (shelf_of c.args.self.now.shelf) ≡ all_said c.args.bytes.now (mem_state c.args.self.now)
all_are_said c =
    let m = c.args.self.now in
    ap (λ (s : State). told s (drop m.taken m.script.items) (shelf_of m.shelf)) c.say-2.ensures.told
    ∙ told-all_said c.args.bytes.now (device_state m.device) (drop m.taken m.script.items) (shelf_of m.shelf)

pub returns-clause-said : goal.returns-clause-said
returns-clause-said c =
    let bytes = c.args.bytes.now in
    λ _. record { count = length bytes; within = omega arith; is = all_are_said c ∙ sym (ap (λ (l : List ℕ). all_said l (mem_state c.args.self.now)) (take_all (length bytes) bytes (omega arith))); whole = λ _. refl }

pub returns-clause-left : goal.returns-clause-left
returns-clause-left c =
    let old = mem_state c.args.self.now in
    let done : say_fails (length c.args.bytes.now) c.args.self.now.turns ≡ false = sym c.if-say.ensures.fails in
    all_are_said c ∙ sym (ap (λ (b : Bool). cond b old (all_said c.args.bytes.now old)) done)
