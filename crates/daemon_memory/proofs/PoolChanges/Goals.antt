-- Records of puddles on the way to their goals.
use Rattle.std.proofs.Common.{◌≡◌, ℕ, ◌+◌, ◌≤◌, Bool, true, false, eqb, cond, Option, Some, ap, ◌∙◌, arith, eq-eqb, refl}
use Rattle.std.specs.Prelude.{max}
use Rattle.std.proofs.lemmas.Bool.{cond-true}
use Rattle.pud_defs.specs.RegistryTables.Puddles.{Member, member_moved}
use Rattle.daemon_memory.specs.Moves.{Stays, IsFrontierBetween, MovesTo, still, led_to, led_in}
use Rattle.daemon_memory.proofs.PoolChanges.PuddlesLeft.{GoesOn, Joins}
use Rattle.pm_model.specs.declared.host.HostFault.{HostFault}
use Rattle.pm_model.specs.declared.host.HostFault.TheVariants.{Cut, Failed}

-- A record that stays is on its way to any goal that is not below its frontier.
pub stays_between : (m : Member) (goal : ℕ) (now : Option Member) → m.puddle.frontier ≤ goal → Stays m now → IsFrontierBetween m goal now
stays_between m goal now most is = record { frontier = m.puddle.frontier; least = omega arith; most = most; is = is }

-- It is also on its way if its goal is its own frontier.
pub stays_still : (m : Member) (now : Option Member) → Stays m now → MovesTo still m now
stays_still m now is = stays_between m m.puddle.frontier now (omega arith) is

-- A record whose goal is its own frontier stays.
pub still_stays : (m : Member) (now : Option Member) → MovesTo still m now → Stays m now
still_stays m now so =
    let least = so.least in
    let most = so.most in
    let same : so.frontier ≡ m.puddle.frontier = omega arith in
    so.is ∙ ap (λ (n : ℕ). Some (member_moved n m)) same

-- ---- the pool in a slot is led to goals

module _ (slot : ℕ) (goal : ℕ → ℕ) where
  least_by : (own : Bool) (f g : ℕ) → f ≤ cond own (max f g) f
  least_by true f g = omega arith
  least_by false f g = omega arith

  -- No frontier is led back.
  pub led_least : (m : Member) → m.puddle.frontier ≤ led_to slot goal m
  led_least m = least_by (eqb m.pool (slot + 1)) m.puddle.frontier (goal m.ordinal)

  -- So a record that stays is on its way.
  pub led_stays : (m : Member) (now : Option Member) → Stays m now → MovesTo (led_in slot goal) m now
  led_stays m now is = stays_between m (led_to slot goal m) now (led_least m) is

  -- So is a record of the pool that was moved towards its goal.
  pub led_moved : (m : Member) (n : ℕ) (now : Option Member) → m.pool ≡ slot + 1 → m.puddle.frontier ≤ n → n ≤ goal m.ordinal → now ≡ Some (member_moved n m) → MovesTo (led_in slot goal) m now
  led_moved m n now own least most is =
      let far : led_to slot goal m ≡ max m.puddle.frontier (goal m.ordinal) = cond-true _ _ _ (eq-eqb m.pool (slot + 1) own) in
      record { frontier = n; least = least; most = omega (arith, far); is = is }

  on_by : (own : Bool) (f n g : ℕ) → n ≤ cond own (max f g) f → cond own (max n g) n ≤ cond own (max f g) f
  on_by true f n g most = omega arith
  on_by false f n g most = most

  -- A record that goes on does not go past its goal.
  led_on : (m : Member) (now : Option Member) → MovesTo (led_in slot goal) m now → GoesOn (MovesTo (led_in slot goal)) (MovesTo (led_in slot goal)) m now
  led_on m now so =
      record {
        then = member_moved so.frontier m;
        is = so.is;
        on = λ later more.
            let further = on_by (eqb m.pool (slot + 1)) m.puddle.frontier so.frontier (goal m.ordinal) so.most in
            let least = so.least in
            let from = more.least in
            let to = more.most in
            record { frontier = more.frontier; least = omega arith; most = omega arith; is = more.is };
      }

  pub Joins-led : Joins (MovesTo (led_in slot goal)) (MovesTo (led_in slot goal)) (MovesTo (led_in slot goal))
  Joins-led = record { early = λ m now so. so; late = led_on }

  -- A record that came so far and then stays has come so far.
  pub Joins-led_stays : Joins (MovesTo (led_in slot goal)) Stays (MovesTo (led_in slot goal))
  Joins-led_stays = record {
    early = λ m now so. so;
    late = λ m now so. record {
      then = member_moved so.frontier m;
      is = so.is;
      on = λ later stays. record { frontier = so.frontier; least = so.least; most = so.most; is = stays };
    };
  }

-- If the goals are further, each record is on its way to them too.
far_by : (own : Bool) (f n g h : ℕ) → g ≤ h → n ≤ cond own (max f g) f → n ≤ cond own (max f h) f
far_by true f n g h less most = omega arith
far_by false f n g h less most = most

pub led_further : (slot : ℕ) (goal far : ℕ → ℕ) → ((o : ℕ) → goal o ≤ far o) → (m : Member) (now : Option Member) → MovesTo (led_in slot goal) m now → MovesTo (led_in slot far) m now
led_further slot goal far less m now so =
    record { frontier = so.frontier; least = so.least; most = far_by (eqb m.pool (slot + 1)) m.puddle.frontier so.frontier (goal m.ordinal) (far m.ordinal) (less m.ordinal) so.most; is = so.is }

-- A fault that is not a power loss is a failure of the host.
pub failed_alone : (fault : HostFault) → (Some fault ≡ Some Cut → ⊥) → Some fault ≡ Some Failed
failed_alone Cut never_cut = absurd (never_cut refl)
failed_alone Failed never_cut = refl
