-- Request 12 in a run: a locked write is the unlocked one or none, by the state alone, and a locked read does nothing
-- (theorem `locks_hold`). The statements of Demand speak of every call, these four among them.
use Rattle.std.specs.Prelude.{ℕ, ◌≡◌, Bool, true, not, cond, ◌&&◌}
use Rattle.state.specs.declared.State.{State}
use Rattle.order.specs.Order.{in_order}
use Rattle.locks.specs.Closed.{closed}
use Rattle.locks.specs.declared.Memory.{Memory}
use Rattle.locks.specs.declared.Memory.TheVariants.{Vram, Oam}
use Rattle.history.specs.Run as run
use Rattle.history.specs.Run.{World, Call, locked_vram, locked_oam, read_vram, read_oam, ours, perform}
use Rattle.history.specs.Stored.{Trace, go}
use Rattle.history.specs.Demand.{EveryRun}

-- what a state lets through to a memory: a call by a state out of order is refused, and a closed memory takes nothing
abbrev pub lets : Memory → State → Bool
lets memory s = in_order s && not (closed memory s)

-- a locked write beside the old one in a run, where the state is always in order: the old one's number, closed or not; and "closed" alone
-- decides, of the world and of what is stored since
pub record InRun (memory : Memory) (locked old : Call) (t : Trace) : Type 0 where
  pub number : run.number locked t.world ≡ run.number old t.world
  pub goes : go (ours locked) t ≡ cond (closed memory t.world.state) t (go (ours old) t)

-- and on any world: the old one where the state lets it through, else none; and its number where the state is in order
pub record OldOrNone (memory : Memory) (locked old : Call) : Type 0 where
  pub performs : (w : World) → perform (ours locked) w ≡ cond (lets memory w.state) (perform (ours old) w) w
  pub number : (w : World) → in_order w.state ≡ true → run.number locked w ≡ run.number old w
  pub in_runs : EveryRun (InRun memory locked old)

-- a locked read
abbrev pub Looks : Call → Type 0
Looks c = (w : World) → perform (ours c) w ≡ w

pub record LocksHold : Type 0 where
  pub writes_vram : (address value : ℕ) → OldOrNone Vram (locked_vram address value) (run.vram address value)
  pub writes_oam : (address value : ℕ) → OldOrNone Oam (locked_oam address value) (run.oam address value)
  pub reads_vram : (address : ℕ) → Looks (read_vram address)
  pub reads_oam : (address : ℕ) → Looks (read_oam address)
