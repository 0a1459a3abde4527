-- Request 12, by Pan Docs, "Accessing VRAM and OAM": when the CPU cannot reach a memory. The four locked calls go by this alone.
use Rattle.std.specs.Prelude.{ℕ, Bool, ◌&&◌, ◌||◌, eqb}
use Rattle.state.specs.With.{mode_of}
use Rattle.state.specs.declared.State.{State}
use Rattle.step.specs.Step.{lit}
use Rattle.locks.specs.declared.Memory.{Memory}
use Rattle.locks.specs.declared.Memory.TheVariants.{Vram, Oam}

-- the modes that close it: VRAM is drawn from in mode 3, OAM is searched in mode 2 and drawn from in mode 3
abbrev pub closed_in : Memory → ℕ → Bool
closed_in Vram mode = eqb mode 3
closed_in Oam mode = eqb mode 2 || eqb mode 3

-- closed: the display is on, in such a mode of STAT
abbrev pub closed : Memory → State → Bool
closed memory s = lit s && closed_in memory (mode_of s.regs.stat)
