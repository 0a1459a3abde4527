-- `registers::write_register` meets its contract.
use native.Mathlib.Omega.{arith}
use Rattle.registers.proofs.Kept.{stat_kept}
use Rattle.registers.proofs.write_register.Goals as goal

pub write_state-requires : goal.write_state-requires
write_state-requires c =
    (c.requires, λ e. rw c.kept_bits.ensures (omega (arith, stat_kept c.args.address c.args.value e)))
