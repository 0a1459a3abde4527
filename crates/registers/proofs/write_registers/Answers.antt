-- `registers::write_registers` meets its contract.
use Rattle.registers.specs.Write.{registers_written}
use Rattle.registers.proofs.write_registers.Goals as goal

pub returns : goal.returns
unfolding registers_written
returns c =
    rw
    (c.replaced-11.ensures, c.replaced-10.ensures, c.replaced-9.ensures, c.replaced-8.ensures, c.replaced-7.ensures, c.replaced-6.ensures, c.replaced-5.ensures, c.replaced-4.ensures, c.replaced-3.ensures, c.replaced-2.ensures, c.stat_after.ensures, c.replaced.ensures)
