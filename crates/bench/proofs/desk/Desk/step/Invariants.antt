-- The steps that are left.
use Rattle.bench.proofs.desk.Desk.step.Given as goal

abbrev pub decreases-loop-left : goal.decreases-loop-left
decreases-loop-left g l = l.left
