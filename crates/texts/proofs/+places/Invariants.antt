-- The measure is how many more places there may be.
use Rattle.texts.proofs.+places.Given as goal

abbrev pub decreases-places : goal.decreases-places
decreases-places l = l.more
