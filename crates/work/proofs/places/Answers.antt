-- `places`: a place for each location, or as many as `left_places` tells.
use mathlib.Core.Path.{sym, ap}
use lib.Dec.{ltb}
use Rattle.work.proofs.PlacesLemmas.{joined_places}
use Rattle.work.proofs.places.Goals as goal

pub returns-in-Union : goal.returns-in-Union
returns-in-Union c = let a = c.args in ap (ltb a.room) (sym (joined_places a.n a.locations.now c.in-Union.is))

pub returns-in-Difference : goal.returns-in-Difference
returns-in-Difference c = rw c.in-Difference.is c.left_places.ensures
