-- `quadtree::rank` meets its contract: of the location or of the Morton code.
use Rattle.quadtree.proofs.rank.Goals as goal

pub rank_of_location-requires : goal.rank_of_location-requires
rank_of_location-requires c = rw c.in-Location.is at c.requires

pub rank_of_morton-requires : goal.rank_of_morton-requires
rank_of_morton-requires c = rw c.in-Morton.is at c.requires

pub returns-in-Location : goal.returns-in-Location
returns-in-Location c = rw c.in-Location.is c.rank_of_location.ensures

pub returns-in-Morton : goal.returns-in-Morton
returns-in-Morton c = rw c.in-Morton.is c.rank_of_morton.ensures
