use Rattle.search.proofs.Searches.{nearest_found, first_found}
use Rattle.search.proofs.searches_find_the_nearest_and_the_first.Goals as goal

pub returns : goal.returns
returns c = record { nearest = nearest_found; first = first_found }
