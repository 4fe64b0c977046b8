-- Events of paths, source records and lists of these are equal in at most one way.
use Rattle.std.proofs.Common.{List}
use base.Stored.{Coded-set, coded_list}
use Rattle.events.specs.contracts.event.Event as event
use Rattle.events.specs.declared.event.Event.{Event}
use Rattle.witness.specs.contracts.record.Source as source
use Rattle.witness.specs.declared.record.Source.{Source}

pub events_set : IsSet (List Event)
events_set = Coded-set (coded_list (event.the_row).coded)

pub sources_set : IsSet (List Source)
sources_set = Coded-set (coded_list (source.the_row).coded)

pub source_set : IsSet Source
source_set = Coded-set (source.the_row).coded
