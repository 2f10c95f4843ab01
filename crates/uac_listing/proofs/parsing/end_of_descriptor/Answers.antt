use Rattle.uac_listing.proofs.SourceParsingLemmas.{finished_by}
use Rattle.uac_listing.proofs.parsing.end_of_descriptor.Goals as goal

pub returns-in-Err : goal.returns-in-Err
returns-in-Err c = finished_by _ _ c.in-Err.ensures.stop
