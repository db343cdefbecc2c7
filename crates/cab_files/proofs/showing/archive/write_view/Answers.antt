use Rattle.cab_files.proofs.showing.archive.write_view.Goals as goal

pub returns-in-Text-clause-written : goal.returns-in-Text-clause-written
returns-in-Text-clause-written g c = rw c.in-Text.is c.write_document.ensures

pub returns-in-Map-clause-written : goal.returns-in-Map-clause-written
returns-in-Map-clause-written g c = rw c.in-Map.is c.write_checked_map.ensures
