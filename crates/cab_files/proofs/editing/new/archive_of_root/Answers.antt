use Rattle.cab_files.proofs.NewRoots.{new_document, new_has_no_wholes}
use Rattle.cab_files.proofs.editing.new.archive_of_root.Goals as goal

pub of_parts-document-requires-clause-document : goal.of_parts-document-requires-clause-document
of_parts-document-requires-clause-document c = new_document _ _ c.node_of.ensures

pub of_parts-document-requires-clause-wholes : goal.of_parts-document-requires-clause-wholes
of_parts-document-requires-clause-wholes c = new_has_no_wholes _ _ c.node_of.ensures
