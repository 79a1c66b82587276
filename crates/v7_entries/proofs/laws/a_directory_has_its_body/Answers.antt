use Rattle.v7_entries.proofs.Directories.{weak_body, frame_slots}
use Rattle.v7_entries.proofs.laws.a_directory_has_its_body.Goals as goal

pub returns-clause-body : goal.returns-clause-body
returns-clause-body c image d weak dir = weak_body image d weak dir

pub returns-clause-slots : goal.returns-clause-slots
returns-clause-slots c image d = frame_slots image d
