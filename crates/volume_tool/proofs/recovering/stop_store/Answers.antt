use Rattle.volume_tool.specs.Kept.{SameFiles}
use Rattle.volume_tool.proofs.Keeping.{chain_keeps, files_both, files_same, image_keeps, keeps_both}
use Rattle.volume_tool.proofs.recovering.stop_store.Goals as goal

pub returns-clause-keeps : goal.returns-clause-keeps
returns-clause-keeps g c =
    let s = g.S.Stable in
    let clocked = g.met.S.Stable.clocked in
    let written = c.write_chain.ensures in
    keeps_both s clocked SameFiles files_same files_both (chain_keeps s _ written.crash written.opens written.cause.later written.sectors) (image_keeps s clocked SameFiles files_same files_both c.go_down.ensures.keeps)
