pub mod LongerLinks
pub mod LongerParent
pub mod SymlinkPuts
pub mod LongerMoves
