pub mod Failing
pub mod MarkLists
pub mod InodeTests
pub mod FrameInodes
pub mod SlotSectors
pub mod BodyPlaces
pub mod Ranges
pub mod Summing
pub mod ReadSlots
pub mod Walking
pub mod WalkSteps
pub mod Naming
pub mod SlotTests
pub mod HeldSteps
pub mod DirectoryTests
pub mod Supers
pub mod Passed
pub mod Tallying
pub mod TallyTests
pub mod TallyEnd
pub mod Noting
pub mod Deciding
pub mod Knowing
mod Modes
mod Keeping
mod FreeInodes
