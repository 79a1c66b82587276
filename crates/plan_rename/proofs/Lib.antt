mod Row
mod Told
mod Finding
mod Outcomes
mod Planned
mod Lengthened
mod Slotted
