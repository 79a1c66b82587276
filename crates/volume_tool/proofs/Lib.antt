mod Boards
mod Downs
mod Founds
mod Keeping
mod Lent
mod Repairs
mod Tellings
