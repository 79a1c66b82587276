mod Left
mod Giving
mod Looks
mod Mends
