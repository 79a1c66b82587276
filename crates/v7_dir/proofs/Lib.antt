mod BadNames
pub mod Firsts
