pub mod Clocked
pub mod Commanded
pub mod Counted
pub mod Looking
pub mod PutLists
