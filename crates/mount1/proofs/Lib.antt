mod Rooms
mod Rows
