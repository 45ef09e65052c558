pub mod Marks
pub mod Noting
pub mod Redirections
pub mod Rooms
pub mod Cascading
pub mod Losing
