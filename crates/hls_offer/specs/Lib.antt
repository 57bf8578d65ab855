pub mod Moments
pub mod Left
pub mod Spare
pub mod Told
pub mod Replies
pub mod Ends
pub mod Musts
pub mod Inside
