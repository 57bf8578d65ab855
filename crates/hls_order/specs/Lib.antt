pub mod Order
pub mod Inside
