pub mod Printed
pub mod Valid
