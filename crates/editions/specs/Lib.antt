pub mod Convert
pub mod Promise
