-- What only the code of the client speaks of.
pub mod Exchanges
pub mod Talks
