pub mod Faults
pub mod SocketPaths
