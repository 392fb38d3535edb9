pub mod CalledFrom
pub mod Table
pub mod History
pub mod Tower
pub mod Runners
pub mod Told
