pub mod Machines
pub mod Playing
pub mod Sequencers
pub mod States
