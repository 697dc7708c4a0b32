-- What an event does in a network of queues, and the laws of servers and of order.
pub mod Cases
pub mod Leaves
pub mod LossesLaw
pub mod NetworkStarts
pub mod NetworkSteps
pub mod OrderLaw
pub mod PlainRuns
pub mod ServersLaw
pub mod SmallLosses
pub mod SmallShop
pub mod SmallTelling
pub mod SmallWays
pub mod TellingLaw
pub mod WaysLaw
