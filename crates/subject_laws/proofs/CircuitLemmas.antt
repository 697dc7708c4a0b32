-- Circuits that settle, and the small ones.
pub mod Arriving
pub mod CircuitSteps
pub mod ExampleCircuits
pub mod FunctionLaw
pub mod Leaves
pub mod Pins
pub mod Sends
pub mod SettledLaw
pub mod SmallPins
pub mod Starting
pub mod Timely
pub mod Values
