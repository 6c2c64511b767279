-- Figures and examples: what the definitions come to on given numbers. Each is computed by the checker, so that nothing here is believed.
pub mod Inputs
pub mod Figures
pub mod Examples
pub mod Fields
pub mod Pressing
pub mod Reported
pub mod Edges
pub mod Faults
pub mod Printed
