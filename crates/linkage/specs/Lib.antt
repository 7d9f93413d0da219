-- Calls through the functions for C, those of `firmware`, which `firmware_c` exports.
pub mod Step
pub mod Through
