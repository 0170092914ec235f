-- A run as the paper gives it: the state, who runs, and the step.
pub mod State
pub mod Sound
pub mod Places
pub mod Who
pub mod Step
pub mod Accepted
pub mod StateAfter
pub mod LogAfter
pub mod Shapes
