-- What proves the statements of specs/.
pub mod ClashHolds
pub mod Demand1Holds
pub mod ViewerHolds
pub mod EmptyChamberHolds
pub mod RefusalsHold
pub mod Earned
pub mod ProgramHolds
pub mod UnnamedHolds
pub mod Wrong
pub mod Determined
