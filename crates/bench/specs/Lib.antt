-- One cycle of a run driven by fixed needs, as the caller sees it.
pub mod Course
pub mod Drive
