pub mod Text
pub mod Transcript
pub mod Faults
pub mod Records
pub mod Opened
pub mod Stages
pub mod Approvals
pub mod Steps
