pub mod Briefs
pub mod Endings
pub mod TextReads
pub mod CommandRuns
pub mod Findings
pub mod NotAccepted
pub mod OutByStatus
