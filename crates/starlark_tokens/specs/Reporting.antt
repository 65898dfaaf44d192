-- Reports of texts and of whole runs, and what is counted.
pub mod Counts
pub mod FileReports
pub mod Progress
pub mod ReportStatus
pub mod ReportWrites
pub mod Reports
pub mod Totals
