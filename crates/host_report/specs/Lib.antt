pub mod Names
pub mod ReportRows
