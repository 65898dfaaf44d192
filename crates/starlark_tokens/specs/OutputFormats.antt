-- How tokens, faults and whole reports are written in each format.
pub mod CharacterWidths
pub mod GithubLines
pub mod ItemLines
pub mod JsonStrings
pub mod PythonLiterals
pub mod ReportDocuments
pub mod SarifResults
pub mod SarifRules
pub mod ShownNames
pub mod SourceLines
pub mod Values
pub mod FailureReports
