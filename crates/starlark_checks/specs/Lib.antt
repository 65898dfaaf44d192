pub mod CheckTexts
pub mod TokenRoles
pub mod OpenStack
pub mod MergeMarkers
pub mod Findings
pub mod NestedBrackets
pub mod Inner
