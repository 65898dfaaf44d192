-- Which files are read, and their texts.
pub mod FileNames
pub mod FolderPaths
pub mod GlobLaws
pub mod Globs
pub mod NameLists
pub mod SourceNames
pub mod UsedGlobs
